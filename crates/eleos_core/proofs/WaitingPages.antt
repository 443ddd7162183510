-- The pages of what waits: whether they are in a frame, and whose frames they may take.
use Rattle.std.proofs.Common.{◌≡◌, ℕ, zero, suc, ◌+◌, ◌-◌, ◌*◌, ◌/◌, ◌<◌, ◌≤◌, List, [], ◌∷◌, length, take, sum, Some, None, is_some, option_map, slice_index, slice_index_or, Bool, true, false, if◌then◌else◌, refl, sym, ◌∙◌, ap, subst, arith}
use Rattle.std.proofs.lemmas.Bool.{le-ltb, lt-ltb}
use Rattle.std.proofs.lemmas.List.{get_or-map, length-map, take_all}
use Rattle.std.proofs.lemmas.List.Sums.{sum_by-cons}
use Rattle.eleos_base.specs.declared.memory.Addr.{Addr}
use Rattle.eleos_base.specs.declared.memory.Live.{Live}
use Rattle.eleos_base.specs.declared.memory.Looked.{Looked}
use Rattle.eleos_base.specs.declared.memory.Op.TheVariants.{Read, Write}
use Rattle.eleos_base.specs.declared.plan.EnclavePlan.{EnclavePlan}
use Rattle.eleos_base.specs.declared.plan.Plan.{Plan}
use Rattle.eleos_base.specs.Plans.{IsCaller, IsGood, enclave_of}
use Rattle.eleos_core.specs.declared.accesses.spots.Spot.{Spot}
use Rattle.eleos_core.specs.declared.cells.frame.Frame.{Frame}
use Rattle.eleos_core.specs.declared.cells.page.Page.{Page}
use Rattle.eleos_core.specs.declared.event.Wanted.{Wanted}
use Rattle.eleos_core.specs.declared.event.Wanted.TheVariants.{Link as ALink, Op as ACall}
use Rattle.eleos_core.specs.Accesses.{IsSpot, page_for}
use Rattle.eleos_core.specs.Applying.{parts_in}
use Rattle.eleos_core.specs.Cells.{Cells, IsCore, cells_of, part_in, part_of_frame, part_of_page}
use Rattle.eleos_core.specs.Legal.{NeedsFrame}
use Rattle.eleos_core.specs.Fills.{sealed_places}
use Rattle.eleos_core.specs.Parts.{Part, block_at, frame_in, no_part, page_cell, sealed_from, subs_in, wanted_refusal_in}
use Rattle.eleos_base.specs.Places.{all_pages, home_of, page_counts, page_of, sub_of}
use Rattle.eleos_core.specs.Quiet.{IsStarving, IsWaiting, MayWait, frames_of_owner, wanted_frames}
use Rattle.eleos_base.specs.Runs.{first_of_run, run_with}
use Rattle.eleos_core.specs.State.{address_of}
use Rattle.eleos_core.specs.Sweeps.{IsTaken}
use Rattle.eleos_core.proofs.AccessParts.{accepted_range}
use Rattle.eleos_core.proofs.QuietEvents.{owned, some_item}
use Rattle.eleos_core.proofs.Sets.{by_number, page_at}
use Rattle.eleos_core.proofs.Spots.{IsInRange, at_home, range_is}

-- the run that has a number
run_has : (counts : List ℕ) (e p : ℕ) → e < length counts → first_of_run counts e ≤ p → p < first_of_run counts e + slice_index counts e → run_with counts p ≡ Some e
run_has [] e p inside low high = absurd (omega arith)
run_has (n ∷ counts) zero p inside low high = let below : p < n = omega arith in
    ap (λ b. if b then Some 0 else option_map suc (run_with counts (p - n))) (lt-ltb p n below)
run_has (n ∷ counts) (suc e) p inside low high =
    let first : first_of_run (n ∷ counts) (suc e) ≡ n + first_of_run counts e = sum_by-cons (λ (z : ℕ). z) n (take e counts) in
    let above : n ≤ p = omega arith in
    let rest : run_with counts (p - n) ≡ Some e = run_has counts e (p - n) (omega arith) (omega arith) (omega arith) in
    ap (λ b. if b then Some 0 else option_map suc (run_with counts (p - n))) (le-ltb p n above) ∙ ap (option_map suc) rest

page_low : (first count t n : ℕ) → 1 ≤ n → t + n ≤ 1024 * (4096 * count / 1024) → first ≤ (first * 4 + t / 1024) / 4
page_low first count t n some inside = omega arith

page_high : (first count t n : ℕ) → 1 ≤ n → t + n ≤ 1024 * (4096 * count / 1024) → (first * 4 + t / 1024) / 4 < first + count
page_high first count t n some inside = omega arith

-- the page of an address in range is the caller's enclave's
home_there : (k : Plan) (who : ℕ) (at : Addr) (n : ℕ) → IsGood k → IsCaller k who → IsInRange k who at n → home_of k (page_of k (sub_of k at)) ≡ Some (enclave_of k who)
home_there k who at n good caller range =
    let e : ℕ = enclave_of k who in
    let counts : List ℕ = page_counts k in
    let small : e < length counts = (let home = at_home k who good caller in omega (arith, length-map k.enclaves (λ (made : EnclavePlan). made.pages))) in
    subst (λ home. run_with counts ((first_of_run counts home * 4 + at.at / 1024) / 4) ≡ Some e) (sym range.enclave)
    (run_has counts e ((first_of_run counts e * 4 + at.at / 1024) / 4) small (page_low (first_of_run counts e) (slice_index counts e) at.at n range.some range.in_all)
    (page_high (first_of_run counts e) (slice_index counts e) at.at n range.some range.in_all))

-- and so is that of what needs a frame and is not refused
home_is : (k : Plan) (who : ℕ) (wanted : Wanted) (q : Part) → IsGood k → IsCaller k who → NeedsFrame wanted → wanted_refusal_in k who wanted (block_at k q (address_of wanted)) ≡ None
    → home_of k (page_of k (sub_of k (address_of wanted))) ≡ Some (enclave_of k who)
home_is k who (ALink at) q good caller needs accepted = home_there k who at 1 good caller (range_is k who at 1 (accepted_range k who at 1 q accepted))
home_is k who (ACall (Read at n)) q good caller needs accepted = home_there k who at n good caller (range_is k who at n (accepted_range k who at n q accepted))
home_is k who (ACall (Write at bytes)) q good caller needs accepted = home_there k who at (length bytes) good caller (range_is k who at (length bytes) (accepted_range k who at (length bytes) q accepted))
home_is k who _ q good caller needs accepted = absurd needs

-- an address beyond the enclaves has no page
pub beyond : (k : Plan) (at : Addr) → length k.enclaves ≤ at.enclave → all_pages k ≤ page_of k (sub_of k at)
beyond k at out =
    let counts : List ℕ = page_counts k in
    let long : length counts ≤ at.enclave = omega (arith, length-map k.enclaves (λ (made : EnclavePlan). made.pages)) in
    let all : first_of_run counts at.enclave ≡ sum counts = ap sum (take_all at.enclave counts long) in omega arith

module _ (k : Plan) (live : List (List Live)) (clocks : List (List ℕ)) (pages : List Page) (frames : List Frame) (links : List ℕ) (core : IsCore k live clocks pages frames links) where
  abbrev cells : Cells
  cells = cells_of k live clocks pages frames links

  -- what is no page of the machine is in no frame
  no_page : (p : ℕ) → all_pages k ≤ p → frame_in (parts_in cells (page_cell k p)) ≡ None
  no_page p out = by_number k (λ cell. frame_in (part_in cells cell) ≡ None) (page_cell k p)
      (λ h. refl)
      (λ e h is. refl)
      (λ is. refl)
      (λ q h is. absurd (omega arith))
      (λ f h is. let small : f < length frames = (let all = core.frames_are in omega arith) in
      ap frame_in (get_or-map part_of_frame frames f (some_item frames f small) no_part small))
      (λ h. refl)

  -- so the page of an address beyond the machine's pages is in no frame
  pub absent_beyond : (at : Addr) → all_pages k ≤ page_of k (sub_of k at) → false ≡ is_some (frame_in (page_for cells at))
  absent_beyond at out = sym (ap is_some (no_page (page_of k (sub_of k at)) out))

  -- nor has it sub-pages
  no_subs : (p : ℕ) → all_pages k ≤ p → subs_in (parts_in cells (page_cell k p)) ≡ []
  no_subs p out = by_number k (λ cell. subs_in (part_in cells cell) ≡ []) (page_cell k p)
      (λ h. refl)
      (λ e h is. refl)
      (λ is. refl)
      (λ q h is. absurd (omega arith))
      (λ f h is. let small : f < length frames = (let all = core.frames_are in omega arith) in
      ap subs_in (get_or-map part_of_frame frames f (some_item frames f small) no_part small))
      (λ h. refl)

  -- so the page of such an address takes no block
  pub unsealed_beyond : (at : Addr) → all_pages k ≤ page_of k (sub_of k at) → [] ≡ sealed_places (page_of k (sub_of k at)) (page_for cells at)
  unsealed_beyond at out = sym (ap (sealed_from (page_of k (sub_of k at) * 4)) (no_subs (page_of k (sub_of k at)) out))

  -- the part of the page of an address
  pub page_for-there : (at : Addr) (spot : Spot) (page : Page) → IsSpot k at spot → spot.page < length pages → page ≡ slice_index_or pages spot.page page → page_for cells at ≡ part_of_page page
  page_for-there at spot page is small value =
      let p : ℕ = page_of k (sub_of k at) in
      let here : spot.page ≡ p = is.page in
      let inside : p < all_pages k = (let all = core.pages_are in omega arith) in
      page_at cells p inside ∙ (get_or-map part_of_page pages p page no_part (omega arith) ∙ ap part_of_page (ap (λ i. slice_index_or pages i page) (sym here) ∙ sym value))

  -- the frames that what waits may take
  wanted_frames-are : (who : ℕ) (wanted : Wanted) (own : List ℕ) → IsCaller k who → MayWait cells who wanted → own ≡ slice_index_or clocks (enclave_of k who) own → own ≡ wanted_frames cells wanted
  wanted_frames-are who wanted own caller may is =
      owned k live clocks pages frames links core (Some (enclave_of k who)) own (at_home k who core.good caller) is
      ∙ ap (frames_of_owner cells) (sym (home_is k who wanted (page_for cells (address_of wanted)) core.good caller may.needs may.not_refused))

  -- whether what waits is starving, by the test of its frames
  pub starving_decides : (who : ℕ) (wanted : Wanted) (sweep : List Looked) (own : List ℕ) (r : Bool) → IsCaller k who → own ≡ slice_index_or clocks (enclave_of k who) own → IsWaiting cells who wanted
      → (r ≡ true → IsTaken sweep own) × (IsTaken sweep own → r ≡ true) → (r ≡ true → IsStarving cells who wanted sweep) × (IsStarving cells who wanted sweep → r ≡ true)
  starving_decides who wanted sweep own r caller is waiting decides =
      let same : own ≡ wanted_frames cells wanted = wanted_frames-are who wanted own caller waiting.may is in (
        (λ yes. record { waiting = waiting; taken = subst (IsTaken sweep) same (decides.0 yes) }),
        (λ starving. decides.1 (subst (IsTaken sweep) (sym same) starving.taken)),
      )
