-- What waits is refused: for want of a frame, and where a block of its page does not pass.
use Rattle.std.proofs.Common.{◌≡◌, ℕ, ◌<◌, ◌≤◌, List, [], length, take, Option, Some, None, IfNone, slice_index_or, refl, sym, ◌∙◌, ap, subst, arith}
use Rattle.std.proofs.Common.{inl, inr}
use Rattle.std.proofs.Math.Seq.{take-length}
use Rattle.std.proofs.lemmas.Bool.{cases_lt}
use Rattle.eleos_base.specs.declared.memory.Addr.{Addr}
use Rattle.eleos_base.specs.declared.memory.Live.{Live}
use Rattle.eleos_base.specs.declared.memory.Looked.{Looked}
use Rattle.eleos_base.specs.declared.memory.Reply.{Reply}
use Rattle.eleos_base.specs.declared.memory.Reply.TheVariants.{Done, NoFrame, Tampered}
use Rattle.eleos_base.specs.declared.plan.Plan.{Plan}
use Rattle.eleos_base.specs.Plans.{IsCaller}
use Rattle.eleos_core.specs.declared.accesses.spots.Spot.{Spot}
use Rattle.eleos_core.specs.declared.cells.frame.Frame.{Frame}
use Rattle.eleos_core.specs.declared.cells.page.Page.{Page}
use Rattle.eleos_core.specs.declared.cells.page.Present.{Present}
use Rattle.eleos_core.specs.declared.cells.sub_page.SubPage.{SubPage}
use Rattle.eleos_core.specs.declared.event.Event.TheVariants.{Starved, Spoiled as SpoiledPage}
use Rattle.eleos_core.specs.declared.event.Wanted.{Wanted}
use Rattle.eleos_core.specs.declared.fills.opening.Spoiled.{Spoiled}
use Rattle.eleos_core.specs.Accesses.{IsSpot}
use Rattle.eleos_core.specs.Applying.{Makes}
use Rattle.eleos_core.specs.Cells.{Cells, IsCore, cells_of, frame_of_page, sub_parts}
use Rattle.eleos_core.specs.Fills.{AreFit, IsJudged, absent_page, sealed_places}
use Rattle.eleos_core.specs.Legal.{ByBlocks, Judged, failed, passed, unfit}
use Rattle.eleos_core.specs.Parts.{Part, frame_in, page_part, verdict_in}
use Rattle.eleos_base.specs.Places.{all_pages, page_of, sub_of}
use Rattle.eleos_core.specs.Quiet.{AllPass, IsSpoiledAt, IsStarving, IsWaiting, spoiled_stamp, starved_stamp, wanted_page, wanted_part, wanted_places, wanted_verdict}
use Rattle.eleos_core.specs.Seals.{Seals}
use Rattle.eleos_core.specs.State.{address_of}
use Rattle.eleos_core.proofs.QuietEvents.{quiet_makes}
use Rattle.eleos_core.proofs.WaitingPages.{beyond, page_for-there}

-- the enclave of an address that has a page
enclave_there : (k : Plan) (at : Addr) → page_of k (sub_of k at) < all_pages k → at.enclave < length k.enclaves
enclave_there k at inside = elim (cases_lt at.enclave (length k.enclaves)) [ inl small ↦ small | inr out ↦ (let past : all_pages k ≤ page_of k (sub_of k at) = beyond k at out in absurd (omega arith)) ]

-- what follows where nothing was found
pub none_then : {A : Type 0} (o : Option A) (P Q : Type 0) → (P → Q) → IfNone o P → IfNone o Q
none_then None P Q from holds = from holds
none_then (Some a) P Q from holds = holds

-- a page in no frame
absent_is : (us : List SubPage) (present : Option Present) → frame_of_page present ≡ None → page_part (frame_of_page present) (sub_parts us present) ≡ absent_page us
absent_is us None none = refl
absent_is us (Some present) none = absurd (cc)

-- the verdict that a reply tells
by_tampered : (j : Judged) (s : ℕ) → ByBlocks j Done (Tampered s) → j ≡ failed s
by_tampered passed s told = absurd (cc)
by_tampered (failed t) s told = cc
by_tampered unfit s told = absurd told

by_done : (j : Judged) → ByBlocks j Done Done → j ≡ passed
by_done passed told = refl
by_done (failed t) told = absurd (cc)
by_done unfit told = absurd told

module _ (k : Plan) (live : List (List Live)) (clocks : List (List ℕ)) (pages : List Page) (frames : List Frame) (links : List ℕ) (core : IsCore k live clocks pages frames links) where
  abbrev cells : Cells
  cells = cells_of k live clocks pages frames links

  -- the refusal for want of a frame
  pub starved_makes : (x : Seals) (who : ℕ) (wanted : Wanted) (sweep : List Looked) → IsCaller k who → IsStarving cells who wanted sweep → Makes x (starved_stamp who wanted sweep (NoFrame sweep)) cells cells
  starved_makes x who wanted sweep caller starving = quiet_makes k live clocks pages frames links core x who (Starved wanted sweep) [] (NoFrame sweep) 0 tt (record {
    within = (caller, starving.waiting.may.needs);
    on_parts = (record { not_refused = starving.waiting.may.not_refused; absent = starving.waiting.absent }, starving.taken, record { reply_is = refl; no_block = refl });
  })

  -- the refusal for a block that does not pass
  spoiled_makes : (x : Seals) (who : ℕ) (wanted : Wanted) (given : List (List ℕ)) (found : Spoiled) → IsCaller k who → IsWaiting cells who wanted → IsSpoiledAt cells x wanted given found
      → Makes x (spoiled_stamp who wanted (take found.used given) (Tampered found.place)) cells cells
  spoiled_makes x who wanted given found caller waiting spoiled = quiet_makes k live clocks pages frames links core x who (SpoiledPage wanted) (take found.used given) (Tampered found.place) 0 tt (record {
    within = (caller, waiting.may.needs);
    on_parts = (record { not_refused = waiting.may.not_refused; absent = waiting.absent }, found.place, spoiled.fails, refl);
  })

  module _ (wanted : Wanted) (spot : Spot) (page : Page) (is : IsSpot k (address_of wanted) spot) (inside : wanted_page cells wanted < all_pages k) (absent : frame_in (wanted_part cells wanted) ≡ None)
      (value : page ≡ slice_index_or pages spot.page page) where
    page_small : spot.page < length pages
    page_small = let here = is.page in let all = core.pages_are in omega arith

    -- the page of what is wanted has no bytes
    part_is : wanted_part cells wanted ≡ absent_page page.subs.items
    part_is = let there : wanted_part cells wanted ≡ page_part (frame_of_page page.present) (sub_parts page.subs.items page.present) = page_for-there k live clocks pages frames links core (address_of wanted) spot page is page_small value in
        there ∙ absent_is page.subs.items page.present (sym (ap frame_in there) ∙ absent)

    fit_there : (given : List (List ℕ)) → AreFit (wanted_places cells wanted) given → AreFit (sealed_places spot.page (absent_page page.subs.items)) given
    fit_there given fit = subst (λ ps. AreFit ps given) (λ i. sealed_places (sym is.page i) (part_is i)) fit

    judged_there : (x : Seals) (given : List (List ℕ)) (count : ℕ) (reply : Reply) → IsJudged k x spot.page (absent_page page.subs.items) given count reply → IsJudged k x (wanted_page cells wanted) (wanted_part cells wanted) given count reply
    judged_there x given count reply judged = subst (λ (z : ℕ × Part). IsJudged k x z.0 z.1 given count reply) (λ i. (is.page i, sym part_is i)) judged

    -- what the blocks tell
    spoiled_at : (x : Seals) (given : List (List ℕ)) (found : Spoiled) → IsJudged k x spot.page (absent_page page.subs.items) given found.used (Tampered found.place) → IsSpoiledAt cells x wanted given found
    spoiled_at x given found judged = let there : IsJudged k x (wanted_page cells wanted) (wanted_part cells wanted) given found.used (Tampered found.place) = judged_there x given found.used (Tampered found.place) judged in
        record { used_are = there.used_are; fails = by_tampered (verdict_in k x (SpoiledPage wanted) (take found.used given) (wanted_part cells wanted)) found.place there.reply_by }

    all_passed : (x : Seals) (given : List (List ℕ)) → IsJudged k x spot.page (absent_page page.subs.items) given (length given) Done → AllPass cells x wanted given
    all_passed x given judged = let there : IsJudged k x (wanted_page cells wanted) (wanted_part cells wanted) given (length given) Done = judged_there x given (length given) Done judged in record {
      used_are = sym there.used_are ∙ take-length given;
      pass = ap (wanted_verdict cells x wanted) (sym (take-length given)) ∙ by_done (wanted_verdict cells x wanted (take (length given) given)) there.reply_by;
    }

  -- the same by the cells as they are seen, and by the sub-pages as they were read
  module _ (m : Cells) (view : cells ≡ m) (wanted : Wanted) (at : Addr) (at_is : at ≡ address_of wanted) (spot : Spot) (page : Page) (us : List SubPage) (us_are : us ≡ page.subs.items) (is : IsSpot k at spot)
      (inside : wanted_page m wanted < all_pages m.plan) (absent : frame_in (wanted_part m wanted) ≡ None) (value : page ≡ slice_index_or pages spot.page page) where
    spot_is : IsSpot k (address_of wanted) spot
    spot_is = subst (λ z. IsSpot k z spot) at_is is

    inside_there : wanted_page cells wanted < all_pages k
    inside_there = subst (λ (z : Cells). wanted_page z wanted < all_pages z.plan) (sym view) inside

    absent_there : frame_in (wanted_part cells wanted) ≡ None
    absent_there = subst (λ (z : Cells). frame_in (wanted_part z wanted) ≡ None) (sym view) absent

    pub enclave_in : at.enclave < length k.enclaves
    enclave_in = subst (λ (z : Addr). z.enclave < length k.enclaves) (sym at_is) (enclave_there k (address_of wanted) inside_there)

    -- its page is one of the pages in memory
    pub page_in : spot.page < length pages
    page_in = page_small wanted spot page spot_is inside_there absent_there value

    -- blocks that came for its page came for those sub-pages
    pub fit_in : (given : List (List ℕ)) → AreFit (wanted_places m wanted) given → AreFit (sealed_places spot.page (absent_page us)) given
    fit_in given fit = subst (λ z. AreFit (sealed_places spot.page (absent_page z)) given) (sym us_are)
        (fit_there wanted spot page spot_is inside_there absent_there value given (subst (λ (z : Cells). AreFit (wanted_places z wanted) given) (sym view) fit))

    judged_in : (x : Seals) (given : List (List ℕ)) (count : ℕ) (reply : Reply) → IsJudged k x spot.page (absent_page us) given count reply → IsJudged k x spot.page (absent_page page.subs.items) given count reply
    judged_in x given count reply judged = subst (λ z. IsJudged k x spot.page (absent_page z) given count reply) us_are judged

    -- where they are judged Tampered its page is spoiled at that place
    pub spoiled_in : (x : Seals) (given : List (List ℕ)) (found : Spoiled) → IsJudged k x spot.page (absent_page us) given found.used (Tampered found.place) → IsSpoiledAt m x wanted given found
    spoiled_in x given found judged = subst (λ (z : Cells). IsSpoiledAt z x wanted given found) view
        (spoiled_at wanted spot page spot_is inside_there absent_there value x given found (judged_in x given found.used (Tampered found.place) judged))

    -- and where they are judged Done all of them pass
    pub passed_in : (x : Seals) (given : List (List ℕ)) → IsJudged k x spot.page (absent_page us) given (length given) Done → AllPass m x wanted given
    passed_in x given judged = subst (λ (z : Cells). AllPass z x wanted given) view
        (all_passed wanted spot page spot_is inside_there absent_there value x given (judged_in x given (length given) Done judged))

    -- the refusal by such a block is an entry that leaves the cells as they are
    pub makes_in : (x : Seals) (given : List (List ℕ)) (found : Spoiled) (who : ℕ) → IsCaller m.plan who → IsWaiting m who wanted → IsSpoiledAt m x wanted given found
        → Makes x (spoiled_stamp who wanted (take found.used given) (Tampered found.place)) m m
    makes_in x given found who caller waiting spoiled = subst (λ (z : Cells). Makes x (spoiled_stamp who wanted (take found.used given) (Tampered found.place)) z z) view
        (spoiled_makes x who wanted given found (subst (λ (z : Cells). IsCaller z.plan who) (sym view) caller) (subst (λ (z : Cells). IsWaiting z who wanted) (sym view) waiting)
        (subst (λ (z : Cells). IsSpoiledAt z x wanted given found) (sym view) spoiled))
