-- Links on the machine's cells: where each caller's links on a page are counted, and what links and unlinks make of them.
use Rattle.std.proofs.Common.{◌≡◌, ◌≢◌, ℕ, ◌+◌, ◌-◌, ◌*◌, ◌/◌, ◌<◌, ◌≤◌, ◌==◌, ◌&&◌, ◌||◌, length, true, Some, None, Option, is_some, if◌then◌else◌, slice_index, slice_index_or, slice_set, vec_len, refl, sym, ◌∙◌, ap, subst, arith, get_or-set_same, get_or-set_other}
use Rattle.std.proofs.lemmas.Bool.{eq-eqb, eqb-true}
use Rattle.std.proofs.lemmas.List.Sums.{sum-map}
use Rattle.std.proofs.lemmas.Nat.{div-mul-add, mul-add-lt}
use Rattle.eleos_base.specs.declared.memory.Addr.{Addr}
use Rattle.eleos_base.specs.declared.memory.Reply.{Reply}
use Rattle.eleos_base.specs.declared.memory.Reply.TheVariants.{Done}
use Rattle.eleos_base.specs.declared.plan.EnclavePlan.{EnclavePlan}
use Rattle.eleos_base.specs.declared.plan.Plan.{Plan}
use Rattle.eleos_base.specs.Plans.{IsCaller, IsGood}
use Rattle.eleos_base.specs.Ties.{Has}
use Rattle.eleos_core.specs.declared.cells.page.Page.{Page}
use Rattle.eleos_core.specs.declared.accesses.spots.Spot.{Spot}
use Rattle.eleos_core.specs.declared.cells.page.Present.{Present}
use Rattle.eleos_core.specs.declared.machine.Core.TheInside.{Inside}
use Rattle.std.proofs.lemmas.List.{get_or_read}
use Rattle.std.specs.Vec.{with_item}
use Rattle.eleos_core.specs.Accesses.{link_stamp, may_link, page_for, refusal_on, unlink_stamp}
use Rattle.eleos_core.specs.Applying.{Makes, parts_in}
use Rattle.eleos_core.specs.Cells.{Cells, frame_of_page, links_in}
use Rattle.eleos_core.specs.Parts.{after_at, foot, frame_in, page_after, subs_in}
use Rattle.eleos_base.specs.Places.{all_pages, page_of, sub_of}
use Rattle.eleos_core.specs.Seals.{Seals}
use Rattle.eleos_core.proofs.AccessParts.{legal_by, link-kept, refused_by}
use Rattle.eleos_core.proofs.Sets.{set_links}
use Rattle.eleos_core.proofs.Spots.{page_inside, range_is}
use Rattle.eleos_core.proofs.Tests.{both_of, by_test, first_of, second_of}
use Rattle.eleos_core.proofs.MachineAccesses.{refusal-refuses}
use Rattle.eleos_core.proofs.MachineCells.{makes-kept, touched}
use Rattle.eleos_core.proofs.Machines.{Holds, IsFound, IsThere, caller_there, page_there, page_within, refusal_there, view_of}

-- a machine has at most 4,096 pages
pub all_pages-le : (k : Plan) → IsGood k → all_pages k ≤ 4096
all_pages-le k good = subst (λ n. n ≤ 4096) (sym (sum-map (λ (made : EnclavePlan). made.pages) k.enclaves)) good.all_pages

-- no two counts stand at one place
apart : (a b n p q : ℕ) → p < n → q < n → a * n + p ≡ b * n + q → (a ≡ b) × (p ≡ q)
apart a b n p q small small' same =
    let rows : a ≡ b = sym (div-mul-add a n p small) ∙ (ap (λ z. z / n) same ∙ div-mul-add b n q small') in
    let columns : a * n + p ≡ a * n + q = same ∙ ap (λ z. z * n + q) (sym rows) in (rows, omega arith)

-- and each stands within the list
pub place_small : (k : Plan) (who p : ℕ) → IsCaller k who → p < all_pages k → (who - 1) * all_pages k + p < length k.callers * all_pages k
place_small k who p caller small =
    let from = caller.from_one in
    let to = caller.within in
    let row : who - 1 < length k.callers = omega arith in
    omega (arith, mul-add-lt (who - 1) (all_pages k) p (length k.callers) row small)

-- all counts after one is changed by f
pub links-changed : (m : Cells) (f : ℕ → ℕ) (who p v : ℕ) → IsCaller m.plan who → p < all_pages m.plan → length m.links ≡ length m.plan.callers * all_pages m.plan → v ≡ f (links_in m who p)
    → (by q : ℕ) → IsCaller m.plan by → q < all_pages m.plan
    → links_in (record m { links = slice_set m.links ((who - 1) * all_pages m.plan + p) v }) by q ≡ (if by == who && q == p then f (links_in m by q) else links_in m by q)
links-changed m f who p v caller small whole value by q caller' small' =
    let n : ℕ = all_pages m.plan in
    let i : ℕ = (who - 1) * n + p in
    let j : ℕ = (by - 1) * n + q in
    let inside : i < length m.links = (let place = place_small m.plan who p caller small in omega arith) in
    by_test (by == who && q == p) (λ b. slice_index (slice_set m.links i v) j ≡ (if b then f (links_in m by q) else links_in m by q))
    (λ yes_is. let same_by : by ≡ who = eqb-true by who (first_of (by == who) (q == p) yes_is) in
    let same_q : q ≡ p = eqb-true q p (second_of (by == who) (q == p) yes_is) in
    let same : j ≡ i = (λ t. (same_by t - 1) * n + same_q t) in
    ap (slice_index (slice_set m.links i v)) same ∙ (get_or-set_same m.links i v 0 inside ∙ (value ∙ ap (λ z. f (slice_index m.links z)) (sym same))))
    (λ no_is. let differ : j ≢ i = (λ same. let one = apart (by - 1) (who - 1) n q p small' small same in
    let from = caller.from_one in let from' = caller'.from_one in
    let rows = one.0 in
    let same_by : by ≡ who = omega arith in
    let both : (by == who && q == p) ≡ true = both_of (by == who) (q == p) (eq-eqb by who same_by) (eq-eqb q p one.1) in cc) in
    get_or-set_other m.links i j v 0 differ)

-- a link of a page that is found may be made where the page is in a frame
pub may_link-found : (s : Inside) (m : Cells) (view : view_of s ≡ m) (who : ℕ) (at : Addr) (spot : Spot) (page : Page) → IsFound s who at 1 spot page → refusal_on m who at 1 ≡ None
    → may_link m who at ≡ is_some page.present
may_link-found s m view who at spot page f accepted = subst (λ (c : Cells). may_link c who at ≡ is_some page.present) view
    (ap (λ o. is_some o || is_some (frame_in (page_for (view_of s) at))) (refusal_there s m view who at 1 None accepted) ∙ (ap (λ q. is_some (frame_in q)) f.part ∙ framed page.present))
  where
    framed : (present : Option Present) → is_some (frame_of_page present) ≡ is_some present
    framed None = refl
    framed (Some p) = refl

-- what a link makes of the cells that a core is seen as
module _ (s : Inside) (m : Cells) (view : view_of s ≡ m) (core : Holds s) (x : Seals) (who : ℕ) (is_caller : IsCaller m.plan who) where
  abbrev k : Plan
  k = s.plan

  abbrev old : Cells
  old = view_of s

  caller : IsCaller k who
  caller = caller_there s m view who is_caller

  -- the cell of the page of an address that a link touches is left as it was
  link_touched : (at : Addr) (reply : Reply) (c : ℕ) → Has c (foot k (link_stamp who at reply)) → parts_in old c ≡ after_at k x (link_stamp who at reply) (parts_in old) c
  link_touched at reply = touched k x (link_stamp who at reply) (parts_in old) who at 1 refl (λ range. page_inside k who at 1 core.good caller (range_is k who at 1 range))
      (λ range. let there = page_there s who at 1 core caller range in
      subst (λ q. q ≡ page_after k x (link_stamp who at reply) (page_of k (sub_of k at)) (frame_in q) (subs_in q)) (sym there.1) (link-kept k x who at there.0 reply (page_of k (sub_of k at))))

  -- a refused link
  pub link-refused : (at : Addr) (reply : Reply) → refusal_on m who at 1 ≡ Some reply → Makes x (link_stamp who at reply) m m
  link-refused at reply refused = subst (λ (c : Cells). refusal_on c who at 1 ≡ Some reply → Makes x (link_stamp who at reply) c c) view made refused
    where
      made : refusal_on old who at 1 ≡ Some reply → Makes x (link_stamp who at reply) old old
      made no_is = makes-kept x (link_stamp who at reply) old old refl (λ c. refl)
          (record { within = caller; on_parts = refused_by (refusal_on old who at 1) reply _ _ no_is (record { reply_is = refl; no_block = refl }) })
          (link_touched at reply)
          (λ by q h small. sym (ap (λ a. if a && by == who && q == page_of k (sub_of k at) then links_in old by q + 1 else links_in old by q)
          (refusal-refuses k who at 1 (page_for old at) reply no_is)))

  -- where the caller's links on the page of the address stand
  pub link_index : (p i : ℕ) → p < all_pages k → i ≡ (who - 1) * vec_len s.pages + p → (i ≡ (who - 1) * all_pages k + p) × (i < length s.links.items) × (i < vec_len s.links)
  link_index p i small is =
      let place : i ≡ (who - 1) * all_pages k + p = is ∙ ap (λ n. (who - 1) * n + p) (s.pages.ok.0 ∙ core.pages_are) in
      let within = place_small k who p caller small in
      let all = core.links_are in
      let long = s.links.ok.0 in (place, omega arith, omega arith)

  -- and how many they are
  pub link_count_at : (at : Addr) (spot : Spot) → IsThere s who at 1 spot → (i v : ℕ) → i ≡ (who - 1) * vec_len s.pages + spot.page → v ≡ slice_index_or s.links.items i v
      → v ≡ links_in m who (page_of m.plan (sub_of m.plan at))
  link_count_at at spot t i v is value =
      let small : spot.page < all_pages k = subst (λ q. q < all_pages k) (sym t.is.page) (page_within s who at 1 spot t) in
      let index = link_index spot.page i small is in
      subst (λ (c : Cells). v ≡ links_in c who (page_of c.plan (sub_of c.plan at))) view
      (get_or_read s.links.items i v index.1 value 0 ∙ (ap (slice_index s.links.items) index.0 ∙ ap (links_in old who) t.is.page))

  -- a link that is not refused
  link_done : (at : Addr) (spot : Spot) (p i v : ℕ) → p ≡ page_of k (sub_of k at) → IsThere s who at 1 spot → refusal_on old who at 1 ≡ None → may_link old who at ≡ true → i ≡ (who - 1) * vec_len s.pages + p
      → v ≡ slice_index_or s.links.items i v → Makes x (link_stamp who at Done) old (record old { links = slice_set s.links.items i (v + 1) })
  link_done at spot p i v page t none may is value =
      let small : p < all_pages k = subst (λ q. q < all_pages k) (sym page) (page_within s who at 1 spot t) in
      let index = link_index p i small is in
      let here : is_some (frame_in (page_for old at)) ≡ true = sym (ap (λ o. is_some o || is_some (frame_in (page_for old at))) none) ∙ may in
      let count : v ≡ links_in old who p = get_or_read s.links.items i v index.1 value 0 ∙ ap (slice_index s.links.items) index.0 in
      let changed = links-changed old (λ n. n + 1) who p (v + 1) caller small core.links_are (ap (λ n. n + 1) count) in
      subst (λ j. Makes x (link_stamp who at Done) old (record old { links = slice_set s.links.items j (v + 1) })) (sym index.0)
      (makes-kept x (link_stamp who at Done) old (record old { links = slice_set s.links.items ((who - 1) * all_pages k + p) (v + 1) }) refl (set_links old (slice_set s.links.items ((who - 1) * all_pages k + p) (v + 1)))
      (record { within = caller; on_parts = legal_by (refusal_on old who at 1) _ _ none (here, record { reply_is = refl; no_block = refl }) })
      (link_touched at Done)
      (λ by q h less. changed by q h less ∙ ap (λ z. if by == who && q == z then links_in old by q + 1 else links_in old by q) page))

  -- in memory it makes the caller's count of links on that page one more
  pub link-made : (at : Addr) (spot : Spot) (i v : ℕ) → IsThere s who at 1 spot → refusal_on m who at 1 ≡ None → may_link m who at ≡ true → i ≡ (who - 1) * vec_len s.pages + spot.page
      → v ≡ slice_index_or s.links.items i v → Makes x (link_stamp who at Done) m (view_of (record s { links = with_item s.links i (v + 1) }))
  link-made at spot i v t accepted may is value =
      subst (λ (c : Cells). refusal_on c who at 1 ≡ None → may_link c who at ≡ true → Makes x (link_stamp who at Done) c (record old { links = slice_set s.links.items i (v + 1) })) view
      (λ none may_is. link_done at spot spot.page i v t.is.page t none may_is is value) accepted may

  -- an unlink
  pub unlink-made : (p i v : ℕ) → p < all_pages m.plan → i ≡ (who - 1) * vec_len s.pages + p → v ≡ slice_index_or s.links.items i v
      → Makes x (unlink_stamp who p Done) m (view_of (record s { links = with_item s.links i (v - 1) }))
  unlink-made p i v small_is is value =
      let small : p < all_pages k = subst (λ (c : Cells). p < all_pages c.plan) (sym view) small_is in
      let index = link_index p i small is in
      let count : v ≡ links_in old who p = get_or_read s.links.items i v index.1 value 0 ∙ ap (slice_index s.links.items) index.0 in
      subst (λ (c : Cells). Makes x (unlink_stamp who p Done) c (record old { links = slice_set s.links.items i (v - 1) })) view
      (subst (λ j. Makes x (unlink_stamp who p Done) old (record old { links = slice_set s.links.items j (v - 1) })) (sym index.0)
      (makes-kept x (unlink_stamp who p Done) old (record old { links = slice_set s.links.items ((who - 1) * all_pages k + p) (v - 1) }) refl (set_links old (slice_set s.links.items ((who - 1) * all_pages k + p) (v - 1)))
      (record { within = (caller, small); on_parts = record { reply_is = refl; no_block = refl } })
      (λ c none. absurd none)
      (links-changed old (λ n. n - 1) who p (v - 1) caller small core.links_are (ap (λ n. n - 1) count))))
