-- A fill over a tap: one sub-page more, whose block comes into the next slot.
use Rattle.std.proofs.Common.{◌≡◌, ℕ, ◌+◌, ◌-◌, ◌*◌, ◌<◌, ◌≤◌, List, [], ◌++◌, length, drop, get_or, true, false, is_some, Option, Some, None, IfNone, refl, sym, ◌∙◌, ap, subst, arith}
use borrow.Rule.Slice.PartMut.{put_mid}
use Rattle.eleos_base.specs.declared.plan.Plan.{Plan}
use Rattle.eleos_core.specs.declared.cells.sub_page.SubPage.{SubPage}
use Rattle.eleos_core.specs.Accesses.{IsOpened, block_places, judged_sub}
use Rattle.eleos_core.specs.Cells.{part_with, piece, sub_parts}
use Rattle.eleos_core.specs.Fills.{absent_page, sealed_places}
use Rattle.eleos_core.specs.Legal.{failed}
use Rattle.eleos_core.specs.Parts.{SubPart, blank_sub, sealed_from}
use Rattle.eleos_core.specs.Seals.{Seals}
use Rattle.eleos_core.specs.Texts.{IsSpoiledAt, came_for}
use Rattle.eleos_core.proofs.Filling.{sub_here}
use Rattle.eleos_core.proofs.FilledSoFar.{FilledTo, count_more, filled_next, filled_spoiled, places_more, places_to, sealed_from-split}
use Rattle.eleos_core.proofs.LentTexts.{elsewhere_same, opens_piece, sealed_if_spoiled}
use Rattle.eleos_core.proofs.Pieces.{blank, length-sub_parts}
use Rattle.eleos_host.specs.declared.port.HostPort.{Ghosts}
use Rattle.eleos_host.specs.declared.port.HostStore as store
use Rattle.eleos_host.specs.Taps.{TapState, IsAsItCame, block_of}
use Rattle.eleos_pages.specs.Crossed.{Crosses, HasCome, at_place, blocks_below, came_in, each_at, opened_by}
use Rattle.eleos_pages.proofs.CameSoFar.{below_last, below_next, come_next, count_for, last_came}
use Rattle.eleos_pages.proofs.CrossedMore.{crosses-same, crosses-then, each_at-append, each_at-one, each_at-rest}

module _ {P : Type 0} (x : Seals) (p : ℕ) (subs : List SubPage) (all : length subs ≡ 4) (i : ℕ) (inside : i < 4) (tap tap' : TapState P) (n : ℕ) (come : HasCome n tap) (few : n ≤ i) where
  abbrev us : List SubPart
  us = sub_parts subs None

  abbrev u : SubPage
  u = get_or subs i blank

  abbrev s : ℕ
  s = p * 4 + i

  abbrev block : List ℕ
  block = block_of tap' n

  here : get_or us i blank_sub ≡ part_with u []
  here = sub_here subs i (omega arith)

  whole : length us ≡ 4
  whole = length-sub_parts subs None ∙ all

  -- where its block passed, if it has one, the slots up to it have their blocks as they came
  pub come_by : (m : ℕ) → m ≡ count_for u → tap' ≡ opened_by (is_some u.tag) true n tap tap'.port block → HasCome (n + m) tap'
  come_by m same made = subst (λ z. HasCome (n + z) tap') (sym same) (come_next tap tap' n u come (omega arith) made)

  module _ (bytes : List ℕ) (so_far : FilledTo x p us i (blocks_below n tap) bytes) (block_is : came_in n tap' ≡ came_for (part_with u []) block) where
    -- its block passed, if it has one
    fill_next : (text : List ℕ) → tap' ≡ opened_by (is_some u.tag) true n tap tap'.port block → IsOpened x s (part_with u []) (came_in n tap') text → length text ≡ 1024
        → FilledTo x p us (i + 1) (blocks_below (n + count_for u) tap') (put_mid (i * 1024) (i * 1024 + 1024 - i * 1024) bytes text)
    fill_next text made opens fits =
        let new : List ℕ = put_mid (i * 1024) (i * 1024 + 1024 - i * 1024) bytes text in
        let below : blocks_below (n + count_for u) tap' ≡ blocks_below n tap ++ came_for (get_or us i blank_sub) block
        = below_next tap tap' n u come (omega arith) made ∙ ap (λ v. blocks_below n tap ++ came_for v block) (sym here) in
        let opened : IsOpened x s (part_with u []) (came_for (part_with u []) block) (piece i new)
        = opens_piece i bytes text inside so_far.whole fits x s u (came_for (part_with u []) block) true (subst (λ cs. IsOpened x s (part_with u []) cs text) block_is opens) in
        subst (λ cs. FilledTo x p us (i + 1) cs new) (sym below)
        (filled_next x p us i inside whole block (blocks_below n tap) bytes new so_far
        (subst (λ v. IsOpened x s v (came_for v block) (piece i new)) (sym here) opened) (elsewhere_same i bytes text inside so_far.whole fits))

    -- then the page is filled up to the next sub-page, with these bytes at this one
    pub fill_by : (m : ℕ) → m ≡ count_for u → (text : List ℕ) → tap' ≡ opened_by (is_some u.tag) true n tap tap'.port block → IsOpened x s (part_with u []) (came_in n tap') text → length text ≡ 1024
        → FilledTo x p us (i + 1) (blocks_below (n + m) tap') (put_mid (i * 1024) (i * 1024 + 1024 - i * 1024) bytes text)
    fill_by m same text made opens fits = subst (λ z. FilledTo x p us (i + 1) (blocks_below (n + z) tap') (put_mid (i * 1024) (i * 1024 + 1024 - i * 1024) bytes text)) (sym same) (fill_next text made opens fits)

    -- it did not pass
    module _ (made : tap' ≡ opened_by (is_some u.tag) false n tap tap'.port block) (spoiled : judged_sub x s (part_with u []) (came_in n tap') ≡ failed s) where
      spoiled_is : judged_sub x s (part_with u []) (came_for (part_with u []) block) ≡ failed s
      spoiled_is = ap (judged_sub x s (part_with u [])) (sym block_is) ∙ spoiled

      sealed : is_some u.tag ≡ true
      sealed = sealed_if_spoiled x s u block spoiled_is

      last_below : blocks_below (n + 1) tap' ≡ blocks_below n tap ++ came_for (get_or us i blank_sub) block
      last_below = below_last tap tap' n u come (omega arith) sealed made ∙ ap (λ v. blocks_below n tap ++ came_for v block) (sym here)

      -- the page is spoiled at this sub-page
      pub fill_spoiled : (k : Plan) → IsSpoiledAt k x p (absent_page subs) (blocks_below (n + 1) tap') s
      fill_spoiled k = subst (λ cs. IsSpoiledAt k x p (absent_page subs) cs s) (sym last_below)
          (filled_spoiled x p us i inside whole block k (blocks_below n tap) bytes so_far (subst (λ v. judged_sub x s v (came_for v block) ≡ failed s) (sym here) spoiled_is))

      pub fill_slots : (j : ℕ) → j < n + 1 → IsAsItCame tap' j
      fill_slots j below = last_came tap tap' n u come (omega arith) made sealed j below

    -- what crossed
    module _ (port : Ghosts P) (host : store.Ghosts P) (first : TapState P) (so_crossed : Crosses port host first tap (each_at (places_to x p us i) (blocks_below n tap)) [])
        (crossed : Crosses port host tap tap' (at_place s (came_in n tap')) []) where
      more_crossed : Crosses port host first tap' (each_at (places_to x p us (i + 1)) (blocks_below n tap ++ came_for (get_or us i blank_sub) block)) []
      more_crossed =
          let one : each_at (block_places s (get_or us i blank_sub)) (came_for (get_or us i blank_sub) block) ≡ at_place s (came_in n tap')
          = each_at-one s (get_or us i blank_sub) block ∙ (ap (λ v. at_place s (came_for v block)) here ∙ ap (at_place s) (sym block_is)) in
          crosses-same port host first tap' _ _ _ _
          (ap (λ r. each_at (places_to x p us i) (blocks_below n tap) ++ r) (sym one)
          ∙ (sym (each_at-append (places_to x p us i) (block_places s (get_or us i blank_sub)) (blocks_below n tap) (came_for (get_or us i blank_sub) block) so_far.count)
          ∙ ap (λ ps. each_at ps (blocks_below n tap ++ came_for (get_or us i blank_sub) block)) (sym (places_more x p us i inside whole block)))) refl
          (crosses-then port host first tap tap' _ _ [] [] so_crossed crossed)

      crossed_next : tap' ≡ opened_by (is_some u.tag) true n tap tap'.port block → Crosses port host first tap' (each_at (places_to x p us (i + 1)) (blocks_below (n + count_for u) tap')) []
      crossed_next made =
          let below : blocks_below (n + count_for u) tap' ≡ blocks_below n tap ++ came_for (get_or us i blank_sub) block
          = below_next tap tap' n u come (omega arith) made ∙ ap (λ v. blocks_below n tap ++ came_for v block) (sym here) in
          crosses-same port host first tap' _ _ _ _ (ap (each_at (places_to x p us (i + 1))) (sym below)) refl more_crossed

      -- where the block passed, the host gave just the blocks up to here, each for its place
      pub crossed_by : (m : ℕ) → m ≡ count_for u → tap' ≡ opened_by (is_some u.tag) true n tap tap'.port block
          → Crosses port host first tap' (each_at (places_to x p us (i + 1)) (blocks_below (n + m) tap')) []
      crossed_by m same made = subst (λ z. Crosses port host first tap' (each_at (places_to x p us (i + 1)) (blocks_below (n + z) tap')) []) (sym same) (crossed_next made)

      -- where it did not pass, the host gave just the blocks up to here, for the first of the page's sealed places
      pub crossed_last : tap' ≡ opened_by (is_some u.tag) false n tap tap'.port block → judged_sub x s (part_with u []) (came_in n tap') ≡ failed s
          → Crosses port host first tap' (each_at (sealed_places p (absent_page subs)) (blocks_below (n + 1) tap')) []
      crossed_last made spoiled =
          let cs : List (List ℕ) = blocks_below n tap ++ came_for (get_or us i blank_sub) block in
          crosses-same port host first tap' _ _ _ _
          (sym (each_at-rest (places_to x p us (i + 1)) (sealed_from (p * 4 + (i + 1)) (drop (i + 1) us)) cs (count_more x p us i inside whole block (blocks_below n tap) so_far.count))
          ∙ (λ t. each_at (sym (sealed_from-split (p * 4) us (i + 1) (let w = whole in omega arith)) t) (sym (last_below made spoiled) t))) refl more_crossed

-- what follows where there is none
pub none_then : {X A B : Type 0} (o : Option X) → (A → B) → IfNone o A → IfNone o B
none_then None f a = f a
none_then (Some x) f a = tt
