-- A move on the cells of a core.
use Rattle.std.proofs.Common.{◌≡◌, ◌≢◌, ℕ, ◌+◌, ◌<◌, ◌≤◌, ◌==◌, ◌++◌, List, [], ◌∷◌, length, filter, not, cond, slice_index_or, slice_set, Bool, true, false, Some, None, if◌then◌else◌, refl, sym, subst, ◌∙◌, ap, inl, inr, arith, eq-eqb, get_or-set_other}
use Rattle.std.proofs.lemmas.List.{get_or_default, length-set}
use Rattle.eleos_base.specs.declared.memory.Live.{Live}
use Rattle.eleos_base.specs.declared.plan.Plan.{Plan}
use Rattle.eleos_base.specs.Ties.{Has}
use Rattle.eleos_core.specs.declared.cells.frame.Frame.{Frame}
use Rattle.eleos_core.specs.declared.cells.page.Page.{Page}
use Rattle.eleos_core.specs.Applying.{Makes, parts_in}
use Rattle.eleos_core.specs.Cells.{Cells, IsCore, cells_of, holder_of_use, part_of_frame}
use Rattle.eleos_core.specs.Legal.{IsActor, IsOwner, OneIsPool}
use Rattle.eleos_core.specs.Moves.{CanMoveIn, move_stamp}
use Rattle.eleos_core.specs.Parts.{after_at, clock_cell, clock_part, frame_cell, frame_part, part_after, the_clock, the_frame}
use Rattle.eleos_base.specs.Places.{Owner, all_frames}
use Rattle.eleos_core.specs.Seals.{Seals}
use Rattle.eleos_core.specs.State.{is_owner}
use Rattle.eleos_core.proofs.Sets.{AreWhole, at_other, at_same, cell_of-clock, cell_of-frame, clock_at, clock_place, frame_not_clock, map_frame, pool_not_clock, set_clock, set_frame, core_whole, whole_clock}
use Rattle.eleos_core.proofs.TwoCells.{frame_part_is}

-- the place of an owner's clock
pub place_is : (k : Plan) (owner : Owner) (place : ℕ) → length k.enclaves + place ≡ clock_cell k owner → place ≡ clock_place k owner
place_is k None place is = omega arith
place_is k (Some e) place is = omega arith

pub place_inside : (k : Plan) (owner : Owner) → IsOwner k owner → clock_place k owner ≤ length k.enclaves
place_inside k None inside = omega arith
place_inside k (Some e) inside = omega arith

-- where one of two owners is the pool they differ
pub places_differ : (k : Plan) (from to : Owner) → IsOwner k from → IsOwner k to → OneIsPool from to → clock_place k from ≢ clock_place k to
places_differ k None None from_is to_is one same = one
places_differ k None (Some e) from_is to_is one same = omega arith
places_differ k (Some e) None from_is to_is one same = omega arith
places_differ k (Some e) (Some o) from_is to_is one same = one

clocks_differ : (k : Plan) (from to : Owner) → IsOwner k from → IsOwner k to → OneIsPool from to → clock_cell k to ≢ clock_cell k from
clocks_differ k None None from_is to_is one same = one
clocks_differ k None (Some e) from_is to_is one same = pool_not_clock k e to_is (sym same)
clocks_differ k (Some e) None from_is to_is one same = pool_not_clock k e from_is same
clocks_differ k (Some e) (Some o) from_is to_is one same = one

other_owner : (from to : Owner) → OneIsPool from to → is_owner to from ≡ false
other_owner None None one = absurd one
other_owner None (Some e) one = refl
other_owner (Some e) None one = refl
other_owner (Some e) (Some o) one = absurd one

same_owner : (owner : Owner) → is_owner owner owner ≡ true
same_owner None = refl
same_owner (Some e) = eq-eqb e e refl

module _ (k : Plan) (live : List (List Live)) (clocks : List (List ℕ)) (pages : List Page) (frames : List Frame) (links : List ℕ) (core : IsCore k live clocks pages frames links)
    (f : ℕ) (from to : Owner) (exists : f < all_frames k) (from_is : IsOwner k from) (to_is : IsOwner k to) (one : OneIsPool from to) where
  abbrev old_cells : Cells
  old_cells = cells_of k live clocks pages frames links

  abbrev list_of : Owner → List ℕ
  list_of owner = slice_index_or clocks (clock_place k owner) []

  abbrev left_list : List ℕ
  left_list = filter (λ other. not (other == f)) (list_of from)

  abbrev joined_list : List ℕ
  joined_list = list_of to ++ f ∷ []

  abbrev new_clocks : List (List ℕ)
  new_clocks = slice_set (slice_set clocks (clock_place k to) joined_list) (clock_place k from) left_list

  -- the frame leaves a list that the other has not changed
  pub from_list : slice_index_or (slice_set clocks (clock_place k to) joined_list) (clock_place k from) [] ≡ list_of from
  from_list = get_or-set_other clocks (clock_place k to) (clock_place k from) joined_list [] (places_differ k from to from_is to_is one)

  -- the lists that the two steps make
  pub lists_moved : (joined left : ℕ) (was_to now_to was_from now_from : List ℕ) → length k.enclaves + joined ≡ clock_cell k to → length k.enclaves + left ≡ clock_cell k from
      → was_to ≡ slice_index_or clocks joined was_to → now_to ≡ was_to ++ f ∷ []
      → was_from ≡ slice_index_or (slice_set clocks joined now_to) left was_from → now_from ≡ filter (λ other. not (other == f)) was_from
      → slice_set (slice_set clocks joined now_to) left now_from ≡ new_clocks
  lists_moved joined left was_to now_to was_from now_from joined_is left_is was_to_is now_to_is was_from_is now_from_is =
      let owners = core.owners in
      let to_place : joined ≡ clock_place k to = place_is k to joined joined_is in
      let from_place : left ≡ clock_place k from = place_is k from left left_is in
      let to_inside = place_inside k to to_is in
      let from_inside = place_inside k from from_is in
      let same_length = length-set clocks (clock_place k to) joined_list in
      let to_was : was_to ≡ list_of to = was_to_is ∙ (ap (λ i. slice_index_or clocks i was_to) to_place ∙ get_or_default clocks (clock_place k to) was_to [] (omega arith)) in
      let to_now : now_to ≡ joined_list = now_to_is ∙ ap (λ was. was ++ f ∷ []) to_was in
      let from_was : was_from ≡ list_of from = was_from_is ∙ ((λ t. slice_index_or (slice_set clocks (to_place t) (to_now t)) (from_place t) was_from)
      ∙ (get_or_default (slice_set clocks (clock_place k to) joined_list) (clock_place k from) was_from [] (omega arith) ∙ from_list)) in
      let from_now : now_from ≡ left_list = now_from_is ∙ ap (filter (λ other. not (other == f))) from_was in
      λ t. slice_set (slice_set clocks (to_place t) (to_now t)) (from_place t) (from_now t)

  module _ (frame frame' : Frame) (frame_is : frame ≡ slice_index_or frames f frame) (owner_is : frame'.owner ≡ to) (used_is : frame'.used ≡ frame.used) where
    abbrev new_cells : Cells
    new_cells = cells_of k live new_clocks pages (slice_set frames f frame') links

    -- the part of each cell
    moved : (c : ℕ) → parts_in new_cells c ≡ cond (c == frame_cell k f) (part_of_frame frame') (cond (c == clock_cell k from) (clock_part left_list) (cond (c == clock_cell k to) (clock_part joined_list) (parts_in old_cells c)))
    moved c =
        let whole : AreWhole old_cells = core_whole k live clocks pages frames links core in
        let one_set : Cells = record old_cells { clocks = slice_set clocks (clock_place k to) joined_list } in
        let whole_one : AreWhole one_set = whole_clock old_cells (clock_place k to) joined_list whole in
        let both_set : Cells = record one_set { clocks = new_clocks } in
        let same : new_cells ≡ record both_set { frames = slice_set both_set.frames f (part_of_frame frame') } = λ t. record {
          plan = k;
          live = live;
          clocks = new_clocks;
          links = links;
          pages = old_cells.pages;
          frames = map_frame frames f frame' t;
        } in
        ap (λ m. parts_in m c) same
        ∙ (set_frame both_set f (part_of_frame frame') c (whole_clock one_set (clock_place k from) left_list whole_one) exists
        ∙ (ap (λ was. cond (c == frame_cell k f) (part_of_frame frame') was) (set_clock one_set from left_list c whole_one from_is)
        ∙ ap (λ was. cond (c == frame_cell k f) (part_of_frame frame') (cond (c == clock_cell k from) (clock_part left_list) was)) (set_clock old_cells to joined_list c whole to_is)))

    frame_was : parts_in old_cells (frame_cell k f) ≡ part_of_frame frame
    frame_was = frame_part_is k live clocks pages frames links core f exists frame frame_is

    -- with the frame's new owner and both lists the cells are what the move makes of them
    pub move_made : (x : Seals) (who : ℕ) → IsActor k who → CanMoveIn old_cells f from → Makes x (move_stamp who f from to) old_cells new_cells
    move_made x who actor legal = record {
      plan = refl;
      may = record { within = (actor, exists, one, from_is, to_is); on_parts = (legal.owned, legal.free, record { reply_is = refl; no_block = refl }) };
      touched = at_foot;
      others = λ c no. moved c ∙ (at_other c (frame_cell k f) (part_of_frame frame') _ (λ same. no (inl same))
          ∙ (at_other c (clock_cell k from) (clock_part left_list) _ (λ same. no (inr (inl same)))
          ∙ at_other c (clock_cell k to) (clock_part joined_list) (parts_in old_cells c) (λ same. no (inr (inr (inl same))))));
      links = λ by p caller inside. refl;
    }
      where
        at_foot : (c : ℕ) → Has c (frame_cell k f ∷ clock_cell k from ∷ clock_cell k to ∷ []) → parts_in new_cells c ≡ after_at k x (move_stamp who f from to) (parts_in old_cells) c
        at_foot c (inl same) = subst (λ z. parts_in new_cells z ≡ after_at k x (move_stamp who f from to) (parts_in old_cells) z) (sym same)
            (moved (frame_cell k f) ∙ (at_same (frame_cell k f) (frame_cell k f) (part_of_frame frame') _ refl
            ∙ ((λ t. part_of_frame (record { owner = owner_is t; used = used_is t }))
            ∙ (sym (ap (λ (v : Bool). frame_part (if v then to else frame.owner) (holder_of_use frame.used)) (eq-eqb f f refl))
            ∙ (ap (part_after k x (move_stamp who f from to) (the_frame f)) (sym frame_was)
            ∙ ap (λ cell. part_after k x (move_stamp who f from to) cell (parts_in old_cells (frame_cell k f))) (sym (cell_of-frame k f exists)))))))
        at_foot c (inr (inl same)) = subst (λ z. parts_in new_cells z ≡ after_at k x (move_stamp who f from to) (parts_in old_cells) z) (sym same)
            (moved (clock_cell k from) ∙ (at_other (clock_cell k from) (frame_cell k f) (part_of_frame frame') _ (λ is. frame_not_clock k f from from_is (sym is))
            ∙ (at_same (clock_cell k from) (clock_cell k from) (clock_part left_list) _ refl
            ∙ (ap (λ (v : Bool). clock_part (if v then left_list else if is_owner from to then list_of from ++ f ∷ [] else list_of from)) (sym (same_owner from))
            ∙ (ap (part_after k x (move_stamp who f from to) (the_clock from)) (sym (clock_at old_cells from from_is))
            ∙ ap (λ cell. part_after k x (move_stamp who f from to) cell (parts_in old_cells (clock_cell k from))) (sym (cell_of-clock k from from_is)))))))
        at_foot c (inr (inr (inl same))) = subst (λ z. parts_in new_cells z ≡ after_at k x (move_stamp who f from to) (parts_in old_cells) z) (sym same)
            (moved (clock_cell k to) ∙ (at_other (clock_cell k to) (frame_cell k f) (part_of_frame frame') _ (λ is. frame_not_clock k f to to_is (sym is))
            ∙ (at_other (clock_cell k to) (clock_cell k from) (clock_part left_list) _ (clocks_differ k from to from_is to_is one)
            ∙ (at_same (clock_cell k to) (clock_cell k to) (clock_part joined_list) _ refl
            ∙ (ap (λ (v : Bool). clock_part (if v then joined_list else list_of to)) (sym (same_owner to))
            ∙ (ap (λ (v : Bool). clock_part (if v then filter (λ other. not (other == f)) (list_of to) else if is_owner to to then joined_list else list_of to)) (sym (other_owner from to one))
            ∙ (ap (part_after k x (move_stamp who f from to) (the_clock to)) (sym (clock_at old_cells to to_is))
            ∙ ap (λ cell. part_after k x (move_stamp who f from to) cell (parts_in old_cells (clock_cell k to))) (sym (cell_of-clock k to to_is)))))))))
        at_foot c (inr (inr (inr none))) = absurd none
