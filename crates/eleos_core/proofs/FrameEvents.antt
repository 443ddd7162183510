-- A fill, an evict and a move: what was done was applied, and what offends is illegal.
use Rattle.std.proofs.Common.{◌≡◌, ◌≢◌, ℕ, ◌<◌, ◌≤◌, List, [], take, map, Bool, true, false, Option, Some, None, is_some, ⊎_elim, if◌then◌else◌, refl, sym, ◌∙◌, ap, arith}
use Rattle.eleos_base.specs.declared.memory.Part.{Part as Offence}
use Rattle.eleos_base.specs.declared.memory.Part.TheVariants.{Present, Frame, Absent, Linked, Owner}
use Rattle.eleos_base.specs.declared.memory.Reply.{Reply}
use Rattle.eleos_base.specs.declared.memory.Reply.TheVariants.{Done}
use Rattle.eleos_core.specs.declared.event.Event.TheVariants.{Fill, Evict, Move}
use Rattle.eleos_core.specs.declared.machine.Put.{Put}
use Rattle.eleos_core.specs.Applying.{AlwaysApplies, AlwaysIllegal, Makes, parts_in, put_of, puts_in, stamp_of}
use Rattle.eleos_core.specs.Cells.{Cells, links_in}
use Rattle.eleos_core.specs.Evicts.{evict_stamp}
use Rattle.eleos_core.specs.Fills.{CanFillIn, IsJudged, fill_stamp, page_in, the_frame_in}
use Rattle.eleos_core.specs.Moves.{CanMoveIn, move_stamp}
use Rattle.eleos_core.specs.Offences.{CanEvictIn, OffendsEvict, OffendsFill, OffendsMove}
use Rattle.eleos_core.specs.Parts.{frame_in, owner_in}
use Rattle.eleos_base.specs.Places as places
use Rattle.eleos_base.specs.Places.{all_frames, all_pages}
use Rattle.eleos_core.specs.Seals.{Seals}
use Rattle.eleos_core.specs.State.{History, frame, is_owner, owner}
use Rattle.eleos_core.proofs.Applied.{applies}
use Rattle.eleos_core.proofs.Shares.{owner_is, same_owner}
use Rattle.eleos_core.proofs.ShownParts.{frame_shown, may_of, owner_shown, unlinked_shown, used_shown}

-- two owners, or two frames, that are not one
not_same : (o p : Option ℕ) → o ≢ p → is_owner o p ≡ false
not_same o p other = by_bool (is_owner o p) (owner_is o p)
  where
    by_bool : (b : Bool) → (b ≡ true → o ≡ p) → b ≡ false
    by_bool true same = absurd (other (same refl))
    by_bool false same = refl

-- what is in a frame is not absent
some_frame : (o : Option ℕ) → o ≢ None → is_some o ≡ true
some_frame None other = absurd (other refl)
some_frame (Some f) other = refl

module _ (x : Seals) (old : Cells) where
  -- a fill that offends cannot be made
  cannot_fill : (p f : ℕ) (part : Offence) → OffendsFill old p f part → CanFillIn old p f → ⊥
  cannot_fill p f Present offends can = offends can.absent
  cannot_fill p f Frame offends can = ⊎_elim (λ held. held can.free) (λ away. away can.at_home) offends.1
  cannot_fill p f _ offends can = offends

  fill_part : (past : History) (p f : ℕ) (part : Offence) → frame_in (page_in old p) ≡ frame past p → OffendsFill old p f part → part ≡ (if is_some (frame past p) then Present else Frame)
  fill_part past p f Present here offends = ap (λ v. if v then Present else Frame) (sym (some_frame (frame past p) (λ none. offends (here ∙ none))))
  fill_part past p f Frame here offends = ap (λ (o : Option ℕ). if is_some o then Present else Frame) (sym offends.0 ∙ here)
  fill_part past p f _ here offends = absurd offends

  -- a fill that was made on the cells was applied, with the blocks up to the first that does not pass
  pub fill_applied : (new : Cells) (who p f : ℕ) (given : List (List ℕ)) (count : ℕ) (reply : Reply) → p < all_pages old.plan → IsJudged old.plan x p (page_in old p) given count reply
      → Makes x (fill_stamp who p f (take count given) reply) old new → AlwaysApplies x old who (Fill p f) given reply [] new
  fill_applied new who p f given count reply inside judged makes past good run shows =
      applies old.plan x good past who (Fill p f) given (take count given) reply 0 old new [] refl run shows makes tt refl
      (sym (used_shown x old past shows p given inside) ∙ sym judged.used_are)

  -- a fill that offends is illegal after each history that the cells show, by what it offends against
  pub fill_illegal : (who p f : ℕ) (given : List (List ℕ)) (part : Offence) → p < all_pages old.plan → OffendsFill old p f part → AlwaysIllegal x old who (Fill p f) given part
  fill_illegal who p f given part inside offends past good run shows = record {
    never = λ count reply step.
        let may = may_of x old past shows (stamp_of who (Fill p f) (take count given) reply 0) good run step tt in
        cannot_fill p f part offends (record { absent = may.on_parts.0; free = may.on_parts.1; at_home = may.on_parts.2 });
    part_is = fill_part past p f part (frame_shown x old past shows p inside) offends;
  }

  -- an evict that offends cannot be made
  cannot_evict : (p f : ℕ) (part : Offence) → OffendsEvict old p f part → CanEvictIn old p f → ⊥
  cannot_evict p f Absent offends can = offends can.present
  cannot_evict p f Linked offends can = let linked : 1 ≤ links_in old offends.1.0 p = offends.1.2 in let none : links_in old offends.1.0 p ≡ 0 = can.unlinked offends.1.0 offends.1.1 in absurd (omega arith)
  cannot_evict p f _ offends can = offends

  evict_part : (past : History) (p f : ℕ) (part : Offence) → frame_in (page_in old p) ≡ frame past p → OffendsEvict old p f part → part ≡ (if is_owner (frame past p) (Some f) then Linked else Absent)
  evict_part past p f Absent here offends = ap (λ v. if v then Linked else Absent) (sym (not_same (frame past p) (Some f) (λ same. offends (here ∙ same))))
  evict_part past p f Linked here offends = ap (λ v. if v then Linked else Absent) (sym (same_owner (Some f)) ∙ ap (λ (o : Option ℕ). is_owner o (Some f)) (sym offends.0 ∙ here))
  evict_part past p f _ here offends = absurd offends

  -- an evict that was made on the cells was applied, and what it sent is what it seals
  pub evict_applied : (new : Cells) (who p f : ℕ) (sent : List Put) → p < all_pages old.plan → CanEvictIn old p f → Makes x (evict_stamp who p f) old new
      → map put_of sent ≡ puts_in old.plan x (evict_stamp who p f) (parts_in old) (Evict p f) → AlwaysApplies x old who (Evict p f) [] Done sent new
  evict_applied new who p f sent inside can makes puts past good run shows =
      applies old.plan x good past who (Evict p f) [] [] Done 0 old new sent refl run shows makes (unlinked_shown x old past shows run p inside can.unlinked) puts refl

  -- one that offends is illegal
  pub evict_illegal : (who p f : ℕ) (part : Offence) → p < all_pages old.plan → OffendsEvict old p f part → AlwaysIllegal x old who (Evict p f) [] part
  evict_illegal who p f part inside offends past good run shows =
      let here : frame_in (page_in old p) ≡ frame past p = frame_shown x old past shows p inside in record {
        never = λ count reply step. cannot_evict p f part offends (record {
          present = here ∙ step.step.0.present;
          unlinked = λ by caller. shows.links by p caller inside ∙ step.step.0.no_link by;
        });
        part_is = evict_part past p f part here offends;
      }

  -- a move that offends cannot be made
  cannot_move : (f : ℕ) (from : places.Owner) (part : Offence) → OffendsMove old f from part → CanMoveIn old f from → ⊥
  cannot_move f from Owner offends can = offends can.owned
  cannot_move f from Frame offends can = offends.1 can.free
  cannot_move f from _ offends can = offends

  move_part : (past : History) (f : ℕ) (from : places.Owner) (part : Offence) → owner_in (the_frame_in old f) ≡ owner old.plan past f → OffendsMove old f from part
      → part ≡ (if is_owner (owner old.plan past f) from then Frame else Owner)
  move_part past f from Owner here offends = ap (λ v. if v then Frame else Owner) (sym (not_same (owner old.plan past f) from (λ same. offends (here ∙ same))))
  move_part past f from Frame here offends = ap (λ v. if v then Frame else Owner) (sym (same_owner from) ∙ ap (λ (o : places.Owner). is_owner o from) (sym offends.0 ∙ here))
  move_part past f from _ here offends = absurd offends

  -- a move that was made on the cells was applied
  pub move_applied : (new : Cells) (who f : ℕ) (from to : places.Owner) → Makes x (move_stamp who f from to) old new → AlwaysApplies x old who (Move f from to) [] Done [] new
  move_applied new who f from to makes past good run shows = applies old.plan x good past who (Move f from to) [] [] Done 0 old new [] refl run shows makes tt refl refl

  -- one that offends is illegal
  pub move_illegal : (who f : ℕ) (from to : places.Owner) (part : Offence) → f < all_frames old.plan → OffendsMove old f from part → AlwaysIllegal x old who (Move f from to) [] part
  move_illegal who f from to part inside offends past good run shows = record {
    never = λ count reply step.
        let may = may_of x old past shows (stamp_of who (Move f from to) (take count []) reply 0) good run step tt in
        cannot_move f from part offends (record { owned = may.on_parts.0; free = may.on_parts.1 });
    part_is = move_part past f from part (owner_shown x old past shows f inside) offends;
  }
