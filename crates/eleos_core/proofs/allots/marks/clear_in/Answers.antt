use Rattle.std.proofs.Common.{◌≡◌, ◌+◌, ◌*◌, ◌<◌, ◌≤◌, length, Some, refl, sym, subst, arith}
use Rattle.std.specs.Vec.{with_items}
use Rattle.eleos_core.specs.Allots.{IsCleared}
use Rattle.eleos_core.specs.Cells.{IsPresent}
use Rattle.eleos_core.proofs.MarkedPages.{cleared, cleared_absent}
use Rattle.eleos_core.proofs.SubPages.{length-cleared}
use Rattle.eleos_core.proofs.Refills.{refill_is}
use Rattle.eleos_core.proofs.allots.marks.clear_in.Goals as goal

pub returns-in-Some : goal.returns-in-Some
returns-in-Some c =
    let holds = subst (IsPresent c.requires.bytes.0) c.in-Some.is c.requires.bytes.1 in
    let long : length c.in-Some.present.bytes.items ≡ 4096 = holds.1 in
    let place : c.args.index < 4 = c.requires.index in
    let inside : 1024 * c.args.index + 1024 ≤ length c.in-Some.present.bytes.items = omega arith in
    let bytes = refill_is c.in-Some.present.bytes c.clear_piece.new.bytes _ (rw c.deref_mut.ensures.value at c.clear_piece.ensures) (length-cleared c.in-Some.present.bytes.items c.args.index inside) in
    record {
      cleared = subst (λ was. IsCleared c.args.index was (Some (record { frame = c.in-Some.present.frame; bytes = with_items c.in-Some.present.bytes c.clear_piece.new.bytes }))) (sym c.in-Some.is)
          (cleared c.args.index c.in-Some.present (record { frame = c.in-Some.present.frame; bytes = with_items c.in-Some.present.bytes c.clear_piece.new.bytes }) refl inside bytes);
    }

pub returns-in_default : goal.returns-in_default
returns-in_default c = record { cleared = subst (λ present. IsCleared c.args.index present present) (sym c.in_default.is) (cleared_absent c.args.index) }
