use Rattle.std.proofs.Common.{◌≡◌, true, ◌∙◌, sym, ap}
use Rattle.eleos_core.specs.Cells.{part_of_frame}
use Rattle.eleos_core.specs.Fills.{the_frame_in}
use Rattle.eleos_core.specs.Parts.{holder_in, owner_in}
use Rattle.eleos_core.proofs.Offending.{not_false, owner_other, owner_same}
use Rattle.eleos_core.proofs.Tests.{not_true}
use Rattle.eleos_core.proofs.TwoCells.{frame_part_is}
use Rattle.eleos_core.proofs.machine.Core.move_offence.Goals as goal

pub returns-then-ne : goal.returns-then-ne
returns-then-ne c = λ owned.
    let part : the_frame_in c.args.self.now c.args.frame ≡ part_of_frame c.index-cell.result.now = rw (← c.self.view_is) (frame_part_is c.self.inside.plan c.self.inside.live.items c.self.inside.clocks.items c.self.inside.pages.items c.self.inside.frames.items c.self.inside.links.items c.self.invariant
    c.args.frame (rw (← c.self.view_is) at c.requires) c.index-cell.result.now c.index-cell.ensures) in
    owner_other c.index-cell.result.now.owner c.args.from (not_true _ (sym c.ne.ensures ∙ c.if-ne.true)) (sym (ap owner_in part) ∙ owned)

pub returns-then-is_free : goal.returns-then-is_free
returns-then-is_free c =
    let part : the_frame_in c.args.self.now c.args.frame ≡ part_of_frame c.index-cell.result.now = rw (← c.self.view_is) (frame_part_is c.self.inside.plan c.self.inside.live.items c.self.inside.clocks.items c.self.inside.pages.items c.self.inside.frames.items c.self.inside.links.items c.self.invariant
    c.args.frame (rw (← c.self.view_is) at c.requires) c.index-cell.result.now c.index-cell.ensures) in
    record {
      owned = ap owner_in part ∙ owner_same c.index-cell.result.now.owner c.args.from (not_false _ (sym c.ne.ensures ∙ c.if-ne.false));
      free = ap holder_in part ∙ c.is_free.ensures.0 c.if-is_free.true;
    }

pub returns-else-is_free : goal.returns-else-is_free
returns-else-is_free c =
    let part : the_frame_in c.args.self.now c.args.frame ≡ part_of_frame c.index-cell.result.now = rw (← c.self.view_is) (frame_part_is c.self.inside.plan c.self.inside.live.items c.self.inside.clocks.items c.self.inside.pages.items c.self.inside.frames.items c.self.inside.links.items c.self.invariant
    c.args.frame (rw (← c.self.view_is) at c.requires) c.index-cell.result.now c.index-cell.ensures) in (
      ap owner_in part ∙ owner_same c.index-cell.result.now.owner c.args.from (not_false _ (sym c.ne.ensures ∙ c.if-ne.false)),
      λ none. let yes : c.is_free.result ≡ true = c.is_free.ensures.1 (sym (ap holder_in part) ∙ none) in cc,
    )
