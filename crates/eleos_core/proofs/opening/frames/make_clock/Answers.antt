use Rattle.std.proofs.Common.{◌+◌, ◌++◌, [], ◌∷◌, sym, ◌∙◌, ap}
use Rattle.eleos_core.proofs.OpeningLists.{range_more}
use Rattle.eleos_core.proofs.opening.frames.make_clock.Goals as goal

pub loop-i-preserved : goal.loop-i-preserved
loop-i-preserved c = c.in_ok-push.ensures.items ∙ (ap (λ fs. fs ++ (c.args.first + c.loop-i.i) ∷ []) c.loop-i.invariant ∙ sym (range_more c.args.first c.loop-i.i))
