use Rattle.std.proofs.Common.{◌∙◌}
use Rattle.eleos_ring.proofs.Calling.{after-both}
use Rattle.eleos_ring.proofs.cells.Ring.call.Goals as goal

pub returns-in-Refused-clause-after : goal.returns-in-Refused-clause-after
returns-in-Refused-clause-after g c =
    c.in-Refused.ensures.after ∙ after-both c.args.self.now c.loop.self c.in-Ok.ticket c.loop.ticket c.in-Ok.ensures.answer (c.loop.invariant.0 ∙ c.in-Ok.ensures.after) c.loop.invariant.1

pub returns-in-Reply-clause-after : goal.returns-in-Reply-clause-after
returns-in-Reply-clause-after g c =
    c.in-Reply.ensures.after ∙ after-both c.args.self.now c.loop.self c.in-Ok.ticket c.loop.ticket c.in-Ok.ensures.answer (c.loop.invariant.0 ∙ c.in-Ok.ensures.after) c.loop.invariant.1
