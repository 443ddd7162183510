use Rattle.eleos_work.proofs.Moves.{pushes, learns}
use Rattle.eleos_work.proofs.jobs.Jobs.push.Goals as goal

pub push_as-requires-clause-rule : goal.push_as-requires-clause-rule
push_as-requires-clause-rule g c = (pushes _ _ _ _ c.requires.cell, learns _ _)
