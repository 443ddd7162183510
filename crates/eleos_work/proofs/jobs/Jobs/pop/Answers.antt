use Rattle.eleos_work.proofs.Moves.{pops, learns}
use Rattle.eleos_work.proofs.jobs.Jobs.pop.Goals as goal

pub pop_as-found-requires-clause-rule : goal.pop_as-found-requires-clause-rule
pop_as-found-requires-clause-rule g c = (pops _ _, learns _ _)
