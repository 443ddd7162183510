use Rattle.std.proofs.Common.{rules}
use Rattle.std.proofs.lemmas.Fn.{filter_same}
use Rattle.eleos_core.proofs.moves.remove.Goals as goal

pub returns : goal.returns
returns c = rw (← c.clock.view_is) (filter_same _ _ _ (λ x b f' k. search rules) _ _ c.retain.ensures.filtered)
