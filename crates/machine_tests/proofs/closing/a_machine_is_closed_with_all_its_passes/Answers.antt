use Rattle.std.proofs.Common.{◌+◌, ◌∙◌, ap}
use Rattle.eleos_turn.specs.Hands.{dealt}
use Rattle.machine_tests.proofs.closing.a_machine_is_closed_with_all_its_passes.Goals as goal

-- a pass for the caller, for the swapper and for the balloon
pub three_passes-requires : goal.three_passes-requires
three_passes-requires g c = c.in_ok-machine.ensures.passes ∙ ap (λ n. dealt c.in_ok-machine.machine 0 (n + 2)) c.in_ok-plan.ensures
