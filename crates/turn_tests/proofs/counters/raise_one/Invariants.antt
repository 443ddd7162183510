use Rattle.std.proofs.Common.{◌+◌, [], ◌∷◌}
use Rattle.eleos_turn.specs.Hands.{part_of}
use Rattle.turn_tests.specs.Row.{row}
use Rattle.turn_tests.proofs.counters.raise_one.Given as goal

abbrev pub ghost-stamp : goal.ghost-stamp
ghost-stamp g a = (0, part_of row a.hand.now 0 + 1) ∷ []
