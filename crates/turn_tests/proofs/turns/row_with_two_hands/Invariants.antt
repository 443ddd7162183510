use Rattle.turn_tests.proofs.turns.row_with_two_hands.Given as goal

abbrev pub ghost-make : goal.ghost-make
ghost-make g a = tt
