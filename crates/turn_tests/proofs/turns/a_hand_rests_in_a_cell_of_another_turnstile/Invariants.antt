use Rattle.turn_tests.proofs.turns.a_hand_rests_in_a_cell_of_another_turnstile.Given as goal

abbrev pub ghost-make : goal.ghost-make
ghost-make g a = tt
