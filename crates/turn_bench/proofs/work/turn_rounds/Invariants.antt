use Rattle.turn_bench.proofs.work.turn_rounds.Given as goal

abbrev pub ghost-make : goal.ghost-make
ghost-make g a = tt
