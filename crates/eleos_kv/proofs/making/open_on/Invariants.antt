use Rattle.eleos_kv.proofs.making.open_on.Given as goal

abbrev pub ghost-make : goal.ghost-make
ghost-make g a = g.grounds
