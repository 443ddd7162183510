use Rattle.eleos_kv.proofs.serving.enter_with.Given as goal

abbrev pub ghost-stamp : goal.ghost-stamp
ghost-stamp g a = g.kept
