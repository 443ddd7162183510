use Rattle.eleos_machine.proofs.entering.enter.Given as goal

abbrev pub ghost-stamp : goal.ghost-stamp
ghost-stamp g a = g.P.Keeps.kept a.hand.now a.entry.now
