use Rattle.eleos_machine.proofs.opening.open_with.Given as goal

abbrev pub ghost-open_on : goal.ghost-open_on
ghost-open_on g a = g.P.Grounded.grounds a._plan.now (g.S.Sealer.key a._sealer.now)
