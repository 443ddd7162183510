use Rattle.eleos_kv.proofs.serving.enter.Given as goal

-- the value is as it is given back
abbrev pub ghost-enter_with : goal.ghost-enter_with
ghost-enter_with g a = g.P.Keeps.keeps a.hand.now.home.base.grounds a.entry.now a._value.now
