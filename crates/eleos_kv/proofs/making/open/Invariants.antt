use Rattle.eleos_kv.proofs.making.open.Given as goal

abbrev pub ghost-open_on : goal.ghost-open_on
ghost-open_on g a = g.P.Counted.grounds a._shards
