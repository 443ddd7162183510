use Rattle.std.proofs.Common.{◌≡◌, None, sym, ap, ◌∙◌}
use Rattle.eleos_shard.specs.Keys.{id_of}
use Rattle.eleos_shard.specs.Shards.{ShardState}
use Rattle.eleos_shard.proofs.Serving.{served_no_get}
use Rattle.eleos_shard.proofs.shard.Shard.get.Goals as goal

pub returns-in_default-clause-served : goal.returns-in_default-clause-served
returns-in_default-clause-served g c = served_no_get (g.M.SubMemory.state c.args.mem.now) c.args.self.now c.requires.shard c.args.key.now
    (ap (λ (z : ShardState). id_of z.keys c.args.key.now) (sym c.self.view_is) ∙ (sym c.id_of.ensures ∙ c.in_default.is))
