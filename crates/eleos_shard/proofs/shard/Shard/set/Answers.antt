use Rattle.std.proofs.Common.{◌≡◌, ◌≤◌, length, None, sym, ap, ◌∙◌, arith}
use Rattle.eleos_shard.specs.Keys.{id_of}
use Rattle.eleos_shard.specs.Shards.{ShardState}
use Rattle.eleos_shard.proofs.Serving.{served_full}
use Rattle.eleos_shard.proofs.shard.Shard.set.Goals as goal

pub returns-then-len-ge-MOST_KEYS-clause-served : goal.returns-then-len-ge-MOST_KEYS-clause-served
returns-then-len-ge-MOST_KEYS-clause-served g c = served_full (g.M.SubMemory.state c.args.mem.now) c.args.self.now c.requires.shard c.args.key.now c.args.value.now
    (ap (λ (z : ShardState). id_of z.keys c.args.key.now) (sym c.self.view_is) ∙ (sym c.id_of.ensures ∙ c.in_default.is))
    (let e = ap (λ (z : ShardState). length z.keys) c.self.view_is in let n = c.len.ensures in let t = c.if-len-ge-MOST_KEYS.true in omega (arith, e, n, t))
