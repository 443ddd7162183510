use Rattle.std.proofs.Common.{◌≡◌, sym, ap, ◌∙◌, subst}
use Rattle.eleos_kvwire.specs.declared.trace.KvAct.{KvAct}
use Rattle.eleos_shard.specs.declared.reply.KvReply.{KvReply}
use Rattle.eleos_shard.specs.Steps.{HasServed, stat_reply}
use Rattle.eleos_shard.proofs.Serving.{served_stat}
use Rattle.eleos_shard.proofs.shard.Shard.serve.Goals as goal

pub returns-in-Stat-clause-served : goal.returns-in-Stat-clause-served
returns-in-Stat-clause-served g c =
    let m = g.M.SubMemory.state c.args.mem.now in
    let told : c.stat.result ≡ stat_reply c.args.self.now c.in-Stat.key = c.stat.ensures ∙ ap (stat_reply c.args.self.now) c.as_slice-in-Stat.ensures in
    subst (λ (z : KvAct × KvReply). HasServed m c.args.self.now z.0 z.1 m c.args.self.now) (λ i. (sym c.in-Stat.is i, sym told i)) (served_stat m c.args.self.now c.requires.shard c.in-Stat.key)
