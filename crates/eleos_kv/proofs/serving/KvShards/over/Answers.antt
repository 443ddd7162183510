use Rattle.std.proofs.Common.{rules, ℕ, ◌≡◌, length, sym, ap}
use Rattle.eleos_base.specs.declared.plot.Base.{Base}
use Rattle.eleos_kv.specs.Cells.{ShardPart}
use Rattle.eleos_kv.proofs.Opening.{new_kv}
use Rattle.eleos_kv.proofs.serving.KvShards.over.Goals as goal

pub invariant_of-shards : goal.invariant_of-shards
invariant_of-shards g c =
    let count : c.len-shards.result ≡ length c.in_ok-cells.cells.items = search rules in (
      new_kv c.args.machine c.in_ok-opened.opened.0 c.in_ok-cells.cells.items c.len-shards.result c.args.clients c.requires.machine c.in_ok-cells.ensures.new c.in_ok-cells.ensures.count count c.requires.clients.1 c.in_ok-opened.ensures.base,
      sym (ap (λ (b : Base ShardPart ℕ). b.grounds) c.in_ok-opened.ensures.base),
    )
