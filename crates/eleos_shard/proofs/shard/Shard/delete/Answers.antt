use Rattle.std.proofs.Common.{◌≡◌, ◌+◌, ℕ, length, cond, is_some, Option, Some, sym, ap, ◌∙◌, subst}
use Rattle.eleos_base.specs.SubMemory.{owned}
use Rattle.eleos_sslab.specs.declared.slab.ObjId.{ObjId}
use Rattle.eleos_kvwire.specs.declared.trace.KvAct.TheVariants.{Delete}
use Rattle.eleos_shard.specs.declared.reply.KvReply.TheVariants.{Deleted, Missing}
use Rattle.eleos_shard.specs.Shards.{IsShard, ShardState}
use Rattle.eleos_shard.specs.Steps.{HasServed}
use Rattle.eleos_shard.proofs.Serving.{served_deleted, served_no_delete, shard_with}
use Rattle.eleos_shard.proofs.shard.Shard.delete.Goals as goal

pub returns-in-Some : goal.returns-in-Some
returns-in-Some g c =
    let m = g.M.SubMemory.state c.args.mem.now in let m' = g.M.SubMemory.state c.take.new.mem in let s : ShardState = shard_with c.self.inside.slab c.self.inside.keys.ids in
    let is : IsShard (owned m) s = subst (IsShard (owned m)) (sym c.self.view_is) c.requires.shard in
    let count : length c.remove.new.self.ids + 1 ≡ length s.keys = ap (λ (o : Option ObjId). length c.remove.new.self.ids + cond (is_some o) 1 0) (sym c.in-Some.is) ∙ c.remove.ensures.count in
    subst (λ (z : ShardState). HasServed m z (Delete c.args.key.now) Deleted m' (shard_with c.take.new.self c.remove.new.self.ids)) c.self.view_is
    (served_deleted m m' s is c.args.key.now c.take.new.self c.remove.new.self.ids c.in-Some.id (sym c.remove.ensures.was ∙ c.in-Some.is) c.remove.ensures.ids count c.take.ensures.gone c.take.ensures.others c.take.ensures.slab c.take.ensures.calls)

pub returns-in-None : goal.returns-in-None
returns-in-None g c =
    let m = g.M.SubMemory.state c.args.mem.now in let s : ShardState = shard_with c.self.inside.slab c.self.inside.keys.ids in
    let is : IsShard (owned m) s = subst (IsShard (owned m)) (sym c.self.view_is) c.requires.shard in
    subst (λ (z : ShardState). HasServed m z (Delete c.args.key.now) Missing m (shard_with c.self.inside.slab c.remove.new.self.ids)) c.self.view_is
    (served_no_delete m s is c.args.key.now c.remove.new.self.ids c.in-None.ensures.none (sym c.remove.ensures.was ∙ c.in-None.is))
