use Rattle.std.proofs.Common.{◌≡◌, List, Some, sym, ap, ◌∙◌, subst}
use Rattle.eleos_base.specs.SubMemory.{MemoryState, owned}
use Rattle.eleos_kvwire.specs.declared.trace.KvAct.TheVariants.{Set}
use Rattle.eleos_sslab.specs.declared.block.SlabBlock.{SlabBlock}
use Rattle.eleos_sslab.specs.Slabs.{IsSlab}
use Rattle.eleos_shard.specs.declared.reply.KvReply.{KvReply}
use Rattle.eleos_shard.specs.declared.reply.KvReply.TheVariants.{Stored}
use Rattle.eleos_shard.specs.Keys.{id_of}
use Rattle.eleos_shard.specs.Shards.{IsShard, ShardState}
use Rattle.eleos_shard.specs.Steps.{HasServed}
use Rattle.eleos_shard.proofs.Asking.{replace_refused, replace_stored}
use Rattle.eleos_shard.proofs.Serving.{refused_here, served_replaced, shard_with}
use Rattle.eleos_shard.proofs.shard.Shard.replace.Goals as goal

pub set_refusal-requires : goal.set_refusal-requires
set_refusal-requires g c =
    let m = g.M.SubMemory.state c.args.mem.now in let s : ShardState = shard_with c.self.inside.slab c.self.inside.keys.ids in
    let is : IsShard (owned m) s = subst (IsShard (owned m)) (sym c.self.view_is) c.requires.shard in
    (replace_refused m (g.M.SubMemory.state c.replace.new.mem) s is c.args.value.now c.requires.some c.requires.most c.args.id c.replace.new.self c.args.key.now c.in-Err.why c.in-Err.ensures.bad_size c.in-Err.ensures.full c.in-Err.ensures.here c.in-Err.ensures.moves).may

pub returns-in-Ok : goal.returns-in-Ok
returns-in-Ok g c =
    let m = g.M.SubMemory.state c.args.mem.now in let m' = g.M.SubMemory.state c.replace.new.mem in let s : ShardState = shard_with c.self.inside.slab c.self.inside.keys.ids in
    let is : IsShard (owned m) s = subst (IsShard (owned m)) (sym c.self.view_is) c.requires.shard in
    let before : id_of s.keys c.args.key.now ≡ Some c.args.id = ap (λ (z : ShardState). id_of z.keys c.args.key.now) c.self.view_is ∙ c.requires.here in
    subst (λ (z : ShardState). HasServed m z (Set c.args.key.now c.args.value.now) Stored m' (shard_with c.replace.new.self c.set.new.self.ids)) c.self.view_is
    (served_replaced m m' s is c.args.key.now c.args.value.now c.replace.new.self c.set.new.self.ids c.args.id c.in-Ok.new c.requires.some before c.set.ensures.ids c.set.ensures.count c.in-Ok.ensures.ok c.replace.ensures.slab
    (replace_stored m m' s is c.args.value.now c.requires.some c.requires.most c.args.id c.replace.new.self c.in-Ok.new c.in-Ok.ensures.here c.in-Ok.ensures.moves))

pub returns-in-Err : goal.returns-in-Err
returns-in-Err g c =
    let m = g.M.SubMemory.state c.args.mem.now in let m' = g.M.SubMemory.state c.replace.new.mem in let s : ShardState = shard_with c.self.inside.slab c.self.inside.keys.ids in
    let is : IsShard (owned m) s = subst (IsShard (owned m)) (sym c.self.view_is) c.requires.shard in
    let before : id_of s.keys c.args.key.now ≡ Some c.args.id = ap (λ (z : ShardState). id_of z.keys c.args.key.now) c.self.view_is ∙ c.requires.here in
    let same : c.replace.new.self ≡ c.self.inside.slab = c.in-Err.ensures.err in
    subst (λ (z : KvReply × (ShardState × List SlabBlock)). HasServed m z.1.0 (Set c.args.key.now c.args.value.now) z.0 m' (shard_with z.1.1 c.self.inside.keys.ids)) (λ i. (sym c.set_refusal.ensures i, (c.self.view_is i, sym same i)))
    (refused_here m m' s is c.args.key.now c.args.value.now c.in-Err.why c.args.id before c.in-Err.ensures.kept (subst (IsSlab (owned m')) same c.replace.ensures.slab)
    (replace_refused m m' s is c.args.value.now c.requires.some c.requires.most c.args.id c.replace.new.self c.args.key.now c.in-Err.why c.in-Err.ensures.bad_size c.in-Err.ensures.full c.in-Err.ensures.here c.in-Err.ensures.moves))
