use Rattle.std.proofs.Common.{◌≡◌, ◌+◌, ◌<◌, ℕ, List, length, Bool, cond, Option, Some, None, sym, ap, ◌∙◌, subst, arith}
use Rattle.std.specs.Map.{update}
use Rattle.std.specs.Str.{bytes_eq}
use Rattle.eleos_base.specs.SubMemory.{owned}
use Rattle.eleos_kvwire.specs.declared.trace.KvAct.TheVariants.{Set}
use Rattle.eleos_sslab.specs.declared.block.SlabBlock.{SlabBlock}
use Rattle.eleos_sslab.specs.declared.slab.ObjId.{ObjId}
use Rattle.eleos_sslab.specs.Slabs.{IsSlab}
use Rattle.eleos_shard.specs.declared.reply.KvReply.{KvReply}
use Rattle.eleos_shard.specs.declared.reply.KvReply.TheVariants.{Stored}
use Rattle.eleos_shard.specs.Keys.{id_of}
use Rattle.eleos_shard.specs.Shards.{IsShard, ShardState}
use Rattle.eleos_shard.specs.Steps.{HasServed}
use Rattle.eleos_shard.proofs.Asking.{put_refused}
use Rattle.eleos_shard.proofs.Pieces.{stored_by}
use Rattle.eleos_shard.proofs.Serving.{refused_new, served_put, shard_with}
use Rattle.eleos_shard.proofs.shard.Shard.add.Goals as goal

pub set_refusal-requires : goal.set_refusal-requires
set_refusal-requires g c =
    let m = g.M.SubMemory.state c.args.mem.now in let s : ShardState = shard_with c.self.inside.slab c.self.inside.keys.ids in
    let is : IsShard (owned m) s = subst (IsShard (owned m)) (sym c.self.view_is) c.requires.shard in
    (put_refused m (g.M.SubMemory.state c.put.new.mem) s is c.args.value.now c.requires.some c.requires.most c.args.key.items c.put.new.self c.in-Err.why c.in-Err.ensures.bad_size c.in-Err.ensures.full c.in-Err.ensures.calls).may

pub returns-in-Ok-clause-served : goal.returns-in-Ok-clause-served
returns-in-Ok-clause-served g c =
    let m = g.M.SubMemory.state c.args.mem.now in let m' = g.M.SubMemory.state c.put.new.mem in let s : ShardState = shard_with c.self.inside.slab c.self.inside.keys.ids in
    let is : IsShard (owned m) s = subst (IsShard (owned m)) (sym c.self.view_is) c.requires.shard in
    let key : List ℕ = c.args.key.items in
    let none : id_of s.keys key ≡ None = ap (λ (z : ShardState). id_of z.keys key) c.self.view_is ∙ c.requires.new in
    let few : length s.keys < 1024 = (let e = ap (λ (z : ShardState). length z.keys) c.self.view_is in let n = c.requires.few in omega (arith, e, n)) in
    let ids : (q : List ℕ) → id_of c.add.new.self.ids q ≡ update bytes_eq (id_of s.keys) key (Some c.in-Ok.id) q = λ q. c.add.ensures.ids q ∙ ap (λ (z : Option ObjId). cond (bytes_eq key q) (Some c.in-Ok.id) z) (c.reserve.ensures.ids q) in
    subst (λ (z : ShardState). HasServed m z (Set key c.args.value.now) Stored m' (shard_with c.put.new.self c.add.new.self.ids)) c.self.view_is
    (served_put m m' s is key c.args.value.now c.put.new.self c.add.new.self.ids c.in-Ok.id c.requires.some none few ids (c.add.ensures.count ∙ ap (λ n. n + 1) c.reserve.ensures.count) c.in-Ok.ensures.new c.in-Ok.ensures.ok c.put.ensures.slab
    (stored_by m m' s.blocks c.put.new.self c.args.value.now c.in-Ok.id c.in-Ok.ensures.calls))

pub returns-in-Err-clause-served : goal.returns-in-Err-clause-served
returns-in-Err-clause-served g c =
    let m = g.M.SubMemory.state c.args.mem.now in let m' = g.M.SubMemory.state c.put.new.mem in let s : ShardState = shard_with c.self.inside.slab c.self.inside.keys.ids in
    let is : IsShard (owned m) s = subst (IsShard (owned m)) (sym c.self.view_is) c.requires.shard in
    let key : List ℕ = c.args.key.items in
    let few : length s.keys < 1024 = (let e = ap (λ (z : ShardState). length z.keys) c.self.view_is in let n = c.requires.few in omega (arith, e, n)) in
    let same : c.put.new.self ≡ c.self.inside.slab = c.in-Err.ensures.err in
    subst (λ (z : KvReply × (ShardState × List SlabBlock)). HasServed m z.1.0 (Set key c.args.value.now) z.0 m' (shard_with z.1.1 c.reserve.new.self.ids)) (λ i. (sym c.set_refusal.ensures i, (c.self.view_is i, sym same i)))
    (refused_new m m' s is key c.args.value.now c.in-Err.why c.reserve.new.self.ids c.reserve.ensures.ids c.reserve.ensures.count c.in-Err.ensures.kept (subst (IsSlab (owned m')) same c.put.ensures.slab)
    (put_refused m m' s is c.args.value.now c.requires.some c.requires.most key c.put.new.self c.in-Err.why c.in-Err.ensures.bad_size c.in-Err.ensures.full c.in-Err.ensures.calls) few)
