use Rattle.std.proofs.Common.{◌≡◌, ℕ, List, ◌++◌, length, take, drop, Some, refl, sym, ap, ◌∙◌, subst}
use Rattle.std.proofs.Math.Seq.{take-append_seam}
use Rattle.eleos_base.specs.declared.memory.Reply.TheVariants as replies
use Rattle.eleos_base.specs.SubMemory.{owned}
use Rattle.eleos_kvwire.specs.declared.trace.KvAct.TheVariants.{Get}
use Rattle.eleos_shard.specs.declared.reply.KvReply.{KvReply}
use Rattle.eleos_shard.specs.declared.reply.KvReply.TheVariants.{Value}
use Rattle.eleos_shard.specs.Keys.{id_of}
use Rattle.eleos_shard.specs.Shards.{IsShard, ShardState}
use Rattle.eleos_shard.specs.Steps.{HasServed, get_refusal}
use Rattle.eleos_shard.proofs.Serving.{served_fault, served_value, shard_with}
use Rattle.eleos_shard.proofs.shard.Shard.read.Goals as goal

pub returns-in-Ok : goal.returns-in-Ok
returns-in-Ok g c key e =
    let m = g.M.SubMemory.state c.args.mem.now in let m' = g.M.SubMemory.state c.get.new.mem in let s : ShardState = shard_with c.self.inside.slab c.self.inside.keys.ids in
    let is : IsShard (owned m) s = subst (IsShard (owned m)) (sym c.self.view_is) c.requires.shard in
    let before : id_of s.keys key ≡ Some c.args.id = ap (λ (z : ShardState). id_of z.keys key) c.self.view_is ∙ e in
    let new : List ℕ = c.get.new.buf in let old : List ℕ = c.args.text.items in
    let whole : take c.args.text.len (new ++ drop (length new) old) ≡ new = ap (λ (n : ℕ). take n (new ++ drop (length new) old)) (sym (c.get.auto.buf ∙ c.deref_mut.ensures.len)) ∙ take-append_seam new (drop (length new) old) in
    let text : take c.in-Ok.len new ≡ c.of.result = sym (c.of.ensures ∙ (c.truncate.ensures.items ∙ ap (take c.in-Ok.len) whole)) in
    subst (λ (z : ShardState). HasServed m z (Get key) (Value c.of.result) m' z) c.self.view_is
    (served_value m m' s is key c.args.id before c.get.ensures.same c.get.ensures.slab (replies.Text (take c.in-Ok.len new)) c.in-Ok.ensures.one c.of.result (ap (λ (z : List ℕ). replies.Text z) text))

pub returns-in-Err : goal.returns-in-Err
returns-in-Err g c key e =
    let m = g.M.SubMemory.state c.args.mem.now in let m' = g.M.SubMemory.state c.get.new.mem in let s : ShardState = shard_with c.self.inside.slab c.self.inside.keys.ids in
    let is : IsShard (owned m) s = subst (IsShard (owned m)) (sym c.self.view_is) c.requires.shard in
    let before : id_of s.keys key ≡ Some c.args.id = ap (λ (z : ShardState). id_of z.keys key) c.self.view_is ∙ e in
    subst (λ (z : KvReply × ShardState). HasServed m z.1 (Get key) z.0 m' z.1) (λ i. (sym c.get_refusal.ensures i, c.self.view_is i))
    (served_fault m m' s is key c.args.id before c.get.ensures.same c.get.ensures.slab _ c.in-Err.ensures.one c.in-Err.why c.in-Err.ensures.fault refl)
