use Rattle.std.proofs.Common.{subst, sym, List, ℕ}
use Rattle.eleos_base.specs.declared.memory.Live.{Live}
use Rattle.eleos_core.proofs.Numbers.{some_subs}
use Rattle.eleos_plain.specs.Enclaves.{IsEnclave}
use Rattle.eleos_plain.proofs.Placing.{either_way, found-run, placed}
use Rattle.eleos_plain.proofs.enclave.Enclave.open.Goals as goal

pub invariant_of-self : goal.invariant_of-self
invariant_of-self c =
    let P : List Live → Type 0 = λ bs. IsEnclave bs c.self.inside.texts in
    either_way c.add_block.result c.add_block.ensures.ok c.add_block.ensures.err
    (λ is. subst P (sym is) (placed c.self.inside.blocks.items c.self.inside.texts c.subs_for-len.result c.in-Some.start _ _ (some_subs c.args.block.now.bytes c.subs_for-len.result c.subs_for-len.ensures c.requires) c.self.invariant
    (found-run c.self.inside.blocks.items c.deref.result.now c.self.inside.texts c.count.result c.subs_for-len.result _ c.deref.ensures.value c.count.ensures c.in-Some.ensures)))
    (λ is. subst P (sym is) c.self.invariant)
