use Rattle.std.proofs.Common.{refl, ap, ◌∙◌, subst, sym, List}
use Rattle.std.specs.List.{find}
use Rattle.eleos_base.specs.declared.memory.Live.{Live}
use Rattle.eleos_base.specs.Plain.{block_refusal, starts_at}
use Rattle.eleos_plain.specs.Enclaves.{IsEnclave}
use Rattle.eleos_plain.proofs.Giving.{not_shared, shared}
use Rattle.eleos_plain.proofs.Placing.{with_shared}
use Rattle.eleos_plain.proofs.enclave.Enclave.share.Goals as goal

pub returns-in-Err : goal.returns-in-Err
returns-in-Err c = rw (← c.self.view_is) (not_shared c.args.enclave c.args.who c.args.at c.in-Err.refusal _
    (c.in-Err.ensures.refusal ∙ ap (λ bs. block_refusal c.args.who (find (starts_at 1024 c.args.enclave c.args.at) bs)) c.deref.ensures.value))

pub invariant_of-self : goal.invariant_of-self
invariant_of-self c = let P : List Live → Type 0 = λ bs. IsEnclave bs c.self.inside.texts in subst P (sym c.share_block.ensures) (with_shared c.args.enclave c.args.at c.self.inside.blocks.items c.self.inside.texts c.self.invariant)

pub returns : goal.returns
returns c = rw (← c.self.view_is) (shared c.args.enclave c.args.who c.args.at _ _
    (c.in_default.ensures.refusal ∙ ap (λ bs. block_refusal c.args.who (find (starts_at 1024 c.args.enclave c.args.at) bs)) c.deref.ensures.value) c.share_block.ensures refl)
