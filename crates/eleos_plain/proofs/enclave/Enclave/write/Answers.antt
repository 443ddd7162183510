use Rattle.std.proofs.Common.{◌≡◌, ℕ, List, [], ◌+◌, ◌/◌, ◌%◌, None, refl, sym, ap, subst, ◌∙◌, length, slice_index_or, slice_set}
use Rattle.std.specs.List.{splice}
use Rattle.eleos_base.specs.Plain.{EnclaveMemory, access_refusal}
use Rattle.eleos_plain.proofs.Giving.{not_written, written}
use Rattle.eleos_plain.proofs.enclave.Enclave.write.Goals as goal

pub returns-in-Some-clause-gives : goal.returns-in-Some-clause-gives
returns-in-Some-clause-gives c = not_written c.args.enclave c.args.who c.args.at c.args.bytes.now c.in-Some.refusal c.args.self.now
    (c.in-Some.ensures ∙ ap (access_refusal 1024 c.args.enclave c.args.self.now.blocks (length c.args.self.now.texts) c.args.who c.args.at) c.len.ensures)

pub returns-clause-gives : goal.returns-clause-gives
returns-clause-gives c =
    let sub : ℕ = c.args.at.at / 1024 in
    let from : ℕ = c.args.at.at % 1024 in
    let texts : List (List ℕ) = c.self.inside.texts in
    let P : EnclaveMemory → Type 0 = λ m. None ≡ access_refusal 1024 c.args.enclave m.blocks (length m.texts) c.args.who c.args.at (length c.args.bytes.now) in
    let own : P c.args.self.now = c.in_default.ensures ∙ ap (access_refusal 1024 c.args.enclave c.args.self.now.blocks (length c.args.self.now.texts) c.args.who c.args.at) c.len.ensures in
    rw (← c.self.view_is) (written c.args.enclave c.args.who c.args.at c.args.bytes.now _ _ (subst P (sym c.self.view_is) own) refl
    (c.in_ok-write.ensures.ok ∙ ap (λ (bs : List ℕ). slice_set texts sub (splice (slice_index_or texts sub []) from (from + length bs) bs)) c.as_slice.ensures))
