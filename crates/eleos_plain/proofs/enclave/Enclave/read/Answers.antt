use Rattle.std.proofs.Common.{◌≡◌, ℕ, List, [], ◌+◌, ◌-◌, ◌/◌, ◌%◌, take, drop, slice_index_or, ◌∙◌, ap, ap₂, arith}
use Rattle.eleos_base.specs.Plain.{EnclaveMemory}
use Rattle.eleos_plain.proofs.Giving.{not_read, read_is}
use Rattle.eleos_plain.proofs.enclave.Enclave.read.Goals as goal

pub returns-in-Some : goal.returns-in-Some
returns-in-Some c = not_read c.args.enclave c.args.who c.args.at c.args.len c.in-Some.refusal c.args.self.now c.in-Some.ensures

pub returns : goal.returns
returns c =
    let count : c.args.at.at % 1024 + c.args.len - c.args.at.at % 1024 ≡ c.args.len = omega arith in
    let text : c.text-text.result.now ≡ slice_index_or c.args.self.now.texts (c.args.at.at / 1024) []
    = c.text-text.ensures.text ∙ ap (λ (m : EnclaveMemory). slice_index_or m.texts (c.args.at.at / 1024) []) c.self.view_is in
    read_is c.args.enclave c.args.who c.args.at c.args.len c.of.result c.args.self.now c.in_default.ensures
    (c.of.ensures ∙ (c.in_ok-bytes.ensures.items ∙ ap₂ (λ (n : ℕ) (t : List ℕ). take n (drop (c.args.at.at % 1024) t)) count text))
