use Rattle.std.proofs.Common.{ap, ◌∙◌, subst, sym, List, length}
use Rattle.std.specs.List.{find}
use Rattle.eleos_base.specs.declared.memory.Live.{Live}
use Rattle.eleos_base.specs.Plain.{block_refusal, starts_at}
use Rattle.eleos_core.proofs.InOrder.{found-le}
use Rattle.eleos_plain.specs.Enclaves.{IsEnclave}
use Rattle.eleos_plain.proofs.Giving.{freed, not_freed}
use Rattle.eleos_plain.proofs.Placing.{among_cleared, taken_away}
use Rattle.eleos_plain.proofs.enclave.Enclave.free.Goals as goal

pub returns-in-Err : goal.returns-in-Err
returns-in-Err c = rw (← c.self.view_is) (not_freed c.args.enclave c.args.who c.args.at c.in-Err.refusal _
    (c.in-Err.ensures.refusal ∙ ap (λ bs. block_refusal c.args.who (find (starts_at 1024 c.args.enclave c.args.at) bs)) c.deref.ensures.value))

pub clear-requires : goal.clear-requires
clear-requires c = found-le (starts_at 1024 c.args.enclave c.args.at) c.self.inside.blocks.items c.in-Ok.block 0 (length c.self.inside.texts) c.self.invariant.in_order
    (ap (find (starts_at 1024 c.args.enclave c.args.at)) (sym c.deref.ensures.value) ∙ c.in-Ok.ensures.found)

pub invariant_of-self : goal.invariant_of-self
invariant_of-self c = let P : List Live → Type 0 = λ bs. IsEnclave bs c.clear.new.self in subst P (sym c.remove_at.ensures.items)
    (among_cleared _ c.self.inside.texts c.clear.new.self c.in-Ok.block.start c.in-Ok.block.len c.clear.ensures (taken_away c.args.enclave c.args.at c.self.inside.blocks.items c.self.inside.texts c.self.invariant))
