use Rattle.std.proofs.Common.{◌≡◌, filter, not, None, Some, refl, sym, ◌∙◌, subst, arith}
use Rattle.std.specs.Vec.{with_items}
use Rattle.eleos_base.specs.declared.memory.Live.{Live}
use Rattle.eleos_base.specs.Plain.{block_refusal, starts_at}
use Rattle.eleos_base.specs.Plans.{IsCaller}
use Rattle.eleos_core.specs.declared.allots.marks.Mark.TheVariants.{Blank}
use Rattle.eleos_core.specs.Allots.{ArePages}
use Rattle.eleos_core.specs.Cells.{Cells}
use Rattle.eleos_core.proofs.MachineAllots.{block_within, cell_is, pages_few, free_makes, freed_in_order, own_is, pages_ok, parts_after, run_fits, core_after}
use Rattle.eleos_core.proofs.machine.Core.free.Goals as goal

pub overflow_add-first : goal.overflow_add-first
overflow_add-first c =
    let caller = subst (λ (cells : Cells). IsCaller cells.plan c.args.who) (sym c.self.view_is) c.requires.caller in
    let found = own_is c.self.inside c.self.invariant c.args.who caller c.args.at c.enclave_of-enclave.result c.index.result.now (λ own. own ≡ Some c.in-Ok.block) c.enclave_of-enclave.ensures c.index.ensures c.in-Ok.ensures.found in
    let within = block_within c.self.inside c.self.invariant c.args.who caller c.args.at c.in-Ok.block found in
    let fits = run_fits c.self.inside c.self.invariant c.args.who caller c.first_sub.result c.in-Ok.block.start c.in-Ok.block.len c.enclave_of-enclave.result c.enclave_of-enclave.ensures c.first_sub.ensures within in
    let most = pages_few c.self.inside c.self.invariant c.args.who caller in
    omega arith

pub mark_run-requires-clause-pages : goal.mark_run-requires-clause-pages
mark_run-requires-clause-pages c =
    let caller = subst (λ (cells : Cells). IsCaller cells.plan c.args.who) (sym c.self.view_is) c.requires.caller in
    subst ArePages (sym c.deref_mut.ensures.value) (pages_ok c.self.inside c.self.invariant c.args.who caller)

pub mark_run-requires-clause-within : goal.mark_run-requires-clause-within
mark_run-requires-clause-within c =
    let caller = subst (λ (cells : Cells). IsCaller cells.plan c.args.who) (sym c.self.view_is) c.requires.caller in
    let found = own_is c.self.inside c.self.invariant c.args.who caller c.args.at c.enclave_of-enclave.result c.index.result.now (λ own. own ≡ Some c.in-Ok.block) c.enclave_of-enclave.ensures c.index.ensures c.in-Ok.ensures.found in
    let within = block_within c.self.inside c.self.invariant c.args.who caller c.args.at c.in-Ok.block found in
    let fits = run_fits c.self.inside c.self.invariant c.args.who caller c.first_sub.result c.in-Ok.block.start c.in-Ok.block.len c.enclave_of-enclave.result c.enclave_of-enclave.ensures c.first_sub.ensures within in
    rw c.deref_mut.ensures.value fits

pub invariant_of-self : goal.invariant_of-self
invariant_of-self c =
    let caller = subst (λ (cells : Cells). IsCaller cells.plan c.args.who) (sym c.self.view_is) c.requires.caller in
    let blocks = c.take_from.ensures ∙ (λ t. filter (λ (block : Live). not (starts_at 1024 (c.enclave_of-enclave.ensures t) c.args.at block)) (cell_is c.self.inside c.self.invariant c.args.who caller c.enclave_of-enclave.result c.index_mut.result.now c.enclave_of-enclave.ensures c.index_mut.ensures.value t)) in
    core_after c.self.inside c.self.invariant c.args.who caller c.enclave_of-enclave.result c.take_from.new.cell c.deref_mut.result.now c.mark_run.new.pages c.enclave_of-enclave.ensures
    (rw blocks (freed_in_order c.self.inside c.self.invariant c.args.who caller c.args.at)) c.deref_mut.ensures.value c.mark_run.auto.pages c.mark_run.ensures.keeps

pub returns : goal.returns
returns c =
    let caller = subst (λ (cells : Cells). IsCaller cells.plan c.args.who) (sym c.self.view_is) c.requires.caller in
    let found = own_is c.self.inside c.self.invariant c.args.who caller c.args.at c.enclave_of-enclave.result c.index.result.now (λ own. own ≡ Some c.in-Ok.block) c.enclave_of-enclave.ensures c.index.ensures c.in-Ok.ensures.found in
    let mine = own_is c.self.inside c.self.invariant c.args.who caller c.args.at c.enclave_of-enclave.result c.index.result.now (λ own. None ≡ block_refusal c.args.who own) c.enclave_of-enclave.ensures c.index.ensures c.in-Ok.ensures.refusal in
    let blocks = c.take_from.ensures ∙ (λ t. filter (λ (block : Live). not (starts_at 1024 (c.enclave_of-enclave.ensures t) c.args.at block)) (cell_is c.self.inside c.self.invariant c.args.who caller c.enclave_of-enclave.result c.index_mut.result.now c.enclave_of-enclave.ensures c.index_mut.ensures.value t)) in
    let parts = parts_after c.self.inside c.self.invariant c.args.who caller (Blank None) (Blank None)
    c.first_sub.result c.in-Ok.block.start c.in-Ok.block.len c.in-Ok.block.len c.enclave_of-enclave.result c.deref_mut.result.now c.mark_run.new.pages
    c.enclave_of-enclave.ensures c.deref_mut.ensures.value c.mark_run.auto.pages c.first_sub.ensures refl refl c.mark_run.ensures.parts in
    record {
      makes = rw (← c.self.view_is, c.enclave_of-enclave.ensures) (free_makes c.self.inside c.self.invariant c.args.who caller c.args.at c.in-Ok.block found mine c.take_from.new.cell
          (with_items c.self.inside.pages c.mark_run.new.pages).items blocks parts);
    }
