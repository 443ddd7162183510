use Rattle.std.proofs.Common.{◌≡◌, Some, false, refl, sym, ◌∙◌, subst, arith}
use Rattle.std.specs.Vec.{with_items}
use Rattle.eleos_base.specs.Plain.{subs_for, with_block}
use Rattle.eleos_base.specs.Plans.{IsCaller}
use Rattle.eleos_core.specs.declared.allots.marks.Mark.TheVariants.{Blank}
use Rattle.eleos_core.specs.Allots.{ArePages}
use Rattle.eleos_core.specs.Cells.{Cells}
use Rattle.eleos_core.proofs.Numbers.{some_subs}
use Rattle.eleos_core.proofs.MachineAllots.{alloc_in_order, alloc_makes, alloc_within, blocks_home, cell_is, parts_after, core_after, pages_few, pages_ok, run_fits, run_is}
use Rattle.eleos_core.proofs.SubPages.{good_size}
use Rattle.eleos_core.proofs.machine.Core.alloc.Goals as goal

pub overflow_add-first : goal.overflow_add-first
overflow_add-first c =
    let caller = subst (λ (cells : Cells). IsCaller cells.plan c.args.who) (sym c.self.view_is) c.requires.caller in
    let good = good_size c.args.bytes c.if-bytes-eq0.false c.if-bytes-gt-MOST_BLOCK_BYTES.false in
    let found = run_is c.self.inside c.self.invariant c.args.who caller c.args.bytes c.enclave_of-enclave.result c.subs_of-subs.result c.div_ceil-len.result c.index.result.now c.lowest_in.result
    c.enclave_of-enclave.ensures c.index.ensures c.subs_of-subs.ensures c.div_ceil-len.ensures c.lowest_in.ensures ∙ c.in-Some.is in
    let within = alloc_within c.self.inside c.self.invariant c.args.who caller c.args.bytes c.in-Some.start good found in
    let fits = run_fits c.self.inside c.self.invariant c.args.who caller c.first_sub.result c.in-Some.start (subs_for 1024 c.args.bytes) c.enclave_of-enclave.result c.enclave_of-enclave.ensures c.first_sub.ensures within in
    let most = pages_few c.self.inside c.self.invariant c.args.who caller in
    omega arith

pub mark_run-requires-clause-pages : goal.mark_run-requires-clause-pages
mark_run-requires-clause-pages c =
    let caller = subst (λ (cells : Cells). IsCaller cells.plan c.args.who) (sym c.self.view_is) c.requires.caller in
    subst ArePages (sym c.deref_mut.ensures.value) (pages_ok c.self.inside c.self.invariant c.args.who caller)

pub mark_run-requires-clause-within : goal.mark_run-requires-clause-within
mark_run-requires-clause-within c =
    let caller = subst (λ (cells : Cells). IsCaller cells.plan c.args.who) (sym c.self.view_is) c.requires.caller in
    let good = good_size c.args.bytes c.if-bytes-eq0.false c.if-bytes-gt-MOST_BLOCK_BYTES.false in
    let found = run_is c.self.inside c.self.invariant c.args.who caller c.args.bytes c.enclave_of-enclave.result c.subs_of-subs.result c.div_ceil-len.result c.index.result.now c.lowest_in.result
    c.enclave_of-enclave.ensures c.index.ensures c.subs_of-subs.ensures c.div_ceil-len.ensures c.lowest_in.ensures ∙ c.in-Some.is in
    let within = alloc_within c.self.inside c.self.invariant c.args.who caller c.args.bytes c.in-Some.start good found in
    let fits = run_fits c.self.inside c.self.invariant c.args.who caller c.first_sub.result c.in-Some.start (subs_for 1024 c.args.bytes) c.enclave_of-enclave.result c.enclave_of-enclave.ensures c.first_sub.ensures within in
    rw (c.deref_mut.ensures.value, c.div_ceil-len.ensures) fits

pub overflow_mul-result : goal.overflow_mul-result
overflow_mul-result c =
    let caller = subst (λ (cells : Cells). IsCaller cells.plan c.args.who) (sym c.self.view_is) c.requires.caller in
    let good = good_size c.args.bytes c.if-bytes-eq0.false c.if-bytes-gt-MOST_BLOCK_BYTES.false in
    let found = run_is c.self.inside c.self.invariant c.args.who caller c.args.bytes c.enclave_of-enclave.result c.subs_of-subs.result c.div_ceil-len.result c.index.result.now c.lowest_in.result
    c.enclave_of-enclave.ensures c.index.ensures c.subs_of-subs.ensures c.div_ceil-len.ensures c.lowest_in.ensures ∙ c.in-Some.is in
    let within = alloc_within c.self.inside c.self.invariant c.args.who caller c.args.bytes c.in-Some.start good found in
    let fits = run_fits c.self.inside c.self.invariant c.args.who caller c.first_sub.result c.in-Some.start (subs_for 1024 c.args.bytes) c.enclave_of-enclave.result c.enclave_of-enclave.ensures c.first_sub.ensures within in
    let most = pages_few c.self.inside c.self.invariant c.args.who caller in
    omega arith

pub invariant_of-self-2 : goal.invariant_of-self-2
invariant_of-self-2 c =
    let caller = subst (λ (cells : Cells). IsCaller cells.plan c.args.who) (sym c.self.view_is) c.requires.caller in
    let good = good_size c.args.bytes c.if-bytes-eq0.false c.if-bytes-gt-MOST_BLOCK_BYTES.false in
    let found = run_is c.self.inside c.self.invariant c.args.who caller c.args.bytes c.enclave_of-enclave.result c.subs_of-subs.result c.div_ceil-len.result c.index.result.now c.lowest_in.result
    c.enclave_of-enclave.ensures c.index.ensures c.subs_of-subs.ensures c.div_ceil-len.ensures c.lowest_in.ensures ∙ c.in-Some.is in
    let order = alloc_in_order c.self.inside c.self.invariant c.args.who caller c.args.bytes c.in-Some.start good found (some_subs c.args.bytes (subs_for 1024 c.args.bytes) refl (omega (arith, c.if-bytes-eq0.false))) in
    let blocks : c.put_in.new.cell ≡ with_block (record { start = c.in-Some.start; len = subs_for 1024 c.args.bytes; owner = c.args.who; is_shared = false }) (blocks_home c.self.inside c.self.invariant c.args.who caller)
    = c.in_ok-put_in.ensures.ok ∙ (λ t. with_block (record { start = c.in-Some.start; len = c.div_ceil-len.ensures t; owner = c.args.who; is_shared = false })
    (cell_is c.self.inside c.self.invariant c.args.who caller c.enclave_of-enclave.result c.index_mut.result.now c.enclave_of-enclave.ensures c.index_mut.ensures.value t)) in
    core_after c.self.inside c.self.invariant c.args.who caller c.enclave_of-enclave.result c.put_in.new.cell c.deref_mut.result.now c.mark_run.new.pages c.enclave_of-enclave.ensures
    (rw blocks order) c.deref_mut.ensures.value c.mark_run.auto.pages c.mark_run.ensures.keeps

pub returns-clause-makes : goal.returns-clause-makes
returns-clause-makes c =
    let caller = subst (λ (cells : Cells). IsCaller cells.plan c.args.who) (sym c.self.view_is) c.requires.caller in
    let good = good_size c.args.bytes c.if-bytes-eq0.false c.if-bytes-gt-MOST_BLOCK_BYTES.false in
    let found = run_is c.self.inside c.self.invariant c.args.who caller c.args.bytes c.enclave_of-enclave.result c.subs_of-subs.result c.div_ceil-len.result c.index.result.now c.lowest_in.result
    c.enclave_of-enclave.ensures c.index.ensures c.subs_of-subs.ensures c.div_ceil-len.ensures c.lowest_in.ensures ∙ c.in-Some.is in
    let blocks : c.put_in.new.cell ≡ with_block (record { start = c.in-Some.start; len = subs_for 1024 c.args.bytes; owner = c.args.who; is_shared = false }) (blocks_home c.self.inside c.self.invariant c.args.who caller)
    = c.in_ok-put_in.ensures.ok ∙ (λ t. with_block (record { start = c.in-Some.start; len = c.div_ceil-len.ensures t; owner = c.args.who; is_shared = false })
    (cell_is c.self.inside c.self.invariant c.args.who caller c.enclave_of-enclave.result c.index_mut.result.now c.enclave_of-enclave.ensures c.index_mut.ensures.value t)) in
    let parts = parts_after c.self.inside c.self.invariant c.args.who caller
    (Blank (Some (record { start = c.in-Some.start; len = c.div_ceil-len.result; owner = c.args.who; is_shared = false })))
    (Blank (Some (record { start = c.in-Some.start; len = subs_for 1024 c.args.bytes; owner = c.args.who; is_shared = false })))
    c.first_sub.result c.in-Some.start c.div_ceil-len.result (subs_for 1024 c.args.bytes) c.enclave_of-enclave.result c.deref_mut.result.now c.mark_run.new.pages
    c.enclave_of-enclave.ensures c.deref_mut.ensures.value c.mark_run.auto.pages c.first_sub.ensures
    (λ t. Blank (Some (record { start = c.in-Some.start; len = c.div_ceil-len.ensures t; owner = c.args.who; is_shared = false }))) c.div_ceil-len.ensures c.mark_run.ensures.parts in
    rw (← c.self.view_is, c.enclave_of-enclave.ensures) (alloc_makes c.self.inside c.self.invariant c.args.who caller c.args.bytes c.in-Some.start good found c.put_in.new.cell
    (with_items c.self.inside.pages c.mark_run.new.pages).items blocks parts)
