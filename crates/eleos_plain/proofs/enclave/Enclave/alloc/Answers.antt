use Rattle.std.proofs.Common.{◌≡◌, true, false, ap, ◌∙◌, subst, sym, List, ℕ, arith, rules, Some, None, length, ◌≤◌, ◌+◌}
use Rattle.eleos_base.specs.declared.memory.Live.{Live}
use Rattle.eleos_base.specs.Plain.{is_good_size, lowest_run}
use Rattle.eleos_plain.specs.Enclaves.{IsEnclave}
use Rattle.eleos_plain.proofs.Giving.{allocated, bad_size, no_space}
use Rattle.eleos_plain.proofs.Placing.{among_cleared, found-run, placed, placed-le, some_of_good}
use Rattle.eleos_plain.proofs.enclave.Enclave.alloc.Goals as goal

pub returns-then-not-is_good_size-clause-gives : goal.returns-then-not-is_good_size-clause-gives
returns-then-not-is_good_size-clause-gives c = bad_size c.args.enclave c.args.who c.args.bytes c.args.self.now (let bad : is_good_size c.args.bytes ≡ false = search rules in bad)

pub returns-in_default-clause-gives : goal.returns-in_default-clause-gives
returns-in_default-clause-gives c =
    let good : is_good_size c.args.bytes ≡ true = search rules in
    rw (← c.self.view_is) (no_space c.args.enclave c.args.who c.args.bytes _ good
    (ap (lowest_run c.self.inside.blocks.items (length c.self.inside.texts)) (sym c.subs_for-len.ensures) ∙ found-run c.self.inside.blocks.items c.deref.result.now c.self.inside.texts c.count.result c.subs_for-len.result None c.deref.ensures.value c.count.ensures c.in_default.ensures))

pub clear-requires : goal.clear-requires
clear-requires c =
    let good : is_good_size c.args.bytes ≡ true = search rules in
    placed-le c.self.inside.blocks.items c.self.inside.texts c.subs_for-len.result c.in-Some.start c.args.who false (some_of_good c.args.bytes c.subs_for-len.result c.subs_for-len.ensures good) c.self.invariant
    (found-run c.self.inside.blocks.items c.deref.result.now c.self.inside.texts c.count.result c.subs_for-len.result _ c.deref.ensures.value c.count.ensures c.in-Some.ensures)

pub overflow_mul-result : goal.overflow_mul-result
overflow_mul-result c =
    let good : is_good_size c.args.bytes ≡ true = search rules in
    let le = placed-le c.self.inside.blocks.items c.self.inside.texts c.subs_for-len.result c.in-Some.start c.args.who false (some_of_good c.args.bytes c.subs_for-len.result c.subs_for-len.ensures good) c.self.invariant
    (found-run c.self.inside.blocks.items c.deref.result.now c.self.inside.texts c.count.result c.subs_for-len.result _ c.deref.ensures.value c.count.ensures c.in-Some.ensures) in
    let small = c.self.invariant.small in
    omega (arith, le, small)

pub invariant_of-self-2 : goal.invariant_of-self-2
invariant_of-self-2 c =
    let good : is_good_size c.args.bytes ≡ true = search rules in
    let P : List Live → Type 0 = λ bs. IsEnclave bs c.clear.new.self in
    subst P (sym c.in_ok-add_block.ensures.ok) (among_cleared _ c.self.inside.texts c.clear.new.self c.in-Some.start c.subs_for-len.result c.clear.ensures
    (placed c.self.inside.blocks.items c.self.inside.texts c.subs_for-len.result c.in-Some.start c.args.who false (some_of_good c.args.bytes c.subs_for-len.result c.subs_for-len.ensures good) c.self.invariant
    (found-run c.self.inside.blocks.items c.deref.result.now c.self.inside.texts c.count.result c.subs_for-len.result _ c.deref.ensures.value c.count.ensures c.in-Some.ensures)))
