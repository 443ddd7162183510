use Rattle.std.proofs.Common.{◌≡◌, ◌≤◌, ◌+◌, ℕ, List, sym, ◌∙◌, ap, arith, take, sum, sum_by, slice_index_or}
use Rattle.std.proofs.lemmas.List.{take_all, take-map}
use Rattle.std.proofs.lemmas.List.Sums.{sum_by-take-le, sum_by_more_le, sum_by_more, sum-map}
use Rattle.eleos_base.specs.declared.plan.EnclavePlan.{EnclavePlan}
use Rattle.eleos_base.proofs.geometry.first_page.Goals as goal

-- the pages of an enclave
abbrev pages_of : EnclavePlan → ℕ
pages_of made = made.pages

before_le : (all before : List EnclavePlan) (n : ℕ) → before ≡ all → sum_by pages_of all ≤ 4096 → sum_by pages_of (take n before) ≤ 4096
before_le all before n is le = rw is (omega (arith, sum_by-take-le pages_of all n))

pub overflow_add-first : goal.overflow_add-first
overflow_add-first c =
    let before : List EnclavePlan = take c.args.enclave c.as_slice.result.now in
    omega (
      arith,
      before_le c.args.plan.now.enclaves c.as_slice.result.now c.args.enclave c.as_slice.ensures c.requires.good.all_pages,
      sum_by_more_le pages_of before c.loop-made.made-index (record { pages = 0; frames = 0 }) c.loop-made-test.true,
    )

pub loop-made-preserved : goal.loop-made-preserved
loop-made-preserved c =
    let before : List EnclavePlan = take c.args.enclave c.as_slice.result.now in
    ap (λ n. n + pages_of (slice_index_or before c.loop-made.made-index (record { pages = 0; frames = 0 }))) c.loop-made.invariant
    ∙ sym (sum_by_more pages_of before c.loop-made.made-index (record { pages = 0; frames = 0 }) c.loop-made-test.true)

pub returns-clause-first : goal.returns-clause-first
returns-clause-first c =
    let before : List EnclavePlan = take c.args.enclave c.as_slice.result.now in
    c.loop-made.invariant ∙ (ap (sum_by pages_of) (take_all c.loop-made.made-index before c.loop-made-test.false ∙ ap (take c.args.enclave) c.as_slice.ensures)
    ∙ (sym (sum-map pages_of (take c.args.enclave c.args.plan.now.enclaves)) ∙ ap sum (sym (take-map pages_of c.args.enclave c.args.plan.now.enclaves))))

pub returns-clause-within : goal.returns-clause-within
returns-clause-within c =
    let before : List EnclavePlan = take c.args.enclave c.as_slice.result.now in
    omega (
      arith,
      before_le c.args.plan.now.enclaves c.as_slice.result.now c.args.enclave c.as_slice.ensures c.requires.good.all_pages,
      sum_by-take-le pages_of before c.loop-made.made-index,
    )
