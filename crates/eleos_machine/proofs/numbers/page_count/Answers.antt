use Rattle.std.proofs.Common.{◌≡◌, ◌≤◌, ◌+◌, ℕ, List, sym, ◌∙◌, ap, arith, sum_by, slice_index_or}
use Rattle.std.proofs.lemmas.List.{take_all}
use Rattle.std.proofs.lemmas.List.Sums.{sum_by-take-le, sum_by_more_le, sum_by_more, sum-map}
use Rattle.eleos_base.specs.declared.plan.EnclavePlan.{EnclavePlan}
use Rattle.eleos_machine.proofs.numbers.page_count.Goals as goal

-- the pages of an enclave
abbrev pages_of : EnclavePlan → ℕ
pages_of made = made.pages

all_le : (all items : List EnclavePlan) → items ≡ all → sum_by pages_of all ≤ 4096 → sum_by pages_of items ≤ 4096
all_le all items is le = rw is le

pub overflow_add-pages : goal.overflow_add-pages
overflow_add-pages c = omega (
  arith,
  all_le c.args.plan.now.enclaves c.as_slice-made-items.result.now c.as_slice-made-items.ensures c.requires.all_pages,
  sum_by_more_le pages_of c.as_slice-made-items.result.now c.loop-made.made-index (record { pages = 0; frames = 0 }) c.loop-made-test.true,
)

pub loop-made-preserved : goal.loop-made-preserved
loop-made-preserved c =
    ap (λ n. n + pages_of (slice_index_or c.as_slice-made-items.result.now c.loop-made.made-index (record { pages = 0; frames = 0 }))) c.loop-made.invariant
    ∙ sym (sum_by_more pages_of c.as_slice-made-items.result.now c.loop-made.made-index (record { pages = 0; frames = 0 }) c.loop-made-test.true)

pub returns-clause-count : goal.returns-clause-count
returns-clause-count c =
    c.loop-made.invariant ∙ (ap (sum_by pages_of) (take_all c.loop-made.made-index c.as_slice-made-items.result.now c.loop-made-test.false ∙ c.as_slice-made-items.ensures)
    ∙ sym (sum-map pages_of c.args.plan.now.enclaves))

pub returns-clause-few : goal.returns-clause-few
returns-clause-few c = omega (
  arith,
  all_le c.args.plan.now.enclaves c.as_slice-made-items.result.now c.as_slice-made-items.ensures c.requires.all_pages,
  sum_by-take-le pages_of c.as_slice-made-items.result.now c.loop-made.made-index,
)
