-- The rule of the queue of cell numbers.
use Rattle.std.specs.Prelude.{◌≡◌, ℕ, ◌+◌, ◌<◌, List, length, slice_index_or, count_by, ◌==◌, All}
use Rattle.std.specs.List.{sum_by}
use Rattle.eleos_words.specs.declared.layout.TheConstants.{CELLS}
use Rattle.eleos_work.specs.declared.rule.JobView.{JobView}

-- a pass that has pushed and popped these numbers, the oldest first
abbrev pub job_view : List ℕ → List ℕ → JobView
job_view pushed popped = record { pushed = pushed; popped = popped }

-- how often the number stands in the list
abbrev pub times : ℕ → List ℕ → ℕ
times c xs = count_by (λ x. x == c) xs

-- Each number in the queue is that of a cell. All passes together pushed it as often as they popped
-- it and it stands in the queue.
pub record Kept (items : List ℕ) (views : List JobView) : Type 0 where
  pub cells : All (λ c. c < CELLS) items
  pub counts : (c : ℕ) → sum_by (λ v. times c v.pushed) views
      ≡ sum_by (λ v. times c v.popped) views + times c items

-- These numbers stood in the queue at one moment. The views say what each pass had pushed and popped
-- by then, and this one is among them.
pub record Stood (mine : JobView) (items : List ℕ) : Type 0 where
  pub views : List JobView
  pub kept : Kept items views
  pub place : ℕ
  pub within : place < length views
  pub here : slice_index_or views place mine ≡ mine
