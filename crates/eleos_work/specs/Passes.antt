-- What contracts see of the passes of a queue of jobs.
use Rattle.std.specs.Prelude.{◌≡◌, ℕ, ◌+◌, ◌^◌, ◌-◌, ◌<◌, Bool, true, false, List, [], ◌∷◌, ◌++◌, min}
use Rattle.crossbeam_queue.specs.Fifo.{Held}
use Rattle.crossbeam_queue.specs.Passes.{view, ruled_capacity, IsPassOf}
use Rattle.eleos_words.specs.declared.layout.TheConstants.{CELLS}
use Rattle.eleos_work.specs.declared.jobs.Jobs.{Jobs}
use Rattle.eleos_work.specs.declared.jobs.JobPass.{JobPass}
use Rattle.eleos_work.specs.Rules.{Stood}

-- the numbers that the pass has pushed, the oldest first
abbrev pub pushed_by : JobPass → List ℕ
pushed_by p = (view p.pass).pushed

-- the numbers that the pass has popped, the oldest first
abbrev pub popped_by : JobPass → List ℕ
popped_by p = (view p.pass).popped

-- it is a pass of these jobs
abbrev pub IsOf : Jobs → JobPass → Type 0
IsOf jobs p = IsPassOf jobs.queue p.pass

-- for how many numbers the queue has room
abbrev pub room_of : Jobs → ℕ
room_of jobs = ruled_capacity jobs.queue

-- it has pushed and popped nothing yet
pub record IsNewPass (jobs : Jobs) (p : JobPass) : Type 0 where
  pub of_jobs : IsOf jobs p
  pub pushed : pushed_by p ≡ []
  pub popped : popped_by p ≡ []
  pub empty : p.empty ≡ 0

-- the pass popped this number, that of a cell
pub record HasPopped (old new : JobPass) (cell : ℕ) : Type 0 where
  pub in_ring : cell < CELLS
  pub popped : popped_by new ≡ popped_by old ++ cell ∷ []
  pub pushed : pushed_by new ≡ pushed_by old
  pub empty : new.empty ≡ old.empty

-- one more of its pops found the queue empty, counted short of the largest `u64`
pub record HasFoundNone (old new : JobPass) : Type 0 where
  pub held : Held 0 (Stood (view old.pass))
  pub empty : new.empty ≡ min (old.empty + 1) (2 ^ 64 - 1)
  pub pushed : pushed_by new ≡ pushed_by old
  pub popped : popped_by new ≡ popped_by old

-- the pass pushed this number
pub record HasPushed (old new : JobPass) (cell : ℕ) : Type 0 where
  pub pushed : pushed_by new ≡ pushed_by old ++ cell ∷ []
  pub popped : popped_by new ≡ popped_by old
  pub empty : new.empty ≡ old.empty

-- the pass found the queue full, and pushed nothing
pub record HasFoundFull (jobs : Jobs) (old new : JobPass) : Type 0 where
  pub held : Held (room_of jobs) (Stood (view old.pass))
  pub pushed : pushed_by new ≡ pushed_by old
  pub popped : popped_by new ≡ popped_by old
  pub empty : new.empty ≡ old.empty

-- whether there was room for the number
abbrev pub Pushes : Jobs → JobPass → JobPass → ℕ → Bool → Type 0
Pushes jobs old new cell true = HasPushed old new cell
Pushes jobs old new cell false = HasFoundFull jobs old new

-- the pass pushed this number alone, or found the queue full
abbrev pub HasRung : Jobs → JobPass → JobPass → ℕ → Type 0
HasRung jobs old new cell = (room : Bool) × Pushes jobs old new cell room
