-- One turn of a worker.
use Rattle.std.specs.Prelude.{◌≡◌, ℕ, Bool, true, false}
use Rattle.eleos_words.specs.declared.port.RingPort.{Ghosts}
use Rattle.eleos_work.specs.declared.jobs.JobPass.{JobPass}
use Rattle.eleos_work.specs.Jobs.{Serves}
use Rattle.eleos_work.specs.Passes.{HasFoundNone, HasPopped}

module _ {P : Type 0} (ring : Ghosts P) where
  -- Where it found a number, it popped that one alone and served its cell once.
  -- Where it found none, nothing happened at the port.
  abbrev pub TakesTurn : JobPass → JobPass → P → P → Bool → Type 0
  TakesTurn old new before after true =
      (cell : ℕ) × HasPopped old new cell × Serves ring cell before after
  TakesTurn old new before after false = HasFoundNone old new × (after ≡ before)
