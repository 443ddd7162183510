-- What the threads of a measure work with.
use Rattle.std.specs.Prelude.{◌≡◌, ℕ, ◌<◌, [], length}
use Rattle.eleos_turn.specs.Hands.{Home}
use Rattle.turn_bench.specs.declared.worker.Worker.{Worker}
use Rattle.turn_bench.specs.declared.worker.Workers.{Workers}

-- the hand is of this turnstile and bears its number, it has no turn, and the cell is there
pub record IsReady (all : Home ℕ (Unit {0})) (worker : Worker) : Type 0 where
  pub own : worker.hand.home ≡ all
  pub named : worker.hand.number ≡ worker.by
  pub made : 0 < worker.by
  pub idle : worker.hand.turns ≡ []
  pub cell : worker.cell < length all.base.opening

-- all four are
pub record AreReady (all : Home ℕ (Unit {0})) (workers : Workers) : Type 0 where
  pub first : IsReady all workers.first
  pub second : IsReady all workers.second
  pub third : IsReady all workers.third
  pub fourth : IsReady all workers.fourth
