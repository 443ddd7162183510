-- What a thread at the ring works with.
use Rattle.std.specs.Prelude.{◌≡◌, ℕ, ◌<◌, ◌≤◌}
use Rattle.eleos_ring.specs.declared.cells.TheConstants.{CLIENTS}
use Rattle.eleos_work.specs.declared.jobs.Jobs.{Jobs}
use Rattle.eleos_work.specs.declared.jobs.JobPass.{JobPass}
use Rattle.eleos_work.specs.Passes.{IsOf}
use Rattle.ring_bench.specs.declared.seats.Role.{Role}
use Rattle.ring_bench.specs.declared.seats.Role.TheVariants as roles

-- the pass is of these jobs, and a caller is one of the ring's clients with short messages
pub record IsFilled (jobs : Jobs) (pass : JobPass) (role : Role) : Type 0 where
  pub of_jobs : IsOf jobs pass
  pub client : (client bytes : ℕ) → role ≡ roles.Caller client bytes → client < CLIENTS
  pub short : (client bytes : ℕ) → role ≡ roles.Caller client bytes → bytes ≤ 1024
