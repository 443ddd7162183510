-- What a caller works with between its calls.
use Rattle.std.specs.Prelude.{◌≡◌, []}
use Rattle.eleos_base.specs.Plans.{IsCaller}
use Rattle.eleos_machine.specs.Machines.{Site, plan_at}
use Rattle.eleos_machine.specs.Passes.{PassState}

-- the pass is a caller's of this machine, and has no turn
pub record IsReady (z : Site) (s : PassState) : Type 0 where
  pub own : s.hand.home ≡ z
  pub caller : IsCaller (plan_at z) s.hand.number
  pub no_turn : s.hand.turns ≡ []
