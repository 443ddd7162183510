use Rattle.std.proofs.Common.{◌≡◌, ℕ, [], ◌∷◌, sym, ◌∙◌, ap, subst}
use Rattle.eleos_base.specs.Plans.{IsCaller}
use Rattle.eleos_core.specs.Parts.{Part, Stamp}
use Rattle.eleos_plot.specs.declared.cell.Cell.{Cell}
use Rattle.eleos_plot.specs.declared.plot.Ground.{Ground}
use Rattle.eleos_turn.specs.Hands.{HandState}
use Rattle.eleos_machine.specs.Machines.{Site, all_cells, plan_at}
use Rattle.eleos_machine.specs.Passes.{PassState, TookTurn, gave}
use Rattle.eleos_pages.proofs.Ending.{only_turn}
use Rattle.machine_tests.proofs.callers.Caller.holds.Goals as goal

-- a caller's pass of this machine that has no turn
abbrev IsIdle : Site → PassState → Type 0
IsIdle z s = (s.hand.home ≡ z) × IsCaller (plan_at z) s.hand.number × (s.hand.turns ≡ []) × (all_cells (plan_at z) ≡ 9)

-- one turn was taken and given back
idle_again : (z : Site) (s mid : PassState) (cell word : ℕ) (value : Cell) → TookTurn cell word s value mid → IsIdle z s → IsIdle z (gave mid cell)
idle_again z s mid cell word value took idle = (
  took.goes.home ∙ idle.0,
  subst (λ who. IsCaller (plan_at z) who) (sym took.goes.number) idle.1,
  only_turn cell mid.hand.turns (ap (λ (h : HandState Stamp Part Ground). h.turns) took.took.now ∙ ap (λ turns. cell ∷ turns) idle.2),
  idle.3,
)

pub invariant_of-self : goal.invariant_of-self
invariant_of-self g c =
    subst (λ (s : PassState). IsIdle c.self.inside.machine.now s) (sym c.give.ensures)
    (idle_again c.self.inside.machine.now c.self.inside.pass c.take-taken.new.pass 6 c.take-taken.result.word c.take-taken.result.value c.take-taken.ensures.took c.self.invariant)
