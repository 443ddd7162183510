use Rattle.std.proofs.Common.{◌≡◌, ◌-◌, []}
use Rattle.eleos_turn.specs.Rule.{base_of}
use Rattle.eleos_turn.specs.Views.{dealing}
use Rattle.eleos_turn.specs.Hands.{dealt}
use Rattle.eleos_turn.proofs.making.deal.Given as goal

abbrev pub invariant-loop-i : goal.invariant-loop-i
invariant-loop-i g l = let b = base_of g.P.Plot.terms l.cells.table.shared.key in
    (l.seat.me ≡ (dealing b l.i (l.hands - l.i), [])) × (l.seat.table_id ≡ l.initial.seat.table_id) × (l.dealt.items ≡ dealt (record { table = l.cells.table.shared.table_id; base = b }) 0 l.i)
