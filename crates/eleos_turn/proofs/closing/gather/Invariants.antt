use Rattle.std.proofs.Common.{◌≡◌, ◌⊎◌, ℕ, List, [], ◌++◌, ◌+◌, vec_len}
use Rattle.eleos_base.specs.Ties.{Has}
use Rattle.eleos_base.specs.declared.plot.Event.{Event}
use Rattle.eleos_turn.specs.Rule.{base_of}
use Rattle.eleos_turn.specs.Hands.{HandState}
use Rattle.eleos_turn.specs.Closings.{AllOf, AllDone, HasNumber, AllBegin, left_of, AllSound}
use Rattle.eleos_turn.proofs.closing.gather.Given as goal

abbrev pub invariant-loop-hand : goal.invariant-loop-hand
invariant-loop-hand g l =
    (l.seat.table_id ≡ l.initial.seat.table_id) × (l.seat.me.1 ≡ []) × (l.seat.me.0.held ≡ []) × (l.seat.me.0.base ≡ l.initial.seat.me.0.base)
    × AllOf (record { table = l.cells.table.shared.table_id; base = base_of g.P.Plot.terms l.cells.table.shared.key }) l.hands.items
    × ((n : ℕ) → Has n l.initial.seat.me.0.numbers ⊎ HasNumber n l.initial.hands.items → Has n l.seat.me.0.numbers ⊎ HasNumber n l.hands.items)
    × ((more : List (Event g.row.P-Draft.Denot g.row.P-Part.Denot)) × (l.seat.me.0.seen ≡ l.initial.seat.me.0.seen ++ more))
    × ((done : List (HandState g.row.P-Draft.Denot g.row.P-Part.Denot g.row.P-Ground.Denot)) × (l.initial.hands.items ≡ l.hands.items ++ done) × AllBegin l.seat.me.0.seen done × AllSound g.P.Plot.terms done)
    × (l.seat.me.0.left + left_of l.hands.items ≡ l.initial.seat.me.0.left + left_of l.initial.hands.items)
    × AllDone g.P.Plot.terms l.hands.items

abbrev pub decreases-loop-hand : goal.decreases-loop-hand
decreases-loop-hand g l = vec_len l.hands
