-- The frames of an owner, where one leaves and where one joins.
use Rattle.std.specs.Prelude.{ℕ, ◌+◌, ◌-◌, ◌==◌, List, [], ◌∷◌, ◌++◌, length, filter, not, nat_lt, if◌then◌else◌}
use Rattle.eleos_machine.specs.declared.holding.ClockTurn.{ClockTurn}

-- the list without the frame
abbrev pub without_frame : ℕ → List ℕ → List ℕ
without_frame f list = filter (λ g. not (g == f)) list

-- the place of the frame in the list, its length where the frame is not there
abbrev pub place_of : ℕ → List ℕ → ℕ
place_of f [] = 0
place_of f (g ∷ list) = if g == f then 0 else place_of f list + 1

-- the hand after the frame at the place left a list, which then has n frames: it falls by one where
-- it was above, and goes to the first place from the list's end
abbrev pub hand_without : ℕ → ℕ → ℕ → ℕ
hand_without place n hand = let at = if nat_lt place hand then hand - 1 else hand in if nat_lt at n then at else 0

-- the clock that the frame left
abbrev pub left_by : ℕ → ClockTurn → ClockTurn
left_by f clock = record clock { clock = without_frame f clock.clock; hand = hand_without (place_of f clock.clock) (length (without_frame f clock.clock)) clock.hand }

-- the clock that it joined
abbrev pub joined : ℕ → ClockTurn → ClockTurn
joined f clock = record clock { clock = clock.clock ++ f ∷ [] }
