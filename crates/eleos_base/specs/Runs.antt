-- Runs of numbers that follow each other from 0 on, given by their lengths.
use Rattle.std.specs.Prelude.{ℕ, ◌-◌, List, [], ◌∷◌, take, nat_lt, suc, Option, Some, None, option_map, if◌then◌else◌}
use Rattle.std.specs.List.{sum}

-- the first number of a run
abbrev pub first_of_run : List ℕ → ℕ → ℕ
first_of_run lengths run = sum (take run lengths)

-- the run that has the number; none has one past the last
abbrev pub run_with : List ℕ → ℕ → Option ℕ
run_with [] i = None
run_with (n ∷ lengths) i = if nat_lt i n then Some 0 else option_map suc (run_with lengths (i - n))
