use Rattle.std.proofs.Common.{ℕ, ◌≡◌, ◌+◌, [], ◌∷◌}
use Rattle.eleos_base.specs.Ties.{neither}
use Rattle.eleos_base.specs.Terms.{Terms}
use Rattle.eleos_turn.specs.Hands.{part_of}
use Rattle.turn_bench.specs.declared.tally.Tally.{Tally}
use Rattle.turn_bench.specs.declared.tally.Raise.{Raise}
use Rattle.turn_bench.proofs.worker.round.Given as goal

-- what the tallies and their entries mean
abbrev pub row : Terms Tally Raise ℕ (Unit {0})
row = record { part = λ c. c.count; blank = 0; nowhere = tt; who = λ e. e.by; foot = λ _ e. e.cell ∷ []; step = λ _ e b a. a e.cell ≡ b e.cell + 1; bare = λ _ _. []; tie = λ _ _. neither }

abbrev pub ghost-stamp : goal.ghost-stamp
ghost-stamp g a = (a.entry.now.cell, part_of row a.hand.now a.entry.now.cell + 1) ∷ []
