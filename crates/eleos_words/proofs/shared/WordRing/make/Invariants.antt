use Rattle.std.proofs.Common.{◌≡◌, length}
use Rattle.eleos_words.proofs.shared.WordRing.make.Given as goal

abbrev pub invariant-loop-done : goal.invariant-loop-done
invariant-loop-done l = length l.all.items ≡ l._done
