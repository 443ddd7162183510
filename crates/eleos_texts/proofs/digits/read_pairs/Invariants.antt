use Rattle.std.proofs.Common.{◌≡◌, ◌*◌, take, drop}
use Rattle.eleos_texts.proofs.HexPairs.{joined, pairs}
use Rattle.eleos_texts.proofs.digits.read_pairs.Given as goal

-- the bytes so far, and what the digits that are left say, are what all of them say
abbrev pub invariant-loop-i : goal.invariant-loop-i
invariant-loop-i l = joined l.any (take l.i l.bytes) (pairs (drop (2 * l.i) l.text)) ≡ pairs l.text
