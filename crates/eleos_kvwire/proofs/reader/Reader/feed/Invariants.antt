use Rattle.std.proofs.Common.{◌++◌, List, ℕ, take}
use Rattle.eleos_kvwire.specs.Feeding.{HasRead}
use Rattle.eleos_kvwire.proofs.reader.Reader.feed.Given as goal

-- what was read before, and the bytes that came since
abbrev pub invariant-loop-byte : goal.invariant-loop-byte
invariant-loop-byte l = (bytes : List ℕ) → HasRead bytes l.fn.self → HasRead (bytes ++ take l.byte-index l.piece) l.self
