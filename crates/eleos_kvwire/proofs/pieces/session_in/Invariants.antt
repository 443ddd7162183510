use Rattle.std.proofs.Common.{map, take}
use Rattle.std.specs.List.{concat}
use Rattle.eleos_kvwire.specs.Feeding.{WasFed}
use Rattle.eleos_kvwire.proofs.pieces.session_in.Given as goal

-- the pieces so far were fed
abbrev pub invariant-loop-piece : goal.invariant-loop-piece
invariant-loop-piece l = WasFed (concat (map (λ piece. piece.now) (take l.piece-index l.pieces))) l.session
