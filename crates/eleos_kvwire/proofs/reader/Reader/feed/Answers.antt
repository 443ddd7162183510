use Rattle.std.proofs.Common.{◌+◌, ◌++◌, take, drop}
use Rattle.std.proofs.lemmas.Result.{err_from_is_err_and}
use Rattle.eleos_kvwire.proofs.Fed.{holds_on, next_of, others_of}
use Rattle.eleos_kvwire.proofs.reader.Reader.feed.Goals as goal

pub returns-in_err-take : goal.returns-in_err-take
returns-in_err-take c = λ bytes has.
    let p = err_from_is_err_and c.from_residual.result c.from_residual.ensures.1 in
    let refused = rw c.in_err-take.was at (c.take.ensures (bytes ++ take c.loop-byte.byte-index c.args.piece.now) (c.loop-byte.invariant bytes has)) in
    let so_far = rw (next_of bytes c.args.piece.now c.loop-byte.byte-index c.loop-byte-test.true) at refused in
    rw (p.1, p.2, ← others_of bytes c.args.piece.now (c.loop-byte.byte-index + 1)) (holds_on c.in_err-take.field-0.0 _ (drop (c.loop-byte.byte-index + 1) c.args.piece.now) so_far)

pub loop-byte-preserved : goal.loop-byte-preserved
loop-byte-preserved c = λ bytes has.
    let read = rw c.in_ok-take.was at (c.take.ensures (bytes ++ take c.loop-byte.byte-index c.args.piece.now) (c.loop-byte.invariant bytes has)) in
    rw (← next_of bytes c.args.piece.now c.loop-byte.byte-index c.loop-byte-test.true) read
