use Rattle.std.proofs.Common.{map, take, drop, ◌+◌}
use Rattle.std.proofs.lemmas.Result.{err_from_is_err_and}
use Rattle.std.specs.List.{concat}
use Rattle.eleos_kvwire.proofs.Joined.{joined_next, joined_all}
use Rattle.eleos_kvwire.proofs.pieces.session_in.Goals as goal

pub returns-in_err-feed-clause-exact : goal.returns-in_err-feed-clause-exact
returns-in_err-feed-clause-exact c =
    let p = err_from_is_err_and c.from_residual.result c.from_residual.ensures.1 in
    let stands = c.feed.ensures.stands (concat (map (λ piece. piece.now) (take c.loop-piece.piece-index c.args.pieces.now))) (concat (map (λ piece. piece.now) (drop (c.loop-piece.piece-index + 1) c.args.pieces.now))) c.loop-piece.invariant in
    let refused = rw (c.in_err-feed.was, joined_next (λ piece. piece.now) c.args.pieces.now c.loop-piece.piece-index _ c.loop-piece-test.true, joined_all (λ piece. piece.now) c.args.pieces.now (c.loop-piece.piece-index + 1)) at stands in
    rw (p.1, p.2) refused

pub loop-piece-preserved : goal.loop-piece-preserved
loop-piece-preserved c =
    let fed = c.feed.ensures.fed (concat (map (λ piece. piece.now) (take c.loop-piece.piece-index c.args.pieces.now))) c.loop-piece.invariant in
    rw (joined_next (λ piece. piece.now) c.args.pieces.now c.loop-piece.piece-index _ c.loop-piece-test.true) at fed
