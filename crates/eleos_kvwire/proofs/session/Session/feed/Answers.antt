use Rattle.std.proofs.Common.{◌++◌}
use Rattle.eleos_kvwire.proofs.Ends.{stands, held_session}
use Rattle.eleos_kvwire.proofs.Fed.{judged, holds_on}
use Rattle.eleos_kvwire.proofs.session.Session.feed.Goals as goal

pub returns-clause-exact : goal.returns-clause-exact
returns-clause-exact c = λ bytes fed. judged c.feed-fed.result (bytes ++ c.args.piece.now) c.feed-fed.new.self c.feed-fed.new.self.few (c.feed-fed.ensures bytes (rw c.in_default.is at fed))

pub returns-clause-stands : goal.returns-clause-stands
returns-clause-stands c = λ bytes rest fed. stands c.feed-fed.result (bytes ++ c.args.piece.now) rest c.feed-fed.new.self (c.feed-fed.ensures bytes (rw c.in_default.is at fed))

pub returns-in-Some-clause-stands : goal.returns-in-Some-clause-stands
returns-in-Some-clause-stands c = λ bytes rest fed.
    let holds = holds_on c.in-Some.refused bytes c.args.piece.now (rw c.in-Some.is at fed) in
    held_session c.in-Some.refused (bytes ++ c.args.piece.now ++ rest) (holds_on c.in-Some.refused (bytes ++ c.args.piece.now) rest holds)
