use Rattle.eleos_kvwire.proofs.Ends.{held_session, read_session}
use Rattle.eleos_kvwire.proofs.Good.{good_answer}
use Rattle.eleos_kvwire.proofs.session.Session.finish.Goals as goal

pub returns-in-Some-clause-exact : goal.returns-in-Some-clause-exact
returns-in-Some-clause-exact c = λ bytes fed. held_session c.in-Some.refused bytes (rw c.in-Some.is at fed)

pub returns-in-None-clause-exact : goal.returns-in-None-clause-exact
returns-in-None-clause-exact c = λ bytes fed.
    let has = rw c.in-None.is at fed in
    rw (read_session bytes c.args.self.reader c.args.self.reader.few has) (c.finish.ensures has.not_bad)

pub returns-in-None-clause-good : goal.returns-in-None-clause-good
returns-in-None-clause-good c = λ bytes fed.
    let has = rw c.in-None.is at fed in
    good_answer c.finish.result bytes (rw (read_session bytes c.args.self.reader c.args.self.reader.few has) (c.finish.ensures has.not_bad))
