use Rattle.eleos_trace.specs.declared.trace.Kind.TheVariants.{Replay}
use Rattle.eleos_trace.specs.Reading.{trace_of}
use Rattle.eleos_top.specs.Replays.{IsReplayLog}
use Rattle.std.proofs.Common.{ap, Err}
use Rattle.eleos_top.proofs.Refusing.{PutsBy-refused}
use Rattle.eleos_top.proofs.replaying.replay_top.Goals as goal

pub returns-in-Err-Refused-clause-puts : goal.returns-in-Err-Refused-clause-puts
returns-in-Err-Refused-clause-puts g c =
    PutsBy-refused (trace_of Replay) (IsReplayLog _ _) c.in-Err-Refused.bad _ _ _ _ c.refuse.result _ (c.in-Err-Refused.ensures.refused c.in-Err-Refused.bad (ap Err c.in-Err-Refused.field-0-is)) c.refuse.ensures.line c.refuse.ensures.memory c.refuse.ensures.only
