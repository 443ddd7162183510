use Rattle.std.proofs.Common.{◌≡◌, ℕ, List, [], ◌∷◌, ◌++◌, length, map, Option, ap, ◌∙◌, arith, length-append}
use lib.ListN.{length-map}
use Rattle.eleos_machine.specs.Machines.{plan_at, seals_at}
use Rattle.eleos_meaning.specs.Table.{shown}
use Rattle.eleos_meaning.specs.Told.{Told, answer_in, line_of, told_as}
use Rattle.eleos_report.specs.declared.answer.Answer.{Answer}
use Rattle.eleos_report.specs.declared.line.LogLine.{LogLine}
use Rattle.eleos_report.specs.declared.line.LogLine.TheVariants.{Said}
use Rattle.eleos_trace.specs.declared.word.Actor.{Actor}
use Rattle.eleos_trace.specs.declared.word.Word.{Word}
use Rattle.eleos_run.specs.Steps.{home_of}
use Rattle.eleos_run.specs.Jobs.{names_of}
use Rattle.eleos_run.proofs.Counted.{counted_append}
use Rattle.eleos_run.proofs.JobSteps.{idle_after}
use Rattle.eleos_run.proofs.Meanings.{frame_no_calls, row_told}
use Rattle.eleos_run.proofs.OwnLines.{own_counted}
use Rattle.eleos_run.proofs.callers.step.Goals as goal

-- the line of a task stands behind those of its way
behind : (old spoken pushed : List LogLine) (way : List Told) (stamp : Option ℕ) (who actor : Actor) (command : Word) (reply : Answer) → pushed ≡ spoken ++ Said stamp who command reply ∷ [] → spoken ≡ old ++ map (line_of actor) way → who ≡ actor
    → pushed ≡ (old ++ map (line_of actor) way) ++ Said stamp actor command reply ∷ []
behind old spoken pushed way stamp who actor command reply push lines same = push ∙ (λ i. lines i ++ Said stamp (same i) command reply ∷ [])

pub unreachable-requires : goal.unreachable-requires
unreachable-requires g c = let around = c.speak-stamp.ensures.around in let full = c.in_default.ensures.full in let few = around.speaks.few in let room = c.requires.room in let kept = around.writes.room in let all = ap length around.writes.lines in
    let both = length-append c.args.job.now.lines.items (map (line_of c.args.job.now.actor) around.way) in let same = length-map around.way (line_of c.args.job.now.actor) in omega (arith, full, few, room, kept, all, both, same)

pub returns-clause-stepped : goal.returns-clause-stepped
returns-clause-stepped g c = let around = c.speak-stamp.ensures.around in let z = c.args.machine.now in let after = c.speak-stamp.new.job in record {
  way = around.way;
  said = c.speak-stamp.result;
  speaks = around.speaks;
  exchanged = around.exchanged;
  counted = counted_append (plan_at z) (seals_at z) after.pass.hand.seen around.way (told_as c.args.task.command around.speaks.came ∷ []) around.counted
      (own_counted (plan_at z) (seals_at z) after.pass.hand.seen (home_of z c.args.job.now.pass) (names_of c.args.job.now) c.args.task.command (map shown around.way) around.speaks.came (names_of after) around.speaks.gives.0 around.speaks.gives.2, tt);
  lines = behind c.args.job.now.lines.items after.lines.items c.push.new.self.items around.way c.speak-stamp.result.stamp after.actor c.args.job.now.actor c.args.task.command c.speak-stamp.result.reply c.in-Ok.ensures.items around.writes.lines c.speak-stamp.ensures.actor;
  idle = idle_after z c.args.job.now.pass after.pass _ c.requires.idle_pass around.speaks.has_made;
  rooms = c.speak-stamp.ensures.rooms;
  capacity = let kept = around.writes.room in let pushed = c.in-Ok.ensures.capacity in omega (arith, kept, pushed);
  tasks = ap (λ q. q.items) c.speak-stamp.ensures.tasks;
  actor = c.speak-stamp.ensures.actor;
  client = c.speak-stamp.ensures.client;
}

pub returns-clause-spoken : goal.returns-clause-spoken
returns-clause-spoken g c = let around = c.speak-stamp.ensures.around in let after = c.speak-stamp.new.job in record {
  stamp = c.speak-stamp.result.stamp;
  actor = c.args.job.now.actor;
  reply = c.speak-stamp.result.reply;
  way = around.way;
  line = behind c.args.job.now.lines.items after.lines.items c.push.new.self.items around.way c.speak-stamp.result.stamp after.actor c.args.job.now.actor c.args.task.command c.speak-stamp.result.reply c.in-Ok.ensures.items around.writes.lines c.speak-stamp.ensures.actor;
  no_calls = frame_no_calls around.way (row_told (home_of c.args.machine.now c.args.job.now.pass) (names_of c.args.job.now) c.args.task.command around.way (answer_in around.speaks.came) (names_of after) around.speaks.gives.0).0;
  called = c.speak-stamp.ensures.called;
  ring = c.speak-stamp.ensures.ring;
}
