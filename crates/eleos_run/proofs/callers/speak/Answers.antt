use Rattle.std.proofs.Common.{[], refl, sym, ◌∙◌}
use Rattle.eleos_machine.specs.Machines.{plan_at}
use Rattle.eleos_run.specs.Tasks.{IsCall}
use Rattle.eleos_run.proofs.Surveyors.{caller_gives, is_call}
use Rattle.eleos_run.proofs.Writing.{writes_none}
use Rattle.eleos_run.proofs.callers.speak.Goals as goal

pub returns-in_default : goal.returns-in_default
returns-in_default g c = let call : IsCall c.args.command.now = is_call c.args.command.now c.in_default.not-SwapRound c.in_default.not-SetShare in record {
  around = record { way = []; speaks = c.answer.ensures.speaks; exchanged = c.answer.ensures.exchanged; counted = tt; writes = writes_none c.args.job.now.actor c.args.job.now.lines };
  rooms = c.answer.ensures.rooms;
  called = c.answer.ensures.called;
  ring = c.answer.ensures.ring;
  client = c.answer.ensures.client ∙ sym (c.requires.reach (caller_gives (plan_at c.args.machine.now) c.args.job.now.actor c.args.command.now call c.requires.may));
  actor = refl;
  tasks = refl;
}
