use Rattle.std.proofs.Common.{[]}
use Rattle.eleos_base.specs.declared.memory.Part.TheVariants.{Frame}
use Rattle.eleos_core.specs.declared.event.Event.TheVariants.{Survey}
use Rattle.eleos_core.proofs.Effects.{answered, came, refused}
use Rattle.eleos_core.proofs.WaitEvents.{survey_answered, survey_illegal}
use Rattle.eleos_core.proofs.machine.Core.apply_survey.Goals as goal

pub returns-in-Some : goal.returns-in-Some
returns-in-Some c = λ x who actor.
    came x c.args.self.now who (Survey c.args.enclave c.args.goal c.args.sweep.now) [] c.args.self.now c.only_reply.result
    (answered x c.args.self.now who (Survey c.args.enclave c.args.goal c.args.sweep.now) [] c.args.self.now c.in-Some.reply c.only_reply.result.reply c.only_reply.result.puts
    c.only_reply.ensures.reply c.only_reply.ensures.puts
    (survey_answered x c.args.self.now who c.args.enclave c.args.goal c.args.sweep.now c.survey.result c.in-Some.reply c.in-Some.is (c.survey.ensures.makes x who actor)))
    c.only_reply.ensures.blocks

pub returns-in-None : goal.returns-in-None
returns-in-None c = λ x who actor.
    refused x c.args.self.now who (Survey c.args.enclave c.args.goal c.args.sweep.now) [] Frame
    (survey_illegal x c.args.self.now who c.args.enclave c.args.goal c.args.sweep.now c.requires c.survey.result c.in-None.is c.survey.ensures.reply)
