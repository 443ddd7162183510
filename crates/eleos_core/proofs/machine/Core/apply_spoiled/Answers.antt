use Rattle.eleos_base.specs.declared.memory.Part.TheVariants.{Frame}
use Rattle.eleos_base.specs.declared.memory.Reply.TheVariants.{Tampered}
use Rattle.eleos_core.specs.declared.event.Event.TheVariants.{Spoiled}
use Rattle.eleos_core.specs.Quiet.{IsWaiting}
use Rattle.eleos_core.specs.Seals.{Seals, seals_by}
use Rattle.eleos_core.proofs.Effects.{answered, came, refused}
use Rattle.eleos_core.proofs.WaitEvents.{none_or_some, passed_illegal, spoiled_answered, waiting_illegal, waits_there}
use Rattle.eleos_core.proofs.machine.Core.apply_spoiled.Goals as goal

pub returns-in-Some : goal.returns-in-Some
returns-in-Some g c =
    let x : Seals = seals_by (g.S.Sealer.key c.args.sealer.now) in
    refused x c.args.self.now c.args.who (Spoiled c.args.wanted.now) c.args.blocks.now c.in-Some.part
    (waiting_illegal x c.args.self.now c.args.who c.args.wanted.now c.args.blocks.now c.in-Some.part
    (λ waiting. none_or_some c.waiting_offence.result c.in-Some.part (c.waiting_offence.ensures.legal.1 waiting) c.in-Some.is) c.in-Some.ensures.fault)

pub spoiled-requires-clause-page : goal.spoiled-requires-clause-page
spoiled-requires-clause-page g c = waits_there c.args.self.now c.args.who c.args.wanted.now (c.waiting_offence.ensures.legal.0 c.in_default.is)

pub returns-in-Some-spoiled : goal.returns-in-Some-spoiled
returns-in-Some-spoiled g c =
    let x : Seals = seals_by (g.S.Sealer.key c.args.sealer.now) in
    let waiting : IsWaiting c.args.self.now c.args.who c.args.wanted.now = c.waiting_offence.ensures.legal.0 c.in_default.is in
    came x c.args.self.now c.args.who (Spoiled c.args.wanted.now) c.args.blocks.now c.args.self.now c.only_reply.result
    (answered x c.args.self.now c.args.who (Spoiled c.args.wanted.now) c.args.blocks.now c.args.self.now (Tampered c.in-Some-spoiled.spoiled.place) c.only_reply.result.reply c.only_reply.result.puts
    c.only_reply.ensures.reply c.only_reply.ensures.puts
    (spoiled_answered x c.args.self.now c.args.who c.args.wanted.now c.args.blocks.now c.spoiled.result c.in-Some-spoiled.spoiled c.in-Some-spoiled.is waiting c.spoiled.ensures.spoiled (c.spoiled.ensures.makes c.args.who c.requires.caller waiting)))
    c.only_reply.ensures.blocks

pub returns-in-None : goal.returns-in-None
returns-in-None g c =
    let x : Seals = seals_by (g.S.Sealer.key c.args.sealer.now) in
    let waiting : IsWaiting c.args.self.now c.args.who c.args.wanted.now = c.waiting_offence.ensures.legal.0 c.in_default.is in
    refused x c.args.self.now c.args.who (Spoiled c.args.wanted.now) c.args.blocks.now Frame
    (passed_illegal x c.args.self.now c.args.who c.args.wanted.now c.args.blocks.now c.spoiled.result c.in-None.is waiting c.spoiled.ensures.passed)
