use Rattle.std.proofs.Common.{Err, ◌∙◌, subst, sym, ◌≡◌, [], refl}
use Rattle.eleos_base.specs.declared.memory.Reply.TheVariants.{NoFrame}
use Rattle.eleos_base.specs.Plans.{IsCaller}
use Rattle.eleos_core.specs.declared.machine.ApplyRefused.TheVariants.{NoMemory}
use Rattle.eleos_core.specs.Applying.{Makes}
use Rattle.eleos_core.specs.Cells.{Cells}
use Rattle.eleos_core.specs.Quiet.{IsStarving, starved_stamp, waiting_fault}
use Rattle.eleos_core.proofs.QuietEntries.{starved_makes}
use Rattle.eleos_base.specs.declared.memory.Part.{Part as Offence}
use Rattle.eleos_core.specs.declared.event.Event.TheVariants.{Starved}
use Rattle.eleos_core.proofs.Effects.{answered, came, refused, said_of, wanting}
use Rattle.eleos_core.proofs.WaitEvents.{none_or_some, starved_applied, starved_illegal}
use Rattle.eleos_core.proofs.machine.Core.apply_starved.Goals as goal

pub returns-in-Some : goal.returns-in-Some
returns-in-Some c = λ x.
    refused x c.args.self.now c.args.who (Starved c.args.wanted.now c.args.sweep.now) [] c.in-Some.part
    (starved_illegal x c.args.self.now c.args.who c.args.wanted.now c.args.sweep.now c.in-Some.part
    (λ starving. none_or_some c.starved_offence.result c.in-Some.part (c.starved_offence.ensures.legal.1 starving) c.in-Some.is)
    (said_of (λ (part : Offence). part ≡ waiting_fault c.args.self.now c.args.wanted.now) c.starved_offence.result c.in-Some.part c.in-Some.is c.starved_offence.ensures.fault))

pub returns-in_default-from_slice : goal.returns-in_default-from_slice
returns-in_default-from_slice c = λ x.
    wanting x c.args.self.now c.args.who (Starved c.args.wanted.now c.args.sweep.now) [] (Err NoMemory) c.args.self.now refl refl (c.starved_offence.ensures.legal.0 c.in_default.is)

pub returns : goal.returns
returns c = λ x.
    let s = c.self.inside in
    let starving : IsStarving c.args.self.now c.args.who c.args.wanted.now c.args.sweep.now = c.starved_offence.ensures.legal.0 c.in_default.is in
    came x c.args.self.now c.args.who (Starved c.args.wanted.now c.args.sweep.now) [] c.args.self.now c.only_reply.result
    (answered x c.args.self.now c.args.who (Starved c.args.wanted.now c.args.sweep.now) [] c.args.self.now (NoFrame c.of-sweep.result) c.only_reply.result.reply c.only_reply.result.puts
    c.only_reply.ensures.reply c.only_reply.ensures.puts
    (starved_applied x c.args.self.now c.args.who c.args.wanted.now c.args.sweep.now (NoFrame c.of-sweep.result)
    (subst (λ list. Makes x (starved_stamp c.args.who c.args.wanted.now c.args.sweep.now (NoFrame list)) c.args.self.now c.args.self.now) (sym (c.of-sweep.ensures ∙ c.in-Ok.ensures.items))
    (subst (λ (m : Cells). Makes x (starved_stamp c.args.who c.args.wanted.now c.args.sweep.now (NoFrame c.args.sweep.now)) m m) c.self.view_is
    (starved_makes s.plan s.live.items s.clocks.items s.pages.items s.frames.items s.links.items c.self.invariant x c.args.who c.args.wanted.now c.args.sweep.now
    (subst (λ (m : Cells). IsCaller m.plan c.args.who) (sym c.self.view_is) c.requires) (subst (λ (m : Cells). IsStarving m c.args.who c.args.wanted.now c.args.sweep.now) (sym c.self.view_is) starving))))))
    c.only_reply.ensures.blocks
