use Rattle.std.proofs.Common.{[]}
use Rattle.eleos_base.specs.declared.memory.Op.TheVariants.{Alloc}
use Rattle.eleos_base.specs.Answers.{alloc_reply}
use Rattle.eleos_direct.proofs.Desking.{alloc_exchanged, by_call, called, gets_new, still_quiet}
use Rattle.eleos_direct.proofs.desk.DeskSubMemory.alloc.Goals as goal

pub invariant_of-self : goal.invariant_of-self
invariant_of-self g c =
    let z = c.args.self.now.machine.now in let s = c.args.self.now.pass.now in let reply = alloc_reply c.alloc-answer.result in
    let made = by_call s (Alloc c.args.bytes) reply c.alloc-answer.new.pass c.args.self.now.fits.no_turn c.alloc-answer.ensures.one in
    let then = still_quiet g.P.HostPort.gave g.P.HostPort.took z s c.args.self.now.fits (Alloc c.args.bytes) [] reply c.alloc-answer.new.pass made c.args.self.now.exchanged
    (alloc_exchanged g.P.HostPort.gave g.P.HostPort.took z made.past s.hand.number c.args.bytes reply) in
    record { fits = then.0; exchanged = then.1 }

pub returns-clause-called : goal.returns-clause-called
returns-clause-called g c =
    let z = c.args.self.now.machine.now in let s = c.args.self.now.pass.now in let reply = alloc_reply c.alloc-answer.result in
    called z s c.args.self.now.fits (Alloc c.args.bytes) [] reply c.alloc-answer.new.pass
    (by_call s (Alloc c.args.bytes) reply c.alloc-answer.new.pass c.args.self.now.fits.no_turn c.alloc-answer.ensures.one) c.args.self.now.pass.ghost_name c.args.self.now.tap.ghost_name

pub returns-clause-fresh : goal.returns-clause-fresh
returns-clause-fresh g c =
    gets_new c.args.self.now.machine.now c.args.self.now.pass.now c.args.self.now.fits c.args.bytes c.alloc-answer.result c.alloc-answer.new.pass
    (by_call c.args.self.now.pass.now (Alloc c.args.bytes) (alloc_reply c.alloc-answer.result) c.alloc-answer.new.pass c.args.self.now.fits.no_turn c.alloc-answer.ensures.one) c.lawful.ensures
