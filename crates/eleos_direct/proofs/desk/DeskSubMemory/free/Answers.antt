use Rattle.std.proofs.Common.{[]}
use Rattle.eleos_base.specs.declared.memory.Op.TheVariants.{Free}
use Rattle.eleos_base.specs.Answers.{block_reply}
use Rattle.eleos_direct.proofs.Desking.{by_call, called, free_exchanged, frees_own, still_quiet}
use Rattle.eleos_direct.proofs.desk.DeskSubMemory.free.Goals as goal

pub invariant_of-self : goal.invariant_of-self
invariant_of-self g c =
    let z = c.args.self.now.machine.now in let s = c.args.self.now.pass.now in let reply = block_reply c.free-answer.result in
    let made = by_call s (Free c.args.at) reply c.free-answer.new.pass c.args.self.now.fits.no_turn c.free-answer.ensures.one in
    let then = still_quiet g.P.HostPort.gave g.P.HostPort.took z s c.args.self.now.fits (Free c.args.at) [] reply c.free-answer.new.pass made c.args.self.now.exchanged
    (free_exchanged g.P.HostPort.gave g.P.HostPort.took z made.past s.hand.number c.args.at reply) in
    record { fits = then.0; exchanged = then.1 }

pub returns-clause-called : goal.returns-clause-called
returns-clause-called g c =
    let z = c.args.self.now.machine.now in let s = c.args.self.now.pass.now in let reply = block_reply c.free-answer.result in
    called z s c.args.self.now.fits (Free c.args.at) [] reply c.free-answer.new.pass
    (by_call s (Free c.args.at) reply c.free-answer.new.pass c.args.self.now.fits.no_turn c.free-answer.ensures.one) c.args.self.now.pass.ghost_name c.args.self.now.tap.ghost_name

pub returns-clause-own : goal.returns-clause-own
returns-clause-own g c =
    frees_own c.args.self.now.machine.now c.args.self.now.pass.now c.args.self.now.fits c.args.at c.free-answer.result c.free-answer.new.pass
    (by_call c.args.self.now.pass.now (Free c.args.at) (block_reply c.free-answer.result) c.free-answer.new.pass c.args.self.now.fits.no_turn c.free-answer.ensures.one) c.lawful.ensures
