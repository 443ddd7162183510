use Rattle.std.proofs.Common.{length}
use Rattle.eleos_base.specs.declared.memory.Op.TheVariants.{Read}
use Rattle.eleos_base.specs.Answers.{read_reply}
use Rattle.eleos_pages.specs.Crossed.{came}
use Rattle.eleos_direct.proofs.Desking.{by_access, called, reads_own, still_exchanged}
use Rattle.eleos_direct.proofs.Exchanged.{read_exchanges}
use Rattle.eleos_direct.proofs.desk.DeskSubMemory.read.Goals as goal

pub invariant_of-self : goal.invariant_of-self
invariant_of-self g c =
    let z = c.args.self.now.machine.now in let s = c.args.self.now.pass.now in let s' = c.read-answer.new.pass in let n = length c.args.buf.now in let tap = c.read-answer.new.tap in
    let reply = read_reply c.read-answer.result c.read-answer.new.buf in
    let made = by_access g.P.HostPort g.P.HostStore s c.args.self.now.tap.now c.args.at (Read c.args.at n) reply s' tap c.read-answer.ensures.accessed in
    let then = still_exchanged g.P.HostPort.gave g.P.HostPort.took z s c.args.self.now.fits (Read c.args.at n) (came tap) reply s' made c.args.self.now.exchanged
    (read_exchanges g.P.HostPort g.P.HostStore s s' c.args.self.now.tap.now c.args.at n reply tap z c.args.self.now.fits.own c.read-answer.ensures.accessed) in
    record { fits = then.0; exchanged = then.1 }

pub returns-clause-called : goal.returns-clause-called
returns-clause-called g c =
    let z = c.args.self.now.machine.now in let s = c.args.self.now.pass.now in let s' = c.read-answer.new.pass in let n = length c.args.buf.now in let tap = c.read-answer.new.tap in
    let reply = read_reply c.read-answer.result c.read-answer.new.buf in
    called z s c.args.self.now.fits (Read c.args.at n) (came tap) reply s'
    (by_access g.P.HostPort g.P.HostStore s c.args.self.now.tap.now c.args.at (Read c.args.at n) reply s' tap c.read-answer.ensures.accessed) c.args.self.now.pass.ghost_name c.args.self.now.tap.ghost_name

pub returns-clause-own : goal.returns-clause-own
returns-clause-own g c =
    let s = c.args.self.now.pass.now in let s' = c.read-answer.new.pass in let n = length c.args.buf.now in let tap = c.read-answer.new.tap in
    reads_own c.args.self.now.machine.now s c.args.self.now.fits c.args.at n (came tap) c.read-answer.result c.read-answer.new.buf s'
    (by_access g.P.HostPort g.P.HostStore s c.args.self.now.tap.now c.args.at (Read c.args.at n) (read_reply c.read-answer.result c.read-answer.new.buf) s' tap c.read-answer.ensures.accessed) c.lawful.ensures
