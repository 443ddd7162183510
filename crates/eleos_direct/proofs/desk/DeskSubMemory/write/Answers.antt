use Rattle.eleos_base.specs.declared.memory.Op.TheVariants.{Write}
use Rattle.eleos_base.specs.Answers.{write_reply}
use Rattle.eleos_pages.specs.Crossed.{came}
use Rattle.eleos_direct.proofs.Desking.{by_access, called, still_exchanged, writes_own}
use Rattle.eleos_direct.proofs.Exchanged.{write_exchanges}
use Rattle.eleos_direct.proofs.desk.DeskSubMemory.write.Goals as goal

pub invariant_of-self : goal.invariant_of-self
invariant_of-self g c =
    let z = c.args.self.now.machine.now in let s = c.args.self.now.pass.now in let s' = c.write-answer.new.pass in let bytes = c.args.bytes.now in let tap = c.write-answer.new.tap in
    let reply = write_reply c.write-answer.result in
    let made = by_access g.P.HostPort g.P.HostStore s c.args.self.now.tap.now c.args.at (Write c.args.at bytes) reply s' tap c.write-answer.ensures in
    let then = still_exchanged g.P.HostPort.gave g.P.HostPort.took z s c.args.self.now.fits (Write c.args.at bytes) (came tap) reply s' made c.args.self.now.exchanged
    (write_exchanges g.P.HostPort g.P.HostStore s s' c.args.self.now.tap.now c.args.at bytes reply tap z c.args.self.now.fits.own c.write-answer.ensures) in
    record { fits = then.0; exchanged = then.1 }

pub returns-clause-called : goal.returns-clause-called
returns-clause-called g c =
    let z = c.args.self.now.machine.now in let s = c.args.self.now.pass.now in let s' = c.write-answer.new.pass in let bytes = c.args.bytes.now in let tap = c.write-answer.new.tap in
    let reply = write_reply c.write-answer.result in
    called z s c.args.self.now.fits (Write c.args.at bytes) (came tap) reply s'
    (by_access g.P.HostPort g.P.HostStore s c.args.self.now.tap.now c.args.at (Write c.args.at bytes) reply s' tap c.write-answer.ensures) c.args.self.now.pass.ghost_name c.args.self.now.tap.ghost_name

pub returns-clause-own : goal.returns-clause-own
returns-clause-own g c =
    let s = c.args.self.now.pass.now in let s' = c.write-answer.new.pass in let bytes = c.args.bytes.now in let tap = c.write-answer.new.tap in
    writes_own c.args.self.now.machine.now s c.args.self.now.fits c.args.at bytes (came tap) c.write-answer.result s'
    (by_access g.P.HostPort g.P.HostStore s c.args.self.now.tap.now c.args.at (Write c.args.at bytes) (write_reply c.write-answer.result) s' tap c.write-answer.ensures) c.lawful.ensures
