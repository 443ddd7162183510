use Rattle.std.proofs.Common.{length}
use Rattle.eleos_base.specs.declared.memory.Op.TheVariants.{Write}
use Rattle.eleos_direct.proofs.Holding.{accessed_after, found_busy}
use Rattle.eleos_direct.proofs.writes.try_write.Goals as goal

pub returns-in-Err : goal.returns-in-Err
returns-in-Err g c =
    found_busy g.P.HostPort g.P.HostStore c.args.m.now c.args.pass.now c.begin_access.new.pass c.try_take.new.pass c.args.tap.now c.begin_access.new.tap c.args.at (length c.args.bytes.now) c.in-Some.cell c.in-Err.busy.word
    c.in-Some.ensures.kept c.requires.can.own c.begin_access.ensures.begun c.in-Some.ensures.found c.in-Err.ensures.word c.in-Err.ensures.refused

pub returns-in-Ok-write_held : goal.returns-in-Ok-write_held
returns-in-Ok-write_held g c =
    accessed_after g.P.HostPort g.P.HostStore c.args.pass.now c.begin_access.new.pass c.try_take.new.pass c.write_held.new.pass c.args.tap.now c.begin_access.new.tap c.write_held.new.tap c.args.at (Write c.args.at c.args.bytes.now) _
    c.in-Some.cell c.in-Ok.taken.word c.in-Ok.taken.value c.in-Some.ensures.kept c.requires.can.no_turn c.in-Ok.ensures.took c.begin_access.ensures.begun c.in-Ok-write_held.ensures

pub returns-in-Err-write_held : goal.returns-in-Err-write_held
returns-in-Err-write_held g c =
    accessed_after g.P.HostPort g.P.HostStore c.args.pass.now c.begin_access.new.pass c.try_take.new.pass c.write_held.new.pass c.args.tap.now c.begin_access.new.tap c.write_held.new.tap c.args.at (Write c.args.at c.args.bytes.now) _
    c.in-Some.cell c.in-Ok.taken.word c.in-Ok.taken.value c.in-Some.ensures.kept c.requires.can.no_turn c.in-Ok.ensures.took c.begin_access.ensures.begun c.in-Err-write_held.ensures
