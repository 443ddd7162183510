use Rattle.std.proofs.Common.{length}
use Rattle.eleos_base.specs.declared.memory.Op.TheVariants.{Read}
use Rattle.eleos_direct.proofs.Holding.{accessed_after, found_busy}
use Rattle.eleos_direct.proofs.reads.try_read.Goals as goal

pub returns-in-Err-clause-accessed : goal.returns-in-Err-clause-accessed
returns-in-Err-clause-accessed g c =
    found_busy g.P.HostPort g.P.HostStore c.args.m.now c.args.pass.now c.begin_access.new.pass c.try_take.new.pass c.args.tap.now c.begin_access.new.tap c.args.at (length c.args.buf.now) c.in-Some.cell c.in-Err.busy.word
    c.in-Some.ensures.kept c.requires.can.own c.begin_access.ensures.begun c.in-Some.ensures.found c.in-Err.ensures.word c.in-Err.ensures.refused

pub returns-in-Ok-read_held-clause-accessed : goal.returns-in-Ok-read_held-clause-accessed
returns-in-Ok-read_held-clause-accessed g c =
    accessed_after g.P.HostPort g.P.HostStore c.args.pass.now c.begin_access.new.pass c.try_take.new.pass c.read_held.new.pass c.args.tap.now c.begin_access.new.tap c.read_held.new.tap c.args.at (Read c.args.at (length c.args.buf.now)) _
    c.in-Some.cell c.in-Ok.taken.word c.in-Ok.taken.value c.in-Some.ensures.kept c.requires.can.no_turn c.in-Ok.ensures.took c.begin_access.ensures.begun c.in-Ok-read_held.ensures.accessed

pub returns-in-Err-read_held-clause-accessed : goal.returns-in-Err-read_held-clause-accessed
returns-in-Err-read_held-clause-accessed g c =
    accessed_after g.P.HostPort g.P.HostStore c.args.pass.now c.begin_access.new.pass c.try_take.new.pass c.read_held.new.pass c.args.tap.now c.begin_access.new.tap c.read_held.new.tap c.args.at (Read c.args.at (length c.args.buf.now)) _
    c.in-Some.cell c.in-Ok.taken.word c.in-Ok.taken.value c.in-Some.ensures.kept c.requires.can.no_turn c.in-Ok.ensures.took c.begin_access.ensures.begun c.in-Err-read_held.ensures.accessed
