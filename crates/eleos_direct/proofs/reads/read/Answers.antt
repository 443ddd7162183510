use Rattle.std.proofs.Common.{length}
use Rattle.eleos_base.specs.declared.memory.Op.TheVariants.{Read}
use Rattle.eleos_direct.proofs.Holding.{accessed_after}
use Rattle.eleos_direct.proofs.reads.read.Goals as goal

pub returns-clause-accessed : goal.returns-clause-accessed
returns-clause-accessed g c =
    accessed_after g.P.HostPort g.P.HostStore c.args.pass.now c.begin_access.new.pass c.take-taken.new.pass c.read_held.new.pass c.args.tap.now c.begin_access.new.tap c.read_held.new.tap c.args.at (Read c.args.at (length c.args.buf.now)) _
    c.in-Some.cell c.take-taken.result.word c.take-taken.result.value c.in-Some.ensures.kept c.requires.can.no_turn c.take-taken.ensures.took c.begin_access.ensures.begun c.read_held.ensures.accessed
