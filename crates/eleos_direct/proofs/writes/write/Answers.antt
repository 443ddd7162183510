use Rattle.eleos_base.specs.declared.memory.Op.TheVariants.{Write}
use Rattle.eleos_direct.proofs.Holding.{accessed_after}
use Rattle.eleos_direct.proofs.writes.write.Goals as goal

pub returns : goal.returns
returns g c =
    accessed_after g.P.HostPort g.P.HostStore c.args.pass.now c.begin_access.new.pass c.take-taken.new.pass c.write_held.new.pass c.args.tap.now c.begin_access.new.tap c.write_held.new.tap c.args.at (Write c.args.at c.args.bytes.now) _
    c.in-Some.cell c.take-taken.result.word c.take-taken.result.value c.in-Some.ensures.kept c.requires.can.no_turn c.take-taken.ensures.took c.begin_access.ensures.begun c.write_held.ensures
