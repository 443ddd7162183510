use Rattle.std.proofs.Common.{sym, subst}
use Rattle.eleos_machine.specs.Stamping.{MayStamp}
use Rattle.eleos_plot.specs.Refs.{op_of}
use Rattle.eleos_direct.proofs.Refusing.{may_refuse, refused_outside}
use Rattle.eleos_spointer.proofs.access.refuse.Goals as goal

pub stamp-requires-clause-may : goal.stamp-requires-clause-may
stamp-requires-clause-may g c =
    subst MayStamp (sym c.set.ensures) (may_refuse c.args.m.now c.args.pass.now c.args.at c.args.len (op_of c.args.op) c.requires.can c.requires.access c.requires.outside)

pub returns-clause-entered : goal.returns-clause-entered
returns-clause-entered g c = refused_outside c.args.pass.now c.set.new.self c.stamp.new.pass (op_of c.args.op) c.stamp.result c.requires.can.no_turn c.set.ensures c.stamp.ensures.stamped
