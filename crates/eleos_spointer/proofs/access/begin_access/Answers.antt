use Rattle.eleos_base.specs.declared.memory.Reply.TheVariants.{BadRange}
use Rattle.eleos_plot.specs.Refs.{op_of}
use Rattle.eleos_machine.specs.Pointers.{place_of}
use Rattle.eleos_spointer.proofs.Accessing.{accessed}
use Rattle.eleos_spointer.proofs.access.begin_access.Goals as goal

pub returns-in_default-clause-refused : goal.returns-in_default-clause-refused
returns-in_default-clause-refused g c =
    accessed c.args.pass.now c.refuse.new.pass (place_of c.args.pointer) c.args.len (op_of c.args.op) BadRange c.requires.access c.refuse.ensures.entered c.refuse.ensures.lawful c.requires.link
