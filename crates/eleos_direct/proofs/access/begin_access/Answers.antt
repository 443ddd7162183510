use Rattle.eleos_machine.specs.Passes.{plan_of, seals_of}
use Rattle.eleos_plot.specs.Refs.{op_of}
use Rattle.eleos_direct.proofs.Holding.{outside}
use Rattle.eleos_direct.proofs.Refusing.{outside_puts}
use Rattle.eleos_direct.proofs.access.begin_access.Goals as goal

pub returns-in_default-clause-refused : goal.returns-in_default-clause-refused
returns-in_default-clause-refused g c =
    let s = c.args.pass.now in
    outside g.P.HostPort g.P.HostStore s c.refuse.new.pass c.args.tap.now c.begin.new.tap c.args.at (op_of c.args.op) c.begin.ensures.begun
    (λ past blocks step. outside_puts (plan_of s) (seals_of s) past s.hand.number c.args.at c.args.len (op_of c.args.op) blocks c.requires.access step) c.refuse.ensures
