use Rattle.std.proofs.Common.{subst}
use Rattle.eleos_machine.specs.Passes.{PassState}
use Rattle.eleos_clock.specs.Turns.{TookClock}
use Rattle.eleos_balloon.proofs.Whole.{begun}
use Rattle.eleos_balloon.proofs.shares.begin_share.Goals as goal

pub returns : goal.returns
returns g c = begun c.args.m.now c.args.enclave c.args.pass.now c.requires.can c.clock.result c.clock.new.pass (subst (λ (y : PassState). TookClock y c.args.enclave c.clock.result c.clock.new.pass) c.sweep_clear.ensures c.clock.ensures)
