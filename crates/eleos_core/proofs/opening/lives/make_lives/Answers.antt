use Rattle.std.proofs.Common.{[], arith}
use Rattle.eleos_core.specs.State.{live}
use Rattle.eleos_core.proofs.OpeningLists.{pushed_run}
use Rattle.eleos_core.proofs.opening.lives.make_lives.Goals as goal

pub loop-enclave-preserved : goal.loop-enclave-preserved
loop-enclave-preserved c = pushed_run (live c.args.plan.now []) 0 c.loop-enclave.enclave c.loop-enclave.enclave c.loop-enclave.cells.items c.push.new.self.items c.in_ok-make_live.field-0 (omega arith)
    c.in_ok-push.ensures.items c.in_ok-make_live.ensures c.loop-enclave.invariant
