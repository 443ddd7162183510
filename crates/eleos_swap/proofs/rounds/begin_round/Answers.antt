use Rattle.std.proofs.Common.{subst}
use Rattle.eleos_machine.specs.Passes.{PassState}
use Rattle.eleos_clock.specs.Turns.{TookClock}
use Rattle.eleos_swap.proofs.Beginning.{begun}
use Rattle.eleos_swap.proofs.rounds.begin_round.Goals as goal

pub returns : goal.returns
returns g c = begun c.args.m.now c.args.enclave c.args.pass.now c.requires.can c.clock-taken.result c.clock-taken.new.pass
    (subst (λ (y : PassState). TookClock y c.args.enclave c.clock-taken.result c.clock-taken.new.pass) c.sweep_clear.ensures c.clock-taken.ensures) c.note_free.new.pass c.note_free.ensures
