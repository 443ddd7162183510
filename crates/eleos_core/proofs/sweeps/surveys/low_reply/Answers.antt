use Rattle.std.proofs.Common.{◌≤◌, length, arith}
use Rattle.eleos_core.specs.Sweeps.{IsEnough}
use Rattle.eleos_core.proofs.SweepTests.{enough_short, only_enough}
use Rattle.eleos_core.proofs.sweeps.surveys.low_reply.Goals as goal

pub overflow_cast-free : goal.overflow_cast-free
overflow_cast-free c = let found : IsEnough c.args.own.now c.args.low c.args.sweep.now (length c.args.sweep.now) = c.is_enough.ensures.0 (cc) in
    let short : length c.args.sweep.now ≤ length c.args.own.now = enough_short c.args.own.now c.args.low c.args.sweep.now (length c.args.sweep.now) found in omega arith

pub returns-then-is_enough : goal.returns-then-is_enough
returns-then-is_enough c = let found : IsEnough c.args.own.now c.args.low c.args.sweep.now (length c.args.sweep.now) = c.is_enough.ensures.0 (cc) in record {
  allowed = found;
  only = only_enough c.args.own.now c.args.pool.now c.args.low c.args.sweep.now found;
}
