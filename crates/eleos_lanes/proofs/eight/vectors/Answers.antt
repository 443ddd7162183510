use Rattle.std.proofs.Common.{arith, drop}
use Rattle.std.proofs.lemmas.List.{take-take}
use Rattle.eleos_lanes.specs.Planes.{vectors}
use Rattle.eleos_lanes.proofs.eight.vectors.Goals as goal

pub returns : goal.returns
unfolding vectors
returns c =
    let bytes = c.args.bytes.now in
    rw (
      take-take 16 128 bytes (omega arith),
      take-take 16 112 (drop 16 bytes) (omega arith),
      take-take 16 96 (drop 32 bytes) (omega arith),
      take-take 16 80 (drop 48 bytes) (omega arith),
      take-take 16 64 (drop 64 bytes) (omega arith),
      take-take 16 48 (drop 80 bytes) (omega arith),
      take-take 16 32 (drop 96 bytes) (omega arith),
      take-take 16 16 (drop 112 bytes) (omega arith),
    )
