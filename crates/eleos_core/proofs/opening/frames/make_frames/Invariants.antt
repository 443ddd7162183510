use Rattle.std.proofs.Common.{◌≡◌, map}
use Rattle.std.specs.List.{range_with_len}
use Rattle.eleos_core.specs.Cells.{part_of_frame}
use Rattle.eleos_core.specs.Opening.{AreFrames, opening_frame}
use Rattle.eleos_base.specs.Places.{frame_counts}
use Rattle.eleos_base.specs.Runs.{first_of_run}
use Rattle.eleos_core.proofs.opening.frames.make_frames.Given as goal

-- the frames of the enclaves so far
abbrev pub invariant-loop-enclave : goal.invariant-loop-enclave
invariant-loop-enclave l = record {
  parts : map part_of_frame l.frames.items ≡ map (opening_frame l.plan) (range_with_len 0 (first_of_run (frame_counts l.plan) l.enclave));
  each : AreFrames l.frames.items;
}
