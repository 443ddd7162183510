use Rattle.std.proofs.Common.{◌≡◌, ◌++◌, None, map, replicate}
use Rattle.eleos_core.specs.Cells.{part_of_frame}
use Rattle.eleos_core.specs.Opening.{AreFrames}
use Rattle.eleos_core.specs.Parts.{frame_part}
use Rattle.eleos_core.proofs.opening.frames.add_frames.Given as goal

-- so many frames were added so far
abbrev pub invariant-loop-done : goal.invariant-loop-done
invariant-loop-done l = record {
  parts : map part_of_frame l.frames.items ≡ map part_of_frame l.fn.frames.items ++ replicate l._done (frame_part l.owner None);
  each : AreFrames l.fn.frames.items → AreFrames l.frames.items;
}
