use Rattle.std.proofs.Common.{◌≡◌, Some, map}
use Rattle.std.specs.List.{range_with_len}
use Rattle.eleos_base.specs.Places.{frame_counts}
use Rattle.eleos_base.specs.Runs.{first_of_run}
use Rattle.eleos_core.specs.State.{opening_frames}
use Rattle.eleos_core.proofs.opening.frames.make_clocks.Given as goal

-- the frames of the enclaves so far
abbrev pub invariant-loop-made : goal.invariant-loop-made
invariant-loop-made l = record {
  first : l.first ≡ first_of_run (frame_counts l.plan) l.made-index;
  clocks : l.clocks.items ≡ map (λ e. opening_frames l.plan (Some e)) (range_with_len 0 l.made-index);
}
