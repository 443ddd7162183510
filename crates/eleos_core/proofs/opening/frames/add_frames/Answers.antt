use Rattle.std.proofs.Common.{None}
use Rattle.eleos_core.specs.Parts.{frame_part}
use Rattle.eleos_core.proofs.OpeningFrames.{frames_more, free_more}
use Rattle.eleos_core.proofs.opening.frames.add_frames.Goals as goal

pub loop-done-preserved : goal.loop-done-preserved
loop-done-preserved c = record {
  parts = frames_more c.args.frames.now.items c.loop-done.frames.items c.push.new.self.items c.in_ok-free_frame.field-0 (frame_part c.args.owner None) c.loop-done._done
      c.in_ok-push.ensures.items c.in_ok-free_frame.ensures.part c.loop-done.invariant.parts;
  each = λ all. free_more c.loop-done.frames.items c.push.new.self.items c.in_ok-free_frame.field-0 c.in_ok-push.ensures.items c.in_ok-free_frame.ensures.used (c.loop-done.invariant.each all);
}
