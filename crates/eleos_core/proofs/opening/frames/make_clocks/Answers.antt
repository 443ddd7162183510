use Rattle.std.proofs.Common.{◌+◌, Some, slice_index_or, sym, ◌∙◌, ap, arith}
use Rattle.std.specs.List.{range_with_len}
use Rattle.eleos_core.specs.State.{opening_frames}
use Rattle.eleos_core.proofs.OpeningLists.{pushed_run}
use Rattle.eleos_core.proofs.OpeningNumbers.{few_frames, frames_at}
use Rattle.eleos_core.proofs.opening.frames.make_clocks.Goals as goal

pub make_clock-requires : goal.make_clock-requires
make_clock-requires c =
    let run = frames_at c.args.plan.now c.as_slice-made-items.result.now c.as_slice-made-items.ensures c.loop-made.made-index (record { pages = 0; frames = 0 }) c.loop-made-test.true in
    let within = run.within in
    let few = few_frames c.args.plan.now c.requires in
    let first = c.loop-made.invariant.first in
    omega arith

pub loop-made-preserved : goal.loop-made-preserved
loop-made-preserved c =
    let run = frames_at c.args.plan.now c.as_slice-made-items.result.now c.as_slice-made-items.ensures c.loop-made.made-index (record { pages = 0; frames = 0 }) c.loop-made-test.true in
    let count = (slice_index_or c.as_slice-made-items.result.now c.loop-made.made-index (record { pages = 0; frames = 0 })).frames in
    record {
      first = ap (λ n. n + count) c.loop-made.invariant.first ∙ sym run.next;
      clocks = pushed_run (λ e. opening_frames c.args.plan.now (Some e)) 0 c.loop-made.made-index c.loop-made.made-index c.loop-made.clocks.items c.push.new.self.items c.in_ok-make_clock.field-0 (omega arith)
          c.in_ok-push.ensures.items (c.in_ok-make_clock.ensures ∙ (λ t. range_with_len (c.loop-made.invariant.first t) (sym run.is t))) c.loop-made.invariant.clocks;
    }
