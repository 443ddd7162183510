use Rattle.std.proofs.Common.{◌≡◌, ◌+◌, Some, None, length, map, slice_index_or, sum, sym, ◌∙◌, ap, arith}
use Rattle.std.specs.List.{range_with_len}
use Rattle.eleos_core.specs.Opening.{opening_frame}
use Rattle.eleos_base.specs.Places.{frame_counts}
use Rattle.eleos_base.specs.Runs.{first_of_run}
use Rattle.eleos_core.proofs.OpeningFrames.{enclave_owns, owner_more, pool_owns}
use Rattle.eleos_core.proofs.OpeningNumbers.{all_runs_frames, frames_at}
use Rattle.eleos_core.proofs.opening.frames.make_frames.Goals as goal

pub loop-enclave-preserved : goal.loop-enclave-preserved
loop-enclave-preserved c =
    let k = c.args.plan.now in
    let e = c.loop-enclave.enclave in
    let count = (slice_index_or c.as_slice.result.now c.loop-enclave.enclave (record { pages = 0; frames = 0 })).frames in
    let run = frames_at k c.as_slice.result.now c.as_slice.ensures e (record { pages = 0; frames = 0 }) (omega (arith, ap length c.as_slice.ensures)) in
    record {
      parts = owner_more k (Some e) c.loop-enclave.frames.items c.add_frames.new.frames.items (first_of_run (frame_counts k) e) count (enclave_owns k e count run.is) c.in_ok-add_frames.ensures.parts c.loop-enclave.invariant.parts
          ∙ ap (λ n. map (opening_frame k) (range_with_len 0 n)) (sym run.next);
      each = c.in_ok-add_frames.ensures.each c.loop-enclave.invariant.each;
    }

pub returns-clause-parts : goal.returns-clause-parts
returns-clause-parts c =
    let k = c.args.plan.now in
    let e = c.loop-enclave.enclave in
    let all : first_of_run (frame_counts c.args.plan.now) c.loop-enclave.enclave ≡ sum (frame_counts c.args.plan.now) = all_runs_frames k e (omega arith) in
    owner_more k None c.loop-enclave.frames.items c.add_frames-2.new.frames.items (first_of_run (frame_counts k) e) k.spare (λ i lt. pool_owns k (first_of_run (frame_counts k) e) all i) c.in_ok-add_frames-2.ensures.parts c.loop-enclave.invariant.parts
    ∙ ap (λ n. map (opening_frame k) (range_with_len 0 (n + k.spare))) all

pub returns-clause-each : goal.returns-clause-each
returns-clause-each c = c.in_ok-add_frames-2.ensures.each c.loop-enclave.invariant.each
