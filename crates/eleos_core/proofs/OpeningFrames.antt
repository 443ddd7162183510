-- The frames before the first event, owner by owner.
use Rattle.std.proofs.Common.{◌≡◌, ℕ, ◌+◌, ◌<◌, List, [], ◌∷◌, ◌++◌, map, replicate, Some, None, sum, slice_index, sym, ◌∙◌, ap, subst, arith}
use Rattle.std.specs.List.{AllByRecursion, range_with_len}
use Rattle.std.proofs.lemmas.List.{replicate-append-replicate}
use Rattle.eleos_base.specs.declared.plan.Plan.{Plan}
use Rattle.eleos_core.specs.declared.cells.frame.Frame.{Frame}
use Rattle.eleos_core.specs.Cells.{IsUse, part_of_frame}
use Rattle.eleos_core.specs.Opening.{AreFrames, opening_frame}
use Rattle.eleos_core.specs.Parts.{Part, frame_part}
use Rattle.eleos_base.specs.Places.{Owner, frame_counts}
use Rattle.eleos_base.specs.Runs.{first_of_run, run_with}
use Rattle.eleos_core.proofs.OpeningLists.{all_more, grown, map_runs}
use Rattle.eleos_core.proofs.OpeningNumbers.{run_found}
use Rattle.eleos_core.proofs.Ranges.{replicate-range}
use Rattle.eleos_core.proofs.RunNumbers.{run_past}

-- one more frame
pub frames_more : (old frames frames' : List Frame) (frame : Frame) (q : Part) (n : ℕ) → frames' ≡ frames ++ frame ∷ [] → part_of_frame frame ≡ q
    → map part_of_frame frames ≡ map part_of_frame old ++ replicate n q → map part_of_frame frames' ≡ map part_of_frame old ++ replicate (n + 1) q
frames_more old frames frames' frame q n add is so_far = grown part_of_frame frames frames' frame (map part_of_frame old) (replicate n q) (replicate (n + 1) q) q add is (sym (replicate-append-replicate n 1 q)) so_far

-- what holds of the frames so far and of one more holds of all
pub free_more : (frames frames' : List Frame) (frame : Frame) → frames' ≡ frames ++ frame ∷ [] → ((pages : ℕ) → IsUse pages frame.used) → AreFrames frames → AreFrames frames'
free_more frames frames' frame add free all = λ pages. subst (AllByRecursion (λ (f : Frame). IsUse pages f.used)) (sym add) (all_more (λ (f : Frame). IsUse pages f.used) frames frame (all pages) (free pages))

module _ (k : Plan) where
  -- with the frames of one more owner, who has them all
  pub owner_more : (owner : Owner) (frames frames' : List Frame) (first count : ℕ) → ((i : ℕ) → i < count → run_with (frame_counts k) (first + i) ≡ owner)
      → map part_of_frame frames' ≡ map part_of_frame frames ++ replicate count (frame_part owner None)
      → map part_of_frame frames ≡ map (opening_frame k) (range_with_len 0 first) → map part_of_frame frames' ≡ map (opening_frame k) (range_with_len 0 (first + count))
  owner_more owner frames frames' first count owned add so_far = add ∙ (ap (λ qs. qs ++ replicate count (frame_part owner None)) so_far
      ∙ (ap (λ qs. map (opening_frame k) (range_with_len 0 first) ++ qs) (replicate-range (frame_part owner None) 0 count)
      ∙ map_runs (opening_frame k) (λ (i : ℕ). frame_part owner None) 0 0 first count
      (λ i lt. sym (ap (λ o. frame_part o None) (ap (run_with (frame_counts k)) (let same : 0 + first + i ≡ first + i = omega arith in same) ∙ owned i lt)))))

  -- an enclave has the frames of its run
  pub enclave_owns : (e count : ℕ) → slice_index (frame_counts k) e ≡ count → (i : ℕ) → i < count → run_with (frame_counts k) (first_of_run (frame_counts k) e + i) ≡ Some e
  enclave_owns e count many i lt = run_found (frame_counts k) e (first_of_run (frame_counts k) e + i) (omega arith) (omega arith)

  -- and nobody those behind
  pub pool_owns : (first : ℕ) → first ≡ sum (frame_counts k) → (i : ℕ) → run_with (frame_counts k) (first + i) ≡ None
  pool_owns first all i = run_past (frame_counts k) (first + i) (omega arith)
