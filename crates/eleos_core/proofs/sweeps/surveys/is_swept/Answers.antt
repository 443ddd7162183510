use Rattle.std.proofs.Common.{◌≡◌, ◌<◌, false, refl, arith}
use Rattle.std.specs.List.{count_by, list_all}
use Rattle.eleos_core.specs.Sweeps.{frames_in}
use Rattle.eleos_core.proofs.SweepTests.{is_free, is_free_or_taken, not_swept, swept_decides}
use Rattle.eleos_core.proofs.sweeps.surveys.is_swept.Goals as goal
use Rattle.eleos_core.proofs.sweeps.surveys.is_swept.Goals.{then-count_free-low-via-then-count_free-low, then-count_free-low-via-else-count_free-low+then-not-are_free_or_taken}

pub returns-then-count_free-low : goal.returns-then-count_free-low
returns-then-count_free-low c = (
  (λ wrong. absurd (cc)),
  (λ swept. elim c.then-count_free-low.branch [
    | then-count_free-low-via-then-count_free-low w ↦ (let few = swept.too_few in absurd (omega (arith, c.count_free.ensures, w.if-count_free-low.true)))
    | then-count_free-low-via-else-count_free-low+then-not-are_free_or_taken w ↦
        (let no : list_all is_free_or_taken c.args.sweep.now ≡ false = cc in not_swept c.args.own.now c.args.low c.args.sweep.now (count_by is_free c.args.sweep.now) no swept)
  ]),
)

pub returns : goal.returns
returns c = let few : count_by is_free c.args.sweep.now < c.args.low = omega (arith, c.count_free.ensures, c.if-count_free-low.false) in
    swept_decides c.args.own.now c.args.low c.args.sweep.now (frames_in c.args.sweep.now) c.are_same.result few (cc) refl c.are_same.ensures
