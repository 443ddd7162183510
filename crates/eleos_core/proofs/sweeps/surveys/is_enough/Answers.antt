use Rattle.std.proofs.Common.{◌≡◌, ◌≤◌, length, false, true, refl, sym, ◌∙◌, arith}
use Rattle.std.specs.List.{list_all}
use Rattle.eleos_core.specs.Sweeps.{frames_in}
use Rattle.eleos_core.proofs.SweepTests.{enough_decides, is_free, is_listed, listed_are, not_free, not_listed}
use Rattle.eleos_core.proofs.sweeps.surveys.is_enough.Goals as goal
use Rattle.eleos_core.proofs.sweeps.surveys.is_enough.Goals.{then-sweep-low-via-then-sweep-low, then-sweep-low-via-else-sweep-low+then-not-are_free}

pub returns-then-sweep-low : goal.returns-then-sweep-low
returns-then-sweep-low c = (
  (λ wrong. absurd (cc)),
  (λ enough. elim c.then-sweep-low.branch [
    | then-sweep-low-via-then-sweep-low w ↦ (let many = enough.enough in absurd (omega (arith, w.if-sweep-low.true)))
    | then-sweep-low-via-else-sweep-low+then-not-are_free w ↦
        (let no : list_all is_free c.args.sweep.now ≡ false = cc in not_free c.args.own.now c.args.low c.args.sweep.now (length c.args.sweep.now) no enough)
  ]),
)

pub returns-then-not-are_listed : goal.returns-then-not-are_listed
returns-then-not-are_listed c =
    let no : is_listed c.args.own.now (frames_in c.args.sweep.now) ≡ false = sym (listed_are c.args.own.now c.args.sweep.now) ∙ (cc) in (
      (λ wrong. absurd (cc)),
      (λ enough. not_listed c.args.own.now c.args.low c.args.sweep.now (length c.args.sweep.now) (frames_in c.args.sweep.now) refl no enough),
    )

pub returns : goal.returns
returns c = let many : c.args.low ≤ length c.args.sweep.now = omega (arith, c.if-sweep-low.false) in
    let named : is_listed c.args.own.now (frames_in c.args.sweep.now) ≡ true = sym (listed_are c.args.own.now c.args.sweep.now) ∙ (cc) in
    enough_decides c.args.own.now c.args.low c.args.sweep.now (frames_in c.args.sweep.now) c.are_distinct.result many (cc) refl named c.are_distinct.ensures
