-- Each step on the queue keeps its rule.
use Rattle.std.proofs.Common.{◌≡◌, ℕ, zero, suc, ◌+◌, ◌<◌, List, [], ◌∷◌, ◌++◌, length, set, get_or, sym, refl, ap, ◌∙◌, arith, cond, ◌==◌}
use Rattle.std.specs.List.{sum_by}
use Rattle.std.proofs.lemmas.List.Sums.{sum_by-set, sum_by-append}
use Rattle.std.proofs.lemmas.List.Elements.{All-append, All-cons}
use mathlib.Core.Option.{some, some-injective, some-ne-none}
use lib.ListN.{get_elem?}
use Rattle.crossbeam_queue.specs.Fifo.{Pushes, Pops, Admits, Learns}
use Rattle.eleos_words.specs.declared.layout.TheConstants.{CELLS}
use Rattle.eleos_work.specs.declared.rule.JobView.{JobView}
use Rattle.eleos_work.specs.Rules.{job_view, times, Kept, Stood}

there : (views : List JobView) (port : ℕ) (v : JobView) → get_elem? views port ≡ some v → (port < length views) × (get_or views port v ≡ v)
there [] zero v e = absurd (some-ne-none v (sym e))
there [] (suc port) v e = absurd (some-ne-none v (sym e))
there (x ∷ xs) zero v e = (omega arith, some-injective x v e)
there (x ∷ xs) (suc port) v e = let t = there xs port v e in (omega arith, t.1)

-- a number summed over all passes, after one of them has changed
total_set : (f : JobView → ℕ) (views : List JobView) (port : ℕ) (v w : JobView) → get_elem? views port ≡ some v
    → sum_by f (set views port w) + f v ≡ sum_by f views + f w
total_set f views port v w at =
    let t = there views port v at in
    ap (λ (x : JobView). sum_by f (set views port w) + f x) (sym t.1) ∙ sum_by-set f views port w v t.0

times-snoc : (c x : ℕ) (xs : List ℕ) → times c (xs ++ x ∷ []) ≡ times c xs + times c (x ∷ [])
times-snoc c x xs = sum_by-append (λ y. cond (y == c) 1 0) xs (x ∷ [])

times-cons : (c x : ℕ) (xs : List ℕ) → times c (x ∷ xs) ≡ times c (x ∷ []) + times c xs
times-cons c x xs = sum_by-append (λ y. cond (y == c) 1 0) (x ∷ []) xs

-- a pass may push the number of a cell, which is then the last that it has pushed
pub pushes : (n port : ℕ) (v : JobView) (x : ℕ) → x < CELLS → Pushes Kept n port v x (λ w. w ≡ job_view (v.pushed ++ x ∷ []) v.popped)
pushes n port v x small items views room kept at =
    let w : JobView = job_view (v.pushed ++ x ∷ []) v.popped in (
      w,
      record {
        cells = All-append (λ c. c < CELLS) items (x ∷ []) kept.cells (All-cons (λ c. c < CELLS) x [] small (λ k d lt. absurd (omega arith)));
        counts = λ c.
            let p = total_set (λ u. times c u.pushed) views port v w at in
            let q = total_set (λ u. times c u.popped) views port v w at in
            let k = kept.counts c in
            omega (arith, times-snoc c x v.pushed, times-snoc c x items);
      },
      refl,
    )

-- a pass may pop what is next in the queue: it is the number of a cell, and then the last that the pass has popped
pub pops : (port : ℕ) (v : JobView) → Pops Kept port v (λ x w. (x < CELLS) × (w ≡ job_view v.pushed (v.popped ++ x ∷ [])))
pops port v x items views kept at =
    let w : JobView = job_view v.pushed (v.popped ++ x ∷ []) in (
      w,
      record {
        cells = λ k d lt. kept.cells (suc k) d (omega arith);
        counts = λ c.
            let p = total_set (λ u. times c u.pushed) views port v w at in
            let q = total_set (λ u. times c u.popped) views port v w at in
            let k = kept.counts c in
            omega (arith, times-snoc c x v.popped, times-cons c x items);
      },
      (kept.cells 0 0 (omega arith), refl),
    )

-- a look tells what stands in the queue, and what all passes have done
pub learns : (port : ℕ) (v : JobView) → Learns Kept port v (Stood v)
learns port v items views kept at =
    let t = there views port v at in
    record { views = views; kept = kept; place = port; within = t.0; here = t.1 }

-- a new pass has pushed and popped nothing
pub admits : Admits Kept (job_view [] [])
admits items views kept = record {
  cells = kept.cells;
  counts = λ c.
      let k = kept.counts c in
      omega (arith, sum_by-append (λ (u : JobView). times c u.pushed) views (job_view [] [] ∷ []), sum_by-append (λ (u : JobView). times c u.popped) views (job_view [] [] ∷ []));
}

pub begins : Kept [] (job_view [] [] ∷ [])
begins = record { cells = λ k d lt. absurd (omega arith); counts = λ c. refl }
