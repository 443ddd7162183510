-- Where there is a free run, an alloc finds one.
use Rattle.std.proofs.Common.{◌≡◌, ℕ, zero, suc, ◌+◌, ◌*◌, ◌<◌, ◌≤◌, List, Some, Bool, true, ap, ◌∙◌, arith, nat_le, if◌then◌else◌}
use Rattle.eleos_base.specs.declared.memory.Live.{Live}
use Rattle.eleos_base.specs.declared.memory.Reply.TheVariants.{BadSize}
use Rattle.eleos_base.specs.Lists.{first_from}
use Rattle.eleos_base.specs.Plain.{alloc_answer, is_free_run, lowest_run, subs_for}
use Rattle.eleos_base.specs.Plans.{enclave_of, sub_bytes}
use Rattle.eleos_base.specs.Places.{subs}
use Rattle.eleos_core.specs.State.{live}
use Rattle.eleos_core.proofs.FreeRuns.{by_test, le_of, lt_of}
use Rattle.eleos_alloc.specs.Laws.{AllocsComplete}

-- a number that passes is found, or one before it
first_from-finds : (test : ℕ → Bool) (count i s : ℕ) → i ≤ s → s < i + count → test s ≡ true → (t : ℕ) × (first_from test count i ≡ Some t)
unfolding first_from
first_from-finds test zero i s from within passes = absurd (omega arith)
first_from-finds test (suc count) i s from within passes =
    by_test (nat_le s i) (λ holds. let at : i ≡ s = (let le : s ≤ i = le_of s i holds in omega arith) in (s, rw (at, passes)))
    (λ fails. let lt : i < s = lt_of s i fails in
    by_test (test i) (λ yes. (i, rw (yes)))
    (λ no. let rest = first_from-finds test count (i + 1) s (omega arith) (omega arith) passes in (rest.0, rw (no) rest.1)))

-- a free run is found, or a lower one
lowest_run-finds : (blocks : List Live) (all len start : ℕ) → start < all → is_free_run blocks all len start ≡ true → (t : ℕ) × (lowest_run blocks all len ≡ Some t)
unfolding lowest_run
lowest_run-finds blocks all len start within free = first_from-finds (is_free_run blocks all len) all 0 start (omega arith) (omega (arith, within)) free

-- an alloc of a good size for which there is a free run gets a block
pub allocs_complete : AllocsComplete
allocs_complete k x past who n start blocks reply step good run =
    let e : ℕ = enclave_of k who in
    let found = lowest_run-finds (live k past e) (subs k e) (subs_for (sub_bytes k e) n) start run.within run.free in (
      record { enclave = e; at = sub_bytes k e * found.0 },
      step.step.reply_is
          ∙ (ap (λ b. if b then alloc_answer (sub_bytes k e) e (lowest_run (live k past e) (subs k e) (subs_for (sub_bytes k e) n)) else BadSize) good
          ∙ ap (λ o. alloc_answer (sub_bytes k e) e o) found.1),
    )
