-- A block that a caller gets touches none of its private ones.
use Rattle.std.proofs.Common.{◌≡◌, inl, inr, ℕ, zero, suc, ◌+◌, ◌*◌, ◌≤◌, ◌||◌, List, [], ◌∷◌, true, nat_le, slice_index, sum, Option, Some, None, if◌then◌else◌, refl, sym, ap, subst, arith}
use Rattle.std.specs.List.{list_all}
use Rattle.std.proofs.lemmas.Bool.Decides.{nat_tests}
use Rattle.std.proofs.lemmas.List.Sums.{sum_by-cons}
use Rattle.eleos_base.specs.declared.memory.Addr.{Addr}
use Rattle.eleos_base.specs.declared.memory.Live.{Live}
use Rattle.eleos_base.specs.declared.memory.Reply.TheVariants.{BadSize, Got}
use Rattle.eleos_base.specs.declared.plan.Plan.{Plan}
use Rattle.eleos_base.specs.Own.{AreApart, IsNew, OwnBlock, Private, block_of, nothing}
use Rattle.eleos_base.specs.Places.{page_counts, subs}
use Rattle.eleos_base.specs.Plain.{alloc_answer, alloc_reply, got, is_accepted, is_apart, is_free_run, is_good_size, lowest_run, subs_for}
use Rattle.eleos_base.specs.Plans.{IsGood, enclave_of}
use Rattle.eleos_core.specs.Laws.{OfEveryRun}
use Rattle.eleos_core.specs.OwnLaws.{AllocsNew, calls_by, own_after}
use Rattle.eleos_core.specs.Seals.{seals_by}
use Rattle.eleos_core.specs.State.{calls, live}
use Rattle.eleos_core.proofs.InOrder.{is_free_run-le, lowest_run-is_free}
use Rattle.eleos_core.proofs.LinkCells.{all_pages-le}
use Rattle.eleos_core.proofs.OwnBlocks.{AllHeld, all_held, true_not_false}
use Rattle.eleos_core.proofs.OwnBytes.{all_in}
use Rattle.eleos_core.proofs.OwnParts.{IsPartOf, part_calls}
use Rattle.eleos_core.proofs.OwnReads.{nothing_part}
use Rattle.eleos_core.proofs.Tests.{by_test, second_of}

-- where an alloc got its block
record IsGot (bs : List Live) (all len start : ℕ) (at : Addr) : Type 0 where
  pub place : at.at ≡ 1024 * start
  pub free : is_free_run bs all len start ≡ true

got_at : (home : ℕ) (bs : List Live) (all n : ℕ) (at : Addr) → Got at ≡ alloc_reply 1024 home bs all n → (start : ℕ) × IsGot bs all (subs_for 1024 n) start at
got_at home bs all n at is = by_test (is_good_size n) (λ v. Got at ≡ (if v then alloc_answer 1024 home (lowest_run bs all (subs_for 1024 n)) else BadSize) → (start : ℕ) × IsGot bs all (subs_for 1024 n) start at)
    (λ _ good. there (lowest_run bs all (subs_for 1024 n)) refl good) (λ _ bad. absurd (true_not_false (ap is_accepted bad))) is
  where
    there : (o : Option ℕ) → lowest_run bs all (subs_for 1024 n) ≡ o → Got at ≡ alloc_answer 1024 home o → (start : ℕ) × IsGot bs all (subs_for 1024 n) start at
    there None none bad = absurd (true_not_false (ap is_accepted bad))
    there (Some start) found good = (start, record { place = ap got good; free = lowest_run-is_free bs all (subs_for 1024 n) start found })

-- runs of sub-pages that are apart, as bytes
bytes_apart : (start len : ℕ) (b : Live) → is_apart start len b ≡ true → AreApart (1024 * start) (1024 * len) (1024 * b.start) (1024 * b.len)
bytes_apart start len b apart = by_test (nat_le (b.start + b.len) start) (λ v. nat_le (b.start + b.len) start ≡ v → v || nat_le (start + len) b.start ≡ true → AreApart (1024 * start) (1024 * len) (1024 * b.start) (1024 * b.len))
    (λ _ is _. let below : b.start + b.len ≤ start = grind (arith, nat_tests) in inr (omega arith))
    (λ _ _ is. let above : start + len ≤ b.start = grind (arith, nat_tests) in inl (omega arith)) refl apart

-- no number of a list is above its sum
item_le : (ns : List ℕ) (e : ℕ) → slice_index ns e ≤ sum ns
item_le [] e = omega arith
item_le (n ∷ ns) zero = let all = sum_by-cons (λ (m : ℕ). m) n ns in omega arith
item_le (n ∷ ns) (suc e) = let all = sum_by-cons (λ (m : ℕ). m) n ns in let rest = item_le ns e in omega arith

module _ (k : Plan) (good : IsGood k) (home who n : ℕ) (bs : List Live) (at : Addr) (is : Got at ≡ alloc_reply 1024 home bs (subs k home) n) (p : Private) (held : AllHeld home who bs p.blocks) where
  is_new : IsNew 1024 p (block_of 1024 at n)
  is_new =
      let found = got_at home bs (subs k home) n at is in
      let start : ℕ = found.0 in
      let place = found.1.place in
      let inside = is_free_run-le bs (subs k home) (subs_for 1024 n) start found.1.free in
      let pages : slice_index (page_counts k) home ≤ sum (page_counts k) = item_le (page_counts k) home in
      let few = all_pages-le k good in
      record {
        whole = omega arith;
        apart = λ other among.
            let here = held other among in
            let apart_there = bytes_apart start (subs_for 1024 n) here.live_block
            (all_in (is_apart start (subs_for 1024 n)) bs here.live_block (second_of (nat_le (start + subs_for 1024 n) (subs k home)) (list_all (is_apart start (subs_for 1024 n)) bs) found.1.free) here.is_in) in
            subst (λ (a : ℕ). AreApart a (1024 * subs_for 1024 n) other.start other.size) (sym place)
            (subst (λ (b : OwnBlock). AreApart (1024 * start) (1024 * subs_for 1024 n) b.start b.size) here.same apart_there);
        fits = omega arith;
      }

-- what touches no block of the whole touches none of a part
new_in_part : (p q : Private) (block : OwnBlock) → IsPartOf p q → IsNew 1024 q block → IsNew 1024 p block
new_in_part p q block part new = record { whole = new.whole; apart = λ other among. new.apart other (part.blocks other among); fits = new.fits }

-- the law
pub allocs_new : OfEveryRun AllocsNew
allocs_new k key h run who n at blocks step =
    let home : ℕ = enclave_of k who in
    let new = is_new k run.good home who n (live k h home) at step.step.reply_is (own_after k h who) (all_held k (seals_by key) run.good who step.within h run.legal) in record {
      all = new;
      allotted = new_in_part _ (own_after k h who) (block_of 1024 at n) (part_calls (calls_by who (calls h)) nothing _ (nothing_part k who)) new;
    }
