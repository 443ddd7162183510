-- Numbers of sub-pages, pages and enclaves. What the proofs know of how long a sub-page is, they know from here.
use Rattle.std.proofs.Common.{◌≡◌, ℕ, zero, suc, ◌+◌, ◌-◌, ◌*◌, ◌/◌, ◌<◌, ◌≤◌, ◌&&◌, List, [], ◌∷◌, length, take, Bool, true, false, Option, Some, None, option_map, unwrap_or, nat_lt, slice_index, if◌then◌else◌, sum, refl, sym, ◌∙◌, subst, ap, arith, inl, inr}
use mathlib.Core.Logic.{dite}
use native.Mathlib.Decide.{ℕ_discrete}
use Rattle.std.specs.List.{range_with_len}
use Rattle.std.proofs.lemmas.Bool.Decides.{nat_tests}
use Rattle.std.proofs.lemmas.Grind.{div_ceil_times}
use Rattle.std.proofs.lemmas.List.Sums.{sum_by-cons}
use Rattle.std.proofs.lemmas.List.Elements.{All-get_or}
use Rattle.eleos_base.specs.declared.memory.Addr.{Addr}
use Rattle.eleos_base.specs.declared.memory.Reply.{Reply}
use Rattle.eleos_base.specs.declared.memory.Reply.TheVariants.{BadRange}
use Rattle.eleos_base.specs.declared.plan.Plan.{Plan}
use Rattle.eleos_base.specs.Plain.{is_in_run, is_in_range, subs_for}
use Rattle.eleos_base.specs.Plans.{IsCaller, IsGood, enclave_of, sub_bytes}
use Rattle.eleos_base.specs.Runs.{first_of_run, run_with}
use Rattle.eleos_base.specs.Places.{all_pages, first_sub, home_of, is_sub_of, page_counts, page_of, per_page, sub_of, subs}
use Rattle.eleos_base.specs.Ties.{Has}
use Rattle.eleos_core.specs.Parts.{home_of_sub, pages_of_run}
use Rattle.eleos_core.proofs.Tests.{by_test}

-- some bytes take some sub-pages
pub some_subs : (bytes len : ℕ) → len ≡ subs_for 1024 bytes → 1 ≤ bytes → 1 ≤ len
some_subs bytes len is some = omega (arith, div_ceil_times bytes 1024 (omega arith))

-- runs of numbers that follow each other
sum_cons : (n : ℕ) (ns : List ℕ) → sum (n ∷ ns) ≡ n + sum ns
sum_cons n ns = sum_by-cons (λ m. m) n ns

lt_true : (a b : ℕ) → a < b → nat_lt a b ≡ true
lt_true a b h = grind (arith, nat_tests)

lt_false : (a b : ℕ) → b ≤ a → nat_lt a b ≡ false
lt_false a b h = grind (arith, nat_tests)

-- a number within a run is found there
run_is : (ns : List ℕ) (run i : ℕ) → first_of_run ns run ≤ i → i < first_of_run ns run + slice_index ns run → run_with ns i ≡ Some run
run_is [] zero i low high = absurd (omega arith)
run_is [] (suc run) i low high = absurd (omega arith)
run_is (n ∷ ns) zero i low high = ap (λ v. if v then Some 0 else option_map suc (run_with ns (i - n))) (lt_true i n (omega arith))
run_is (n ∷ ns) (suc run) i low high =
    let first : first_of_run (n ∷ ns) (suc run) ≡ n + first_of_run ns run = sum_cons n (take run ns) in
    ap (λ v. if v then Some 0 else option_map suc (run_with ns (i - n))) (lt_false i n (omega arith)) ∙ ap (option_map suc) (run_is ns run (i - n) (omega arith) (omega arith))

-- each number below the sum is within a run
record IsInRun (ns : List ℕ) (run i : ℕ) : Type 0 where
  pub exists : run < length ns
  pub low : first_of_run ns run ≤ i
  pub high : i < first_of_run ns run + slice_index ns run
  pub found : run_with ns i ≡ Some run

run_of : (ns : List ℕ) (i : ℕ) → i < sum ns → (run : ℕ) × IsInRun ns run i
run_of [] i h = absurd (omega arith)
run_of (n ∷ ns) i h = by_test (nat_lt i n) (λ v. nat_lt i n ≡ v → (run : ℕ) × IsInRun (n ∷ ns) run i)
    (λ _ is. (0, record { exists = omega arith; low = omega arith; high = let z : i < n = grind (arith, nat_tests) in omega arith; found = ap (λ v. if v then Some 0 else option_map suc (run_with ns (i - n))) is }))
    (λ _ is. let low : n ≤ i = grind (arith, nat_tests) in
    let all : sum (n ∷ ns) ≡ n + sum ns = sum_cons n ns in
    let more = run_of ns (i - n) (omega arith) in
    let first : first_of_run (n ∷ ns) (suc more.0) ≡ n + first_of_run ns more.0 = sum_cons n (take more.0 ns) in
    let l = more.1.low in let u = more.1.high in let e = more.1.exists in
    (suc more.0, record { exists = omega arith; low = omega arith; high = omega arith; found = ap (λ v. if v then Some 0 else option_map suc (run_with ns (i - n))) is ∙ ap (option_map suc) more.1.found })) refl

-- each run ends within the sum
run_within : (ns : List ℕ) (run : ℕ) → first_of_run ns run + slice_index ns run ≤ sum ns
run_within [] zero = omega arith
run_within [] (suc run) = omega arith
run_within (n ∷ ns) zero = let all : sum (n ∷ ns) ≡ n + sum ns = sum_cons n ns in omega arith
run_within (n ∷ ns) (suc run) =
    let all : sum (n ∷ ns) ≡ n + sum ns = sum_cons n ns in
    let first : first_of_run (n ∷ ns) (suc run) ≡ n + first_of_run ns run = sum_cons n (take run ns) in
    let more = run_within ns run in omega arith

has_range : (a n s : ℕ) → a ≤ s → s < a + n → Has s (range_with_len a n)
has_range a zero s low high = absurd (omega arith)
has_range a (suc n) s low high = dite (ℕ_discrete s a) (λ e. inl e) (λ ne. inr (has_range (a + 1) n s (omega arith) (omega arith)))

module _ (k : Plan) where
  -- a sub-page has some bytes
  pub some_bytes : (e : ℕ) → 0 < sub_bytes k e
  some_bytes e = omega arith

  -- the page of a sub-page of an enclave is one of the enclave's
  page_from : (e s : ℕ) → is_sub_of k e s ≡ true → first_of_run (page_counts k) e ≤ page_of k s
  page_from e s is = grind (arith, nat_tests)

  page_below : (e s : ℕ) → is_sub_of k e s ≡ true → page_of k s < first_of_run (page_counts k) e + slice_index (page_counts k) e
  page_below e s is = grind (arith, nat_tests)

  -- and the other way round
  sub_by_page : (e s : ℕ) → first_of_run (page_counts k) e ≤ page_of k s → page_of k s < first_of_run (page_counts k) e + slice_index (page_counts k) e → is_sub_of k e s ≡ true
  sub_by_page e s low high = grind (arith, nat_tests)

  -- and one of the machine's
  pub page_exists : (e s : ℕ) → is_sub_of k e s ≡ true → page_of k s < all_pages k
  page_exists e s is = let within = run_within (page_counts k) e in let below = page_below e s is in omega arith

  -- its home is the enclave
  home_is : (e s : ℕ) → is_sub_of k e s ≡ true → home_of k (page_of k s) ≡ Some e
  home_is e s is = run_is (page_counts k) e (page_of k s) (page_from e s is) (page_below e s is)

  -- so is the sub-page's
  pub home_sub_is : (e s : ℕ) → is_sub_of k e s ≡ true → home_of_sub k s ≡ e
  home_sub_is e s is = ap (λ o. unwrap_or o 0) (home_is e s is)

  -- and the other way round, where the page is one of the machine's
  pub sub_by_home : (e s : ℕ) → page_of k s < all_pages k → home_of_sub k s ≡ e → is_sub_of k e s ≡ true
  sub_by_home e s exists is =
      let run = run_of (page_counts k) (page_of k s) exists in
      let same : run.0 ≡ e = sym (ap (λ o. unwrap_or o 0) run.1.found) ∙ is in
      subst (λ (q : ℕ). is_sub_of k q s ≡ true) same (sub_by_page run.0 s run.1.low run.1.high)

  -- a caller's enclave is one of the plan's
  pub caller_home : IsGood k → (who : ℕ) → IsCaller k who → enclave_of k who < length k.enclaves
  caller_home good who caller = let from = caller.from_one in let within = caller.within in All-get_or (λ enclave. enclave < length k.enclaves) k.callers (who - 1) 0 (omega arith) good.at_home

  -- an access that is in range is one in the enclave
  pub at_home_is : (e : ℕ) (at : Addr) (n : ℕ) → is_in_range (sub_bytes k e) e (subs k e) at n ≡ true → at.enclave ≡ e
  at_home_is e at n is = grind (arith, nat_tests)

  offset_within : (e : ℕ) (at : Addr) (n : ℕ) → is_in_range (sub_bytes k e) e (subs k e) at n ≡ true → at.at / sub_bytes k e < subs k e
  offset_within e at n is = grind (arith, nat_tests)

  first_and : (first subs i : ℕ) → i < subs → is_in_run first subs (first + i) ≡ true
  first_and first subs i within = grind (arith, nat_tests)

  -- the sub-page of an address, counted from the machine's first sub-page and from the enclave's
  pub sub_is : (e : ℕ) (at : Addr) → at.enclave ≡ e → sub_of k at ≡ first_sub k e + at.at / sub_bytes k e
  sub_is e at home = ap (λ (q : ℕ). first_sub k q + at.at / sub_bytes k q) home

  -- counted from the enclave's first, it is the address divided by the size of a sub-page
  pub place_is : (e : ℕ) (at : Addr) → at.enclave ≡ e → sub_of k at - first_sub k e ≡ at.at / sub_bytes k e
  place_is e at home = let is = sub_is e at home in omega (arith, is)

  -- the sub-page of an access that is in range is one of the enclave's
  pub sub_in_range : (e : ℕ) (at : Addr) (n : ℕ) → is_in_range (sub_bytes k e) e (subs k e) at n ≡ true → is_sub_of k e (sub_of k at) ≡ true
  sub_in_range e at n is = ap (is_sub_of k e) (sub_is e at (at_home_is e at n is)) ∙ first_and (first_sub k e) (subs k e) (at.at / sub_bytes k e) (offset_within e at n is)

  -- a sub-page between the first of a page and the first of the next is in that page
  pub page_within : (p s : ℕ) → p * per_page k ≤ s → s < p * per_page k + per_page k → page_of k s ≡ p
  page_within p s low high = omega arith

  -- a sub-page lies in its page
  pub page_low : (s : ℕ) → page_of k s * per_page k ≤ s
  page_low s = omega arith

  -- and below the first sub-page of the next page
  pub page_high : (s : ℕ) → s < page_of k s * per_page k + per_page k
  page_high s = omega arith

  page_rises : (s s' : ℕ) → s ≤ s' → page_of k s ≤ page_of k s'
  page_rises s s' le = omega arith

  -- the pages of a run have the pages of its sub-pages
  pub has_page : (start len s : ℕ) → is_in_run start len s ≡ true → Has (page_of k s) (pages_of_run k start len)
  has_page start zero s is = absurd (grind (arith, nat_tests))
  has_page start (suc n) s is =
      let low : page_of k start ≤ page_of k s = page_rises start s (grind (arith, nat_tests)) in
      let high : page_of k s ≤ page_of k (start + n) = page_rises s (start + n) (grind (arith, nat_tests)) in
      has_range (page_of k start) (page_of k (start + n) - page_of k start + 1) (page_of k s) low (grind (arith, low, high))

  -- an enclave's sub-pages start with its first
  pub sub_from : (e s : ℕ) → is_sub_of k e s ≡ true → first_sub k e ≤ s
  sub_from e s is = grind (arith, nat_tests)

-- an access that is not refused is in range
pub in_range_of : (v : Bool) (o : Option Reply) → (if v then o else Some BadRange) ≡ None → v ≡ true
in_range_of true o e = refl
in_range_of false o e = cc

-- a run of the sub-pages of an enclave, counted from the machine's first sub-page and from the enclave's
pub run_shift : (first subs start len s : ℕ) → start + len ≤ subs → is_in_run (first + start) len s ≡ (is_in_run first subs s && is_in_run start len (s - first))
run_shift first subs start len s within = grind (arith, nat_tests)

-- an empty run has no sub-page
pub no_run : (start s : ℕ) → is_in_run start 0 s ≡ false
no_run start s = grind (arith, nat_tests)

-- some bytes take some sub-pages
pub some_subs_for : (k : Plan) (e bytes : ℕ) → 1 ≤ bytes → 1 ≤ subs_for (sub_bytes k e) bytes
some_subs_for k e bytes some = some_subs bytes (subs_for (sub_bytes k e) bytes) refl some
