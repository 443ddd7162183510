-- No nonce is used twice.
use Rattle.std.proofs.Common.{◌≡◌, ◌≢◌, ℕ, zero, suc, ◌+◌, ◌*◌, ◌<◌, ◌≤◌, List, [], ◌∷◌, ◌++◌, Bool, true, filter, map, if◌then◌else◌, sym, subst, ap, arith}
use Rattle.std.specs.List.{AllByRecursion, range_with_len}
use Rattle.std.proofs.lemmas.List.Sums.{sum-map}
use Rattle.eleos_base.specs.declared.plan.Plan.{Plan}
use Rattle.eleos_base.specs.declared.plan.EnclavePlan.{EnclavePlan}
use Rattle.eleos_base.specs.Plans.{IsGood}
use Rattle.eleos_core.specs.declared.event.Entry.{Entry}
use Rattle.eleos_core.specs.Laws.{AreDifferent, FreshNonces, IsLegalRun}
use Rattle.eleos_base.specs.Places.{all_pages, all_subs, per_page}
use Rattle.eleos_core.specs.Seals.{nonce_of, seals_by}
use Rattle.eleos_core.specs.State.{History, is_sealing, sealings, sealings_of, version}
use Rattle.eleos_core.proofs.Differences.{AreDifferent_append, AreDifferent_map, all_append, all_of, all_of_both}
use Rattle.eleos_core.proofs.Nonces.{IsNumbered, nonce_of_inj}
use Rattle.eleos_core.proofs.Tests.{by_test}
use Rattle.eleos_core.proofs.Versions.{can_seal}

-- the next sealings of places that pass, where c is the version of each before
module _ (p : ℕ → Bool) (c : ℕ → ℕ) where
  abbrev next : List ℕ → List (ℕ × ℕ)
  next ss = map (λ s. (s, c s + 1)) (filter p ss)

  abbrev after : ℕ → ℕ
  after s = if p s then c s + 1 else c s

  -- one place more, by whether it passes
  abbrev next_if : Bool → ℕ → List ℕ → List (ℕ × ℕ)
  next_if passes s ss = map (λ s. (s, c s + 1)) (if passes then s ∷ filter p ss else filter p ss)

  all_next : (P : ℕ × ℕ → Type 0) (s : ℕ) (ss : List ℕ) → (p s ≡ true → P (s, c s + 1)) → AllByRecursion P (next ss) → AllByRecursion P (next (s ∷ ss))
  all_next P s ss one rest = by_test (p s) (λ v. AllByRecursion P (next_if v s ss)) (λ e. (one e, rest)) (λ e. rest)

  next_from : (b a n : ℕ) → b ≤ a → AllByRecursion (λ q. b ≤ q.0) (next (range_with_len a n))
  next_from b a zero h = tt
  next_from b a (suc n) h = all_next (λ q. b ≤ q.0) a (range_with_len (a + 1) n) (λ e. h) (next_from b (a + 1) n (omega arith))

  next_below : (b a n : ℕ) → a + n ≤ b → AllByRecursion (λ q. q.0 < b) (next (range_with_len a n))
  next_below b a zero h = tt
  next_below b a (suc n) h = all_next (λ q. q.0 < b) a (range_with_len (a + 1) n) (λ e. omega arith) (next_below b (a + 1) n (omega arith))

  next_most : (ss : List ℕ) → AllByRecursion (λ q. q.1 ≤ after q.0) (next ss)
  next_most [] = tt
  next_most (s ∷ ss) = all_next (λ q. q.1 ≤ after q.0) s ss (λ e. subst (λ v. c s + 1 ≤ (if v then c s + 1 else c s)) (sym e) (omega arith)) (next_most ss)

  next_above : (ss : List ℕ) → AllByRecursion (λ q. c q.0 < q.1) (next ss)
  next_above [] = tt
  next_above (s ∷ ss) = all_next (λ q. c q.0 < q.1) s ss (λ e. omega arith) (next_above ss)

  after_more : (s : ℕ) → c s ≤ after s
  after_more s = by_test (p s) (λ v. c s ≤ (if v then c s + 1 else c s)) (λ e. omega arith) (λ e. omega arith)

  -- sealings of two places differ
  places_differ : (a : ℕ) (q : ℕ × ℕ) → a + 1 ≤ q.0 → (a, c a + 1) ≢ q
  places_differ a q above same = let place : a ≡ q.0 = ap (λ (z : ℕ × ℕ). z.0) same in omega arith

  next_different : (a n : ℕ) → AreDifferent (next (range_with_len a n))
  next_different a zero = tt
  next_different a (suc n) =
      let others = range_with_len (a + 1) n in
      let apart = all_of (λ q. a + 1 ≤ q.0) (λ q. (a, c a + 1) ≢ q) (places_differ a) (next others) (next_from (a + 1) (a + 1) n (omega arith)) in
      by_test (p a) (λ v. AreDifferent {A = ℕ × ℕ} (next_if v a others)) (λ e. (apart, next_different (a + 1) n)) (λ e. next_different (a + 1) n)

  -- a sealing before is none of the next
  old_differs : (old q : ℕ × ℕ) → old.1 ≤ c old.0 → c q.0 < q.1 → old ≢ q
  old_differs old q most above same =
      let version : old.1 ≡ q.1 = ap (λ (z : ℕ × ℕ). z.1) same in
      let before : c old.0 ≡ c q.0 = ap (λ (z : ℕ × ℕ). c z.0) same in
      omega arith

  different : (a n : ℕ) (old : List (ℕ × ℕ)) → AllByRecursion (λ q. q.1 ≤ c q.0) old → AreDifferent old → AreDifferent (old ++ next (range_with_len a n))
  different a n old most old_different =
      let new = next (range_with_len a n) in
      let above = next_above (range_with_len a n) in
      let apart = all_of (λ o. o.1 ≤ c o.0) (λ o. AllByRecursion (λ q. o ≢ q) new) (λ o at_most. all_of (λ q. c q.0 < q.1) (λ q. o ≢ q) (λ q. old_differs o q at_most) new above) old most in
      AreDifferent_append old new old_different (next_different a n) apart

module _ (k : Plan) where
  -- a version never falls
  version_rises : (e : Entry) (past : History) (sealing : ℕ × ℕ) → sealing.1 ≤ version k past sealing.0 → sealing.1 ≤ version k (e ∷ past) sealing.0
  version_rises e past sealing most = let rises = after_more (is_sealing k e past) (version k past) sealing.0 in omega (arith, rises, most)

  -- each sealing's version is at most that of its place
  sealings_most : (h : History) → AllByRecursion (λ sealing. sealing.1 ≤ version k h sealing.0) (sealings k h)
  sealings_most [] = tt
  sealings_most (e ∷ past) =
      let most = λ (before : History) (sealing : ℕ × ℕ). sealing.1 ≤ version k before sealing.0 in
      let old = all_of (most past) (most (e ∷ past)) (version_rises e past) (sealings k past) (sealings_most past) in
      all_append (most (e ∷ past)) (sealings k past) (sealings_of k e past) old (next_most (is_sealing k e past) (version k past) (all_subs k))

  -- and is of a sub-page of the machine
  sealings_below : (h : History) → AllByRecursion (λ sealing. sealing.0 < all_pages k * per_page k) (sealings k h)
  sealings_below [] = tt
  sealings_below (e ∷ past) =
      let count = all_pages k * per_page k in
      let new = next_below (is_sealing k e past) (version k past) count 0 count (omega arith) in
      all_append (λ sealing. sealing.0 < count) (sealings k past) (sealings_of k e past) (sealings_below past) new

  -- no place is sealed twice at a version
  pub sealings_different : (h : History) → AreDifferent (sealings k h)
  sealings_different [] = tt
  sealings_different (e ∷ past) = different (is_sealing k e past) (version k past) 0 (all_pages k * per_page k) (sealings k past) (sealings_most past) (sealings_different past)

-- the sub-pages of a good plan are few
few_subs : (k : Plan) → IsGood k → all_pages k * per_page k ≤ 16384
few_subs k good =
    let same = sum-map (λ (made : EnclavePlan). made.pages) k.enclaves in
    let most = good.all_pages in
    omega (arith, same, most)

-- so places and versions fit a nonce
sealings_numbered : (k : Plan) (key : List ℕ) (h : History) → IsLegalRun k key h → AllByRecursion IsNumbered (sealings k h)
sealings_numbered k key h run = all_of_both (λ sealing. sealing.0 < all_pages k * per_page k) (λ sealing. sealing.1 ≤ version k h sealing.0) IsNumbered
    (λ sealing below most. record {
      place = (let few = few_subs k run.good in omega (arith, few, below));
      version = (let worn = (can_seal k (seals_by key) h run.legal sealing.0).most in let wear = run.good.wear in omega (arith, worn, wear, most));
    })
    (sealings k h) (sealings_below k h) (sealings_most k h)

-- no nonce is used twice, and no version is above the wear limit
pub fresh_nonces : (k : Plan) (key : List ℕ) (h : History) → IsLegalRun k key h → FreshNonces k h
fresh_nonces k key h run = record {
  once = AreDifferent_map (λ sealing. nonce_of sealing.0 sealing.1) IsNumbered nonce_of_inj (sealings k h) (sealings_numbered k key h run) (sealings_different k h);
  worn_at_most = λ s. (can_seal k (seals_by key) h run.legal s).most;
}
