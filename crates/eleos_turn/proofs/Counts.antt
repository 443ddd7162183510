-- Where all hands are there, the entries of the whole history are those that the hands had seen.
use Rattle.std.proofs.Common.{◌≡◌, inl, inr, ⊎_elim, ℕ, zero, suc, suc-mul, ◌+◌, ◌*◌, ◌<◌, ◌≤◌, List, [], ◌∷◌, ◌++◌, map, length, refl, sym, ap, ◌∙◌, subst, arith, append-nil, length-append}
use mathlib.Core.Logic.{dite}
use native.Mathlib.Decide.{ℕ_discrete, dec_le}
use Rattle.eleos_base.specs.declared.plot.Event.{Event}
use Rattle.eleos_base.specs.Ties.{Has}
use Rattle.eleos_base.specs.Terms.{Terms}
use Rattle.eleos_turn.specs.Numbers.{times, less_one}
use Rattle.eleos_turn.specs.Hands.{Home, HandState, own, entries}
use Rattle.eleos_turn.specs.Closings.{AllOf, HasNumber, AllBegin, left_of, AllDone, AllOwn, AllSound}
use Rattle.eleos_turn.proofs.Numbers.{here, else, has_less, less_exact, less_here, times_has}
use Rattle.eleos_turn.proofs.Owns.{own_append}
use Rattle.eleos_turn.proofs.Calls.{nil_of}

-- a list that has n different numbers is no shorter
cover : (n : ℕ) (xs : List ℕ) → ((k : ℕ) → 0 < k → k ≤ n → Has k xs) → n ≤ length xs
cover zero xs all = omega arith
cover (suc n) xs all = let has = all (n + 1) (omega arith) (omega arith) in let one = less_exact (n + 1) xs has in
    let rest = cover n (less_one (n + 1) xs) (λ k low high. has_less (n + 1) k xs (all k low (omega (arith, high))) (λ e. omega (arith, e, high))) in omega (arith, one, rest)

-- where n numbers are in a list of that length each stands there once
full_once : (n : ℕ) (xs : List ℕ) → length xs ≡ n → ((k : ℕ) → 0 < k → k ≤ n → Has k xs) → (c : ℕ) → times c xs ≤ 1
full_once n xs long all c = dite (dec_le (times c xs) 1) (λ few. few)
    (λ many. let more = less_here c xs (omega (arith, many)) in let one = less_exact c xs (times_has c xs (omega (arith, many))) in
    let rest = cover n (less_one c xs) (λ k low high. dite (ℕ_discrete k c)
    (λ e. subst (λ (j : ℕ). Has j (less_one c xs)) (sym e) (times_has c (less_one c xs) (omega (arith, more, many))))
    (λ ne. has_less c k xs (all k low high) ne)) in
    absurd (omega (arith, rest, one, long)))

module _ {D Q G : Type 0} where
  abbrev numbers_in : List (HandState D Q G) → List ℕ
  numbers_in ss = map (λ s. s.number) ss

  has_in : (k : ℕ) (ss : List (HandState D Q G)) → HasNumber k ss → Has k (numbers_in ss)
  has_in k [] h = h
  has_in k (s ∷ ss) h = ⊎_elim (λ (e : k ≡ s.number). inl e) (λ (q : HasNumber k ss). inr (has_in k ss q)) h

  numbers_long : (ss : List (HandState D Q G)) → length (numbers_in ss) ≡ length ss
  numbers_long [] = refl
  numbers_long (s ∷ ss) = let q = numbers_long ss in omega (arith, q)

module _ {C D Q G : Type 0} (t : Terms C D Q G) where
  -- how many entries of the history the hands made
  abbrev sum_own : ℕ → List (Event D Q) → List (HandState D Q G) → ℕ
  sum_own n h [] = 0
  sum_own n h (s ∷ ss) = length (own t s.number n h) + sum_own n h ss

  -- how many of them they had seen
  abbrev sum_seen : List (HandState D Q G) → ℕ
  sum_seen [] = 0
  sum_seen (s ∷ ss) = length (entries t s) + sum_seen ss

  sum_none : (n : ℕ) (ss : List (HandState D Q G)) → sum_own n [] ss ≡ 0
  sum_none n [] = refl
  sum_none n (s ∷ ss) = let q = sum_none n ss in omega (arith, q)

  sum_cons : (n : ℕ) (e : Event D Q) (es : List (Event D Q)) (ss : List (HandState D Q G)) → sum_own n (e ∷ es) ss ≡ times (t.who e.entry) (numbers_in ss) + sum_own (n + 1) es ss
  sum_cons n e es [] = omega arith
  sum_cons n e es (s ∷ ss) = let r = sum_cons n e es ss in let w : ℕ = t.who e.entry in let mine : List (ℕ × D) = own t s.number (n + 1) es in dite (ℕ_discrete w s.number)
      (λ is. let a = here {A = ℕ} w s.number 1 0 is in let b = ap length (here w s.number ((n, e.entry) ∷ mine) mine is) in omega (arith, r, a, b))
      (λ ne. let a = else {A = ℕ} w s.number 1 0 ne in let b = ap length (else w s.number ((n, e.entry) ∷ mine) mine ne) in omega (arith, r, a, b))

  sum_most : (n : ℕ) (h : List (Event D Q)) (ss : List (HandState D Q G)) → ((c : ℕ) → times c (numbers_in ss) ≤ 1) → sum_own n h ss ≤ length h
  sum_most n [] ss once = let q = sum_none n ss in omega (arith, q)
  sum_most n (e ∷ es) ss once = let q = sum_cons n e es ss in let r = sum_most (n + 1) es ss once in let o = once (t.who e.entry) in omega (arith, q, r, o)

  own_more : (h : List (Event D Q)) (s : HandState D Q G) (more : List (Event D Q)) → h ≡ s.seen ++ more → length (entries t s) ≤ length (own t s.number 0 h)
  own_more h s more is = let q = ap (λ (z : List (Event D Q)). length (own t s.number 0 z)) is ∙ ap length (own_append t s.number 0 s.seen more) in let l = length-append (entries t s) (own t s.number (0 + length s.seen) more) in omega (arith, q, l)

  sum_more : (h : List (Event D Q)) (ss : List (HandState D Q G)) → AllBegin h ss → sum_seen ss ≤ sum_own 0 h ss
  sum_more h [] b = omega arith
  sum_more h (s ∷ ss) b = let q = own_more h s b.0.0 b.0.1 in let r = sum_more h ss b.1 in omega (arith, q, r)

  own_same : (h : List (Event D Q)) (s : HandState D Q G) (more : List (Event D Q)) → h ≡ s.seen ++ more → length (own t s.number 0 h) ≤ length (entries t s) → own t s.number 0 h ≡ entries t s
  own_same h s more is few = let rest : List (ℕ × D) = own t s.number (0 + length s.seen) more in
      let q : own t s.number 0 h ≡ entries t s ++ rest = ap (own t s.number 0) is ∙ own_append t s.number 0 s.seen more in
      let long = ap length q in let l = length-append (entries t s) rest in
      q ∙ (ap (λ (z : List (ℕ × D)). entries t s ++ z) (nil_of rest (omega (arith, long, l, few))) ∙ append-nil (entries t s))

  all_same : (h : List (Event D Q)) (ss : List (HandState D Q G)) → AllBegin h ss → sum_own 0 h ss ≤ sum_seen ss → AllOwn t h ss
  all_same h [] b few = tt
  all_same h (s ∷ ss) b few = let q = own_more h s b.0.0 b.0.1 in let r = sum_more h ss b.1 in
      (own_same h s b.0.0 b.0.1 (omega (arith, few, q, r)), all_same h ss b.1 (omega (arith, few, q, r)))

  sum_counts : (z : Home Q G) (ss : List (HandState D Q G)) → AllOf z ss → AllDone t ss → AllSound t ss → sum_seen ss + left_of ss ≡ length ss * z.base.each
  sum_counts z [] of done sound = omega arith
  sum_counts z (s ∷ ss) of done sound = let r = sum_counts z ss of.1 done.1 sound.1 in let k = sound.0.counts done.0.made in let each = ap (λ (y : Home Q G). y.base.each) of.0 in let m = suc-mul (length ss) z.base.each in omega (arith, r, k, each, m)

  -- the entries of each hand in the whole history are those that it had seen
  pub all_own : (z : Home Q G) (h : List (Event D Q)) (n : ℕ) (ss : List (HandState D Q G)) → length ss ≡ n → ((k : ℕ) → 0 < k → k ≤ n → HasNumber k ss) → AllOf z ss → AllDone t ss → AllSound t ss → AllBegin h ss
      → length h + left_of ss ≤ n * z.base.each → AllOwn t h ss
  all_own z h n ss long each of done sound b room = let once = full_once n (numbers_in ss) (numbers_long ss ∙ long) (λ k low high. has_in k ss (each k low high)) in
      let most = sum_most 0 h ss once in let sum = sum_counts z ss of done sound in let m : length ss * z.base.each ≡ n * z.base.each = ap (λ (y : ℕ). y * z.base.each) long in
      all_same h ss b (omega (arith, most, sum, room, m))
