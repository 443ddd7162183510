-- Laws of the bits of a word, of numbers in lists, and of sums over lists.
use Rattle.std.proofs.Common.{◌≡◌, ◌≢◌, ◌⊎◌, ℕ, zero, suc, ◌+◌, ◌/◌, ◌%◌, ◌<◌, ◌≤◌, eqb, cond, Bool, bit_and, bit_or, List, [], ◌∷◌, ◌++◌, length, set, sym, refl, ap, ◌∙◌, subst, ⊎_elim, inl, inr, arith, eq-eqb, ne_eqb, mod-eq_of_lt, le_refl}
use mathlib.Core.Logic.{dite}
use mathlib.Core.Option.{some, some-injective, some-ne-none}
use native.Mathlib.Decide.{ℕ_discrete}
use lib.ListN.{get_elem?}
use lib.Bits.{and_step, or_step, or_shr, and_shr, or_zero_r, and_mask}
use Rattle.eleos_base.specs.Ties.{Has}
use Rattle.eleos_turn.specs.Numbers.{without, times, less_one, above, total}

-- a word is odd after a mask with bit 0 was set in it
pub or_odd : (n k : ℕ) → k % 2 ≡ 1 → bit_or n k % 2 ≡ 1
or_odd n k odd = let e = or_step n k in omega arith

-- a word is even after it was cut by a mask without bit 0
pub and_even : (n k : ℕ) → k % 2 ≡ 0 → bit_and n k % 2 ≡ 0
and_even n k even = let e = and_step n k in omega arith

-- a mask that has bit 0 leaves the word even or odd as it was
pub and_odd : (n k : ℕ) → k % 2 ≡ 1 → bit_and n k % 2 ≡ n % 2
and_odd n k odd = let e = and_step n k in omega arith

-- a mask of the lowest 8 bits that is set leaves the pins
pub or_pins : (n k : ℕ) → k < 256 → bit_or n k / 256 ≡ n / 256
or_pins n k small = let z : k / 256 ≡ 0 = omega arith in or_shr n k 8 ∙ (ap (λ (x : ℕ). bit_or (n / 256) x) z ∙ or_zero_r (n / 256))

-- a cut by a mask that has all bits from 8 on leaves the pins
pub and_pins : (n k : ℕ) → n < 18446744073709551616 → k / 256 ≡ 72057594037927935 → bit_and n k / 256 ≡ n / 256
and_pins n k small e = let z : n / 256 < 72057594037927936 = omega arith in and_shr n k 8 ∙ (ap (λ (x : ℕ). bit_and (n / 256) x) e ∙ (and_mask (n / 256) 56 ∙ mod-eq_of_lt z))

-- bits 2 to 7 stay where bits of the lowest two are set, or cleared
pub or_low : (n k : ℕ) → k < 4 → n % 256 < 4 → bit_or n k % 256 < 4
or_low n k small low = let z : k / 4 ≡ 0 = omega arith in let same : bit_or n k / 4 ≡ n / 4 = or_shr n k 2 ∙ (ap (λ (x : ℕ). bit_or (n / 4) x) z ∙ or_zero_r (n / 4)) in omega (arith, same, low)

-- the same of a cut by a mask that has all bits from 2 on
pub and_low : (n k : ℕ) → n < 18446744073709551616 → k / 4 ≡ 4611686018427387903 → n % 256 < 4 → bit_and n k % 256 < 4
and_low n k small e low = let z : n / 4 < 4611686018427387904 = omega arith in let same : bit_and n k / 4 ≡ n / 4 = and_shr n k 2 ∙ (ap (λ (x : ℕ). bit_and (n / 4) x) e ∙ (and_mask (n / 4) 62 ∙ mod-eq_of_lt z)) in
    omega (arith, same, low)

-- a number is even or odd
pub parity : (n : ℕ) → (n % 2 ≡ 0) ⊎ (n % 2 ≡ 1)
parity n = dite (ℕ_discrete (n % 2) 0) (λ e. inl e) (λ ne. inr (omega arith))

-- a number that is not odd is even
pub even_of : (n : ℕ) → (n % 2 ≡ 1 → ⊥) → n % 2 ≡ 0
even_of n odd = omega arith

-- the two cases of a test of two numbers
pub tested : {A : Type 0} (P : A → Type 0) (c x : ℕ) (a b : A) → (c ≡ x → P a) → (c ≢ x → P b) → P (cond (eqb c x) a b)
tested P c x a b yes_is no_is = dite (ℕ_discrete c x) (λ e. subst (λ (t : Bool). P (cond t a b)) (sym (eq-eqb c x e)) (yes_is e)) (λ ne. subst (λ (t : Bool). P (cond t a b)) (sym (ne_eqb c x ne)) (no_is ne))

-- a test whether two numbers are the same picks the first, where they are
pub here : {A : Type 0} (c x : ℕ) (a b : A) → c ≡ x → cond (eqb c x) a b ≡ a
here c x a b e = ap (λ (t : Bool). cond t a b) (eq-eqb c x e)

-- and the second, where they differ
pub else : {A : Type 0} (c x : ℕ) (a b : A) → c ≢ x → cond (eqb c x) a b ≡ b
else c x a b ne = ap (λ (t : Bool). cond t a b) (ne_eqb c x ne)

pub has_without : (c k : ℕ) (xs : List ℕ) → Has k xs → k ≢ c → Has k (without c xs)
has_without c k [] h n = h
has_without c k (x ∷ xs) h n = tested (Has k) c x (without c xs) (x ∷ without c xs)
    (λ e. ⊎_elim (λ (q : k ≡ x). absurd (n (q ∙ sym e))) (λ (q : Has k xs). has_without c k xs q n) h)
    (λ ne. ⊎_elim (λ (q : k ≡ x). inl q) (λ (q : Has k xs). inr (has_without c k xs q n)) h)

-- what stands in the list without c stood in the list, and is not c
pub without_has : (c k : ℕ) (xs : List ℕ) → Has k (without c xs) → Has k xs × (k ≢ c)
without_has c k [] h = absurd h
without_has c k (x ∷ xs) h₀ = tested (λ (l : List ℕ). Has k l → Has k (x ∷ xs) × (k ≢ c)) c x (without c xs) (x ∷ without c xs)
    (λ e h. let r = without_has c k xs h in (inr r.0, r.1))
    (λ ne h. ⊎_elim (λ (q : k ≡ x). (inl q, λ (z : k ≡ c). ne (sym z ∙ q))) (λ (q : Has k (without c xs)). let r = without_has c k xs q in (inr r.0, r.1)) h) h₀

-- a number put in front is counted once more
pub times_here : (c : ℕ) (xs : List ℕ) → times c (c ∷ xs) ≡ times c xs + 1
times_here c xs = let e = here {A = ℕ} c c 1 0 refl in omega arith

-- no other number is
pub times_else : (k c : ℕ) (xs : List ℕ) → k ≢ c → times k (c ∷ xs) ≡ times k xs
times_else k c xs ne = let e = else {A = ℕ} k c 1 0 ne in omega arith

-- where one c is taken out of a list that has it, c is counted once less
pub less_here : (c : ℕ) (xs : List ℕ) → 0 < times c xs → times c (less_one c xs) + 1 ≡ times c xs
less_here c [] h = absurd (omega arith)
less_here c (x ∷ xs) h = dite (ℕ_discrete c x)
    (λ e. let a = here {A = ℕ} c x 1 0 e in ap (λ (l : List ℕ). times c l + 1) (here c x xs (x ∷ less_one c xs) e) ∙ omega arith)
    (λ ne. let a = else {A = ℕ} c x 1 0 ne in let more : 0 < times c xs = omega arith in let q = less_here c xs more in
    ap (λ (l : List ℕ). times c l + 1) (else c x xs (x ∷ less_one c xs) ne) ∙ omega arith)

-- every other number is counted as before
pub less_else : (c k : ℕ) (xs : List ℕ) → k ≢ c → times k (less_one c xs) ≡ times k xs
less_else c k [] ne = refl
less_else c k (x ∷ xs) ne = tested (λ (l : List ℕ). times k l ≡ times k (x ∷ xs)) c x xs (x ∷ less_one c xs)
    (λ e. sym (times_else k x xs (λ q. ne (q ∙ sym e))))
    (λ other. let q = less_else c k xs ne in ap (λ (z : ℕ). cond (eqb k x) 1 0 + z) q)

pub has_pos : (k : ℕ) (xs : List ℕ) → Has k xs → 0 < times k xs
has_pos k [] h = absurd h
has_pos k (x ∷ xs) h = ⊎_elim (λ (e : k ≡ x). let q = here {A = ℕ} k x 1 0 e in omega arith) (λ (q : Has k xs). let r = has_pos k xs q in omega arith) h

-- a number that does not stand in the list is counted 0 times
pub has_none : (k : ℕ) (xs : List ℕ) → (Has k xs → ⊥) → times k xs ≡ 0
has_none k [] h = refl
has_none k (x ∷ xs) h = let q = else {A = ℕ} k x 1 0 (λ e. h (inl e)) in let r = has_none k xs (λ z. h (inr z)) in omega arith

-- every other number still stands in a list after one c was taken out
pub has_less : (c k : ℕ) (xs : List ℕ) → Has k xs → k ≢ c → Has k (less_one c xs)
has_less c k [] h n = h
has_less c k (x ∷ xs) h n = tested (Has k) c x xs (x ∷ less_one c xs)
    (λ e. ⊎_elim (λ (q : k ≡ x). absurd (n (q ∙ sym e))) (λ (q : Has k xs). q) h)
    (λ ne. ⊎_elim (λ (q : k ≡ x). inl q) (λ (q : Has k xs). inr (has_less c k xs q n)) h)

less_had : (c k : ℕ) (xs : List ℕ) → Has k (less_one c xs) → Has k xs
less_had c k [] h = absurd h
less_had c k (x ∷ xs) h₀ = tested (λ (l : List ℕ). Has k l → Has k (x ∷ xs)) c x xs (x ∷ less_one c xs)
    (λ e h. inr h) (λ ne h. ⊎_elim (λ (q : k ≡ x). inl q) (λ (q : Has k (less_one c xs)). inr (less_had c k xs q)) h) h₀

-- of a list with c at most once, the list without c has no c
pub less_has : (c k : ℕ) (xs : List ℕ) → times c xs ≤ 1 → Has k (less_one c xs) → Has k xs × (k ≢ c)
less_has c k xs once h = let had = less_had c k xs h in (
  had,
  λ e. let h' : Has c (less_one c xs) = subst (λ (z : ℕ). Has z (less_one c xs)) e h in let p = has_pos c (less_one c xs) h' in
      let q = has_pos c xs (less_had c c xs h') in let r = less_here c xs q in omega arith,
)

-- a number that stood at most once still does after one number was taken out
pub less_once : (c k : ℕ) (xs : List ℕ) → times k xs ≤ 1 → times k (less_one c xs) ≤ 1
less_once c k [] h = h
less_once c k (x ∷ xs) h = tested (λ (l : List ℕ). times k l ≤ 1) c x xs (x ∷ less_one c xs) (λ e. omega arith) (λ ne. dite (ℕ_discrete k c)
    (λ e. let q = else {A = ℕ} k x 1 0 (λ z. ne (sym e ∙ z)) in let r = less_once c k xs (omega arith) in omega arith)
    (λ ne'. let q = less_else c k xs ne' in omega arith))

-- a list is no longer after one number was taken out
pub less_length : (c : ℕ) (xs : List ℕ) → length (less_one c xs) ≤ length xs
less_length c [] = le_refl 0
less_length c (x ∷ xs) = tested (λ (l : List ℕ). length l ≤ length (x ∷ xs)) c x xs (x ∷ less_one c xs) (λ e. omega arith) (λ other. let q = less_length c xs in omega arith)

-- it is shorter by one, where the number stood in it
pub less_exact : (c : ℕ) (xs : List ℕ) → Has c xs → length (less_one c xs) + 1 ≡ length xs
less_exact c [] h = absurd h
less_exact c (x ∷ xs) h = tested (λ (l : List ℕ). length l + 1 ≡ length (x ∷ xs)) c x xs (x ∷ less_one c xs)
    (λ e. omega arith)
    (λ ne. let q = less_exact c xs (⊎_elim (λ (e : c ≡ x). absurd (ne e)) (λ (z : Has c xs). z) h) in omega arith)

-- a number that is counted stands in the list
pub times_has : (c : ℕ) (xs : List ℕ) → 0 < times c xs → Has c xs
times_has c [] h = absurd (omega arith)
times_has c (x ∷ xs) h = dite (ℕ_discrete c x) (λ e. inl e) (λ ne. let q = else {A = ℕ} c x 1 0 ne in inr (times_has c xs (omega arith)))

-- different numbers below n are at most n
pub pigeons : (n : ℕ) (xs : List ℕ) → ((c : ℕ) → times c xs ≤ 1) → ((c : ℕ) → Has c xs → c < n) → length xs ≤ n
pigeons zero [] once below = le_refl 0
pigeons zero (x ∷ xs) once below = let q = below x (inl refl) in absurd (omega arith)
pigeons (suc n) xs once below = dite (ℕ_discrete (times n xs) 0)
    (λ zero_n. let q = pigeons n xs once (λ c h. let b = below c h in let p = has_pos c xs h in let ne : c ≢ n = (λ e. let z : times c xs ≡ 0 = ap (λ (y : ℕ). times y xs) e ∙ zero_n in omega (arith, z, p)) in omega (arith, b, ne)) in omega (arith, q))
    (λ some_n. let has = times_has n xs (omega (arith, some_n)) in let e = less_exact n xs has in
    let q = pigeons n (less_one n xs) (λ c. less_once n c xs (once c)) (λ c h. let r = less_has n c xs (once n) h in let b = below c r.0 in let ne = r.1 in omega (arith, b, ne)) in omega (arith, q, e))

-- no number stands in a list more often than the list is long
pub times_length : (c : ℕ) (xs : List ℕ) → times c xs ≤ length xs
times_length c [] = le_refl 0
times_length c (x ∷ xs) = let q = times_length c xs in tested (λ (n : ℕ). n + times c xs ≤ length (x ∷ xs)) c x 1 0 (λ e. omega arith) (λ other. omega arith)

-- the n numbers above a are more than a and at most a + n
pub above_more : (a n k : ℕ) → Has k (above a n) → (a < k) × (k ≤ a + n)
above_more a zero k h = absurd h
above_more a (suc n) k h = ⊎_elim (λ (e : k ≡ a + 1). (omega arith, omega arith)) (λ (q : Has k (above (a + 1) n)). let r = above_more (a + 1) n k q in (omega arith, omega arith)) h

-- and each such number is among them
pub above_has : (a n k : ℕ) → a < k → k ≤ a + n → Has k (above a n)
above_has a zero k l m = absurd (omega arith)
above_has a (suc n) k l m = dite (ℕ_discrete k (a + 1)) (λ e. inl e) (λ ne. inr (above_has (a + 1) n k (omega arith) (omega arith)))

module _ {A : Type 0} where
  -- where one item takes the place of another, the sum changes by what they differ
  pub total_set : (f : A → ℕ) (vs : List A) (i : ℕ) (v w : A) → get_elem? vs i ≡ some v → total f (set vs i w) + f v ≡ total f vs + f w
  total_set f [] i v w e = absurd (some-ne-none v (sym e))
  total_set f (x ∷ xs) zero v w e = let q : f x ≡ f v = ap f (some-injective x v e) in let t : (f w + total f xs) + f v ≡ (f x + total f xs) + f w = omega arith in t
  total_set f (x ∷ xs) (suc i) v w e = let q = total_set f xs i v w e in let t : (f x + total f (set xs i w)) + f v ≡ (f x + total f xs) + f w = omega arith in t

  -- the sum stays, where both count the same
  pub total_same : (f : A → ℕ) (vs : List A) (i : ℕ) (v w : A) → get_elem? vs i ≡ some v → f w ≡ f v → total f (set vs i w) ≡ total f vs
  total_same f vs i v w at e = let q = total_set f vs i v w at in omega arith

  -- one item counts at most the sum
  pub total_one : (f : A → ℕ) (vs : List A) (i : ℕ) (v : A) → get_elem? vs i ≡ some v → f v ≤ total f vs
  total_one f [] i v e = absurd (some-ne-none v (sym e))
  total_one f (x ∷ xs) zero v e = let q : f x ≡ f v = ap f (some-injective x v e) in omega arith
  total_one f (x ∷ xs) (suc i) v e = let q = total_one f xs i v e in omega arith

  -- two items at different places count at most the sum together
  pub total_two : (f : A → ℕ) (vs : List A) (i j : ℕ) (v w : A) → i ≢ j → get_elem? vs i ≡ some v → get_elem? vs j ≡ some w → f v + f w ≤ total f vs
  total_two f [] i j v w ne e e' = absurd (some-ne-none v (sym e))
  total_two f (x ∷ xs) zero zero v w ne e e' = absurd (ne refl)
  total_two f (x ∷ xs) zero (suc j) v w ne e e' = let q : f x ≡ f v = ap f (some-injective x v e) in let r = total_one f xs j w e' in omega arith
  total_two f (x ∷ xs) (suc i) zero v w ne e e' = let q : f x ≡ f w = ap f (some-injective x w e') in let r = total_one f xs i v e in omega arith
  total_two f (x ∷ xs) (suc i) (suc j) v w ne e e' = let r = total_two f xs i j v w (λ q. ne (ap suc q)) e e' in omega arith

  -- a sum is at most another, where each item counts at most as much in it
  pub total_le : (f g : A → ℕ) (vs : List A) → ((i : ℕ) (v : A) → get_elem? vs i ≡ some v → f v ≤ g v) → total f vs ≤ total g vs
  total_le f g [] h = le_refl 0
  total_le f g (x ∷ xs) h = let q = h 0 x refl in let r = total_le f g xs (λ i v e. h (suc i) v e) in omega arith

  -- an item at the end adds what it counts to the sum
  pub total_snoc : (f : A → ℕ) (vs : List A) (w : A) → total f (vs ++ w ∷ []) ≡ total f vs + f w
  total_snoc f [] w = omega arith
  total_snoc f (x ∷ xs) w = let r = total_snoc f xs w in omega arith

  pub one_of : (xs : List A) → length xs ≡ 1 → (x : A) × (xs ≡ x ∷ [])
  one_of [] e = absurd (omega arith)
  one_of (x ∷ []) e = (x, refl)
  one_of (x ∷ y ∷ ys) e = absurd (omega arith)
