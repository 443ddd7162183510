-- Lists of hands from which the last is taken, and of which each number is found.
use Rattle.std.proofs.Common.{◌≡◌, ◌⊎◌, ⊎_elim, inl, inr, ℕ, zero, suc, get_or, ◌+◌, ◌<◌, List, [], ◌∷◌, ◌++◌, length, refl, sym, ap, ◌∙◌, subst, arith, append_assoc}
use Rattle.eleos_base.specs.declared.plot.Event.{Event}
use Rattle.eleos_base.specs.Terms.{Terms}
use Rattle.eleos_turn.specs.Hands.{Home, HandState, IsSound}
use Rattle.eleos_turn.specs.Closings.{AllOf, HasNumber, AllBegin, left_of, IsDone, AllDone, AllSound}

module _ {D Q G : Type 0} where
  of_front : (z : Home Q G) (xs : List (HandState D Q G)) (x : HandState D Q G) → AllOf z (xs ++ x ∷ []) → AllOf z xs × (x.home ≡ z)
  of_front z [] x a = (tt, a.0)
  of_front z (y ∷ ys) x a = let r = of_front z ys x a.1 in ((a.0, r.0), r.1)

  -- where all hands are of one turnstile, so are those before the last, and the last
  pub of_split : (z : Home Q G) (all xs : List (HandState D Q G)) (x : HandState D Q G) → all ≡ xs ++ x ∷ [] → AllOf z all → AllOf z xs × (x.home ≡ z)
  of_split z all xs x is a = of_front z xs x (subst (AllOf z) is a)

  has_front : (n : ℕ) (xs : List (HandState D Q G)) (x : HandState D Q G) → HasNumber n (xs ++ x ∷ []) → HasNumber n xs ⊎ (n ≡ x.number)
  has_front n [] x h = ⊎_elim (λ (q : n ≡ x.number). inr q) (λ (q : ⊥). absurd q) h
  has_front n (y ∷ ys) x h = ⊎_elim (λ (q : n ≡ y.number). inl (inl q)) (λ (q : HasNumber n (ys ++ x ∷ [])). ⊎_elim (λ (z : HasNumber n ys). inl (inr z)) (λ (z : n ≡ x.number). inr z) (has_front n ys x q)) h

  -- a number that one of the hands has is the last hand's, or one before the last has it
  pub has_split : (n : ℕ) (all xs : List (HandState D Q G)) (x : HandState D Q G) → all ≡ xs ++ x ∷ [] → HasNumber n all → HasNumber n xs ⊎ (n ≡ x.number)
  has_split n all xs x is h = has_front n xs x (subst (HasNumber n) is h)

  -- where there are no hands, none has the number
  pub none_in : (n : ℕ) (xs : List (HandState D Q G)) → xs ≡ [] → HasNumber n xs → ⊥
  none_in n xs is h = subst (HasNumber n) is h

  -- what the hands have seen begins the history still after it grew
  pub begin_more : (h h' more : List (Event D Q)) (xs : List (HandState D Q G)) → h' ≡ h ++ more → AllBegin h xs → AllBegin h' xs
  begin_more h h' more [] is a = tt
  begin_more h h' more (x ∷ xs) is a = ((a.0.0 ++ more, is ∙ (ap (λ (z : List (Event D Q)). z ++ more) a.0.1 ∙ append_assoc x.seen a.0.0 more)), begin_more h h' more xs is a.1)

  begin_back : (h : List (Event D Q)) (xs : List (HandState D Q G)) (x : HandState D Q G) → AllBegin h xs → ((more : List (Event D Q)) × (h ≡ x.seen ++ more)) → AllBegin h (xs ++ x ∷ [])
  begin_back h [] x a m = (m, tt)
  begin_back h (y ∷ ys) x a m = (a.0, begin_back h ys x a.1 m)

  -- what each hand has seen begins the history, where that holds of those before the last and of the last
  pub begin_join : (h : List (Event D Q)) (all xs : List (HandState D Q G)) (x : HandState D Q G) → all ≡ xs ++ x ∷ [] → AllBegin h xs → ((more : List (Event D Q)) × (h ≡ x.seen ++ more)) → AllBegin h all
  begin_join h all xs x is a m = subst (AllBegin h) (sym is) (begin_back h xs x a m)

  left_snoc : (xs : List (HandState D Q G)) (x : HandState D Q G) → left_of (xs ++ x ∷ []) ≡ left_of xs + x.left
  left_snoc [] x = omega arith
  left_snoc (y ∷ ys) x = let r = left_snoc ys x in omega (arith, r)

  -- the stamps left to all hands are those left to the hands before the last, and those left to the last
  pub left_split : (all xs : List (HandState D Q G)) (x : HandState D Q G) → all ≡ xs ++ x ∷ [] → left_of all ≡ left_of xs + x.left
  left_split all xs x is = ap left_of is ∙ left_snoc xs x

module _ {C D Q G : Type 0} (t : Terms C D Q G) where
  done_front : (xs : List (HandState D Q G)) (x : HandState D Q G) → AllDone t (xs ++ x ∷ []) → AllDone t xs × IsDone t x
  done_front [] x a = (tt, a.0)
  done_front (y ∷ ys) x a = let r = done_front ys x a.1 in ((a.0, r.0), r.1)

  -- where all hands are done, so are those before the last, and the last
  pub done_split : (all xs : List (HandState D Q G)) (x : HandState D Q G) → all ≡ xs ++ x ∷ [] → AllDone t all → AllDone t xs × IsDone t x
  done_split all xs x is a = done_front xs x (subst (AllDone t) is a)

  -- the hand at each place has done
  pub done_at : (xs : List (HandState D Q G)) (i : ℕ) (x : HandState D Q G) → i < length xs → AllDone t xs → IsDone t (get_or xs i x)
  done_at [] i x l a = absurd (omega (arith, l))
  done_at (y ∷ ys) zero x l a = a.0
  done_at (y ∷ ys) (suc i) x l a = done_at ys i x (omega (arith, l)) a.1

  -- all hands are done, where the one at each place is
  pub done_all : (xs : List (HandState D Q G)) → ((i : ℕ) (x : HandState D Q G) → i < length xs → IsDone t (get_or xs i x)) → AllDone t xs
  done_all [] h = tt
  done_all (y ∷ ys) h = (h 0 y (omega arith), done_all ys (λ i x l. h (suc i) x (omega (arith, l))))

  sound_back : (xs : List (HandState D Q G)) (x : HandState D Q G) → AllSound t xs → IsSound t x → AllSound t (xs ++ x ∷ [])
  sound_back [] x a k = (k, tt)
  sound_back (y ∷ ys) x a k = (a.0, sound_back ys x a.1 k)

  -- all hands are sound, where those before the last are, and the last
  pub sound_join : (all xs : List (HandState D Q G)) (x : HandState D Q G) → all ≡ xs ++ x ∷ [] → AllSound t xs → IsSound t x → AllSound t all
  sound_join all xs x is a k = subst (AllSound t) (sym is) (sound_back xs x a k)

module _ {D Q G : Type 0} where
  -- one hand has the number exactly where a place has it
  pub number_at : (n : ℕ) (xs : List (HandState D Q G)) (i : ℕ) (x : HandState D Q G) → i < length xs → n ≡ (get_or xs i x).number → HasNumber n xs
  number_at n [] i x l e = absurd (omega (arith, l))
  number_at n (y ∷ ys) zero x l e = inl e
  number_at n (y ∷ ys) (suc i) x l e = inr (number_at n ys i x (omega (arith, l)) e)

  -- no hand has the number, where none at any place has it
  pub number_none : (n : ℕ) (xs : List (HandState D Q G)) → ((i : ℕ) (x : HandState D Q G) → i < length xs → n ≡ (get_or xs i x).number → ⊥) → HasNumber n xs → ⊥
  number_none n [] none h = h
  number_none n (y ∷ ys) none h = ⊎_elim (λ (e : n ≡ y.number). none 0 y (omega arith) e) (λ (q : HasNumber n ys). number_none n ys (λ i x l. none (suc i) x (omega (arith, l))) q) h

-- what stands at a place that is there
pub at_place : {A : Type 0} (xs : List A) (i j : ℕ) (x y : A) → i < length xs → j ≡ i → get_or xs i x ≡ get_or xs j y
at_place [] i j x y l e = absurd (omega (arith, l))
at_place (z ∷ zs) zero zero x y l e = refl
at_place (z ∷ zs) zero (suc j) x y l e = absurd (omega (arith, e))
at_place (z ∷ zs) (suc i) zero x y l e = absurd (omega (arith, e))
at_place (z ∷ zs) (suc i) (suc j) x y l e = at_place zs i j x y (omega (arith, l)) (omega (arith, e))
