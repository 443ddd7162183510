-- Which entries of a history are a hand's.
use Rattle.std.proofs.Common.{◌≡◌, ℕ, suc, ◌+◌, eqb, cond, List, [], ◌∷◌, ◌++◌, length, refl, sym, ap, ◌∙◌, subst, arith, append-nil}
use Rattle.eleos_base.specs.declared.plot.Event.{Event}
use Rattle.eleos_base.specs.Ties.{Has}
use Rattle.eleos_base.specs.Terms.{Terms}
use Rattle.eleos_turn.specs.Rule.{Apart}
use Rattle.eleos_turn.specs.Hands.{own}
use Rattle.eleos_turn.proofs.Numbers.{here, else, tested}

module _ {C D Q G : Type 0} (t : Terms C D Q G) where
  -- a hand's entries in two pieces are those in the first, then those in the second, whose stamps go on behind the first piece
  pub own_append : (k n : ℕ) (xs ys : List (Event D Q)) → own t k n (xs ++ ys) ≡ own t k n xs ++ own t k (n + length xs) ys
  own_append k n [] ys = let e : n ≡ n + 0 = omega arith in ap (λ (m : ℕ). own t k m ys) e
  own_append k n (x ∷ xs) ys = let r = own_append k (n + 1) xs ys in let e : n + 1 + length xs ≡ n + suc (length xs) = omega arith in
      let r' : own t k (n + 1) (xs ++ ys) ≡ own t k (n + 1) xs ++ own t k (n + suc (length xs)) ys = r ∙ ap (λ (m : ℕ). own t k (n + 1) xs ++ own t k m ys) e in
      let P : List (ℕ × D) → Type 0 = λ z. cond (eqb (t.who x.entry) k) ((n, x.entry) ∷ own t k (n + 1) (xs ++ ys)) (own t k (n + 1) (xs ++ ys)) ≡ z ++ own t k (n + suc (length xs)) ys in
      tested P (t.who x.entry) k _ _
      (λ e. here _ _ _ _ e ∙ ap (λ (z : List (ℕ × D)). (n, x.entry) ∷ z) r')
      (λ ne. else _ _ _ _ ne ∙ r')

  -- none of the entries is the hand's
  pub own_apart : (g : G) (k n : ℕ) (numbers held : List ℕ) (es : List (Event D Q)) → Has k numbers → Apart t g numbers held es → own t k n es ≡ []
  own_apart g k n numbers held [] has a = refl
  own_apart g k n numbers held (e ∷ es) has a = else (t.who e.entry) k _ _ (λ is. a.0 (subst (λ (j : ℕ). Has j numbers) (sym is) has)) ∙ own_apart g k (n + 1) numbers held es has a.2

  -- behind what others did the hand's entries are those that it had
  pub own_more : (g : G) (k : ℕ) (numbers held : List ℕ) (seen more : List (Event D Q)) → Has k numbers → Apart t g numbers held more → own t k 0 (seen ++ more) ≡ own t k 0 seen
  own_more g k numbers held seen more has a = own_append k 0 seen more ∙ (ap (λ (z : List (ℕ × D)). own t k 0 seen ++ z) (own_apart g k _ numbers held more has a) ∙ append-nil (own t k 0 seen))

  -- its own entry is the last of them
  pub own_last : (k n : ℕ) (seen : List (Event D Q)) (e : Event D Q) → t.who e.entry ≡ k → n ≡ length seen → own t k 0 (seen ++ e ∷ []) ≡ own t k 0 seen ++ (n, e.entry) ∷ []
  own_last k n seen e by is = own_append k 0 seen (e ∷ []) ∙ ap (λ (z : List (ℕ × D)). own t k 0 seen ++ z)
      (here (t.who e.entry) k _ _ by ∙ (let same : 0 + length seen ≡ n = omega (arith, is) in ap (λ (m : ℕ). (m, e.entry) ∷ []) same))
