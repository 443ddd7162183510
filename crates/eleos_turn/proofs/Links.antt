-- The links of a hand as a list of cells.
use Rattle.std.proofs.Common.{◌≡◌, ◌≢◌, ℕ, ◌+◌, ◌-◌, ◌<◌, ◌≤◌, eqb, cond, List, [], ◌∷◌, ◌++◌, length, refl, sym, ap, ◌∙◌, subst, arith}
use mathlib.Core.Logic.{dite}
use native.Mathlib.Decide.{ℕ_discrete}
use Rattle.eleos_base.specs.declared.plot.Event.{Event}
use Rattle.eleos_base.specs.Ties.{Tie, neither, adds, takes, Has, tied_is}
use Rattle.eleos_base.specs.Terms.{Terms}
use Rattle.eleos_base.specs.Histories.{tied_up, linked_from}
use Rattle.eleos_turn.specs.Numbers.{times, less_one}
use Rattle.eleos_turn.specs.Rule.{Apart}
use Rattle.eleos_turn.specs.Hands.{tied_to, links_from, tallied}
use Rattle.eleos_turn.proofs.Numbers.{here, else, less_here, less_else, less_exact, times_has}
use Rattle.eleos_turn.proofs.Histories.{tied_else, both_and, both_or}

-- one cell's count after a tie of the hand itself
tied_times : {C D Q G : Type 0} (t : Terms C D Q G) (k : ℕ) (tie : Tie) (l : List ℕ) (f : ℕ → ℕ → ℕ) → ((c : ℕ) → times c l ≡ f k c) → (c : ℕ) → times c (tied_to t tie l) ≡ tied_up k tie f k c
tied_times t k neither l f same c = same c
tied_times t k (adds d) l f same c = dite (ℕ_discrete c d)
    (λ e. let x = here {A = ℕ} c d 1 0 e in let y = both_and k k c d (f k c + 1) (f k c) refl e in let z = same c in omega (arith, x, y, z))
    (λ ne. let x = else {A = ℕ} c d 1 0 ne in let y = both_or k k c d (f k c + 1) (f k c) (Rattle.std.proofs.Common.inr ne) in let z = same c in omega (arith, x, y, z))
tied_times t k (takes d) l f same c = dite (ℕ_discrete c d)
    (λ e. let y = both_and k k c d (f k c - 1) (f k c) refl e in let z = same c in let here_is : times c (less_one d l) ≡ times c (less_one c l) = ap (λ (n : ℕ). times c (less_one n l)) (sym e) in
    dite (ℕ_discrete (times c l) 0)
    (λ none. let w = none_less c l none in omega (arith, w, y, z, here_is, none))
    (λ some. let w = less_here c l (omega (arith, some)) in omega (arith, w, y, z, here_is)))
    (λ ne. let x = less_else d c l ne in let y = both_or k k c d (f k c - 1) (f k c) (Rattle.std.proofs.Common.inr ne) in let z = same c in omega (arith, x, y, z))
  where
    none_less : (c : ℕ) (l : List ℕ) → times c l ≡ 0 → times c (less_one c l) ≡ 0
    none_less c [] e = e
    none_less c (x ∷ xs) e = dite (ℕ_discrete c x)
        (λ q. let a = here {A = ℕ} c x 1 0 q in absurd (omega (arith, a, e)))
        (λ ne. let a = else {A = ℕ} c x 1 0 ne in let r = none_less c xs (omega (arith, a, e)) in ap (times c) (else c x xs (x ∷ less_one c xs) ne) ∙ omega (arith, a, r))

module _ {C D Q G : Type 0} (t : Terms C D Q G) where
  -- the links of a hand after two pieces of a history are those that the second leaves of those after the first
  pub links_append : (g : G) (k : ℕ) (l : List ℕ) (xs ys : List (Event D Q)) → links_from t g k l (xs ++ ys) ≡ links_from t g k (links_from t g k l xs) ys
  links_append g k l [] ys = refl
  links_append g k l (x ∷ xs) ys = links_append g k (cond (eqb k (t.who x.entry)) (tied_to t (t.tie g x.entry) l) l) xs ys

  -- entries of others change no link of the hand
  pub links_apart : (g : G) (k : ℕ) (l ns hs : List ℕ) (es : List (Event D Q)) → Has k ns → Apart t g ns hs es → links_from t g k l es ≡ l
  links_apart g k l ns hs [] has a = refl
  links_apart g k l ns hs (e ∷ es) has a = ap (λ (z : List ℕ). links_from t g k z es) (else k (t.who e.entry) (tied_to t (t.tie g e.entry) l) l (λ is. a.0 (subst (λ (j : ℕ). Has j ns) is has)))
      ∙ links_apart g k l ns hs es has a.2

  -- a cell stands in the list as often as the hand has a link there
  pub links_times : (g : G) (k : ℕ) (l : List ℕ) (f : ℕ → ℕ → ℕ) (es : List (Event D Q)) → ((c : ℕ) → times c l ≡ f k c) → (c : ℕ) → times c (links_from t g k l es) ≡ linked_from t g f es k c
  links_times g k l f [] same c = same c
  links_times g k l f (e ∷ es) same c = links_times g k (cond (eqb k (t.who e.entry)) (tied_to t (t.tie g e.entry) l) l) (tied_up (t.who e.entry) (t.tie g e.entry) f) es
      (λ d. dite (ℕ_discrete k (t.who e.entry))
      (λ is. ap (times d) (here k (t.who e.entry) (tied_to t (t.tie g e.entry) l) l is) ∙ (tied_times t k (t.tie g e.entry) l f same d ∙ ap (λ (w : ℕ). tied_up w (t.tie g e.entry) f k d) is))
      (λ ne. ap (times d) (else k (t.who e.entry) (tied_to t (t.tie g e.entry) l) l ne) ∙ (same d ∙ sym (tied_else (t.who e.entry) (t.tie g e.entry) f k d ne))))
      c

  -- the count after a tie, where a link that it takes is there
  pub tied_count : (tie : Tie) (l : List ℕ) → ((c : ℕ) → tie ≡ takes c → 0 < times c l) → length (tied_to t tie l) ≡ tallied (tied_is tie) (length l)
  tied_count neither l there = refl
  tied_count (adds c) l there = omega arith
  tied_count (takes c) l there = let q = less_exact c l (times_has c l (there c refl)) in omega (arith, q)
