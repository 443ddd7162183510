-- Laws of histories.
use Rattle.std.proofs.Common.{◌≡◌, ◌≢◌, ◌⊎◌, ◌&&◌, ℕ, ◌+◌, ◌-◌, ◌<◌, ◌≤◌, eqb, cond, Bool, true, false, List, [], ◌∷◌, ◌++◌, map, sym, refl, ap, ◌∙◌, subst, ⊎_elim, inl, inr, arith, eq-eqb, ne_eqb}
use mathlib.Core.Logic.{dite}
use native.Mathlib.Decide.{ℕ_discrete}
use Rattle.eleos_base.specs.declared.plot.Event.{Event}
use Rattle.eleos_base.specs.Ties.{Tie, neither, adds, takes, Has}
use Rattle.eleos_base.specs.Terms.{Terms}
use Rattle.eleos_base.specs.Histories.{put, made_from, tied_up, linked_from, LegalFrom, Signed}
use Rattle.eleos_turn.specs.Rule.{Apart}
use Rattle.eleos_turn.proofs.Numbers.{here, else}

module _ {Q : Type 0} where
  -- a cell that is not among those put keeps its part
  pub put_else : (ks : List (ℕ × Q)) (f : ℕ → Q) (c : ℕ) → (Has c (map (λ k. k.0) ks) → ⊥) → put ks f c ≡ f c
  put_else [] f c not_in = refl
  put_else (x ∷ xs) f c not_in = else c x.0 x.1 (put xs f c) (λ e. not_in (inl e)) ∙ put_else xs f c (λ h. not_in (inr h))

  -- what a cell was before does not matter where its part is put
  pub put_same : (ks : List (ℕ × Q)) (f g : ℕ → Q) (c : ℕ) → Has c (map (λ k. k.0) ks) → put ks f c ≡ put ks g c
  put_same [] f g c h = absurd h
  put_same (x ∷ xs) f g c h = dite (ℕ_discrete c x.0)
      (λ e. here c x.0 x.1 (put xs f c) e ∙ sym (here c x.0 x.1 (put xs g c) e))
      (λ ne. else c x.0 x.1 (put xs f c) ne ∙ (⊎_elim (λ (q : c ≡ x.0). absurd (ne q)) (λ (q : Has c (map (λ k. k.0) xs)). put_same xs f g c q) h ∙ sym (else c x.0 x.1 (put xs g c) ne)))

module _ {D Q : Type 0} where
  -- what two pieces of a history make of the cells is what the second makes of what the first made
  pub made_append : (f : ℕ → Q) (xs ys : List (Event D Q)) → made_from f (xs ++ ys) ≡ made_from (made_from f xs) ys
  made_append f [] ys = refl
  made_append f (x ∷ xs) ys = made_append (put x.kept f) xs ys

-- a test of two pairs of numbers fails where one of the pairs differs
pub both_or : (k w c d : ℕ) (n m : ℕ) → (k ≢ w) ⊎ (c ≢ d) → cond (eqb k w && eqb c d) n m ≡ m
both_or k w c d n m (inl ne) = ap (λ (t : Bool). cond (t && eqb c d) n m) (ne_eqb k w ne)
both_or k w c d n m (inr ne) = ap (λ (t : Bool). cond (eqb k w && t) n m) (ne_eqb c d ne) ∙ last (eqb k w)
  where
    last : (t : Bool) → cond (t && false) n m ≡ m
    last true = refl
    last false = refl

-- it holds where both pairs are the same
pub both_and : (k w c d : ℕ) (n m : ℕ) → k ≡ w → c ≡ d → cond (eqb k w && eqb c d) n m ≡ n
both_and k w c d n m e e' = ap (λ (t : Bool). cond (t && eqb c d) n m) (eq-eqb k w e) ∙ ap (λ (t : Bool). cond t n m) (eq-eqb c d e')

-- an entry changes no link of another hand
pub tied_else : (w : ℕ) (t : Tie) (l : ℕ → ℕ → ℕ) (k c : ℕ) → k ≢ w → tied_up w t l k c ≡ l k c
tied_else w neither l k c ne = refl
tied_else w (adds d) l k c ne = both_or k w c d (l k c + 1) (l k c) (inl ne)
tied_else w (takes d) l k c ne = both_or k w c d (l k c - 1) (l k c) (inl ne)

-- the links stay at most n, where one that is added was below n
pub tied_below : (w : ℕ) (t : Tie) (l : ℕ → ℕ → ℕ) (k c n : ℕ) → l k c ≤ n → (k ≡ w → t ≡ adds c → l k c < n) → tied_up w t l k c ≤ n
tied_below w neither l k c n h more = h
tied_below w (adds d) l k c n h more = dite (ℕ_discrete k w)
    (λ e. dite (ℕ_discrete c d)
    (λ e'. let q = both_and k w c d (l k c + 1) (l k c) e e' in let m = more e (ap adds (sym e')) in omega arith)
    (λ ne. let q = both_or k w c d (l k c + 1) (l k c) (inr ne) in omega arith))
    (λ ne. let q = both_or k w c d (l k c + 1) (l k c) (inl ne) in omega arith)
tied_below w (takes d) l k c n h more = dite (ℕ_discrete k w)
    (λ e. dite (ℕ_discrete c d)
    (λ e'. let q = both_and k w c d (l k c - 1) (l k c) e e' in omega arith)
    (λ ne. let q = both_or k w c d (l k c - 1) (l k c) (inr ne) in omega arith))
    (λ ne. let q = both_or k w c d (l k c - 1) (l k c) (inl ne) in omega arith)

module _ {C D Q G : Type 0} (t : Terms C D Q G) where
  abbrev E : Type 0
  E = Event D Q

  abbrev done : G → (ℕ → ℕ → ℕ) → List E → ℕ → ℕ → ℕ
  done = linked_from t

  -- the links after two pieces of a history are those that the second leaves of those after the first
  pub linked_append : (g : G) (l : ℕ → ℕ → ℕ) (xs ys : List E) → done g l (xs ++ ys) ≡ done g (done g l xs) ys
  linked_append g l [] ys = refl
  linked_append g l (x ∷ xs) ys = linked_append g (tied_up (t.who x.entry) (t.tie g x.entry) l) xs ys

  -- a legal piece, and one that is legal behind it, are legal together
  pub legal_append : (g : G) (f : ℕ → Q) (l : ℕ → ℕ → ℕ) (xs ys : List E) → LegalFrom t g f l xs → LegalFrom t g (made_from f xs) (done g l xs) ys → LegalFrom t g f l (xs ++ ys)
  legal_append g f l [] ys a b = b
  legal_append g f l (x ∷ xs) ys a b = (a.0, legal_append g (put x.kept f) (tied_up (t.who x.entry) (t.tie g x.entry) l) xs ys a.1 b)

  -- a beginning of what is legal is legal
  pub legal_front : (g : G) (f : ℕ → Q) (l : ℕ → ℕ → ℕ) (xs ys : List E) → LegalFrom t g f l (xs ++ ys) → LegalFrom t g f l xs
  legal_front g f l [] ys a = tt
  legal_front g f l (x ∷ xs) ys a = (a.0, legal_front g (put x.kept f) (tied_up (t.who x.entry) (t.tie g x.entry) l) xs ys a.1)

  -- the rest of what is legal is legal behind its beginning
  pub legal_back : (g : G) (f : ℕ → Q) (l : ℕ → ℕ → ℕ) (xs ys : List E) → LegalFrom t g f l (xs ++ ys) → LegalFrom t g (made_from f xs) (done g l xs) ys
  legal_back g f l [] ys a = a
  legal_back g f l (x ∷ xs) ys a = legal_back g (put x.kept f) (tied_up (t.who x.entry) (t.tie g x.entry) l) xs ys a.1

  -- where each entry of two pieces is of a hand that was made, so is each of both together
  pub signed_append : (n : ℕ) (xs ys : List E) → Signed t n xs → Signed t n ys → Signed t n (xs ++ ys)
  signed_append n [] ys a b = b
  signed_append n (x ∷ xs) ys a b = (a.0, signed_append n xs ys a.1 b)

  pub signed_back : (n : ℕ) (xs ys : List E) → Signed t n (xs ++ ys) → Signed t n ys
  signed_back n [] ys a = a
  signed_back n (x ∷ xs) ys a = signed_back n xs ys a.1

  -- two pieces that have no entry of these hands and touch none of these cells do so together
  pub apart_append : (g : G) (ns hs : List ℕ) (xs ys : List E) → Apart t g ns hs xs → Apart t g ns hs ys → Apart t g ns hs (xs ++ ys)
  apart_append g ns hs [] ys a b = b
  apart_append g ns hs (x ∷ xs) ys a b = (a.0, a.1, apart_append g ns hs xs ys a.2 b)

  -- what keeps off these hands and cells keeps off some of them
  pub apart_less : (g : G) (ns ns' hs hs' : List ℕ) (xs : List E) → ((n : ℕ) → Has n ns' → Has n ns) → ((c : ℕ) → Has c hs' → Has c hs) → Apart t g ns hs xs → Apart t g ns' hs' xs
  apart_less g ns ns' hs hs' [] fewer less a = tt
  apart_less g ns ns' hs hs' (x ∷ xs) fewer less a = ((λ h. a.0 (fewer (t.who x.entry) h)), (λ c h q. a.1 c (less c h) q), apart_less g ns ns' hs hs' xs fewer less a.2)

  -- entries that touch none of these cells leave them
  pub made_apart : (g : G) (f : ℕ → Q) (l : ℕ → ℕ → ℕ) (ns hs : List ℕ) (xs : List E) → LegalFrom t g f l xs → Apart t g ns hs xs → (c : ℕ) → Has c hs → made_from f xs c ≡ f c
  made_apart g f l ns hs [] legal a c h = refl
  made_apart g f l ns hs (x ∷ xs) legal a c h = made_apart g (put x.kept f) (tied_up (t.who x.entry) (t.tie g x.entry) l) ns hs xs legal.1 a.2 c h
      ∙ put_else x.kept f c (λ in_kept. a.1 c h (subst (Has c) legal.0.cells in_kept))

  -- entries of other hands leave the links of these
  pub linked_apart : (g : G) (l : ℕ → ℕ → ℕ) (ns hs : List ℕ) (xs : List E) → Apart t g ns hs xs → (k : ℕ) → Has k ns → (c : ℕ) → done g l xs k c ≡ l k c
  linked_apart g l ns hs [] a k h c = refl
  linked_apart g l ns hs (x ∷ xs) a k h c = linked_apart g (tied_up (t.who x.entry) (t.tie g x.entry) l) ns hs xs a.2 k h c
      ∙ tied_else (t.who x.entry) (t.tie g x.entry) l k c (λ e. a.0 (subst (λ (z : ℕ). Has z ns) e h))

  -- who has a link then had one before, or is one of the first n hands
  pub linked_signed : (g : G) (l : ℕ → ℕ → ℕ) (n : ℕ) (xs : List E) → Signed t n xs → (k c : ℕ) → 0 < done g l xs k c → (0 < l k c) ⊎ ((0 < k) × (k ≤ n))
  linked_signed g l n [] s k c h = inl h
  linked_signed g l n (x ∷ xs) s k c h = ⊎_elim
      (λ (q : 0 < tied_up (t.who x.entry) (t.tie g x.entry) l k c). dite (ℕ_discrete k (t.who x.entry))
      (λ e. inr (subst (λ (z : ℕ). (0 < z) × (z ≤ n)) (sym e) s.0))
      (λ ne. inl (subst (λ (z : ℕ). 0 < z) (tied_else (t.who x.entry) (t.tie g x.entry) l k c ne) q)))
      (λ (q : (0 < k) × (k ≤ n)). inr q)
      (linked_signed g (tied_up (t.who x.entry) (t.tie g x.entry) l) n xs s.1 k c h)
