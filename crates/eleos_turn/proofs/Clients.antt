-- What callers of the turnstile use.
use Rattle.std.proofs.Common.{◌≡◌, ◌⊎◌, ⊎_elim, inl, ℕ, ◌+◌, ◌<◌, List, [], ◌∷◌, ◌++◌, map, refl, sym, ap, ◌∙◌, subst, arith, append_assoc, append-nil, length-append}
use Rattle.eleos_base.specs.declared.plot.Event.{Event}
use mathlib.Core.Logic.{dite}
use native.Mathlib.Decide.{ℕ_discrete}
use Rattle.eleos_base.specs.Ties.{Has, Tie, neither}
use Rattle.eleos_base.specs.Terms.{Terms}
use Rattle.eleos_base.specs.Histories.{put, made, opened, no_link, linked, Legal}
use Rattle.eleos_turn.specs.Numbers.{times, numbers_of}
use Rattle.eleos_base.specs.Words.{pins_in}
use Rattle.eleos_turn.specs.Hands.{HandState, without_turn, with_pin, without_pin, part_of, tied_to, links_from, links, links_on, own, entries, IsSound, Took, CanStamp, Stamped, Heard, Goes}
use Rattle.eleos_turn.proofs.Numbers.{here, else}
use Rattle.eleos_turn.proofs.Links.{links_times}
use Rattle.eleos_turn.proofs.Histories.{put_same, put_else, made_append, made_apart, legal_back}
use Rattle.eleos_turn.proofs.Owns.{own_more, own_last}
use Rattle.eleos_turn.proofs.Sound.{numbers_made}

module _ {C D Q G : Type 0} (t : Terms C D Q G) where
  -- a take leaves the parts of the cells whose turns the hand had
  pub took_part : (c n : ℕ) (s s' : HandState D Q G) (x : C) → Took t c n s x s' → IsSound t s' → (k : ℕ) → Has k s.turns → part_of t s' k ≡ part_of t s k
  took_part c n s s' x k sound d had = let legal = subst (λ (y : HandState D Q G). Legal t y.home.base y.seen) k.now sound.legal in
      ap (λ (y : HandState D Q G). part_of t y d) k.now ∙ (ap (λ (f : ℕ → Q). f d) (made_append (opened t s.home.base) s.seen k.more)
      ∙ made_apart t s.home.base.grounds (made t s.home.base s.seen) (linked t s.home.base.grounds s.seen) (numbers_of s.number) s.turns k.more (legal_back t s.home.base.grounds (opened t s.home.base) no_link s.seen k.more legal) k.others d had)

  -- after a stamp the parts of its foot are those that it kept
  pub stamped_part : (d : D) (kept : List (ℕ × Q)) (s s' : HandState D Q G) (n : ℕ) → Stamped t d kept s n s' → (c : ℕ) → Has c (map (λ k. k.0) kept) → part_of t s' c ≡ put kept (part_of t s) c
  stamped_part d kept s s' n k c had = ap (λ (y : HandState D Q G). part_of t y c) k.now ∙ (ap (λ (f : ℕ → Q). f c) (made_append (opened t s.home.base) (s.seen ++ k.more) (record { entry = d; kept = kept } ∷ []))
      ∙ put_same kept (made t s.home.base (s.seen ++ k.more)) (made t s.home.base s.seen) c had)

  -- a stamp leaves the parts of the other cells whose turns the hand has
  pub stamped_else : (d : D) (kept : List (ℕ × Q)) (s s' : HandState D Q G) (n : ℕ) → Stamped t d kept s n s' → IsSound t s' → (c : ℕ) → Has c s.turns → (Has c (map (λ k. k.0) kept) → ⊥) → part_of t s' c ≡ part_of t s c
  stamped_else d kept s s' n k sound c had other = let e : Event D Q = record { entry = d; kept = kept } in let legal = subst (λ (y : HandState D Q G). Legal t y.home.base y.seen) k.now sound.legal in
      let front = Rattle.eleos_turn.proofs.Histories.legal_front t s.home.base.grounds (opened t s.home.base) no_link (s.seen ++ k.more) (e ∷ []) legal in
      ap (λ (y : HandState D Q G). part_of t y c) k.now ∙ (ap (λ (f : ℕ → Q). f c) (made_append (opened t s.home.base) (s.seen ++ k.more) (e ∷ []))
      ∙ (put_else kept (made t s.home.base (s.seen ++ k.more)) c other ∙ (ap (λ (f : ℕ → Q). f c) (made_append (opened t s.home.base) s.seen k.more)
      ∙ made_apart t s.home.base.grounds (made t s.home.base s.seen) (linked t s.home.base.grounds s.seen) (numbers_of s.number) s.turns k.more (legal_back t s.home.base.grounds (opened t s.home.base) no_link s.seen k.more front) k.others c had)))

  -- a turn that was taken with a word without pins is clean, until it is given back
  pub took_clean : (c n : ℕ) (s s' : HandState D Q G) (x : C) → Took t c n s x s' → pins_in n ≡ 0 → Has c s'.clean
  took_clean c n s s' x k none = subst (Has c) (sym (ap (λ (y : HandState D Q G). y.clean) k.now ∙ here (pins_in n) 0 (c ∷ s.clean) s.clean none)) (inl refl)

  -- a link of a hand is covered by a pin
  pub link_pinned : (s : HandState D Q G) (c : ℕ) → IsSound t s → 0 < s.number → 0 < links_on t s c → 0 < times c s.pins
  link_pinned s c k made some = let q = k.covered made c in omega (arith, q, some)

  -- nothing was made
  pub goes_same : (s : HandState D Q G) → Goes t s s []
  goes_same s = record { home = refl; number = refl; left = omega arith; own = sym (append-nil (entries t s)); more = []; sees = sym (append-nil s.seen) }

  -- one call after another
  pub goes_trans : (s₁ s₂ s₃ : HandState D Q G) (xs ys : List (ℕ × D)) → Goes t s₁ s₂ xs → Goes t s₂ s₃ ys → Goes t s₁ s₃ (xs ++ ys)
  goes_trans s₁ s₂ s₃ xs ys a b = record {
    home = b.home ∙ a.home;
    number = b.number ∙ a.number;
    left = let x = a.left in let y = b.left in let z = length-append xs ys in omega (arith, x, y, z);
    own = b.own ∙ (ap (λ (z : List (ℕ × D)). z ++ ys) a.own ∙ append_assoc (entries t s₁) xs ys);
    more = a.more ++ b.more;
    sees = b.sees ∙ (ap (λ (z : List (Event D Q)). z ++ b.more) a.sees ∙ append_assoc s₁.seen a.more b.more);
  }

  -- others made more, and the hand did not
  goes_more : (s s' : HandState D Q G) (more : List (Event D Q)) (held : List ℕ) → 0 < s.number → Rattle.eleos_turn.specs.Rule.Apart t s.home.base.grounds (numbers_of s.number) held more
      → s'.home ≡ s.home → s'.number ≡ s.number → s'.left ≡ s.left → s'.seen ≡ s.seen ++ more → Goes t s s' []
  goes_more s s' more held made a home number left seen = record {
    home = home;
    number = number;
    left = omega (arith, left);
    own = (λ i. own t (number i) 0 (seen i)) ∙ (own_more t s.home.base.grounds s.number (numbers_of s.number) held s.seen more (numbers_made s.number made) a ∙ sym (append-nil (entries t s)));
    more = more;
    sees = seen;
  }

  -- a take makes no entry
  pub goes_took : (c n : ℕ) (s s' : HandState D Q G) (x : C) → 0 < s.number → Took t c n s x s' → Goes t s s' []
  goes_took c n s s' x made k = goes_more s s' k.more s.turns made k.others (ap (λ (y : HandState D Q G). y.home) k.now) (ap (λ (y : HandState D Q G). y.number) k.now) (ap (λ (y : HandState D Q G). y.left) k.now) (ap (λ (y : HandState D Q G). y.seen) k.now)

  -- a join makes no entry
  pub goes_heard : (s other s' : HandState D Q G) → 0 < s.number → Heard t s other s' → Goes t s s' []
  goes_heard s other s' made k = goes_more s s' k.more s.turns made k.others (ap (λ (y : HandState D Q G). y.home) k.now) (ap (λ (y : HandState D Q G). y.number) k.now) (ap (λ (y : HandState D Q G). y.left) k.now) (ap (λ (y : HandState D Q G). y.seen) k.now)

  -- giving a turn back makes no entry
  pub goes_given : (c : ℕ) (s s' : HandState D Q G) → s' ≡ without_turn s c → Goes t s s' []
  goes_given c s s' is = subst (λ (y : HandState D Q G). Goes t s y []) (sym is) (record { home = refl; number = refl; left = omega arith; own = sym (append-nil (entries t s)); more = []; sees = sym (append-nil s.seen) })

  -- pins make no entry
  pub goes_pinned : (c : ℕ) (s s' : HandState D Q G) → (s' ≡ with_pin s c) ⊎ (s' ≡ without_pin s c) → Goes t s s' []
  goes_pinned c s s' is = ⊎_elim
      (λ (e : s' ≡ with_pin s c). subst (λ (y : HandState D Q G). Goes t s y []) (sym e) (record { home = refl; number = refl; left = omega arith; own = sym (append-nil (entries t s)); more = []; sees = sym (append-nil s.seen) }))
      (λ (e : s' ≡ without_pin s c). subst (λ (y : HandState D Q G). Goes t s y []) (sym e) (record { home = refl; number = refl; left = omega arith; own = sym (append-nil (entries t s)); more = []; sees = sym (append-nil s.seen) }))
      is

  -- a stamp makes its entry
  pub goes_stamped : (d : D) (kept : List (ℕ × Q)) (s s' : HandState D Q G) (n : ℕ) → 0 < s.number → CanStamp t s d kept → Stamped t d kept s n s' → Goes t s s' ((n, d) ∷ [])
  goes_stamped d kept s s' n made can k = let e : Event D Q = record { entry = d; kept = kept } in let some_left = can.left in record {
    home = ap (λ (y : HandState D Q G). y.home) k.now;
    number = ap (λ (y : HandState D Q G). y.number) k.now;
    left = let q = ap (λ (y : HandState D Q G). y.left) k.now in omega (arith, q, some_left);
    own = ap (λ (y : HandState D Q G). own t y.number 0 y.seen) k.now ∙ (own_last t s.number n (s.seen ++ k.more) e can.own k.stamp
        ∙ ap (λ (z : List (ℕ × D)). z ++ (n, d) ∷ []) (own_more t s.home.base.grounds s.number (numbers_of s.number) s.turns s.seen k.more (numbers_made s.number made) k.others));
    more = k.more ++ e ∷ [];
    sees = ap (λ (y : HandState D Q G). y.seen) k.now ∙ append_assoc s.seen k.more (e ∷ []);
  }

  -- the links after these entries of the hand, where these were there before
  abbrev links_by : G → List ℕ → List (ℕ × D) → List ℕ
  links_by g l [] = l
  links_by g l (x ∷ xs) = links_by g (tied_to t (t.tie g x.1) l) xs

  links_by_more : (g : G) (l : List ℕ) (xs ys : List (ℕ × D)) → links_by g l (xs ++ ys) ≡ links_by g (links_by g l xs) ys
  links_by_more g l [] ys = refl
  links_by_more g l (x ∷ xs) ys = links_by_more g (tied_to t (t.tie g x.1) l) xs ys

  -- the links of a hand are those that its own entries left
  links_own : (g : G) (k n : ℕ) (l : List ℕ) (es : List (Event D Q)) → links_from t g k l es ≡ links_by g l (own t k n es)
  links_own g k n l [] = refl
  links_own g k n l (e ∷ es) = let tied : List ℕ = tied_to t (t.tie g e.entry) l in let own_then : List (ℕ × D) = own t k (n + 1) es in dite (ℕ_discrete k (t.who e.entry))
      (λ is. ap (λ (z : List ℕ). links_from t g k z es) (here k (t.who e.entry) tied l is)
      ∙ (links_own g k (n + 1) tied es ∙ sym (ap (links_by g l) (here (t.who e.entry) k ((n, e.entry) ∷ own_then) own_then (sym is)))))
      (λ ne. ap (λ (z : List ℕ). links_from t g k z es) (else k (t.who e.entry) tied l ne)
      ∙ (links_own g k (n + 1) l es ∙ sym (ap (links_by g l) (else (t.who e.entry) k ((n, e.entry) ∷ own_then) own_then (λ is. ne (sym is))))))

  -- none of these entries adds a link or takes one off
  abbrev pub AreUntied : G → List (ℕ × D) → Type 0
  AreUntied g [] = Unit {0}
  AreUntied g (x ∷ xs) = (t.tie g x.1 ≡ neither) × AreUntied g xs

  links_untied : (g : G) (l : List ℕ) (xs : List (ℕ × D)) → AreUntied g xs → links_by g l xs ≡ l
  links_untied g l [] none = refl
  links_untied g l (x ∷ xs) none = ap (λ (y : Tie). links_by g (tied_to t y l) xs) none.0 ∙ links_untied g l xs none.1

  -- calls that make such entries alone leave the hand's links on each cell as they are
  pub goes_links : (s s' : HandState D Q G) (made : List (ℕ × D)) → Goes t s s' made → AreUntied s.home.base.grounds made → (c : ℕ) → links_on t s' c ≡ links_on t s c
  goes_links s s' made goes none c = let g : G = s.home.base.grounds in let g' : G = s'.home.base.grounds in
      let list : links t s' ≡ links t s = links_own g' s'.number 0 [] s'.seen ∙ ((λ i. links_by ((goes.home i).base.grounds) [] (goes.own i))
      ∙ (links_by_more g [] (entries t s) made ∙ (links_untied g (links_by g [] (entries t s)) made none ∙ sym (links_own g s.number 0 [] s.seen)))) in
      sym (links_times t g' s'.number [] no_link s'.seen (λ _. refl) c) ∙ (ap (times c) list ∙ links_times t g s.number [] no_link s.seen (λ _. refl) c)
