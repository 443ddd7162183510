-- A seat that is cut off or joined, and the table at the start, keep the rule.
use Rattle.std.proofs.Common.{◌≡◌, ◌≢◌, ◌⊎◌, ℕ, zero, suc, ◌+◌, ◌-◌, ◌*◌, ◌/◌, ◌%◌, ◌<◌, ◌≤◌, cond, eqb, ltb, List, [], ◌∷◌, ◌++◌, map, length, get_or, set, sym, refl, ap, ◌∙◌, subst, ⊎_elim, inl, inr, arith, append_assoc, append-nil, Option, Some, None, length-append, le_refl, suc-mul}
use mathlib.Core.Logic.{dite}
use mathlib.Core.Option.{none, some, some-injective, some-ne-none}
use mathlib.Core.Option as maybe
use native.Mathlib.Decide.{ℕ_discrete, dec_le}
use lib.ListN.{get_elem?, length-map}
use Rattle.atomic_table.specs.Table.{State, opening, Splits, Joins, Final, Seen}
use Rattle.atomic_table.proofs.Lists.{set_here, set_else, at_longer, at_last}
use Rattle.eleos_base.specs.declared.plot.Event.{Event}
use Rattle.eleos_base.specs.declared.plot.Base.{Base}
use Rattle.eleos_base.specs.Ties.{Has}
use Rattle.eleos_base.specs.Terms.{Terms}
use Rattle.eleos_base.specs.Histories.{made, no_link, linked}
use Rattle.eleos_turn.specs.declared.view.View.{View}
use Rattle.eleos_turn.specs.Numbers.{times, above, total, most_pins, longer, shorter}
use Rattle.eleos_turn.specs.Words.{word_of, words_for}
use Rattle.eleos_turn.specs.Rule.{Apart, SeatOk, Kept, gone}
use Rattle.eleos_turn.specs.Views.{dealing, dealt_from, dealt_to, observer_of, joined, observed}
use Rattle.eleos_turn.proofs.Numbers.{tested, here, else, above_more, above_has, total_same, total_set, total_snoc}
use Rattle.eleos_turn.proofs.Keeps as kept
use Rattle.eleos_turn.proofs.Keeps.{length_here}

at_end : {A : Type 0} (l : List A) (a x : A) (j : ℕ) → get_elem? (l ++ a ∷ []) j ≡ some x → (get_elem? l j ≡ some x) ⊎ ((j ≡ length l) × (a ≡ x))
at_end [] a x zero e = inr (refl, some-injective a x e)
at_end [] a x (suc j) e = absurd (some-ne-none x (sym e))
at_end (y ∷ ys) a x zero e = inl e
at_end (y ∷ ys) a x (suc j) e = ⊎_elim (λ (q : get_elem? ys j ≡ some x). inl q) (λ (q : (j ≡ length ys) × (a ≡ x)). inr (omega (arith, q.0), q.1)) (at_end ys a x j e)

length_set : {A : Type 0} (l : List A) (i : ℕ) (a : A) → length (set l i a) ≡ length l
length_set [] i a = refl
length_set (x ∷ xs) zero a = refl
length_set (x ∷ xs) (suc i) a = let q = length_set xs i a in omega (arith, q)

module _ {C D Q G : Type 0} (t : Terms C D Q G) (b : Base Q G) where
  abbrev V : Type 0
  V = View D Q G

  abbrev E : Type 0
  E = Event D Q

  abbrev St : Type 0
  St = State (Option C) V

  abbrev Rule : St → Type 0
  Rule = Kept t b

  ok_owner : (h : List E) (ws : List ℕ) (homes : List (maybe.Option (Option C))) (holder owner owner' : ℕ → ℕ) (j : ℕ) (d : V) → ((n : ℕ) → Has n d.numbers → owner' n ≡ owner n) → SeatOk t b h ws homes holder owner j d → SeatOk t b h ws homes holder owner' j d
  ok_owner h ws homes holder owner owner' j d same k = record {
    base_is = k.base_is;
    unseen = k.unseen;
    sees = k.sees;
    told = k.told;
    once = k.once;
    apart = k.apart;
    numbers = λ n has. let x = k.numbers n has in (same n has ∙ x.0, x.1, x.2);
    acts = k.acts;
    turns = k.turns;
    clean = k.clean;
    covered = k.covered;
    fits = k.fits;
  }

  -- a view is cut in two, and the second part has no turn and no pin
  cut : (s : St) (r : Rule s) (id : ℕ) (v l n : V) (owner' : ℕ → ℕ) → get_elem? s.views id ≡ some v → l.held ≡ v.held → l.pins ≡ v.pins → n.pins ≡ [] → l.left + n.left ≡ v.left → l.most + n.most ≡ v.most
      → SeatOk t b r.history s.words s.homes r.holder owner' id l
      → SeatOk t b r.history s.words s.homes r.holder owner' (length s.views) n
      → ((j : ℕ) (d : V) → j ≢ id → get_elem? s.views j ≡ some d → (k : ℕ) → Has k d.numbers → owner' k ≡ r.owner k)
      → ((k : ℕ) → 0 < k → k ≤ b.hands → ((owner' k ≡ length s.views) × Has k n.numbers) ⊎ ((owner' k ≡ r.owner k) × (Has k v.numbers → Has k l.numbers)))
      → Rule record { words = s.words; homes = s.homes; views = set s.views id l ++ n ∷ [] }
  cut s r id v l n owner' at held pins no_pins left most mine new others owns = let vs : List V = set s.views id l in let long : length vs ≡ length s.views = length_set s.views id l in record {
    history = r.history;
    holder = r.holder;
    owner = owner';
    wide = r.wide;
    deep = r.deep;
    stamps = r.stamps;
    legal = r.legal;
    signed = r.signed;
    room = let x = total_set (λ (d : V). d.left) s.views id v l at in let y = total_snoc (λ (d : V). d.left) vs n in let z = r.room in omega (arith, x, y, z, left);
    pins = let x = total_set (λ (d : V). d.most) s.views id v l at in let y = total_snoc (λ (d : V). d.most) vs n in let z = r.pins in omega (arith, x, y, z, most);
    owned = λ k low high. ⊎_elim
        (λ (q : (owner' k ≡ length s.views) × Has k n.numbers). (n, ap (get_elem? (vs ++ n ∷ [])) q.0 ∙ at_last vs n (length s.views) long, q.1))
        (λ (q : (owner' k ≡ r.owner k) × (Has k v.numbers → Has k l.numbers)). let o = r.owned k low high in let z = kept.still t b (λ (d : V). Has k d.numbers) s.views id (r.owner k) v l o.0 at o.1 o.2 q.1 in
        (z.0, ap (get_elem? (vs ++ n ∷ [])) q.0 ∙ at_longer vs (n ∷ []) (r.owner k) z.0 z.1, z.2))
        (owns k low high);
    each_seat = λ j d there. ⊎_elim
        (λ (q : get_elem? vs j ≡ some d). kept.every t b (SeatOk t b r.history s.words s.homes r.holder owner') s.views id l mine
        (λ i x other at_i. ok_owner r.history s.words s.homes r.holder r.owner owner' i x (others i x other at_i) (r.each_seat i x at_i)) j d q)
        (λ (q : (j ≡ length vs) × (n ≡ d)). subst (λ (x : ℕ × V). SeatOk t b r.history s.words s.homes r.holder owner' x.0 x.1) (λ i. (sym (q.0 ∙ long) i, q.1 i)) new)
        (at_end vs n d j there);
    each_cell = λ c inside. let o = r.each_cell c inside in record {
      free = o.free;
      busy = λ odd. let x = o.busy odd in let z = kept.still t b (λ (d : V). Has c d.held) s.views id (r.holder c) v l x.0 at x.1 x.2 (subst (Has c) (sym held)) in (z.0, at_longer vs (n ∷ []) (r.holder c) z.0 z.1, z.2);
      pins = let x = total_same (λ (d : V). times c d.pins) s.views id v l at (ap (times c) pins) in let y = total_snoc (λ (d : V). times c d.pins) vs n in let z : times c n.pins ≡ 0 = ap (times c) no_pins in let p = o.pins in omega (arith, x, y, z, p);
      low = o.low;
    };
  }

  -- the first of the hands that are left is dealt
  pub deals : (id a n : ℕ) → Splits Rule id (dealing b a (suc n)) (dealt_from (dealing b a (suc n))) (dealt_to (dealing b a (suc n)))
  deals id a n s r at = let v : V = dealing b a (suc n) in let ok = r.each_seat id v at in let owner' : ℕ → ℕ = λ k. cond (eqb k (a + 1)) (length s.views) (r.owner k) in
      let here_is : owner' (a + 1) ≡ length s.views = here (a + 1) (a + 1) (length s.views) (r.owner (a + 1)) refl in
      let else_is : (k : ℕ) → k ≢ a + 1 → owner' k ≡ r.owner k = (λ k ne. else k (a + 1) (length s.views) (r.owner k) ne) in
      let count = suc-mul n b.each in let count' = suc-mul n most_pins in
      cut s r id v (dealt_from v) (dealt_to v) owner' at refl refl refl (omega (arith, count)) (omega (arith, count'))
      record {
        base_is = ok.base_is;
        unseen = ok.unseen;
        sees = ok.sees;
        told = (r.history, refl);
        once = λ c. omega arith;
        apart = Rattle.eleos_turn.proofs.Histories.apart_less t b.grounds v.numbers (above (a + 1) n) [] [] ok.unseen (λ k h. inr h) (λ c h. h) ok.apart;
        numbers = λ k has. let x = ok.numbers k (inr has) in let more = above_more (a + 1) n k has in (else_is k (λ e. omega (arith, e, more.0)) ∙ x.0, x.1, x.2);
        acts = λ c h. absurd h;
        turns = λ c h. absurd h;
        clean = λ c h. absurd h;
        covered = λ k has c. le_refl 0;
        fits = omega arith;
      }
      record {
        base_is = ok.base_is;
        unseen = ok.unseen;
        sees = ok.sees;
        told = (r.history, refl);
        once = λ c. omega arith;
        apart = Rattle.eleos_turn.proofs.Histories.apart_less t b.grounds v.numbers ((a + 1) ∷ []) [] [] ok.unseen (λ k h. ⊎_elim (λ (e : k ≡ a + 1). inl e) (λ (q : ⊥). absurd q) h) (λ c h. h) ok.apart;
        numbers = λ k has. let e : k ≡ a + 1 = ⊎_elim (λ (q : k ≡ a + 1). q) (λ (q : ⊥). absurd q) has in let x = ok.numbers k (inl e) in (ap owner' e ∙ here_is, x.1, x.2);
        acts = λ c h. absurd h;
        turns = λ c h. absurd h;
        clean = λ c h. absurd h;
        covered = λ k has c. le_refl 0;
        fits = omega arith;
      }
      (λ j d other there k has. else_is k (λ e. other (sym (((r.each_seat j d there).numbers k has).0) ∙ (ok.numbers k (inl e)).0)))
      (λ k low high. dite (ℕ_discrete k (a + 1))
      (λ (e : k ≡ a + 1). inl (ap owner' e ∙ here_is, inl e))
      (λ (ne : k ≢ a + 1). inr (else_is k ne, λ h. ⊎_elim (λ (e : k ≡ a + 1). absurd (ne e)) (λ (q : Has k (above (a + 1) n)). q) h)))

  -- a note of what a seat has seen is cut off
  pub observers : (id : ℕ) (v : V) → Splits Rule id v v (observer_of v)
  observers id v s r at = let ok = r.each_seat id v at in cut s r id v v (observer_of v) r.owner at refl refl refl (omega arith) (omega arith) ok
      record {
        base_is = ok.base_is;
        unseen = ok.unseen;
        sees = ok.sees;
        told = (r.history, refl);
        once = λ c. omega arith;
        apart = Rattle.eleos_turn.proofs.Histories.apart_less t b.grounds v.numbers [] v.held [] ok.unseen (λ k h. absurd h) (λ c h. absurd h) ok.apart;
        numbers = λ k h. absurd h;
        acts = λ c h. absurd h;
        turns = λ c h. absurd h;
        clean = λ c h. absurd h;
        covered = λ k h. absurd h;
        fits = le_refl 0;
      }
      (λ j d other there k has. refl)
      (λ k low high. inr (refl, λ h. h))

  -- the sum over the seats after one was joined into another
  total_joined : (f : V → ℕ) (vs : List V) (id other : ℕ) (v w u g : V) → get_elem? vs id ≡ some v → get_elem? (set vs id u) other ≡ some w → f u ≡ f v + f w → f g ≡ 0 → total f (set (set vs id u) other g) ≡ total f vs
  total_joined f vs id other v w u g at there both none_left = let x = total_set f vs id v u at in let y = total_set f (set vs id u) other w g there in omega (arith, x, y, both, none_left)

  -- a number of the first list stands in both together
  pub has_left : (n : ℕ) (xs ys : List ℕ) → Has n xs → Has n (xs ++ ys)
  has_left n [] ys h = absurd h
  has_left n (x ∷ xs) ys h = ⊎_elim (λ (e : n ≡ x). inl e) (λ (q : Has n xs). inr (has_left n xs ys q)) h

  -- and so does one of the second
  pub has_right : (n : ℕ) (xs ys : List ℕ) → Has n ys → Has n (xs ++ ys)
  has_right n [] ys h = h
  has_right n (x ∷ xs) ys h = inr (has_right n xs ys h)

  has_either : (n : ℕ) (xs ys : List ℕ) → Has n (xs ++ ys) → Has n xs ⊎ Has n ys
  has_either n [] ys h = inr h
  has_either n (x ∷ xs) ys h = ⊎_elim (λ (e : n ≡ x). inl (inl e)) (λ (q : Has n (xs ++ ys)). ⊎_elim (λ (z : Has n xs). inl (inr z)) (λ (z : Has n ys). inr z) (has_either n xs ys q)) h

  times_both : (c : ℕ) (xs ys : List ℕ) → times c (xs ++ ys) ≡ times c xs + times c ys
  times_both c [] ys = omega arith
  times_both c (x ∷ xs) ys = let q = times_both c xs ys in omega (arith, q)

  apart_both : (ns ms hs : List ℕ) (xs : List E) → Apart t b.grounds ns hs xs → Apart t b.grounds ms [] xs → Apart t b.grounds (ns ++ ms) hs xs
  apart_both ns ms hs [] a c = tt
  apart_both ns ms hs (x ∷ xs) a c = ((λ h. ⊎_elim (λ (q : Has (t.who x.entry) ns). a.0 q) (λ (q : Has (t.who x.entry) ms). c.0 q) (has_either (t.who x.entry) ns ms h)), a.1, apart_both ns ms hs xs a.2 c.2)

  apart_back : (ns hs : List ℕ) (xs ys : List E) → Apart t b.grounds ns hs (xs ++ ys) → Apart t b.grounds ns hs ys
  apart_back ns hs [] ys a = a
  apart_back ns hs (x ∷ xs) ys a = apart_back ns hs xs ys a.2

  apart_none : (xs : List E) → Apart t b.grounds [] [] xs
  apart_none [] = tt
  apart_none (x ∷ xs) = ((λ h. absurd h), (λ c h. absurd h), apart_none xs)

  abbrev tail_of : List E → List E
  tail_of [] = []
  tail_of (z ∷ zs) = zs

  -- of two beginnings of a list, the shorter begins the longer
  behind : (xs u ys w : List E) → xs ++ u ≡ ys ++ w → length xs ≤ length ys → (mid : List E) × (u ≡ mid ++ w)
  behind [] u ys w e l = (ys, e)
  behind (x ∷ xs) u [] w e l = absurd (omega arith)
  behind (x ∷ xs) u (y ∷ ys) w e l = behind xs u ys w (ap tail_of e) (omega arith)

  -- the shorter of two beginnings is one
  heard_short : (h xs ys u u' : List E) → h ≡ xs ++ u → h ≡ ys ++ u' → (more : List E) × (h ≡ shorter xs ys ++ more)
  heard_short h xs ys u u' see see' = dite (dec_le (suc (length xs)) (length ys))
      (λ lt. let is : shorter xs ys ≡ xs = ap (λ (z : Rattle.std.proofs.Common.Bool). cond z xs ys) (Rattle.std.proofs.Common.lt-ltb (length xs) (length ys) lt) in (u, see ∙ ap (λ (z : List E). z ++ u) (sym is)))
      (λ ge. let is : shorter xs ys ≡ ys = ap (λ (z : Rattle.std.proofs.Common.Bool). cond z xs ys) (Rattle.std.proofs.Common.le-ltb (length xs) (length ys) (omega (arith, ge))) in (u', see' ∙ ap (λ (z : List E). z ++ u') (sym is)))

  -- what two seats have seen, and what neither has
  both_see : (h : List E) (v w : V) (u u' : List E) → h ≡ v.seen ++ u → h ≡ w.seen ++ u' → Apart t b.grounds v.numbers v.held u → Apart t b.grounds w.numbers [] u' → (rest : List E) × (h ≡ longer v.seen w.seen ++ rest) × Apart t b.grounds (v.numbers ++ w.numbers) v.held rest
  both_see h v w u u' see see' a a' = dite (dec_le (suc (length v.seen)) (length w.seen))
      (λ lt. let bh = behind v.seen u w.seen u' (sym see ∙ see') (omega (arith, lt)) in let is : longer v.seen w.seen ≡ w.seen = ap (λ (z : Rattle.std.proofs.Common.Bool). cond z w.seen v.seen) (Rattle.std.proofs.Common.lt-ltb (length v.seen) (length w.seen) lt) in
      (u', see' ∙ ap (λ (z : List E). z ++ u') (sym is), apart_both v.numbers w.numbers v.held u' (apart_back v.numbers v.held bh.0 u' (subst (Apart t b.grounds v.numbers v.held) bh.1 a)) a'))
      (λ ge. let bh = behind w.seen u' v.seen u (sym see' ∙ see) (omega (arith, ge)) in let is : longer v.seen w.seen ≡ v.seen = ap (λ (z : Rattle.std.proofs.Common.Bool). cond z w.seen v.seen) (Rattle.std.proofs.Common.le-ltb (length v.seen) (length w.seen) (omega (arith, ge))) in
      (u, see ∙ ap (λ (z : List E). z ++ u) (sym is), apart_both v.numbers w.numbers v.held u a (apart_back w.numbers [] bh.0 u (subst (Apart t b.grounds w.numbers []) bh.1 a'))))

  abbrev joined_as : V → V → List E → List E → V
  joined_as v w seen told = record v { numbers = v.numbers ++ w.numbers; seen = seen; told = told; pins = v.pins ++ w.pins; left = v.left + w.left; most = v.most + w.most }

  joins_as : (id other : ℕ) (v w : V) (seen told : List E) → w.held ≡ []
      → ((h u u' : List E) → h ≡ v.seen ++ u → h ≡ w.seen ++ u' → Apart t b.grounds v.numbers v.held u → Apart t b.grounds w.numbers [] u' → ((rest : List E) × (h ≡ seen ++ rest) × Apart t b.grounds (v.numbers ++ w.numbers) v.held rest) × ((more : List E) × (h ≡ told ++ more)))
      → Joins Rule id v other w (joined_as v w seen told) (gone t)
  joins_as id other v w seen told idle both s r at apart there = let u : V = joined_as v w seen told in let g : V = gone t in let ok = r.each_seat id v at in
      let there' : get_elem? s.views other ≡ some w = sym (set_else s.views id other u apart) ∙ there in let k = r.each_seat other w there' in
      let vs : List V = set (set s.views id u) other g in let owner' : ℕ → ℕ = λ z. cond (eqb (r.owner z) other) id (r.owner z) in
      let u_there : get_elem? vs id ≡ some u = set_else (set s.views id u) other id g (λ e. apart (sym e)) ∙ set_here s.views id u (length_here s.views id v at) in
      let others_there : (j : ℕ) (d : V) → j ≢ id → j ≢ other → get_elem? s.views j ≡ some d → get_elem? vs j ≡ some d = (λ j d ne ne' e. set_else (set s.views id u) other j g ne' ∙ (set_else s.views id j u ne ∙ e)) in
      let own_else : (z : ℕ) → r.owner z ≢ other → owner' z ≡ r.owner z = (λ z ne. else (r.owner z) other id (r.owner z) ne) in
      let all = both r.history ok.unseen k.unseen ok.sees k.sees ok.apart (subst (λ (l : List ℕ). Apart t b.grounds w.numbers l k.unseen) idle k.apart) in let see = all.0 in
      record {
        history = r.history;
        holder = r.holder;
        owner = owner';
        wide = r.wide;
        deep = r.deep;
        stamps = r.stamps;
        legal = r.legal;
        signed = r.signed;
        room = let x = total_joined (λ (d : V). d.left) s.views id other v w u g at there refl refl in let y = r.room in omega (arith, x, y);
        pins = let x = total_joined (λ (d : V). d.most) s.views id other v w u g at there refl refl in let y = r.pins in omega (arith, x, y);
        owned = λ z low high. let o = r.owned z low high in dite (ℕ_discrete (r.owner z) other)
            (λ (e : r.owner z ≡ other). let same : w ≡ o.0 = some-injective w o.0 (sym there' ∙ (ap (get_elem? s.views) (sym e) ∙ o.1)) in
            (u, ap (get_elem? vs) (here (r.owner z) other id (r.owner z) e) ∙ u_there, has_right z v.numbers w.numbers (subst (λ (d : V). Has z d.numbers) (sym same) o.2)))
            (λ (ne : r.owner z ≢ other). dite (ℕ_discrete (r.owner z) id)
            (λ (e : r.owner z ≡ id). let same : v ≡ o.0 = some-injective v o.0 (sym at ∙ (ap (get_elem? s.views) (sym e) ∙ o.1)) in
            (u, ap (get_elem? vs) (own_else z ne ∙ e) ∙ u_there, has_left z v.numbers w.numbers (subst (λ (d : V). Has z d.numbers) (sym same) o.2)))
            (λ (ne' : r.owner z ≢ id). (o.0, ap (get_elem? vs) (own_else z ne) ∙ others_there (r.owner z) o.0 ne' ne o.1, o.2)));
        each_seat = kept.every t b (SeatOk t b r.history s.words s.homes r.holder owner') (set s.views id u) other g
            record {
              base_is = λ l. absurd (omega (arith, l));
              unseen = r.history;
              sees = refl;
              told = (r.history, refl);
              once = λ c. omega arith;
              apart = apart_none r.history;
              numbers = λ z h. absurd h;
              acts = λ z h. absurd h;
              turns = λ z h. absurd h;
              clean = λ z h. absurd h;
              covered = λ z h. absurd h;
              fits = le_refl 0;
            }
            (λ j d ne at_j. kept.every t b (λ (j : ℕ) (d : V). j ≢ other → SeatOk t b r.history s.words s.homes r.holder owner' j d) s.views id u
            (λ _. record {
              base_is = ok.base_is;
              unseen = see.0;
              sees = see.1;
              told = all.1;
              once = ok.once;
              apart = see.2;
              numbers = λ z has. ⊎_elim
                  (λ (q : Has z v.numbers). let x = ok.numbers z q in (own_else z (λ e. apart (sym e ∙ x.0)) ∙ x.0, x.1, x.2))
                  (λ (q : Has z w.numbers). let x = k.numbers z q in (here (r.owner z) other id (r.owner z) x.0, x.1, x.2))
                  (has_either z v.numbers w.numbers has);
              acts = λ z h. let x = ok.acts z h in (x.0, has_left x.0 v.numbers w.numbers x.1);
              turns = ok.turns;
              clean = λ z h. let x = ok.clean z h in let y = ok.turns z x.0 in let two = Rattle.eleos_turn.proofs.Numbers.total_two (λ (d : V). times z d.pins) s.views id other v w (λ e. apart (sym e)) at there' in
                  let sums = (r.each_cell z y.0).pins in let pins = times_both z v.pins w.pins in (x.0, omega (arith, x.1, two, sums, pins));
              covered = λ z has y. let pins = times_both y v.pins w.pins in
                  let is : linked t b.grounds r.history z y ≡ linked t b.grounds seen z y = ap (λ (l : List E). linked t b.grounds l z y) see.1 ∙ (ap (λ (l : ℕ → ℕ → ℕ). l z y) (Rattle.eleos_turn.proofs.Histories.linked_append t b.grounds no_link (seen) see.0)
                  ∙ Rattle.eleos_turn.proofs.Histories.linked_apart t b.grounds (linked t b.grounds seen) (v.numbers ++ w.numbers) v.held see.0 see.2 z has y) in ⊎_elim
                  (λ (q : Has z v.numbers). let x = ok.covered z q y in let e = kept.kept_links t b s r id v at z q y in omega (arith, pins, is, x, e))
                  (λ (q : Has z w.numbers). let x = k.covered z q y in let e = kept.kept_links t b s r other w there' z q y in omega (arith, pins, is, x, e))
                  (has_either z v.numbers w.numbers has);
              fits = let x = ok.fits in let y = k.fits in let z = length-append v.pins w.pins in omega (arith, x, y, z);
            })
            (λ j d other_j at_d ne_other. ok_owner r.history s.words s.homes r.holder r.owner owner' j d (λ z has. own_else z (λ e. ne_other (sym (((r.each_seat j d at_d).numbers z has).0) ∙ e))) (r.each_seat j d at_d)) j d at_j ne);
        each_cell = λ c inside. let o = r.each_cell c inside in record {
          free = o.free;
          busy = λ odd. let x = o.busy odd in dite (ℕ_discrete (r.holder c) other)
              (λ (e : r.holder c ≡ other). let same : w ≡ x.0 = some-injective w x.0 (sym there' ∙ (ap (get_elem? s.views) (sym e) ∙ x.1)) in let has : Has c [] = subst (Has c) (ap (λ (d : V). d.held) (sym same) ∙ idle) x.2 in absurd has)
              (λ (ne : r.holder c ≢ other). dite (ℕ_discrete (r.holder c) id)
              (λ (e : r.holder c ≡ id). let same : v ≡ x.0 = some-injective v x.0 (sym at ∙ (ap (get_elem? s.views) (sym e) ∙ x.1)) in (u, ap (get_elem? vs) e ∙ u_there, subst (λ (d : V). Has c d.held) (sym same) x.2))
              (λ (ne' : r.holder c ≢ id). (x.0, others_there (r.holder c) x.0 ne' ne x.1, x.2)));
          pins = let x = total_joined (λ (d : V). times c d.pins) s.views id other v w u g at there (times_both c v.pins w.pins) refl in let p = o.pins in omega (arith, x, p);
          low = o.low;
        };
      }

  -- a seat without turns may be joined into another: the rule is kept, and the joined seat knows what both knew
  pub joins : (id other : ℕ) (v w : V) → w.held ≡ [] → Joins Rule id v other w (joined v w) (gone t)
  joins id other v w idle = joins_as id other v w (longer v.seen w.seen) (shorter v.seen w.seen) idle (λ h u u' see see' a a'. (both_see h v w u u' see see' a a', heard_short h v.seen w.seen u u' see see'))

  -- no entry is of no number
  of_none : (es : List E) → Apart t b.grounds [] [] es
  of_none [] = tt
  of_none (e ∷ es) = ((λ h. h), (λ c h _. h), of_none es)

  -- the same of a seat that has no numbers either: what it has seen is only told to the other
  pub observes : (id other : ℕ) (v w : V) → w.held ≡ [] → w.numbers ≡ [] → Joins Rule id v other w (observed v w) (gone t)
  observes id other v w idle nobody = joins_as id other v w v.seen w.seen idle (λ h u u' see see' a a'. ((u, see, apart_both v.numbers w.numbers v.held u a (subst (λ (l : List ℕ). Apart t b.grounds l [] u) (sym nobody) (of_none u))), (u', see')))

  cell_open : (items : List C) (c : ℕ) (z : Q) → c < length items → (x : C) × (get_elem? (map some (map Some items)) c ≡ some (some (Some x))) × (t.part x ≡ get_or (map t.part items) c z)
  cell_open [] c z l = absurd (omega arith)
  cell_open (x ∷ xs) zero z l = (x, refl, refl)
  cell_open (x ∷ xs) (suc c) z l = cell_open xs c z (omega arith)

  -- the table at the start
  pub opens : (items : List C) (ws : List ℕ) (xs : List (Option C)) → b.opening ≡ map t.part items → xs ≡ map Some items → length ws ≡ words_for (length items) → ((i : ℕ) → get_or ws i 0 ≡ 0) → Rule (opening ws xs (dealing b 0 b.hands))
  opens items ws xs cells slots wide zeros = let v : V = dealing b 0 b.hands in let many : length b.opening ≡ length items = ap length cells ∙ length-map items t.part in record {
    history = [];
    holder = λ _. 0;
    owner = λ _. 0;
    wide = omega (arith, wide, many);
    deep = length-map xs (λ (x : Option C). some x) ∙ (ap length slots ∙ (length-map items (λ (x : C). Some x) ∙ sym many));
    stamps = zeros 0;
    legal = tt;
    signed = tt;
    room = omega arith;
    pins = omega arith;
    owned = λ n low high. (v, refl, above_has 0 b.hands n low (omega (arith, high)));
    each_seat = λ j d there. ⊎_elim
        (λ (q : get_elem? [] j ≡ some d). absurd (some-ne-none d (sym (nothing j d q))))
        (λ (q : (j ≡ 0) × (v ≡ d)). subst (λ (x : ℕ × V). SeatOk t b [] ws (map some xs) (λ _. 0) (λ _. 0) x.0 x.1) (λ i. (sym q.0 i, q.1 i)) record {
          base_is = λ _. refl;
          unseen = [];
          sees = refl;
          told = ([], refl);
          once = λ c. omega arith;
          apart = tt;
          numbers = λ n has. let x = above_more 0 b.hands n has in (refl, x.0, omega (arith, x.1));
          acts = λ c h. absurd h;
          turns = λ c h. absurd h;
          clean = λ c h. absurd h;
          covered = λ n h c. le_refl 0;
          fits = omega arith;
        })
        (at_end [] v d j there);
    each_cell = λ c inside. record {
      free = λ _. let x = cell_open items c t.blank (omega (arith, inside, many)) in (x.0, ap (λ (l : List (Option C)). get_elem? (map some l) c) slots ∙ x.1, x.2 ∙ ap (λ (l : List Q). get_or l c t.blank) (sym cells));
      busy = λ odd. let z = zeros (word_of c) in absurd (omega (arith, odd, z));
      pins = let z = zeros (word_of c) in omega (arith, z);
      low = let z = zeros (word_of c) in omega (arith, z);
    };
  }
    where
      nothing : (j : ℕ) (d : V) → get_elem? [] j ≡ some d → none ≡ some d
      nothing zero d q = q
      nothing (suc j) d q = q

  -- who has every number, and no turn, has seen every entry
  nothing_more : (h : List E) (numbers held : List ℕ) → Rattle.eleos_base.specs.Histories.Signed t b.hands h → Apart t b.grounds numbers held h → ((n : ℕ) → 0 < n → n ≤ b.hands → Has n numbers) → h ≡ []
  nothing_more [] numbers held signed a all = refl
  nothing_more (e ∷ es) numbers held signed a all = absurd (a.0 (all (t.who e.entry) signed.0.0 signed.0.1))

  -- the table at the end, where one seat has every number and no turn: each cell is what that seat's history made of it
  pub ends : (id : ℕ) (v : V) (ws : List ℕ) (xs : List (Option C)) → v.held ≡ [] → 0 < v.base.hands → ((n : ℕ) → 0 < n → n ≤ b.hands → Has n v.numbers) → Final (Seen (Kept t b) id v) ws xs
      → (length xs ≡ length b.opening) × ((c : ℕ) → c < length b.opening → (x : C) × (get_elem? xs c ≡ some (Some x)) × (t.part x ≡ made t v.base v.seen c))
  ends id v ws xs idle alive all f = let s = f.0 in let r = f.1.0 in let at = f.1.1 in let ok = r.each_seat id v at in let deep = r.deep in let count = f.3 in
      let back = Rattle.eleos_turn.proofs.Histories.signed_back t b.hands v.seen ok.unseen (subst (Rattle.eleos_base.specs.Histories.Signed t b.hands) ok.sees r.signed) in
      let seen_all : r.history ≡ v.seen = ok.sees ∙ (ap (λ (z : List E). v.seen ++ z) (nothing_more ok.unseen v.numbers v.held back ok.apart all) ∙ append-nil v.seen) in (
        omega (arith, deep, count),
        λ c inside. let o = r.each_cell c inside in ⊎_elim
            (λ even. let x = o.free even in (x.0, f.4 c (Some x.0) x.1, x.2 ∙ (λ i. made t (sym (ok.base_is alive) i) (seen_all i) c)))
            (λ odd. let x = o.busy odd in let k = r.each_seat (r.holder c) x.0 x.1 in let n = k.acts c x.2 in let n_is = k.numbers n.0 n.1 in let mine = ok.numbers n.0 (all n.0 n_is.1 n_is.2) in
            let e : r.holder c ≡ id = sym n_is.0 ∙ mine.0 in let same : v ≡ x.0 = some-injective v x.0 (sym at ∙ (ap (get_elem? s.views) (sym e) ∙ x.1)) in
            let has : Has c [] = subst (Has c) (ap (λ (d : V). d.held) (sym same) ∙ idle) x.2 in absurd has)
            (Rattle.eleos_turn.proofs.Numbers.parity (get_or s.words (word_of c) 0)),
      )
