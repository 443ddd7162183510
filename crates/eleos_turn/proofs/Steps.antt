-- Each step on a word or a slot keeps the rule.
use Rattle.std.proofs.Common.{◌≡◌, ◌≢◌, ℕ, ◌+◌, ◌-◌, ◌*◌, ◌/◌, ◌%◌, ◌<◌, ◌≤◌, cond, eqb, bit_and, bit_or, List, [], ◌∷◌, ◌++◌, map, length, get_or, set, sym, refl, ap, ◌∙◌, subst, ⊎_elim, inl, inr, arith, append_assoc, append-nil, Option, Some, None, length-set, length-append, get_or-set_other, get_or-set_same, mod-eq_of_lt, le_trans}
use mathlib.Core.Logic.{dite}
use mathlib.Core.Option.{none, some, some-injective, some-ne-none}
use mathlib.Core.Option as maybe
use native.Mathlib.Decide.{ℕ_discrete}
use lib.ListN.{get_elem?}
use lib.Seq.{set-get_or}
use Rattle.atomic_table.specs.Table.{State, Me, step as at_step, Act, keeps, takes, gives, stepped, Allows, Valid, carried_after}
use Rattle.atomic_table.proofs.Lists.{set_here, set_else}
use Rattle.eleos_base.specs.declared.plot.Event.{Event}
use Rattle.eleos_base.specs.declared.plot.Base.{Base}
use Rattle.eleos_base.specs.Ties.{Has}
use Rattle.eleos_base.specs.Terms.{Terms, IsLocal}
use Rattle.eleos_base.specs.Histories.{put, made, opened, no_link, linked, tied_up, MayFollow, LegalFrom, Legal}
use Rattle.eleos_turn.specs.declared.view.View.{View}
use Rattle.eleos_turn.specs.Numbers.{times, less_one}
use Rattle.eleos_base.specs.Words.{pins_in}
use Rattle.eleos_turn.specs.Words.{word_of}
use Rattle.eleos_turn.specs.Rule.{SeatOk, Kept}
use Rattle.eleos_turn.specs.Views.{Room, busied, moved, freed, stamped, pinned, unpinned}
use Rattle.eleos_turn.specs.Plays.{SeesMore, Turn, takes_turn, ends_take, begins_give, gives_turn, stays, looks, Shows, catches_up, pins_one, unpins_one, stamps_one, SeatCanStamp}
use Rattle.eleos_turn.proofs.Numbers.{or_odd, and_even, and_odd, or_pins, and_pins, or_low, and_low, parity, tested, here, else, without_has, has_none, has_less, less_has, less_once, pigeons, times_here, times_else, less_here, less_else, less_length, total_set, total_same, total_one, total_two}
use Rattle.eleos_turn.proofs.Histories.{put_else, put_same, made_append, tied_below, linked_append, legal_append, signed_append, apart_append, apart_less, linked_signed}
use Rattle.eleos_turn.proofs.Keeps as kept
use Rattle.eleos_turn.proofs.Keeps.{length_here}

module _ {C D Q G : Type 0} (t : Terms C D Q G) (b : Base Q G) where
  abbrev V : Type 0
  V = View D Q G

  abbrev E : Type 0
  E = Event D Q

  abbrev St : Type 0
  St = State (Option C) V

  abbrev M : Type 0
  M = Me (Option C) V

  abbrev Rule : St → Type 0
  Rule = Kept t b

  -- the links that the seat's numbers have are those it knew of
  covered_all : (s : St) (r : Rule s) (id : ℕ) (v : V) (at : get_elem? s.views id ≡ some v) (k : ℕ) → Has k v.numbers → (c : ℕ) → linked t b.grounds (v.seen ++ (r.each_seat id v at).unseen) k c ≤ times c v.pins
  covered_all s r id v at k has c = let ok = r.each_seat id v at in let e : linked t b.grounds (v.seen ++ ok.unseen) k c ≡ linked t b.grounds v.seen k c = ap (λ (z : List E). linked t b.grounds z k c) (sym ok.sees) ∙ kept.kept_links t b s r id v at k has c in
      let h = ok.covered k has c in omega (arith, e, h)

  -- a seat may set the busy bit of a cell: it takes the turn where the word was even, and notes the try where it was odd
  pub turn_taken : (missed : ℕ → ℕ) (slots id : ℕ) (me : M) (c k number : ℕ) → c < length b.opening → slots ≡ length b.opening → b.hands ≤ 16 → k % 2 ≡ 1 → k < 4 → me.0.moving ≡ 0 → Has number me.0.numbers → 0 < me.0.base.hands
      → Allows Rule slots id me (word_of c) (λ n. bit_or n k) (takes_turn t missed (at_step slots (word_of c) k 0 none) me)
  turn_taken missed slots id me c k number inside count hands odd_k small_k rests numbered alive s r deep at small = let v : V = me.0 in let n : ℕ = get_or s.words (word_of c) 0 in let n' : ℕ = bit_or n k in let ok = r.each_seat id v at in let wide = r.wide in
      let ws : List ℕ = set s.words (word_of c) n' in let now : get_or ws (word_of c) 0 ≡ n' = get_or-set_same s.words (word_of c) n' 0 (omega arith) in
      let pins : get_or ws (word_of c) 0 / 256 ≡ n / 256 = ap (λ (z : ℕ). z / 256) now ∙ or_pins n k (omega (arith, small_k)) in
      let busy_now : get_or ws (word_of c) 0 % 2 ≡ 1 = ap (λ (z : ℕ). z % 2) now ∙ or_odd n k odd_k in let o = r.each_cell c inside in
      let plain = kept.plain t b s r c inside hands in
      let all_pins : pins_in n ≡ n / 256 = kept.pins_plain n plain in
      let counted : (c' : ℕ) → word_of c ≡ word_of c' → times c' v.pins ≤ pins_in n = (λ c' is. let one = total_one (λ (d : V). times c d.pins) s.views id v at in let sums = o.pins in let e : c ≡ c' = omega (arith, is) in
      subst (λ (z : ℕ). times z v.pins ≤ pins_in n) e (omega (arith, one, sums, all_pins))) in ⊎_elim
      (λ (even : n % 2 ≡ 0). let f = o.free even in let w : V = busied v ok.unseen c n in let all = kept.sees_all t b s r id v ok alive in
      let free_of : (j : ℕ) (d : V) → get_elem? s.views j ≡ some d → Has c d.held → ⊥ = (λ j d there has. let x = (r.each_seat j d there).turns c has in omega (arith, x.1, even)) in
      let holder' : ℕ → ℕ = λ (z : ℕ). cond (eqb z c) id (r.holder z) in
      let held_else : (z : ℕ) → z ≢ c → holder' z ≡ r.holder z = (λ z ne. else z c id (r.holder z) ne) in
      let held_here : holder' c ≡ id = here c c id (r.holder c) refl in
      let once' : (z : ℕ) → times z (c ∷ v.held) ≤ 1 = (λ z. let was = ok.once z in dite (ℕ_discrete z c)
      (λ (e : z ≡ c). let q = has_none c v.held (free_of id v at) in subst (λ (y : ℕ). times y (c ∷ v.held) ≤ 1) (sym e) (let p = times_here c v.held in omega (arith, p, q)))
      (λ (ne : z ≢ c). let p = times_else z c v.held ne in omega (arith, p, was))) in
      let few = pigeons (length b.opening) (c ∷ v.held) once' (λ z has. ⊎_elim (λ (e : z ≡ c). omega (arith, e, inside)) (λ (h : Has z v.held). (ok.turns z h).0) has) in
      let few' : length v.held < length v.base.opening = subst (λ (z : Base Q G). length v.held < length z.opening) (sym (ok.base_is alive)) (omega (arith, few)) in (
        w,
        takes c (Some f.0),
        f.1,
        kept.cell_step t b s r id v w c ws (set s.homes c none) holder' at (length-set s.words (word_of c) n') (kept.word_first t b s.words c n') (λ z ne. kept.same_else t b s.words c n' z ne)
            (length-set s.homes c none) (λ z ne. set_else s.homes c z none ne) held_else (λ j d _. free_of j d) (λ z _ has. inr has) (λ _ _. refl) refl refl (λ _ has. has)
            record {
              base_is = ok.base_is;
              unseen = [];
              sees = ok.sees ∙ sym (append-nil (v.seen ++ ok.unseen));
              told = ok.told;
              once = once';
              apart = tt;
              numbers = ok.numbers;
              acts = λ _ _. (number, numbered);
              turns = λ z has. dite (ℕ_discrete z c)
                  (λ (e : z ≡ c). (omega arith, ap (λ (y : ℕ). get_or ws (word_of y) 0 % 2) e ∙ busy_now, ap holder' e ∙ held_here, λ ne. absurd (ne (ap (λ (y : ℕ). y + 1) (sym e)))))
                  (λ (ne : z ≢ c). let has' : Has z v.held = ⊎_elim (λ (e : z ≡ c). absurd (ne e)) (λ (h : Has z v.held). h) has in let x = ok.turns z has' in
                  (x.0, (kept.same_else t b s.words c n' z ne).0 ∙ x.1, held_else z ne ∙ x.2, λ m. set_else s.homes c z none ne ∙ x.3 (λ (e : v.moving ≡ z + 1). absurd (omega (arith, e, rests)))));
              clean = λ z. let old : Has z v.clean → Has z w.held × (get_or ws (word_of z) 0 / 256 ≡ times z v.pins) = (λ has. let x = ok.clean z has in let ne : z ≢ c = (λ e. free_of id v at (subst (λ (y : ℕ). Has y v.held) e x.0)) in
                  (inr x.0, (kept.same_else t b s.words c n' z ne).1 ∙ x.1)) in
                  tested (λ (l : List ℕ). Has z l → Has z w.held × (get_or ws (word_of z) 0 / 256 ≡ times z v.pins)) (pins_in n) 0 (c ∷ v.clean) v.clean
                  (λ none_shown has. let none_there : n / 256 ≡ 0 = sym all_pins ∙ none_shown in ⊎_elim
                  (λ (e : z ≡ c). let one = total_one (λ (d : V). times c d.pins) s.views id v at in let sums = o.pins in let nothing : times c v.pins ≡ 0 = omega (arith, one, sums, none_there) in
                  (inl e, ap (λ (y : ℕ). get_or ws (word_of y) 0 / 256) e ∙ (pins ∙ (none_there ∙ sym nothing)) ∙ ap (λ (y : ℕ). times y v.pins) (sym e)))
                  old has)
                  (λ _ has. old has);
              covered = λ z has y. covered_all s r id v at z has y;
              fits = ok.fits;
            }
            (λ _. record {
              free = λ e. absurd (omega (arith, busy_now, e));
              busy = λ _. (w, ap (get_elem? (set s.views id w)) held_here ∙ set_here s.views id w (length_here s.views id v at), inl refl);
              pins = pins ∙ (o.pins ∙ sym (total_same (λ (d : V). times c d.pins) s.views id v w at refl));
              low = subst (λ (z : ℕ). z % 256 < 4) (sym now) (or_low n k small_k o.low);
            }),
        (
          (λ odd. absurd (omega (arith, odd, even))),
          λ _ c' is. let e : c ≡ c' = omega arith in subst (λ (z : ℕ). Turn t z n me (busied v ok.unseen c n, (c, Some f.0) ∷ me.1)) e
              (ok.unseen, f.0, refl, all.0, f.2 ∙ ap (λ (g : ℕ → Q). g c) (sym all.1), kept.room_seen t b s r id v at alive, few'),
          plain,
          counted,
        ),
      ))
      (λ (odd : n % 2 ≡ 1). let same = kept.same_there t b s.words c n' (omega arith) (or_odd n k odd_k ∙ sym odd) (or_pins n k (omega (arith, small_k))) (or_low n k small_k) in let w : V = record v { tried = (c, n); misses = missed v.misses } in
      let again = kept.ok_again t b r.history s.words ws s.homes s.homes r.holder r.holder r.owner id v ok (λ z _. ((same z).0, refl, refl)) (λ z _. (same z).1) in (
        w,
        keeps,
        tt,
        kept.unmoved t b s r id v w ws at (length-set s.words (word_of c) n') (kept.word_first t b s.words c n') same refl refl refl refl refl record {
          base_is = again.base_is;
          unseen = again.unseen;
          sees = again.sees;
          told = again.told;
          once = again.once;
          apart = again.apart;
          numbers = again.numbers;
          acts = again.acts;
          turns = again.turns;
          clean = again.clean;
          covered = again.covered;
          fits = again.fits;
        },
        ((λ _ c' is. let e : c ≡ c' = omega (arith, is) in λ i. (record v { tried = (e i, n); misses = missed v.misses }, me.1)), (λ even. absurd (omega (arith, odd, even))), plain, counted),
      ))
      (parity n)

  -- a step on the slot of a cell whose turn the seat has, which keeps the turn
  slot_step : (s : St) (r : Rule s) (id i : ℕ) (v : V) (at : get_elem? s.views id ≡ some v) (c k : ℕ) (homes' : List (maybe.Option (Option C))) → Has c v.held → length homes' ≡ length s.homes
      → ((z : ℕ) → z ≢ c → get_elem? homes' z ≡ get_elem? s.homes z) → (k ≢ c + 1 → get_elem? homes' c ≡ some (some None)) → ((z : ℕ) → z ≢ c → k ≢ z + 1 → v.moving ≢ z + 1)
      → Rule record { words = set s.words i (get_or s.words i 0); homes = homes'; views = set s.views id (moved v k) }
  slot_step s r id i v at c k homes' has as_deep slots there others = let w : V = moved v k in let ok = r.each_seat id v at in let x = ok.turns c has in
      subst (λ (ws : List ℕ). Rule record { words = ws; homes = homes'; views = set s.views id w }) (sym (set-get_or s.words i 0))
      (kept.cell_step t b s r id v w c s.words homes' r.holder at refl refl (λ _ _. (refl, refl, (λ h. h))) as_deep slots (λ _ _. refl) (kept.alone t b s r id v at c has) (λ _ _ h. h) (λ _ _. refl) refl refl (λ _ h. h)
      record {
        base_is = ok.base_is;
        unseen = ok.unseen;
        sees = ok.sees;
        told = ok.told;
        once = ok.once;
        apart = ok.apart;
        numbers = ok.numbers;
        acts = ok.acts;
        turns = λ z has_z. let u = ok.turns z has_z in (
          u.0,
          u.1,
          u.2,
          λ m. dite (ℕ_discrete z c)
              (λ (e : z ≡ c). ap (get_elem? homes') e ∙ there (λ q. m (q ∙ ap (λ (y : ℕ). y + 1) (sym e))))
              (λ (ne : z ≢ c). slots z ne ∙ u.3 (others z ne m)),
        );
        clean = ok.clean;
        covered = ok.covered;
        fits = ok.fits;
      }
      (λ inside. record {
        free = λ even. absurd (omega (arith, x.1, even));
        busy = λ _. (w, ap (get_elem? (set s.views id w)) x.2 ∙ set_here s.views id w (length_here s.views id v at), has);
        pins = (r.each_cell c inside).pins ∙ sym (total_same (λ (d : V). times c d.pins) s.views id v w at refl);
        low = (r.each_cell c inside).low;
      }))

  -- a seat that has the turn may lay the slot back empty
  pub take_ended : (slots id i : ℕ) (me : M) (c : ℕ) → me.1 ≡ (c, None) ∷ [] → me.0.moving ≡ c + 1 → Has c me.0.held → Allows Rule slots id me i (λ n. n) (ends_take t (at_step slots i 0 0 none) me)
  take_ended slots id i me c carries moves has s r deep at small = let v : V = me.0 in let w : V = moved v 0 in let as_deep = r.deep in let x = (r.each_seat id v at).turns c has in
      let P : List (ℕ × Option C) → Type 0 = λ l. (w' : V) × (a : Act (Option C)) × Valid s.homes l a × Rule (stepped s i (get_or s.words i 0) id l w' a) × ends_take t (at_step slots i 0 0 none) (v, l) (get_or s.words i 0) (w', carried_after l a) in
      subst P (sym carries) (
        w,
        gives,
        tt,
        slot_step s r id i v at c 0 (set s.homes c (some None)) has (length-set s.homes c (some None)) (λ z ne. set_else s.homes c z (some None) ne) (λ _. set_here s.homes c (some None) (omega arith)) (λ z ne _ e. ne (omega arith)),
        refl,
      )

  -- a seat that has the turn of a cell may fetch its slot
  pub give_begun : (slots id : ℕ) (me : M) (c : ℕ) → me.0.moving ≡ 0 → Has c me.0.held → Allows Rule slots id me (word_of c) (λ n. n) (begins_give t (at_step slots (word_of c) 0 0 none) me)
  give_begun slots id me c rests has s r deep at small = let v : V = me.0 in let w : V = moved v (c + 1) in let ok = r.each_seat id v at in let x = ok.turns c has in (
    w,
    takes c None,
    x.3 (λ e. absurd (omega arith)),
    slot_step s r id (word_of c) v at c (c + 1) (set s.homes c none) has (length-set s.homes c none) (λ z ne. set_else s.homes c z none ne) (λ ne. absurd (ne refl)) (λ z _ _ e. omega arith),
    λ c' is. let e : c ≡ c' = omega arith in λ i. (moved v (e i + 1), (e i, None) ∷ me.1),
  )

  -- a seat may lay the value back and clear the busy bit, where the value has the part that the history made of it
  pub turn_given : (slots id : ℕ) (me : M) (c k : ℕ) (x : C) → k % 2 ≡ 0 → k / 4 ≡ 4611686018427387903 → me.1 ≡ (c, Some x) ∷ [] → me.0.moving ≡ c + 1 → Has c me.0.held → t.part x ≡ made t me.0.base me.0.seen c → 0 < me.0.base.hands
      → Allows Rule slots id me (word_of c) (λ n. bit_and n k) (gives_turn t (at_step slots (word_of c) k 0 none) me)
  turn_given slots id me c k x even_k rest_k carries moves has right alive s r deep at small = let v : V = me.0 in let w : V = freed v c in let ok = r.each_seat id v at in let y = ok.turns c has in
      let n : ℕ = get_or s.words (word_of c) 0 in let n' : ℕ = bit_and n k in let ws : List ℕ = set s.words (word_of c) n' in let wide = r.wide in let as_deep = r.deep in
      let now : get_or ws (word_of c) 0 ≡ n' = get_or-set_same s.words (word_of c) n' 0 (omega arith) in
      let free_now : get_or ws (word_of c) 0 % 2 ≡ 0 = ap (λ (z : ℕ). z % 2) now ∙ and_even n k even_k in
      let pins : get_or ws (word_of c) 0 / 256 ≡ n / 256 = ap (λ (z : ℕ). z / 256) now ∙ and_pins n k small (omega (arith, rest_k)) in
      let P : List (ℕ × Option C) → Type 0 = λ l. (w' : V) × (a : Act (Option C)) × Valid s.homes l a × Rule (stepped s (word_of c) n' id l w' a) × gives_turn t (at_step slots (word_of c) k 0 none) (v, l) n (w', carried_after l a) in
      subst P (sym carries) (
        w,
        gives,
        tt,
        kept.cell_step t b s r id v w c ws (set s.homes c (some (Some x))) r.holder at (length-set s.words (word_of c) n') (kept.word_first t b s.words c n') (λ z ne. kept.same_else t b s.words c n' z ne)
            (length-set s.homes c (some (Some x))) (λ z ne. set_else s.homes c z (some (Some x)) ne) (λ _ _. refl) (kept.alone t b s r id v at c has) (λ z ne h. has_less c z v.held h ne) (λ _ _. refl) refl refl (λ _ h. h)
            record {
              base_is = ok.base_is;
              unseen = ok.unseen;
              sees = ok.sees;
              told = ok.told;
              once = λ z. less_once c z v.held (ok.once z);
              apart = apart_less t b.grounds v.numbers v.numbers v.held (less_one c v.held) ok.unseen (λ _ h. h) (λ z h. (less_has c z v.held (ok.once c) h).0) ok.apart;
              numbers = ok.numbers;
              acts = λ z h. ok.acts z ((less_has c z v.held (ok.once c) h).0);
              turns = λ z has_z. let q = less_has c z v.held (ok.once c) has_z in let u = ok.turns z q.0 in let ne : z ≢ c = q.1 in
                  (u.0, (kept.same_else t b s.words c n' z ne).0 ∙ u.1, u.2, λ _. set_else s.homes c z (some (Some x)) ne ∙ u.3 (λ e. ne (omega arith)));
              clean = λ z has_z. let q = without_has c z v.clean has_z in let u = ok.clean z q.0 in (has_less c z v.held u.0 q.1, (kept.same_else t b s.words c n' z q.1).1 ∙ u.1);
              covered = ok.covered;
              fits = ok.fits;
            }
            (λ inside. record {
              free = λ _. (x, set_here s.homes c (some (Some x)) (omega arith), right ∙ sym (kept.kept_part t b s r id v at alive c has));
              busy = λ odd. absurd (omega (arith, free_now, odd));
              pins = pins ∙ ((r.each_cell c inside).pins ∙ sym (total_same (λ (d : V). times c d.pins) s.views id v w at refl));
              low = subst (λ (z : ℕ). z % 256 < 4) (sym now) (and_low n k small rest_k (r.each_cell c inside).low);
            }),
        λ c' is. let e : c ≡ c' = omega arith in λ i. (freed v (e i), []),
      )

  -- a seat may look at the word of a cell
  pub looked : (slots id : ℕ) (me : M) (c : ℕ) → c < length b.opening → b.hands ≤ 16 → Allows Rule slots id me (word_of c) (λ n. n) (looks t (at_step slots (word_of c) 0 0 none) me)
  looked slots id me c inside hands s r deep at small = let v : V = me.0 in let ok = r.each_seat id v at in let n : ℕ = get_or s.words (word_of c) 0 in let w : V = record v { looked = (c, n); looks = v.looks + 1 } in
      let plain = kept.plain t b s r c inside hands in let all_pins : pins_in n ≡ n / 256 = kept.pins_plain n plain in (
        w,
        keeps,
        tt,
        subst (λ (ws : List ℕ). Rule record { words = ws; homes = s.homes; views = set s.views id w }) (sym (set-get_or s.words (word_of c) 0))
            (kept.unmoved t b s r id v w s.words at refl refl (λ _. (refl, refl, (λ h. h))) refl refl refl refl refl record {
              base_is = ok.base_is;
              unseen = ok.unseen;
              sees = ok.sees;
              told = ok.told;
              once = ok.once;
              apart = ok.apart;
              numbers = ok.numbers;
              acts = ok.acts;
              turns = ok.turns;
              clean = ok.clean;
              covered = ok.covered;
              fits = ok.fits;
            }),
        λ c' is. let e : c ≡ c' = omega (arith, is) in subst (λ (z : ℕ). (◌≡◌ {A = M} (w, me.1) (record v { looked = (z, n); looks = v.looks + 1 }, me.1)) × Shows v z n) e (
          refl,
          record {
            busy = λ has. (ok.turns c has).1;
            pins = subst (λ (z : ℕ). times c v.pins ≤ z) (sym (all_pins ∙ (r.each_cell c inside).pins)) (total_one (λ (d : V). times c d.pins) s.views id v at);
            clean = λ has. all_pins ∙ (ok.clean c has).1;
            plain = plain;
          },
        ),
      )

  -- a seat may hear the whole history
  pub heard : (slots id i : ℕ) (me : M) → 0 < me.0.base.hands → Allows Rule slots id me i (λ n. n) (catches_up t (at_step slots i 0 0 none) me)
  heard slots id i me alive s r deep at small = let v : V = me.0 in let ok = r.each_seat id v at in let w : V = record v { seen = v.seen ++ ok.unseen; told = [] } in (
    w,
    keeps,
    tt,
    subst (λ (ws : List ℕ). Rule record { words = ws; homes = s.homes; views = set s.views id w }) (sym (set-get_or s.words i 0))
        (kept.unmoved t b s r id v w s.words at refl refl (λ _. (refl, refl, (λ h. h))) refl refl refl refl refl record {
          base_is = ok.base_is;
          unseen = [];
          sees = ok.sees ∙ sym (append-nil (v.seen ++ ok.unseen));
          told = (r.history, refl);
          once = ok.once;
          apart = tt;
          numbers = ok.numbers;
          acts = ok.acts;
          turns = ok.turns;
          clean = ok.clean;
          covered = λ z has y. covered_all s r id v at z has y;
          fits = ok.fits;
        }),
    (ok.unseen, refl, (kept.sees_all t b s r id v ok alive).0, (ok.told.0, sym ok.sees ∙ ok.told.1), kept.room_seen t b s r id v at alive),
  )

  -- a seat may clear the mark of a cell that was touched, which changes nothing for it
  pub ref_gone : (slots id : ℕ) (me : M) (c k : ℕ) → c < length b.opening → k % 2 ≡ 1 → k / 4 ≡ 4611686018427387903 → Allows Rule slots id me (word_of c) (λ n. bit_and n k) (stays t (at_step slots (word_of c) k 0 none) me)
  ref_gone slots id me c k inside odd_k rest_k s r deep at small = let v : V = me.0 in let n : ℕ = get_or s.words (word_of c) 0 in let n' : ℕ = bit_and n k in let ws : List ℕ = set s.words (word_of c) n' in let wide = r.wide in
      let same = kept.same_there t b s.words c n' (omega arith) (and_odd n k odd_k) (and_pins n k small (omega (arith, rest_k))) (and_low n k small rest_k) in (
        v,
        keeps,
        tt,
        kept.unmoved t b s r id v v ws at (length-set s.words (word_of c) n') (kept.word_first t b s.words c n') same refl refl refl refl refl
            (kept.ok_again t b r.history s.words ws s.homes s.homes r.holder r.holder r.owner id v (r.each_seat id v at) (λ z _. ((same z).0, refl, refl)) (λ z _. (same z).1)),
        refl,
      )

  -- n with one pin more, or one pin fewer
  one_more : (n : ℕ) → n / 256 ≤ 268435456 → (n + 256) % 18446744073709551616 ≡ n + 256
  one_more n few = mod-eq_of_lt (omega arith)

  one_fewer : (n : ℕ) → n < 18446744073709551616 → 256 ≤ n → (n + (18446744073709551616 - 256)) % 18446744073709551616 + 256 ≡ n
  one_fewer n small enough = omega arith

  -- a seat may put a pin on a cell whose turn it has, while it has fewer pins than it may have
  pub pin_made : (slots id : ℕ) (me : M) (c : ℕ) → c < length b.opening → b.hands ≤ 16 → Has c me.0.held → length me.0.pins < me.0.most
      → Allows Rule slots id me (word_of c) (λ n. (n + 256) % 18446744073709551616) (pins_one t (at_step slots (word_of c) 256 0 none) me)
  pin_made slots id me c inside hands has room s r deep at small = let v : V = me.0 in let w : V = pinned v c in let ok = r.each_seat id v at in let y = ok.turns c has in
      let n : ℕ = get_or s.words (word_of c) 0 in let n' : ℕ = (n + 256) % 18446744073709551616 in let ws : List ℕ = set s.words (word_of c) n' in let wide = r.wide in
      let few = kept.few_pins t b s r c inside in let is : n' ≡ n + 256 = one_more n (omega arith) in
      let now : get_or ws (word_of c) 0 ≡ n + 256 = get_or-set_same s.words (word_of c) n' 0 (omega arith) ∙ is in let o = r.each_cell c inside in
      let busy_now : get_or ws (word_of c) 0 % 2 ≡ 1 = let odd = y.1 in ap (λ (z : ℕ). z % 2) now ∙ omega (arith, odd) in
      let pins : get_or ws (word_of c) 0 / 256 ≡ n / 256 + 1 = ap (λ (z : ℕ). z / 256) now ∙ omega arith in let one = times_here c v.pins in (
        w,
        keeps,
        tt,
        kept.cell_step t b s r id v w c ws s.homes r.holder at (length-set s.words (word_of c) n') (kept.word_first t b s.words c n') (λ z ne. kept.same_else t b s.words c n' z ne)
            refl (λ _ _. refl) (λ _ _. refl) (kept.alone t b s r id v at c has) (λ _ _ h. h) (λ z ne. times_else z c v.pins ne) refl refl (λ _ h. h)
            record {
              base_is = ok.base_is;
              unseen = ok.unseen;
              sees = ok.sees;
              told = ok.told;
              once = ok.once;
              apart = ok.apart;
              numbers = ok.numbers;
              acts = ok.acts;
              turns = λ z has_z. let u = ok.turns z has_z in (u.0, dite (ℕ_discrete z c) (λ (e : z ≡ c). ap (λ (q : ℕ). get_or ws (word_of q) 0 % 2) e ∙ busy_now) (λ (ne : z ≢ c). (kept.same_else t b s.words c n' z ne).0 ∙ u.1), u.2, u.3);
              clean = λ z has_z. let u = ok.clean z has_z in (
                u.0,
                dite (ℕ_discrete z c)
                    (λ (e : z ≡ c). ap (λ (q : ℕ). get_or ws (word_of q) 0 / 256) e ∙ (pins ∙ (ap (λ (q : ℕ). q + 1) (ap (λ (q : ℕ). get_or s.words (word_of q) 0 / 256) (sym e) ∙ (u.1 ∙ ap (λ (q : ℕ). times q v.pins) e)) ∙ (sym one ∙ ap (λ (q : ℕ). times q w.pins) (sym e)))))
                    (λ (ne : z ≢ c). (kept.same_else t b s.words c n' z ne).1 ∙ (u.1 ∙ sym (times_else z c v.pins ne))),
              );
              covered = λ k has_k z. let u = ok.covered k has_k z in dite (ℕ_discrete z c)
                  (λ (e : z ≡ c). let q : times z w.pins ≡ times z v.pins + 1 = subst (λ (y : ℕ). times z (y ∷ v.pins) ≡ times z v.pins + 1) e (times_here z v.pins) in omega (arith, q, u))
                  (λ (ne : z ≢ c). let q = times_else z c v.pins ne in omega (arith, q, u));
              fits = omega (arith, room);
            }
            (λ _. record {
              free = λ e. absurd (omega (arith, busy_now, e));
              busy = λ _. (w, ap (get_elem? (set s.views id w)) y.2 ∙ set_here s.views id w (length_here s.views id v at), has);
              pins = let sums = total_set (λ (d : V). times c d.pins) s.views id v w at in let old = o.pins in omega (arith, pins, sums, old, one);
              low = let l = o.low in subst (λ (z : ℕ). z % 256 < 4) (sym now) (omega (arith, l));
            }),
        λ c' is'. let e : c ≡ c' = omega (arith, is') in λ i. (pinned v (e i), me.1),
      )

  -- a seat may take a pin off a cell where each of its numbers has fewer links than the seat has pins there
  pub pin_gone : (slots id : ℕ) (me : M) (c : ℕ) → c < length b.opening → 0 < times c me.0.pins → 0 < me.0.base.hands → ((k : ℕ) → Has k me.0.numbers → linked t me.0.base.grounds me.0.seen k c < times c me.0.pins)
      → Allows Rule slots id me (word_of c) (λ n. (n + (18446744073709551616 - 256)) % 18446744073709551616) (unpins_one t (at_step slots (word_of c) 256 0 none) me)
  pin_gone slots id me c inside some_pin alive uncovered s r deep at small = let v : V = me.0 in let w : V = unpinned v c in let ok = r.each_seat id v at in
      let n : ℕ = get_or s.words (word_of c) 0 in let n' : ℕ = (n + (18446744073709551616 - 256)) % 18446744073709551616 in let ws : List ℕ = set s.words (word_of c) n' in let wide = r.wide in
      let o = r.each_cell c inside in let old = o.pins in let mine = total_one (λ (d : V). times c d.pins) s.views id v at in let some_there : 256 ≤ n = omega (arith, old, mine, some_pin) in
      let is : n' + 256 ≡ n = one_fewer n small some_there in
      let now : get_or ws (word_of c) 0 + 256 ≡ n = let z = get_or-set_same s.words (word_of c) n' 0 (omega arith) in ap (λ (q : ℕ). q + 256) z ∙ is in
      let same : get_or ws (word_of c) 0 % 2 ≡ n % 2 = omega (arith, now) in
      let pins : get_or ws (word_of c) 0 / 256 + 1 ≡ n / 256 = omega (arith, now) in let one = less_here c v.pins some_pin in
      let same_odd : (z : ℕ) → get_or ws (word_of z) 0 % 2 ≡ get_or s.words (word_of z) 0 % 2 = (λ z. dite (ℕ_discrete z c) (λ (e : z ≡ c). subst (λ (q : ℕ). get_or ws (word_of q) 0 % 2 ≡ get_or s.words (word_of q) 0 % 2) (sym e) same) (λ (ne : z ≢ c). (kept.same_else t b s.words c n' z ne).0)) in (
        w,
        keeps,
        tt,
        kept.turned t b s r id v w ws s.homes r.holder at (length-set s.words (word_of c) n') (kept.word_first t b s.words c n') refl refl refl (λ _ h. h)
            record {
              base_is = ok.base_is;
              unseen = ok.unseen;
              sees = ok.sees;
              told = ok.told;
              once = ok.once;
              apart = ok.apart;
              numbers = ok.numbers;
              acts = ok.acts;
              turns = λ z has_z. let u = ok.turns z has_z in (u.0, same_odd z ∙ u.1, u.2, u.3);
              clean = λ z has_z. let u = ok.clean z has_z in (
                u.0,
                dite (ℕ_discrete z c)
                    (λ (e : z ≡ c). let mine' : n / 256 ≡ times c v.pins = subst (λ (q : ℕ). get_or s.words (word_of q) 0 / 256 ≡ times q v.pins) e u.1 in
                    subst (λ (q : ℕ). get_or ws (word_of q) 0 / 256 ≡ times q w.pins) (sym e) (omega (arith, mine', pins, one)))
                    (λ (ne : z ≢ c). (kept.same_else t b s.words c n' z ne).1 ∙ (u.1 ∙ sym (less_else c z v.pins ne))),
              );
              covered = λ k has_k z. dite (ℕ_discrete z c)
                  (λ (e : z ≡ c). let gr : v.base.grounds ≡ b.grounds = ap (λ (z : Base Q G). z.grounds) (ok.base_is alive) in let u = subst (λ (z : G). linked t z v.seen k c < times c v.pins) gr (uncovered k has_k) in subst (λ (q : ℕ). linked t b.grounds v.seen k q ≤ times q w.pins) (sym e) (omega (arith, u, one)))
                  (λ (ne : z ≢ c). let u = ok.covered k has_k z in let q = less_else c z v.pins ne in omega (arith, u, q));
              fits = le_trans (less_length c v.pins) ok.fits;
            }
            (λ j d other there. let k = r.each_seat j d there in kept.ok_again t b r.history s.words ws s.homes s.homes r.holder r.holder r.owner j d k (λ z _. (same_odd z, refl, refl))
            (λ z has_z. dite (ℕ_discrete z c)
            (λ (e : z ≡ c). let theirs : n / 256 ≡ times c d.pins = subst (λ (q : ℕ). get_or s.words (word_of q) 0 / 256 ≡ times q d.pins) e ((k.clean z has_z).1) in
            let two = total_two (λ (x : V). times c x.pins) s.views id j v d (λ q. other (sym q)) at there in absurd (omega (arith, theirs, two, old, some_pin)))
            (λ (ne : z ≢ c). (kept.same_else t b s.words c n' z ne).1)))
            (λ z inside_z. dite (ℕ_discrete z c)
            (λ (e : z ≡ c). subst (kept.Cell t b r.history ws s.homes (set s.views id w) r.holder) (sym e)
            (kept.cell_turned t b s r id v w ws s.homes r.holder c at inside same refl refl (λ h. h) (let sums = total_set (λ (d : V). times c d.pins) s.views id v w at in omega (arith, pins, sums, old, one)) (let l = o.low in omega (arith, now, l))))
            (λ (ne : z ≢ c). kept.cell_again t b s r id v w ws s.homes r.holder z at inside_z (kept.same_else t b s.words c n' z ne) refl refl (λ h. h) (less_else c z v.pins ne))),
        λ c' is'. let e : c ≡ c' = omega (arith, is') in λ i. (unpinned v (e i), me.1),
      )

  module _ (local : IsLocal t) where
    -- no hand has a link on a cell that was taken without pins, where the seat has none
    bare_is : (s : St) (r : Rule s) (id : ℕ) (v : V) (at : get_elem? s.views id ≡ some v) (c : ℕ) → Has c v.clean → ((k : ℕ) → Has k v.numbers → linked t b.grounds v.seen k c ≡ 0) → (k : ℕ) → linked t b.grounds r.history k c ≡ 0
    bare_is s r id v at c cleaned unlinked k = let l : ℕ = linked t b.grounds r.history k c in let ok = r.each_seat id v at in let x = ok.clean c cleaned in let y = ok.turns c x.0 in dite (ℕ_discrete l 0) (λ z. z)
        (λ ne. ⊎_elim (λ (z : 0 < no_link k c). absurd (omega arith)) (λ (z : (0 < k) × (k ≤ b.hands)). let o = r.owned k z.0 z.1 in dite (ℕ_discrete (r.owner k) id)
        (λ (e : r.owner k ≡ id). let same : v ≡ o.0 = some-injective v o.0 (sym at ∙ (ap (get_elem? s.views) (sym e) ∙ o.1)) in let mine : Has k v.numbers = subst (λ (d : V). Has k d.numbers) (sym same) o.2 in
        kept.kept_links t b s r id v at k mine c ∙ unlinked k mine)
        (λ (other : r.owner k ≢ id). let d : V = o.0 in let is = kept.kept_links t b s r (r.owner k) d o.1 k o.2 c in let cover = (r.each_seat (r.owner k) d o.1).covered k o.2 c in
        let two = total_two (λ (q : V). times c q.pins) s.views id (r.owner k) v d (λ q. other (sym q)) at o.1 in let sums = (r.each_cell c y.0).pins in let here_is = x.1 in omega (arith, is, cover, two, sums, here_is)))
        (linked_signed t b.grounds no_link b.hands r.history r.signed k c (omega arith)))

    -- an event that may follow what the seat has seen may follow the whole history
    follows : (s : St) (r : Rule s) (id : ℕ) (v : V) (at : get_elem? s.views id ≡ some v) → 0 < v.base.hands → (e : E) → SeatCanStamp t v e → MayFollow t b.grounds (made t b r.history) (linked t b.grounds r.history) e
    follows s r id v at alive e can = let ok = r.each_seat id v at in let f : ℕ → Q = made t v.base v.seen in let f' : ℕ → Q = made t b r.history in let gr : v.base.grounds ≡ b.grounds = ap (λ (z : Base Q G). z.grounds) (ok.base_is alive) in record {
      cells = can.cells ∙ ap (λ (z : G). t.foot z e.entry) gr;
      steps = local b.grounds e.entry f (put e.kept f) f' (put e.kept f') (λ c in_foot. (kept.kept_part t b s r id v at alive c (can.held c (subst (λ (z : G). Has c (t.foot z e.entry)) (sym gr) in_foot)), put_same e.kept f' f c (subst (Has c) (sym can.cells) (subst (λ (z : G). Has c (t.foot z e.entry)) (sym gr) in_foot))))
          (subst (λ (g : G). t.step g e.entry f (put e.kept f)) (ap (λ (z : Base Q G). z.grounds) (ok.base_is alive)) can.steps);
      bare = λ c has. let x = can.bare c (subst (λ (z : G). Has c (t.bare z e.entry)) (sym gr) has) in bare_is s r id v at c x.0 (λ k h. ap (λ (z : G). linked t z v.seen k c) (sym gr) ∙ x.1 k h);
      there = λ c is. let q = kept.kept_links t b s r id v at (t.who e.entry) can.own c in let p = subst (λ (z : G). 0 < linked t z v.seen (t.who e.entry) c) gr (can.takes_link c (ap (λ (z : G). t.tie z e.entry) gr ∙ is)) in omega (arith, q, p);
    }

    abbrev first_or : E → List E → E
    first_or d [] = d
    first_or d (x ∷ xs) = x

    -- a seat may stamp an entry for which it has the turns and all else that is asked: the history grows by it, and word 0 by one
    pub stamps_event : (slots id : ℕ) (me : M) (asked : List E) (e : E) → asked ≡ e ∷ [] → b.hands * b.each < 18446744073709551616 → SeatCanStamp t me.0 e → 0 < me.0.base.hands
        → Allows Rule slots id me 0 (λ n. (n + 1) % 18446744073709551616) (stamps_one t asked (at_step slots 0 1 0 none) me)
    stamps_event slots id me asked e asks bound can alive s r deep at small = let v : V = me.0 in let ok = r.each_seat id v at in let w : V = stamped v ok.unseen e in
        let h : List E = r.history in let h' : List E = h ++ e ∷ [] in let n : ℕ = get_or s.words 0 0 in let top : ℕ = (n + 1) % 18446744073709551616 in let ws : List ℕ = set s.words 0 top in
        let wide = r.wide in let stamps = r.stamps in let room = kept.room_of t b s r id v at in let some_left = can.left in let all = kept.sees_all t b s r id v ok alive in
        let next : top ≡ n + 1 = mod-eq_of_lt (omega arith) in
        let may = follows s r id v at alive e can in
        let same : (k : ℕ) → kept.SameWord t b ws s.words k = (λ k. let z = get_or-set_other s.words 0 (word_of k) top 0 (λ q. omega arith) in (ap (λ (y : ℕ). y % 2) z, ap (λ (y : ℕ). y / 256) z, subst (λ (y : ℕ). y % 256 < 4) (sym z))) in
        let longer : length h' ≡ length h + 1 = length-append h (e ∷ []) in
        let legal : LegalFrom t b.grounds (opened t b) no_link h' = legal_append t b.grounds (opened t b) no_link h (e ∷ []) r.legal (may, tt) in
        let seen_is : v.seen ++ ok.unseen ≡ h = sym ok.sees in let seen_then : (v.seen ++ ok.unseen) ++ e ∷ [] ≡ h' = ap (λ (z : List E). z ++ e ∷ []) seen_is in
        let sums = total_set (λ (d : V). d.left) s.views id v w at in let total_room = r.room in (
          w,
          keeps,
          tt,
          record {
            history = h';
            holder = r.holder;
            owner = r.owner;
            wide = length-set s.words 0 top ∙ r.wide;
            deep = r.deep;
            stamps = get_or-set_same s.words 0 top 0 (omega arith) ∙ (next ∙ (ap (λ (y : ℕ). y + 1) stamps ∙ sym longer));
            legal = legal;
            signed = signed_append t b.hands h (e ∷ []) r.signed (let z = ok.numbers (t.who e.entry) can.own in (z.1, z.2), tt);
            room = omega (arith, longer, sums, total_room, some_left);
            pins = let z = total_same (λ (d : V). d.most) s.views id v w at refl in let y = r.pins in omega (arith, z, y);
            owned = λ k l m. let o = r.owned k l m in kept.still t b (λ (d : V). Has k d.numbers) s.views id (r.owner k) v w o.0 at o.1 o.2 (λ z. z);
            each_seat = kept.every t b (SeatOk t b h' ws s.homes r.holder r.owner) s.views id w
                record {
                  base_is = ok.base_is;
                  unseen = [];
                  sees = sym seen_then ∙ sym (append-nil ((v.seen ++ ok.unseen) ++ e ∷ []));
                  told = (ok.told.0 ++ e ∷ [], ap (λ (z : List E). z ++ e ∷ []) ok.told.1 ∙ append_assoc v.told ok.told.0 (e ∷ []));
                  once = ok.once;
                  apart = tt;
                  numbers = ok.numbers;
                  acts = ok.acts;
                  turns = λ c has. let x = ok.turns c has in (x.0, (same c).0 ∙ x.1, x.2, x.3);
                  clean = λ c has. let x = ok.clean c has in (x.0, (same c).1 ∙ x.1);
                  covered = λ k has c. let before = covered_all s r id v at k has c in let l : ℕ → ℕ → ℕ = linked t b.grounds (v.seen ++ ok.unseen) in
                      let is : linked t b.grounds w.seen k c ≡ tied_up (t.who e.entry) (t.tie b.grounds e.entry) l k c = ap (λ (z : ℕ → ℕ → ℕ). z k c) (linked_append t b.grounds no_link (v.seen ++ ok.unseen) (e ∷ [])) in
                      subst (λ (z : ℕ). z ≤ times c v.pins) (sym is) (tied_below (t.who e.entry) (t.tie b.grounds e.entry) l k c (times c v.pins) before (λ k_is adds_c. let gr : v.base.grounds ≡ b.grounds = ap (λ (z : Base Q G). z.grounds) (ok.base_is alive) in let m = subst (λ (z : G). linked t z v.seen (t.who e.entry) c < times c v.pins) gr (can.adds_link c (ap (λ (z : G). t.tie z e.entry) gr ∙ adds_c)) in
                      let q : l k c ≡ linked t b.grounds v.seen k c = ap (λ (z : List E). linked t b.grounds z k c) seen_is ∙ kept.kept_links t b s r id v at k has c in
                      let q' : linked t b.grounds v.seen k c ≡ linked t b.grounds v.seen (t.who e.entry) c = ap (λ (z : ℕ). linked t b.grounds v.seen z c) k_is in omega (arith, m, q, q')));
                  fits = ok.fits;
                }
                (λ j d other there. let k = r.each_seat j d there in record {
                  base_is = k.base_is;
                  unseen = k.unseen ++ e ∷ [];
                  sees = ap (λ (z : List E). z ++ e ∷ []) k.sees ∙ append_assoc d.seen k.unseen (e ∷ []);
                  told = (k.told.0 ++ e ∷ [], ap (λ (z : List E). z ++ e ∷ []) k.told.1 ∙ append_assoc d.told k.told.0 (e ∷ []));
                  once = k.once;
                  apart = apart_append t b.grounds d.numbers d.held k.unseen (e ∷ []) k.apart
                      ((λ has. other (sym ((k.numbers (t.who e.entry) has).0) ∙ (ok.numbers (t.who e.entry) can.own).0)), (λ c has in_foot. kept.alone t b s r id v at c (can.held c (subst (λ (z : G). Has c (t.foot z e.entry)) (sym (ap (λ (z : Base Q G). z.grounds) (ok.base_is alive))) in_foot)) j d other there has), tt);
                  numbers = k.numbers;
                  acts = k.acts;
                  turns = λ c has. let x = k.turns c has in (x.0, (same c).0 ∙ x.1, x.2, x.3);
                  clean = λ c has. let x = k.clean c has in (x.0, (same c).1 ∙ x.1);
                  covered = k.covered;
                  fits = k.fits;
                });
            each_cell = λ c inside. let o = r.each_cell c inside in record {
              free = λ even. let x = o.free (sym ((same c).0) ∙ even) in let not_in : Has c (map (λ k. k.0) e.kept) → ⊥ = (λ q. let u = ok.turns c (can.held c (subst (Has c) can.cells q)) in let odd = u.1 in let even' : get_or s.words (word_of c) 0 % 2 ≡ 0 = sym ((same c).0) ∙ even in omega (arith, odd, even')) in
                  (x.0, x.1, x.2 ∙ sym (ap (λ (f : ℕ → Q). f c) (made_append (opened t b) h (e ∷ [])) ∙ put_else e.kept (made t b h) c not_in));
              busy = λ odd. let x = o.busy (sym ((same c).0) ∙ odd) in kept.still t b (λ (d : V). Has c d.held) s.views id (r.holder c) v w x.0 at x.1 x.2 (λ z. z);
              pins = (same c).1 ∙ (o.pins ∙ sym (total_same (λ (d : V). times c d.pins) s.views id v w at refl));
              low = (same c).2 o.low;
            };
          },
          (λ e' is. let q : e ≡ e' = ap (first_or e) (sym asks ∙ is) in
              subst (λ (z : E). (more : List E) × (◌≡◌ {A = M} (w, me.1) (stamped v more z, me.1)) × SeesMore t v more × (n ≡ length (v.seen ++ more)) × Legal t v.base ((v.seen ++ more) ++ z ∷ []) × Room (stamped v more z)) q (
                ok.unseen,
                refl,
                all.0,
                stamps ∙ ap length (sym seen_is),
                subst (λ (z : Base Q G × List E). Legal t z.0 z.1) (λ i. (sym (ok.base_is alive) i, sym seen_then i)) legal,
                subst (λ (z : Base Q G × List E). length z.1 + (v.left - 1) ≤ z.0.hands * z.0.each) (λ i. (sym (ok.base_is alive) i, sym seen_then i)) (omega (arith, longer, room, some_left)),
              )),
        )
