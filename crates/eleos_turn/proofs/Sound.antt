-- What holds of a hand stays so.
use Rattle.std.proofs.Common.{◌≡◌, min, ⊎_elim, inl, inr, ℕ, zero, suc, ◌+◌, ◌-◌, ◌*◌, ◌^◌, ◌<◌, ◌≤◌, List, [], ◌∷◌, ◌++◌, length, refl, sym, ap, ◌∙◌, subst, arith, le_refl, mul-le-mul, length-append}
use mathlib.Core.Logic.{dite}
use native.Mathlib.Decide.{ℕ_discrete, dec_le}
use Rattle.std.proofs.Math.Nat.{min-eq_left, min-eq_right}
use Rattle.eleos_base.specs.declared.plot.Event.{Event}
use Rattle.eleos_base.specs.Ties.{Has, adds}
use Rattle.eleos_base.specs.Terms.{Terms}
use Rattle.eleos_base.specs.Histories.{made, linked, no_link, Legal, Signed}
use Rattle.eleos_turn.specs.Numbers.{times, less_one, numbers_of, most_of, most_pins}
use Rattle.eleos_base.specs.Words.{pins_in}
use Rattle.eleos_turn.specs.Rule.{Apart}
use Rattle.eleos_turn.specs.Hands.{Home, HandState, fresh, split_of, with_turn, without_turn, with_pin, without_pin, looked_at, refused_at, links_on, entries, IsSound}
use Rattle.eleos_turn.proofs.Numbers.{tested, has_none, times_here, times_else, less_here, less_else, less_once, less_has, less_length, without_has, has_less}
use Rattle.eleos_turn.proofs.Histories.{linked_append, linked_apart, signed_append, tied_below}
use Rattle.eleos_turn.proofs.Owns.{own_more, own_last}

-- a hand of `make` stamps under its own number
pub numbers_made : (k : ℕ) → 0 < k → Has k (numbers_of k)
numbers_made zero l = absurd (omega (arith, l))
numbers_made (suc k) l = inl (omega arith)

-- no hand stamps under a number that is not its own
pub numbers_only : (k n : ℕ) → Has n (numbers_of k) → n ≡ k
numbers_only zero n h = absurd h
numbers_only (suc k) n h = ⊎_elim (λ (e : n ≡ k + 1). e ∙ omega arith) (λ (q : ⊥). absurd q) h

-- a hand of `make` may have as many pins as any may have
pub most_made : (k : ℕ) → 0 < k → most_of k ≡ most_pins
most_made zero l = absurd (omega (arith, l))
most_made (suc k) l = refl

module _ {C D Q G : Type 0} (t : Terms C D Q G) where
  -- entries of others change no link of the hand
  pub links_more : (s : HandState D Q G) (more : List (Event D Q)) (held : List ℕ) → 0 < s.number → Apart t s.home.base.grounds (numbers_of s.number) held more
      → (c : ℕ) → linked t s.home.base.grounds (s.seen ++ more) s.number c ≡ links_on t s c
  links_more s more held made a c = let g : G = s.home.base.grounds in ap (λ (f : ℕ → ℕ → ℕ). f s.number c) (linked_append t g no_link s.seen more)
      ∙ linked_apart t g (linked t g s.seen) (numbers_of s.number) held more a s.number (numbers_made s.number made) c

  -- the hand has seen more, which others did
  pub sound_more : (s : HandState D Q G) (more : List (Event D Q)) → IsSound t s → Apart t s.home.base.grounds (numbers_of s.number) s.turns more → Legal t s.home.base (s.seen ++ more)
      → Signed t s.home.base.hands (s.seen ++ more) → length (s.seen ++ more) + s.left ≤ s.home.base.hands * s.home.base.each → IsSound t (record s { seen = s.seen ++ more })
  sound_more s more k a legal signed room = record {
    alive = k.alive;
    small = k.small;
    stamps = k.stamps;
    named = k.named;
    legal = legal;
    signed = signed;
    room = room;
    counts = λ made. let q = ap length (own_more t s.home.base.grounds s.number (numbers_of s.number) s.turns s.seen more (numbers_made s.number made) a) in let z = k.counts made in omega (arith, q, z);
    covered = λ made c. let q = links_more s more s.turns made a c in let z = k.covered made c in omega (arith, q, z);
    turns = k.turns;
    once = k.once;
    clean = k.clean;
    few = k.few;
    missed = k.missed;
    idle = k.idle;
  }

  -- a turn was taken, after others did more
  pub sound_took : (s : HandState D Q G) (more : List (Event D Q)) (c n : ℕ) → IsSound t (record s { seen = s.seen ++ more }) → 0 < s.number → c < length s.home.base.opening → (Has c s.turns → ⊥) → IsSound t (with_turn s more c n)
  sound_took s more c n k made inside free = record {
    alive = k.alive;
    small = k.small;
    stamps = k.stamps;
    named = k.named;
    legal = k.legal;
    signed = k.signed;
    room = k.room;
    counts = k.counts;
    covered = k.covered;
    turns = λ d h. ⊎_elim (λ (e : d ≡ c). subst (λ (x : ℕ). x < length s.home.base.opening) (sym e) inside) (λ (q : Has d s.turns). k.turns d q) h;
    once = λ d. dite (ℕ_discrete d c)
        (λ e. let z : times d s.turns ≡ 0 = ap (λ (x : ℕ). times x s.turns) e ∙ has_none c s.turns free in let q : times d (c ∷ s.turns) ≡ times d s.turns + 1 = ap (λ (x : ℕ). times d (x ∷ s.turns)) (sym e) ∙ times_here d s.turns in omega (arith, z, q))
        (λ ne. let z = times_else d c s.turns ne in let o = k.once d in omega (arith, z, o));
    clean = λ d. tested (λ (l : List ℕ). Has d l → Has d (c ∷ s.turns)) (pins_in n) 0 (c ∷ s.clean) s.clean
        (λ e h. ⊎_elim (λ (q : d ≡ c). inl q) (λ (q : Has d s.clean). inr (k.clean d q)) h)
        (λ ne h. inr (k.clean d h));
    few = k.few;
    missed = k.missed;
    idle = λ z. absurd (omega (arith, z, made));
  }

  -- a turn was given back
  pub sound_given : (s : HandState D Q G) (c : ℕ) → IsSound t s → Has c s.turns → IsSound t (without_turn s c)
  sound_given s c k had = record {
    alive = k.alive;
    small = k.small;
    stamps = k.stamps;
    named = k.named;
    legal = k.legal;
    signed = k.signed;
    room = k.room;
    counts = k.counts;
    covered = k.covered;
    turns = λ d h. k.turns d (less_has c d s.turns (k.once c) h).0;
    once = λ d. less_once c d s.turns (k.once d);
    clean = λ d h. let q = without_has c d s.clean h in has_less c d s.turns (k.clean d q.0) q.1;
    few = k.few;
    missed = k.missed;
    idle = λ z. absurd (subst (Has c) (k.idle z).0 had);
  }

  -- an entry was stamped, behind all that was seen
  pub sound_entry : (s : HandState D Q G) (e : Event D Q) → IsSound t s → t.who e.entry ≡ s.number → 0 < s.left
      → ((c : ℕ) → t.tie s.home.base.grounds e.entry ≡ adds c → links_on t s c < times c s.pins)
      → Legal t s.home.base (s.seen ++ e ∷ []) → IsSound t (record s { seen = s.seen ++ e ∷ []; left = s.left - 1 })
  sound_entry s e k by some_left adds_link legal = let g : G = s.home.base.grounds in
      let made : 0 < s.number = dite (ℕ_discrete s.number 0) (λ z. let q = (k.idle z).2 in absurd (omega (arith, q, some_left))) (λ ne. omega (arith, ne)) in record {
        alive = k.alive;
        small = k.small;
        stamps = k.stamps;
        named = k.named;
        legal = legal;
        signed = signed_append t s.home.base.hands s.seen (e ∷ []) k.signed ((subst (λ (w : ℕ). 0 < w) (sym by) made, subst (λ (w : ℕ). w ≤ s.home.base.hands) (sym by) k.named), tt);
        room = let r = k.room in let l = length-append s.seen (e ∷ []) in omega (arith, r, l, some_left);
        counts = λ _. let q = ap length (own_last t s.number (length s.seen) s.seen e by refl) in let l = length-append (entries t s) ((length s.seen, e.entry) ∷ []) in let z = k.counts made in omega (arith, q, l, z, some_left);
        covered = λ _ c. subst (λ (n : ℕ). n ≤ times c s.pins) (sym (ap (λ (f : ℕ → ℕ → ℕ). f s.number c) (linked_append t g no_link s.seen (e ∷ []))))
            (tied_below (t.who e.entry) (t.tie g e.entry) (linked t g s.seen) s.number c (times c s.pins) (k.covered made c) (λ _ is. adds_link c is));
        turns = k.turns;
        once = k.once;
        clean = k.clean;
        few = k.few;
        missed = k.missed;
        idle = λ z. absurd (omega (arith, z, made));
      }

  -- a pin was put on c, or taken off
  pub sound_pin : (s : HandState D Q G) (c : ℕ) → IsSound t s → 0 < s.number → length s.pins < most_pins → IsSound t (with_pin s c)
  sound_pin s c k made few = record {
    alive = k.alive;
    small = k.small;
    stamps = k.stamps;
    named = k.named;
    legal = k.legal;
    signed = k.signed;
    room = k.room;
    counts = k.counts;
    covered = λ m d. let z = k.covered m d in dite (ℕ_discrete d c)
        (λ e. let q : times d (c ∷ s.pins) ≡ times d s.pins + 1 = ap (λ (x : ℕ). times d (x ∷ s.pins)) (sym e) ∙ times_here d s.pins in omega (arith, z, q))
        (λ ne. let q = times_else d c s.pins ne in omega (arith, z, q));
    turns = k.turns;
    once = k.once;
    clean = k.clean;
    few = let q = most_made s.number made in omega (arith, q, few);
    missed = k.missed;
    idle = λ z. absurd (omega (arith, z, made));
  }

  -- a pin was taken off a cell with more pins of the hand than links
  pub sound_unpin : (s : HandState D Q G) (c : ℕ) → IsSound t s → links_on t s c < times c s.pins → IsSound t (without_pin s c)
  sound_unpin s c k more = let some : 0 < times c s.pins = omega (arith, more) in record {
    alive = k.alive;
    small = k.small;
    stamps = k.stamps;
    named = k.named;
    legal = k.legal;
    signed = k.signed;
    room = k.room;
    counts = k.counts;
    covered = λ m d. let z = k.covered m d in dite (ℕ_discrete d c)
        (λ e. let q = less_here c s.pins some in subst (λ (x : ℕ). links_on t s x ≤ times x (less_one c s.pins)) (sym e) (omega (arith, q, more)))
        (λ ne. let q = less_else c d s.pins ne in omega (arith, z, q));
    turns = k.turns;
    once = k.once;
    clean = k.clean;
    few = let q = less_length c s.pins in let f = k.few in omega (arith, q, f);
    missed = k.missed;
    idle = λ z. let i = k.idle z in let q = ap (times c) i.1 in absurd (omega (arith, q, some));
  }

  -- a word was found by a look
  pub sound_looked : (s : HandState D Q G) (c n : ℕ) → IsSound t s → IsSound t (looked_at s c n)
  sound_looked s c n k = record {
    alive = k.alive;
    small = k.small;
    stamps = k.stamps;
    named = k.named;
    legal = k.legal;
    signed = k.signed;
    room = k.room;
    counts = k.counts;
    covered = k.covered;
    turns = k.turns;
    once = k.once;
    clean = k.clean;
    few = k.few;
    missed = k.missed;
    idle = k.idle;
  }

  -- a count that stops at its greatest, after one more
  one_missed : (m count most : ℕ) → count ≡ min m most → min (count + 1) most ≡ min (m + 1) most
  one_missed m count most is = dite (dec_le m most)
      (λ below. ap (λ (n : ℕ). min (n + 1) most) (is ∙ min-eq_left below))
      (λ over. ap (λ (n : ℕ). min (n + 1) most) (is ∙ min-eq_right (omega (arith, over))) ∙ (min-eq_right (omega arith) ∙ sym (min-eq_right (omega (arith, over)))))

  -- a word was found by a try, which showed the cell busy
  pub sound_refused : (s : HandState D Q G) (c n : ℕ) → IsSound t s → IsSound t (refused_at s c n)
  sound_refused s c n k = record {
    alive = k.alive;
    small = k.small;
    stamps = k.stamps;
    named = k.named;
    legal = k.legal;
    signed = k.signed;
    room = k.room;
    counts = k.counts;
    covered = k.covered;
    turns = k.turns;
    once = k.once;
    clean = k.clean;
    few = k.few;
    missed = one_missed s.misses s.refused.count (2 ^ 64 - 1) k.missed;
    idle = k.idle;
  }

  pub sound_split : (s : HandState D Q G) → IsSound t s → IsSound t (split_of s)
  sound_split s k = record {
    alive = k.alive;
    small = k.small;
    stamps = k.stamps;
    named = omega arith;
    legal = k.legal;
    signed = k.signed;
    room = let r = k.room in omega (arith, r);
    counts = λ m. absurd (omega (arith, m));
    covered = λ m. absurd (omega (arith, m));
    turns = λ c h. absurd h;
    once = λ c. omega arith;
    clean = λ c h. h;
    few = le_refl 0;
    missed = refl;
    idle = λ _. (refl, refl, refl);
  }

  -- a hand that was just dealt is sound
  pub sound_fresh : (z : Home Q G) (k : ℕ) → 0 < k → k ≤ z.base.hands → length z.base.opening < 2 ^ 31 → z.base.each < 2 ^ 64 → IsSound t (fresh {D = D} z k)
  sound_fresh z k made named small stamps = record {
    alive = omega (arith, made, named);
    small = small;
    stamps = stamps;
    named = named;
    legal = tt;
    signed = tt;
    room = let one : 1 ≤ z.base.hands = omega (arith, made, named) in let q : 1 * z.base.each ≤ z.base.hands * z.base.each = mul-le-mul one (le_refl z.base.each) in omega (arith, q);
    counts = λ _. omega arith;
    covered = λ _ c. omega arith;
    turns = λ c h. absurd h;
    once = λ c. omega arith;
    clean = λ c h. h;
    few = let q = most_made k made in omega (arith, q);
    missed = refl;
    idle = λ e. absurd (omega (arith, e, made));
  }
