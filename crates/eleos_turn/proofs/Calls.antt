-- What the steps of one call tell together.
use Rattle.std.proofs.Common.{◌≡◌, ◌≢◌, ◌⊎◌, ⊎_elim, append_assoc, ℕ, Bool, false, true, set, get_or-set_other, get_or-set_same, length-append, zero, suc, suc-mul, ◌-◌, ◌^◌, replicate, mul-le-mul, append-nil, Vec, Global, get_or, ◌+◌, ◌*◌, ◌%◌, ◌≤◌, ◌<◌, List, [], ◌∷◌, ◌++◌, length, map, sym, refl, ap, ◌∙◌, subst, inl, inr, arith, Option, Some, None}
use mathlib.Core.Option.{some}
use native.Mathlib.Decide.{dec_le, ℕ_discrete}
use mathlib.Core.Logic.{dite}
use mathlib.Core.Option.{some}
use mathlib.Core.Logic.{dite}
use native.Mathlib.Decide.{dec_le, ℕ_discrete}
use lib.ListN.{get_elem?, length-map}
use Rattle.atomic_table.proofs.Lists.{at_last}
use Rattle.atomic_table.specs.Table.{Me, rest}
use Rattle.atomic_table.specs.Seated.{TableId}
use Rattle.eleos_base.specs.declared.plot.Base.{Base}
use Rattle.eleos_base.specs.Terms.{Terms}
use Rattle.eleos_turn.specs.declared.view.View.{View}
use Rattle.eleos_turn.specs.declared.view.Key.{Key}
use Rattle.eleos_turn.specs.Views.{busied, moved, dealing, dealt_from, dealt_to, hand_of}
use Rattle.eleos_turn.specs.Plays.{Turn, SeatTook}
use Rattle.eleos_turn.specs.Words.{words_for}
use Rattle.eleos_turn.specs.Rule.{base_of, IsSized}
use Rattle.eleos_turn.specs.Numbers.{longer, shorter, most_pins}

-- a turnstile opens with as many parts as it was given cells
pub opening_length : {C D Q G : Type 0} (t : Terms C D Q G) (k : Key C G) → length (base_of t k).opening ≡ length k.cells.value.items
opening_length t k = length-map k.cells.value.items t.part

abbrev some_of : {A : Type 0} → A → Option A → A
some_of d (Some x) = x
some_of d None = d

module _ {C D Q G : Type 0} (t : Terms C D Q G) where
  abbrev M : Type 0
  M = Me (Option C) (View D Q G)

  -- the slot that was taken last is this one
  pub topmost : (m m' : M) (w : View D Q G) (c : ℕ) (y : Option C) → m' ≡ (w, (c, y) ∷ m.1) → m'.1 ≡ (c, y) ∷ rest m'.1
  topmost m m' w c y is = ap (λ (z : M). z.1) is ∙ ap (λ (z : List (ℕ × Option C)). (c, y) ∷ z) (sym (ap (λ (z : M). rest z.1) is))

  -- after the exchange the seat carries the new value in that slot alone
  pub exchanged : (m m' m'' : M) (w : View D Q G) (c : ℕ) (y z : Option C) → m.1 ≡ [] → m' ≡ (w, (c, y) ∷ m.1) → m'' ≡ (m'.0, (c, z) ∷ rest m'.1) → m'' ≡ (w, (c, z) ∷ [])
  exchanged m m' m'' w c y z none_out is ex = ex ∙ (λ i. ((is i).0, (c, z) ∷ rest ((is i).1))) ∙ (λ i. (w, (c, z) ∷ none_out i))

  abbrev second_or : Option C → List (ℕ × Option C) → Option C
  second_or y [] = y
  second_or y (x ∷ xs) = x.1

  -- what was exchanged is the value that the seat carried
  pub had : (m m' : M) (w : View D Q G) (c : ℕ) (y z : Option C) (l : List (ℕ × Option C)) → m' ≡ (w, (c, y) ∷ m.1) → m'.1 ≡ (c, z) ∷ l → z ≡ y
  had m m' w c y z l is found = ap (second_or z) (sym found ∙ ap (λ (t : M). t.1) is)

  -- a turn that came with its slot is taken with the value in it, once that slot is emptied and laid back
  pub took : (m m' m'' m₃ : M) (c n : ℕ) (slot : Option C) (x : C) → Turn t c n m m' → m.1 ≡ [] → m'.1 ≡ (c, slot) ∷ rest m'.1 → m'' ≡ (m'.0, (c, None) ∷ rest m'.1) → m₃ ≡ (moved m''.0 0, []) → slot ≡ Some x
      → SeatTook t c n m.0 x m₃.0
  took m m' m'' m₃ c n slot x y none_out found ex laid un = let w : View D Q G = busied m.0 y.0 c n in let w' : View D Q G = moved w 0 in
      let now : m'' ≡ (w, (c, None) ∷ []) = exchanged m m' m'' w c (Some y.1) None none_out y.2 ex in
      let last : m₃.0 ≡ w' = ap (λ (z : M). z.0) laid ∙ ap (λ (z : M). moved z.0 0) now in
      let same : x ≡ y.1 = ap (some_of x) (sym un ∙ had m m' w c (Some y.1) slot (rest m'.1) y.2 found) in
      subst (λ (z : View D Q G). SeatTook t c n m.0 x z) (sym last) (y.0, refl, y.3, ap t.part same ∙ y.4, y.5, y.6)

-- the hands after the first is dealt
pub next_left : {D Q G : Type 0} (b : Base Q G) (a m n : ℕ) → m ≡ suc n → dealt_from {D = D} (dealing b a m) ≡ dealing b (a + 1) n
next_left {D} {Q} {G} b a m n e = subst (λ (z : ℕ). dealt_from {D = D} (dealing b a z) ≡ dealing b (a + 1) n) (sym e)
    (let x : suc n * b.each - b.each ≡ n * b.each = let y = suc-mul n b.each in omega (arith, y) in let x' : suc n * most_pins - most_pins ≡ n * most_pins = omega arith in
    λ i. record (dealing b (a + 1) n) { left = x i; most = x' i })

-- the hand that is dealt next has the next number, and has done nothing
pub next_hand : {D Q G : Type 0} (b : Base Q G) (a m n : ℕ) → m ≡ suc n → dealt_to {D = D} (dealing b a m) ≡ hand_of b (a + 1)
next_hand {D} {Q} {G} b a m n e = subst (λ (z : ℕ). dealt_to {D = D} (dealing b a z) ≡ hand_of b (a + 1)) (sym e) refl

-- each word of a table of zeros is 0
pub all_zero : (n i : ℕ) → get_or {A = ℕ} (replicate n 0) i 0 ≡ 0
all_zero zero i = refl
all_zero (suc n) zero = refl
all_zero (suc n) (suc i) = all_zero n i

-- the table that was made has the sizes of its key
pub sized : {C G : Type 0} (z : TableId) (k k' : Key C G) (items : List C) (n m hands stamps : ℕ) → k ≡ k' → k'.cells.value.items ≡ items → z.words ≡ n → z.slots ≡ m → n ≡ words_for (length items) → m ≡ length items → k'.hands ≡ hands → k'.each ≡ stamps
    → hands ≤ 16 → stamps ≤ 2 ^ 40 → length items < 2 ^ 31 → IsSized z k
sized {C} {G} z k k' items n m hands stamps is cells words slots n_is m_is h e few low small = subst (λ (x : Key C G). IsSized z x) (sym is)
    (let count = ap length cells in let most = mul-le-mul few low in let p : k'.hands * k'.each ≡ hands * stamps = (λ i. h i * e i) in
    (omega (arith, words, n_is, count), omega (arith, slots, m_is, count), omega (arith, most, p), omega (arith, h, few), omega (arith, count, small)))

-- both lists begin the longer, if the shorter does
pub heard_both : {A : Type 0} (xs ys : List A) → (length (shorter xs ys) ≤ length (longer xs ys) → (more : List A) × (longer xs ys ≡ shorter xs ys ++ more))
    → ((more : List A) × (longer xs ys ≡ xs ++ more)) × ((more : List A) × (longer xs ys ≡ ys ++ more))
heard_both {A} xs ys h = dite (dec_le (suc (length xs)) (length ys))
    (λ lt. let b = Rattle.std.proofs.Common.lt-ltb (length xs) (length ys) lt in let l : longer xs ys ≡ ys = ap (λ z. Rattle.std.proofs.Common.cond z ys xs) b in let s : shorter xs ys ≡ xs = ap (λ z. Rattle.std.proofs.Common.cond z xs ys) b in
    let m = h (let p = ap length l in let q = ap length s in omega (arith, p, q, lt)) in ((m.0, m.1 ∙ ap (λ z. z ++ m.0) s), ([], l ∙ sym (append-nil ys))))
    (λ ge. let b = Rattle.std.proofs.Common.le-ltb (length xs) (length ys) (omega (arith, ge)) in let l : longer xs ys ≡ xs = ap (λ z. Rattle.std.proofs.Common.cond z ys xs) b in let s : shorter xs ys ≡ ys = ap (λ z. Rattle.std.proofs.Common.cond z xs ys) b in
    let m = h (let p = ap length l in let q = ap length s in omega (arith, p, q, ge)) in (([], l ∙ sym (append-nil xs)), (m.0, m.1 ∙ ap (λ z. z ++ m.0) s)))

front_get : {A : Type 0} (xs ys : List A) (k : ℕ) → k < length xs → get_elem? (xs ++ ys) k ≡ get_elem? xs k
front_get [] ys k l = absurd (omega arith)
front_get (x ∷ xs) ys zero l = refl
front_get (x ∷ xs) ys (suc k) l = front_get xs ys k (omega arith)

-- one slot more was taken out and put behind the others
pub one_out : {A : Type 0} (items xs ys : List A) (x : A) (i : ℕ) → length xs ≡ i → ((k : ℕ) → k < i → get_elem? xs k ≡ get_elem? items k) → get_elem? items i ≡ some x → ys ≡ xs ++ x ∷ []
    → (length ys ≡ i + 1) × ((k : ℕ) → k < i + 1 → get_elem? ys k ≡ get_elem? items k)
one_out {A} items xs ys x i long same at is = (
  ap length is ∙ (length-append xs (x ∷ []) ∙ ap (λ (n : ℕ). n + 1) long),
  λ k l. ap (λ (z : List A). get_elem? z k) is ∙ dite (ℕ_discrete k i)
      (λ (e : k ≡ i). ap (get_elem? (xs ++ x ∷ [])) e ∙ (at_last xs x i long ∙ (sym at ∙ ap (get_elem? items) (sym e))))
      (λ (ne : k ≢ i). front_get xs (x ∷ []) k (omega (arith, l, ne, long)) ∙ same k (omega (arith, l, ne))),
)

-- where the slots below i are empty and the others full, emptying slot i moves the border one on
pub one_empty : (fs gs : List Bool) (i n : ℕ) → i < length fs → gs ≡ set fs i false → ((k : ℕ) → i ≤ k → k < n → get_or fs k false ≡ true) → ((k : ℕ) → k < i → get_or fs k false ≡ false)
    → ((k : ℕ) → i + 1 ≤ k → k < n → get_or gs k false ≡ true) × ((k : ℕ) → k < i + 1 → get_or gs k false ≡ false)
one_empty fs gs i n inside is full empty = (
  (λ k l m. ap (λ (z : List Bool). get_or z k false) is ∙ (get_or-set_other fs i k false false (λ e. omega (arith, l, e)) ∙ full k (omega (arith, l)) m)),
  (λ k l. ap (λ (z : List Bool). get_or z k false) is ∙ dite (ℕ_discrete k i)
      (λ (e : k ≡ i). ap (λ (y : ℕ). get_or (set fs i false) y false) e ∙ get_or-set_same fs i false false inside)
      (λ (ne : k ≢ i). get_or-set_other fs i k false false ne ∙ empty k (omega (arith, l, ne)))),
)

-- a list of length 0 has nothing in it
pub nil_of : {A : Type 0} (xs : List A) → length xs ≡ 0 → xs ≡ []
nil_of [] e = refl
nil_of (x ∷ xs) e = absurd (omega arith)
