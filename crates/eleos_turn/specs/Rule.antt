-- The rule of the table: word 0 is the length of one legal history, of which each seat has seen a beginning.
use Rattle.std.specs.Prelude.{◌≡◌, ◌≢◌, ℕ, ◌+◌, ◌*◌, ◌/◌, ◌%◌, ◌^◌, ◌<◌, ◌≤◌, List, [], ◌∷◌, ◌++◌, map, length, slice_index, Option, Some, None}
use mathlib.Core.Option.{some}
use mathlib.Core.Option as maybe
use lib.ListN.{get_elem?}
use Rattle.atomic_table.specs.Table.{State, Me}
use Rattle.atomic_table.specs.Seated.{TableId}
use Rattle.eleos_base.specs.declared.plot.Event.{Event}
use Rattle.eleos_base.specs.declared.plot.Base.{Base}
use Rattle.eleos_base.specs.Ties.{Has}
use Rattle.eleos_base.specs.Terms.{Terms}
use Rattle.eleos_base.specs.Histories.{made, linked, Legal, Signed}
use Rattle.eleos_turn.specs.declared.view.View.{View}
use Rattle.eleos_turn.specs.declared.view.Key.{Key}
use Rattle.eleos_turn.specs.Numbers.{times, total, most_pins}
use Rattle.eleos_turn.specs.Words.{word_of, words_for}

-- the value that was told
abbrev pub told_in : {G : Type 0} → G → List G → G
told_in none [] = none
told_in none (told ∷ others) = told

module _ {C D Q G : Type 0} (t : Terms C D Q G) where
  -- no entry of the list is of one of these numbers, or touches one of these cells
  abbrev pub Apart : G → List ℕ → List ℕ → List (Event D Q) → Type 0
  Apart g numbers held [] = Unit {0}
  Apart g numbers held (e ∷ es) = (Has (t.who e.entry) numbers → ⊥) × ((c : ℕ) → Has c held → Has c (t.foot g e.entry) → ⊥) × Apart g numbers held es

  -- what was fixed, as the key of the table says
  abbrev pub base_of : Key C G → Base Q G
  base_of k = record { grounds = told_in t.nowhere k.grounds.value.me.0; opening = map t.part k.cells.value.items; hands = k.hands; each = k.each }

  -- a seat that was joined into another
  abbrev pub gone : View D Q G
  gone = record { base = record { grounds = t.nowhere; opening = []; hands = 0; each = 0 }; numbers = []; seen = []; held = []; clean = []; moving = 0; pins = []; told = []; looked = (0, 0); looks = 0; tried = (0, 0); misses = 0; left = 0; most = 0 }

  -- what the seat j knows is so
  pub record SeatOk (b : Base Q G) (h : List (Event D Q)) (words : List ℕ) (homes : List (maybe.Option (Option C))) (holder owner : ℕ → ℕ) (j : ℕ) (v : View D Q G) : Type 0 where
    pub base_is : 0 < v.base.hands → v.base ≡ b
    pub unseen : List (Event D Q)
    pub sees : h ≡ v.seen ++ unseen
    pub told : (more : List (Event D Q)) × (h ≡ v.told ++ more)
    pub apart : Apart b.grounds v.numbers v.held unseen
    pub numbers : (n : ℕ) → Has n v.numbers → (owner n ≡ j) × (0 < n) × (n ≤ b.hands)
    pub once : (c : ℕ) → times c v.held ≤ 1
    pub acts : (c : ℕ) → Has c v.held → (n : ℕ) × Has n v.numbers
    pub turns : (c : ℕ) → Has c v.held → (c < length b.opening) × (slice_index words (word_of c) % 2 ≡ 1) × (holder c ≡ j) × (v.moving ≢ c + 1 → get_elem? homes c ≡ some (some None))
    pub clean : (c : ℕ) → Has c v.clean → Has c v.held × (slice_index words (word_of c) / 256 ≡ times c v.pins)
    pub covered : (k : ℕ) → Has k v.numbers → (c : ℕ) → linked t b.grounds v.seen k c ≤ times c v.pins
    pub fits : length v.pins ≤ v.most

  -- the cell c is at home and what the history made of it, or one seat has its turn
  pub record CellOk (b : Base Q G) (h : List (Event D Q)) (words : List ℕ) (homes : List (maybe.Option (Option C))) (views : List (View D Q G)) (holder : ℕ → ℕ) (c : ℕ) : Type 0 where
    pub free : slice_index words (word_of c) % 2 ≡ 0 → (x : C) × (get_elem? homes c ≡ some (some (Some x))) × (t.part x ≡ made t b h c)
    pub busy : slice_index words (word_of c) % 2 ≡ 1 → (v : View D Q G) × (get_elem? views (holder c) ≡ some v) × Has c v.held
    pub pins : slice_index words (word_of c) / 256 ≡ total (λ v. times c v.pins) views
    pub low : slice_index words (word_of c) % 256 < 4

  -- there is one legal history, of the length in word 0, and each seat has seen a beginning of it
  pub record Kept (b : Base Q G) (s : State (Option C) (View D Q G)) : Type 0 where
    pub history : List (Event D Q)
    pub holder : ℕ → ℕ
    pub owner : ℕ → ℕ
    pub wide : length s.words ≡ words_for (length b.opening)
    pub deep : length s.homes ≡ length b.opening
    pub stamps : slice_index s.words 0 ≡ length history
    pub legal : Legal t b history
    pub signed : Signed t b.hands history
    pub room : length history + total (λ v. v.left) s.views ≤ b.hands * b.each
    pub pins : total (λ v. v.most) s.views ≤ b.hands * most_pins
    pub owned : (n : ℕ) → 0 < n → n ≤ b.hands → (v : View D Q G) × (get_elem? s.views (owner n) ≡ some v) × Has n v.numbers
    pub each_seat : (j : ℕ) (v : View D Q G) → get_elem? s.views j ≡ some v → SeatOk b history s.words s.homes holder owner j v
    pub each_cell : (c : ℕ) → c < length b.opening → CellOk b history s.words s.homes s.views holder c

  -- the view of a badge, which has one
  abbrev pub only_view : List (View D Q G) → View D Q G
  only_view [] = gone
  only_view (v ∷ vs) = v

-- a seat that carries no slot
abbrev pub IsAtRest : {S D Q G : Type 0} → Me S (View D Q G) → Type 0
IsAtRest m = (m.1 ≡ []) × (m.0.moving ≡ 0)

-- the turnstile's table has words for so many cells and the history, and a slot for each cell
abbrev pub IsSized : {C G : Type 0} → TableId → Key C G → Type 0
IsSized z k = (z.words ≡ words_for (length k.cells.value.items)) × (z.slots ≡ length k.cells.value.items) × (k.hands * k.each < 2 ^ 64) × (k.hands ≤ 16) × (length k.cells.value.items < 2 ^ 31)
