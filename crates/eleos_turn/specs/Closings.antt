-- The hands that a turnstile needs to be closed.
use Rattle.std.specs.Prelude.{◌≡◌, ◌⊎◌, ℕ, ◌+◌, ◌<◌, ◌≤◌, List, [], ◌∷◌, ◌++◌, length, Option, Some}
use mathlib.Core.Option.{some}
use lib.ListN.{get_elem?}
use Rattle.eleos_base.specs.declared.plot.Event.{Event}
use Rattle.eleos_base.specs.Terms.{Terms}
use Rattle.eleos_turn.specs.Hands.{Home, HandState, links, own, entries, part_of, IsSound}

module _ {D Q G : Type 0} where
  -- all hands are of this turnstile
  abbrev pub AllOf : Home Q G → List (HandState D Q G) → Type 0
  AllOf z [] = Unit {0}
  AllOf z (s ∷ ss) = (s.home ≡ z) × AllOf z ss

  -- one of the hands has the number n
  abbrev pub HasNumber : ℕ → List (HandState D Q G) → Type 0
  HasNumber n [] = ⊥
  HasNumber n (s ∷ ss) = (n ≡ s.number) ⊎ HasNumber n ss

  -- what each hand has seen begins this
  abbrev pub AllBegin : List (Event D Q) → List (HandState D Q G) → Type 0
  AllBegin h [] = Unit {0}
  AllBegin h (s ∷ ss) = ((more : List (Event D Q)) × (h ≡ s.seen ++ more)) × AllBegin h ss

  -- the stamps that the hands have left
  abbrev pub left_of : List (HandState D Q G) → ℕ
  left_of [] = 0
  left_of (s ∷ ss) = s.left + left_of ss

module _ {C D Q G : Type 0} (t : Terms C D Q G) where
  -- a hand of `make` that has no turn and no link
  pub record IsDone (s : HandState D Q G) : Type 0 where
    pub made : 0 < s.number
    pub turns : s.turns ≡ []
    pub links : links t s ≡ []

  -- all hands are such
  abbrev pub AllDone : List (HandState D Q G) → Type 0
  AllDone [] = Unit {0}
  AllDone (s ∷ ss) = IsDone s × AllDone ss

  -- each hand is sound
  abbrev pub AllSound : List (HandState D Q G) → Type 0
  AllSound [] = Unit {0}
  AllSound (s ∷ ss) = IsSound t s × AllSound ss

  -- these are the n hands of `make`, and none has a turn or a link
  pub record IsWhole (n : ℕ) (ss : List (HandState D Q G)) : Type 0 where
    pub count : length ss ≡ n
    pub each : (k : ℕ) → 0 < k → k ≤ n → HasNumber k ss
    pub done : AllDone ss

  -- the entries of each hand in this history are those that it had seen
  abbrev pub AllOwn : List (Event D Q) → List (HandState D Q G) → Type 0
  AllOwn h [] = Unit {0}
  AllOwn h (s ∷ ss) = (own t s.number 0 h ≡ entries t s) × AllOwn h ss

  -- each of the first n values is what the history that the hand has seen made of its cell
  abbrev pub AreMade : ℕ → HandState D Q G → List (Option C) → Type 0
  AreMade n s xs = (c : ℕ) → c < n → (x : C) × (get_elem? xs c ≡ some (Some x)) × (t.part x ≡ part_of t s c)
