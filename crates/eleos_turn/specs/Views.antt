-- What each call does to the view of a seat.
use Rattle.std.specs.Prelude.{ℕ, ◌==◌, cond, ◌+◌, ◌-◌, ◌*◌, ◌≤◌, List, [], ◌∷◌, ◌++◌, length}
use Rattle.eleos_base.specs.declared.plot.Event.{Event}
use Rattle.eleos_base.specs.declared.plot.Base.{Base}
use Rattle.eleos_turn.specs.declared.view.View.{View}
use Rattle.eleos_turn.specs.Numbers.{without, less_one, above, first_of, rest_of, longer, shorter, most_pins}
use Rattle.eleos_base.specs.Words.{pins_in}

module _ {D Q G : Type 0} where
  -- the hands with the n numbers above a, before they have seen anything
  abbrev pub dealing : Base Q G → ℕ → ℕ → View D Q G
  dealing b a n = record { base = b; numbers = above a n; seen = []; held = []; clean = []; moving = 0; pins = []; told = []; looked = (0, 0); looks = 0; tried = (0, 0); misses = 0; left = n * b.each; most = n * most_pins }

  -- the hand with the number k, before it has seen anything
  abbrev pub hand_of : Base Q G → ℕ → View D Q G
  hand_of b k = record { base = b; numbers = k ∷ []; seen = []; held = []; clean = []; moving = 0; pins = []; told = []; looked = (0, 0); looks = 0; tried = (0, 0); misses = 0; left = b.each; most = most_pins }

  -- a hand that has seen as much, and may do nothing
  abbrev pub observer_of : View D Q G → View D Q G
  observer_of v = record { base = v.base; numbers = []; seen = v.seen; held = []; clean = []; moving = 0; pins = []; told = []; looked = (0, 0); looks = 0; tried = (0, 0); misses = 0; left = 0; most = 0 }

  -- the hands that are left where the first of them is dealt
  abbrev pub dealt_from : View D Q G → View D Q G
  dealt_from v = record v { numbers = rest_of v.numbers; left = v.left - v.base.each; most = v.most - most_pins }

  -- the first of them
  abbrev pub dealt_to : View D Q G → View D Q G
  dealt_to v = record { base = v.base; numbers = first_of v.numbers; seen = []; held = []; clean = []; moving = 0; pins = []; told = []; looked = (0, 0); looks = 0; tried = (0, 0); misses = 0; left = v.base.each; most = most_pins }

  -- what two seats know together, where the second has no turn
  abbrev pub joined : View D Q G → View D Q G → View D Q G
  joined v w = record v { numbers = v.numbers ++ w.numbers; seen = longer v.seen w.seen; told = shorter v.seen w.seen; pins = v.pins ++ w.pins; left = v.left + w.left; most = v.most + w.most }

  -- the same where the second may do nothing: what it has seen is told alone
  abbrev pub observed : View D Q G → View D Q G → View D Q G
  observed v w = record v { numbers = v.numbers ++ w.numbers; told = w.seen; pins = v.pins ++ w.pins; left = v.left + w.left; most = v.most + w.most }

  -- it carries the slot of the cell k - 1, or none where k is 0
  abbrev pub moved : View D Q G → ℕ → View D Q G
  moved v k = record v { moving = k }

  -- after the turn of c was taken, with the word n
  abbrev pub busied : View D Q G → List (Event D Q) → ℕ → ℕ → View D Q G
  busied v more c n = record v { seen = v.seen ++ more; held = c ∷ v.held; clean = cond (pins_in n == 0) (c ∷ v.clean) v.clean; moving = c + 1; tried = (c, n) }

  -- after the turn of c was given back
  abbrev pub freed : View D Q G → ℕ → View D Q G
  freed v c = record v { held = less_one c v.held; clean = without c v.clean; moving = 0 }

  -- after the event was stamped, with what came between
  abbrev pub stamped : View D Q G → List (Event D Q) → Event D Q → View D Q G
  stamped v more e = record v { seen = (v.seen ++ more) ++ e ∷ []; left = v.left - 1 }

  -- one pin more on c
  abbrev pub pinned : View D Q G → ℕ → View D Q G
  pinned v c = record v { pins = c ∷ v.pins }

  -- one pin less on c
  abbrev pub unpinned : View D Q G → ℕ → View D Q G
  unpinned v c = record v { pins = less_one c v.pins }

  -- what was seen and the stamps left are no more than all hands were given
  abbrev pub Room : View D Q G → Type 0
  Room v = length v.seen + v.left ≤ v.base.hands * v.base.each
