-- Commands of the host on its places, each of which keeps one sub-page.
use Rattle.std.specs.Prelude.{ℕ, List, [], ◌∷◌, ◌&&◌, Result}
use Rattle.eleos_trace.specs.declared.givers.Givers.{Givers}
use Rattle.eleos_trace.specs.declared.header.Header.{Header}
use Rattle.eleos_trace.specs.declared.seen.Seen.{Seen}
use Rattle.eleos_trace.specs.declared.word.Actor as actors
use Rattle.eleos_trace.specs.declared.word.Word.{Word}
use Rattle.eleos_trace.specs.declared.word.Word.TheVariants.{Flip, SwapPlaces}
use Rattle.eleos_texts.specs.declared.why.Why.{Why}
use Rattle.eleos_texts.specs.declared.why.Why.TheVariants.{Range}
use Rattle.eleos_texts.specs.Fields.{is_numeral, number, is_up_to, is_below}
use Rattle.eleos_texts.specs.Reasons.{unless, with_one, with_two, ◌>>=◌}
use Rattle.eleos_trace.specs.Givers.{admit}
use Rattle.eleos_trace.specs.Machines.{places}

-- the last bit of a sub-page of 1,024 bytes
abbrev pub last_bit : ℕ
last_bit = 8191

module _ (header : Header) (seen : Seen) (who : actors.Actor) (may : Givers) where
  -- `flip PLACE BIT`
  abbrev pub flip_of : List (List ℕ) → Result Word Why
  flip_of = with_two (λ place bit. admit header seen who may (is_numeral place && is_numeral bit) >>= λ _. unless (
      (is_below (places header.plan) place && is_up_to last_bit bit, Range) ∷ [])
      (Flip (number place) (number bit)))

  -- `swap PLACE PLACE`
  abbrev pub swap_of : List (List ℕ) → Result Word Why
  swap_of = with_two (λ place other. admit header seen who may (is_numeral place && is_numeral other) >>= λ _. unless (
      (is_below (places header.plan) place && is_below (places header.plan) other, Range) ∷ [])
      (SwapPlaces (number place) (number other)))

  -- the place alone, as of `keep PLACE` and `restore PLACE`
  abbrev pub place_of : List (List ℕ) → Result ℕ Why
  place_of = with_one (λ place. admit header seen who may (is_numeral place) >>= λ _. unless (
      (is_below (places header.plan) place, Range) ∷ [])
      (number place))
