-- Commands of a caller on its memory, with the reasons for which a line is refused.
use Rattle.std.specs.Prelude.{ℕ, List, [], ◌∷◌, length, not, ◌&&◌, nat_le, Result}
use Rattle.eleos_trace.specs.declared.givers.Givers.{Givers}
use Rattle.eleos_trace.specs.declared.header.Header.{Header}
use Rattle.eleos_trace.specs.declared.seen.Seen.{Seen}
use Rattle.eleos_trace.specs.declared.word.Actor as actors
use Rattle.eleos_trace.specs.declared.word.Word.{Word}
use Rattle.eleos_trace.specs.declared.word.Word.TheVariants.{Alloc, Read, Write}
use Rattle.eleos_texts.specs.declared.why.Why.{Why}
use Rattle.eleos_texts.specs.declared.why.Why.TheVariants.{Range, Name}
use Rattle.eleos_texts.specs.Fields.{is_numeral, number, is_up_to, most_u32, is_name, is_hex, bytes_in}
use Rattle.eleos_texts.specs.Reasons.{unless, with_one, with_two, with_three, ◌>>=◌}
use Rattle.eleos_trace.specs.Givers.{admit}
use Rattle.eleos_trace.specs.Seen.{is_bound}

-- bytes of a write
abbrev pub most_bytes : ℕ
most_bytes = 2048

module _ (header : Header) (seen : Seen) (who : actors.Actor) (may : Givers) where
  -- `alloc NAME N` binds a new name
  abbrev pub alloc_of : List (List ℕ) → Result Word Why
  alloc_of = with_two (λ name bytes. admit header seen who may (is_name name && is_numeral bytes) >>= λ _. unless (
      (is_up_to most_u32 bytes, Range)
      ∷ (not (is_bound header seen who name), Name) ∷ [])
      (Alloc name (number bytes)))

  -- the name alone, as of `free NAME` and `share NAME`
  abbrev pub name_of : List (List ℕ) → Result (List ℕ) Why
  name_of = with_one (λ name. admit header seen who may (is_name name) >>= λ _. unless (
      (is_bound header seen who name, Name) ∷ [])
      name)

  -- the name and the offset, as of `tie NAME OFFSET` and `untie NAME OFFSET`
  abbrev pub offset_of : List (List ℕ) → Result (List ℕ × ℕ) Why
  offset_of = with_two (λ name offset. admit header seen who may (is_name name && is_numeral offset) >>= λ _. unless (
      (is_up_to most_u32 offset, Range)
      ∷ (is_bound header seen who name, Name) ∷ [])
      (name, number offset))

  -- `read NAME OFFSET N`
  abbrev pub read_of : List (List ℕ) → Result Word Why
  read_of = with_three (λ name offset len. admit header seen who may (is_name name && is_numeral offset && is_numeral len) >>= λ _. unless (
      (is_up_to most_u32 offset && is_up_to most_u32 len, Range)
      ∷ (is_bound header seen who name, Name) ∷ [])
      (Read name (number offset) (number len)))

  -- `write NAME OFFSET HEX`
  abbrev pub write_of : List (List ℕ) → Result Word Why
  write_of = with_three (λ name offset hex. admit header seen who may (is_name name && is_numeral offset && is_hex hex) >>= λ _. unless (
      (is_up_to most_u32 offset && nat_le (length (bytes_in hex)) most_bytes, Range)
      ∷ (is_bound header seen who name, Name) ∷ [])
      (Write name (number offset) (bytes_in hex)))
