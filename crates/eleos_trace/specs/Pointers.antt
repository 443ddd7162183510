-- The tests of commands on pointers, which are not built yet.
use Rattle.std.specs.Prelude.{ℕ, List, [], ◌∷◌, length, Bool, true, false, not, ◌==◌, ◌&&◌, nat_le, Result, codes, if◌then◌else◌}
use Rattle.eleos_trace.specs.declared.givers.Givers.{Givers}
use Rattle.eleos_trace.specs.declared.header.Header.{Header}
use Rattle.eleos_trace.specs.declared.seen.Seen.{Seen}
use Rattle.eleos_trace.specs.declared.word.Actor as actors
use Rattle.eleos_texts.specs.declared.why.Why.{Why}
use Rattle.eleos_texts.specs.declared.why.Why.TheVariants.{Range, Name}
use Rattle.eleos_texts.specs.Fields.{is, is_numeral, is_up_to, most_u32, is_name, is_hex, bytes_in}
use Rattle.eleos_texts.specs.Reasons.{unless, refusal, with_one, with_two, ◌>>=◌}
use Rattle.eleos_trace.specs.Commands.{most_bytes}
use Rattle.eleos_trace.specs.Givers.{admit}
use Rattle.eleos_trace.specs.Seen.{is_bound}

-- a numeral, or a minus before one that is not zero
abbrev pub is_signed : List ℕ → Bool
is_signed [] = is_numeral []
is_signed (c ∷ digits) = if c == 45 then is_numeral digits && not (is (codes "0") digits) else is_numeral (c ∷ digits)

-- a number of 32 bits with its sign
abbrev pub is_step : List ℕ → Bool
is_step [] = false
is_step (c ∷ digits) = if c == 45 then is_numeral digits && is_up_to 2147483648 digits else is_numeral (c ∷ digits) && is_up_to 2147483647 (c ∷ digits)

module _ (header : Header) (seen : Seen) (who : actors.Actor) (may : Givers) where
  -- `point PTR NAME` binds a new pointer to the block of a name
  abbrev pub point_of : List (List ℕ) → Result (Unit {0}) Why
  point_of = with_two (λ pointer name. admit header seen who may (is_name pointer && is_name name) >>= λ _. unless (
      (not (is_bound header seen who pointer) && is_bound header seen who name, Name) ∷ [])
      tt)

  -- a command on a pointer, with its form and its range: as no line that is built binds a pointer, it is not bound
  abbrev pub of_pointer : Bool → Bool → Result (Unit {0}) Why
  of_pointer form range = admit header seen who may form >>= λ _. refusal ((range, Range) ∷ []) Name

  -- `copy PTR PTR`
  abbrev pub copy_of : List (List ℕ) → Result (Unit {0}) Why
  copy_of = with_two (λ pointer other. of_pointer (is_name pointer && is_name other) true)

  -- the pointer alone, as of `drop PTR`, `link PTR` and `unlink PTR`
  abbrev pub pointer_of : List (List ℕ) → Result (Unit {0}) Why
  pointer_of = with_one (λ pointer. of_pointer (is_name pointer) true)

  -- `step PTR N`
  abbrev pub step_of : List (List ℕ) → Result (Unit {0}) Why
  step_of = with_two (λ pointer bytes. of_pointer (is_name pointer && is_signed bytes) (is_step bytes))

  -- `sread PTR N`
  abbrev pub read_at_of : List (List ℕ) → Result (Unit {0}) Why
  read_at_of = with_two (λ pointer len. of_pointer (is_name pointer && is_numeral len) (is_up_to most_u32 len))

  -- `swrite PTR HEX`
  abbrev pub write_at_of : List (List ℕ) → Result (Unit {0}) Why
  write_at_of = with_two (λ pointer hex. of_pointer (is_name pointer && is_hex hex) (nat_le (length (bytes_in hex)) most_bytes))
