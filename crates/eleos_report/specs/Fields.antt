-- The fields of a line of a log. A line that lacks one of them is of no form.
use Rattle.std.specs.Prelude.{ℕ, List, Bool, ◌&&◌, ◌==◌, length, Option, Some, None, Result, Ok, Err, codes, if◌then◌else◌}
use Rattle.std.specs.List.{slice_split}
use Rattle.eleos_base.specs.declared.memory.Looked.{Looked}
use Rattle.eleos_texts.specs.declared.why.Why.{Why}
use Rattle.eleos_texts.specs.declared.why.Why.TheVariants.{Form}
use Rattle.eleos_trace.specs.declared.word.Actor.{Actor}
use Rattle.eleos_texts.specs.Fields.{is, is_numeral, number, is_up_to, most_u32, is_name, is_hex, bytes_in}
use Rattle.eleos_trace.specs.Actors.{actor_of}
use Rattle.eleos_texts.specs.Reasons.{with_two, ◌>>=◌}

-- the largest number of 64 bits
abbrev pub most_u64 : ℕ
most_u64 = 18446744073709551615

-- bytes of a block, which are those of a sub-page
abbrev pub block_bytes : ℕ
block_bytes = 1024

-- a value, where the test holds
abbrev pub formed : {A : Type 0} → Bool → A → Result A Why
formed test value = if test then Ok value else Err Form

-- a value, where there is one
abbrev pub found : {A : Type 0} → Option A → Result A Why
found (Some value) = Ok value
found None = Err Form

-- a number of at most so much
abbrev pub number_of : ℕ → List ℕ → Result ℕ Why
number_of most text = formed (is_numeral text && is_up_to most text) (number text)

-- a name
abbrev pub name_of : List ℕ → Result (List ℕ) Why
name_of text = formed (is_name text) text

-- bytes in hex, where a dash stands for none
abbrev pub bytes_of : List ℕ → Result (List ℕ) Why
bytes_of text = formed (is_hex text) (bytes_in text)

-- the bytes of a block
abbrev pub block_of : List ℕ → Result (List ℕ) Why
block_of text = bytes_of text >>= λ bytes. formed (length bytes == block_bytes) bytes

-- a number of at most so much, where a dash stands for none
abbrev pub optional_of : ℕ → List ℕ → Result (Option ℕ) Why
optional_of most text = if is (codes "-") text then Ok None else (number_of most text >>= λ n. Ok (Some n))

-- who gives a command
abbrev pub who_of : List ℕ → Result Actor Why
who_of text = found (actor_of text)

-- a frame and its word are parted by a colon
abbrev pub is_colon : ℕ → Bool
is_colon c = c == 58

-- `FRAME:WORD`
abbrev pub looked_of : List ℕ → Result Looked Why
looked_of text = with_two (λ frame word. (do
  frame ← number_of most_u32 frame
  word ← number_of most_u64 word
  Ok (record { frame = frame; word = word }))) (slice_split is_colon text)
