-- The fields of a line: numbers, names and bytes in hex.
use Rattle.std.specs.Prelude.{ℕ, List, [], length, Bool, not, ◌==◌, ◌&&◌, ◌||◌, nat_le, nat_lt, Option, Some, None, is_some, unwrap_or, Result, Ok, Err, codes, slice_index, if◌then◌else◌}
use Rattle.std.specs.List.{list_all}
use Rattle.std.specs.Char.{is_ascii_digit, is_ascii_lowercase}
use Rattle.std.specs.Str.{bytes_eq}
use Rattle.std.specs.Str.Parse.{digits_value}
use Rattle.hex.specs.Hex.{decode_of}
use Rattle.hex.specs.declared.error.FromHexError.{FromHexError}

-- words are parted by blanks
abbrev pub is_blank : ℕ → Bool
is_blank c = c == 32

-- each line ends with a newline
abbrev pub is_newline : ℕ → Bool
is_newline c = c == 10

-- the bytes of a word
abbrev pub is : List ℕ → List ℕ → Bool
is text word = bytes_eq word text

-- decimal digits without a leading zero
abbrev pub is_numeral : List ℕ → Bool
is_numeral text = nat_le 1 (length text) && (length text == 1 || not (slice_index text 0 == 48)) && list_all is_ascii_digit text

-- the number that a numeral says
abbrev pub number : List ℕ → ℕ
number text = digits_value 10 text

-- it is the numeral of this number
abbrev pub is_number : ℕ → List ℕ → Bool
is_number n text = is_numeral text && number text == n

-- it says a number of at most so much
abbrev pub is_up_to : ℕ → List ℕ → Bool
is_up_to most text = nat_le (number text) most

-- it says a number below this one
abbrev pub is_below : ℕ → List ℕ → Bool
is_below limit text = nat_lt (number text) limit

-- a number, where it is at most so much
abbrev pub up_to : ℕ → ℕ → Option ℕ
up_to most n = if nat_le n most then Some n else None

-- the number that a text says, where it is a numeral of at most so much
abbrev pub number_up_to : ℕ → List ℕ → Option ℕ
number_up_to most text = if is_numeral text && is_up_to most text then Some (number text) else None

-- the number that a text says, where it is a numeral below this one
abbrev pub number_below : ℕ → List ℕ → Option ℕ
number_below limit text = if is_numeral text && is_below limit text then Some (number text) else None

-- the largest number of 32 bits
abbrev pub most_u32 : ℕ
most_u32 = 4294967295

-- a small letter or a digit
abbrev pub is_name_char : ℕ → Bool
is_name_char c = is_ascii_lowercase c || is_ascii_digit c

-- a letter, and then at most 15 letters or digits
abbrev pub is_name : List ℕ → Bool
is_name text = nat_le 1 (length text) && nat_le (length text) 16 && is_ascii_lowercase (slice_index text 0) && list_all is_name_char text

-- what decoding gave
abbrev pub decoded : Result (List ℕ) FromHexError → Option (List ℕ)
decoded (Ok bytes) = Some bytes
decoded (Err e) = None

-- bytes in hex of either case, where a dash stands for none
unfoldable pub hex_bytes : List ℕ → Option (List ℕ)
hex_bytes text = if bytes_eq text (codes "-") then Some [] else if length text == 0 then None else decoded (decode_of text)

-- a dash, or pairs of hex digits
abbrev pub is_hex : List ℕ → Bool
is_hex text = is_some (hex_bytes text)

-- the bytes that such a text says
abbrev pub bytes_in : List ℕ → List ℕ
bytes_in text = unwrap_or (hex_bytes text) []

-- a number of bytes that a key may have
abbrev pub is_key_length : ℕ → Bool
is_key_length n = n == 16 || n == 24 || n == 32
