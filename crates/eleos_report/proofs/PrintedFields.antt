-- A field that is printed is read again.
use Rattle.std.proofs.Common.{◌≡◌, ℕ, zero, suc, ◌+◌, ◌<◌, ◌≤◌, ◌^◌, ◌/◌, ◌%◌, List, [], ◌∷◌, ◌++◌, length, All, Option, Some, None, Ok, true, false, not, ◌||◌, nat_le, eqb, get_or, refl, ap, ◌∙◌, arith, codes}
use Rattle.std.specs.Prelude.{IfSome}
use Rattle.std.specs.List.{slice_split, list_all, slice_index}
use Rattle.std.specs.Fmt.{decimal}
use Rattle.std.specs.Char.{is_ascii_digit}
use Rattle.std.specs.Str.{bytes_eq}
use Rattle.std.proofs.lemmas.Bool.Decides.{nat_tests}
use Rattle.std.proofs.lemmas.Fmt.{decimal_is_IsNumeral, decimal_nonempty, first_decimal, decimal_digit}
use Rattle.std.proofs.lemmas.List.Splits.{slice_split_at, slice_split_none}
use Rattle.hex.specs.Hex.{decode_of, encode_lower, encode_with, lower_digits, IsBytes}
use Rattle.hex.proofs.HexLemmas.{decode_of-encode_lower, length-encode_with}
use Rattle.eleos_base.specs.declared.memory.Looked.{Looked}
use Rattle.eleos_trace.specs.declared.word.Actor.{Actor}
use Rattle.eleos_trace.specs.declared.word.Actor.TheVariants.{Caller, Swapper, Balloon, Host}
use Rattle.eleos_texts.specs.Fields.{is, is_numeral, number, most_u32, hex_bytes}
use Rattle.eleos_trace.specs.Actors.{actor_of}
use Rattle.eleos_texts.specs.Reasons.{two}
use Rattle.eleos_texts.specs.Texts.{hex_text}
use Rattle.eleos_trace.specs.Spelling.{actor_text, owner_text}
use Rattle.eleos_report.specs.Fields.{most_u64, number_of, name_of, bytes_of, block_of, optional_of, who_of, is_colon, looked_of}
use Rattle.eleos_report.specs.Grammar.{IsShort, IsLong, IsName, IsWho, IsLooked, IsBlock}
use Rattle.eleos_report.specs.Log.{looked_text, stamp_text}
use Rattle.eleos_report.proofs.Plain.{and_first, and_second, digits_decimal}

le_true : {a b : ℕ} → a ≤ b → nat_le a b ≡ true
le_true {a} {b} h = grind (arith, nat_tests)

-- ---- numbers

no_zero_first : (n : ℕ) → n < 2 ^ 64 → (eqb (length (decimal n)) 1 || not (eqb (get_or (decimal n) 0 0) 48)) ≡ true
no_zero_first zero small = rw (decimal_digit 0 (omega arith)) refl
no_zero_first (suc n) small = let first : 48 < get_or (decimal (suc n)) 0 0 = first_decimal (suc n) (omega arith) small in grind (arith, nat_tests)

numeral_decimal : (n : ℕ) → n < 2 ^ 64 → is_numeral (decimal n) ≡ true
numeral_decimal n small =
    let some : 1 ≤ length (decimal n) = decimal_nonempty n small in
    rw (le_true some, no_zero_first n small, digits_decimal n small) refl

number_decimal : (n : ℕ) → n < 2 ^ 64 → number (decimal n) ≡ n
number_decimal n small = (decimal_is_IsNumeral n small).1

number_again : (most n : ℕ) → n ≤ most → n < 2 ^ 64 → number_of most (decimal n) ≡ Ok n
number_again most n le small = rw (numeral_decimal n small, number_decimal n small, le_true le) refl

-- a printed number of 32 bits is read as that number
pub short_again : (n : ℕ) → IsShort n → number_of most_u32 (decimal n) ≡ Ok n
short_again n small = number_again most_u32 n (omega arith) (omega arith)

-- so is one of 64 bits
pub long_again : (n : ℕ) → IsLong n → number_of most_u64 (decimal n) ≡ Ok n
long_again n small = number_again most_u64 n (omega arith) small

-- digits are no dash
digits_no_dash : (text : List ℕ) → list_all is_ascii_digit text ≡ true → is (codes "-") text ≡ false
digits_no_dash [] h = refl
digits_no_dash (c ∷ cs) h = let first = and_first (is_ascii_digit c) (list_all is_ascii_digit cs) h in grind (arith, nat_tests)

decimal_no_dash : (n : ℕ) → n < 2 ^ 64 → is (codes "-") (decimal n) ≡ false
decimal_no_dash n small = digits_no_dash (decimal n) (digits_decimal n small)

-- a printed stamp is read as that stamp, and the sign for none as none
pub stamp_again : (stamp : Option ℕ) → IfSome stamp IsLong → optional_of most_u64 (stamp_text stamp) ≡ Ok stamp
stamp_again None fits = refl
stamp_again (Some n) fits = rw (decimal_no_dash n fits, long_again n fits) refl

digits_no_end : (text : List ℕ) → list_all is_ascii_digit text ≡ true → is (codes "end") text ≡ false
digits_no_end [] h = refl
digits_no_end (c ∷ cs) h = let first = and_first (is_ascii_digit c) (list_all is_ascii_digit cs) h in grind (arith, nat_tests)

-- a stamp begins no last line
pub stamp_no_end : (stamp : Option ℕ) → IfSome stamp IsLong → is (codes "end") (stamp_text stamp) ≡ false
stamp_no_end None fits = refl
stamp_no_end (Some n) fits = digits_no_end (decimal n) (digits_decimal n fits)

-- the same of the enclave that owns a frame, or none
pub owner_again : (owner : Option ℕ) → IfSome owner IsShort → optional_of most_u32 (owner_text owner) ≡ Ok owner
owner_again None fits = refl
owner_again (Some n) fits = let small : n < 2 ^ 64 = omega (arith, fits) in rw (decimal_no_dash n small, short_again n fits) refl

-- ---- names and bytes

-- a name is read as that name
pub name_again : (name : List ℕ) → IsName name → name_of name ≡ Ok name
name_again name is = rw is refl

-- pairs of digits are no dash
no_dash : (x y : ℕ) (text : List ℕ) → bytes_eq (x ∷ y ∷ text) (codes "-") ≡ false
no_dash x y text = grind (arith, nat_tests)

hex_no_dash : (b : ℕ) (bs : List ℕ) → bytes_eq (encode_lower (b ∷ bs)) (codes "-") ≡ false
unfolding encode_with
hex_no_dash b bs = no_dash (slice_index lower_digits (b / 16)) (slice_index lower_digits (b % 16)) (encode_with lower_digits bs)

no_zero : {n : ℕ} → 0 < n → eqb n 0 ≡ false
no_zero {n} h = grind (arith, nat_tests)

hex_bytes_by : (text bytes : List ℕ) → bytes_eq text (codes "-") ≡ false → 0 < length text → decode_of text ≡ Ok bytes → hex_bytes text ≡ Some bytes
unfolding hex_bytes
hex_bytes_by text bytes dash some decoded = rw (dash, no_zero some, decoded) refl

hex_again : (bytes : List ℕ) → IsBytes bytes → hex_bytes (hex_text bytes) ≡ Some bytes
unfolding hex_bytes
hex_again [] small = refl
hex_again (b ∷ bs) small = hex_bytes_by (encode_lower (b ∷ bs)) (b ∷ bs) (hex_no_dash b bs) (omega (arith, length-encode_with lower_digits (b ∷ bs))) (decode_of-encode_lower (b ∷ bs) small)

-- bytes that are printed in hex are read as these bytes
pub bytes_again : (bytes : List ℕ) → IsBytes bytes → bytes_of (hex_text bytes) ≡ Ok bytes
bytes_again bytes small = rw (hex_again bytes small) refl

-- so is a block
pub block_again : (block : List ℕ) → IsBlock block → block_of (hex_text block) ≡ Ok block
block_again block is = rw (bytes_again block is.0, is.1) refl

-- ---- actors and looked frames

caller_word : (n : ℕ) → 1 ≤ n → n ≤ 8 → actor_of (99 ∷ (48 + n) ∷ []) ≡ Some (Caller n)
caller_word n low high = grind (arith, nat_tests)

-- a printed actor is read as that actor
pub who_again : (actor : Actor) → IsWho actor → who_of (actor_text actor) ≡ Ok actor
who_again (Caller n) is = rw (decimal_digit n (omega (arith, is.1)), caller_word n is.0 is.1) refl
who_again Swapper is = refl
who_again Balloon is = refl
who_again Host is = refl

digits_no_colon : (text : List ℕ) → list_all is_ascii_digit text ≡ true → All (λ c. is_colon c ≡ false) text
digits_no_colon [] h k d lt = absurd (omega arith)
digits_no_colon (c ∷ cs) h zero d lt = let first = and_first (is_ascii_digit c) (list_all is_ascii_digit cs) h in grind (arith, nat_tests)
digits_no_colon (c ∷ cs) h (suc k) d lt = digits_no_colon cs (and_second _ _ h) k d (omega arith)

split_colon : (frame word : ℕ) → frame < 2 ^ 64 → word < 2 ^ 64 → slice_split is_colon (decimal frame ++ 58 ∷ decimal word) ≡ decimal frame ∷ decimal word ∷ []
split_colon frame word frame_fits word_fits =
    slice_split_at is_colon (decimal frame) 58 (decimal word) (digits_no_colon (decimal frame) (digits_decimal frame frame_fits)) refl
    ∙ ap (λ parts. decimal frame ∷ parts) (slice_split_none is_colon (decimal word) (digits_no_colon (decimal word) (digits_decimal word word_fits)))

-- a printed frame with its word is read as these two
pub looked_again : (looked : Looked) → IsLooked looked → looked_of (looked_text looked) ≡ Ok looked
unfolding two
looked_again looked is =
    let fits : looked.frame < 2 ^ 64 = omega (arith, is.0) in
    rw (split_colon looked.frame looked.word fits is.1, short_again looked.frame is.0, long_again looked.word is.1) refl
