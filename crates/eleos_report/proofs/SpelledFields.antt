-- A field that is read is the one that is printed, but that digits of hex may be capitals.
use Rattle.std.proofs.Common.{◌≡◌, ℕ, ◌+◌, ◌-◌, ◌<◌, ◌≤◌, ◌^◌, List, [], ◌∷◌, length, map, get_or, Option, Some, None, Result, Ok, Err, Bool, true, false, not, ◌&&◌, ◌||◌, nat_le, eqb, cond, refl, sym, ap, ◌∙◌, arith, codes}
use Rattle.std.specs.Prelude.{IfOk, IfSome, is_some, unwrap_or}
use Rattle.std.specs.List.{slice_split, slice_index, list_all, join_with_byte}
use Rattle.std.specs.Char.{to_ascii_lowercase, is_ascii_digit}
use Rattle.std.specs.Fmt.{decimal}
use Rattle.std.specs.Str.{bytes_eq}
use Rattle.std.specs.Str.Parse.{digits_value}
use Rattle.std.proofs.Common.{rules}
use Rattle.std.proofs.lemmas.Bool.Decides.{nat_tests}
use Rattle.std.proofs.lemmas.Fmt.{decimal-digits_value, decimal_digit}
use Rattle.std.proofs.lemmas.Str.Parse.{IsNumeralModel, numerals_by_value}
use Rattle.std.proofs.lemmas.List.Splits.{join_with_byte-slice_split}
use Rattle.hex.specs.Hex.{decode_of, encode_lower, encode_with}
use Rattle.hex.specs.declared.error.FromHexError.{FromHexError}
use Rattle.eleos_trace.specs.declared.word.Actor.{Actor}
use Rattle.eleos_trace.specs.declared.word.Actor.TheVariants.{Caller, Swapper, Balloon, Host}
use Rattle.eleos_texts.specs.Fields.{is, is_numeral, number, is_up_to, most_u32, is_name, is_name_char, hex_bytes, decoded}
use Rattle.eleos_trace.specs.Actors.{actor_of, is_caller_word}
use Rattle.eleos_texts.specs.Reasons.{one, two, three, one_and_more}
use Rattle.eleos_texts.specs.Texts.{hex_text}
use Rattle.eleos_trace.specs.Spelling.{actor_text, owner_text}
use Rattle.eleos_report.specs.Fields.{most_u64, block_bytes, formed, found, number_of, name_of, bytes_of, block_of, optional_of, who_of, is_colon, looked_of}
use Rattle.eleos_report.specs.Log.{looked_text, stamp_text}
use Rattle.std.proofs.lemmas.List.{map-append}
use Rattle.eleos_report.proofs.Plain.{and_first, and_second}
use Rattle.eleos_report.proofs.SpelledHex.{lower, eq_from, decoded_is}
use Rattle.eleos_report.proofs.ReadFields.{step, tested}

-- either of two answers, by the test
pub when : {A E : Type 0} (P : A → Type 0) (b : Bool) (x y : Result A E) → (b ≡ true → IfOk x P) → IfOk y P → IfOk (cond b x y) P
when P true x y p q = p refl
when P false x y p q = q

-- what a value has, by what else it has
pub weaker : {A E : Type 0} (P Q : A → Type 0) (r : Result A E) → IfOk r P → ((x : A) → P x → Q x) → IfOk r Q
weaker P Q (Ok x) p next = next x p
weaker P Q (Err e) p next = tt

le_from : (a b : ℕ) → nat_le a b ≡ true → a ≤ b
le_from a b h = grind (arith, nat_tests)

-- a word that is this one
pub equal : (text word : List ℕ) → bytes_eq text word ≡ true → text ≡ word
equal [] [] h = refl
equal [] (d ∷ ds) h = absurd cc
equal (c ∷ cs) [] h = absurd cc
equal (c ∷ cs) (d ∷ ds) h =
    let first : c ≡ d = eq_from c d (and_first (eqb c d) (bytes_eq cs ds) h) in
    let more : cs ≡ ds = equal cs ds (and_second (eqb c d) (bytes_eq cs ds) h) in
    rw (first, more) refl

-- it is the same in small letters, where the word has no others
pub verb_is : (word verb : List ℕ) → lower word ≡ word → is word verb ≡ true → lower verb ≡ word
verb_is word verb small h = ap lower (equal verb word h) ∙ small

-- ---- words by their number

module _ {A : Type 0} where
  -- where one word is read, there is no other
  pub one_is : (words : List A) → IfOk (one words) (λ a. words ≡ a ∷ [])
  unfolding one
  one_is [] = tt
  one_is (a ∷ []) = refl
  one_is (a ∷ b ∷ _) = tt

  -- where two words are read, there is no other
  pub two_are : (words : List A) → IfOk (two words) (λ x. words ≡ x.0 ∷ x.1 ∷ [])
  unfolding two
  two_are [] = tt
  two_are (a ∷ []) = tt
  two_are (a ∷ b ∷ []) = refl
  two_are (a ∷ b ∷ c ∷ _) = tt

  -- where three words are read, there is no other
  pub three_are : (words : List A) → IfOk (three words) (λ x. words ≡ x.0 ∷ x.1 ∷ x.2 ∷ [])
  unfolding three
  three_are [] = tt
  three_are (a ∷ []) = tt
  three_are (a ∷ b ∷ []) = tt
  three_are (a ∷ b ∷ c ∷ []) = refl
  three_are (a ∷ b ∷ c ∷ d ∷ _) = tt

  -- where a first word and more are read, they are all the words, in order
  pub one_and_more_are : (words : List A) → IfOk (one_and_more words) (λ x. words ≡ x.0 ∷ x.1)
  unfolding one_and_more
  one_and_more_are [] = tt
  one_and_more_are (a ∷ more) = refl

-- ---- numbers and names

same_by : (p : ℕ → Bool) → ((c : ℕ) → p c ≡ true → to_ascii_lowercase c ≡ c) → (text : List ℕ) → list_all p text ≡ true → lower text ≡ text
same_by p same [] h = refl
same_by p same (c ∷ cs) h =
    let first : to_ascii_lowercase c ≡ c = same c (and_first (p c) (list_all p cs) h) in
    let more : lower cs ≡ cs = same_by p same cs (and_second (p c) (list_all p cs) h) in
    rw (first, more) refl

digits_same : (text : List ℕ) → list_all is_ascii_digit text ≡ true → lower text ≡ text
digits_same text h = same_by is_ascii_digit (λ c d. grind (arith, nat_tests)) text h

abbrev AreDigits : List ℕ → Type 0
AreDigits text = list_all is_ascii_digit text ≡ true

own : IsNumeralModel AreDigits (digits_value 10)
own = numerals_by_value AreDigits (search rules)

numeral_by : (text : List ℕ) → is_numeral text ≡ true → number text < 2 ^ 64 → lower text ≡ decimal (number text)
numeral_by text numeral small =
    let digits : list_all is_ascii_digit text ≡ true = and_second (nat_le 1 (length text) && (eqb (length text) 1 || not (eqb (get_or text 0 0) 48))) (list_all is_ascii_digit text) numeral in
    let front = and_first (nat_le 1 (length text) && (eqb (length text) 1 || not (eqb (get_or text 0 0) 48))) (list_all is_ascii_digit text) numeral in
    let some : 1 ≤ length text = le_from 1 (length text) (and_first (nat_le 1 (length text)) (eqb (length text) 1 || not (eqb (get_or text 0 0) 48)) front) in
    let none = and_second (nat_le 1 (length text)) (eqb (length text) 1 || not (eqb (get_or text 0 0) 48)) front in
    digits_same text digits ∙ sym (decimal-digits_value own text digits (omega arith) (λ is_zero. no_zero (length text) (get_or text 0 0) none is_zero) small)
  where
    no_zero : (n c : ℕ) → (eqb n 1 || not (eqb c 48)) ≡ true → c ≡ 48 → n ≡ 1
    no_zero n c h is_zero = grind (arith, nat_tests)

-- what is read as a number of 32 bits is spelled as that number is printed
pub short_spelled : (text : List ℕ) → IfOk (number_of most_u32 text) (λ n. lower text ≡ decimal n)
short_spelled text = tested (λ n. lower text ≡ decimal n) (is_numeral text && is_up_to most_u32 text) (number text) (λ h.
    let le = le_from (number text) most_u32 (and_second (is_numeral text) (is_up_to most_u32 text) h) in
    numeral_by text (and_first (is_numeral text) (is_up_to most_u32 text) h) (omega (arith, le)))

-- so is one of 64 bits
pub long_spelled : (text : List ℕ) → IfOk (number_of most_u64 text) (λ n. lower text ≡ decimal n)
long_spelled text = tested (λ n. lower text ≡ decimal n) (is_numeral text && is_up_to most_u64 text) (number text) (λ h.
    let le = le_from (number text) most_u64 (and_second (is_numeral text) (is_up_to most_u64 text) h) in
    numeral_by text (and_first (is_numeral text) (is_up_to most_u64 text) h) (omega (arith, le)))

name_same : (name : List ℕ) → is_name name ≡ true → lower name ≡ name
name_same name h = same_by is_name_char (λ c d. grind (arith, nat_tests)) name (and_second _ (list_all is_name_char name) h)

-- what is read as a name has no capitals, and is spelled as it is printed
pub name_spelled : (text : List ℕ) → IfOk (name_of text) (λ name. lower text ≡ name)
name_spelled text = tested (λ name. lower text ≡ name) (is_name text) text (name_same text)

-- what is read as a stamp, or as none, is spelled as it is printed
pub stamp_spelled : (text : List ℕ) → IfOk (optional_of most_u64 text) (λ o. lower text ≡ stamp_text o)
stamp_spelled text = when (λ o. lower text ≡ stamp_text o) (is (codes "-") text) (Ok None) _ (verb_is (codes "-") text refl)
    (step (λ n. lower text ≡ decimal n) (λ o. lower text ≡ stamp_text o) (number_of most_u64 text) (λ n. Ok (Some n)) (long_spelled text) (λ n is. is))

-- so is the owner of a frame, or none
pub owner_spelled : (text : List ℕ) → IfOk (optional_of most_u32 text) (λ o. lower text ≡ owner_text o)
owner_spelled text = when (λ o. lower text ≡ owner_text o) (is (codes "-") text) (Ok None) _ (verb_is (codes "-") text refl)
    (step (λ n. lower text ≡ decimal n) (λ o. lower text ≡ owner_text o) (number_of most_u32 text) (λ n. Ok (Some n)) (short_spelled text) (λ n is. is))

-- ---- bytes

-- bytes that are not none
hex_not_none : (text bytes : List ℕ) → eqb (length text) 0 ≡ false → lower text ≡ encode_lower bytes → lower text ≡ hex_text bytes
unfolding encode_with
hex_not_none [] [] some same = absurd cc
hex_not_none (c ∷ cs) [] some same = absurd cc
hex_not_none text (b ∷ bs) some same = same

hex_spelled : (text bytes : List ℕ) → hex_bytes text ≡ Some bytes → lower text ≡ hex_text bytes
unfolding hex_bytes
hex_spelled text bytes e = by (bytes_eq text (codes "-")) refl (eqb (length text) 0) refl (decode_of text) (decoded_is text) e where
  by : (a : Bool) → bytes_eq text (codes "-") ≡ a → (b : Bool) → eqb (length text) 0 ≡ b → (r : Result (List ℕ) FromHexError) → IfOk r (λ bytes. lower text ≡ encode_lower bytes)
      → cond a (Some []) (cond b None (decoded r)) ≡ Some bytes → lower text ≡ hex_text bytes
  by true dash b empty r is h = verb_is (codes "-") text refl dash ∙ ap hex_text (same h) where
    same : ◌≡◌ {A = Option (List ℕ)} (Some []) (Some bytes) → [] ≡ bytes
    same e = cc
  by false dash true empty r is h = absurd cc
  by false dash false some (Err d) is h = absurd cc
  by false dash false some (Ok found) is h = hex_not_none text bytes some (is ∙ ap encode_lower (same h)) where
    same : ◌≡◌ {A = Option (List ℕ)} (Some found) (Some bytes) → found ≡ bytes
    same e = cc

-- bytes that are read are spelled as they are printed, but that digits of hex may be capitals
pub bytes_spelled : (text : List ℕ) → IfOk (bytes_of text) (λ bytes. lower text ≡ hex_text bytes)
bytes_spelled text = by (hex_bytes text) (hex_spelled text) where
  by : (o : Option (List ℕ)) → ((bytes : List ℕ) → o ≡ Some bytes → lower text ≡ hex_text bytes) → IfOk (formed (is_some o) (unwrap_or o [])) (λ bytes. lower text ≡ hex_text bytes)
  by (Some bytes) h = h bytes refl
  by None h = tt

-- so is a block
pub block_spelled : (text : List ℕ) → IfOk (block_of text) (λ block. lower text ≡ hex_text block)
block_spelled text = step (λ block. lower text ≡ hex_text block) (λ block. lower text ≡ hex_text block) (bytes_of text) (λ bytes. formed (eqb (length bytes) block_bytes) bytes) (bytes_spelled text)
    (λ bytes same. tested (λ block. lower text ≡ hex_text block) (eqb (length bytes) block_bytes) bytes (λ h. same))

-- ---- actors and looked frames

caller_spelled : (word : List ℕ) → is_caller_word word ≡ true → lower word ≡ actor_text (Caller (slice_index word 1 - 48))
caller_spelled [] h = absurd cc
caller_spelled (a ∷ []) h = absurd cc
caller_spelled (a ∷ b ∷ []) h =
    let front = and_first (eqb a 99 && nat_le 49 b) (nat_le b 56) h in
    let letter : a ≡ 99 = eq_from a 99 (and_first (eqb a 99) (nat_le 49 b) front) in
    let low : 49 ≤ b = le_from 49 b (and_second (eqb a 99) (nat_le 49 b) front) in
    let high : b ≤ 56 = le_from b 56 (and_second (eqb a 99 && nat_le 49 b) (nat_le b 56) h) in
    let digit : decimal (b - 48) ≡ (48 + (b - 48)) ∷ [] = decimal_digit (b - 48) (omega arith) in
    let back : 48 + (b - 48) ≡ b = omega arith in
    let same : to_ascii_lowercase b ≡ b = digit_same b low high in
    rw (digit, back, letter, same) refl
  where
    digit_same : (c : ℕ) → 49 ≤ c → c ≤ 56 → to_ascii_lowercase c ≡ c
    digit_same c low high = grind (arith, nat_tests)
caller_spelled (a ∷ b ∷ c ∷ cs) h = absurd (grind (arith, nat_tests))

-- an actor that is read is spelled as it is printed
pub who_spelled : (text : List ℕ) → IfOk (who_of text) (λ who. lower text ≡ actor_text who)
who_spelled text = by (actor_of text)
    (when_some (is_caller_word text) (Some (Caller (slice_index text 1 - 48))) _ (caller_spelled text)
    (when_some (is (codes "s") text) (Some Swapper) _ (verb_is (codes "s") text refl)
    (when_some (is (codes "b") text) (Some Balloon) _ (verb_is (codes "b") text refl)
    (when_some (is (codes "h") text) (Some Host) None (verb_is (codes "h") text refl) tt))))
  where
    by : (o : Option Actor) → IfSome o (λ who. lower text ≡ actor_text who) → IfOk (found o) (λ who. lower text ≡ actor_text who)
    by (Some who) h = h
    by None h = tt

    when_some : (b : Bool) (x y : Option Actor) → (b ≡ true → IfSome x (λ who. lower text ≡ actor_text who)) → IfSome y (λ who. lower text ≡ actor_text who) → IfSome (cond b x y) (λ who. lower text ≡ actor_text who)
    when_some true x y p q = p refl
    when_some false x y p q = q

-- joined words in small letters
pub lower-join : (c : ℕ) (words : List (List ℕ)) → to_ascii_lowercase c ≡ c → lower (join_with_byte c words) ≡ join_with_byte c (map lower words)
lower-join c [] same = refl
lower-join c (word ∷ []) same = refl
lower-join c (word ∷ next ∷ words) same = map-append to_ascii_lowercase word (c ∷ join_with_byte c (next ∷ words)) ∙ (rw (same, lower-join c (next ∷ words) same) refl)

-- so are a frame and its word
pub looked_spelled : (text : List ℕ) → IfOk (looked_of text) (λ looked. lower text ≡ looked_text looked)
looked_spelled text = step (λ x. slice_split is_colon text ≡ x.0 ∷ x.1 ∷ []) (λ looked. lower text ≡ looked_text looked) (two (slice_split is_colon text)) _ (two_are (slice_split is_colon text)) (λ x parts.
    step (λ n. lower x.0 ≡ decimal n) (λ looked. lower text ≡ looked_text looked) (number_of most_u32 x.0) _ (short_spelled x.0) (λ frame frame_is.
    step (λ n. lower x.1 ≡ decimal n) (λ looked. lower text ≡ looked_text looked) (number_of most_u64 x.1) _ (long_spelled x.1) (λ word word_is.
    let whole = rw parts at (join_with_byte-slice_split 58 text) in
    ap lower (sym whole) ∙ lower-join 58 (x.0 ∷ x.1 ∷ []) refl ∙ (rw (frame_is, word_is) refl))))
