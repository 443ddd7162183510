-- The words of a line have no blank, no newline and, but for the one that parts them, no `=`.
use Rattle.std.proofs.Common.{◌≡◌, ℕ, zero, suc, ◌+◌, ◌<◌, ◌%◌, ◌^◌, List, [], ◌∷◌, ◌++◌, All, map, Option, Some, None, Bool, true, false, not, ◌&&◌, nat_le, eqb, refl, ap, ◌∙◌, arith, codes, take, drop, Ok}
use Rattle.std.specs.Prelude.{IfSome}
use Rattle.std.specs.List.{slice_split, join_with_byte, list_all, list_any, AllByRecursion, position_or_len, before_first, after_first}
use Rattle.std.specs.Fmt.{decimal}
use Rattle.std.specs.Char.{is_ascii_digit}
use Rattle.std.proofs.lemmas.Bool.Decides.{nat_tests}
use Rattle.std.proofs.lemmas.Fmt.{decimal_by_steps}
use Rattle.std.proofs.lemmas.List.Folds.{list_all-append}
use Rattle.std.specs.Str.{IsAscii}
use Rattle.std.proofs.lemmas.Str.{IsAscii-append}
use Rattle.std.proofs.lemmas.Str.Ascii.{IsAscii-nil, IsAscii-cons}
use Rattle.std.proofs.lemmas.List.Splits.{slice_split_at, slice_split_none}
use Rattle.std.proofs.lemmas.List.Sums.{list_all-from_AllPass}
use Rattle.hex.specs.Hex.{encode_lower, is_hex_digit, IsBytes}
use Rattle.hex.proofs.HexLemmas.{decode_of-encode_lower, decode_of-ok}
use Rattle.eleos_base.specs.declared.memory.Looked.{Looked}
use Rattle.eleos_trace.specs.declared.word.Actor.{Actor}
use Rattle.eleos_trace.specs.declared.word.Actor.TheVariants.{Caller, Swapper, Balloon, Host}
use Rattle.eleos_trace.specs.declared.word.CallWord.{CallWord}
use Rattle.eleos_trace.specs.declared.word.CallWord.TheVariants as calls
use Rattle.eleos_trace.specs.declared.word.CallWord.TheVariants.{Echo, Get, Cut, Clock}
use Rattle.eleos_trace.specs.declared.word.Word.{Word}
use Rattle.eleos_trace.specs.declared.word.Word.TheVariants.{Alloc, Free, Share, Read, Write, Tie, Untie, Fill, Evict, Move, Flip, SwapPlaces, Keep, Restore, SwapRound, SetShare, Call}
use Rattle.eleos_texts.specs.Fields.{is_blank, is_newline, is_name, is_name_char}
use Rattle.eleos_texts.specs.Texts.{hex_text}
use Rattle.eleos_trace.specs.Calls.{call_text}
use Rattle.eleos_trace.specs.Spelling.{fields, actor_text, owner_text}
use Rattle.eleos_report.specs.declared.answer.Answer.{Answer}
use Rattle.eleos_report.specs.declared.answer.Answer.TheVariants.{At, Okay, Got, Put, BadSize, NoSpace, NotABlock, NotYours, BadRange, Unallocated, Worn, Tampered, NoFrame, Enough, Swept, Reached, Short, Pinned, Illegal, Replied, WrongId, TooLong, BadStatus, Nothing, Skipped}
use Rattle.eleos_base.specs.declared.memory.Part.{Part}
use Rattle.eleos_base.specs.declared.memory.Part.TheVariants.{Present, Frame, Absent, Linked, Owner, Untied}
use Rattle.eleos_report.specs.Log.{looked_text, part_text, block_fields, answer_fields, stamp_text}
use Rattle.eleos_report.specs.Grammar.{IsShort, IsLong, IsWho, HasFields, HasParts, IsLooked, IsBlock}
use Rattle.eleos_report.specs.Reading.{is_equals, parted}

pub and_both : {a b : Bool} → a ≡ true → b ≡ true → (a && b) ≡ true
and_both p q = rw (p, q)

-- where two tests hold together, the first holds
pub and_first : (a b : Bool) → (a && b) ≡ true → a ≡ true
and_first true b h = refl
and_first false b h = h

-- and the second holds
pub and_second : (a b : Bool) → (a && b) ≡ true → b ≡ true
and_second true b h = h
and_second false b h = cc

-- a character of ASCII above the blank
abbrev pub is_dark_char : ℕ → Bool
is_dark_char c = nat_le 33 c && nat_le c 126

-- the same, and no `=`
abbrev pub is_plain_char : ℕ → Bool
is_plain_char c = is_dark_char c && not (eqb c 61)

-- a word of ASCII that has neither blank, newline nor `=`
abbrev pub is_plain : List ℕ → Bool
is_plain word = list_all is_plain_char word

-- a word of ASCII that has neither blank nor newline
abbrev pub is_dark : List ℕ → Bool
is_dark word = list_all is_dark_char word

abbrev pub IsPlain : List ℕ → Type 0
IsPlain word = is_plain word ≡ true

-- each character of the word has a code from 33 to 126: none is a blank or a newline
abbrev pub IsDark : List ℕ → Type 0
IsDark word = is_dark word ≡ true

all_weaker : (p q : ℕ → Bool) → ((c : ℕ) → p c ≡ true → q c ≡ true) → (text : List ℕ) → list_all p text ≡ true → list_all q text ≡ true
all_weaker p q step [] h = refl
all_weaker p q step (c ∷ cs) h = and_both (step c (and_first _ _ h)) (all_weaker p q step cs (and_second _ _ h))

-- a word without blank, newline and `=` is one without blank and newline
pub dark_from_plain : (word : List ℕ) → IsPlain word → IsDark word
dark_from_plain word h = all_weaker is_plain_char is_dark_char (λ c p. and_first _ _ p) word h

-- ---- the fields

digit_of : (d : ℕ) → d < 10 → is_ascii_digit (48 + d) ≡ true
digit_of d small = grind (arith, nat_tests)

list_all-push : (p : ℕ → Bool) (xs : List ℕ) (x : ℕ) → list_all p xs ≡ true → p x ≡ true → list_all p (xs ++ x ∷ []) ≡ true
list_all-push p [] x all is = and_both is refl
list_all-push p (y ∷ ys) x all is = and_both (and_first _ _ all) (list_all-push p ys x (and_second _ _ all) is)

-- a decimal has digits alone
pub digits_decimal : (n : ℕ) → n < 2 ^ 64 → list_all is_ascii_digit (decimal n) ≡ true
digits_decimal n small = decimal_by_steps (λ m ds. list_all is_ascii_digit ds ≡ true)
    (λ m lt. and_both (digit_of m lt) refl)
    (λ m ds le all. list_all-push is_ascii_digit ds (48 + m % 10) all (digit_of (m % 10) (omega arith)))
    n small

plain_decimal : (n : ℕ) → n < 2 ^ 64 → IsPlain (decimal n)
plain_decimal n small = all_weaker is_ascii_digit is_plain_char (λ c h. grind (arith, nat_tests)) (decimal n) (digits_decimal n small)

plain_short : (n : ℕ) → IsShort n → IsPlain (decimal n)
plain_short n small = plain_decimal n (omega (arith, small))

plain_name : (name : List ℕ) → is_name name ≡ true → IsPlain name
plain_name name is = all_weaker is_name_char is_plain_char (λ c h. grind (arith, nat_tests)) name (and_second _ _ is)

plain_hex : (bytes : List ℕ) → IsBytes bytes → IsPlain (hex_text bytes)
plain_hex [] small = refl
plain_hex (b ∷ bs) small = all_weaker is_hex_digit is_plain_char (λ c h. grind (arith, nat_tests)) (encode_lower (b ∷ bs))
    (list_all-from_AllPass is_hex_digit (encode_lower (b ∷ bs)) (decode_of-ok (encode_lower (b ∷ bs)) (b ∷ bs) (decode_of-encode_lower (b ∷ bs) small)).1)

plain_both : (a b : List ℕ) → IsPlain a → IsPlain b → IsPlain (a ++ b)
plain_both a b p q = list_all-append is_plain_char a b ∙ and_both p q

plain_looked : (looked : Looked) → IsLooked looked → IsPlain (looked_text looked)
plain_looked looked is = plain_both (decimal looked.frame) (58 ∷ decimal looked.word) (plain_short looked.frame is.0) (plain_decimal looked.word is.1)

plain_owner : (owner : Option ℕ) → IfSome owner IsShort → IsPlain (owner_text owner)
plain_owner None fits = refl
plain_owner (Some enclave) fits = plain_short enclave fits

-- a stamp, or none, is printed without blank, newline and `=`
pub plain_stamp : (stamp : Option ℕ) → IfSome stamp IsLong → IsPlain (stamp_text stamp)
plain_stamp None fits = refl
plain_stamp (Some stamp) fits = plain_decimal stamp fits

-- so is an actor
pub plain_actor : (actor : Actor) → IsWho actor → IsPlain (actor_text actor)
plain_actor (Caller number) is = plain_decimal number (omega (arith, is.1))
plain_actor Swapper is = refl
plain_actor Balloon is = refl
plain_actor Host is = refl

plain_call : (call : CallWord) → IsPlain (call_text call)
plain_call Echo = refl
plain_call calls.Put = refl
plain_call Get = refl
plain_call Cut = refl
plain_call Clock = refl

plain_part : (part : Part) → IsPlain (part_text part)
plain_part Present = refl
plain_part Frame = refl
plain_part Absent = refl
plain_part Linked = refl
plain_part Owner = refl
plain_part Untied = refl

-- ---- commands and replies

abbrev pub ArePlain : List (List ℕ) → Type 0
ArePlain words = AllByRecursion IsPlain words

-- none of the words has a blank or a newline
abbrev pub AreDark : List (List ℕ) → Type 0
AreDark words = AllByRecursion IsDark words

-- the words of a printed command have neither blank, newline nor `=`
pub plain_fields : (command : Word) → HasFields command → ArePlain (fields command)
plain_fields (Alloc name bytes) has = (refl, (plain_name name has.0, (plain_short bytes has.1, tt)))
plain_fields (Free name) has = (refl, (plain_name name has, tt))
plain_fields (Share name) has = (refl, (plain_name name has, tt))
plain_fields (Read name offset len) has = (refl, (plain_name name has.0, (plain_short offset has.1, (plain_short len has.2, tt))))
plain_fields (Write name offset bytes) has = (refl, (plain_name name has.0, (plain_short offset has.1, (plain_hex bytes has.2, tt))))
plain_fields (Tie name offset) has = (refl, (plain_name name has.0, (plain_short offset has.1, tt)))
plain_fields (Untie name offset) has = (refl, (plain_name name has.0, (plain_short offset has.1, tt)))
plain_fields (Fill page frame) has = (refl, (plain_short page has.0, (plain_short frame has.1, tt)))
plain_fields (Evict page frame) has = (refl, (plain_short page has.0, (plain_short frame has.1, tt)))
plain_fields (Move frame from to) has = (refl, (plain_short frame has.0, (plain_owner from has.1, (plain_owner to has.2, tt))))
plain_fields (Flip place bit) has = (refl, (plain_short place has.0, (plain_short bit has.1, tt)))
plain_fields (SwapPlaces a b) has = (refl, (plain_short a has.0, (plain_short b has.1, tt)))
plain_fields (Keep place) has = (refl, (plain_short place has, tt))
plain_fields (Restore place) has = (refl, (plain_short place has, tt))
plain_fields (SwapRound enclave low) has = (refl, (plain_short enclave has.0, (plain_short low has.1, tt)))
plain_fields (SetShare enclave to) has = (refl, (plain_short enclave has.0, (plain_short to has.1, tt)))
plain_fields (Call call bytes room) has = (refl, (plain_call call, (plain_hex bytes has.0, (plain_short room has.1, tt))))

plain_block : (block : Option (List ℕ)) → IfSome block IsBlock → ArePlain (block_fields block)
plain_block None is = tt
plain_block (Some block) is = (plain_hex block is.0, tt)

plain_sweep : (sweep : List Looked) → AllByRecursion IsLooked sweep → ArePlain (map looked_text sweep)
plain_sweep [] is = tt
plain_sweep (looked ∷ sweep) is = (plain_looked looked is.0, plain_sweep sweep is.1)

-- nor have those of a printed reply
pub plain_answer : (reply : Answer) → HasParts reply → ArePlain (answer_fields reply)
plain_answer (At at) has = (refl, (plain_short at has, tt))
plain_answer Okay has = (refl, tt)
plain_answer (Got bytes) has = (refl, (plain_hex bytes has, tt))
plain_answer (Put count) has = (refl, (plain_short count has, tt))
plain_answer BadSize has = (refl, tt)
plain_answer NoSpace has = (refl, tt)
plain_answer NotABlock has = (refl, tt)
plain_answer (NotYours owner) has = (refl, (plain_short owner has, tt))
plain_answer BadRange has = (refl, tt)
plain_answer Unallocated has = (refl, tt)
plain_answer (Worn sub) has = (refl, (plain_short sub has, tt))
plain_answer (Tampered sub block) has = (refl, (plain_short sub has.0, plain_block block has.1))
plain_answer (NoFrame sweep) has = (refl, plain_sweep sweep has)
plain_answer (Enough free sweep) has = (refl, (plain_short free has.0, plain_sweep sweep has.1))
plain_answer (Swept free sweep) has = (refl, (plain_short free has.0, plain_sweep sweep has.1))
plain_answer (Reached share) has = (refl, (plain_short share has, tt))
plain_answer (Short share sweep) has = (refl, (plain_short share has.0, plain_sweep sweep has.1))
plain_answer (Pinned share sweep) has = (refl, (plain_short share has.0, plain_sweep sweep has.1))
plain_answer (Illegal part) has = (refl, (plain_part part, tt))
plain_answer (Replied status bytes) has = (refl, (plain_decimal status has.0, (plain_hex bytes has.1, tt)))
plain_answer (WrongId seen) has = (refl, (plain_decimal seen has, tt))
plain_answer (TooLong seen) has = (refl, (plain_decimal seen has, tt))
plain_answer (BadStatus seen) has = (refl, (plain_decimal seen has, tt))
plain_answer Nothing has = (refl, tt)
plain_answer Skipped has = (refl, tt)

-- words without blank, newline and `=` are words without blank and newline
pub dark_all : (words : List (List ℕ)) → ArePlain words → AreDark words
dark_all [] h = tt
dark_all (word ∷ words) h = (dark_from_plain word h.0, dark_all words h.1)

-- two lists of words without blank and newline are one such list together
pub dark_both : (a b : List (List ℕ)) → AreDark a → AreDark b → AreDark (a ++ b)
dark_both [] b p q = q
dark_both (word ∷ a) b p q = (p.0, dark_both a b p.1 q)

-- ---- words and lines are split where they were joined

all_false : (p : ℕ → Bool) → ((c : ℕ) → is_dark_char c ≡ true → p c ≡ false) → (text : List ℕ) → IsDark text → All (λ c. p c ≡ false) text
all_false p fails [] h k d lt = absurd (omega arith)
all_false p fails (c ∷ cs) h zero d lt = fails c (and_first _ _ h)
all_false p fails (c ∷ cs) h (suc k) d lt = all_false p fails cs (and_second _ _ h) k d (omega arith)

no_blank : (text : List ℕ) → IsDark text → All (λ c. is_blank c ≡ false) text
no_blank text h = all_false is_blank (λ c p. grind (arith, nat_tests)) text h

-- words joined by blanks are split at them again
pub slice_split-join : (text : List ℕ) (texts : List (List ℕ)) → IsDark text → AreDark texts → slice_split is_blank (join_with_byte 32 (text ∷ texts)) ≡ text ∷ texts
slice_split-join text [] dark rest = slice_split_none is_blank text (no_blank text dark)
slice_split-join text (next ∷ texts) dark rest =
    slice_split_at is_blank text 32 (join_with_byte 32 (next ∷ texts)) (no_blank text dark) refl ∙ ap (λ parts. text ∷ parts) (slice_split-join next texts rest.0 rest.1)

abbrev is_one_line : List ℕ → Bool
is_one_line text = list_all (λ c. not (is_newline c)) text

one_line_word : (text : List ℕ) → IsDark text → is_one_line text ≡ true
one_line_word text dark = all_weaker is_dark_char (λ c. not (is_newline c)) (λ c h. grind (arith, nat_tests)) text dark

one_line_join : (text : List ℕ) (texts : List (List ℕ)) → IsDark text → AreDark texts → is_one_line (join_with_byte 32 (text ∷ texts)) ≡ true
one_line_join text [] dark rest = one_line_word text dark
one_line_join text (next ∷ texts) dark rest = list_all-append (λ c. not (is_newline c)) text (32 ∷ join_with_byte 32 (next ∷ texts)) ∙ and_both (one_line_word text dark) (one_line_join next texts rest.0 rest.1)

-- the line is of ASCII
ascii_word : (text : List ℕ) → IsDark text → IsAscii text
ascii_word [] dark = IsAscii-nil
ascii_word (c ∷ cs) dark = let first = and_first (is_dark_char c) (is_dark cs) dark in IsAscii-cons c cs (small c first) (ascii_word cs (and_second (is_dark_char c) (is_dark cs) dark)) where
  small : (d : ℕ) → is_dark_char d ≡ true → d < 128
  small d h = grind (arith, nat_tests)

-- words without blank and newline, joined by blanks, are a text of ASCII
pub ascii_join : (text : List ℕ) (texts : List (List ℕ)) → IsDark text → AreDark texts → IsAscii (join_with_byte 32 (text ∷ texts))
ascii_join text [] dark rest = ascii_word text dark
ascii_join text (next ∷ texts) dark rest = IsAscii-append text (32 ∷ join_with_byte 32 (next ∷ texts)) (ascii_word text dark) (IsAscii-cons 32 (join_with_byte 32 (next ∷ texts)) (omega arith) (ascii_join next texts rest.0 rest.1))

not_true : {a : Bool} → not a ≡ true → a ≡ false
not_true {a} h = grind (arith, nat_tests)

one_line_all : (text : List ℕ) → is_one_line text ≡ true → All (λ c. is_newline c ≡ false) text
one_line_all [] h k d lt = absurd (omega arith)
one_line_all (c ∷ cs) h zero d lt = not_true (and_first _ _ h)
one_line_all (c ∷ cs) h (suc k) d lt = one_line_all cs (and_second _ _ h) k d (omega arith)

-- a line of such words is split off a text
pub slice_split-line : (text : List ℕ) (texts : List (List ℕ)) (rest : List ℕ) → IsDark text → AreDark texts
    → slice_split is_newline (join_with_byte 32 (text ∷ texts) ++ 10 ∷ rest) ≡ join_with_byte 32 (text ∷ texts) ∷ slice_split is_newline rest
slice_split-line text texts rest dark all = slice_split_at is_newline (join_with_byte 32 (text ∷ texts)) 10 rest (one_line_all (join_with_byte 32 (text ∷ texts)) (one_line_join text texts dark all)) refl

-- ---- words are parted at the first `=`

no_equals : (word : List ℕ) → IsPlain word → is_equals word ≡ false
no_equals [] h = refl
no_equals (c ∷ cs) h = let first = and_first (is_plain_char c) (is_plain cs) h in grind (arith, nat_tests)

-- with one word more in front, the first words are that word and the first of the others
pub take-next : (n : ℕ) (word : List ℕ) (words : List (List ℕ)) → take (1 + n) (word ∷ words) ≡ word ∷ take n words
take-next n word words = let next : 1 + n ≡ suc n = omega arith in rw next refl

-- and what stands behind them is what stands behind the first of the others
pub drop-next : (n : ℕ) (word : List ℕ) (words : List (List ℕ)) → drop (1 + n + 1) (word ∷ words) ≡ drop (n + 1) words
drop-next n word words = let next : 1 + n + 1 ≡ suc (n + 1) = omega arith in rw next refl

module _ (back : List (List ℕ)) where
  -- the words of a line, where these stand before its `=`
  abbrev line_with : List (List ℕ) → List (List ℕ)
  line_with front = front ++ codes "=" ∷ back

  any_equals : (front : List (List ℕ)) → ArePlain front → list_any is_equals (front ++ codes "=" ∷ back) ≡ true
  any_equals [] h = refl
  any_equals (word ∷ front) h = rw (no_equals word h.0) (any_equals front h.1)

  before_equals : (front : List (List ℕ)) → ArePlain front → before_first is_equals (front ++ codes "=" ∷ back) ≡ front
  before_equals [] h = refl
  before_equals (word ∷ front) h = rw (no_equals word h.0) (take-next (position_or_len is_equals (line_with front)) word (line_with front) ∙ ap (λ ws. word ∷ ws) (before_equals front h.1))

  after_equals : (front : List (List ℕ)) → ArePlain front → after_first is_equals (front ++ codes "=" ∷ back) ≡ back
  after_equals [] h = refl
  after_equals (word ∷ front) h = rw (no_equals word h.0) (drop-next (position_or_len is_equals (line_with front)) word (line_with front) ∙ after_equals front h.1)

  -- what stands before the first `=` and behind it
  pub parted-again : (front : List (List ℕ)) → ArePlain front → parted (front ++ codes "=" ∷ back) ≡ Ok (front, back)
  parted-again front h = rw (any_equals front h, before_equals front h, after_equals front h) refl
