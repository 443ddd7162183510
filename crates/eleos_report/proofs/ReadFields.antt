-- What the readers of fields give.
use Rattle.std.proofs.Common.{◌≡◌, subst, ℕ, ◌-◌, ◌≤◌, List, [], length, Option, Some, None, Result, Ok, Err, Bool, true, false, ◌&&◌, nat_le, eqb, cond, refl, arith, codes}
use Rattle.std.specs.Prelude.{IfOk, IfSome, is_some, unwrap_or}
use Rattle.std.specs.List.{slice_split, slice_index}
use Rattle.std.specs.Str.{bytes_eq}
use Rattle.std.proofs.lemmas.Bool.Decides.{nat_tests}
use Rattle.hex.specs.Hex.{IsBytes, decode_of}
use Rattle.hex.proofs.HexLemmas.{decode_of-ok}
use Rattle.hex.specs.declared.error.FromHexError.{FromHexError}
use Rattle.eleos_trace.specs.declared.word.Actor.{Actor}
use Rattle.eleos_trace.specs.declared.word.Actor.TheVariants.{Caller, Swapper, Balloon, Host}
use Rattle.eleos_texts.specs.Fields.{is, is_numeral, number, is_up_to, most_u32, is_name, hex_bytes, decoded}
use Rattle.eleos_trace.specs.Actors.{actor_of, is_caller_word}
use Rattle.eleos_texts.specs.Reasons.{two, ◌>>=◌}
use Rattle.eleos_report.specs.Fields.{most_u64, block_bytes, formed, found, number_of, name_of, bytes_of, block_of, optional_of, who_of, is_colon, looked_of}
use Rattle.eleos_report.specs.Grammar.{IsShort, IsLong, IsName, IsWho, IsLooked, IsBlock}
use Rattle.eleos_report.proofs.Plain.{and_first, and_second}

-- ---- steps

-- what a second step gives, by what the first one gave
pub step : {A B E : Type 0} (P : A → Type 0) (Q : B → Type 0) (r : Result A E) (f : A → Result B E) → IfOk r P → ((x : A) → P x → IfOk (f x) Q) → IfOk (r >>= f) Q
step P Q (Ok x) f p next = next x p
step P Q (Err e) f p next = tt

-- what a step gives, whatever came before it
pub any_step : {A B E : Type 0} (Q : B → Type 0) (r : Result A E) (f : A → Result B E) → ((x : A) → IfOk (f x) Q) → IfOk (r >>= f) Q
any_step Q (Ok x) f next = next x
any_step Q (Err e) f next = tt

-- a value that a test lets through
pub tested : {A : Type 0} (P : A → Type 0) (b : Bool) (x : A) → (b ≡ true → P x) → IfOk (formed b x) P
tested P true x p = p refl
tested P false x p = tt

-- either of two answers
pub either : {A E : Type 0} (P : A → Type 0) (b : Bool) (x y : Result A E) → IfOk x P → IfOk y P → IfOk (cond b x y) P
either P true x y p q = p
either P false x y p q = q

-- ---- fields

le_from : (a b : ℕ) → nat_le a b ≡ true → a ≤ b
le_from a b h = grind (arith, nat_tests)

short_fits : (text : List ℕ) → IfOk (number_of most_u32 text) IsShort
short_fits text = tested IsShort (is_numeral text && is_up_to most_u32 text) (number text) (λ h. let le = le_from (number text) most_u32 (and_second (is_numeral text) (is_up_to most_u32 text) h) in omega (arith, le))

long_fits : (text : List ℕ) → IfOk (number_of most_u64 text) IsLong
long_fits text = tested IsLong (is_numeral text && is_up_to most_u64 text) (number text) (λ h. let le = le_from (number text) most_u64 (and_second (is_numeral text) (is_up_to most_u64 text) h) in omega (arith, le))

-- what is read as a number of 32 bits is one
pub short_is : (text : List ℕ) → IfOk (number_of most_u32 text) IsShort
short_is = short_fits

-- what is read as a number of 64 bits is one
pub long_is : (text : List ℕ) → IfOk (number_of most_u64 text) IsLong
long_is = long_fits

-- what is read as a name is one
pub name_is : (text : List ℕ) → IfOk (name_of text) IsName
name_is text = tested IsName (is_name text) text (λ h. h)

some_bytes : (r : Result (List ℕ) FromHexError) (bytes : List ℕ) → decoded r ≡ Some bytes → r ≡ Ok bytes
some_bytes (Ok x) bytes e = cc
some_bytes (Err d) bytes e = absurd cc

no_bytes : IsBytes []
no_bytes i = omega arith

hex_fits : (text bytes : List ℕ) → hex_bytes text ≡ Some bytes → IsBytes bytes
unfolding hex_bytes
hex_fits text bytes e = by (bytes_eq text (codes "-")) (eqb (length text) 0) e where
  by : (a b : Bool) → cond a (Some []) (cond b None (decoded (decode_of text))) ≡ Some bytes → IsBytes bytes
  by true b h = subst IsBytes (same h) no_bytes where
    same : ◌≡◌ {A = Option (List ℕ)} (Some []) (Some bytes) → [] ≡ bytes
    same e = cc
  by false true h = absurd cc
  by false false h = (decode_of-ok text bytes (some_bytes (decode_of text) bytes h)).3

bytes_in_fits : (o : Option (List ℕ)) → ((bytes : List ℕ) → o ≡ Some bytes → IsBytes bytes) → IfSome o IsBytes
bytes_in_fits (Some bytes) h = h bytes refl
bytes_in_fits None h = tt

-- what is read as hex is bytes
pub bytes_are : (text : List ℕ) → IfOk (bytes_of text) IsBytes
bytes_are text = by (hex_bytes text) (bytes_in_fits (hex_bytes text) (hex_fits text)) where
  by : (o : Option (List ℕ)) → IfSome o IsBytes → IfOk (formed (is_some o) (unwrap_or o [])) IsBytes
  by (Some bytes) h = h
  by None h = tt

eq_from : (a b : ℕ) → eqb a b ≡ true → a ≡ b
eq_from a b h = grind (arith, nat_tests)

-- what is read as a block is bytes, as many as a block has
pub block_is : (text : List ℕ) → IfOk (block_of text) IsBlock
block_is text = step IsBytes IsBlock (bytes_of text) (λ bytes. formed (eqb (length bytes) block_bytes) bytes) (bytes_are text)
    (λ bytes are. tested IsBlock (eqb (length bytes) block_bytes) bytes (λ h. (are, eq_from (length bytes) block_bytes h)))

optional_fits : (P : ℕ → Type 0) (most : ℕ) (text : List ℕ) → IfOk (number_of most text) P → IfOk (optional_of most text) (λ o. IfSome o P)
optional_fits P most text fits = either (λ o. IfSome o P) (is (codes "-") text) (Ok None) (number_of most text >>= λ n. Ok (Some n)) tt (step P (λ o. IfSome o P) (number_of most text) (λ n. Ok (Some n)) fits (λ n p. p))

-- the owner of a frame that is read, where there is one, is a number of 32 bits
pub owner_is : (text : List ℕ) → IfOk (optional_of most_u32 text) (λ o. IfSome o IsShort)
owner_is text = optional_fits IsShort most_u32 text (short_fits text)

-- a stamp that is read, where there is one, is a number of 64 bits
pub stamp_is : (text : List ℕ) → IfOk (optional_of most_u64 text) (λ o. IfSome o IsLong)
stamp_is text = optional_fits IsLong most_u64 text (long_fits text)

caller_by : (a b : Bool) (c : ℕ) → (a && b && nat_le 49 c && nat_le c 56) ≡ true → (1 ≤ c - 48) × (c - 48 ≤ 8)
caller_by a b c h =
    let high : c ≤ 56 = le_from c 56 (and_second (a && b && nat_le 49 c) (nat_le c 56) h) in
    let low : 49 ≤ c = le_from 49 c (and_second (a && b) (nat_le 49 c) (and_first (a && b && nat_le 49 c) (nat_le c 56) h)) in (omega arith, omega arith)

who_by : (o : Option Actor) → IfSome o IsWho → IfOk (found o) IsWho
who_by (Some who) is = is
who_by None is = tt

either_some : {A : Type 0} (P : A → Type 0) (b : Bool) (x y : Option A) → (b ≡ true → IfSome x P) → IfSome y P → IfSome (cond b x y) P
either_some P true x y p q = p refl
either_some P false x y p q = q

-- an actor that is read is one of the callers 1 to 8, or another actor
pub who_is : (text : List ℕ) → IfOk (who_of text) IsWho
who_is text = who_by (actor_of text)
    (either_some IsWho (is_caller_word text) (Some (Caller (slice_index text 1 - 48))) _ (λ h. caller_by (eqb (length text) 2) (eqb (slice_index text 0) 99) (slice_index text 1) h)
    (either_some IsWho (is (codes "s") text) (Some Swapper) _ (λ h. tt)
    (either_some IsWho (is (codes "b") text) (Some Balloon) _ (λ h. tt)
    (either_some IsWho (is (codes "h") text) (Some Host) None (λ h. tt) tt))))

-- a frame that is read is a number of 32 bits, and its word one of 64
pub looked_is : (text : List ℕ) → IfOk (looked_of text) IsLooked
looked_is text = any_step IsLooked (two (slice_split is_colon text)) _ (λ x.
    step IsShort IsLooked (number_of most_u32 x.0) _ (short_fits x.0) (λ frame frame_fits.
    step IsLong IsLooked (number_of most_u64 x.1) _ (long_fits x.1) (λ word word_fits. (frame_fits, word_fits))))
