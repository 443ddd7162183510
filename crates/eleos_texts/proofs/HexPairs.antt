-- Pairs of hex digits, read one after another.
use Rattle.std.proofs.Common.{◌≡◌, ℕ, ◌+◌, ◌*◌, ◌%◌, ◌<◌, ◌≤◌, List, [], ◌∷◌, ◌++◌, length, take, drop, get_or, set, Option, Some, None, unwrap_or, Result, Ok, Err, Bool, true, false, cond, ltb, ◌&&◌, ◌⊎◌, refl, sym, ap, ◌∙◌, append_assoc, append-nil, arith, inl, inr}
use Rattle.std.specs.Int.Bits.{bit_or}
use Rattle.std.proofs.lemmas.Bool.{cases_lt}
use Rattle.std.proofs.lemmas.Bool.Decides.{nat_tests}
use Rattle.std.proofs.lemmas.Nat.{or_lt, le_or_l, le_or_r}
use Rattle.std.proofs.lemmas.List.{drop_all, take_all, take_more_set}
use Rattle.hex.specs.Hex.{◌>>=◌, decode_pairs, digit_or_error, hex_digit_value}
use Rattle.hex.proofs.Pairs.{drop-pair}
use Rattle.hex.specs.declared.error.FromHexError.{FromHexError}
use Rattle.eleos_texts.specs.Fields.{decoded}

-- the value of a digit, 255 where it is none
abbrev pub value : ℕ → ℕ
value digit = unwrap_or (hex_digit_value digit) 255

-- the byte of two values
abbrev pub byte_of : ℕ → ℕ → ℕ
byte_of high low = (high * 16 % 256 + low) % 256

-- these bytes before others, where a test holds
abbrev joined_if : Bool → List ℕ → Option (List ℕ) → Option (List ℕ)
joined_if test front None = None
joined_if test front (Some bytes) = cond test (Some (front ++ bytes)) None

-- these bytes before others, unless one of the values that were read is none
abbrev pub joined : ℕ → List ℕ → Option (List ℕ) → Option (List ℕ)
joined any front bytes = joined_if (ltb any 16) front bytes

-- the bytes of pairs of digits, pair by pair
unfoldable pub pairs : List ℕ → Option (List ℕ)
pairs [] = Some []
pairs (digit ∷ []) = None
pairs (high ∷ low ∷ rest) = joined (bit_or (value high) (value low)) (byte_of (value high) (value low) ∷ []) (pairs rest)

-- values are digits' where all their bits together are
or_below : (a b : ℕ) → ltb (bit_or a b) 16 ≡ (ltb a 16 && ltb b 16)
or_below a b = by (cases_lt a 16) (cases_lt b 16) where
  by : (a < 16) ⊎ (16 ≤ a) → (b < 16) ⊎ (16 ≤ b) → ltb (bit_or a b) 16 ≡ (ltb a 16 && ltb b 16)
  by (inl la) (inl lb) = let both : bit_or a b < 16 = or_lt 4 a b la lb in grind (arith, nat_tests)
  by (inr ga) _ = let more : a ≤ bit_or a b = le_or_l a b in grind (arith, nat_tests)
  by (inl la) (inr gb) = let more : b ≤ bit_or a b = le_or_r a b in grind (arith, nat_tests)

joined_if-joined_if : (s t : Bool) (f g : List ℕ) (others : Option (List ℕ)) → joined_if s f (joined_if t g others) ≡ joined_if (s && t) (f ++ g) others
joined_if-joined_if s t f g None = refl
joined_if-joined_if true true f g (Some bytes) = ap Some (sym (append_assoc f g bytes))
joined_if-joined_if true false f g (Some bytes) = refl
joined_if-joined_if false true f g (Some bytes) = refl
joined_if-joined_if false false f g (Some bytes) = refl

-- what is read so far, then more, and then the others
joined-joined : (a b : ℕ) (f g : List ℕ) (others : Option (List ℕ)) → joined a f (joined b g others) ≡ joined (bit_or a b) (f ++ g) others
joined-joined a b f g others = rw (or_below a b) (joined_if-joined_if (ltb a 16) (ltb b 16) f g others)

-- a digit's value is below 16
value_below : (digit v : ℕ) → hex_digit_value digit ≡ Some v → v < 16
value_below digit v is = grind (arith, nat_tests)

-- with a byte that is no digit nothing is below 16
none_below : (a b : ℕ) → (255 ≤ a) ⊎ (255 ≤ b) → ltb (bit_or a b) 16 ≡ false
none_below a b none = rw (or_below a b) (grind (arith, nat_tests))

-- a pair and others, as they decode
pair_decoded : (high low i : ℕ) (h l : Option ℕ) (others : Result (List ℕ) FromHexError) → ((v : ℕ) → h ≡ Some v → v < 16) → ((v : ℕ) → l ≡ Some v → v < 16)
    → decoded ((digit_or_error high i h >>= λ a. digit_or_error low (i + 1) l >>= λ b. Ok (a * 16 + b)) >>= λ byte. others >>= λ bytes. Ok (byte ∷ bytes))
    ≡ joined (bit_or (unwrap_or h 255) (unwrap_or l 255)) (byte_of (unwrap_or h 255) (unwrap_or l 255) ∷ []) (decoded others)
pair_decoded high low i (Some v) (Some w) (Ok bytes) small_v small_w =
    let lv : v < 16 = small_v v refl in
    let lw : w < 16 = small_w w refl in
    let both : bit_or v w < 16 = or_lt 4 v w lv lw in
    let below : ltb (bit_or v w) 16 ≡ true = grind (arith, nat_tests) in
    let same : v * 16 + w ≡ byte_of v w = omega arith in
    rw below (ap (λ byte. Some (byte ∷ bytes)) same)
pair_decoded high low i (Some v) (Some w) (Err e) small_v small_w = refl
pair_decoded high low i (Some v) None (Ok bytes) small_v small_w = rw (none_below v 255 (inr (omega arith))) refl
pair_decoded high low i (Some v) None (Err e) small_v small_w = refl
pair_decoded high low i None l (Ok bytes) small_v small_w = rw (none_below 255 (unwrap_or l 255) (inl (omega arith))) refl
pair_decoded high low i None l (Err e) small_v small_w = refl

-- pairs of digits decode so, whatever place they stand at
pub decoded-pairs : (i : ℕ) (text : List ℕ) → decoded (decode_pairs i text) ≡ pairs text
unfolding decode_pairs pairs
decoded-pairs i [] = refl
decoded-pairs i (digit ∷ []) = refl
decoded-pairs i (high ∷ low ∷ rest) =
    pair_decoded high low i (hex_digit_value high) (hex_digit_value low) (decode_pairs (i + 2) rest) (value_below high) (value_below low)
    ∙ ap (joined (bit_or (value high) (value low)) (byte_of (value high) (value low) ∷ [])) (decoded-pairs (i + 2) rest)

-- nothing was read yet
pub joined-none : (bytes : Option (List ℕ)) → joined 0 [] bytes ≡ bytes
joined-none None = refl
joined-none (Some bytes) = refl

pairs-end : (any : ℕ) (bytes : List ℕ) → joined any bytes (pairs []) ≡ cond (ltb any 16) (Some bytes) None
unfolding pairs
pairs-end any bytes = ap (λ all. cond (ltb any 16) (Some all) None) (append-nil bytes)

-- all pairs were read
pub read_done : (text bytes : List ℕ) (any i : ℕ) → length bytes ≤ i → length text ≤ 2 * i → joined any (take i bytes) (pairs (drop (2 * i) text)) ≡ pairs text
    → decoded (decode_pairs 0 text) ≡ cond (ltb any 16) (Some bytes) None
read_done text bytes any i all none so_far =
    let whole = rw (take_all i bytes all, drop_all (2 * i) text none) at so_far in
    decoded-pairs 0 text ∙ sym whole ∙ pairs-end any bytes

pairs-cons : (high low : ℕ) (rest : List ℕ) → pairs (high ∷ low ∷ rest) ≡ joined (bit_or (value high) (value low)) (byte_of (value high) (value low) ∷ []) (pairs rest)
unfolding pairs
pairs-cons high low rest = refl

-- one pair more was read
pub read_next : (text bytes : List ℕ) (any i : ℕ) → 2 * i + 1 < length text → i < length bytes → joined any (take i bytes) (pairs (drop (2 * i) text)) ≡ pairs text
    → joined (bit_or any (bit_or (value (get_or text (2 * i) 0)) (value (get_or text (2 * i + 1) 0))))
    (take (i + 1) (set bytes i (byte_of (value (get_or text (2 * i) 0)) (value (get_or text (2 * i + 1) 0))))) (pairs (drop (2 * (i + 1)) text)) ≡ pairs text
read_next text bytes any i within room so_far =
    let high = get_or text (2 * i) 0 in
    let low = get_or text (2 * i + 1) 0 in
    let front = take_more_set bytes i (byte_of (value high) (value low)) room in
    let rest = drop (2 * (i + 1)) text in
    let here = ap pairs (drop-pair text i within) ∙ pairs-cons high low rest in
    rw front (sym (joined-joined any (bit_or (value high) (value low)) (take i bytes) (byte_of (value high) (value low) ∷ []) (pairs rest))
    ∙ ap (joined any (take i bytes)) (sym here) ∙ so_far)
