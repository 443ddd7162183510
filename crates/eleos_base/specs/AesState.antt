-- The transformations of the state of AES (FIPS 197). A state is 16 bytes, by columns.
use Rattle.std.specs.Prelude.{ℕ, ◌+◌, ◌-◌, ◌*◌, ◌%◌, List, [], ◌∷◌, slice_index, slice_index_or, bit_xor}
use Rattle.eleos_base.specs.ByteField.{product}
use Rattle.eleos_base.specs.SBox.{s_box}

-- the byte of a state in row r and column c (3.4)
abbrev pub byte_at : List ℕ → ℕ → ℕ → ℕ
byte_at s r c = slice_index s (r + 4 * c)

-- the state with the byte f r c in row r and column c (3.4)
abbrev pub state_of : (ℕ → ℕ → ℕ) → List ℕ
state_of f =
    f 0 0 ∷ f 1 0 ∷ f 2 0 ∷ f 3 0
    ∷ f 0 1 ∷ f 1 1 ∷ f 2 1 ∷ f 3 1
    ∷ f 0 2 ∷ f 1 2 ∷ f 2 2 ∷ f 3 2
    ∷ f 0 3 ∷ f 1 3 ∷ f 2 3 ∷ f 3 3 ∷ []

-- each byte by the S-box (5.1.1)
unfoldable pub sub_bytes : List ℕ → List ℕ
sub_bytes s = state_of (λ r c. s_box (byte_at s r c))

-- row r, turned left by r (5.1.2)
unfoldable pub shift_rows : List ℕ → List ℕ
shift_rows s = state_of (λ r c. byte_at s r ((c + r) % 4))

-- the entry in row r and column k of the circulant matrix with the first row 02 03 01 01 (5.1.3)
abbrev pub mix_entry : ℕ → ℕ → ℕ
mix_entry r k = slice_index (2 ∷ 3 ∷ 1 ∷ 1 ∷ []) ((k + 4 - r) % 4)

-- row r of the matrix times the column of the bytes a, b, c and d (5.1.3)
unfoldable pub mix_row : ℕ → ℕ → ℕ → ℕ → ℕ → ℕ
mix_row r a b c d =
    bit_xor (bit_xor (bit_xor (product (mix_entry r 0) a) (product (mix_entry r 1) b))
    (product (mix_entry r 2) c)) (product (mix_entry r 3) d)

-- each column times the matrix (5.1.3)
unfoldable pub mix_columns : List ℕ → List ℕ
mix_columns s =
    state_of (λ r c. mix_row r (byte_at s 0 c) (byte_at s 1 c) (byte_at s 2 c) (byte_at s 3 c))

-- column c plus word c of a round key, which is four words of four bytes (5.1.4)
unfoldable pub add_round_key : List ℕ → List (List ℕ) → List ℕ
add_round_key s key =
    state_of (λ r c. bit_xor (byte_at s r c) (slice_index (slice_index_or key c []) r))
