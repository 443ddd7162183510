-- Planes of bits. Eight vectors of 16 lanes hold eight states by rows: bit b of lane 4r + c of
-- plane k is bit k of the byte in row r and column c of block b.
use Rattle.std.specs.Prelude.{ℕ, ◌+◌, ◌*◌, ◌/◌, ◌%◌, List, [], ◌∷◌, slice_index, slice_index_or, bit_and, bit_xor}
use Rattle.std.specs.Int.{bit_at}
use Rattle.std.specs.Simd.Lanes.{chunk}
use Rattle.eleos_base.specs.AesState.{byte_at, state_of}

-- bit j of lane i of a vector of bytes
abbrev pub lane_bit : List ℕ → ℕ → ℕ → ℕ
lane_bit v i j = bit_at (slice_index v i) j

-- one bit where two bits differ, and where both are one
unfoldable pub differ : ℕ → ℕ → ℕ
differ x y = bit_xor x y

-- one bit where both bits are one
unfoldable pub both : ℕ → ℕ → ℕ
both x y = bit_and x y

-- the byte of eight bits, lowest first
abbrev pub byte_of : ℕ → ℕ → ℕ → ℕ → ℕ → ℕ → ℕ → ℕ → ℕ
byte_of x0 x1 x2 x3 x4 x5 x6 x7 =
    x0 + 2 * (x1 + 2 * (x2 + 2 * (x3 + 2 * (x4 + 2 * (x5 + 2 * (x6 + 2 * x7))))))

-- bit k of the byte in lane i of block b
abbrev pub plane_bit : List (List ℕ) → ℕ → ℕ → ℕ → ℕ
plane_bit x b i k = lane_bit (slice_index_or x k []) i b

-- the byte in lane i of block b
unfoldable pub plane_byte : List (List ℕ) → ℕ → ℕ → ℕ
plane_byte x b i =
    byte_of (plane_bit x b i 0) (plane_bit x b i 1) (plane_bit x b i 2) (plane_bit x b i 3)
    (plane_bit x b i 4) (plane_bit x b i 5) (plane_bit x b i 6) (plane_bit x b i 7)

-- block b: 16 bytes
unfoldable pub block_at : List (List ℕ) → ℕ → List ℕ
block_at x b = state_of (λ r c. plane_byte x b (4 * r + c))

-- the lane that stands n rows further on in the column of lane i
abbrev pub turned : ℕ → ℕ → ℕ
turned i n = (i + 4 * n) % 16

-- the lane of byte i of a block, whose bytes go by columns
abbrev pub lane_of : ℕ → ℕ
lane_of i = 4 * (i % 4) + i / 4

-- eight vectors of 16 bytes that stand one after another
unfoldable pub vectors : List ℕ → List (List ℕ)
vectors bytes =
    chunk 0 16 bytes ∷ chunk 16 16 bytes ∷ chunk 32 16 bytes ∷ chunk 48 16 bytes
    ∷ chunk 64 16 bytes ∷ chunk 80 16 bytes ∷ chunk 96 16 bytes ∷ chunk 112 16 bytes ∷ []

-- the sum of two blocks
unfoldable pub add_block : List ℕ → List ℕ → List ℕ
add_block s key = state_of (λ r c. bit_xor (byte_at s r c) (byte_at key r c))
