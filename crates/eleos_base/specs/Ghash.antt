-- GHASH (SP 800-38D, 6.4), as the sum of the blocks' products with powers of the hash subkey.
use Rattle.std.specs.Prelude.{ℕ, zero, suc, ◌/◌, List, [], ◌∷◌, length, take, drop, bit_xor}
use Rattle.eleos_base.specs.BlockField.{number_of, block_of, product, power}

-- the first n blocks of a string of bytes, as numbers
unfoldable pub blocks : ℕ → List ℕ → List ℕ
blocks zero bytes = []
blocks (suc n) bytes = number_of (take 16 bytes) ∷ blocks n (drop 16 bytes)

-- the sum, over n blocks, of block i, from 1 on, times h to the power n + 1 - i (6.4)
unfoldable pub sum_of_powers : ℕ → List ℕ → ℕ
sum_of_powers h [] = 0
sum_of_powers h (x ∷ xs) = bit_xor (product x (power h (length (x ∷ xs)))) (sum_of_powers h xs)

-- the hash of whole blocks under a hash subkey of 16 bytes: 16 bytes (6.4)
unfoldable pub ghash : List ℕ → List ℕ → List ℕ
ghash h bytes = block_of (sum_of_powers (number_of h) (blocks (length bytes / 16) bytes))
