-- GHASH by Horner's rule, as the code takes in block after block (SP 800-38D, 6.4).
use Rattle.std.specs.Prelude.{ℕ, List, [], ◌∷◌, bit_xor}
use Rattle.eleos_base.specs.BlockField.{product}

-- the hash after further blocks, from the hash so far
unfoldable pub horner : ℕ → ℕ → List ℕ → ℕ
horner h sum [] = sum
horner h sum (x ∷ xs) = horner h (product (bit_xor sum x) h) xs
