-- Blocks as they lie at the host, and their bits.
use Rattle.std.specs.Prelude.{◌≡◌, ℕ, ◌/◌, ◌%◌, ◌^◌, List, length, replicate, slice_index, slice_set, bit_xor}
use Rattle.eleos_host.specs.declared.block.TheConstants.{BLOCK_BYTES}

-- bytes that have the length of a block
abbrev pub IsBlock : List ℕ → Type 0
IsBlock bytes = length bytes ≡ BLOCK_BYTES

-- what a place that was never written reads as
unfoldable pub zero_block : List ℕ
zero_block = replicate BLOCK_BYTES 0

-- the block with one bit turned: bit k is the bit of value 2^(k mod 8) in byte k / 8
abbrev pub with_bit_flipped : List ℕ → ℕ → List ℕ
with_bit_flipped block bit = slice_set block (bit / 8) (bit_xor (slice_index block (bit / 8)) (2 ^ (bit % 8)))
