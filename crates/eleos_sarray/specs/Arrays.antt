-- An array in a private block: where its numbers lie, and which they are.
use Rattle.std.specs.Prelude.{◌≡◌, ℕ, ◌+◌, ◌*◌, ◌%◌, ◌^◌, ◌≤◌, List, map}
use Rattle.std.specs.List.{range_with_len}
use Rattle.std.specs.Int.{w64, from_le_bytes, to_le_bytes}
use Rattle.eleos_base.specs.declared.memory.Addr.{Addr}
use Rattle.eleos_base.specs.Own.{IsAmong, Private, block_of, text_at}
use Rattle.eleos_sarray.specs.declared.array.SArray.{SArray}

-- the 8 bytes of a number, low byte first
unfoldable pub bytes_of : ℕ → List ℕ
bytes_of n = to_le_bytes w64 n

-- the number of 8 bytes, low byte first
unfoldable pub number_of : List ℕ → ℕ
number_of bytes = from_le_bytes w64 bytes

-- the address of an item, which has 8 bytes
abbrev pub item_at : SArray → ℕ → Addr
item_at a i = record { enclave = a.at.enclave; at = a.at.at + 8 * i }

-- an item: the number at its address
abbrev pub item : Private → SArray → ℕ → ℕ
item p a i = number_of (text_at p (a.at.at + 8 * i) 8)

-- all items in their order
abbrev pub items : Private → SArray → List ℕ
items p a = map (item p a) (range_with_len 0 a.len)

-- the array has a private block of its own, from its first byte on
pub record IsArray (p : Private) (a : SArray) : Type 0 where
  pub some : 1 ≤ a.len
  pub most : a.len ≤ 8192
  pub among : IsAmong (block_of 1024 a.at (8 * a.len)) p.blocks
  pub whole : a.at.at % 1024 ≡ 0
  pub fits : a.at.at + 8 * a.len ≤ 2 ^ 32
