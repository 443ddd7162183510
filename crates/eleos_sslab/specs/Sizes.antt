-- The sizes of slots, in bytes.
use Rattle.std.specs.Prelude.{ℕ, Option, Some, None, nat_lt, nat_le, if◌then◌else◌}
use Rattle.eleos_sslab.specs.declared.size.SlotSize.{SlotSize}
use Rattle.eleos_sslab.specs.declared.size.SlotSize.TheVariants.{Bytes32, Bytes64, Bytes128, Bytes256, Bytes512}

-- the bytes of a slot
abbrev pub slot_bytes : SlotSize → ℕ
slot_bytes Bytes32 = 32
slot_bytes Bytes64 = 64
slot_bytes Bytes128 = 128
slot_bytes Bytes256 = 256
slot_bytes Bytes512 = 512

-- the slots of a block, which has 1,024 bytes
abbrev pub slot_count : SlotSize → ℕ
slot_count Bytes32 = 32
slot_count Bytes64 = 16
slot_count Bytes128 = 8
slot_count Bytes256 = 4
slot_count Bytes512 = 2

-- the least size of a slot that holds an object of n bytes, where n is 1 to 512
unfoldable pub size_for : ℕ → Option SlotSize
size_for n = if nat_lt n 1 then None else if nat_le n 32 then Some Bytes32 else if nat_le n 64 then Some Bytes64 else if nat_le n 128 then Some Bytes128 else if nat_le n 256 then Some Bytes256 else if nat_le n 512 then Some Bytes512 else None
