-- The word of a cell: bit 0 is BUSY, bit 1 is REF, and the pins are bits 8 to 39.
use Rattle.std.specs.Prelude.{◌≡◌, ℕ, Bool, ◌==◌, ◌||◌, nat_lt, ◌/◌, ◌%◌, ◌^◌, ◌<◌}

-- somebody has the turn, as a fact and as a test
abbrev pub IsBusy : ℕ → Type 0
IsBusy n = n % 2 ≡ 1

-- the same as a test
abbrev pub is_busy : ℕ → Bool
is_busy n = n % 2 == 1

-- nobody has the turn
abbrev pub IsFree : ℕ → Type 0
IsFree n = n % 2 ≡ 0

-- it was touched since the mark was cleared
abbrev pub IsReferenced : ℕ → Type 0
IsReferenced n = n / 2 % 2 ≡ 1

-- the pins of all hands on the cell
abbrev pub pins_in : ℕ → ℕ
pins_in n = n / 256 % 2 ^ 32

-- somebody has the turn, or there are pins
abbrev pub is_taken : ℕ → Bool
is_taken n = is_busy n || nat_lt 0 (pins_in n)

-- bits 2 to 7 and those from 40 on are 0
pub record IsPlain (n : ℕ) : Type 0 where
  pub low : n % 256 < 4
  pub high : n < 2 ^ 40
