-- What the table of calls keeps.
use Rattle.std.specs.Prelude.{ℕ, List}

-- a value under its key, the number that eight bytes spell
pub record KeptValue : Type 0 where
  pub key : ℕ
  pub value : List ℕ

-- the values, the key first that was put first, and how many jobs were done
pub record TableState : Type 0 where
  pub kept : List KeptValue
  pub done : ℕ
