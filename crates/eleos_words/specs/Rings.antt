-- What contracts see of a ring in memory.
use Rattle.std.specs.Prelude.{ℕ}

-- how many words it has; nothing is known of them
pub record Shared : Type 0 where
  pub words : ℕ
