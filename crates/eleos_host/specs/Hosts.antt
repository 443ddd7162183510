-- What contracts see of the hosts in memory.
use Rattle.std.specs.Prelude.{ℕ, List, Option}
use Rattle.eleos_host.specs.Crossings.{Placed}
use Rattle.eleos_host.specs.Stores.{Store}

-- what a told host has, and what crossed since `begin`
pub record Told : Type 0 where
  pub store : Store
  pub given : Option (List Placed)
  pub taken : Option (List Placed)

-- what is known of a shared host
pub record Shared : Type 0 where
  pub places : ℕ
