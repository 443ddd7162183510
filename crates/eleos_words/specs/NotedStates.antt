-- What contracts see of the notes of a port.
use Rattle.std.specs.Prelude.{ℕ, List, Option}
use Rattle.eleos_words.specs.Told.{Placed}

-- the words loaded and those stored since `glance`, where they are told, and how many calls were made
pub record Noted : Type 0 where
  pub loaded : Option (List Placed)
  pub stored : Option (List Placed)
  pub calls : ℕ
