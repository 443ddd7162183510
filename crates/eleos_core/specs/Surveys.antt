-- The one reply that is allowed.
use Rattle.std.specs.Prelude.{◌≡◌, Option, Some, IfSome}
use Rattle.eleos_base.specs.declared.memory.Reply.{Reply}

-- the reply found is allowed, and every reply that is allowed is that one: where none was found, none is allowed
pub record IsTheReply (Allowed : Reply → Type 0) (found : Option Reply) : Type 0 where
  pub allowed : IfSome found Allowed
  pub only : (reply : Reply) → Allowed reply → found ≡ Some reply
