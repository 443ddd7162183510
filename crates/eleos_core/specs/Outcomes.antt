-- What an event comes to on the cells.
use Rattle.std.specs.Prelude.{◌≡◌, ℕ, List, length, All, Result, Err, IfOk, OnErr}
use Rattle.eleos_base.specs.declared.memory.Part.{Part as Offence}
use Rattle.eleos_core.specs.declared.event.Event.{Event}
use Rattle.eleos_core.specs.declared.machine.ApplyRefused.{ApplyRefused}
use Rattle.eleos_core.specs.declared.machine.ApplyRefused.TheVariants.{Illegal, NoMemory}
use Rattle.eleos_core.specs.declared.machine.Effect.{Effect}
use Rattle.eleos_core.specs.Applying.{AlwaysApplies, AlwaysIllegal}
use Rattle.eleos_core.specs.Cells.{Cells, sub_size}
use Rattle.eleos_core.specs.Memory.{MayWantMemory}
use Rattle.eleos_core.specs.Seals.{Seals}

-- the event was applied where the result says so, and was refused for its cause where it does not
pub record Outcome (x : Seals) (old : Cells) (who : ℕ) (event : Event) (given : List (List ℕ)) (result : Result Effect ApplyRefused) (new : Cells) : Type 0 where
  pub applied : IfOk result (λ effect. AlwaysApplies x old who event given effect.reply effect.puts new)
  -- each block for the host has the bytes of a sub-page
  pub blocks : IfOk result (λ effect. All (λ put. length put.block ≡ sub_size) effect.puts)
  pub illegal : (part : Offence) → result ≡ Err (Illegal part) → AlwaysIllegal x old who event given part
  pub memory : result ≡ Err NoMemory → MayWantMemory old who event
  -- a refusal leaves the cells as they were
  pub err : OnErr result (new ≡ old)
