-- What an event came to: it was applied, refused for what it offends against, or wanted memory.
use Rattle.std.proofs.Common.{◌≡◌, ℕ, List, [], length, All, Option, Some, IfSome, Result, Ok, Err, slice_index_or, slice_set, refl, sym, ◌∙◌, subst, ap}
use Rattle.std.proofs.lemmas.List.{set-get_or}
use Rattle.std.specs.Result.{IsErrAnd}
use Rattle.eleos_base.specs.declared.memory.Part.{Part as Offence}
use Rattle.eleos_base.specs.declared.memory.Reply.{Reply}
use Rattle.eleos_core.specs.declared.event.Event.{Event}
use Rattle.eleos_core.specs.declared.machine.ApplyRefused.{ApplyRefused}
use Rattle.eleos_core.specs.declared.machine.ApplyRefused.TheVariants.{Illegal, NoMemory}
use Rattle.eleos_core.specs.declared.machine.Effect.{Effect}
use Rattle.eleos_core.specs.declared.machine.Put.{Put}
use Rattle.eleos_core.specs.Applying.{AlwaysApplies, AlwaysIllegal}
use Rattle.eleos_core.specs.Cells.{Cells, sub_size}
use Rattle.eleos_core.specs.Memory.{MayWantMemory}
use Rattle.eleos_core.specs.Outcomes.{Outcome}
use Rattle.eleos_core.specs.Accesses.{AreBlocks}
use Rattle.eleos_core.specs.Seals.{Seals}
use Rattle.eleos_core.proofs.AccessParts.{no_blocks}

-- want of memory is no offence
pub no_offence : (r : Result Effect ApplyRefused) (part : Offence) → IsErrAnd r (λ e. e ≡ NoMemory) → r ≡ Err (Illegal part) → ⊥
no_offence (Ok effect) part only same = only
no_offence (Err e) part only same = cc

-- what is said of the offence that was found
pub said_of : (P : Offence → Type 0) (found : Option Offence) (part : Offence) → found ≡ Some part → IfSome found P → P part
said_of P found part is holds = let said : IfSome (Some part) P = subst (λ o. IfSome o P) is holds in said

-- what is put back at its place changes nothing
pub set_back : {X : Type 0} (xs : List X) (i : ℕ) (was now : X) → was ≡ slice_index_or xs i was → now ≡ was → slice_set xs i now ≡ xs
set_back xs i was now value same = ap (slice_set xs i) (same ∙ value) ∙ set-get_or xs i was

module _ (x : Seals) (old : Cells) (who : ℕ) (event : Event) (given : List (List ℕ)) where
  -- it is refused for what it offends against
  pub refused : (part : Offence) → AlwaysIllegal x old who event given part → Outcome x old who event given (Err (Illegal part)) old
  refused part is_illegal = record {
    applied = tt;
    blocks = tt;
    illegal = λ named same. let is : part ≡ named = cc in subst (λ (z : Offence). AlwaysIllegal x old who event given z) is is_illegal;
    memory = λ same. absurd (let no : ⊥ = cc in no);
    err = refl;
  }

  -- it wanted memory, and changed nothing
  pub wanting : (r : Result Effect ApplyRefused) (new : Cells) → IsErrAnd r (λ e. e ≡ NoMemory) → new ≡ old → MayWantMemory old who event → Outcome x old who event given r new
  wanting (Ok effect) new only same may = absurd only
  wanting (Err e) new only same may = record { applied = tt; blocks = tt; illegal = λ part is. absurd (no_offence (Err e) part only is); memory = λ _. may; err = same }

  -- it was applied
  pub came : (new : Cells) (effect : Effect) → AlwaysApplies x old who event given effect.reply effect.puts new → All (λ put. length put.block ≡ sub_size) effect.puts → Outcome x old who event given (Ok effect) new
  came new effect applies blocks_fit = record { applied = applies; blocks = blocks_fit; illegal = λ part same. absurd (let no : ⊥ = cc in no); memory = λ same. absurd (let no : ⊥ = cc in no); err = tt }

  -- the answer has this reply, and no blocks for the host
  pub answered : (new : Cells) (reply told : Reply) (sent : List Put) → told ≡ reply → sent ≡ [] → AlwaysApplies x old who event given reply [] new → AlwaysApplies x old who event given told sent new
  answered new reply told sent told_is none applied = subst (λ (z : Reply × List Put). AlwaysApplies x old who event given z.0 z.1 new) (λ i. (sym told_is i, sym none i)) applied

  -- it came to the same with no blocks as with those given, where none are taken
  pub outcome_given : (r : Result Effect ApplyRefused) (new : Cells) → AreBlocks [] given → Outcome x old who event [] r new → Outcome x old who event given r new
  outcome_given r new fit outcome = subst (λ blocks. Outcome x old who event blocks r new) (sym (no_blocks given fit)) outcome
