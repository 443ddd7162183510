-- What an actor that may give a round or a change of a share brings to it.
use Rattle.std.proofs.Common.{◌≡◌, ℕ, ◌+◌, ◌*◌, ◌<◌, ◌≤◌, length, refl, sym, ap, subst, arith}
use Rattle.eleos_balloon.specs.Holds.{CanShare}
use Rattle.eleos_base.specs.declared.plan.Plan.{Plan}
use Rattle.eleos_base.specs.Places.{all_frames}
use Rattle.eleos_base.specs.Plans.{IsCaller, IsGood}
use Rattle.eleos_core.proofs.Runs.{home-within}
use Rattle.eleos_machine.specs.Machines.{Site, plan_at}
use Rattle.eleos_machine.specs.Passes.{IsLawful, PassState}
use Rattle.eleos_pages.specs.Entered.{CanCall}
use Rattle.eleos_plot.specs.Terms.{core_terms}
use Rattle.eleos_swap.specs.Rounds.{CanSwap}
use Rattle.eleos_trace.specs.Kinds.{IsOfEnclave, MayRun}
use Rattle.eleos_trace.specs.Replays.{IsCallerOf}
use Rattle.eleos_trace.specs.declared.word.Actor as actors
use Rattle.eleos_trace.specs.declared.word.Actor.TheVariants.{Caller, Swapper, Balloon, Host}
use Rattle.eleos_trace.specs.declared.word.Word.{Word}
use Rattle.eleos_trace.specs.declared.word.Word.TheVariants.{Alloc, Free, Share, Read, Write, SwapRound, SetShare, Call}
use Rattle.eleos_turn.specs.Hands.{links_on}
use Rattle.eleos_turn.specs.Numbers.{times}
use Rattle.eleos_run.specs.Steps.{IsIdle}
use Rattle.eleos_run.specs.Tasks.{IsCall}

-- the enclave of an actor that may is one of the plan
pub of_plan : (plan : Plan) (other who : actors.Actor) (enclave : ℕ) → IsGood plan → IsOfEnclave plan other who enclave → enclave < length plan.enclaves
of_plan plan other (Caller number) enclave good of = subst (λ (e : ℕ). e < length plan.enclaves) (sym of.1) (home-within plan number good of.0)
of_plan plan other Swapper enclave good of = of.1
of_plan plan other Balloon enclave good of = of.1
of_plan plan other Host enclave good of = of.1

-- a command that ends in no survey is a caller's
pub caller_gives : (plan : Plan) (who : actors.Actor) (word : Word) → IsCall word → MayRun plan who word → IsCallerOf plan who
caller_gives plan who (Alloc name bytes) call may = may
caller_gives plan who (Free name) call may = may
caller_gives plan who (Share name) call may = may
caller_gives plan who (Read name offset len) call may = may
caller_gives plan who (Write name offset bytes) call may = may.0
caller_gives plan who (SwapRound enclave low) call may = absurd call
caller_gives plan who (SetShare enclave to) call may = absurd call
caller_gives plan who (Call name bytes room) call may = may.0
caller_gives plan who _ call may = absurd may

-- a command that is neither a round nor a change of a share ends in no survey
pub is_call : (word : Word) → ((enclave low : ℕ) → word ≡ SwapRound enclave low → ⊥) → ((enclave to : ℕ) → word ≡ SetShare enclave to → ⊥) → IsCall word
is_call (SwapRound enclave low) no_round no_share = no_round enclave low refl
is_call (SetShare enclave to) no_round no_share = no_share enclave to refl
is_call _ no_round no_share = tt

module _ (z : Site) (s : PassState) (idle : IsIdle z s) (law : IsLawful s) where
  pub good : IsGood (plan_at z)
  good = subst (λ (y : Site). IsGood (plan_at y)) idle.own law.machine.made.good

  covered : (c : ℕ) → times c s.hand.pins ≤ links_on core_terms s.hand c
  covered c = let none = ap (times c) idle.pins in omega (arith, none)

  -- few numbers name an enclave
  pub enclave_few : (other who : actors.Actor) (enclave : ℕ) → IsOfEnclave (plan_at z) other who enclave → enclave < 65536
  enclave_few other who enclave of = let inside = of_plan (plan_at z) other who enclave good of in let few = good.enclaves in omega (arith, inside, few)

  -- a round may begin
  pub can_swap : (who : actors.Actor) (enclave : ℕ) → IsOfEnclave (plan_at z) Swapper who enclave → all_frames (plan_at z) + 1 ≤ s.hand.left → CanSwap z enclave s
  can_swap who enclave of left = record { own = idle.own; actor = idle.actor; enclave = of_plan (plan_at z) Swapper who enclave good of; no_turn = idle.turns; left = left; covered = covered }

  -- and a change of a share
  pub can_share : (who : actors.Actor) (enclave : ℕ) → IsOfEnclave (plan_at z) Balloon who enclave → 2 * all_frames (plan_at z) + 1 ≤ s.hand.left → CanShare z enclave s
  can_share who enclave of left = record { own = idle.own; actor = idle.actor; enclave = of_plan (plan_at z) Balloon who enclave good of; no_turn = idle.turns; left = left; covered = covered }

  -- and a call
  pub can_call : IsCaller (plan_at z) s.hand.number → 0 < s.hand.left → CanCall z s
  can_call caller left = record { own = idle.own; caller = caller; no_turn = idle.turns; left = left }
