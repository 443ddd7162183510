-- A command that its actor may give means an event of the plan, where it means one.
use Rattle.std.proofs.Common.{◌≡◌, ℕ, ◌+◌, ◌*◌, ◌/◌, ◌<◌, List, Option, Some, None, true, nat_lt, slice_index_or, if◌then◌else◌, sym, subst, arith}
use Rattle.std.proofs.lemmas.Bool.{ltb-true}
use Rattle.std.proofs.lemmas.Bool.Decides.{nat_tests}
use Rattle.eleos_base.specs.declared.memory.Addr.{Addr}
use Rattle.eleos_base.specs.declared.memory.Part.TheVariants.{Untied}
use Rattle.eleos_base.specs.declared.plan.Plan.{Plan}
use Rattle.eleos_base.specs.Plain.{is_in_run}
use Rattle.eleos_base.specs.Plans.{IsCaller, IsGood, page_bytes}
use Rattle.eleos_core.specs.declared.event.Event.{Event}
use Rattle.eleos_core.specs.declared.event.Event.TheVariants.{Unlink}
use Rattle.eleos_core.specs.Legal.{IsActor, IsOwner, IsWithin, OneIsPool}
use Rattle.eleos_base.specs.Places.{all_pages, first_sub, page_counts, page_of, sub_of, subs}
use Rattle.eleos_core.proofs.Numbers.{page_exists}
use Rattle.eleos_core.proofs.Tests.{by_test}
use Rattle.eleos_trace.specs.declared.word.Actor as actors
use Rattle.eleos_trace.specs.declared.word.Actor.TheVariants.{Caller, Swapper, Balloon, Host}
use Rattle.eleos_trace.specs.declared.word.Word.{Word}
use Rattle.eleos_trace.specs.declared.word.Word.TheVariants.{Alloc, Free, Share, Read, Write, Tie, Untie, Fill, Evict, Move, Flip, SwapPlaces, Keep, Restore, SwapRound, SetShare, Call}
use Rattle.eleos_trace.specs.Replays.{IsCallerOf, IsMove, MayGive}
use Rattle.eleos_meaning.specs.declared.meanings.Meaning.{Meaning}
use Rattle.eleos_meaning.specs.declared.meanings.Meaning.TheVariants.{Happens, Offends}
use Rattle.eleos_meaning.specs.Calls.{at_offset}
use Rattle.eleos_meaning.specs.Meanings.{at_name, meaning_of, untie_of}
use Rattle.eleos_meaning.specs.Names.{Names}
use Rattle.eleos_top.specs.Scenes.{who_of}

-- where an event is meant, it is one of the plan's
abbrev MeansWithin : Plan → ℕ → Meaning → Type 0
MeansWithin k who (Happens event) = IsWithin k who event
MeansWithin k who _ = Unit {0}

in_run : (first subs i : ℕ) → i < subs → is_in_run first subs (first + i) ≡ true
in_run first subs i inside = grind (arith, nat_tests)

module _ (k : Plan) where
  -- the callers, the swapper and the balloon by their numbers
  caller_is : (actor : actors.Actor) → IsCallerOf k actor → IsCaller k (who_of k actor)
  caller_is (Caller number) caller = caller
  caller_is Swapper caller = absurd caller
  caller_is Balloon caller = absurd caller
  caller_is Host caller = absurd caller

  swapper_is : (actor : actors.Actor) → actor ≡ Swapper → IsActor k (who_of k actor)
  swapper_is actor is = subst (λ a. IsActor k (who_of k a)) (sym is) (record { from_one = omega arith; within = omega arith })

  balloon_is : (actor : actors.Actor) → actor ≡ Balloon → IsActor k (who_of k actor)
  balloon_is actor is = subst (λ a. IsActor k (who_of k a)) (sym is) (record { from_one = omega arith; within = omega arith })

  -- the owners of a move
  move_is : (from to : Option ℕ) → IsMove k from to → OneIsPool from to × IsOwner k from × IsOwner k to
  move_is None None move = absurd move
  move_is None (Some to) move = (tt, tt, move)
  move_is (Some from) None move = (tt, move, tt)
  move_is (Some from) (Some to) move = absurd move

  -- an address in its enclave is in one of the machine's pages
  page_of_address : (at : Addr) → at.at < page_bytes * slice_index_or (page_counts k) at.enclave 0 → page_of k (sub_of k at) < all_pages k
  page_of_address at inside = page_exists k at.enclave (sub_of k at) (in_run (first_sub k at.enclave) (subs k at.enclave) (at.at / 1024) (omega arith))

  untie_within : (who : ℕ) (at : Addr) → IsCaller k who → MeansWithin k who (untie_of k at)
  untie_within who at caller =
      let bytes : ℕ = page_bytes * slice_index_or (page_counts k) at.enclave 0 in
      by_test (nat_lt at.at bytes) (λ v. MeansWithin k who (if v then Happens (Unlink (page_of k (sub_of k at))) else Offends Untied))
      (λ yes_is. (caller, page_of_address at (ltb-true at.at bytes yes_is)))
      (λ no_is. tt)

  -- what is meant at the address of a name, if it has one
  placed : (who : ℕ) (meant : Addr → Meaning) → ((at : Addr) → MeansWithin k who (meant at)) → (at : Option Addr) → MeansWithin k who (at_name meant at)
  placed who meant each None = tt
  placed who meant each (Some at) = each at

  module _ (names : Names) (actor : actors.Actor) where
    means_within : (word : Word) → MayGive k actor word → MeansWithin k (who_of k actor) (meaning_of k names word)
    means_within (Alloc name bytes) given = caller_is actor given
    means_within (Free name) given = placed _ _ (λ at. caller_is actor given) (names name)
    means_within (Share name) given = placed _ _ (λ at. caller_is actor given) (names name)
    means_within (Read name offset len) given = placed _ _ (λ at. caller_is actor given) (names name)
    means_within (Write name offset bytes) given = placed _ _ (λ at. caller_is actor given.0) (names name)
    means_within (Tie name offset) given = placed _ _ (λ at. caller_is actor given) (names name)
    means_within (Untie name offset) given = placed _ _ (λ at. untie_within (who_of k actor) (at_offset at offset) (caller_is actor given)) (names name)
    means_within (Fill page frame) given = (swapper_is actor given.0, given.1, given.2)
    means_within (Evict page frame) given = (swapper_is actor given.0, given.1, given.2)
    means_within (Move frame from to) given = let owners = move_is from to given.2 in (balloon_is actor given.0, given.1, owners.0, owners.1, owners.2)
    means_within (Flip place bit) given = tt
    means_within (SwapPlaces a b) given = tt
    means_within (Keep place) given = tt
    means_within (Restore place) given = tt
    means_within (SwapRound enclave low) given = absurd given
    means_within (SetShare enclave to) given = absurd given
    means_within (Call call bytes room) given = absurd given

-- a command that its actor may give, where it means an event, means one of the plan's
pub within : (k : Plan) (names : Names) (actor : actors.Actor) (word : Word) (event : Event) → MayGive k actor word → meaning_of k names word ≡ Happens event → IsWithin k (who_of k actor) event
within k names actor word event given is = subst (MeansWithin k (who_of k actor)) is (means_within k names actor word given)
