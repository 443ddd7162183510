-- What an entry of a quiet event tells where it may be made: no such entry may be made where the event offends.
use Rattle.std.proofs.Common.{◌≡◌, ℕ, zero, suc, List, [], ◌∷◌, take, Bool, if◌then◌else◌, Some, None}
use Rattle.eleos_base.specs.declared.memory.Looked.{Looked}
use Rattle.eleos_base.specs.declared.memory.Reply.{Reply}
use Rattle.eleos_core.specs.declared.event.Event.TheVariants.{Starved, Spoiled as SpoiledPage, Survey}
use Rattle.eleos_core.specs.declared.event.Goal.{Goal}
use Rattle.eleos_core.specs.declared.event.Wanted.{Wanted}
use Rattle.eleos_core.specs.Applying.{parts_in, stamp_of}
use Rattle.eleos_core.specs.Cells.{Cells}
use Rattle.eleos_core.specs.Legal.{failed, failed_last, judged, passed}
use Rattle.eleos_core.specs.Parts.{MayStep, passes_in, subs_in}
use Rattle.eleos_core.specs.Quiet.{AllPass, IsStarving, IsWaiting, frames_of_owner, wanted_part, wanted_places}
use Rattle.eleos_core.specs.Seals.{Seals}
use Rattle.eleos_core.specs.Sweeps.{SurveyReply}
use Rattle.eleos_core.proofs.Passed.{failed_not}
use Rattle.eleos_core.proofs.Tests.{by_test}

-- where all blocks pass, none of a front of them fails
front_passes : (test : ℕ → List ℕ → Bool) (ps : List ℕ) (cs : List (List ℕ)) (count s : ℕ) → judged test ps cs ≡ passed → judged test ps (take count cs) ≡ failed s → ⊥
front_passes test [] [] zero s pass fails = cc
front_passes test [] [] (suc count) s pass fails = cc
front_passes test [] (c ∷ cs) count s pass fails = cc
front_passes test (p ∷ ps) [] count s pass fails = cc
front_passes test (p ∷ ps) (c ∷ cs) zero s pass fails = cc
front_passes test (p ∷ ps) (c ∷ cs) (suc count) s pass fails = by_test (test p c)
    (λ v. (if v then judged test ps cs else failed_last p cs) ≡ passed → (if v then judged test ps (take count cs) else failed_last p (take count cs)) ≡ failed s → ⊥)
    (λ _ pass fails. front_passes test ps cs count s pass fails)
    (λ _ pass fails. failed_not p cs pass)
    pass fails

module _ (m : Cells) (x : Seals) (who : ℕ) (reply : Reply) (len : ℕ) where
  -- what is refused for want of a frame is starving
  pub starving_of : (wanted : Wanted) (sweep : List Looked) (blocks : List (List ℕ)) → MayStep m.plan x (stamp_of who (Starved wanted sweep) blocks reply len) (parts_in m) → IsStarving m who wanted sweep
  starving_of wanted sweep blocks may = record {
    waiting = record { may = record { needs = may.within.1; not_refused = may.on_parts.0.not_refused }; absent = may.on_parts.0.absent };
    taken = may.on_parts.1;
  }

  -- what is refused for a block waits
  pub waiting_of : (wanted : Wanted) (blocks : List (List ℕ)) → MayStep m.plan x (stamp_of who (SpoiledPage wanted) blocks reply len) (parts_in m) → IsWaiting m who wanted
  waiting_of wanted blocks may = record { may = record { needs = may.within.1; not_refused = may.on_parts.0.not_refused }; absent = may.on_parts.0.absent }

  -- and one of its blocks does not pass
  pub spoiled_never : (wanted : Wanted) (given : List (List ℕ)) → AllPass m x wanted given → (count : ℕ) → MayStep m.plan x (stamp_of who (SpoiledPage wanted) (take count given) reply len) (parts_in m) → ⊥
  spoiled_never wanted given all count may = front_passes (passes_in m.plan x (subs_in (wanted_part m wanted))) (wanted_places m wanted) given count may.on_parts.1 all.pass may.on_parts.2

  -- the reply to a search is one that its frames allow
  pub answer_of : (e : ℕ) (goal : Goal) (sweep : List Looked) (blocks : List (List ℕ)) → MayStep m.plan x (stamp_of who (Survey e goal sweep) blocks reply len) (parts_in m)
      → SurveyReply (frames_of_owner m (Some e)) (frames_of_owner m None) goal sweep reply
  answer_of e goal sweep blocks may = may.on_parts.0
