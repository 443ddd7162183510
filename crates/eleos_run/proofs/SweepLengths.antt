-- A survey names no more frames than a machine has.
use Rattle.std.proofs.Common.{◌≡◌, inl, inr, ℕ, ◌<◌, ◌≤◌, List, [], ◌∷◌, length, nat_eq, sym, ap, ◌∙◌, subst, arith, Contains}
use Rattle.std.specs.List.{AllByRecursion, IsDistinct}
use Rattle.std.proofs.lemmas.List.{length-map}
use Rattle.std.proofs.lemmas.List.Sums.{sum-map}
use Rattle.eleos_base.specs.declared.memory.Looked.{Looked}
use Rattle.eleos_base.specs.declared.memory.Reply.{Reply}
use Rattle.eleos_base.specs.declared.memory.Reply.TheVariants.{Enough, Swept, Reached, Pinned, Short}
use Rattle.eleos_base.specs.declared.plan.EnclavePlan.{EnclavePlan}
use Rattle.eleos_base.specs.Places.{Owner, all_frames}
use Rattle.eleos_base.specs.Ties.{Has}
use Rattle.eleos_core.specs.declared.event.Goal.{Goal}
use Rattle.eleos_core.specs.declared.event.Goal.TheVariants.{Low, To}
use Rattle.eleos_core.specs.Legal.{CoreRun}
use Rattle.eleos_core.specs.Quiet.{survey_stamp}
use Rattle.eleos_core.specs.State.{History, frames_of}
use Rattle.eleos_core.specs.Sweeps.{SurveyReply, frames_in}
use Rattle.eleos_core.proofs.Owners.{frames_distinct, listed_is_owned}
use Rattle.eleos_machine.specs.Passes.{IsLawful, PassState, plan_of, seals_of, seen}
use Rattle.eleos_turn.proofs.Numbers.{pigeons}
use Rattle.eleos_clock.proofs.Lists.{has_into, place_of, times_alike}
use Rattle.eleos_clock.proofs.Once.{once_in}
use Rattle.eleos_swap.proofs.Notes.{shorter}

module _ (s : PassState) (law : IsLawful s) (past : History) (run : CoreRun (plan_of s) (seals_of s) past) where
  -- a frame of an owner is one of the machine
  within : (o : Owner) (f : ℕ) → Contains (frames_of (plan_of s) past o) f → f < all_frames (plan_of s)
  within o f listed = (listed_is_owned (plan_of s) (seals_of s) past run o f listed).0

  own_few : (o : Owner) → length (frames_of (plan_of s) past o) ≤ all_frames (plan_of s)
  own_few o = pigeons (all_frames (plan_of s)) (frames_of (plan_of s) past o) (λ g. once_in g (frames_of (plan_of s) past o) (frames_distinct (plan_of s) (seals_of s) past run o))
      (λ f in_it. let at = place_of f (frames_of (plan_of s) past o) (has_into f (frames_of (plan_of s) past o) in_it) in within o f (at.0, at.1, sym at.2))

  listed_in : (o : Owner) (words : List Looked) → AllByRecursion (λ (seen : Looked). Contains (frames_of (plan_of s) past o) seen.frame) words → (f : ℕ) → Has f (frames_in words) → f < all_frames (plan_of s)
  listed_in o [] all f none = absurd none
  listed_in o (word ∷ words) all f (inl is) = subst (λ (g : ℕ). g < all_frames (plan_of s)) (sym is) (within o word.frame all.0)
  listed_in o (word ∷ words) all f (inr later) = listed_in o words all.1 f later

  permuted_few : (o : Owner) (words : List Looked) → Rattle.std.specs.Prelude.IsPermutation (frames_in words) (frames_of (plan_of s) past o) → length words ≤ all_frames (plan_of s)
  permuted_few o words same =
      let all = shorter (frames_in words) (frames_of (plan_of s) past o) (λ g. let is = times_alike (frames_in words) (frames_of (plan_of s) past o) same g in omega (arith, is)) in
      let long = length-map words (λ (seen : Looked). seen.frame) in let few = own_few o in omega (arith, all, long, few)

  reply_few : (o p : Owner) (goal : Goal) (words : List Looked) (reply : Reply) → SurveyReply (frames_of (plan_of s) past o) (frames_of (plan_of s) past p) goal words reply → length words ≤ all_frames (plan_of s)
  reply_few o p (Low n) words (Enough free) is =
      let all = pigeons (all_frames (plan_of s)) (frames_in words) (λ g. once_in g (frames_in words) is.once) (listed_in o words is.listed) in let long = length-map words (λ (seen : Looked). seen.frame) in omega (arith, all, long)
  reply_few o p (Low n) words (Swept free) is = permuted_few o words is.all
  reply_few o p (Low n) words _ is = absurd is
  reply_few o p (To n) words (Reached share) is = let none = ap length is.2 in omega (arith, none)
  reply_few o p (To n) words (Pinned share) is = permuted_few o words is.2.all
  reply_few o p (To n) words (Short share) is = permuted_few p words is.2.all
  reply_few o p (To n) words _ is = absurd is

  frames_few : all_frames (plan_of s) ≤ 512
  frames_few = let good = law.machine.made.good in let same = sum-map (λ (made : EnclavePlan). made.frames) (plan_of s).enclaves in let most = good.frames in omega (arith, same, most)

-- the words of the survey that a pass stamped last
pub survey_few : (s : PassState) → IsLawful s → (past : History) (number e : ℕ) (goal : Goal) (words : List Looked) (reply : Reply) → seen s ≡ (survey_stamp number e goal words reply).entry ∷ past → length words ≤ 512
survey_few s law past number e goal words reply sees =
    let run = subst (CoreRun (plan_of s) (seals_of s)) sees law.run.legal in
    let all = reply_few s law past run.1 (Rattle.std.proofs.Common.Some e) Rattle.std.proofs.Common.None goal words reply run.0.step.0 in let few = frames_few s law past run.1 in omega (arith, all, few)
