-- What waits, and a search: what was answered was applied, and where no answer is allowed it is illegal.
use Rattle.std.proofs.Common.{◌≡◌, ℕ, ◌+◌, ◌<◌, ◌≤◌, ◌^◌, List, [], length, take, Option, Some, None, IfSome, IfNone, sum_by, if◌then◌else◌, zero, suc, inl, inr, refl, sym, ◌∙◌, subst, ap, arith}
use Rattle.std.specs.List.{range_with_len}
use Rattle.std.proofs.lemmas.Bool.{cases_lt}
use Rattle.std.proofs.lemmas.List.Sums.{sum_by-cons}
use Rattle.eleos_base.specs.declared.memory.Addr.{Addr}
use Rattle.eleos_base.specs.declared.memory.Looked.{Looked}
use Rattle.eleos_base.specs.declared.memory.Op.TheVariants.{Alloc, Free, Share, Read, Write}
use Rattle.eleos_base.specs.declared.memory.Part.{Part as Offence}
use Rattle.eleos_base.specs.declared.memory.Part.TheVariants.{Present, Frame}
use Rattle.eleos_base.specs.declared.memory.Reply.{Reply}
use Rattle.eleos_base.specs.declared.memory.Reply.TheVariants.{Tampered}
use Rattle.eleos_base.specs.declared.plan.Plan.{Plan}
use Rattle.eleos_base.specs.Plain.{is_in_range, use_refusal}
use Rattle.eleos_base.specs.Plans.{IsGood, enclave_of, sub_bytes}
use Rattle.eleos_core.specs.declared.event.Event.TheVariants.{Starved, Spoiled as SpoiledPage, Survey}
use Rattle.eleos_core.specs.declared.event.Goal.{Goal}
use Rattle.eleos_core.specs.declared.event.Wanted.{Wanted}
use Rattle.eleos_core.specs.declared.event.Wanted.TheVariants.{Link as ALink, Op as ACall}
use Rattle.eleos_core.specs.declared.fills.opening.Spoiled.{Spoiled}
use Rattle.eleos_core.specs.Applying.{AlwaysApplies, AlwaysIllegal, Makes, stamp_of}
use Rattle.eleos_core.specs.Cells.{Cells}
use Rattle.eleos_core.specs.Laws.{share}
use Rattle.eleos_core.specs.Legal.{CoreRun, NeedsFrame}
use Rattle.eleos_core.specs.Parts.{Part, block_at, refusal_in, wanted_refusal_in}
use Rattle.eleos_base.specs.Places.{all_pages, page_of, sub_of, subs}
use Rattle.eleos_core.specs.Quiet.{AllPass, IsSpoiledAt, IsStarving, IsSurveyed, IsWaiting, frames_of_owner, spoiled_stamp, starved_stamp, survey_stamp, waiting_fault, wanted_page, wanted_part}
use Rattle.eleos_core.specs.Seals.{Seals}
use Rattle.eleos_core.specs.State.{History, address_of, frames_of}
use Rattle.eleos_core.proofs.Applied.{applies}
use Rattle.eleos_core.proofs.Numbers.{in_range_of, page_exists, sub_in_range}
use Rattle.eleos_core.proofs.PlaceNumbers.{most_frames}
use Rattle.eleos_core.proofs.QuietJudged.{answer_of, spoiled_never, starving_of, waiting_of}
use Rattle.eleos_core.proofs.Shares.{shares_sum}
use Rattle.eleos_core.proofs.ShownParts.{frames_shown, may_of, present_shown, used_shown}

-- what needs a frame and is not refused has a page of the machine
reached : (k : Plan) (who : ℕ) (at : Addr) (n : ℕ) (q : Part) → refusal_in k who at n (block_at k q at) ≡ None → page_of k (sub_of k at) < all_pages k
reached k who at n q accepted =
    let home : ℕ = enclave_of k who in
    page_exists k home (sub_of k at) (sub_in_range k home at n (in_range_of (is_in_range (sub_bytes k home) home (subs k home) at n) (use_refusal who (block_at k q at)) accepted))

wanted_reached : (k : Plan) (who : ℕ) (wanted : Wanted) (q : Part) → NeedsFrame wanted → wanted_refusal_in k who wanted (block_at k q (address_of wanted)) ≡ None → page_of k (sub_of k (address_of wanted)) < all_pages k
wanted_reached k who (ALink at) q needs accepted = reached k who at 1 q accepted
wanted_reached k who (ACall (Read at n)) q needs accepted = reached k who at n q accepted
wanted_reached k who (ACall (Write at new)) q needs accepted = reached k who at (length new) q accepted
wanted_reached k who (ACall (Alloc n)) q needs accepted = absurd needs
wanted_reached k who (ACall (Free at)) q needs accepted = absurd needs
wanted_reached k who (ACall (Share at)) q needs accepted = absurd needs

-- a share is a number of 32 bits
within_sum : (g : ℕ → ℕ) (a n e : ℕ) → a ≤ e → e < a + n → g e ≤ sum_by g (range_with_len a n)
within_sum g a zero e low high = absurd (omega arith)
within_sum g a (suc n) e low high = let whole = sum_by-cons g a (range_with_len (a + 1) n) in elim (cases_lt a e) [
  | inl later ↦ (let rest = within_sum g (a + 1) n e (omega arith) (omega arith) in omega arith)
  | inr first ↦ (let here : a ≡ e = omega arith in let same : g a ≡ g e = ap g here in omega arith)
]

few_frames : (k : Plan) (x : Seals) (past : History) (e : ℕ) → IsGood k → CoreRun k x past → e < length k.enclaves → length (frames_of k past (Some e)) < 2 ^ 32
few_frames k x past e good run inside =
    let all = shares_sum k x past run in
    let one : share k past (Some e) ≤ sum_by (λ o. share k past (Some o)) (range_with_len 0 (length k.enclaves)) = within_sum (λ o. share k past (Some o)) 0 (length k.enclaves) e (omega arith) (omega arith) in
    let most = most_frames k good in omega arith

-- nothing is both none and something
pub none_or_some : {A : Type 0} (o : Option A) (a : A) → o ≡ None → o ≡ Some a → ⊥
none_or_some o a none some = cc

-- what is said of what was found, and of nothing where none was
found_said : {A : Type 0} (P : A → Type 0) (o : Option A) (a : A) → o ≡ Some a → IfSome o P → P a
found_said P o a is holds = let said : IfSome (Some a) P = subst (λ z. IfSome z P) is holds in said

none_said : {A : Type 0} (P : Type 0) (o : Option A) → o ≡ None → IfNone o P → P
none_said P None is holds = holds
none_said P (Some a) is holds = absurd (cc)

-- what waits has a page of the machine
pub waits_there : (old : Cells) (who : ℕ) (wanted : Wanted) → IsWaiting old who wanted → wanted_page old wanted < all_pages old.plan
waits_there old who wanted waiting = wanted_reached old.plan who wanted (wanted_part old wanted) waiting.may.needs waiting.may.not_refused

module _ (x : Seals) (old : Cells) where
  -- a refusal for want of a frame
  pub starved_applied : (who : ℕ) (wanted : Wanted) (sweep : List Looked) (reply : Reply) → Makes x (starved_stamp who wanted sweep reply) old old → AlwaysApplies x old who (Starved wanted sweep) [] reply [] old
  starved_applied who wanted sweep reply makes past good run shows = applies old.plan x good past who (Starved wanted sweep) [] [] reply 0 old old [] refl run shows makes tt refl refl

  -- of what is not starving it is illegal, by whether its page is in a frame
  pub starved_illegal : (who : ℕ) (wanted : Wanted) (sweep : List Looked) (part : Offence) → (IsStarving old who wanted sweep → ⊥) → part ≡ waiting_fault old wanted → AlwaysIllegal x old who (Starved wanted sweep) [] part
  starved_illegal who wanted sweep part fed fault past good run shows = record {
    never = λ count reply step. fed (starving_of old x who reply 0 wanted sweep (take count []) (may_of x old past shows (stamp_of who (Starved wanted sweep) (take count []) reply 0) good run step tt));
    part_is = fault ∙ ap (λ v. if v then Present else Frame) (present_shown x old past shows run (address_of wanted));
  }

  -- a refusal for a block that does not pass
  spoiled_applied : (who : ℕ) (wanted : Wanted) (given : List (List ℕ)) (spoiled : Spoiled) → IsWaiting old who wanted → IsSpoiledAt old x wanted given spoiled
      → Makes x (spoiled_stamp who wanted (take spoiled.used given) (Tampered spoiled.place)) old old → AlwaysApplies x old who (SpoiledPage wanted) given (Tampered spoiled.place) [] old
  spoiled_applied who wanted given spoiled waiting fails makes past good run shows =
      applies old.plan x good past who (SpoiledPage wanted) given (take spoiled.used given) (Tampered spoiled.place) 0 old old [] refl run shows makes tt refl
      (sym (used_shown x old past shows (wanted_page old wanted) given (waits_there old who wanted waiting)) ∙ sym fails.used_are)

  -- where a place was found whose block does not pass, the answer with that place was applied
  pub spoiled_answered : (who : ℕ) (wanted : Wanted) (given : List (List ℕ)) (found : Option Spoiled) (spoiled : Spoiled) → found ≡ Some spoiled → IsWaiting old who wanted → IfSome found (IsSpoiledAt old x wanted given)
      → IfSome found (λ (z : Spoiled). Makes x (spoiled_stamp who wanted (take z.used given) (Tampered z.place)) old old) → AlwaysApplies x old who (SpoiledPage wanted) given (Tampered spoiled.place) [] old
  spoiled_answered who wanted given found spoiled is waiting fails makes = spoiled_applied who wanted given spoiled waiting
      (found_said (IsSpoiledAt old x wanted given) found spoiled is fails) (found_said (λ (z : Spoiled). Makes x (spoiled_stamp who wanted (take z.used given) (Tampered z.place)) old old) found spoiled is makes)

  -- of what does not wait it is illegal, by whether its page is in a frame
  pub waiting_illegal : (who : ℕ) (wanted : Wanted) (given : List (List ℕ)) (part : Offence) → (IsWaiting old who wanted → ⊥) → part ≡ waiting_fault old wanted → AlwaysIllegal x old who (SpoiledPage wanted) given part
  waiting_illegal who wanted given part served fault past good run shows = record {
    never = λ count reply step. served (waiting_of old x who reply 0 wanted (take count given) (may_of x old past shows (stamp_of who (SpoiledPage wanted) (take count given) reply 0) good run step tt));
    part_is = fault ∙ ap (λ v. if v then Present else Frame) (present_shown x old past shows run (address_of wanted));
  }

  -- and so it is of what waits where all blocks of its page pass
  pub passed_illegal : (who : ℕ) (wanted : Wanted) (given : List (List ℕ)) (found : Option Spoiled) → found ≡ None → IsWaiting old who wanted → IfNone found (AllPass old x wanted given) → AlwaysIllegal x old who (SpoiledPage wanted) given Frame
  passed_illegal who wanted given found is waiting all past good run shows = record {
    never = λ count reply step. spoiled_never old x who reply 0 wanted given (none_said (AllPass old x wanted given) found is all) count
        (may_of x old past shows (stamp_of who (SpoiledPage wanted) (take count given) reply 0) good run step tt);
    part_is = ap (λ v. if v then Present else Frame) (sym waiting.absent ∙ present_shown x old past shows run (address_of wanted));
  }

  -- the end of a search
  pub survey_answered : (who e : ℕ) (goal : Goal) (sweep : List Looked) (found : Option Reply) (reply : Reply) → found ≡ Some reply → IfSome found (λ (z : Reply). Makes x (survey_stamp who e goal sweep z) old old)
      → AlwaysApplies x old who (Survey e goal sweep) [] reply [] old
  survey_answered who e goal sweep found reply is makes past good run shows = applies old.plan x good past who (Survey e goal sweep) [] [] reply 0 old old [] refl run shows
      (found_said (λ (z : Reply). Makes x (survey_stamp who e goal sweep z) old old) found reply is makes) tt refl refl

  -- where no reply is found no entry of the search is legal
  pub survey_illegal : (who e : ℕ) (goal : Goal) (sweep : List Looked) → e < length old.plan.enclaves → (found : Option Reply) → found ≡ None → IsSurveyed old e goal sweep found → AlwaysIllegal x old who (Survey e goal sweep) [] Frame
  survey_illegal who e goal sweep inside found is surveyed past good run shows = record {
    never = λ count reply step.
        let few : length (frames_of_owner old (Some e)) < 2 ^ 32 = subst (λ (fs : List ℕ). length fs < 2 ^ 32) (sym (frames_shown x old past shows e inside)) (few_frames old.plan x past e good run inside) in
        none_or_some found reply is ((surveyed few).only reply (answer_of old x who reply 0 e goal sweep (take count []) (may_of x old past shows (stamp_of who (Survey e goal sweep) (take count []) reply 0) good run step tt)));
    part_is = refl;
  }
