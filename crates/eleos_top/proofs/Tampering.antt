-- Of a legal history: where a reply is `tampered`, the block that came last is not the one last sealed at that place.
use Rattle.std.proofs.Common.{◌≡◌, ◌≢◌, ℕ, List, [], ◌∷◌, ◌++◌, length, Bool, true, false, Option, Some, None, unwrap_or, MatchOption, MatchBool, refl, sym, ap, subst, ◌∙◌}
use Rattle.std.specs.Prelude.{◌/◌, ◌||◌, ◌==◌, if◌then◌else◌}
use Rattle.std.specs.Cmp.Lexicographic.{other_text}
use Rattle.std.specs.List.{find}
use Rattle.eleos_base.specs.declared.memory.Addr.{Addr}
use Rattle.eleos_base.specs.declared.memory.Live.{Live}
use Rattle.eleos_base.specs.declared.memory.Op.{Op as Calls}
use Rattle.eleos_base.specs.declared.memory.Op.TheVariants.{Alloc, Free, Share, Read, Write}
use Rattle.eleos_base.specs.declared.memory.Reply.{Reply}
use Rattle.eleos_base.specs.declared.memory.Reply.TheVariants as replies
use Rattle.eleos_base.specs.declared.memory.Reply.TheVariants.{Done, Tampered}
use Rattle.eleos_base.specs.declared.plan.Plan.{Plan}
use Rattle.eleos_base.specs.Plain as plain
use Rattle.eleos_base.specs.Plans.{enclave_of, sub_bytes}
use Rattle.eleos_core.specs.declared.event.Entry.{Entry}
use Rattle.eleos_core.specs.declared.event.Event.{Event}
use Rattle.eleos_core.specs.declared.event.Event.TheVariants as events
use Rattle.eleos_core.specs.declared.event.Goal.{Goal}
use Rattle.eleos_core.specs.declared.event.Goal.TheVariants.{Low, To}
use Rattle.eleos_base.specs.declared.memory.Looked.{Looked}
use Rattle.eleos_core.specs.Legal.{Judged, failed, passed, unfit, failed_last, judged, ByBlocks, IsPlainly, CallStep, EventStep, CoreRun, access_refusal as access_refusal_of, is_worn, passes, verdict}
use Rattle.eleos_base.specs.Places.{sub_of, subs}
use Rattle.eleos_core.specs.Seals.{Seals}
use Rattle.eleos_core.specs.State.{History, frames_of, last, live, places, version}
use Rattle.eleos_core.specs.Sweeps.{SurveyReply}
use Rattle.eleos_top.specs.RunEnds.{AreTrulyTampered}

-- the last of the blocks does not pass at this place
abbrev FailsAt : (ℕ → List ℕ → Bool) → ℕ → List (List ℕ) → Type 0
FailsAt test s blocks = (before : List (List ℕ)) × (block : List ℕ) × (blocks ≡ before ++ block ∷ []) × (test s block ≡ false)

module _ (test : ℕ → List ℕ → Bool) (s : ℕ) where
  one_more : (c : List ℕ) (cs : List (List ℕ)) → FailsAt test s cs → FailsAt test s (c ∷ cs)
  one_more c cs f = (c ∷ f.0, f.1, ap (λ (z : List (List ℕ)). c ∷ z) f.2, f.3)

  failed_here : (q : ℕ) (c : List ℕ) (cs : List (List ℕ)) → test q c ≡ false → failed_last q cs ≡ failed s → FailsAt test s (c ∷ cs)
  failed_here q c [] is j = let same : q ≡ s = cc in ([], c, refl, subst (λ (z : ℕ). test z c ≡ false) same is)
  failed_here q c (d ∷ cs) is j = absurd (cc)

  judged_first : (q : ℕ) (c : List ℕ) (ss : List ℕ) (cs : List (List ℕ)) → (judged test ss cs ≡ failed s → FailsAt test s cs)
      → (b : Bool) → test q c ≡ b → (if b then judged test ss cs else failed_last q cs) ≡ failed s → FailsAt test s (c ∷ cs)
  judged_first q c ss cs rest true is j = one_more c cs (rest j)
  judged_first q c ss cs rest false is j = failed_here q c cs is j

  judged_failed : (ss : List ℕ) (cs : List (List ℕ)) → judged test ss cs ≡ failed s → FailsAt test s cs
  judged_failed [] [] j = absurd (cc)
  judged_failed [] (c ∷ cs) j = absurd (cc)
  judged_failed (q ∷ ss) [] j = absurd (cc)
  judged_failed (q ∷ ss) (c ∷ cs) j = judged_first q c ss cs (λ j. judged_failed ss cs j) (test q c) refl j

-- the reply is `tampered`
abbrev is_tampered : Reply → Bool
is_tampered (Tampered s) = true
is_tampered _ = false

-- no refusal is
abbrev IsNone : Option Reply → Type 0
IsNone None = Unit {0}
IsNone (Some reply) = is_tampered reply ≡ false

other_reply : {A : Type 0} (reply good : Reply) (s : ℕ) → is_tampered good ≡ false → reply ≡ good → reply ≡ Tampered s → A
other_reply reply good s is same tampered = let no : true ≡ false = ap is_tampered (sym tampered ∙ same) ∙ is in absurd (cc)

used : (who : ℕ) (block : Live) (b : Bool) → IsNone (if b then None else Some (replies.NotYours block.owner))
used who block true = tt
used who block false = refl

use_refusal : (who : ℕ) (o : Option Live) → IsNone (plain.use_refusal who o)
use_refusal who None = refl
use_refusal who (Some block) = used who block (block.is_shared || block.owner == who)

in_range : (b : Bool) (o : Option Reply) → IsNone o → IsNone (if b then o else Some replies.BadRange)
in_range true o none = none
in_range false o none = refl

module _ (size enclave : ℕ) where
  access_refusal : (blocks : List Live) (count who : ℕ) (at : Addr) (n : ℕ) → IsNone (plain.access_refusal size enclave blocks count who at n)
  access_refusal blocks count who at n = in_range (plain.is_in_range size enclave count at n) _ (use_refusal who (find (plain.has_sub (at.at / size)) blocks))

  alloc_answer : (o : Option ℕ) → is_tampered (plain.alloc_answer size enclave o) ≡ false
  alloc_answer None = refl
  alloc_answer (Some start) = refl

  good_size : (b : Bool) (o : Option ℕ) → is_tampered (if b then plain.alloc_answer size enclave o else replies.BadSize) ≡ false
  good_size true o = alloc_answer o
  good_size false o = refl

  alloc_reply : (blocks : List Live) (count n : ℕ) → is_tampered (plain.alloc_reply size enclave blocks count n) ≡ false
  alloc_reply blocks count n = good_size (plain.is_good_size n) (plain.lowest_run blocks count (plain.subs_for size n))

own_block : (block : Live) (b : Bool) → is_tampered (unwrap_or (if b then None else Some (replies.NotYours block.owner)) Done) ≡ false
own_block block true = refl
own_block block false = refl

found_block : (who : ℕ) (o : Option Live) → is_tampered (unwrap_or (plain.block_refusal who o) Done) ≡ false
found_block who None = refl
found_block who (Some block) = own_block block (block.owner == who)

-- nor is the answer to a search
survey_reply : (own pool : List ℕ) (goal : Goal) (sweep : List Looked) (s : ℕ) → SurveyReply own pool goal sweep (Tampered s) → ⊥
survey_reply own pool (Low n) sweep s found = found
survey_reply own pool (To n) sweep s found = found

module _ (k : Plan) (x : Seals) (past : History) (e : Entry) (s : ℕ) where
  -- the last block of the entry is not the one last sealed at that place
  abbrev Differs : Type 0
  Differs = (before : List (List ℕ)) × (block : List ℕ) × (e.blocks ≡ before ++ block ∷ []) × (block ≢ last k x past s)

  by_verdict : (event : Event) → verdict k x past event e.blocks ≡ failed s → Differs
  by_verdict event j =
      let f = judged_failed (passes k x past) s (places k event past) e.blocks j in
      (f.0, f.1, f.2, λ same. other_text (x.tag s (version k past s) f.1) (x.tag s (version k past s) (last k x past s)) (sym f.3) (ap (x.tag s (version k past s)) same))

  by_blocks : (event : Event) (j : Judged) (good : Reply) → verdict k x past event e.blocks ≡ j → is_tampered good ≡ false → ByBlocks j good e.reply → e.reply ≡ Tampered s → Differs
  by_blocks event passed good is clean same tampered = other_reply e.reply good s clean same tampered
  by_blocks event (failed q) good is clean same tampered = let here : q ≡ s = let both : Tampered q ≡ Tampered s = sym same ∙ tampered in cc in by_verdict event (is ∙ ap failed here)
  by_blocks event unfit good is clean same tampered = absurd same

  by_refusal : (o : Option Reply) (Else : Type 0) → IsNone o → MatchOption o Else (IsPlainly e) → e.reply ≡ Tampered s → (Else → Differs) → Differs
  by_refusal None Else none step tampered rest = rest step
  by_refusal (Some reply) Else none step tampered rest = other_reply e.reply reply s none step.reply_is tampered

  by_wear : (b : Bool) (worn : ℕ) (Else : Type 0) → MatchBool b (IsPlainly e (replies.Worn worn)) Else → e.reply ≡ Tampered s → (Else → Differs) → Differs
  by_wear true worn Else step tampered rest = other_reply e.reply (replies.Worn worn) s refl step.reply_is tampered
  by_wear false worn Else step tampered rest = rest step

  refused_access : (who : ℕ) (at : Addr) (n : ℕ) → IsNone (access_refusal_of k past who at n)
  refused_access who at n = let home = enclave_of k who in access_refusal (sub_bytes k home) home (live k past home) (subs k home) who at n

  by_call : (op : Calls) → e.event ≡ events.Op op → CallStep k x past e op → e.reply ≡ Tampered s → Differs
  by_call (Alloc n) is step tampered = let home = enclave_of k e.who in other_reply e.reply _ s (alloc_reply (sub_bytes k home) home (live k past home) (subs k home) n) step.reply_is tampered
  by_call (Free at) is step tampered = let home = enclave_of k e.who in other_reply e.reply _ s (found_block e.who (find (plain.starts_at (sub_bytes k home) home at) (live k past home))) step.reply_is tampered
  by_call (Share at) is step tampered = let home = enclave_of k e.who in other_reply e.reply _ s (found_block e.who (find (plain.starts_at (sub_bytes k home) home at) (live k past home))) step.reply_is tampered
  by_call (Read at n) is step tampered = by_refusal (access_refusal_of k past e.who at n) _ (refused_access e.who at n) step tampered
      (λ by. by_blocks e.event (verdict k x past e.event e.blocks) _ refl refl by tampered)
  by_call (Write at bytes) is step tampered = by_refusal (access_refusal_of k past e.who at (length bytes)) _ (refused_access e.who at (length bytes)) step tampered
      (λ by. by_wear (is_worn k past (sub_of k at)) (sub_of k at) _ by tampered
      (λ by. by_blocks e.event (verdict k x past e.event e.blocks) Done refl refl by tampered))

  by_event : (event : Event) → e.event ≡ event → EventStep k x past e event → e.reply ≡ Tampered s → Differs
  by_event (events.Op op) is step tampered = by_call op is step tampered
  by_event (events.Link at) is step tampered = by_refusal (access_refusal_of k past e.who at 1) _ (refused_access e.who at 1) step tampered
      (λ done. other_reply e.reply Done s refl done.1.reply_is tampered)
  by_event (events.Unlink p) is step tampered = other_reply e.reply Done s refl step.1.reply_is tampered
  by_event (events.Fill p f) is step tampered = by_blocks e.event (verdict k x past e.event e.blocks) Done refl refl step.1 tampered
  by_event (events.Evict p f) is step tampered = other_reply e.reply Done s refl step.1.reply_is tampered
  by_event (events.Move f from to) is step tampered = other_reply e.reply Done s refl step.1.reply_is tampered
  by_event (events.Starved wanted sweep) is step tampered = other_reply e.reply (replies.NoFrame sweep) s refl step.2.reply_is tampered
  by_event (events.Spoiled wanted) is step tampered = let here : step.1 ≡ s = let both : Tampered step.1 ≡ Tampered s = sym step.3 ∙ tampered in cc in by_verdict e.event (step.2 ∙ ap failed here)
  by_event (events.Survey home goal sweep) is step tampered = absurd (survey_reply (frames_of k past (Some home)) (frames_of k past None) goal sweep s
      (subst (λ (reply : Reply). SurveyReply (frames_of k past (Some home)) (frames_of k past None) goal sweep reply) tampered step.0))

-- it is so for each entry of a legal history
pub truly_tampered : (k : Plan) (x : Seals) (h : History) → CoreRun k x h → AreTrulyTampered k x h
truly_tampered k x [] run = tt
truly_tampered k x (e ∷ past) run = (λ s tampered. by_event k x past e s e.event refl run.0.step tampered, truly_tampered k x past run.1)
