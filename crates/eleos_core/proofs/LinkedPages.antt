-- After every legal entry a linked page is present.
use Rattle.std.proofs.Common.{◌≡◌, ℕ, ◌+◌, ◌-◌, ◌≤◌, ◌==◌, ◌&&◌, List, [], ◌∷◌, true, false, Option, Some, None, is_some, MatchOption, if◌then◌else◌, refl, ◌∙◌, ap, arith}
use Rattle.std.proofs.lemmas.Bool.{eqb-true}
use Rattle.eleos_base.specs.declared.memory.Reply.{Reply}
use Rattle.eleos_base.specs.declared.memory.Reply.TheVariants.{Done}
use Rattle.eleos_base.specs.declared.plan.Plan.{Plan}
use Rattle.eleos_base.specs.Plain.{is_accepted}
use Rattle.eleos_core.specs.declared.event.Entry.{Entry}
use Rattle.eleos_core.specs.declared.event.Event.{Event}
use Rattle.eleos_core.specs.declared.event.Event.TheVariants.{Link, Unlink, Fill, Evict}
use Rattle.eleos_core.specs.Seals.{Seals, seals_by}
use Rattle.eleos_base.specs.Places.{page_of, sub_of}
use Rattle.eleos_core.specs.State.{History, entry, frame, is_present, links}
use Rattle.eleos_core.specs.Legal.{CoreRun, CoreStep, IsPlainly, access_refusal}
use Rattle.eleos_core.specs.Laws.{IsLegalRun, LinkedStay}
use Rattle.eleos_core.proofs.Tests.{by_test, first_of, second_of}
use Rattle.eleos_core.proofs.Replies.{IsRefusal, access_refuses}

-- an accepted link saw the page present
link_accepted : (o : Option Reply) (P : Type 0) (e : Entry) → IsRefusal o → MatchOption o (P × IsPlainly e Done) (IsPlainly e) → is_accepted e.reply ≡ true → P
link_accepted None P e r h accepted = h.0
link_accepted (Some q) P e r h accepted = let z : is_accepted e.reply ≡ false = ap is_accepted h.reply_is ∙ r in cc

module _ (k : Plan) (x : Seals) where
  linked_stay_step : (past : History) (who : ℕ) (event : Event) (blocks : List (List ℕ)) (reply : Reply) → CoreStep k x past (entry who event blocks reply)
      → LinkedStay k past → LinkedStay k (entry who event blocks reply ∷ past)
  linked_stay_step past who (Link at) blocks reply step h by p =
      let target = page_of k (sub_of k at) in
      let is_his = is_accepted reply && by == who in
      let saw_it = link_accepted (access_refusal k past who at 1) (is_present k past (sub_of k at) ≡ true) (entry who (Link at) blocks reply) (access_refuses k past who at 1) step.step in
      by_test (is_his && p == target) (λ v. is_his && p == target ≡ v → 1 ≤ (if v then links k past by p + 1 else links k past by p) → is_some (frame past p) ≡ true)
      (λ _ is l. ap (λ q. is_some (frame past q)) (eqb-true p target (second_of is_his (p == target) is)) ∙ saw_it (first_of (is_accepted reply) (by == who) (first_of is_his (p == target) is)))
      (λ _ is l. h by p l) refl
  linked_stay_step past who (Unlink q) blocks reply step h by p =
      by_test (by == who && p == q) (λ v. 1 ≤ (if v then links k past by p - 1 else links k past by p) → is_some (frame past p) ≡ true) (λ _ l. h by p (omega arith)) (λ _ l. h by p l)
  linked_stay_step past who (Fill q f) blocks reply step h by p = λ l. by_test (is_accepted reply && p == q) (λ v. is_some (if v then Some f else frame past p) ≡ true) (λ _. refl) (λ _. h by p l)
  linked_stay_step past who (Evict q f) blocks reply step h by p = λ l. by_test (p == q) (λ v. p == q ≡ v → is_some (if v then None else frame past p) ≡ true)
      (λ _ is. let i : links k past by p ≡ 0 = ap (links k past by) (eqb-true p q is) ∙ step.step.0.no_link by in absurd (omega arith))
      (λ _ is. h by p l) refl
  linked_stay_step past who _ blocks reply step h by p = h by p

  pub linked_stay : (h : History) → CoreRun k x h → LinkedStay k h
  linked_stay [] run by p l = absurd (omega arith)
  linked_stay (e ∷ past) run by p l = linked_stay_step past e.who e.event e.blocks e.reply run.0 (linked_stay past run.1) by p l

-- a page that somebody links is in a frame
pub linked_pages : (k : Plan) (key : List ℕ) (h : History) → IsLegalRun k key h → LinkedStay k h
linked_pages k key h run = linked_stay k (seals_by key) h run.legal
