-- A step reads and changes the parts of its foot alone.
use Rattle.std.specs.Prelude.{◌≡◌, ℕ, ◌<◌, true, List, [], ◌∷◌, length, MatchOption, MatchBool, None, Some, is_some, if◌then◌else◌, refl}
use Rattle.std.proofs.Common.{sym, ◌∙◌, subst, ap, inl, inr}
use Rattle.eleos_base.specs.declared.memory.Addr.{Addr}
use Rattle.eleos_base.specs.declared.memory.Op.{Op as Calls}
use Rattle.eleos_base.specs.declared.memory.Op.TheVariants.{Alloc, Free, Share, Read, Write}
use Rattle.eleos_base.specs.declared.memory.Reply.{Reply}
use Rattle.eleos_base.specs.declared.memory.Reply.TheVariants.{BadRange, BadSize, Done, Text, Worn, Enough, Swept, Reached, Pinned, Short}
use Rattle.eleos_base.specs.declared.plan.Plan.{Plan}
use Rattle.eleos_base.specs.Plain as plain
use Rattle.eleos_base.specs.Plain.{is_good_size, is_in_range, use_refusal}
use Rattle.eleos_base.specs.Plans.{enclave_of, sub_bytes}
use Rattle.eleos_base.specs.Terms.{IsLocal}
use Rattle.eleos_base.specs.Ties.{Has}
use Rattle.eleos_base.specs.declared.memory.Looked.{Looked}
use Rattle.eleos_core.specs.declared.event.Event.{Event}
use Rattle.eleos_core.specs.declared.event.Goal.{Goal}
use Rattle.eleos_core.specs.declared.event.Goal.TheVariants.{Low, To}
use Rattle.eleos_core.specs.declared.event.Event.TheVariants.{Op, Link, Unlink, Fill, Evict, Move, Starved, Spoiled, Survey}
use Rattle.eleos_core.specs.Legal.{ByBlocks, IsPlainly}
use Rattle.eleos_core.specs.Parts.{CallOn, EventOn, IsWantedIn, Part, Stamp, alloc_cell, block_at, block_foot, cell_of, clock_cell, foot_of, found_in, frame_cell, frame_in, holder_in, is_worn_in, list_in, live_in, owner_in, page_cell, part_after, places_in, sub_in, subs_in, survey_foot, verdict_in}
use Rattle.eleos_base.specs.Places.{home_of, page_of, sub_of, subs}
use Rattle.eleos_core.specs.Seals.{Seals, seals_by}
use Rattle.eleos_core.specs.State.{address_of, entry}
use Rattle.eleos_core.specs.Sweeps.{IsEnough, IsShort, IsSwept, IsTaken, SurveyReply}
use Rattle.eleos_core.proofs.Tests.{by_test}
use Rattle.eleos_plot.specs.Terms.{core_terms}

module _ (k : Plan) (x : Seals) (b b' : ℕ → Part) where
  -- the same parts on these cells
  abbrev Same : List ℕ → Type 0
  Same cells = (c : ℕ) → Has c cells → b' c ≡ b c

  -- an access that is out of range looks at no part
  access_same : (who : ℕ) (at : Addr) (n : ℕ) (F : Part → Type 0) (R : Reply → Type 0) → let e = enclave_of k who in let c = page_cell k (page_of k (sub_of k at)) in let inside = is_in_range (sub_bytes k e) e (subs k e) at n in
      Same (if inside then c ∷ [] else [])
      → MatchOption (if inside then use_refusal who (block_at k (b c) at) else Some BadRange) (F (b c)) R
      → MatchOption (if inside then use_refusal who (block_at k (b' c) at) else Some BadRange) (F (b' c)) R
  access_same who at n F R same h =
      let e = enclave_of k who in
      let c = page_cell k (page_of k (sub_of k at)) in
      by_test (is_in_range (sub_bytes k e) e (subs k e) at n)
      (λ v. Same (if v then c ∷ [] else []) → MatchOption (if v then use_refusal who (block_at k (b c) at) else Some BadRange) (F (b c)) R → MatchOption (if v then use_refusal who (block_at k (b' c) at) else Some BadRange) (F (b' c)) R)
      (λ _ s m. subst (λ (q : Part). MatchOption (use_refusal who (block_at k q at)) (F q) R) (sym (s c (inl refl))) m)
      (λ _ s m. m) same h

  -- a call on its cells
  call_same : (who : ℕ) (op : Calls) (blocks : List (List ℕ)) (reply : Reply) (len : ℕ) → let d : Stamp = record { entry = entry who (Op op) blocks reply; len = len } in Same (foot_of k who (Op op) reply len) → CallOn k x d b op → CallOn k x d b' op
  call_same who (Alloc n) blocks reply len same h =
      let e = enclave_of k who in
      by_test (is_good_size n)
      (λ v. Same (if v then alloc_cell k e ∷ block_foot k who (Alloc n) reply len else [])
      → IsPlainly (entry who (Op (Alloc n)) blocks reply) (if v then plain.alloc_answer (sub_bytes k e) e (plain.lowest_run (live_in (b (alloc_cell k e))) (subs k e) (plain.subs_for (sub_bytes k e) n)) else BadSize)
      → IsPlainly (entry who (Op (Alloc n)) blocks reply) (if v then plain.alloc_answer (sub_bytes k e) e (plain.lowest_run (live_in (b' (alloc_cell k e))) (subs k e) (plain.subs_for (sub_bytes k e) n)) else BadSize))
      (λ _ s m. subst (λ (q : Part). IsPlainly (entry who (Op (Alloc n)) blocks reply) (plain.alloc_answer (sub_bytes k e) e (plain.lowest_run (live_in q) (subs k e) (plain.subs_for (sub_bytes k e) n)))) (sym (s (alloc_cell k e) (inl refl))) m)
      (λ _ s m. m) same h
  call_same who (Free at) blocks reply len same h = subst (λ (q : Part). CallOn k x (record { entry = entry who (Op (Free at)) blocks reply; len = len }) (λ _. q) (Free at)) (sym (same (alloc_cell k (enclave_of k who)) (inl refl))) h
  call_same who (Share at) blocks reply len same h = subst (λ (q : Part). CallOn k x (record { entry = entry who (Op (Share at)) blocks reply; len = len }) (λ _. q) (Share at)) (sym (same (alloc_cell k (enclave_of k who)) (inl refl))) h
  call_same who (Read at n) blocks reply len same h =
      let e = entry who (Op (Read at n)) blocks reply in
      let s = sub_of k at in
      access_same who at n
      (λ q. ByBlocks (verdict_in k x e.event blocks q) (Text (plain.bytes_of (sub_bytes k at.enclave) at.enclave at.at n (found_in k x e (places_in k e.event (frame_in q) (subs_in q)) (is_some (frame_in q)) s (sub_in k (subs_in q) s)))) reply)
      (IsPlainly e) same h
  call_same who (Write at new) blocks reply len same h =
      let e = entry who (Op (Write at new)) blocks reply in
      let s = sub_of k at in
      access_same who at (length new)
      (λ q. MatchBool (is_worn_in k (sub_in k (subs_in q) s)) (IsPlainly e (Worn s)) (ByBlocks (verdict_in k x e.event blocks q) Done reply))
      (IsPlainly e) same h

  -- a survey on its cells: the pool's frames count where the answer is Short alone
  survey_same : (e : ℕ) (goal : Goal) (sweep : List Looked) (reply : Reply) → Same (survey_foot k e reply)
      → SurveyReply (list_in (b (clock_cell k (Some e)))) (list_in (b (clock_cell k None))) goal sweep reply
      → SurveyReply (list_in (b' (clock_cell k (Some e)))) (list_in (b' (clock_cell k None))) goal sweep reply
  survey_same e (Low n) sweep (Enough z) same h = subst (λ (q : Part). IsEnough (list_in q) n sweep z) (sym (same (clock_cell k (Some e)) (inl refl))) h
  survey_same e (Low n) sweep (Swept z) same h = subst (λ (q : Part). IsSwept (list_in q) n sweep z) (sym (same (clock_cell k (Some e)) (inl refl))) h
  survey_same e (To n) sweep (Reached share) same h = subst (λ (q : Part). (share ≡ length (list_in q)) × (share ≡ n) × (sweep ≡ [])) (sym (same (clock_cell k (Some e)) (inl refl))) h
  survey_same e (To n) sweep (Pinned share) same h = subst (λ (q : Part). (share ≡ length (list_in q)) × (n < share) × IsTaken sweep (list_in q)) (sym (same (clock_cell k (Some e)) (inl refl))) h
  survey_same e (To n) sweep (Short share) same h =
      let own = same (clock_cell k (Some e)) (inl refl) in
      let pool = same (clock_cell k None) (inr (inl refl)) in
      subst (λ (q : Part). (share ≡ length (list_in q)) × (share < n) × IsShort (list_in (b' (clock_cell k None))) sweep) (sym own)
      (h.0, h.1, subst (λ (q : Part). IsShort (list_in q) sweep) (sym pool) h.2)
  survey_same e (Low n) sweep _ same h = absurd h
  survey_same e (To n) sweep _ same h = absurd h

  -- an event on its cells
  event_same : (who : ℕ) (event : Event) (blocks : List (List ℕ)) (reply : Reply) (len : ℕ) → let d : Stamp = record { entry = entry who event blocks reply; len = len } in Same (foot_of k who event reply len) → EventOn k x d b event → EventOn k x d b' event
  event_same who (Op op) blocks reply len same h = call_same who op blocks reply len same h
  event_same who (Link at) blocks reply len same h = access_same who at 1 (λ q. (is_some (frame_in q) ≡ true) × IsPlainly (entry who (Link at) blocks reply) Done) (IsPlainly (entry who (Link at) blocks reply)) same h
  event_same who (Unlink p) blocks reply len same h = h
  event_same who (Fill p f) blocks reply len same h =
      let page = same (page_cell k p) (inl refl) in
      let frame = same (frame_cell k f) (inr (inl refl)) in (
        ap (λ (q : Part). frame_in q) page ∙ h.0,
        ap (λ (q : Part). holder_in q) frame ∙ h.1,
        ap (λ (q : Part). owner_in q) frame ∙ h.2,
        subst (λ (q : Part). ByBlocks (verdict_in k x (Fill p f) blocks q) Done reply) (sym page) h.3,
      )
  event_same who (Evict p f) blocks reply len same h = (ap (λ (q : Part). frame_in q) (same (page_cell k p) (inl refl)) ∙ h.0, h.1)
  event_same who (Move f from to) blocks reply len same h =
      let frame = same (frame_cell k f) (inl refl) in
      (ap (λ (q : Part). owner_in q) frame ∙ h.0, ap (λ (q : Part). holder_in q) frame ∙ h.1, h.2)
  event_same who (Starved wanted sweep) blocks reply len same h =
      let p = page_of k (sub_of k (address_of wanted)) in (
        subst (λ (q : Part). IsWantedIn k who wanted q) (sym (same (page_cell k p) (inl refl))) h.0,
        subst (λ (q : Part). IsTaken sweep (list_in q)) (sym (same (clock_cell k (home_of k p)) (inr (inl refl)))) h.1,
        h.2,
      )
  event_same who (Spoiled wanted) blocks reply len same h =
      subst (λ (q : Part). EventOn k x (record { entry = entry who (Spoiled wanted) blocks reply; len = len }) (λ _. q) (Spoiled wanted)) (sym (same (page_cell k (page_of k (sub_of k (address_of wanted)))) (inl refl))) h
  event_same who (Survey e goal sweep) blocks reply len same h =
      (survey_same e goal sweep reply same h.0, h.1)

pub core_local : IsLocal core_terms
core_local g d b a b' a' same h = record {
  may = record {
    within = h.may.within;
    on_parts = event_same g.plan (seals_by g.key) b b' d.entry.who d.entry.event d.entry.blocks d.entry.reply d.len (λ c in_foot. (same c in_foot).0) h.may.on_parts;
  };
  made = λ c in_foot. (same c in_foot).1 ∙ (h.made c in_foot ∙ ap (part_after g.plan (seals_by g.key) d (cell_of g.plan c)) (sym (same c in_foot).0));
}
