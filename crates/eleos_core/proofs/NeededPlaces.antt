-- The places that an event needs by the cells are those whose blocks a legal entry of it takes.
use Rattle.std.proofs.Common.{◌≡◌, ℕ, List, [], Bool, true, false, Option, Some, None, MatchBool, MatchOption, if◌then◌else◌, is_some, length, take, refl, sym, ◌∙◌, ap}
use Rattle.eleos_base.specs.declared.memory.Addr.{Addr}
use Rattle.eleos_base.specs.declared.memory.Op.TheVariants.{Alloc, Free, Share, Read, Write}
use Rattle.eleos_base.specs.declared.memory.Reply.{Reply}
use Rattle.eleos_base.specs.declared.memory.Reply.TheVariants.{Worn}
use Rattle.eleos_base.specs.declared.plan.Plan.{Plan}
use Rattle.eleos_core.specs.declared.event.Entry.{Entry}
use Rattle.eleos_core.specs.declared.event.Event.{Event}
use Rattle.eleos_core.specs.declared.event.Event.TheVariants.{Op, Link, Unlink, Fill, Evict, Move, Starved, Spoiled, Survey}
use Rattle.eleos_core.specs.Accesses.{opened_places, page_for, refusal_on, rewritten_places, sub_for}
use Rattle.eleos_core.specs.Applying.{Shows}
use Rattle.eleos_core.specs.Cells.{Cells}
use Rattle.eleos_core.specs.Legal.{CoreStep, IsPlainly, access_refusal, is_worn}
use Rattle.eleos_core.specs.Needs.{AlwaysCovers, needed}
use Rattle.eleos_core.specs.Parts.{Part, is_worn_in}
use Rattle.eleos_base.specs.Places.{page_of, sub_of}
use Rattle.eleos_core.specs.Seals.{Seals}
use Rattle.eleos_core.specs.State.{History, access_places, address_of, entry, places}
use Rattle.eleos_core.proofs.ApplyingEvents.{opened_shown, page_shown, refusal_shown}
use Rattle.eleos_core.proofs.Judging.{worn_here}
use Rattle.eleos_core.proofs.OnParts.{exists_of, wanted_exists}
use Rattle.eleos_core.proofs.ShownParts.{places_shown}

-- so many blocks have the same places
abbrev Covers : List (List ℕ) → List ℕ → List ℕ → Type 0
Covers blocks ps qs = take (length blocks) ps ≡ take (length blocks) qs

-- no blocks have none
no_places : (blocks : List (List ℕ)) (ps qs : List ℕ) → blocks ≡ [] → Covers blocks ps qs
no_places blocks ps qs none = ap (λ (bs : List (List ℕ)). take (length bs) ps) none ∙ sym (ap (λ (bs : List (List ℕ)). take (length bs) qs) none)

module _ (e : Entry) (ps qs : List ℕ) where
  -- no block comes where an access is refused, and none for a write that is worn
  by_refusal : (o o' : Option Reply) (A : Type 0) → o' ≡ o → (o ≡ None → A → Covers e.blocks ps qs) → MatchOption o A (IsPlainly e) → Covers e.blocks ps (if is_some o' then [] else qs)
  by_refusal o o' A same free step = at o free step ∙ ap (λ (z : Option Reply). take (length e.blocks) (if is_some z then [] else qs)) (sym same)
    where
      at : (z : Option Reply) → (z ≡ None → A → Covers e.blocks ps qs) → MatchOption z A (IsPlainly e) → Covers e.blocks ps (if is_some z then [] else qs)
      at None free step = free refl step
      at (Some reply) free step = no_places e.blocks ps [] step.no_block

  by_wear : (b b' : Bool) (reply : Reply) (B : Type 0) → b' ≡ b → Covers e.blocks ps qs → MatchBool b (IsPlainly e reply) B → Covers e.blocks ps (if b' then [] else qs)
  by_wear b b' reply B same fresh step = at b step ∙ ap (λ (v : Bool). take (length e.blocks) (if v then [] else qs)) (sym same)
    where
      at : (v : Bool) → MatchBool v (IsPlainly e reply) B → Covers e.blocks ps (if v then [] else qs)
      at true step = no_places e.blocks ps [] step.no_block
      at false step = fresh

module _ (x : Seals) (m : Cells) (past : History) (shows : Shows x past m) (who : ℕ) where
  -- the place of an access that is not refused
  opened_covers : (at : Addr) (n : ℕ) (blocks : List (List ℕ)) → access_refusal m.plan past who at n ≡ None → Covers blocks (access_places m.plan past (sub_of m.plan at)) (opened_places m.plan at (page_for m at))
  opened_covers at n blocks free = ap (take (length blocks)) (sym (opened_shown x m past shows who at n free))

  worn_shown : (at : Addr) (n : ℕ) → access_refusal m.plan past who at n ≡ None → is_worn_in m.plan (sub_for m.plan at (page_for m at)) ≡ is_worn m.plan past (sub_of m.plan at)
  worn_shown at n free =
      let k : Plan = m.plan in
      ap (λ (q : Part). is_worn_in k (sub_for k at q)) (page_shown x m past shows at) ∙ worn_here k x past (sub_of k at) (exists_of k x past who at n free)

  covered : (event : Event) (blocks : List (List ℕ)) (reply : Reply) → CoreStep m.plan x past (entry who event blocks reply) → Covers blocks (places m.plan event past) (needed m who event)
  covered (Op (Alloc n)) blocks reply step = refl
  covered (Op (Free at)) blocks reply step = refl
  covered (Op (Share at)) blocks reply step = refl
  covered (Op (Read at n)) blocks reply step =
      by_refusal (entry who (Op (Read at n)) blocks reply) (access_places m.plan past (sub_of m.plan at)) (opened_places m.plan at (page_for m at)) (access_refusal m.plan past who at n) (refusal_on m who at n) _
      (refusal_shown x m past shows who at n) (λ free step. opened_covers at n blocks free) step.step
  covered (Op (Write at bytes)) blocks reply step =
      let e : Entry = entry who (Op (Write at bytes)) blocks reply in
      let s : ℕ = sub_of m.plan at in
      by_refusal e (access_places m.plan past s) (rewritten_places m.plan at (page_for m at)) (access_refusal m.plan past who at (length bytes)) (refusal_on m who at (length bytes)) _
      (refusal_shown x m past shows who at (length bytes))
      (λ free step. by_wear e (access_places m.plan past s) (opened_places m.plan at (page_for m at)) (is_worn m.plan past s) (is_worn_in m.plan (sub_for m.plan at (page_for m at))) (Worn s) _
      (worn_shown at (length bytes) free) (opened_covers at (length bytes) blocks free) step)
      step.step
  covered (Link at) blocks reply step = refl
  covered (Unlink p) blocks reply step = refl
  covered (Fill p f) blocks reply step = ap (take (length blocks)) (sym (places_shown x m past shows p step.within.1))
  covered (Evict p f) blocks reply step = refl
  covered (Move f from to) blocks reply step = refl
  covered (Starved wanted sweep) blocks reply step = refl
  covered (Spoiled wanted) blocks reply step = ap (take (length blocks))
      (sym (places_shown x m past shows (page_of m.plan (sub_of m.plan (address_of wanted))) (wanted_exists m.plan x past who wanted step.within.1 step.step.0.not_refused)))
  covered (Survey e goal sweep) blocks reply step = refl

-- what is found of the event is what it needs
pub needed_covers : (m : Cells) (who : ℕ) (event : Event) (at : List ℕ) → at ≡ needed m who event → AlwaysCovers m who event at
needed_covers m who event at is x past good run shows blocks reply step = covered x m past shows who event blocks reply step ∙ ap (take (length blocks)) (sym is)
