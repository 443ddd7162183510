-- What the cells tell of a history that they show.
use Rattle.std.proofs.Common.{◌≡◌, ℕ, ◌*◌, ◌<◌, ◌≤◌, ◌==◌, ◌&&◌, List, [], ◌∷◌, Bool, true, false, Option, Some, None, is_some, inl, inr, ◌⊎◌, if◌then◌else◌, refl, sym, ◌∙◌, subst, ap, length, arith}
use Rattle.std.proofs.lemmas.Bool.{cases_lt, ne_eqb}
use Rattle.eleos_base.specs.declared.memory.Addr.{Addr}
use Rattle.eleos_base.specs.declared.memory.Reply.{Reply}
use Rattle.eleos_base.specs.declared.plan.Plan.{Plan}
use Rattle.eleos_base.specs.Plain.{is_accepted}
use Rattle.eleos_base.specs.Plans.{IsCaller, IsGood}
use Rattle.eleos_core.specs.declared.event.Event.{Event}
use Rattle.eleos_core.specs.declared.event.Event.TheVariants.{Fill, Evict}
use Rattle.eleos_core.specs.Accesses.{page_for}
use Rattle.eleos_core.specs.Applying.{Shows, parts_in, used}
use Rattle.eleos_core.specs.Cells.{Cells}
use Rattle.eleos_core.specs.Fills.{page_in, sealed_places, the_frame_in}
use Rattle.eleos_core.specs.Legal.{CoreRun, CoreStep, passes}
use Rattle.eleos_core.specs.Offences.{IsUnlinked}
use Rattle.eleos_core.specs.PartLaws.{IsLenOf}
use Rattle.eleos_core.specs.Parts.{MayStep, Part, Stamp, clock_cell, frame_cell, frame_in, list_in, owner_in, page_cell, part_at, part_of, passes_in, subs_in}
use Rattle.eleos_base.specs.Places.{all_frames, all_pages, page_of, per_page, sub_of}
use Rattle.eleos_core.specs.Quiet.{frames_of_owner}
use Rattle.eleos_core.specs.Seals.{Seals}
use Rattle.eleos_core.specs.State.{History, entry, frame, frame_by, frames_of, is_present, links, owner, page_places}
use Rattle.eleos_core.proofs.CellNumbers.{enclave_clock_is, sealed_are}
use Rattle.eleos_core.proofs.Judging.{parts_allow}
use Rattle.eleos_core.proofs.OnParts.{owner_here, page, page_here}
use Rattle.eleos_core.proofs.Sets.{by_number}
use Rattle.eleos_core.proofs.Strangers.{no_links}
use Rattle.eleos_core.proofs.Tests.{by_test}
use Rattle.eleos_core.proofs.UsedBlocks.{page_used}

-- everybody is a caller, or is none
caller_or_not : (k : Plan) (who : ℕ) → IsCaller k who ⊎ (IsCaller k who → ⊥)
caller_or_not k who = elim (cases_lt 0 who) [
  | inl some ↦ elim (cases_lt (length k.callers) who) [
    | inl above ↦ inr (λ caller. let within = caller.within in absurd (omega arith))
    | inr within ↦ inl (record { from_one = omega arith; within = within })
  ]
  | inr below ↦ inr (λ caller. let from_one = caller.from_one in absurd (omega arith))
]

module _ (k : Plan) (x : Seals) where
  -- what is no page of the machine is in no frame
  outside_step : (past : History) (who : ℕ) (event : Event) (blocks : List (List ℕ)) (reply : Reply) (p : ℕ) → all_pages k ≤ p → CoreStep k x past (entry who event blocks reply) → frame past p ≡ None
      → frame_by event reply p (frame past p) ≡ None
  outside_step past who (Fill q f) blocks reply p outside step none = ap (λ v. if v then Some f else frame past p) (never (is_accepted reply)) ∙ none
    where
      other : p == q ≡ false
      other = ne_eqb p q (λ same. let inside : q < all_pages k = step.within.1 in absurd (omega arith))

      never : (b : Bool) → b && p == q ≡ false
      never true = other
      never false = refl
  outside_step past who (Evict q f) blocks reply p outside step none = by_test (p == q) (λ v. (if v then None else frame past p) ≡ None) (λ _. refl) (λ _. none)
  outside_step past who _ blocks reply p outside step none = none

  outside_none : (h : History) → CoreRun k x h → (p : ℕ) → all_pages k ≤ p → frame h p ≡ None
  outside_none [] run p outside = refl
  outside_none (e ∷ past) run p outside = outside_step past e.who e.event e.blocks e.reply p outside run.0 (outside_none past run.1 p outside)

  outside_part : (past : History) (p : ℕ) → all_pages k ≤ p → frame_in (part_at k x past (page_cell k p)) ≡ None
  outside_part past p outside = by_number k (λ cell. frame_in (part_of k x past cell) ≡ None) (page_cell k p)
      (λ h. refl)
      (λ e h is. refl)
      (λ is. refl)
      (λ q h is. absurd (omega arith))
      (λ f h is. refl)
      (λ h. refl)

module _ (x : Seals) (old : Cells) (past : History) (shows : Shows x past old) where
  -- a legal entry may be made on the cells
  pub may_of : (d : Stamp) → IsGood old.plan → CoreRun old.plan x past → CoreStep old.plan x past d.entry → IsLenOf old.plan past d.entry.who d.entry.event d.len → MayStep old.plan x d (parts_in old)
  may_of d good run step len_is = subst (λ (b : ℕ → Part). MayStep old.plan x d b) (λ i c. sym (shows.parts c) i) (parts_allow old.plan x past d good run step len_is)

  -- a page and a frame of the machine
  page_shown : (p : ℕ) → p < all_pages old.plan → page_in old p ≡ page old.plan x past p
  page_shown p inside = shows.parts (page_cell old.plan p) ∙ page_here old.plan x past p inside

  -- the places of its blocks
  pub places_shown : (p : ℕ) → p < all_pages old.plan → sealed_places p (page_in old p) ≡ page_places old.plan past p
  places_shown p inside = ap (λ (q : Part). sealed_places p q) (page_shown p inside) ∙ sealed_are old.plan x past (p * per_page old.plan) (per_page old.plan)

  -- the frame that a page is in by the cells is the one after the history
  pub frame_shown : (p : ℕ) → p < all_pages old.plan → frame_in (page_in old p) ≡ frame past p
  frame_shown p inside = ap (λ (q : Part). frame_in q) (page_shown p inside)

  -- and so is the owner of a frame
  pub owner_shown : (f : ℕ) → f < all_frames old.plan → owner_in (the_frame_in old f) ≡ owner old.plan past f
  owner_shown f inside = ap (λ (q : Part). owner_in q) (shows.parts (frame_cell old.plan f)) ∙ owner_here old.plan x past f inside

  -- the blocks of a page that are used
  pub used_shown : (p : ℕ) (given : List (List ℕ)) → p < all_pages old.plan
      → used (passes_in old.plan x (subs_in (page_in old p))) (sealed_places p (page_in old p)) given ≡ used (passes old.plan x past) (page_places old.plan past p) given
  used_shown p given inside = ap (λ (q : Part). used (passes_in old.plan x (subs_in q)) (sealed_places p q) given) (page_shown p inside) ∙ page_used old.plan x past p given

  -- whether the page of an address, which may be none of the machine's, is in a frame
  pub present_shown : CoreRun old.plan x past → (at : Addr) → is_some (frame_in (page_for old at)) ≡ is_present old.plan past (sub_of old.plan at)
  present_shown run at = elim (cases_lt (page_of old.plan (sub_of old.plan at)) (all_pages old.plan)) [
    | inl inside ↦ ap (λ (o : Option ℕ). is_some o) (frame_shown (page_of old.plan (sub_of old.plan at)) inside)
    | inr outside ↦ (let p : ℕ = page_of old.plan (sub_of old.plan at) in
        let none : frame_in (page_for old at) ≡ None = ap (λ (q : Part). frame_in q) (shows.parts (page_cell old.plan p)) ∙ outside_part old.plan x past p outside in
        ap (λ (o : Option ℕ). is_some o) (none ∙ sym (outside_none old.plan x past run p outside)))
  ]

  -- nobody links the page
  pub unlinked_shown : CoreRun old.plan x past → (p : ℕ) → p < all_pages old.plan → IsUnlinked old p → (by : ℕ) → links old.plan past by p ≡ 0
  unlinked_shown run p inside unlinked by = elim (caller_or_not old.plan by) [
    | inl caller ↦ sym (shows.links by p caller inside) ∙ unlinked by caller
    | inr stranger ↦ no_links old.plan x by stranger past run p
  ]

  -- the frames of an enclave
  pub frames_shown : (e : ℕ) → e < length old.plan.enclaves → frames_of_owner old (Some e) ≡ frames_of old.plan past (Some e)
  frames_shown e inside = ap (λ (q : Part). list_in q) (shows.parts (clock_cell old.plan (Some e))) ∙ ap (λ c. list_in (part_of old.plan x past c)) (enclave_clock_is old.plan e inside)
