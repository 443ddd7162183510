-- Events that were made on the cells were applied after each history that these show.
use Rattle.std.proofs.Common.{◌≡◌, ℕ, List, [], ◌∷◌, length, map, Bool, true, false, is_some, if◌then◌else◌, refl, sym, ◌∙◌, ap, subst, arith, None}
use Rattle.eleos_base.specs.declared.memory.Addr.{Addr}
use Rattle.eleos_base.specs.declared.memory.Part.{Part as Offence}
use Rattle.eleos_base.specs.declared.memory.Reply.{Reply}
use Rattle.eleos_base.specs.declared.plan.Plan.{Plan}
use Rattle.eleos_core.specs.declared.event.Event.{Event}
use Rattle.eleos_core.specs.declared.machine.Put.{Put}
use Rattle.eleos_core.specs.Accesses.{AreBlocks, opened_places, page_for, refusal_for, refusal_on}
use Rattle.eleos_core.specs.Applying.{AlwaysApplies, AlwaysIllegal, Makes, Shows, parts_in, put_of, puts_in, stamp_of, used}
use Rattle.eleos_core.specs.Cells.{Cells}
use Rattle.eleos_core.specs.Legal.{access_refusal, passes}
use Rattle.eleos_core.specs.PartLaws.{LinksAllow}
use Rattle.eleos_core.specs.Parts.{Part, SubPart, page_cell}
use Rattle.eleos_base.specs.Places.{page_of, sub_of}
use Rattle.eleos_core.specs.Seals.{Seals}
use Rattle.eleos_core.specs.State.{History, access_places, is_present, is_sealed, places}
use Rattle.eleos_core.proofs.AccessParts.{no_blocks}
use Rattle.eleos_core.proofs.Applied.{applies, used_none, used_one}
use Rattle.eleos_core.proofs.CellNumbers.{part_of_sub}
use Rattle.eleos_core.proofs.OnParts.{cell_part, exists_of, page_here, refusal_same}
use Rattle.eleos_core.proofs.Tests.{by_test}
use Rattle.eleos_core.proofs.Machines.{none_of}

-- an event that takes no blocks and seals none
pub plainly_applies : (x : Seals) (old new : Cells) (who : ℕ) (event : Event) (reply : Reply) (len : ℕ) (sent : List Put)
    → sent ≡ [] → puts_in old.plan x (stamp_of who event [] reply len) (parts_in old) event ≡ [] → ((past : History) → Shows x past old → LinksAllow old.plan past who event)
    → Makes x (stamp_of who event [] reply len) old new → AlwaysApplies x old who event [] reply sent new
plainly_applies x old new who event reply len sent nothing quiet allow makes = λ past good run shows.
    applies old.plan x good past who event [] [] reply len old new sent refl run shows makes (allow past shows) (ap (map put_of) nothing ∙ sym quiet)
    (used_none (passes old.plan x past) (places old.plan event past))

-- no blocks are given where none are taken
module _ (x : Seals) (old : Cells) (who : ℕ) (event : Event) (given : List (List ℕ)) (fit : AreBlocks [] given) where
  -- so what was applied without blocks was applied with those given
  pub applies_given : (new : Cells) (reply : Reply) (sent : List Put) → AlwaysApplies x old who event [] reply sent new → AlwaysApplies x old who event given reply sent new
  applies_given new reply sent applied = subst (λ blocks. AlwaysApplies x old who event blocks reply sent new) (sym (no_blocks given fit)) applied

  -- and what is illegal without blocks is illegal with those given
  pub illegal_given : (part : Offence) → AlwaysIllegal x old who event [] part → AlwaysIllegal x old who event given part
  illegal_given part illegal = subst (λ blocks. AlwaysIllegal x old who event blocks part) (sym (no_blocks given fit)) illegal

-- no blocks are all used, and so is the block of one place
pub used_empty : (test : ℕ → List ℕ → Bool) (ps : List ℕ) (given : List (List ℕ)) → length given ≡ 0 → used test ps given ≡ given
used_empty test ps [] count = used_none test ps
used_empty test ps (c ∷ cs) count = absurd (omega arith)

used_access : (test : ℕ → List ℕ → Bool) (present sealed : Bool) (s : ℕ) (given : List (List ℕ)) → length given ≡ length (if present then [] else if sealed then s ∷ [] else [])
    → used test (if present then [] else if sealed then s ∷ [] else []) given ≡ given
used_access test true sealed s given count = used_empty test [] given count
used_access test false false s given count = used_empty test [] given count
used_access test false true s [] count = refl
used_access test false true s (c ∷ []) count = used_one test s c
used_access test false true s (c ∷ (d ∷ cs)) count = absurd (omega arith)

-- cells that show a history
module _ (x : Seals) (m : Cells) (past : History) (shows : Shows x past m) where
  -- the part of an address's page is what the history made of it
  pub page_shown : (at : Addr) → page_for m at ≡ cell_part m.plan x past (page_of m.plan (sub_of m.plan at))
  page_shown at = shows.parts (page_cell m.plan (page_of m.plan (sub_of m.plan at)))

  -- and an access is refused by them just as it is after the history
  pub refusal_shown : (who : ℕ) (at : Addr) (n : ℕ) → refusal_on m who at n ≡ access_refusal m.plan past who at n
  refusal_shown who at n = ap (λ (q : Part). refusal_for m.plan who at n q) (page_shown at) ∙ refusal_same m.plan x past who at n

  -- the place of an access that is not refused
  pub opened_shown : (who : ℕ) (at : Addr) (n : ℕ) → access_refusal m.plan past who at n ≡ None → opened_places m.plan at (page_for m at) ≡ access_places m.plan past (sub_of m.plan at)
  opened_shown who at n free =
      let k : Plan = m.plan in
      let s : ℕ = sub_of k at in
      ap (λ (q : Part). opened_places k at q) (page_shown at ∙ page_here k x past (page_of k s) (exists_of k x past who at n free))
      ∙ ap (λ (u : SubPart). if is_present k past s then [] else if u.is_sealed then s ∷ [] else []) (part_of_sub k x past s)

  -- the blocks of an access are all used
  pub used_opened : (who : ℕ) (at : Addr) (n : ℕ) (given : List (List ℕ)) → length given ≡ length (if is_some (refusal_on m who at n) then [] else opened_places m.plan at (page_for m at))
      → used (passes m.plan x past) (access_places m.plan past (sub_of m.plan at)) given ≡ given
  used_opened who at n given count =
      let k : Plan = m.plan in
      let s : ℕ = sub_of k at in
      by_test (is_some (refusal_on m who at n)) (λ v. length given ≡ length (if v then [] else opened_places k at (page_for m at)) → used (passes k x past) (access_places k past s) given ≡ given)
      (λ _ none. used_empty (passes k x past) (access_places k past s) given none)
      (λ free one. used_access (passes k x past) (is_present k past s) (is_sealed k past s) s given
      (one ∙ ap length (opened_shown who at n (sym (refusal_shown who at n) ∙ none_of (refusal_on m who at n) free)))) count
