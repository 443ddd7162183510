-- Links and unlinks, made on the cells or illegal after each history that these show.
use Rattle.std.proofs.Common.{◌≡◌, ℕ, ◌<◌, ◌≤◌, List, [], take, Bool, true, false, ◌||◌, Option, Some, None, MatchOption, if◌then◌else◌, is_some, nat_le, refl, sym, subst, arith}
use Rattle.std.proofs.lemmas.Bool.{leb-false, leb-true}
use Rattle.eleos_base.specs.declared.memory.Addr.{Addr}
use Rattle.eleos_base.specs.declared.memory.Part.{Part as Offence}
use Rattle.eleos_base.specs.declared.memory.Part.TheVariants.{Absent, Untied}
use Rattle.eleos_base.specs.declared.memory.Reply.{Reply}
use Rattle.eleos_base.specs.declared.memory.Reply.TheVariants.{Done}
use Rattle.eleos_base.specs.Plans.{IsCaller}
use Rattle.eleos_core.specs.declared.event.Entry.{Entry}
use Rattle.eleos_core.specs.declared.event.Event.TheVariants.{Link, Unlink}
use Rattle.eleos_core.specs.declared.machine.Put.{Put}
use Rattle.eleos_core.specs.Accesses.{link_stamp, may_link, page_for, refusal_on, unlink_stamp}
use Rattle.eleos_core.specs.Applying.{AlwaysApplies, AlwaysIllegal, Makes, stamp_of}
use Rattle.eleos_core.specs.Cells.{Cells, links_in}
use Rattle.eleos_core.specs.Legal.{IsPlainly}
use Rattle.eleos_core.specs.Parts.{MayStep, Part, Stamp, block_at, frame_in, part_at, refusal_in}
use Rattle.eleos_base.specs.Places.{all_pages}
use Rattle.eleos_core.specs.Seals.{Seals}
use Rattle.eleos_core.specs.State.{entry, links}
use Rattle.eleos_core.proofs.ApplyingEvents.{page_shown, plainly_applies}
use Rattle.eleos_core.proofs.Judging.{parts_allow}

-- what the test for an offence tells: that there is none, or which it is
pub allowed : (test : Bool) (offence : Offence) → None ≡ (if test then None else Some offence) → test ≡ true
allowed true offence told = refl
allowed false offence told = cc

forbidden : (test : Bool) (offence part : Offence) → Some part ≡ (if test then None else Some offence) → (test ≡ false) × (part ≡ offence)
forbidden true offence part told = cc
forbidden false offence part told = (refl, cc)

-- a link that is neither refused nor of a page in a frame
unmet : (refusal : Option Reply) (present : Bool) (A : Type 0) (P : Reply → Type 0) → is_some refusal || present ≡ false → MatchOption refusal ((present ≡ true) × A) P → ⊥
unmet None present A P barred step = let there : present ≡ true = step.0 in cc
unmet (Some reply) present A P barred step = cc

module _ (x : Seals) (old : Cells) (who : ℕ) where
  -- a link that was made on the cells was applied, and sent nothing to the host
  pub link_applies : (new : Cells) (at : Addr) (reply : Reply) (sent : List Put) → sent ≡ [] → Makes x (link_stamp who at reply) old new
      → AlwaysApplies x old who (Link at) [] reply sent new
  link_applies new at reply sent nothing makes = plainly_applies x old new who (Link at) reply 0 sent nothing refl (λ past shows. tt) makes

  -- so was an unlink of a page on which the caller has a link
  pub unlink_applies : (new : Cells) (page : ℕ) (reply : Reply) (sent : List Put) → IsCaller old.plan who → page < all_pages old.plan → None ≡ (if nat_le 1 (links_in old who page) then None else Some Untied)
      → sent ≡ [] → Makes x (unlink_stamp who page reply) old new → AlwaysApplies x old who (Unlink page) [] reply sent new
  unlink_applies new page reply sent caller exists told nothing makes =
      let linked : 1 ≤ links_in old who page = leb-true 1 (links_in old who page) (allowed (nat_le 1 (links_in old who page)) Untied told) in
      plainly_applies x old new who (Unlink page) reply 0 sent nothing refl (λ past shows. subst (λ n. 1 ≤ n) (shows.links who page caller exists) linked) makes

  -- a link that is not refused is illegal where the page is absent
  pub link_illegal : (at : Addr) (part : Offence) → Some part ≡ (if may_link old who at then None else Some Absent) → AlwaysIllegal x old who (Link at) [] part
  link_illegal at part told = λ past good run shows. record {
    never = λ count reply step.
        let barred : may_link old who at ≡ false = (forbidden (may_link old who at) Absent part told).0 in
        let e : Entry = entry who (Link at) (take count []) reply in
        let d : Stamp = stamp_of who (Link at) (take count []) reply 0 in
        let may : MayStep old.plan x d (part_at old.plan x past) = parts_allow old.plan x past d good run step tt in
        unmet (refusal_on old who at 1) (is_some (frame_in (page_for old at))) (IsPlainly e Done) (IsPlainly e) barred
        (subst (λ (q : Part). MatchOption (refusal_in old.plan who at 1 (block_at old.plan q at)) ((is_some (frame_in q) ≡ true) × IsPlainly e Done) (IsPlainly e))
        (sym (page_shown x old past shows at)) may.on_parts);
    part_is = (forbidden (may_link old who at) Absent part told).1;
  }

  -- and an unlink where the caller has no link on the page
  pub unlink_illegal : (page : ℕ) (part : Offence) → Some part ≡ (if nat_le 1 (links_in old who page) then None else Some Untied) → AlwaysIllegal x old who (Unlink page) [] part
  unlink_illegal page part told = λ past good run shows. record {
    never = λ count reply step.
        let barred : nat_le 1 (links_in old who page) ≡ false = (forbidden (nat_le 1 (links_in old who page)) Untied part told).0 in
        let linked : 1 ≤ links old.plan past who page = step.step.0 in
        let same : links_in old who page ≡ links old.plan past who page = shows.links who page step.within.0 step.within.1 in
        let none : links_in old who page < 1 = leb-false 1 (links_in old who page) barred in
        omega arith;
    part_is = (forbidden (nat_le 1 (links_in old who page)) Untied part told).1;
  }
