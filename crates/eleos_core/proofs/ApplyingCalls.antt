-- Calls on memory that were made on the cells were applied after each history that these show.
use Rattle.std.proofs.Common.{◌≡◌, ℕ, List, [], length, map, Bool, true, false, is_some, if◌then◌else◌, refl, sym, ◌∙◌, ap, subst}
use Rattle.eleos_base.specs.declared.memory.Addr.{Addr}
use Rattle.eleos_base.specs.declared.memory.Op.{Op as Calls}
use Rattle.eleos_base.specs.declared.memory.Op.TheVariants.{Read, Write}
use Rattle.eleos_base.specs.declared.memory.Reply.{Reply}
use Rattle.eleos_base.specs.declared.plan.Plan.{Plan}
use Rattle.eleos_core.specs.declared.event.Event.TheVariants.{Op}
use Rattle.eleos_core.specs.declared.machine.Put.{Put}
use Rattle.eleos_core.specs.Accesses.{AreBlocks, call_places, opened_places, page_for, read_stamp, refusal_on, sub_for, write_stamp}
use Rattle.eleos_core.specs.Allots.{Allots, block_len}
use Rattle.eleos_core.specs.Applying.{AlwaysApplies, Makes, Shows, parts_in, put_of, puts_in, stamp_of, used}
use Rattle.eleos_core.specs.Cells.{Cells}
use Rattle.eleos_core.specs.Legal.{passes}
use Rattle.eleos_core.specs.Parts.{is_worn_in}
use Rattle.eleos_base.specs.Places.{sub_of}
use Rattle.eleos_core.specs.Seals.{Seals}
use Rattle.eleos_core.specs.State.{History, access_places}
use Rattle.eleos_core.proofs.Applied.{applies}
use Rattle.eleos_core.proofs.ApplyingEvents.{applies_given, plainly_applies, used_empty, used_opened}
use Rattle.eleos_core.proofs.Tests.{by_test}

module _ (x : Seals) (old new : Cells) (who : ℕ) (given : List (List ℕ)) (reply : Reply) (sent : List Put) where
  -- what applying says, of a call with the blocks that it takes
  abbrev Applied : Calls → Type 0
  Applied op = AreBlocks (call_places old who op) given → AlwaysApplies x old who (Op op) given reply sent new

  of_call : (op told : Calls) → op ≡ told → Applied told → Applied op
  of_call op told is applied = subst Applied (sym is) applied

  -- an alloc, free or share, which takes no block and seals none
  pub allot_applies : (op told : Calls) (made : Reply) → op ≡ told → call_places old who told ≡ []
      → puts_in old.plan x (stamp_of who (Op told) [] reply (block_len old who told)) (parts_in old) (Op told) ≡ []
      → reply ≡ made → sent ≡ [] → Allots old who told made new → Applied op
  allot_applies op told made is no_place quiet same nothing makes = of_call op told is (λ fit.
      applies_given x old who (Op told) given (subst (λ ps. AreBlocks ps given) no_place fit) new reply sent
      (plainly_applies x old new who (Op told) reply (block_len old who told) sent nothing quiet (λ past shows. tt) (subst (λ r. Allots old who told r new) (sym same) makes x)))

  -- a read, and a write
  pub read_applies : (op : Calls) (at : Addr) (n : ℕ) (made : Reply) → op ≡ Read at n → reply ≡ made → sent ≡ [] → Makes x (read_stamp who at n given made) old new → Applied op
  read_applies op at n made is same nothing makes = of_call op (Read at n) is (λ fit past good run shows.
      applies old.plan x good past who (Op (Read at n)) given given reply 0 old new sent refl run shows (subst (λ r. Makes x (read_stamp who at n given r) old new) (sym same) makes) tt
      (ap (map put_of) nothing) (used_opened x old past shows who at n given fit.count))

  -- a worn sub-page takes no block
  used_rewritten : (past : History) → Shows x past old → (at : Addr) (bytes : List ℕ) → AreBlocks (call_places old who (Write at bytes)) given
      → used (passes old.plan x past) (access_places old.plan past (sub_of old.plan at)) given ≡ given
  used_rewritten past shows at bytes fit =
      let k : Plan = old.plan in
      let refused : Bool = is_some (refusal_on old who at (length bytes)) in
      by_test (is_worn_in k (sub_for k at (page_for old at)))
      (λ worn. length given ≡ length (if refused then [] else if worn then [] else opened_places k at (page_for old at)) → used (passes k x past) (access_places k past (sub_of k at)) given ≡ given)
      (λ _ none. used_empty (passes k x past) (access_places k past (sub_of k at)) given (none ∙ neither refused))
      (λ _ some. used_opened x old past shows who at (length bytes) given some)
      fit.count
    where
      nothing : List ℕ
      nothing = []

      neither : (refused : Bool) → length (if refused then nothing else nothing) ≡ 0
      neither true = refl
      neither false = refl

  -- of a write, which may seal one block and send it
  pub write_applies : (op : Calls) (at : Addr) (bytes : List ℕ) → op ≡ Write at bytes → Makes x (write_stamp who at bytes given reply) old new
      → map put_of sent ≡ puts_in old.plan x (write_stamp who at bytes given reply) (parts_in old) (Op (Write at bytes)) → Applied op
  write_applies op at bytes is makes puts = of_call op (Write at bytes) is (λ fit past good run shows.
      applies old.plan x good past who (Op (Write at bytes)) given given reply 0 old new sent refl run shows makes tt puts (used_rewritten past shows at bytes fit))
