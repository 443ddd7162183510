-- What cells are after an entry that was made on them is what the longer history made of them.
use Rattle.std.proofs.Common.{◌≡◌, ℕ, ◌<◌, List, [], ◌∷◌, sym, ◌∙◌, subst, ap, inl, inr, ◌⊎◌, ⊎_elim}
use mathlib.Core.Logic.{dite}
use native.Mathlib.Decide.{ℕ_discrete}
use Rattle.eleos_base.specs.declared.memory.Op.{Op as Calls}
use Rattle.eleos_base.specs.declared.memory.Op.TheVariants.{Alloc, Free, Share, Read, Write}
use Rattle.eleos_base.specs.declared.plan.Plan.{Plan}
use Rattle.eleos_base.specs.Plans.{IsCaller, IsGood, enclave_of}
use Rattle.eleos_base.specs.Ties.{Has}
use Rattle.eleos_core.specs.declared.event.Event.{Event}
use Rattle.eleos_core.specs.declared.event.Event.TheVariants.{Op, Link, Unlink, Fill, Evict, Move, Starved, Spoiled, Survey}
use Rattle.eleos_core.specs.Applying.{Makes, Shows, parts_in}
use Rattle.eleos_core.specs.Cells.{Cells, links_in}
use Rattle.eleos_core.specs.Legal.{CoreRun, CoreStep, IsWithin}
use Rattle.eleos_core.specs.PartLaws.{IsLenOf, LinksAllow, PartsFollow}
use Rattle.eleos_core.specs.Parts.{Part, Stamp, MayStep, CallOn, EventOn, after_at, foot, len_at, live_in, part_at, part_of}
use Rattle.eleos_base.specs.Places.{all_pages}
use Rattle.eleos_core.specs.Seals.{Seals}
use Rattle.eleos_core.specs.State.{History, links, links_by}
use Rattle.eleos_core.proofs.Judging.{parts_judge}
use Rattle.eleos_core.proofs.KeepingUp.{keep_up}
use Rattle.eleos_core.proofs.Numbers.{caller_home}
use Rattle.eleos_core.proofs.Ordered.{none_empty}
use Rattle.eleos_core.proofs.Sets.{cell_of-alloc}

-- a number stands in a list, or does not
pub has_or_not : (c : ℕ) (xs : List ℕ) → Has c xs ⊎ (Has c xs → ⊥)
has_or_not c [] = inr (λ h. h)
has_or_not c (x ∷ xs) = dite (ℕ_discrete c x) (λ same. inl (inl same))
    (λ ne. ⊎_elim (λ (there : Has c xs). inl (inr there))
    (λ (away : Has c xs → ⊥). inr (λ h. ⊎_elim (λ (same : c ≡ x). ne same) (λ (there : Has c xs). away there) h)) (has_or_not c xs))

module _ (k : Plan) (x : Seals) (good : IsGood k) where
  -- the stamp of a free or share says how long the block is
  len_call : (past : History) (d : Stamp) (op : Calls) → IsWithin k d.entry.who (Op op) → CallOn k x d (part_at k x past) op → IsLenOf k past d.entry.who (Op op) d.len
  len_call past d (Alloc n) within step = tt
  len_call past d (Free at) within step = step.1 ∙ ap (λ cell. len_at k (enclave_of k d.entry.who) at (live_in (part_of k x past cell))) (cell_of-alloc k (enclave_of k d.entry.who) (caller_home k good d.entry.who within))
  len_call past d (Share at) within step = step.1 ∙ ap (λ cell. len_at k (enclave_of k d.entry.who) at (live_in (part_of k x past cell))) (cell_of-alloc k (enclave_of k d.entry.who) (caller_home k good d.entry.who within))
  len_call past d (Read at n) within step = tt
  len_call past d (Write at new) within step = tt

  -- so does the stamp of every event: where no block is freed or shared there is nothing to say
  pub len_is : (past : History) (d : Stamp) (event : Event) → IsWithin k d.entry.who event → EventOn k x d (part_at k x past) event → IsLenOf k past d.entry.who event d.len
  len_is past d (Op op) within step = len_call past d op within step
  len_is past d (Link at) within step = tt
  len_is past d (Unlink p) within step = tt
  len_is past d (Fill p f) within step = tt
  len_is past d (Evict p f) within step = tt
  len_is past d (Move f from to) within step = tt
  len_is past d (Starved wanted sweep) within step = tt
  len_is past d (Spoiled wanted) within step = tt
  len_is past d (Survey e goal sweep) within step = tt

  -- the cells before are what the history made, so what was made on them was made on its parts
  pub record Next (past : History) (d : Stamp) (new : Cells) : Type 0 where
    pub legal : CoreStep k x past d.entry
    pub shown : Shows x (d.entry ∷ past) new

  -- so the entry is legal after the history, and the cells then show the history with it
  pub next : (past : History) (d : Stamp) (old new : Cells) → old.plan ≡ k → CoreRun k x past → Shows x past old → Makes x d old new → LinksAllow k past d.entry.who d.entry.event → Next past d new
  next past d old new same run shows makes allow =
      let made : Makes x d old new = makes in
      let may : MayStep k x d (part_at k x past) = subst (λ (b : ℕ → Part). MayStep k x d b) (λ i c. at_old c i) (subst (λ (z : Plan). MayStep z x d (parts_in old)) same made.may) in
      let step : CoreStep k x past d.entry = parts_judge k x past d good run may allow in
      let follow : PartsFollow k x past d = keep_up k (none_empty k good) x past d good run step (len_is past d d.entry.event may.within may.on_parts) in
      let new_plan : new.plan ≡ k = made.plan ∙ same in record {
        legal = step;
        shown = record {
          parts = λ c. ⊎_elim
              (λ (in_foot : Has c (foot k d)). touched c in_foot follow)
              (λ (away : Has c (foot k d) → ⊥). untouched c away follow) (has_or_not c (foot k d))
              ∙ ap (λ (z : Plan). part_at z x (d.entry ∷ past) c) (sym new_plan);
          links = λ who p caller inside.
              let caller' : IsCaller k who = subst (λ (z : Plan). IsCaller z who) new_plan caller in
              let inside' : p < all_pages k = subst (λ (z : Plan). p < all_pages z) new_plan inside in
              made.links who p (subst (λ (z : Plan). IsCaller z who) (sym same) caller') (subst (λ (z : Plan). p < all_pages z) (sym same) inside')
              ∙ (ap (λ (z : Plan). links_by z d.entry.who d.entry.event d.entry.reply who p (links_in old who p)) same
              ∙ (ap (λ n. links_by k d.entry.who d.entry.event d.entry.reply who p n)
              (shows.links who p (subst (λ (z : Plan). IsCaller z who) (sym same) caller') (subst (λ (z : Plan). p < all_pages z) (sym same) inside') ∙ ap (λ (z : Plan). links z past who p) same)
              ∙ ap (λ (z : Plan). links z (d.entry ∷ past) who p) (sym new_plan)));
        };
      }
    where
      at_old : (c : ℕ) → parts_in old c ≡ part_at k x past c
      at_old c = shows.parts c ∙ ap (λ (z : Plan). part_at z x past c) same

      touched : (c : ℕ) → Has c (foot k d) → PartsFollow k x past d → parts_in new c ≡ part_at k x (d.entry ∷ past) c
      touched c in_foot follow = makes.touched c (subst (λ (z : Plan). Has c (foot z d)) (sym same) in_foot)
          ∙ (ap (λ (z : Plan). after_at z x d (parts_in old) c) same ∙ (ap (λ (b : ℕ → Part). after_at k x d b c) (λ i c'. at_old c' i) ∙ sym (follow.touched c in_foot)))

      untouched : (c : ℕ) → (Has c (foot k d) → ⊥) → PartsFollow k x past d → parts_in new c ≡ part_at k x (d.entry ∷ past) c
      untouched c away follow = makes.others c (λ h. away (subst (λ (z : Plan). Has c (foot z d)) same h)) ∙ (at_old c ∙ sym (follow.others c away))
