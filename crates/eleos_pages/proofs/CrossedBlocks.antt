-- The blocks that came into the slots of a tap.
use Rattle.std.proofs.Common.{◌≡◌, ◌≢◌, ℕ, ◌<◌, List, [], ◌∷◌, length, true, false, Option, Some, None, is_some, option_map, slice_index_or, if◌then◌else◌, refl, sym, ◌∙◌, ap, subst, arith, get_or-set_other}
use Rattle.eleos_base.specs.declared.memory.Addr.{Addr}
use Rattle.eleos_base.specs.declared.memory.Reply.{Reply}
use Rattle.eleos_base.specs.declared.memory.Reply.TheVariants.{Tampered}
use Rattle.eleos_base.specs.declared.plan.Plan.{Plan}
use Rattle.eleos_core.specs.declared.accesses.spots.Spot.{Spot}
use Rattle.eleos_core.specs.declared.cells.page.Page.{Page}
use Rattle.eleos_core.specs.declared.cells.sub_page.SubPage.{SubPage}
use Rattle.eleos_core.specs.Accesses.{IsSpot, sub_for}
use Rattle.eleos_core.specs.Cells.{part_of_page, part_with, subs_per_page}
use Rattle.eleos_core.specs.Parts.{SubPart}
use Rattle.eleos_core.specs.Texts.{came_for}
use Rattle.eleos_core.proofs.Machines.{none_of}
use Rattle.eleos_core.proofs.Reading.{came-found, sealed-found}
use Rattle.eleos_host.specs.declared.port.HostPort.{Ghosts}
use Rattle.eleos_host.specs.declared.port.HostStore as store
use Rattle.eleos_host.specs.declared.slot.SlotState.{SlotState}
use Rattle.eleos_host.specs.declared.slot.SlotState.TheVariants.{Idle, AsItCame, Lent}
use Rattle.eleos_host.specs.Blocks.{zero_block}
use Rattle.eleos_host.specs.Stores.{Store}
use Rattle.eleos_host.specs.Taps.{TapState, IsAsItCame, IsIdle, block_of, failed_block, lent_state, state_of, with_failed, with_lent, with_port}
use Rattle.eleos_pages.specs.Crossed.{Crosses, at_place, came, came_as, came_in, spoiled_by, with_puts}
use Rattle.eleos_base.specs.Lists.{last_of}

-- no block is named where none came
pub none-spoiled : (reply : Reply) → spoiled_by reply [] ≡ None
none-spoiled (Tampered s) = refl
none-spoiled _ = refl

module _ {P : Type 0} where
  -- the block that came for a sealed sub-page lies in its slot as it came
  pub as_it_came : (tap : TapState P) (slot : ℕ) (u : SubPart) → came_in slot tap ≡ came_for u (block_of tap slot) → u.is_sealed ≡ true → IsAsItCame tap slot
  as_it_came tap slot u came_is sealed = by_state (state_of tap slot) (block_of tap slot) (came_is ∙ ap (λ v. if v then block_of tap slot ∷ [] else []) sealed)
    where
      by_state : (s : SlotState) (b : List ℕ) → came_as s b ≡ b ∷ [] → s ≡ AsItCame
      by_state Idle b e = absurd (cc)
      by_state AsItCame b e = refl
      by_state Lent b e = absurd (cc)

  -- and where it does not pass the tap names it
  pub names-spoiled : (tap : TapState P) (u : SubPart) (s : ℕ) (reply : Reply) → came tap ≡ came_for u (block_of tap 0) → u.is_sealed ≡ true → reply ≡ Tampered s
      → failed_block (with_failed tap 0) ≡ spoiled_by reply (came tap)
  names-spoiled tap u s reply came_is sealed is =
      sym (ap (λ r. spoiled_by r (came tap)) is ∙ ap last_of (came_is ∙ ap (λ v. if v then block_of tap 0 ∷ [] else []) sealed))

  -- what came into the first slot stays there while a block goes from the second
  pub came-handed : (tap : TapState P) (block : List ℕ) (port : P) → came (with_port (with_lent tap 1 block) port) ≡ came tap
  came-handed tap block port =
      let other : 0 ≢ 1 = omega arith in
      (λ i. came_as (get_or-set_other tap.states 1 0 (lent_state (state_of tap 1)) Idle other i) (get_or-set_other tap.blocks 1 0 block zero_block other i))

  -- before anything came
  pub came-idle : (tap : TapState P) → IsIdle tap 0 → came tap ≡ []
  came-idle tap idle = ap (λ s. came_as s (block_of tap 0)) idle

-- the sub-page of an absent page that has the address, whose block came into the first slot if it lies sealed
module _ (k : Plan) (at : Addr) (page : Page) (spot : Spot) (u : SubPage) (is : IsSpot k at spot) (whole : length page.subs.items ≡ subs_per_page) (absent : is_some page.present ≡ false)
    (value : u ≡ slice_index_or page.subs.items spot.index u) {P : Type 0} (tap : TapState P) (fetched : came tap ≡ came_for (part_with u []) (block_of tap 0)) where
  inside : spot.index < length page.subs.items
  inside = let in_page = is.in_page in omega (arith, in_page, whole)

  none : page.present ≡ None
  none = none_of page.present absent

  -- the access takes the block that came
  pub takes_came : (block : List ℕ) → block ≡ block_of tap 0 → came_for (sub_for k at (part_of_page page)) block ≡ came tap
  takes_came block same = came-found k at page spot u is inside none value block ∙ (ap (came_for (part_with u [])) same ∙ sym fetched)

  -- which lies in its slot as it came, where the sub-page lies sealed
  pub lies_as_it_came : (sub_for k at (part_of_page page)).is_sealed ≡ true → IsAsItCame tap 0
  lies_as_it_came sealed = as_it_came tap 0 (part_with u []) fetched (sym (sealed-found k at page spot u is inside none value) ∙ sealed)

  -- and where it does not pass the tap names it
  pub names_came : (s : ℕ) (reply : Reply) → (sub_for k at (part_of_page page)).is_sealed ≡ true → reply ≡ Tampered s → failed_block (with_failed tap 0) ≡ spoiled_by reply (came tap)
  names_came s reply sealed says = names-spoiled tap (part_with u []) s reply fetched (sym (sealed-found k at page spot u is inside none value) ∙ sealed) says

-- a store that takes no block stays
same_store : (o : Option Store) → o ≡ option_map (λ s. with_puts s []) o
same_store None = refl
same_store (Some s) = refl

module _ {P : Type 0} (port : Ghosts P) (host : store.Ghosts P) where
  -- nothing crossed
  pub crosses-none : (p : TapState P) (place : ℕ) (blocks : List (List ℕ)) (puts : List (ℕ × List ℕ)) → blocks ≡ [] → puts ≡ [] → Crosses port host p p (at_place place blocks) puts
  crosses-none p place blocks puts no_blocks no_puts = subst (λ bs. Crosses port host p p (at_place place bs) puts) (sym no_blocks)
      (subst (Crosses port host p p []) (sym no_puts) (record { gave = tt; took = tt; all_given = refl; all_taken = refl; store = same_store (host.store p.port); no_begin = refl }))

  -- the same, of the same place and with the same blocks sealed
  pub crosses-as : (old new : TapState P) (place place' : ℕ) (blocks : List (List ℕ)) (puts puts' : List (ℕ × List ℕ)) → Crosses port host old new (at_place place blocks) puts → place ≡ place' → puts' ≡ puts
      → Crosses port host old new (at_place place' blocks) puts'
  crosses-as old new place place' blocks puts puts' crossed at same =
      subst (λ s. Crosses port host old new (at_place s blocks) puts') at (subst (Crosses port host old new (at_place place blocks)) (sym same) crossed)

  -- and where a block is named then
  pub crosses-failed : (old new : TapState P) (slot : ℕ) (given taken : List (ℕ × List ℕ)) → Crosses port host old new given taken → Crosses port host old (with_failed new slot) given taken
  crosses-failed old new slot given taken c = record { gave = c.gave; took = c.took; all_given = c.all_given; all_taken = c.all_taken; store = c.store; no_begin = c.no_begin }
