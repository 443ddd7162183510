-- Writes on the cell of a page: legal by its part, with the part that they make of it and the blocks that they seal.
use Rattle.std.proofs.Common.{◌≡◌, ℕ, ◌+◌, ◌*◌, ◌<◌, ◌==◌, ◌&&◌, not, List, [], ◌∷◌, length, map, true, false, Bool, Option, Some, None, is_some, if◌then◌else◌, slice_index_or, slice_set, refl, sym, ◌∙◌, ap, subst}
use Rattle.eleos_base.specs.declared.memory.Addr.{Addr}
use Rattle.eleos_base.specs.declared.memory.Reply.{Reply}
use Rattle.eleos_base.specs.declared.memory.Reply.TheVariants.{Done, Tampered, Worn}
use Rattle.eleos_base.specs.declared.plan.Plan.{Plan}
use Rattle.eleos_base.specs.Plain.{is_accepted, use_refusal}
use Rattle.eleos_base.specs.Plans.{page_bytes}
use Rattle.eleos_core.specs.declared.accesses.spots.Spot.{Spot}
use Rattle.eleos_core.specs.declared.cells.page.Page.{Page}
use Rattle.eleos_core.specs.declared.cells.page.Present.{Present}
use Rattle.eleos_core.specs.declared.cells.sub_page.SubPage.{SubPage}
use Rattle.eleos_core.specs.declared.machine.Put.{Put}
use Rattle.eleos_core.specs.Accesses.{AreBlocks, IsAccess, IsResealed, IsSpot, WritesOn, WritesPage, first_of, judged_sub, opened_places, page_at, refusal_for, rewritten_places, sealed_by, sub_for, with_bytes, write_refusal, write_stamp}
use Rattle.eleos_core.specs.Applying.{put_of}
use Rattle.eleos_core.specs.Cells.{frame_of_page, part_of_page, part_with, piece, sub_parts, subs_per_page}
use Rattle.eleos_core.specs.Legal.{failed}
use Rattle.eleos_core.specs.Parts.{Part, frame_in, is_worn_in, page_part, subs_in}
use Rattle.eleos_base.specs.Places.{sub_of}
use Rattle.eleos_core.specs.Seals.{Seals}
use Rattle.eleos_core.proofs.AccessParts.{no_blocks, puts_from-none, refused_by, sub_for-is, write-kept}
use Rattle.eleos_core.proofs.MachineAccesses.{refusal-refuses}
use Rattle.eleos_core.proofs.PageAccesses.{writes-present, writes-sealed, writes-spoiled, writes-worn}
use Rattle.eleos_core.proofs.PageParts.{bytes_in}
use Rattle.eleos_core.proofs.Spots.{IsInRange, range_is, writes_at}
use Rattle.eleos_core.proofs.Reading.{blocks-present, none_present, refusal-found}

-- a write with this reply does all that is said of one: it is legal, and it makes this part and seals these blocks
pub record DoesWrite (k : Plan) (x : Seals) (who : ℕ) (at : Addr) (new : List ℕ) (blocks : List (List ℕ)) (before : Part) (reply : Reply) (after : Part) (puts : List (ℕ × List ℕ)) : Type 0 where
  pub on : WritesOn k x who at new blocks before reply after
  pub puts_are : sealed_by k x who at new blocks before reply ≡ puts

-- whether a sub-page is worn
pub worn-found : (k : Plan) (at : Addr) (page : Page) (spot : Spot) (u : SubPage) → IsSpot k at spot → spot.index < length page.subs.items → u ≡ slice_index_or page.subs.items spot.index u
    → is_worn_in k (sub_for k at (part_of_page page)) ≡ (not u.is_dirty && u.version == k.wear)
worn-found k at page spot u is inside value = ap (is_worn_in k) (sub_for-is k at page spot u is inside) ∙ ap (λ (v : SubPage). not v.is_dirty && v.version == k.wear) (sym value)

-- no block for none
no_block : AreBlocks [] []
no_block = record { count = refl; each = tt }

none_either : (b : Bool) (ps : List ℕ) → AreBlocks ps [] → AreBlocks (if b then [] else ps) []
none_either true ps are = no_block
none_either false ps are = are

module _ (k : Plan) (x : Seals) (who : ℕ) (at : Addr) (new : List ℕ) (page : Page) where
  does : (blocks : List (List ℕ)) (reply : Reply) (puts : List Put) (after : Part) → WritesPage k x who at new blocks (part_of_page page) reply puts after
      → DoesWrite k x who at new blocks (part_of_page page) reply after (map put_of puts)
  does blocks reply puts after w = record { on = record { legal = w.legal; made = w.part_is }; puts_are = sym w.puts_are }

  -- a refused one
  pub write_refused : (blocks : List (List ℕ)) (reply : Reply) → IsAccess k who at (length new) → refusal_for k who at (length new) (part_of_page page) ≡ Some reply → blocks ≡ []
      → DoesWrite k x who at new blocks (part_of_page page) reply (part_of_page page) []
  write_refused blocks reply within refused none =
      let range : IsInRange k who at (length new) = range_is k who at (length new) within in
      let no : is_accepted reply ≡ false = refusal-refuses k who at (length new) (part_of_page page) reply refused in record {
        on = record {
          legal = refused_by (refusal_for k who at (length new) (part_of_page page)) reply _ _ refused (record { reply_is = refl; no_block = none });
          made = write-kept k x who at page new blocks reply (page_at k at) range no;
        };
        puts_are = puts_from-none k x (write_stamp who at new blocks reply) _ (frame_in (part_of_page page)) _ (subs_in (part_of_page page))
            (λ s u. ap (λ v. v && not (is_some (frame_in (part_of_page page)))) (writes_at k who at new reply s range ∙ ap (λ a. a && (s == sub_of k at)) no));
      }

  module _ (spot : Spot) (accepted : refusal_for k who at (length new) (part_of_page page) ≡ None) (is : IsSpot k at spot) (inside : spot.index < length page.subs.items) where
    -- one to a sub-page that is worn
    pub write_worn : (blocks : List (List ℕ)) (u : SubPage) → u ≡ slice_index_or page.subs.items spot.index u → (not u.is_dirty && u.version == k.wear) ≡ true → blocks ≡ []
        → DoesWrite k x who at new blocks (part_of_page page) (Worn spot.place) (part_of_page page) []
    write_worn blocks u value worn none = does blocks (Worn spot.place) [] (part_of_page page)
        (writes-worn k x who at new blocks page spot accepted is inside u (Worn spot.place) [] (part_of_page page) value worn
        (subst (AreBlocks (rewritten_places k at (part_of_page page))) (sym none)
        (subst (λ v. AreBlocks (if v then [] else opened_places k at (part_of_page page)) []) (sym (worn-found k at page spot u is inside value ∙ worn)) no_block))
        refl refl refl)

    -- one whose block does not pass
    pub write_spoiled : (blocks : List (List ℕ)) (u : SubPage) → u ≡ slice_index_or page.subs.items spot.index u → is_worn_in k (sub_for k at (part_of_page page)) ≡ false
        → page.present ≡ None → judged_sub x spot.place (part_with u []) blocks ≡ failed spot.place
        → DoesWrite k x who at new blocks (part_of_page page) (Tampered spot.place) (part_of_page page) []
    write_spoiled blocks u value fresh gone spoiled = does blocks (Tampered spot.place) [] (part_of_page page)
        (writes-spoiled k x who at new blocks page spot accepted is inside u (Tampered spot.place) [] (part_of_page page) value
        (sym (worn-found k at page spot u is inside value) ∙ fresh) gone spoiled refl refl refl)

    -- one in a frame
    pub write_present : (blocks : List (List ℕ)) (u : SubPage) (present : Present) (bytes : List ℕ) (present' : Option Present) (subs' : List SubPage)
        → u ≡ slice_index_or page.subs.items spot.index u → is_worn_in k (sub_for k at (part_of_page page)) ≡ false → page.present ≡ Some present → blocks ≡ []
        → length present.bytes.items ≡ page_bytes → spot.index < subs_per_page → bytes ≡ with_bytes present.bytes.items (1024 * spot.index + spot.from) new
        → frame_of_page present' ≡ Some present.frame → ((j : ℕ) → bytes_in present' j ≡ piece j bytes) → subs' ≡ slice_set page.subs.items spot.index (record u { is_dirty = true })
        → DoesWrite k x who at new blocks (part_of_page page) Done (page_part (frame_of_page present') (sub_parts subs' present')) []
    write_present blocks u present bytes present' subs' value fresh some none size in_page changed framed pieces set = does blocks Done [] _
        (writes-present k x who at new blocks page spot accepted is inside u (record u { is_dirty = true }) present bytes present' subs' Done [] value
        (sym (worn-found k at page spot u is inside value) ∙ fresh) some
        (subst (AreBlocks (rewritten_places k at (part_of_page page))) (sym none)
        (none_either (is_worn_in k (sub_for k at (part_of_page page))) (opened_places k at (part_of_page page)) (none_present k at page present some)))
        size in_page changed framed pieces set refl refl refl)

    -- one that seals its sub-page
    pub write_sealed : (blocks : List (List ℕ)) (u u' : SubPage) (subs' : List SubPage) (block : List ℕ)
        → u ≡ slice_index_or page.subs.items spot.index u → is_worn_in k (sub_for k at (part_of_page page)) ≡ false
        → page.present ≡ None → IsResealed x spot.place spot.from new blocks (part_with u []) block (part_with u' []) → subs' ≡ slice_set page.subs.items spot.index u'
        → DoesWrite k x who at new blocks (part_of_page page) Done (page_part (frame_of_page page.present) (sub_parts subs' page.present)) ((spot.place, block) ∷ [])
    write_sealed blocks u u' subs' block value fresh gone sealed set = does blocks Done (record { place = spot.place; block = block } ∷ []) _
        (writes-sealed k x who at new blocks page spot accepted is inside u u' subs' block Done (record { place = spot.place; block = block } ∷ []) value
        (sym (worn-found k at page spot u is inside value) ∙ fresh) gone sealed set refl refl)

-- what tells that a write is refused at once, and that it is not
module _ (k : Plan) (x : Seals) (who : ℕ) (at : Addr) (new : List ℕ) (page : Page) (spot : Spot) (u : SubPage) (is : IsSpot k at spot) (inside : spot.index < length page.subs.items)
    (value : u ≡ slice_index_or page.subs.items spot.index u) (range : IsAccess k who at (length new)) where
  abbrev is_old : Bool
  is_old = not u.is_dirty && u.version == k.wear

  refusal_is : refusal_for k who at (length new) (part_of_page page) ≡ use_refusal who u.block
  refusal_is = refusal-found k who at (length new) page spot u is inside value range

  -- a write that is refused for its block or for wear leaves the page and seals nothing
  pub write_stopped : (blocks : List (List ℕ)) (reply : Reply) → write_refusal k who u spot.place ≡ Some reply → blocks ≡ []
      → DoesWrite k x who at new blocks (part_of_page page) reply (part_of_page page) []
  write_stopped blocks reply refused none = by_use (use_refusal who u.block) refl refused
    where
      by_worn : (v : Bool) → is_old ≡ v → use_refusal who u.block ≡ None → (if v then Some (Worn spot.place) else None) ≡ Some reply
          → DoesWrite k x who at new blocks (part_of_page page) reply (part_of_page page) []
      by_worn true old may same = subst (λ z. DoesWrite k x who at new blocks (part_of_page page) z (part_of_page page) []) (let e : Worn spot.place ≡ reply = cc in e)
          (write_worn k x who at new page spot (refusal_is ∙ may) is inside blocks u value old none)
      by_worn false old may same = absurd (cc)

      by_use : (o : Option Reply) → use_refusal who u.block ≡ o → first_of o (if is_old then Some (Worn spot.place) else None) ≡ Some reply
          → DoesWrite k x who at new blocks (part_of_page page) reply (part_of_page page) []
      by_use (Some r) may same = write_refused k x who at new page blocks reply range (refusal_is ∙ (may ∙ same)) none
      by_use None may same = by_worn is_old refl may same

  -- and where nothing refuses it the caller may use the block and the sub-page is not worn
  pub write_goes : write_refusal k who u spot.place ≡ None → (refusal_for k who at (length new) (part_of_page page) ≡ None) × (is_worn_in k (sub_for k at (part_of_page page)) ≡ false)
  write_goes goes = by_use (use_refusal who u.block) refl goes
    where
      by_worn : (v : Bool) → (if v then Some (Worn spot.place) else None) ≡ None → v ≡ false
      by_worn true same = absurd (cc)
      by_worn false same = refl

      by_use : (o : Option Reply) → use_refusal who u.block ≡ o → first_of o (if is_old then Some (Worn spot.place) else None) ≡ None
          → (refusal_for k who at (length new) (part_of_page page) ≡ None) × (is_worn_in k (sub_for k at (part_of_page page)) ≡ false)
      by_use (Some r) may same = absurd (cc)
      by_use None may same = (refusal_is ∙ may, worn-found k at page spot u is inside value ∙ by_worn is_old same)

-- a write on the page's cell, with the memory for its block
pub writes_page : (k : Plan) (x : Seals) (who : ℕ) (at : Addr) (new : List ℕ) (blocks came : List (List ℕ)) (before after : Part) (answer reply : Reply) (sealed : List (ℕ × List ℕ)) (puts : List Put)
    → blocks ≡ came → reply ≡ answer → map put_of puts ≡ sealed → WritesOn k x who at new came before answer after → sealed_by k x who at new came before answer ≡ sealed
    → WritesPage k x who at new blocks before reply puts after
writes_page k x who at new blocks came before after answer reply sealed puts are is sent writes seals =
    subst (λ bs. WritesPage k x who at new bs before reply puts after) (sym are)
    (subst (λ r. WritesPage k x who at new came before r puts after) (sym is)
    (record { legal = writes.legal; part_is = writes.made; puts_are = sent ∙ sym seals }))

-- the blocks of one that is not worn
pub blocks-unworn : (k : Plan) (at : Addr) (q : Part) (blocks : List (List ℕ)) → is_worn_in k (sub_for k at q) ≡ false → AreBlocks (rewritten_places k at q) blocks → AreBlocks (opened_places k at q) blocks
blocks-unworn k at q blocks fresh are = subst (λ v. AreBlocks (if v then [] else opened_places k at q) blocks) fresh are

-- and of one to a page in a frame
pub blocks-framed : (k : Plan) (at : Addr) (page : Page) (blocks : List (List ℕ)) → is_some page.present ≡ true → AreBlocks (rewritten_places k at (part_of_page page)) blocks → blocks ≡ []
blocks-framed k at page blocks here are = by_worn (is_worn_in k (sub_for k at (part_of_page page))) are
  where
    by_worn : (v : Bool) → AreBlocks (if v then [] else opened_places k at (part_of_page page)) blocks → blocks ≡ []
    by_worn true are = no_blocks blocks are
    by_worn false are = blocks-present k at page blocks are here
