-- An evict by the parts: what it makes of a page, and what it sends to the host.
use Rattle.std.proofs.Common.{◌≡◌, ℕ, ◌+◌, ◌*◌, ◌<◌, ◌≤◌, ◌^◌, ◌==◌, List, [], ◌∷◌, length, map, slice_index_or, slice_set, Bool, true, false, Option, Some, None, if◌then◌else◌, refl, sym, ◌∙◌, ap, arith, eq-eqb}
use Rattle.std.specs.List.{AllByRecursion}
use Rattle.std.proofs.lemmas.List.{length-map}
use Rattle.std.proofs.lemmas.List.Elements.{All-from_recursion, All-weaker}
use Rattle.eleos_base.specs.declared.memory.Live.{Live}
use Rattle.eleos_base.specs.declared.plan.Plan.{Plan}
use Rattle.eleos_base.specs.Lists.{map_from}
use Rattle.eleos_core.specs.declared.cells.frame.Frame.{Frame}
use Rattle.eleos_core.specs.declared.cells.frame.Use.{Use}
use Rattle.eleos_core.specs.declared.cells.frame.Use.TheVariants.{Free, Lent}
use Rattle.eleos_core.specs.declared.cells.page.Page.{Page}
use Rattle.eleos_core.specs.declared.cells.page.Present.{Present}
use Rattle.eleos_core.specs.declared.cells.sub_page.SubPage.{SubPage}
use Rattle.eleos_core.specs.declared.event.Event.TheVariants.{Evict}
use Rattle.eleos_core.specs.Applying.{Makes, page_puts, parts_in, puts_from, puts_in}
use Rattle.eleos_core.specs.Cells.{Cells, IsPage, IsPresent, IsSubPage, IsUse, IsCore, cells_of, frame_of_page, holder_of_use, part_of_frame, part_of_page, part_with, piece, sub_parts}
use Rattle.eleos_core.specs.Evicts.{CanLeave, HasBytes, evict_stamp, sealed_blocks, sealed_sub}
use Rattle.eleos_core.specs.Legal.{IsActor}
use Rattle.eleos_core.specs.Parts.{SubPart, frame_cell, frame_in, frame_part, page_cell, page_part, part_after, sub_after, subs_in, the_frame, the_page}
use Rattle.eleos_base.specs.Places.{all_frames, all_pages, page_of, per_page}
use Rattle.eleos_core.specs.Seals.{Seals}
use Rattle.eleos_core.proofs.Pieces.{length-map_from, length-sub_parts, parts_with}
use Rattle.eleos_core.proofs.PlaceNumbers.{page_has}
use Rattle.eleos_core.proofs.TwoCells.{frame_part_is, makes_both, page_kept, page_part_is}

-- two functions that agree on the places of a list
pub map_from-agree : {A B : Type 0} (f g : ℕ → A → B) (s : ℕ) (xs : List A) → ((i : ℕ) (x : A) → s ≤ i → i < s + length xs → f i x ≡ g i x) → map_from f s xs ≡ map_from g s xs
map_from-agree f g s [] same = refl
map_from-agree f g s (x ∷ xs) same = λ t. same s x (omega arith) (omega arith) t ∷ map_from-agree f g (s + 1) xs (λ i y low high. same i y (omega arith) (omega arith)) t

module _ (k : Plan) (x : Seals) (who p f : ℕ) where
  -- a sub-page of the page
  pub sub_evicted : (s : ℕ) (u : SubPart) → page_of k s ≡ p → sub_after k x (evict_stamp who p f) [] (Some f) s u ≡ sealed_sub x s u
  sub_evicted s u here = by_dirty u.block u.version u.is_sealed u.tag u.is_dirty u.bytes
    where
      is_here : page_of k s == p ≡ true
      is_here = eq-eqb (page_of k s) p here

      by_dirty : (block : Option Live) (version : ℕ) (is_sealed : Bool) (tag : List ℕ) (is_dirty : Bool) (bytes : List ℕ)
          → sub_after k x (evict_stamp who p f) [] (Some f) s (record { block = block; version = version; is_sealed = is_sealed; tag = tag; is_dirty = is_dirty; bytes = bytes })
          ≡ sealed_sub x s (record { block = block; version = version; is_sealed = is_sealed; tag = tag; is_dirty = is_dirty; bytes = bytes })
      by_dirty block version is_sealed tag true bytes = rw is_here refl
      by_dirty block version is_sealed tag false bytes = rw is_here refl

  -- the page
  pub page_evicted : (us : List SubPart) → length us ≡ per_page k → page_part None (map_from (sealed_sub x) (p * per_page k) us) ≡ part_after k x (evict_stamp who p f) (the_page p) (page_part (Some f) us)
  page_evicted us whole = λ t. page_part (gone t) (map_from-agree (sealed_sub x) (sub_after k x (evict_stamp who p f) [] (Some f)) (p * per_page k) us
      (λ s u low high. sym (sub_evicted s u (page_has k p s low (omega arith)))) t)
    where
      gone : None ≡ (if p == p then None else Some f)
      gone = sym (ap (λ (v : Bool). if v then None else Some f) (eq-eqb p p refl))

  -- the blocks that it sends
  blocks_of : (s : ℕ) (us : List SubPart) → p * per_page k ≤ s → s + length us ≤ p * per_page k + per_page k → sealed_blocks x s us ≡ puts_from k x (evict_stamp who p f) [] (Some f) s us
  blocks_of s [] low high = refl
  blocks_of s (u ∷ us) low high = by_dirty u.is_dirty refl (blocks_of (s + 1) us (omega arith) (omega arith))
    where
      is_here : page_of k s == p ≡ true
      is_here = eq-eqb (page_of k s) p (page_has k p s low (omega arith))

      by_dirty : (v : Bool) → u.is_dirty ≡ v → sealed_blocks x (s + 1) us ≡ puts_from k x (evict_stamp who p f) [] (Some f) (s + 1) us
          → sealed_blocks x s (u ∷ us) ≡ puts_from k x (evict_stamp who p f) [] (Some f) s (u ∷ us)
      by_dirty true is rest = rw (is_here, is) (ap (λ blocks. (s, x.seal s (u.version + 1) u.bytes) ∷ blocks) rest)
      by_dirty false is rest = rw (is_here, is) rest

  pub blocks_sent : (us : List SubPart) → length us ≡ per_page k → sealed_blocks x (p * per_page k) us ≡ puts_from k x (evict_stamp who p f) [] (Some f) (p * per_page k) us
  blocks_sent us whole = blocks_of (p * per_page k) us (omega arith) (omega arith)

module _ (x : Seals) (wear : ℕ) (present : Option Present) where
  -- a sealed sub-page is clean, and was sealed no more often than may be
  sub_left : (s : ℕ) (old new : SubPage) (text : List ℕ) → IsSubPage wear present old → part_with new [] ≡ sealed_sub x s (part_with old text) → IsSubPage wear None new
  sub_left s old new text was made = by_dirty old.is_dirty refl
    where
      by_dirty : (v : Bool) → old.is_dirty ≡ v → IsSubPage wear None new
      by_dirty true is =
          let version : new.version ≡ old.version + 1 = ap (λ (u : SubPart). u.version) made ∙ (rw is refl) in
          let clean : new.is_dirty ≡ false = ap (λ (u : SubPart). u.is_dirty) made ∙ (rw is refl) in
          let below = was.below is in
          record { version = omega arith; below = λ dirty. absurd (cc); dirty = λ dirty. absurd (cc) }
      by_dirty false is =
          let version : new.version ≡ old.version = ap (λ (u : SubPart). u.version) made ∙ (rw is refl) in
          let clean : new.is_dirty ≡ false = ap (λ (u : SubPart). u.is_dirty) made ∙ (rw is refl) in
          let most = was.version in
          record { version = omega arith; below = λ dirty. absurd (cc); dirty = λ dirty. absurd (cc) }

  -- so is each of a page's
  subs_left : (h : ℕ → List ℕ) (s i : ℕ) (old new : List SubPage)
      → map (λ (u : SubPage). part_with u []) new ≡ map_from (sealed_sub x) s (map_from (λ j u. part_with u (h j)) i old) → AllByRecursion (IsSubPage wear present) old
      → AllByRecursion (IsSubPage wear None) new
  subs_left h s i old [] made each = tt
  subs_left h s i [] (v ∷ new) made each = absurd (cc)
  subs_left h s i (u ∷ old) (v ∷ new) made each =
      let first : part_with v [] ≡ sealed_sub x s (part_with u (h i)) = cc in
      let rest : map (λ (w : SubPage). part_with w []) new ≡ map_from (sealed_sub x) (s + 1) (map_from (λ j w. part_with w (h j)) (i + 1) old) = cc in
      (sub_left s u v (h i) each.0 first, subs_left h (s + 1) (i + 1) old new rest each.1)

-- a page whose frame is known is in it, and one without is in none
pub has_bytes : (n f : ℕ) (o : Option Present) → frame_of_page o ≡ Some f → IsPresent n o → HasBytes o
has_bytes n f None in_frame is = cc
has_bytes n f (Some present) in_frame is = is.1

pub in_none : (n : ℕ) (o : Option Present) → frame_of_page o ≡ None → IsPresent n o
in_none n None gone = tt
in_none n (Some present) gone = cc

-- zero bytes are a frame's whatever pages there are
pub use_within : (n : ℕ) (used : Use) → IsUse 0 used → IsUse n used
use_within n (Free bytes) zero_is = zero_is
use_within n (Lent page) zero_is = absurd (omega arith)

-- the sub-pages of a page that has left its frame
subs_gone : (x : Seals) (wear f s : ℕ) (o o' : Option Present) (old new : List SubPage) → frame_of_page o ≡ Some f → frame_of_page o' ≡ None
    → sub_parts new o' ≡ map_from (sealed_sub x) s (sub_parts old o) → AllByRecursion (IsSubPage wear o) old
    → (AllByRecursion (IsSubPage wear o') new) × (length new ≡ length old)
subs_gone x wear f s None o' old new in_frame gone made each = cc
subs_gone x wear f s (Some present) (Some other) old new in_frame gone made each = cc
subs_gone x wear f s (Some present) None old new in_frame gone made each = (
  subs_left x wear (Some present) (λ i. piece i present.bytes.items) s 0 old new made each,
  sym (length-map new (λ (u : SubPage). part_with u []))
      ∙ (ap length made ∙ (length-map_from (sealed_sub x) s (parts_with present.bytes.items old) ∙ length-map_from (λ i u. part_with u (piece i present.bytes.items)) 0 old)),
)

-- an evict on the cells of a core
module _ (k : Plan) (live : List (List Live)) (clocks : List (List ℕ)) (pages : List Page) (frames : List Frame) (links : List ℕ) (core : IsCore k live clocks pages frames links)
    (p f : ℕ) (page : Page) (frame : Frame) (page_exists : p < all_pages k) (frame_exists : f < all_frames k) (page_is : page ≡ slice_index_or pages p page) (frame_is : frame ≡ slice_index_or frames f frame) where
  abbrev old_cells : Cells
  old_cells = cells_of k live clocks pages frames links

  is_page : IsPage k.wear (all_frames k) page
  is_page = page_kept k live clocks pages frames links core p page_exists page page_is

  page_was : parts_in old_cells (page_cell k p) ≡ part_of_page page
  page_was = page_part_is k live clocks pages frames links core p page_exists page page_is

  frame_was : parts_in old_cells (frame_cell k f) ≡ part_of_frame frame
  frame_was = frame_part_is k live clocks pages frames links core f frame_exists frame frame_is

  module _ (present : frame_in (parts_in old_cells (page_cell k p)) ≡ Some f) where
    in_frame : frame_of_page page.present ≡ Some f
    in_frame = ap frame_in (sym page_was) ∙ present

    -- a page of a core that is in its frame has its bytes there, and no sub-page was sealed too often to be sealed now
    pub can_leave : CanLeave page
    can_leave = record {
      whole = is_page.whole;
      bytes = has_bytes (all_frames k) f page.present in_frame is_page.present;
      versions = All-weaker (IsSubPage k.wear page.present) (λ (u : SubPage). u.version ≤ 2 ^ 63) (λ u is. let most = is.version in let wear = core.good.wear in omega arith)
          page.subs.items (All-from_recursion (IsSubPage k.wear page.present) page.subs.items is_page.each);
    }

    module _ (x : Seals) (page' : Page) (frame' : Frame)
        (page_made : part_of_page page' ≡ page_part None (map_from (sealed_sub x) (p * 4) (subs_in (part_of_page page)))) (frame_made : part_of_frame frame' ≡ frame_part frame.owner None) where
      -- what holds of a machine's pages holds of the page that left its frame
      pub page_left : IsPage k.wear (all_frames k) page'
      page_left =
          let gone : frame_of_page page'.present ≡ None = ap frame_in page_made in
          let subs = subs_gone x k.wear f (p * 4) page.present page'.present page.subs.items page'.subs.items in_frame gone (ap subs_in page_made) is_page.each in
          record { whole = subs.1 ∙ is_page.whole; present = in_none (all_frames k) page'.present gone; each = subs.0 }

      -- with that page and a frame that is free the cells are what the evict makes of them
      pub evict_made : (who : ℕ) → IsActor k who → Makes x (evict_stamp who p f) old_cells (cells_of k live clocks (slice_set pages p page') (slice_set frames f frame') links)
      evict_made who actor = makes_both k live clocks pages frames links core p page' f frame' page_exists frame_exists x (evict_stamp who p f) refl
          (record { within = (actor, page_exists, frame_exists); on_parts = (present, record { reply_is = refl; no_block = refl }) })
          (page_made ∙ (page_evicted k x who p f (subs_in (part_of_page page)) whole
          ∙ (ap (λ o. part_after k x (evict_stamp who p f) (the_page p) (page_part o (subs_in (part_of_page page)))) (sym in_frame)
          ∙ ap (part_after k x (evict_stamp who p f) (the_page p)) (sym page_was))))
          (frame_made ∙ (ap (frame_part frame.owner) (sym (ap (λ (v : Bool). if v then None else holder_of_use frame.used) (eq-eqb f f refl)))
          ∙ ap (part_after k x (evict_stamp who p f) (the_frame f)) (sym frame_was)))
          (λ by q was. refl)
        where
          whole : length (subs_in (part_of_page page)) ≡ 4
          whole = length-sub_parts page.subs.items page.present ∙ is_page.whole

    -- the sealed blocks of its dirty sub-pages are what the evict sends to the host
    pub evict_sent : (x : Seals) (who : ℕ) (sent : List (ℕ × List ℕ)) → sent ≡ sealed_blocks x (p * 4) (subs_in (part_of_page page)) → sent ≡ puts_in k x (evict_stamp who p f) (parts_in old_cells) (Evict p f)
    evict_sent x who sent sent_is = sent_is ∙ (blocks_sent k x who p f (subs_in (part_of_page page)) (length-sub_parts page.subs.items page.present ∙ is_page.whole)
        ∙ (ap (λ o. page_puts k x (evict_stamp who p f) p (page_part o (subs_in (part_of_page page)))) (sym in_frame) ∙ ap (page_puts k x (evict_stamp who p f) p) (sym page_was)))
