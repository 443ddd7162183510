-- Reads and writes on the cell of a page, by where its sub-page lies: they are legal, and the page has the part that the entry makes of it.
use Rattle.std.proofs.Common.{◌≡◌, ◌≢◌, ℕ, ◌+◌, ◌*◌, ◌%◌, ◌<◌, ◌≤◌, ◌==◌, ◌&&◌, not, List, [], ◌∷◌, length, map, take, drop, Bool, true, false, Option, Some, None, is_some, if◌then◌else◌, slice_index_or, slice_set, refl, sym, ◌∙◌, ap, subst, arith, inl, inr, ◌⊎◌}
use Rattle.std.proofs.lemmas.Bool.{eq-eqb, eqb-false, ne_eqb}
use Rattle.std.proofs.lemmas.List.{length-set}
use Rattle.std.proofs.lemmas.List.Elements.{All-from_recursion, All-set, All-weaker, recursion_from_All}
use Rattle.std.specs.List.{AllByRecursion}
use Rattle.eleos_base.specs.declared.memory.Addr.{Addr}
use Rattle.eleos_base.specs.declared.memory.Op.TheVariants.{Write}
use Rattle.eleos_base.specs.declared.memory.Reply.{Reply}
use Rattle.eleos_base.specs.declared.memory.Reply.TheVariants.{Done, Tampered, Text, Worn}
use Rattle.eleos_base.specs.declared.plan.Plan.{Plan}
use Rattle.eleos_base.specs.Plain.{is_accepted}
use Rattle.eleos_base.specs.Plans.{page_bytes}
use Rattle.eleos_core.specs.declared.accesses.spots.Spot.{Spot}
use Rattle.eleos_core.specs.declared.cells.page.Page.{Page}
use Rattle.eleos_core.specs.declared.cells.page.Present.{Present}
use Rattle.eleos_core.specs.declared.cells.sub_page.SubPage.{SubPage}
use Rattle.eleos_core.specs.declared.event.Entry.{Entry}
use Rattle.eleos_core.specs.declared.machine.Put.{Put}
use Rattle.eleos_core.specs.Accesses.{AreBlocks, IsOpened, IsResealed, IsSpot, ReadsPage, WritesPage, judged_sub, opened_places, opened_sub, read_stamp, refusal_for, resealed, rewritten_places, sub_for, with_bytes, write_stamp}
use Rattle.eleos_core.specs.Applying.{page_puts, put_of}
use Rattle.eleos_core.specs.Cells.{IsPage, IsPresent, IsSubPage, frame_of_page, part_of_page, part_with, piece, sub_parts, subs_per_page}
use Rattle.eleos_core.specs.Legal.{ByBlocks, failed, passed}
use Rattle.eleos_core.specs.Parts.{CallOn, Part, SubPart, blank_sub, found_in, frame_in, is_worn_in, opened_in, page_part, seals_in, sub_after, subs_in}
use Rattle.eleos_base.specs.Places.{page_of, per_page, sub_of}
use Rattle.eleos_core.specs.Seals.{Seals}
use Rattle.eleos_core.proofs.AccessParts.{access_verdict, accepted_range, accessed, by_failed, by_passed, if_false, if_true, legal_by, no_blocks, opened_in-absent, puts_from-none, puts_from-one, sub_for-is, verdict-absent, verdict-present, write-changed, write-kept, write_is}
use Rattle.eleos_core.proofs.PageParts.{bytes_in, length-sub_parts, part_at_index, piece-changed, piece-kept}
use Rattle.eleos_core.proofs.Spots.{IsInRange, and_false, index_is, place_is, range_is, writes_at}

-- the part of the sub-page of an address whose page is absent
pub sub_for-absent : (k : Plan) (at : Addr) (page : Page) (spot : Spot) (u : SubPage) → IsSpot k at spot → spot.index < length page.subs.items → page.present ≡ None
    → u ≡ slice_index_or page.subs.items spot.index u → sub_for k at (part_of_page page) ≡ part_with u []
sub_for-absent k at page spot u is inside none value = sub_for-is k at page spot u is inside ∙ (λ i. part_with (sym value i) (bytes_in (none i) spot.index))

module _ (k : Plan) (x : Seals) (who : ℕ) (at : Addr) (n : ℕ) (blocks : List (List ℕ)) (page : Page) (spot : Spot)
    (accepted : refusal_for k who at n (part_of_page page) ≡ None) (is : IsSpot k at spot) (inside : spot.index < length page.subs.items) where
  abbrev read_part : Part
  read_part = part_of_page page

  abbrev read_entry : Reply → Entry
  read_entry reply = (read_stamp who at n blocks reply).entry

  abbrev found : Reply → List ℕ
  found reply = found_in k x (read_entry reply) (opened_places k at read_part) (is_some (frame_in read_part)) (sub_of k at) (sub_for k at read_part)

  -- by how its block was judged and what it found
  read_by : (reply : Reply) → ByBlocks (access_verdict k x at blocks read_part) (Text (take n (drop (at.at % 1024) (found reply)))) reply → ReadsPage k x who at n blocks read_part reply
  read_by reply h = legal_by (refusal_for k who at n read_part) _ _ accepted h

  -- where its page is in a frame
  pub reads-present : (present : Present) (text : List ℕ) (reply : Reply) → page.present ≡ Some present → AreBlocks (opened_places k at read_part) blocks
      → text ≡ piece spot.index present.bytes.items → reply ≡ Text (take n (drop spot.from text)) → ReadsPage k x who at n blocks read_part reply
  reads-present present text reply some are text_is reply_is =
      let here : is_some (frame_in read_part) ≡ true = ap (λ p. is_some (frame_of_page p)) some in
      let bytes : found reply ≡ text = ap (λ v. if v then (sub_for k at read_part).bytes else opened_in k x (read_entry reply) (opened_places k at read_part) (sub_of k at) (sub_for k at read_part)) here
      ∙ (ap (λ (u : SubPart). u.bytes) (sub_for-is k at page spot any_one is inside) ∙ (ap (λ p. bytes_in p spot.index) some ∙ sym text_is)) in
      read_by reply (by_passed (access_verdict k x at blocks read_part) _ reply (verdict-present k x at blocks read_part here are)
      (reply_is ∙ (λ i. Text (take n (drop (is.from i) (sym bytes i))))))
    where
      any_one : SubPage
      any_one = record { block = None; version = 0; tag = None; is_dirty = false }

  -- where it is absent
  pub reads-opened : (u : SubPage) (text : List ℕ) (reply : Reply) → page.present ≡ None → u ≡ slice_index_or page.subs.items spot.index u
      → IsOpened x spot.place (part_with u []) blocks text → reply ≡ Text (take n (drop spot.from text)) → ReadsPage k x who at n blocks read_part reply
  reads-opened u text reply none value opened reply_is =
      let gone : is_some (frame_in read_part) ≡ false = ap (λ p. is_some (frame_of_page p)) none in
      let sub : sub_for k at read_part ≡ part_with u [] = sub_for-absent k at page spot u is inside none value in
      let bytes : found reply ≡ text = ap (λ v. if v then (sub_for k at read_part).bytes else opened_in k x (read_entry reply) (opened_places k at read_part) (sub_of k at) (sub_for k at read_part)) gone
      ∙ (opened_in-absent k x at blocks read_part (read_entry reply) refl gone ∙ ((λ i. opened_sub x (sym is.place i) (sub i) blocks) ∙ sym opened.text_is)) in
      read_by reply (by_passed (access_verdict k x at blocks read_part) _ reply
      (verdict-absent k x at blocks read_part gone ∙ ((λ i. judged_sub x (sym is.place i) (sub i) blocks) ∙ opened.judged_is))
      (reply_is ∙ (λ i. Text (take n (drop (is.from i) (sym bytes i))))))

  -- and where its block does not pass
  pub reads-spoiled : (u : SubPage) (reply : Reply) → page.present ≡ None → u ≡ slice_index_or page.subs.items spot.index u
      → judged_sub x spot.place (part_with u []) blocks ≡ failed spot.place → reply ≡ Tampered spot.place → ReadsPage k x who at n blocks read_part reply
  reads-spoiled u reply none value spoiled reply_is =
      let gone : is_some (frame_in read_part) ≡ false = ap (λ p. is_some (frame_of_page p)) none in
      let sub : sub_for k at read_part ≡ part_with u [] = sub_for-absent k at page spot u is inside none value in
      read_by reply (by_failed (access_verdict k x at blocks read_part) spot.place _ reply
      (verdict-absent k x at blocks read_part gone ∙ ((λ i. judged_sub x (sym is.place i) (sub i) blocks) ∙ spoiled)) reply_is)

-- a sub-page that is written in a frame, and one that is written while its page is absent
accessed-present : (x : Seals) (s : ℕ) (f : Option ℕ) (u : SubPart) (text bytes : List ℕ) → is_some f ≡ true → accessed x s f u text bytes false true ≡ record u { is_dirty = true; bytes = bytes }
accessed-present x s None u text bytes here = cc
accessed-present x s (Some f) u text bytes here = refl

accessed-absent : (x : Seals) (s : ℕ) (f : Option ℕ) (u : SubPart) (text bytes : List ℕ) → is_some f ≡ false → u.bytes ≡ [] → accessed x s f u text bytes false true ≡ resealed x s u text
accessed-absent x s (Some f) u text bytes gone none = cc
accessed-absent x s None u text bytes gone none = λ i. record (resealed x s u text) { bytes = sym none i }

module _ (k : Plan) (x : Seals) (who : ℕ) (at : Addr) (new : List ℕ) (blocks : List (List ℕ)) (page : Page) (spot : Spot)
    (accepted : refusal_for k who at (length new) (part_of_page page) ≡ None) (is : IsSpot k at spot) (inside : spot.index < length page.subs.items) where
  abbrev part : Part
  part = part_of_page page

  abbrev entry_with : Reply → Entry
  entry_with reply = (write_stamp who at new blocks reply).entry

  pub write_range : IsInRange k who at (length new)
  write_range = range_is k who at (length new) (accepted_range k who at (length new) part accepted)

  -- which sub-pages it seals
  seals_at : (reply : Reply) (present : Bool) (s : ℕ) (u : SubPart) → seals_in k x (entry_with reply) present s u ≡ ((is_accepted reply && (s == sub_of k at)) && not present)
  seals_at reply present s u = ap (λ v. v && not present) (writes_at k who at new reply s write_range)

  -- a write that is refused leaves the page and seals nothing
  refused_puts : (reply : Reply) → is_accepted reply ≡ false → page_puts k x (write_stamp who at new blocks reply) (page_of k (sub_of k at)) part ≡ []
  refused_puts reply refused = puts_from-none k x (write_stamp who at new blocks reply) _ (frame_in part) _ (subs_in part)
      (λ s u. seals_at reply (is_some (frame_in part)) s u ∙ ap (λ a. (a && (s == sub_of k at)) && not (is_some (frame_in part))) refused)

  worn_is : (u : SubPage) → u ≡ slice_index_or page.subs.items spot.index u → is_worn_in k (sub_for k at part) ≡ (not u.is_dirty && u.version == k.wear)
  worn_is u value = ap (is_worn_in k) (sub_for-is k at page spot u is inside) ∙ ap (λ (v : SubPage). not v.is_dirty && v.version == k.wear) (sym value)

  -- the blocks where the sub-page is worn, and where not
  pub blocks-worn : is_worn_in k (sub_for k at part) ≡ true → AreBlocks (rewritten_places k at part) blocks → blocks ≡ []
  blocks-worn worn are = no_blocks blocks (subst (λ v. AreBlocks (if v then [] else opened_places k at part) blocks) worn are)

  pub blocks-fresh : (u : SubPage) → u ≡ slice_index_or page.subs.items spot.index u → (not u.is_dirty && u.version == k.wear) ≡ false
      → AreBlocks (rewritten_places k at part) blocks → AreBlocks (opened_places k at part) blocks
  blocks-fresh u value fresh are = subst (λ v. AreBlocks (if v then [] else opened_places k at part) blocks) (worn_is u value ∙ fresh) are

  -- a write to a worn sub-page is answered so, changes nothing and seals nothing
  pub writes-worn : (u : SubPage) (reply : Reply) (puts : List Put) (after : Part) → u ≡ slice_index_or page.subs.items spot.index u → (not u.is_dirty && u.version == k.wear) ≡ true
      → AreBlocks (rewritten_places k at part) blocks → reply ≡ Worn spot.place → puts ≡ [] → after ≡ part → WritesPage k x who at new blocks part reply puts after
  writes-worn u reply puts after value worn are reply_is none same =
      let worn_in : is_worn_in k (sub_for k at part) ≡ true = worn_is u value ∙ worn in
      let refused : is_accepted reply ≡ false = ap is_accepted reply_is in record {
        legal = legal_by (refusal_for k who at (length new) part) _ _ accepted
            (if_true (is_worn_in k (sub_for k at part)) _ _ worn_in (record { reply_is = reply_is ∙ ap Worn is.place; no_block = blocks-worn worn_in are }));
        part_is = same ∙ write-kept k x who at page new blocks reply (page_of k (sub_of k at)) write_range refused;
        puts_are = ap (map put_of) none ∙ sym (refused_puts reply refused);
      }

  -- a write that is not worn, by how its block was judged
  written_by : (u : SubPage) (reply : Reply) → u ≡ slice_index_or page.subs.items spot.index u → (not u.is_dirty && u.version == k.wear) ≡ false
      → ByBlocks (access_verdict k x at blocks part) Done reply → CallOn k x (write_stamp who at new blocks reply) (λ _. part) (Write at new)
  written_by u reply value fresh h = legal_by (refusal_for k who at (length new) part) _ _ accepted
      (if_false (is_worn_in k (sub_for k at part)) _ _ (worn_is u value ∙ fresh) h)

  -- where the block does not pass it is answered Tampered, changes nothing and seals nothing
  pub writes-spoiled : (u : SubPage) (reply : Reply) (puts : List Put) (after : Part) → u ≡ slice_index_or page.subs.items spot.index u → (not u.is_dirty && u.version == k.wear) ≡ false
      → page.present ≡ None → judged_sub x spot.place (part_with u []) blocks ≡ failed spot.place
      → reply ≡ Tampered spot.place → puts ≡ [] → after ≡ part → WritesPage k x who at new blocks part reply puts after
  writes-spoiled u reply puts after value fresh none spoiled reply_is sent same =
      let gone : is_some (frame_in part) ≡ false = ap (λ p. is_some (frame_of_page p)) none in
      let sub : sub_for k at part ≡ part_with u [] = sub_for-absent k at page spot u is inside none value in
      let refused : is_accepted reply ≡ false = ap is_accepted reply_is in record {
        legal = written_by u reply value fresh (by_failed (access_verdict k x at blocks part) spot.place Done reply
            (verdict-absent k x at blocks part gone ∙ ((λ i. judged_sub x (sym is.place i) (sub i) blocks) ∙ spoiled)) reply_is);
        part_is = same ∙ write-kept k x who at page new blocks reply (page_of k (sub_of k at)) write_range refused;
        puts_are = ap (map put_of) sent ∙ sym (refused_puts reply refused);
      }

  -- an accepted write is one to the sub-page of its address
  here_is : (reply : Reply) → is_accepted reply ≡ true → (is_accepted reply && (sub_of k at == sub_of k at)) ≡ true
  here_is reply taken = ap (λ a. a && (sub_of k at == sub_of k at)) taken ∙ eq-eqb (sub_of k at) (sub_of k at) refl

  -- in a frame it puts its bytes there and makes the sub-page dirty, and nothing is sealed
  pub writes-present : (u u' : SubPage) (present : Present) (bytes' : List ℕ) (present' : Option Present) (subs' : List SubPage) (reply : Reply) (puts : List Put)
      → u ≡ slice_index_or page.subs.items spot.index u → (not u.is_dirty && u.version == k.wear) ≡ false
      → page.present ≡ Some present → AreBlocks (rewritten_places k at part) blocks → length present.bytes.items ≡ page_bytes → spot.index < subs_per_page
      → bytes' ≡ with_bytes present.bytes.items (1024 * spot.index + spot.from) new → frame_of_page present' ≡ Some present.frame → ((j : ℕ) → bytes_in present' j ≡ piece j bytes')
      → subs' ≡ slice_set page.subs.items spot.index u' → u' ≡ record u { is_dirty = true } → reply ≡ Done → puts ≡ []
      → WritesPage k x who at new blocks part reply puts (page_part (frame_of_page present') (sub_parts subs' present'))
  writes-present u u' present bytes' present' subs' reply puts value fresh some are size in_page changed framed pieces set dirtied reply_is none =
      let s : ℕ = sub_of k at in
      let here : is_some (frame_in part) ≡ true = ap (λ p. is_some (frame_of_page p)) some in
      let taken : is_accepted reply ≡ true = ap is_accepted reply_is in
      let low : spot.from + length new ≤ 1024 = (let one = write_range.in_one in let from = is.from in omega arith) in
      let old_piece : (j : ℕ) → piece j present.bytes.items ≡ bytes_in page.present j = λ j. sym (ap (λ p. bytes_in p j) some) in
      let v : SubPart = part_at_index page.subs.items page.present spot.index u in
      let changed_piece : piece spot.index bytes' ≡ with_bytes v.bytes (at.at % 1024) new
      = ap (piece spot.index) changed ∙ (piece-changed present.bytes.items new spot.index spot.from low (omega arith) ∙ (λ i. with_bytes (old_piece spot.index i) (is.from i) new)) in record {
        legal = written_by u reply value fresh (by_passed (access_verdict k x at blocks part) Done reply (verdict-present k x at blocks part here (blocks-fresh u value fresh are)) reply_is);
        part_is = write-changed k x who at page new blocks reply spot subs' present' u u' is write_range taken inside
            (framed ∙ sym (ap frame_of_page some)) set
            (λ j differ. pieces j ∙ (ap (piece j) changed ∙ (piece-kept present.bytes.items new spot.index j (1024 * spot.index + spot.from) differ (omega arith) (omega arith) (omega arith) ∙ old_piece j)))
            ((λ i. part_with (dirtied i) ((pieces spot.index ∙ changed_piece) i))
            ∙ ((λ i. record (part_with (value i) v.bytes) { is_dirty = true; bytes = with_bytes v.bytes (at.at % 1024) new })
            ∙ sym (write_is k x who at new blocks reply (opened_places k at part) (frame_in part) s v true write_range (here_is reply taken) ∙ accessed-present x s (frame_in part) v _ _ here)));
        puts_are = ap (map put_of) none ∙ sym (puts_from-none k x (write_stamp who at new blocks reply) _ (frame_in part) _ (subs_in part)
            (λ t w. seals_at reply (is_some (frame_in part)) t w ∙ (ap (λ b. (is_accepted reply && (t == s)) && not b) here ∙ and_false (is_accepted reply && (t == s)))));
      }

  -- while the page is absent it seals the sub-page again, and the new block goes to the host
  pub writes-sealed : (u u' : SubPage) (subs' : List SubPage) (block : List ℕ) (reply : Reply) (puts : List Put)
      → u ≡ slice_index_or page.subs.items spot.index u → (not u.is_dirty && u.version == k.wear) ≡ false
      → page.present ≡ None → IsResealed x spot.place spot.from new blocks (part_with u []) block (part_with u' [])
      → subs' ≡ slice_set page.subs.items spot.index u' → reply ≡ Done → map put_of puts ≡ (spot.place, block) ∷ []
      → WritesPage k x who at new blocks part reply puts (page_part (frame_of_page page.present) (sub_parts subs' page.present))
  writes-sealed u u' subs' block reply puts value fresh none sealed set reply_is sent =
      let s : ℕ = sub_of k at in
      let ps : List ℕ = opened_places k at part in
      let v : SubPart = sub_for k at part in
      let w : SubPart = part_at_index page.subs.items page.present spot.index u in
      let gone : is_some (frame_in part) ≡ false = ap (λ p. is_some (frame_of_page p)) none in
      let taken : is_accepted reply ≡ true = ap is_accepted reply_is in
      let sub : v ≡ part_with u [] = sub_for-absent k at page spot u is inside none value in
      let same : w ≡ v = sym (sub_for-is k at page spot u is inside) in
      let judged_is : access_verdict k x at blocks part ≡ passed = verdict-absent k x at blocks part gone ∙ ((λ i. judged_sub x (sym is.place i) (sub i) blocks) ∙ sealed.judged_is) in
      let opened : opened_sub x spot.place (part_with u []) blocks ≡ opened_in k x (entry_with reply) ps s v
      = (λ i. opened_sub x (is.place i) (sym sub i) blocks) ∙ sym (opened_in-absent k x at blocks part (entry_with reply) refl gone) in
      let text : List ℕ = with_bytes (opened_in k x (entry_with reply) ps s v) (at.at % 1024) new in
      let text_is : with_bytes (opened_sub x spot.place (part_with u []) blocks) spot.from new ≡ text = (λ i. with_bytes (opened i) (is.from i) new) in
      let no_bytes : v.bytes ≡ [] = ap (λ (z : SubPart). z.bytes) sub in
      let first : ℕ = page_of k s * per_page k in
      let place : first + spot.index ≡ s = place_is k at spot is in
      let small : spot.index < length (subs_in part) = (let long = length-sub_parts page.subs.items page.present in omega arith) in
      let item : slice_index_or (subs_in part) spot.index blank_sub ≡ v = sym (ap (λ n. slice_index_or (subs_in part) n blank_sub) (index_is k at spot is)) in record {
        legal = written_by u reply value fresh (by_passed (access_verdict k x at blocks part) Done reply judged_is reply_is);
        part_is = write-changed k x who at page new blocks reply spot subs' page.present u u' is write_range taken inside refl set (λ j differ. refl)
            (ap (λ p. part_with u' (bytes_in p spot.index)) none
            ∙ (sealed.part_is ∙ ((λ i. resealed x (is.place i) (sym sub i) (text_is i))
            ∙ (sym (write_is k x who at new blocks reply ps (frame_in part) s v true write_range (here_is reply taken) ∙ accessed-absent x s (frame_in part) v text _ gone no_bytes)
            ∙ ap (sub_after k x (write_stamp who at new blocks reply) ps (frame_in part) s) (sym same)))));
        puts_are = sent ∙ ((λ i. (is.place i, (sealed.block_is ∙ (λ t. x.seal (is.place t) ((sym sub t).version + 1) (text_is t))) i) ∷ [])
            ∙ sym (puts_from-one k x (write_stamp who at new blocks reply) ps (frame_in part) first spot.index (subs_in part) small
            (λ t z differ. seals_at reply (is_some (frame_in part)) t z ∙ ap (λ b. b && not (is_some (frame_in part))) (ap (λ b. is_accepted reply && b) (ne_eqb t s (λ equal. differ (equal ∙ sym place))) ∙ and_false (is_accepted reply)))
            (λ z. seals_at reply (is_some (frame_in part)) (first + spot.index) z ∙ (λ i. ((ap (λ t. is_accepted reply && (t == s)) place ∙ here_is reply taken) i) && not (gone i)))
            ∙ (λ i. (place i, x.seal (place i) ((item i).version + 1) (with_bytes (opened_in k x (entry_with reply) ps (place i) (item i)) (at.at % 1024) new)) ∷ [])));
      }

-- a page after a write in its frame
pub IsPage-written : (wear frames : ℕ) (page page' : Page) (present present' : Present) (i : ℕ) (u : SubPage) → IsPage wear frames page → page.present ≡ Some present
    → u ≡ slice_index_or page.subs.items i u → i < length page.subs.items → (not u.is_dirty && u.version == wear) ≡ false
    → page'.subs.items ≡ slice_set page.subs.items i (record u { is_dirty = true }) → page'.present ≡ Some present' → present'.frame ≡ present.frame → length present'.bytes.items ≡ length present.bytes.items
    → IsPage wear frames page'
IsPage-written wear frames page page' present present' i u old some value inside fresh set some' framed size =
    let was : IsPresent frames (Some present) = subst (IsPresent frames) some old.present in
    let sub : IsSubPage wear page.present u = subst (IsSubPage wear page.present) (sym value) (All-from_recursion (IsSubPage wear page.present) page.subs.items old.each i u inside) in record {
      whole = ap length set ∙ (length-set page.subs.items i (record u { is_dirty = true }) ∙ old.whole);
      present = subst (IsPresent frames) (sym some') (subst (λ n. n < frames) (sym framed) was.0, size ∙ was.1);
      each = subst (AllByRecursion (IsSubPage wear page'.present)) (sym set) (recursion_from_All (IsSubPage wear page'.present) _
          (All-set (IsSubPage wear page'.present) page.subs.items i (record u { is_dirty = true })
          (record { version = sub.version; below = λ _. room sub (by_dirt u.is_dirty fresh); dirty = λ _. ap is_some some' })
          (All-weaker (IsSubPage wear page.present) (IsSubPage wear page'.present)
          (λ v h. record { version = h.version; below = h.below; dirty = λ _. ap is_some some' }) page.subs.items (All-from_recursion (IsSubPage wear page.present) page.subs.items old.each))));
    }
  where
    by_dirt : (b : Bool) → (not b && u.version == wear) ≡ false → (b ≡ true) ⊎ (u.version ≢ wear)
    by_dirt true h = inl refl
    by_dirt false h = inr (eqb-false u.version wear h)

    room : IsSubPage wear page.present u → (u.is_dirty ≡ true) ⊎ (u.version ≢ wear) → u.version < wear
    room h (inl dirty) = h.below dirty
    room h (inr differ) = let most = h.version in omega arith

-- and after one beside it, which seals a sub-page
pub IsPage-sealed : (x : Seals) (wear frames s : ℕ) (page page' : Page) (i : ℕ) (u u' : SubPage) (text : List ℕ) → IsPage wear frames page
    → u ≡ slice_index_or page.subs.items i u → i < length page.subs.items → (not u.is_dirty && u.version == wear) ≡ false
    → part_with u' [] ≡ resealed x s (part_with u []) text → page'.subs.items ≡ slice_set page.subs.items i u' → page'.present ≡ page.present → IsPage wear frames page'
IsPage-sealed x wear frames s page page' i u u' text old value inside fresh sealed set same =
    let sub : IsSubPage wear page.present u = subst (IsSubPage wear page.present) (sym value) (All-from_recursion (IsSubPage wear page.present) page.subs.items old.each i u inside) in
    let clean : u'.is_dirty ≡ false = ap (λ (v : SubPart). v.is_dirty) sealed in
    let next : u'.version ≡ u.version + 1 = ap (λ (v : SubPart). v.version) sealed in
    let room : u.version < wear = by_dirt sub u.is_dirty refl fresh in record {
      whole = ap length set ∙ (length-set page.subs.items i u' ∙ old.whole);
      present = subst (IsPresent frames) (sym same) old.present;
      each = subst (λ p. AllByRecursion (IsSubPage wear p) page'.subs.items) (sym same) (subst (AllByRecursion (IsSubPage wear page.present)) (sym set)
          (recursion_from_All (IsSubPage wear page.present) _ (All-set (IsSubPage wear page.present) page.subs.items i u'
          (record { version = omega arith; below = λ dirty. absurd (cc); dirty = λ dirty. absurd (cc) })
          (All-from_recursion (IsSubPage wear page.present) page.subs.items old.each))));
    }
  where
    by_dirt : IsSubPage wear page.present u → (b : Bool) → u.is_dirty ≡ b → (not b && u.version == wear) ≡ false → u.version < wear
    by_dirt h true dirty is = h.below dirty
    by_dirt h false clean is = let differ : u.version ≢ wear = eqb-false u.version wear is in let most = h.version in omega arith
