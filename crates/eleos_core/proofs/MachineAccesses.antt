-- Reads, writes and links on the machine's cells: what each makes of them, refused or not.
use Rattle.std.proofs.Common.{◌≡◌, ℕ, ◌-◌, ◌/◌, ◌<◌, ◌==◌, ◌&&◌, not, List, [], length, map, Bool, true, false, Some, None, is_some, if◌then◌else◌, slice_index_or, slice_set, refl, sym, ◌∙◌, ap, subst}
use Rattle.eleos_base.specs.declared.memory.Addr.{Addr}
use Rattle.eleos_base.specs.declared.memory.Op.TheVariants.{Read, Write}
use Rattle.eleos_base.specs.declared.memory.Reply.{Reply}
use Rattle.eleos_base.specs.declared.memory.Reply.TheVariants.{BadRange}
use Rattle.eleos_base.specs.declared.plan.Plan.{Plan}
use Rattle.eleos_base.specs.Plain.{is_accepted, use_refusal}
use Rattle.eleos_base.specs.Plans.{IsCaller, enclave_of}
use Rattle.eleos_base.specs.Ties.{Has}
use Rattle.eleos_core.specs.declared.accesses.spots.Spot.{Spot}
use Rattle.eleos_core.specs.declared.cells.page.Page.{Page}
use Rattle.eleos_core.specs.declared.cells.sub_page.SubPage.{SubPage}
use Rattle.eleos_core.specs.declared.event.Event.TheVariants.{Op}
use Rattle.eleos_core.specs.declared.machine.Put.{Put}
use Rattle.eleos_core.specs.declared.machine.Core.TheInside.{Inside}
use Rattle.std.specs.Vec.{with_item}
use Rattle.eleos_core.specs.Accesses.{AreBlocks, ReadsPage, WritesPage, call_places, opened_places, page_for, read_stamp, refusal_for, refusal_on, rewritten_places, write_stamp, block_places}
use Rattle.eleos_core.specs.Applying.{Makes, page_puts, parts_in, put_of, puts_in}
use Rattle.eleos_core.specs.Cells.{Cells, part_of_page, part_with}
use Rattle.eleos_core.specs.Parts.{CallOn, Part, Stamp, access_foot, after_at, foot, frame_in, page_after, sub_in, subs_in}
use Rattle.eleos_base.specs.Places.{all_pages, first_sub, is_sub_of, page_of, sub_of}
use Rattle.eleos_core.specs.Seals.{Seals}
use Rattle.eleos_core.specs.State.{writes}
use Rattle.eleos_core.proofs.AccessParts.{no_blocks, puts_from-none, read-kept, refused_by, write-kept}
use Rattle.eleos_core.proofs.Replies.{use_refusal-refuses}
use Rattle.eleos_core.proofs.Sets.{map_page, core_whole}
use Rattle.eleos_core.proofs.Spots.{and_false, in_range, page_inside, range_is}
use Rattle.eleos_core.proofs.Machines.{Holds, IsFound, caller_there, page_there, places-found, refusal_there, view_of, worn-found}
use Rattle.eleos_core.proofs.MachineCells.{foot_is, makes-kept, makes-page, touched}

-- some way of sealing, where none is meant
pub any_seals : Seals
any_seals = record { seal = λ s v text. []; unseal = λ s v block. []; tag = λ s v block. [] }

-- a refusal is none of the accepted replies
pub refusal-refuses : (k : Plan) (who : ℕ) (at : Addr) (n : ℕ) (q : Part) (reply : Reply) → refusal_for k who at n q ≡ Some reply → is_accepted reply ≡ false
refusal-refuses k who at n q reply is = by_range (in_range k who at n) is where
  by_range : (b : Bool) → (if b then use_refusal who (sub_in k (subs_in q) (sub_of k at)).block else Some BadRange) ≡ Some reply → is_accepted reply ≡ false
  by_range true h = use_refusal-refuses who (sub_in k (subs_in q) (sub_of k at)).block reply h
  by_range false h = let same : BadRange ≡ reply = cc in ap is_accepted (sym same)

-- what a read or a write makes of the cells that a core is seen as
module _ (s : Inside) (m : Cells) (view : view_of s ≡ m) (core : Holds s) (x : Seals) (who : ℕ) (at : Addr) (is_caller : IsCaller m.plan who) where
  abbrev k : Plan
  k = s.plan

  abbrev old : Cells
  old = view_of s

  abbrev old_page : Part
  old_page = page_for old at

  abbrev p : ℕ
  p = page_of k (sub_of k at)

  caller : IsCaller k who
  caller = caller_there s m view who is_caller

  inside : (n : ℕ) → in_range k who at n ≡ true → p < all_pages k
  inside n range = page_inside k who at n core.good caller (range_is k who at n range)

  -- an entry that leaves the part of the page of its address
  kept : (d : Stamp) (n : ℕ) → foot k d ≡ access_foot k who at n → ((page : Page) → in_range k who at n ≡ true → part_of_page page ≡ page_after k x d p (frame_in (part_of_page page)) (subs_in (part_of_page page)))
      → (c : ℕ) → Has c (foot k d) → parts_in old c ≡ after_at k x d (parts_in old) c
  kept d n same keeps = touched k x d (parts_in old) who at n same (inside n)
      (λ range. let there = page_there s who at n core caller range in subst (λ q. q ≡ page_after k x d p (frame_in q) (subs_in q)) (sym there.1) (keeps there.0 range))

  -- a refused read
  pub read-refused : (n : ℕ) (blocks : List (List ℕ)) (reply : Reply) → refusal_on m who at n ≡ Some reply → AreBlocks (call_places m who (Read at n)) blocks → Makes x (read_stamp who at n blocks reply) m m
  read-refused n blocks reply refused are = subst (λ (c : Cells). refusal_on c who at n ≡ Some reply → AreBlocks (call_places c who (Read at n)) blocks → Makes x (read_stamp who at n blocks reply) c c) view made refused are
    where
      made : refusal_on old who at n ≡ Some reply → AreBlocks (call_places old who (Read at n)) blocks → Makes x (read_stamp who at n blocks reply) old old
      made no_is are_is =
          let none : blocks ≡ [] = no_blocks blocks (subst (λ o. AreBlocks (if is_some o then [] else opened_places k at old_page) blocks) no_is are_is) in
          makes-kept x (read_stamp who at n blocks reply) old old refl (λ c. refl)
          (record { within = caller; on_parts = refused_by (refusal_on old who at n) reply _ _ no_is (record { reply_is = refl; no_block = none }) })
          (kept (read_stamp who at n blocks reply) n refl (λ page range. read-kept k x who at page n blocks reply p))
          (λ by q h small. refl)

  -- a read that is not refused, by what it is on its page
  pub read-made : (n : ℕ) (blocks : List (List ℕ)) (reply : Reply) (spot : Spot) (page : Page) → IsFound s who at n spot page → ReadsPage k x who at n blocks (part_of_page page) reply
      → Makes x (read_stamp who at n blocks reply) m m
  read-made n blocks reply spot page f reads = subst (λ (c : Cells). Makes x (read_stamp who at n blocks reply) c c) view
      (makes-kept x (read_stamp who at n blocks reply) old old refl (λ c. refl)
      (record { within = caller; on_parts = subst (λ q. ReadsPage k x who at n blocks q reply) (sym f.part) reads })
      (kept (read_stamp who at n blocks reply) n refl (λ other range. read-kept k x who at other n blocks reply p))
      (λ by q h small. refl))

  -- a refused write
  pub write-refused : (new : List ℕ) (blocks : List (List ℕ)) (reply : Reply) → refusal_on m who at (length new) ≡ Some reply → AreBlocks (call_places m who (Write at new)) blocks → Makes x (write_stamp who at new blocks reply) m m
  write-refused new blocks reply refused are =
      subst (λ (c : Cells). refusal_on c who at (length new) ≡ Some reply → AreBlocks (call_places c who (Write at new)) blocks → Makes x (write_stamp who at new blocks reply) c c) view made refused are
    where
      made : refusal_on old who at (length new) ≡ Some reply → AreBlocks (call_places old who (Write at new)) blocks → Makes x (write_stamp who at new blocks reply) old old
      made no_is are_is =
          let n : ℕ = length new in
          let none : blocks ≡ [] = no_blocks blocks (subst (λ o. AreBlocks (if is_some o then [] else rewritten_places k at old_page) blocks) no_is are_is) in
          makes-kept x (write_stamp who at new blocks reply) old old refl (λ c. refl)
          (record { within = caller; on_parts = refused_by (refusal_on old who at n) reply _ _ no_is (record { reply_is = refl; no_block = none }) })
          (kept (write_stamp who at new blocks reply) n refl (λ page range. write-kept k x who at page new blocks reply p (range_is k who at n range) (refusal-refuses k who at n old_page reply no_is)))
          (λ by q h small. refl)

  -- which seals nothing
  pub write-refused_puts : (new : List ℕ) (blocks : List (List ℕ)) (reply : Reply) → refusal_on m who at (length new) ≡ Some reply
      → puts_in m.plan x (write_stamp who at new blocks reply) (parts_in m) (Op (Write at new)) ≡ []
  write-refused_puts new blocks reply refused =
      subst (λ (c : Cells). refusal_on c who at (length new) ≡ Some reply → puts_in c.plan x (write_stamp who at new blocks reply) (parts_in c) (Op (Write at new)) ≡ []) view none refused
    where
      nothing : (t : ℕ) → refusal_on old who at (length new) ≡ Some reply → writes k who (Op (Write at new)) reply t ≡ false
      nothing t no_is = ap (λ v. is_sub_of k (enclave_of k who) t && (v && (at.at / 1024 == t - first_sub k (enclave_of k who)))) (refusal-refuses k who at (length new) old_page reply no_is)
          ∙ and_false (is_sub_of k (enclave_of k who) t)

      none : refusal_on old who at (length new) ≡ Some reply → puts_in k x (write_stamp who at new blocks reply) (parts_in old) (Op (Write at new)) ≡ []
      none no_is = puts_from-none k x (write_stamp who at new blocks reply) _ (frame_in old_page) _ (subs_in old_page) (λ t u. ap (λ v. v && not (is_some (frame_in old_page))) (nothing t no_is))

  -- a write that is not refused, by what it makes of its page
  pub write-made : (new : List ℕ) (blocks : List (List ℕ)) (reply : Reply) (puts : List Put) (spot : Spot) (page page' : Page) → IsFound s who at (length new) spot page
      → WritesPage k x who at new blocks (part_of_page page) reply puts (part_of_page page') → Makes x (write_stamp who at new blocks reply) m (view_of (record s { pages = with_item s.pages spot.page page' }))
  write-made new blocks reply puts spot page page' f made =
      let d : Stamp = write_stamp who at new blocks reply in
      let q : Part = part_of_page page' in
      let changed : map part_of_page (slice_set s.pages.items spot.page page') ≡ slice_set old.pages p q = ap (λ j. map part_of_page (slice_set s.pages.items j page')) f.there.is.page ∙ map_page s.pages.items p page' in
      subst (λ (c : Cells). Makes x d c (record old { pages = map part_of_page (slice_set s.pages.items spot.page page') })) view
      (subst (λ ps. Makes x d old (record old { pages = ps })) (sym changed)
      (makes-page x d old p q (core_whole k s.live.items s.clocks.items s.pages.items s.frames.items s.links.items core) (inside (length new) f.there.range) (foot_is k who at (length new) f.there.range)
      (record { within = caller; on_parts = subst (λ z. CallOn k x d (λ _. z) (Write at new)) (sym f.part) made.legal })
      (subst (λ z. q ≡ page_after k x d p (frame_in z) (subs_in z)) (sym f.part) made.part_is)
      (λ by q'. refl)))

  -- and the blocks that it seals
  pub write-puts : (new : List ℕ) (blocks : List (List ℕ)) (reply : Reply) (puts : List Put) (spot : Spot) (page page' : Page) → IsFound s who at (length new) spot page
      → WritesPage k x who at new blocks (part_of_page page) reply puts (part_of_page page')
      → map put_of puts ≡ puts_in m.plan x (write_stamp who at new blocks reply) (parts_in m) (Op (Write at new))
  write-puts new blocks reply puts spot page page' f made =
      subst (λ (c : Cells). map put_of puts ≡ puts_in c.plan x (write_stamp who at new blocks reply) (parts_in c) (Op (Write at new))) view
      (made.puts_are ∙ ap (page_puts k x (write_stamp who at new blocks reply) p) (sym f.part))

  -- its page has what the caller was to judge
  pub accepted-found : (n : ℕ) (spot : Spot) (page : Page) → IsFound s who at n spot page → refusal_on m who at n ≡ None → refusal_for k who at n (part_of_page page) ≡ None
  accepted-found n spot page f accepted = subst (λ q. refusal_for k who at n q ≡ None) f.part (refusal_there s m view who at n None accepted)

  -- and the blocks given for a read are those that it opens on that page
  pub read_blocks-found : (n : ℕ) (blocks : List (List ℕ)) (spot : Spot) (page : Page) → IsFound s who at n spot page → refusal_on m who at n ≡ None
      → AreBlocks (call_places m who (Read at n)) blocks → AreBlocks (opened_places k at (part_of_page page)) blocks
  read_blocks-found n blocks spot page f accepted are =
      subst (λ q. AreBlocks (opened_places k at q) blocks) f.part
      (subst (λ o. AreBlocks (if is_some o then [] else opened_places k at old_page) blocks) (refusal_there s m view who at n None accepted)
      (subst (λ (c : Cells). AreBlocks (call_places c who (Read at n)) blocks) (sym view) are))

  -- those given for a write are the ones that it opens, none where the sub-page is worn
  pub write_blocks-found : (new : List ℕ) (blocks : List (List ℕ)) (spot : Spot) (page : Page) → IsFound s who at (length new) spot page → refusal_on m who at (length new) ≡ None
      → AreBlocks (call_places m who (Write at new)) blocks → AreBlocks (rewritten_places k at (part_of_page page)) blocks
  write_blocks-found new blocks spot page f accepted are =
      subst (λ q. AreBlocks (rewritten_places k at q) blocks) f.part
      (subst (λ o. AreBlocks (if is_some o then [] else rewritten_places k at old_page) blocks) (refusal_there s m view who at (length new) None accepted)
      (subst (λ (c : Cells). AreBlocks (call_places c who (Write at new)) blocks) (sym view) are))

  -- the place whose block a read takes, and a write
  pub read_place-found : (n : ℕ) (spot : Spot) (page : Page) (u : SubPage) → IsFound s who at n spot page → u ≡ slice_index_or page.subs.items spot.index u → refusal_on m who at n ≡ None
      → (if is_some page.present then [] else block_places spot.place (part_with u [])) ≡ call_places m who (Read at n)
  read_place-found n spot page u f item accepted = subst (λ (c : Cells). (if is_some page.present then [] else block_places spot.place (part_with u [])) ≡ call_places c who (Read at n)) view
      (sym (ap (λ o. if is_some o then [] else opened_places k at old_page) (refusal_there s m view who at n None accepted) ∙ places-found s who at n spot page f u item))

  -- of a write: none where the sub-page is worn or its page is in a frame
  pub write_place-found : (new : List ℕ) (spot : Spot) (page : Page) (u : SubPage) → IsFound s who at (length new) spot page → u ≡ slice_index_or page.subs.items spot.index u → refusal_on m who at (length new) ≡ None
      → (if not u.is_dirty && u.version == k.wear then [] else if is_some page.present then [] else block_places spot.place (part_with u [])) ≡ call_places m who (Write at new)
  write_place-found new spot page u f item accepted =
      subst (λ (c : Cells). (if not u.is_dirty && u.version == k.wear then [] else if is_some page.present then [] else block_places spot.place (part_with u [])) ≡ call_places c who (Write at new)) view
      (sym (ap (λ o. if is_some o then [] else rewritten_places k at old_page) (refusal_there s m view who at (length new) None accepted)
      ∙ (λ i. if worn-found s who at (length new) spot page f u item i then [] else places-found s who at (length new) spot page f u item i)))
