-- Reads on the cell of a page: legal by its part, which they leave.
use Rattle.std.proofs.Common.{◌≡◌, ℕ, ◌<◌, List, [], length, take, drop, true, Option, Some, None, is_some, Result, if◌then◌else◌, slice_index_or, refl, sym, ◌∙◌, ap, subst}
use Rattle.eleos_base.specs.declared.memory.Addr.{Addr}
use Rattle.eleos_base.specs.declared.memory.Reply.{Reply}
use Rattle.eleos_base.specs.declared.memory.Reply.TheVariants.{BadRange, Tampered, Text}
use Rattle.eleos_base.specs.declared.plan.Plan.{Plan}
use Rattle.eleos_base.specs.declared.refusals.AccessRefused.{AccessRefused}
use Rattle.eleos_base.specs.Places.{sub_of}
use Rattle.eleos_base.specs.Plain.{use_refusal}
use Rattle.eleos_core.specs.declared.accesses.spots.Spot.{Spot}
use Rattle.eleos_core.specs.declared.cells.page.Page.{Page}
use Rattle.eleos_core.specs.declared.cells.page.Present.{Present}
use Rattle.eleos_core.specs.declared.cells.sub_page.SubPage.{SubPage}
use Rattle.eleos_core.specs.Accesses.{AreBlocks, IsAccess, IsOpened, IsSpot, ReadsOn, ReadsPage, block_places, judged_sub, opened_places, page_at, refusal_for, sub_for}
use Rattle.eleos_core.specs.Cells.{frame_of_page, part_of_page, part_with, piece}
use Rattle.eleos_core.specs.Legal.{failed}
use Rattle.eleos_core.specs.Parts.{Part, SubPart, frame_in}
use Rattle.eleos_base.specs.Answers.{read_reply}
use Rattle.eleos_core.specs.Seals.{Seals}
use Rattle.eleos_core.specs.Texts.{came_for}
use Rattle.eleos_core.proofs.AccessParts.{no_blocks, opened_places-absent, opened_places-present, read-kept, refused_by, sub_for-is}
use Rattle.eleos_core.proofs.LentTexts.{block_fits, blocks_are}
use Rattle.eleos_core.proofs.MachineAccesses.{any_seals}
use Rattle.eleos_core.proofs.PageAccesses.{reads-opened, reads-present, reads-spoiled, sub_for-absent}

-- a page in a frame
framed : (present : Option Present) → is_some present ≡ true → is_some (frame_of_page present) ≡ true
framed None here = cc
framed (Some present) here = refl

-- no block for it
pub none_present : (k : Plan) (at : Addr) (page : Page) (present : Present) → page.present ≡ Some present → AreBlocks (opened_places k at (part_of_page page)) []
none_present k at page present some =
    let here : is_some (frame_in (part_of_page page)) ≡ true = ap (λ p. is_some (frame_of_page p)) some in
    subst (λ ps. AreBlocks ps []) (sym (opened_places-present k any_seals at [] (part_of_page page) here)) (record { count = refl; each = tt })

-- why an access in range is refused, by the block of its sub-page
pub refusal-found : (k : Plan) (who : ℕ) (at : Addr) (n : ℕ) (page : Page) (spot : Spot) (u : SubPage) → IsSpot k at spot → spot.index < length page.subs.items
    → u ≡ slice_index_or page.subs.items spot.index u → IsAccess k who at n → refusal_for k who at n (part_of_page page) ≡ use_refusal who u.block
refusal-found k who at n page spot u is inside value range =
    let found : sub_for k at (part_of_page page) ≡ _ = sub_for-is k at page spot u is inside in
    ap (λ b. if b then use_refusal who (sub_for k at (part_of_page page)).block else Some BadRange) range
    ∙ (ap (λ (v : SubPart). use_refusal who v.block) found ∙ ap (λ (v : SubPage). use_refusal who v.block) (sym value))

-- the sub-page of an absent page that has the address
module _ (k : Plan) (at : Addr) (page : Page) (spot : Spot) (u : SubPage) (is : IsSpot k at spot) (inside : spot.index < length page.subs.items)
    (none : page.present ≡ None) (value : u ≡ slice_index_or page.subs.items spot.index u) where
  -- the block that came for it
  pub came-found : (block : List ℕ) → came_for (sub_for k at (part_of_page page)) block ≡ came_for (part_with u []) block
  came-found block = ap (λ (v : SubPart). came_for v block) (sub_for-absent k at page spot u is inside none value)

  -- whether it lies sealed
  pub sealed-found : (sub_for k at (part_of_page page)).is_sealed ≡ is_some u.tag
  sealed-found = ap (λ (v : SubPart). v.is_sealed) (sub_for-absent k at page spot u is inside none value)

-- the blocks of an access that is not refused: none in a frame, and beside it the one that came, which is as long as a sub-page
module _ (k : Plan) (at : Addr) (page : Page) (blocks : List (List ℕ)) (are : AreBlocks (opened_places k at (part_of_page page)) blocks) where
  -- in a frame no block came
  pub blocks-present : is_some page.present ≡ true → blocks ≡ []
  blocks-present here = no_blocks blocks (subst (λ ps. AreBlocks ps blocks) (opened_places-present k any_seals at [] (part_of_page page) (framed page.present here)) are)

  places-absent : page.present ≡ None → AreBlocks (block_places (sub_of k at) (sub_for k at (part_of_page page))) blocks
  places-absent none = subst (λ ps. AreBlocks ps blocks) (opened_places-absent k any_seals at [] (part_of_page page) (ap (λ p. is_some (frame_of_page p)) none)) are

  -- for an absent page just the block that its sub-page takes came, if it takes one
  pub blocks-came : page.present ≡ None → blocks ≡ came_for (sub_for k at (part_of_page page)) (slice_index_or blocks 0 [])
  blocks-came none = blocks_are (sub_of k at) (sub_for k at (part_of_page page)) blocks (places-absent none)

  -- and where that lies sealed, its block is as long as a sub-page
  pub block-whole : page.present ≡ None → (sub_for k at (part_of_page page)).is_sealed ≡ true → length (slice_index_or blocks 0 []) ≡ 1024
  block-whole none sealed = block_fits (sub_of k at) (sub_for k at (part_of_page page)) blocks (places-absent none) sealed

-- a read on the page's cell, with the memory for its reply
pub reads_page : (k : Plan) (x : Seals) (who : ℕ) (at : Addr) (n n' : ℕ) (blocks came : List (List ℕ)) (q : Part) (answer : Result (Unit {0}) AccessRefused) (text items : List ℕ) (reply : Reply)
    → n' ≡ n → blocks ≡ came → items ≡ text → reply ≡ read_reply answer items → ReadsOn k x who at n' came q (read_reply answer text) → ReadsPage k x who at n blocks q reply
reads_page k x who at n n' blocks came q answer text items reply len are kept is reads =
    subst (λ m. ReadsPage k x who at m blocks q reply) len
    (subst (λ bs. ReadsPage k x who at n' bs q reply) (sym are)
    (subst (ReadsPage k x who at n' came q) (sym (is ∙ ap (read_reply answer) kept)) reads.legal))

module _ (k : Plan) (x : Seals) (who : ℕ) (at : Addr) (n : ℕ) (page : Page) where
  -- a read leaves the page's part
  as_read : (blocks : List (List ℕ)) (reply : Reply) → ReadsPage k x who at n blocks (part_of_page page) reply → ReadsOn k x who at n blocks (part_of_page page) reply
  as_read blocks reply legal = record { legal = legal; same = read-kept k x who at page n blocks reply (page_at k at) }

  -- a refused one
  pub read_refused : (blocks : List (List ℕ)) (reply : Reply) → refusal_for k who at n (part_of_page page) ≡ Some reply → blocks ≡ [] → ReadsOn k x who at n blocks (part_of_page page) reply
  read_refused blocks reply refused none = as_read blocks reply (refused_by (refusal_for k who at n (part_of_page page)) reply _ _ refused (record { reply_is = refl; no_block = none }))

  module _ (spot : Spot) (accepted : refusal_for k who at n (part_of_page page) ≡ None) (is : IsSpot k at spot) (inside : spot.index < length page.subs.items) where
    -- from a frame
    pub read_present : (blocks : List (List ℕ)) (present : Present) (text : List ℕ) (reply : Reply) → page.present ≡ Some present → blocks ≡ []
        → text ≡ piece spot.index present.bytes.items → reply ≡ Text (take n (drop spot.from text)) → ReadsOn k x who at n blocks (part_of_page page) reply
    read_present blocks present text reply some none text_is reply_is = as_read blocks reply
        (reads-present k x who at n blocks page spot accepted is inside present text reply some
        (subst (AreBlocks (opened_places k at (part_of_page page))) (sym none) (none_present k at page present some)) text_is reply_is)

    -- beside an absent page
    pub read_opened : (blocks : List (List ℕ)) (u : SubPage) (text : List ℕ) (reply : Reply) → page.present ≡ None → u ≡ slice_index_or page.subs.items spot.index u
        → IsOpened x spot.place (part_with u []) blocks text → reply ≡ Text (take n (drop spot.from text)) → ReadsOn k x who at n blocks (part_of_page page) reply
    read_opened blocks u text reply none value opened reply_is = as_read blocks reply (reads-opened k x who at n blocks page spot accepted is inside u text reply none value opened reply_is)

    -- whose block does not pass
    pub read_spoiled : (blocks : List (List ℕ)) (u : SubPage) (reply : Reply) → page.present ≡ None → u ≡ slice_index_or page.subs.items spot.index u
        → judged_sub x spot.place (part_with u []) blocks ≡ failed spot.place → reply ≡ Tampered spot.place → ReadsOn k x who at n blocks (part_of_page page) reply
    read_spoiled blocks u reply none value spoiled reply_is = as_read blocks reply (reads-spoiled k x who at n blocks page spot accepted is inside u reply none value spoiled reply_is)
