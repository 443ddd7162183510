-- Allocs, frees and shares of a machine's cells in memory.
use Rattle.std.proofs.Common.{◌≡◌, ℕ, zero, suc, ◌+◌, ◌*◌, ◌/◌, ◌<◌, ◌≤◌, List, [], ◌∷◌, length, map, filter, Bool, true, false, not, ◌==◌, Option, Some, None, option_map, unwrap_or, if◌then◌else◌, slice_index_or, slice_set, refl, sym, ◌∙◌, ap, subst, arith, get_or-set_same, get_or-set_other}
use Rattle.std.specs.List.{find}
use Rattle.std.specs.Vec.{with_items}
use Rattle.std.proofs.lemmas.Bool.{eqb-true, eqb-false}
use Rattle.std.proofs.lemmas.List.{get_or_default, length-set}
use Rattle.eleos_base.specs.declared.memory.Addr.{Addr}
use Rattle.eleos_base.specs.declared.memory.Live.{Live}
use Rattle.eleos_base.specs.declared.memory.Op.TheVariants.{Alloc, Free, Share}
use Rattle.eleos_base.specs.declared.memory.Reply.{Reply}
use Rattle.eleos_base.specs.declared.memory.Reply.TheVariants.{BadSize, Done, Got}
use Rattle.eleos_base.specs.declared.plan.Plan.{Plan}
use Rattle.eleos_base.specs.Plain.{alloc_answer, alloc_reply, block_refusal, block_reply, is_good_size, lowest_run, shared_at, starts_at, subs_for, with_block}
use Rattle.eleos_base.specs.Plans.{IsCaller, enclave_of}
use Rattle.eleos_core.specs.declared.allots.marks.Mark.{Mark}
use Rattle.eleos_core.specs.declared.allots.marks.Mark.TheVariants.{Blank, Shared}
use Rattle.eleos_core.specs.declared.cells.frame.Frame.{Frame}
use Rattle.eleos_core.specs.declared.cells.page.Page.{Page}
use Rattle.eleos_core.specs.declared.event.Event.TheVariants.{Op}
use Rattle.eleos_core.specs.declared.machine.Core.TheInside.{Inside}
use Rattle.eleos_core.specs.Allots.{Allots, ArePages, KeepsPages, block_len, run_marked}
use Rattle.eleos_core.specs.Applying.{Makes, parts_in, stamp_of}
use Rattle.eleos_core.specs.Cells.{Cells, IsCore, cells_of, part_of_frame, part_of_page, sub_size, subs_per_page}
use Rattle.eleos_core.specs.Order.{AreInOrder}
use Rattle.eleos_core.specs.Parts.{MayStep, Part, alloc_cell, len_at, live_in, no_part, page_cell, pages_of_run}
use Rattle.eleos_base.specs.Places.{all_frames, all_pages, first_sub, subs}
use Rattle.eleos_core.specs.Seals.{Seals}
use Rattle.eleos_core.proofs.Allotting.{IsFramePart, accepted_makes, alloc_marks, free_marks, share_marks}
use Rattle.eleos_core.proofs.FreeRuns.{by_test}
use Rattle.eleos_core.proofs.InOrder.{found-le, in_order-filter, in_order-shared, in_order-with_block, is_free_run-le, lowest_run-is_free}
use Rattle.eleos_core.proofs.MarkedPages.{IsPagePart, parts_are}
use Rattle.eleos_core.proofs.Refills.{refill_is}
use Rattle.eleos_core.proofs.Sets.{AreWhole, alloc_at, core_whole}
use Rattle.eleos_core.proofs.SubPages.{few_pages, found_start, home_within, is_home}

frame_parts : (frames : List Frame) (f : ℕ) → f < length frames → IsFramePart (slice_index_or (map part_of_frame frames) f no_part)
frame_parts [] f inside = absurd (omega arith)
frame_parts (frame ∷ frames) zero inside = tt
frame_parts (frame ∷ frames) (suc f) inside = frame_parts frames f (omega arith)

-- what is found passes
found_passes : (p : Live → Bool) (blocks : List Live) (block : Live) → find p blocks ≡ Some block → p block ≡ true
found_passes p [] block found = absurd (let wrong : None ≡ Some block = found in cc)
found_passes p (b ∷ bs) block found = by_test (p b)
    (λ here. let same : b ≡ block = (let is = rw here at found in cc) in rw (← same) here)
    (λ later. found_passes p bs block (rw later at found))

-- a machine's cells, with another list of live blocks for one enclave and other pages
module _ (v : Inside) (core : IsCore v.plan v.live.items v.clocks.items v.pages.items v.frames.items v.links.items) (who : ℕ) (caller : IsCaller v.plan who) where
  abbrev k : Plan
  k = v.plan

  abbrev live : List (List Live)
  live = v.live.items

  abbrev pages : List Page
  pages = v.pages.items

  abbrev frames : List Frame
  frames = v.frames.items

  -- the cells with these live blocks of the caller's enclave and these pages
  abbrev pub cells_with : List Live → List Page → Cells
  cells_with blocks pages' = cells_of k (slice_set live (enclave_of k who) blocks) v.clocks.items pages' frames v.links.items

  abbrev pub home : ℕ
  home = enclave_of k who

  -- the live blocks of the caller's enclave
  abbrev pub blocks_home : List Live
  blocks_home = slice_index_or live home []

  abbrev pub cells : Cells
  cells = cells_of k live v.clocks.items pages frames v.links.items

  inside : home < length k.enclaves
  inside = is_home k who core.good caller

  -- what holds of a machine's pages holds of these
  pub pages_ok : ArePages pages
  pages_ok = record { wear = k.wear; frames = all_frames k; each = core.each_page }

  -- and no more than 4,096
  pub pages_few : length pages ≤ 4096
  pages_few = let most = few_pages k core.good in let all = core.pages_are in omega arith

  pub home_in_order : AreInOrder 0 (subs k home) blocks_home
  home_in_order = core.in_order home inside

  -- a run of the enclave's sub-pages is one of the machine's
  pub run_within : (start len : ℕ) → start + len ≤ subs k home → first_sub k home + start + len ≤ subs_per_page * length pages
  run_within start len within = let most = home_within k home inside in let all = core.pages_are in omega arith

  -- the same of an enclave and a first sub-page as they were read
  pub run_fits : (first start len e : ℕ) → e ≡ home → first ≡ first_sub k e → start + len ≤ subs k home → first + start + len ≤ subs_per_page * length pages
  run_fits first start len e here is within =
      let at : first ≡ first_sub k home = is ∙ ap (first_sub k) here in
      let most = run_within start len within in
      omega arith

  -- the cell of the caller's enclave
  pub cell_is : (e : ℕ) (cell : List Live) → e ≡ home → cell ≡ slice_index_or live e cell → cell ≡ blocks_home
  cell_is e cell here is = is ∙ (ap (λ z. slice_index_or live z cell) here ∙ get_or_default live home cell [] (let all = core.enclaves in let h = inside in omega arith))

  live_is : live_in (parts_in cells (alloc_cell k home)) ≡ blocks_home
  live_is = ap live_in (alloc_at cells home inside)

  whole : AreWhole cells
  whole = core_whole k live v.clocks.items pages frames v.links.items core

  page_parts : (p : ℕ) → p < all_pages k → IsPagePart (slice_index_or (map part_of_page pages) p no_part)
  page_parts p h = parts_are k.wear (all_frames k) pages p no_part core.each_page (let all = core.pages_are in omega arith)

  all_frame_parts : (f : ℕ) → f < all_frames k → IsFramePart (slice_index_or (map part_of_frame frames) f no_part)
  all_frame_parts f h = frame_parts frames f (let all = core.frames_are in omega arith)

  -- the invariant
  pub core_with : (blocks : List Live) (pages' : List Page) → AreInOrder 0 (subs k home) blocks → length pages' ≡ length pages → KeepsPages pages pages' → IsCore k (slice_set live home blocks) v.clocks.items pages' frames v.links.items
  core_with blocks pages' order same keeps = record {
    good = core.good;
    enclaves = length-set live home blocks ∙ core.enclaves;
    in_order = λ e below. by_test (e == home)
        (λ yes_is. let here : e ≡ home = eqb-true e home yes_is in
        subst (λ z. AreInOrder 0 (subs k z) (slice_index_or (slice_set live home blocks) z [])) (sym here)
        (subst (AreInOrder 0 (subs k home)) (sym (get_or-set_same live home blocks [] (let all = core.enclaves in let h = inside in omega arith))) order))
        (λ no_is. subst (AreInOrder 0 (subs k e)) (sym (get_or-set_other live home e blocks [] (eqb-false e home no_is))) (core.in_order e below));
    owners = core.owners;
    pages_are = same ∙ core.pages_are;
    each_page = keeps k.wear (all_frames k) core.each_page;
    frames_are = core.frames_are;
    each_frame = core.each_frame;
    links_are = core.links_are;
  }

  -- and with the list of pages in memory
  pub refilled : (old new : List Page) → old ≡ pages → length new ≡ length old → (with_items v.pages new).items ≡ new
  refilled old new is same = refill_is v.pages new new refl (same ∙ ap length is)

  -- the invariant holds with as many pages that keep what held of the old ones, and with blocks in order
  pub core_after : (e : ℕ) (blocks : List Live) (old new : List Page) → e ≡ home → AreInOrder 0 (subs k home) blocks → old ≡ pages → length new ≡ length old → KeepsPages old new
      → IsCore k (slice_set live e blocks) v.clocks.items (with_items v.pages new).items frames v.links.items
  core_after e blocks old new here order is same keeps =
      subst (λ z. IsCore k (slice_set live z blocks) v.clocks.items (with_items v.pages new).items frames v.links.items) (sym here)
      (subst (λ items. IsCore k (slice_set live home blocks) v.clocks.items items frames v.links.items) (sym (refilled old new is same))
      (core_with blocks new order (same ∙ ap length is) (subst (λ was. KeepsPages was new) is keeps)))

  -- and the pages have the parts of the old ones with the run marked
  pub parts_after : (mark mark' : Mark) (first start len len' e : ℕ) (old new : List Page) → e ≡ home → old ≡ pages → length new ≡ length old → first ≡ first_sub k e → mark ≡ mark' → len ≡ len'
      → map part_of_page new ≡ run_marked mark (first + start) len (map part_of_page old)
      → map part_of_page (with_items v.pages new).items ≡ run_marked mark' (first_sub k home + start) len' (map part_of_page pages)
  parts_after mark mark' first start len len' e old new here is same first_is mark_is len_is parts =
      ap (map part_of_page) (refilled old new is same) ∙ (parts
      ∙ (λ t. run_marked (mark_is t) ((first_is ∙ ap (first_sub k) here) t + start) (len_is t) (map part_of_page (is t))))

  -- an alloc
  module _ (n : ℕ) where
    alloc_may : (reply : Reply) → alloc_reply sub_size home blocks_home (subs k home) n ≡ reply → (x : Seals) → MayStep k x (stamp_of who (Op (Alloc n)) [] reply 0) (parts_in cells)
    alloc_may reply is x = record { within = caller; on_parts = record { reply_is = sym (ap (λ bs. alloc_reply sub_size home bs (subs k home) n) live_is ∙ is); no_block = refl } }

    -- the run that the search found
    pub run_is : (e subs' len : ℕ) (cell : List Live) (run : Option ℕ) → e ≡ home → cell ≡ slice_index_or live e cell → subs' ≡ subs k e → len ≡ subs_for sub_size n → run ≡ lowest_run cell subs' len
        → lowest_run blocks_home (subs k home) (subs_for sub_size n) ≡ run
    run_is e subs' len cell run here cell_at subs_are len_is found =
        sym (found ∙ (λ t. lowest_run (cell_is e cell here cell_at t) ((subs_are ∙ ap (subs k) here) t) (len_is t)))

    module _ (start : ℕ) (good : is_good_size n ≡ true) (found : lowest_run blocks_home (subs k home) (subs_for sub_size n) ≡ Some start) where
      abbrev block_at_start : ℕ → Live
      block_at_start s = record { start = s; len = subs_for sub_size n; owner = who; is_shared = false }

      -- the free run that was found ends within the enclave
      pub alloc_within : start + subs_for sub_size n ≤ subs k home
      alloc_within = is_free_run-le blocks_home (subs k home) (subs_for sub_size n) start (lowest_run-is_free blocks_home (subs k home) (subs_for sub_size n) start found)

      -- with the new block the live blocks are in order
      pub alloc_in_order : 1 ≤ subs_for sub_size n → AreInOrder 0 (subs k home) (with_block (record { start = start; len = subs_for sub_size n; owner = who; is_shared = false }) blocks_home)
      alloc_in_order some = in_order-with_block (block_at_start start) blocks_home 0 (subs k home) home_in_order (omega arith) some (lowest_run-is_free blocks_home (subs k home) (subs_for sub_size n) start found)

      -- with them and its run made blank the cells are what the alloc makes of them
      pub alloc_makes : (blocks : List Live) (pages' : List Page) → blocks ≡ with_block (record { start = start; len = subs_for sub_size n; owner = who; is_shared = false }) blocks_home
          → map part_of_page pages' ≡ run_marked (Blank (Some (record { start = start; len = subs_for sub_size n; owner = who; is_shared = false }))) (first_sub k home + start) (subs_for sub_size n) (map part_of_page pages)
          → Allots cells who (Alloc n) (Got (record { enclave = home; at = start * sub_size })) (cells_with blocks pages')
      alloc_makes blocks pages' blocks_are parts x =
          let reply : Reply = Got (record { enclave = home; at = start * sub_size }) in
          let back : start ≡ start * sub_size / sub_size = omega arith in
          let turn : sub_size * start ≡ start * sub_size = omega arith in
          let reply_is : alloc_reply sub_size home blocks_home (subs k home) n ≡ reply
          = ap (λ b. if b then alloc_answer sub_size home (lowest_run blocks_home (subs k home) (subs_for sub_size n)) else BadSize) good ∙ (ap (alloc_answer sub_size home) found ∙ ap (λ z. Got (record { enclave = home; at = z })) turn) in
          let made = accepted_makes cells x who 0 (Alloc n) reply whole page_parts all_frame_parts (Blank (Some (block_at_start (start * sub_size / sub_size)))) (alloc_marks k x who 0 reply n) home blocks inside refl
          (ap (λ b. if b then alloc_cell k home ∷ map (page_cell k) (pages_of_run k (first_sub k home + start * sub_size / sub_size) (subs_for sub_size n)) else []) good)
          (blocks_are ∙ ap (λ z. with_block (block_at_start z) blocks_home) back)
          (alloc_may reply reply_is x) in
          subst (Makes x (stamp_of who (Op (Alloc n)) [] reply 0) cells)
          (λ t. cells_like (sym (parts ∙ ap (λ z. run_marked (Blank (Some (block_at_start z))) (first_sub k home + z) (subs_for sub_size n) (map part_of_page pages)) back) t) blocks) made
        where
          cells_like : List Part → List Live → Cells
          cells_like parts bs = record cells { live = slice_set live home bs; pages = parts }

  -- a free or a share
  module _ (at : Addr) where
    free_may : (reply : Reply) → block_reply sub_size home blocks_home who at ≡ reply → (x : Seals) → MayStep k x (stamp_of who (Op (Free at)) [] reply (block_len cells who (Free at))) (parts_in cells)
    free_may reply is x = record { within = caller; on_parts = (record { reply_is = sym (ap (λ bs. block_reply sub_size home bs who at) live_is ∙ is); no_block = refl }, refl) }

    share_may : (reply : Reply) → block_reply sub_size home blocks_home who at ≡ reply → (x : Seals) → MayStep k x (stamp_of who (Op (Share at)) [] reply (block_len cells who (Share at))) (parts_in cells)
    share_may reply is x = record { within = caller; on_parts = (record { reply_is = sym (ap (λ bs. block_reply sub_size home bs who at) live_is ∙ is); no_block = refl }, refl) }

    -- what the search for the block says of it
    pub own_is : (e : ℕ) (cell : List Live) (says : Option Live → Type 0) → e ≡ home → cell ≡ slice_index_or live e cell → says (find (starts_at sub_size e at) cell) → says (find (starts_at sub_size home at) blocks_home)
    own_is e cell says here cell_at holds = subst says (λ t. find (starts_at sub_size (here t) at) (cell_is e cell here cell_at t)) holds

    -- without the block at the address the live blocks are in order
    pub freed_in_order : AreInOrder 0 (subs k home) (filter (λ b. not (starts_at sub_size home at b)) blocks_home)
    freed_in_order = in_order-filter (λ b. not (starts_at sub_size home at b)) blocks_home 0 (subs k home) home_in_order

    -- and so they are with it shared
    pub shared_in_order : AreInOrder 0 (subs k home) (map (shared_at sub_size home at) blocks_home)
    shared_in_order = in_order-shared sub_size home at blocks_home 0 (subs k home) home_in_order

    -- one that is accepted
    module _ (block : Live) (found : find (starts_at sub_size home at) blocks_home ≡ Some block) where
      -- the block ends within the enclave
      pub block_within : block.start + block.len ≤ subs k home
      block_within = found-le (starts_at sub_size home at) blocks_home block 0 (subs k home) home_in_order found

      start_is : block.start ≡ at.at / sub_size
      start_is = sym (found_start home at block (found_passes (starts_at sub_size home at) blocks_home block found))

      len_is : block.len ≡ len_at k home at (live_in (parts_in cells (alloc_cell k home)))
      len_is = sym (ap (len_at k home at) live_is ∙ ap (λ o. unwrap_or (option_map (λ (b : Live). b.len) o) 0) found)

      module _ (mine : None ≡ block_refusal who (find (starts_at sub_size home at) blocks_home)) (blocks : List Live) (pages' : List Page) where
        done_is : block_reply sub_size home blocks_home who at ≡ Done
        done_is = ap (λ o. unwrap_or o Done) (sym mine)

        -- without the block and with its run made blank the cells are what the free makes of them
        pub free_makes : blocks ≡ filter (λ b. not (starts_at sub_size home at b)) blocks_home → map part_of_page pages' ≡ run_marked (Blank None) (first_sub k home + block.start) block.len (map part_of_page pages)
            → Allots cells who (Free at) Done (cells_with blocks pages')
        free_makes blocks_are parts x =
            let made = accepted_makes cells x who (block_len cells who (Free at)) (Free at) Done whole page_parts all_frame_parts (Blank None) (free_marks k x who (block_len cells who (Free at)) Done at) home blocks inside refl refl blocks_are (free_may Done done_is x) in
            let pages_are : map part_of_page pages' ≡ run_marked (Blank None) (first_sub k home + at.at / sub_size) (block_len cells who (Free at)) (map part_of_page pages)
            = parts ∙ (λ t. run_marked (Blank None) (first_sub k home + start_is t) (len_is t) (map part_of_page pages)) in
            subst (Makes x (stamp_of who (Op (Free at)) [] Done (block_len cells who (Free at))) cells) (λ t. record cells { live = slice_set live home blocks; pages = sym pages_are t }) made

        -- with the block shared, there and in its run of sub-pages, they are what the share makes of them
        pub share_makes : blocks ≡ map (shared_at sub_size home at) blocks_home → map part_of_page pages' ≡ run_marked Shared (first_sub k home + block.start) block.len (map part_of_page pages)
            → Allots cells who (Share at) Done (cells_with blocks pages')
        share_makes blocks_are parts x =
            let made = accepted_makes cells x who (block_len cells who (Share at)) (Share at) Done whole page_parts all_frame_parts Shared (share_marks k x who (block_len cells who (Share at)) Done at) home blocks inside refl refl blocks_are (share_may Done done_is x) in
            let pages_are : map part_of_page pages' ≡ run_marked Shared (first_sub k home + at.at / sub_size) (block_len cells who (Share at)) (map part_of_page pages)
            = parts ∙ (λ t. run_marked Shared (first_sub k home + start_is t) (len_is t) (map part_of_page pages)) in
            subst (Makes x (stamp_of who (Op (Share at)) [] Done (block_len cells who (Share at))) cells) (λ t. record cells { live = slice_set live home blocks; pages = sym pages_are t }) made
