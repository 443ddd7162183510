-- What allocs, frees and shares make of the machine's cells.
use Rattle.std.proofs.Common.{◌≡◌, ◌≢◌, ℕ, ◌+◌, ◌*◌, ◌/◌, ◌<◌, ◌≤◌, List, [], ◌∷◌, length, map, Bool, true, false, not, ◌==◌, ◌&&◌, ◌||◌, Option, Some, None, is_some, option_map, if◌then◌else◌, slice_index_or, slice_set, refl, sym, ◌∙◌, ap, subst, arith, get_or-set_same, get_or-set_other, inl, inr}
use Rattle.std.proofs.lemmas.Bool.{eq-eqb, eqb-true, eqb-false, ne_eqb}
use Rattle.eleos_base.specs.declared.memory.Addr.{Addr}
use Rattle.eleos_base.specs.declared.memory.Live.{Live}
use Rattle.eleos_base.specs.declared.memory.Op.{Op as Calls}
use Rattle.eleos_base.specs.declared.memory.Op.TheVariants.{Alloc, Free, Share}
use Rattle.eleos_base.specs.declared.memory.Reply.{Reply}
use Rattle.eleos_base.specs.declared.plan.Plan.{Plan}
use Rattle.eleos_base.specs.Lists.{map_from}
use Rattle.eleos_base.specs.Plain.{blocks_after, got, is_in_run, subs_for, zeros}
use Rattle.eleos_base.specs.Plans.{enclave_of}
use Rattle.eleos_base.specs.Ties.{Has}
use Rattle.eleos_core.specs.declared.allots.marks.Mark.{Mark}
use Rattle.eleos_core.specs.declared.allots.marks.Mark.TheVariants.{Blank, Shared}
use Rattle.eleos_core.specs.declared.event.Event.TheVariants.{Op}
use Rattle.eleos_core.specs.Allots.{marked, page_marked, run_marked}
use Rattle.eleos_core.specs.Applying.{Makes, parts_in, stamp_of}
use Rattle.eleos_core.specs.Cells.{Cells, part_in, sub_size, subs_per_page}
use Rattle.eleos_core.specs.Parts.{MayStep, Part, Stamp, SubPart, after_at, alloc_cell, alloc_part, blank_sub, clock_part, foot, frame_in, frame_part, len_of, no_part, page_after, page_cell, page_part, pages_of_run, part_after, places_in, start_of, sub_after, subs_in, the_frame}
use Rattle.eleos_base.specs.Places.{all_frames, all_pages}
use Rattle.eleos_core.specs.Seals.{Seals}
use Rattle.eleos_core.specs.State.{live_by}
use Rattle.eleos_core.proofs.FreeRuns.{by_test}
use Rattle.eleos_core.proofs.ByPlace.{all_at, get_or-map_from, map_from-same}
use Rattle.eleos_core.proofs.MarkedPages.{IsPagePart}
use Rattle.eleos_core.proofs.Sets.{AreWhole, by_number}
use Rattle.eleos_core.proofs.SubPages.{run_has}

-- a sub-page that becomes blank where it is in the run: r that it is, w that it is written
blank_cases : (r w : Bool) (block : Option Live) (f : Option ℕ) (u : SubPart) (tag bytes : List ℕ) → w ≡ false → (f ≡ None → u.bytes ≡ []) → (let after : SubPart = record {
  block = if r then block else u.block;
  version = if w && not (is_some f) then u.version + 1 else u.version;
  is_sealed = if r then false else if w && not (is_some f) then true else u.is_sealed;
  tag = if r then [] else if w && not (is_some f) then tag else u.tag;
  is_dirty = if r || false then false else if w then is_some f else u.is_dirty;
  bytes = if is_some f then (if r then zeros sub_size else if w && is_some f then bytes else u.bytes) else [];
} in after ≡ (if r then marked (Blank block) (is_some f) u else u))
blank_cases r true block f u tag bytes unwritten absent = absurd (let wrong : true ≡ false = unwritten in cc)
blank_cases true false block (Some g) u tag bytes unwritten absent = refl
blank_cases true false block None u tag bytes unwritten absent = refl
blank_cases false false block (Some g) u tag bytes unwritten absent = refl
blank_cases false false block None u tag bytes unwritten absent = λ t. record { block = u.block; version = u.version; is_sealed = u.is_sealed; tag = u.tag; is_dirty = u.is_dirty; bytes = sym (absent refl) t }

-- and one whose block is shared
shared_cases : (r w : Bool) (f : Option ℕ) (u : SubPart) (tag bytes : List ℕ) → w ≡ false → (f ≡ None → u.bytes ≡ []) → (let after : SubPart = record {
  block = if r then option_map (λ (block : Live). record block { is_shared = true }) u.block else u.block;
  version = if w && not (is_some f) then u.version + 1 else u.version;
  is_sealed = if w && not (is_some f) then true else u.is_sealed;
  tag = if w && not (is_some f) then tag else u.tag;
  is_dirty = if w then is_some f else u.is_dirty;
  bytes = if is_some f then (if w && is_some f then bytes else u.bytes) else [];
} in after ≡ (if r then marked Shared (is_some f) u else u))
shared_cases r true f u tag bytes unwritten absent = absurd (let wrong : true ≡ false = unwritten in cc)
shared_cases true false (Some g) u tag bytes unwritten absent = refl
shared_cases true false None u tag bytes unwritten absent = λ t. record { block = option_map (λ (block : Live). record block { is_shared = true }) u.block; version = u.version; is_sealed = u.is_sealed; tag = u.tag; is_dirty = u.is_dirty; bytes = sym (absent refl) t }
shared_cases false false (Some g) u tag bytes unwritten absent = refl
shared_cases false false None u tag bytes unwritten absent = λ t. record { block = u.block; version = u.version; is_sealed = u.is_sealed; tag = u.tag; is_dirty = u.is_dirty; bytes = sym (absent refl) t }

never : (b : Bool) → b && false ≡ false
never true = refl
never false = refl

-- what the entry makes of a sub-page is what its mark does, where it is in the run
abbrev pub Marks : Plan → Seals → Mark → Stamp → Calls → ℕ → ℕ → Type 0
Marks k x mark d op start n = (f : Option ℕ) (us : List SubPart) (s : ℕ) (u : SubPart) → (f ≡ None → u.bytes ≡ [])
    → sub_after k x d (places_in k (Op op) f us) f s u ≡ (if is_in_run start n s then marked mark (is_some f) u else u)

module _ (k : Plan) (x : Seals) (who len : ℕ) (reply : Reply) where
  -- an alloc makes the sub-pages of its run blank, in the new block
  pub alloc_marks : (n : ℕ) → Marks k x (Blank (Some (record { start = got reply / sub_size; len = subs_for sub_size n; owner = who; is_shared = false }))) (stamp_of who (Op (Alloc n)) [] reply len) (Alloc n)
      (start_of k who (Alloc n) reply) (len_of k who (Alloc n) reply len)
  alloc_marks n f us s u none = blank_cases (is_in_run (start_of k who (Alloc n) reply) (len_of k who (Alloc n) reply len) s) _ (Some (record { start = got reply / sub_size; len = subs_for sub_size n; owner = who; is_shared = false })) f u _ _ (never _) none

  -- a free makes them blank, in no block
  pub free_marks : (at : Addr) → Marks k x (Blank None) (stamp_of who (Op (Free at)) [] reply len) (Free at) (start_of k who (Free at) reply) (len_of k who (Free at) reply len)
  free_marks at f us s u none = blank_cases (is_in_run (start_of k who (Free at) reply) (len_of k who (Free at) reply len) s) _ None f u _ _ (never _) none

  -- a share leaves their contents, and their block is shared
  pub share_marks : (at : Addr) → Marks k x Shared (stamp_of who (Op (Share at)) [] reply len) (Share at) (start_of k who (Share at) reply) (len_of k who (Share at) reply len)
  share_marks at f us s u none = shared_cases (is_in_run (start_of k who (Share at) reply) (len_of k who (Share at) reply len) s) _ f u _ _ (never _) none

-- a page that has no sub-page of the run is not marked
page_untouched : (mark : Mark) (start n p : ℕ) (q : Part) → IsPagePart q → ((s : ℕ) → p * subs_per_page ≤ s → s < p * subs_per_page + subs_per_page → is_in_run start n s ≡ false) → page_marked mark start n p q ≡ q
page_untouched mark start n p no_part holds out = absurd holds
page_untouched mark start n p (alloc_part blocks) holds out = absurd holds
page_untouched mark start n p (clock_part fs) holds out = absurd holds
page_untouched mark start n p (frame_part owner f) holds out = absurd holds
page_untouched mark start n p (page_part f us) holds out = ap (page_part f) (kept (p * subs_per_page) us (let whole = holds.0 in omega arith)) where
  kept : (a : ℕ) (vs : List SubPart) → (p * subs_per_page ≤ a) × (a + length vs ≤ p * subs_per_page + subs_per_page) → map_from (λ s u. if is_in_run start n s then marked mark (is_some f) u else u) a vs ≡ vs
  kept a [] inside = refl
  kept a (v ∷ vs) inside = λ t. (ap (λ b. if b then marked mark (is_some f) v else v) (out a inside.0 (let long = inside.1 in omega arith))) t ∷ kept (a + 1) vs (let low = inside.0 in omega arith, let long = inside.1 in omega arith) t

-- the live blocks of an enclave after a call
pub live_home : (k : Plan) (e who : ℕ) (op : Calls) (reply : Reply) (blocks : List Live) → e ≡ enclave_of k who → live_by k e who (Op op) reply blocks ≡ blocks_after sub_size e who op reply blocks
live_home k e who op reply blocks same = ap (λ b. if b then blocks_after sub_size e who op reply blocks else blocks) (eq-eqb e (enclave_of k who) same)

live_elsewhere : (k : Plan) (e who : ℕ) (op : Calls) (reply : Reply) (blocks : List Live) → e ≢ enclave_of k who → live_by k e who (Op op) reply blocks ≡ blocks
live_elsewhere k e who op reply blocks other = ap (λ b. if b then blocks_after sub_size e who op reply blocks else blocks) (ne_eqb e (enclave_of k who) other)

-- a frame's part has an owner and a page, if any
abbrev pub IsFramePart : Part → Type 0
IsFramePart no_part = ⊥
IsFramePart (alloc_part blocks) = ⊥
IsFramePart (clock_part fs) = ⊥
IsFramePart (page_part f us) = ⊥
IsFramePart (frame_part owner p) = Unit {0}

module _ (m : Cells) (x : Seals) (who len : ℕ) (op : Calls) (reply : Reply) (whole : AreWhole m)
    (pages_are : (p : ℕ) → p < all_pages m.plan → IsPagePart (slice_index_or m.pages p no_part))
    (frames_are : (f : ℕ) → f < all_frames m.plan → IsFramePart (slice_index_or m.frames f no_part)) where
  abbrev pub the_stamp : Stamp
  the_stamp = stamp_of who (Op op) [] reply len

  -- an enclave's live blocks after the call
  abbrev pub live_after : ℕ → List Live
  live_after e = live_by m.plan e who (Op op) reply (slice_index_or m.live e [])

  -- a page's part after it
  abbrev pub page_made : ℕ → Part
  page_made p = let q = slice_index_or m.pages p no_part in page_after m.plan x the_stamp p (frame_in q) (subs_in q)

  frame_same : (q : Part) → IsFramePart q → (f : ℕ) → q ≡ part_after m.plan x the_stamp (the_frame f) q
  frame_same no_part holds f = absurd holds
  frame_same (alloc_part blocks) holds f = absurd holds
  frame_same (clock_part fs) holds f = absurd holds
  frame_same (page_part g us) holds f = absurd holds
  frame_same (frame_part owner p) holds f = refl

  -- each cell is what the call makes of it where the live blocks and the pages are
  pub cells_after : (live : List (List Live)) (pages : List Part) → ((e : ℕ) → e < length m.plan.enclaves → slice_index_or live e [] ≡ live_after e)
      → ((p : ℕ) → p < all_pages m.plan → slice_index_or pages p no_part ≡ page_made p)
      → (c : ℕ) → parts_in (record m { live = live; pages = pages }) c ≡ after_at m.plan x the_stamp (parts_in m) c
  cells_after live pages lives made c = by_number m.plan (λ cell. part_in (record m { live = live; pages = pages }) cell ≡ part_after m.plan x the_stamp cell (part_in m cell)) c
      (λ h. ap alloc_part (lives c h))
      (λ e h is. refl)
      (λ is. refl)
      (λ p h is. made p h)
      (λ f h is. frame_same (slice_index_or m.frames f no_part) (frames_are f h) f)
      (λ h. refl)

  module _ (mark : Mark) (marks : Marks m.plan x mark the_stamp op (start_of m.plan who op reply) (len_of m.plan who op reply len)) where
    abbrev pub mark_pages : List Part
    mark_pages = run_marked mark (start_of m.plan who op reply) (len_of m.plan who op reply len) m.pages

    page_of_mark : (p : ℕ) (q : Part) → IsPagePart q → page_marked mark (start_of m.plan who op reply) (len_of m.plan who op reply len) p q ≡ page_after m.plan x the_stamp p (frame_in q) (subs_in q)
    page_of_mark p no_part holds = absurd holds
    page_of_mark p (alloc_part blocks) holds = absurd holds
    page_of_mark p (clock_part fs) holds = absurd holds
    page_of_mark p (frame_part owner g) holds = absurd holds
    page_of_mark p (page_part f us) holds = ap (page_part f)
        (map_from-same (λ s u. if is_in_run (start_of m.plan who op reply) (len_of m.plan who op reply len) s then marked mark (is_some f) u else u)
        (sub_after m.plan x the_stamp (places_in m.plan (Op op) f us) f) (p * subs_per_page) us blank_sub
        (λ j h. sym (marks f us (p * subs_per_page + j) (slice_index_or us j blank_sub) (λ absent. all_at (λ (u : SubPart). u.bytes ≡ []) us j blank_sub (holds.1 absent) h))))

    mark_at : (p : ℕ) → p < all_pages m.plan → slice_index_or mark_pages p no_part ≡ page_marked mark (start_of m.plan who op reply) (len_of m.plan who op reply len) p (slice_index_or m.pages p no_part)
    mark_at p inside =
        let zero_plus : 0 + p ≡ p = omega arith in
        let short : p < length m.pages = (let all = whole.pages in omega arith) in
        get_or-map_from (page_marked mark (start_of m.plan who op reply) (len_of m.plan who op reply len)) 0 m.pages p no_part no_part short
        ∙ ap (λ z. page_marked mark (start_of m.plan who op reply) (len_of m.plan who op reply len) z (slice_index_or m.pages p no_part)) zero_plus

    pub marks_made : (p : ℕ) → p < all_pages m.plan → slice_index_or mark_pages p no_part ≡ page_made p
    marks_made p inside = mark_at p inside ∙ page_of_mark p (slice_index_or m.pages p no_part) (pages_are p inside)

    -- a call that is accepted
    module _ (e : ℕ) (blocks : List Live) (home : e < length m.plan.enclaves) (is_home : e ≡ enclave_of m.plan who)
        (foot_is : foot m.plan the_stamp ≡ alloc_cell m.plan e ∷ map (page_cell m.plan) (pages_of_run m.plan (start_of m.plan who op reply) (len_of m.plan who op reply len)))
        (blocks_are : blocks ≡ blocks_after sub_size e who op reply (slice_index_or m.live e [])) where
      abbrev pub new_cells : Cells
      new_cells = record m { live = slice_set m.live e blocks; pages = mark_pages }

      lives : (o : ℕ) → o < length m.plan.enclaves → slice_index_or (slice_set m.live e blocks) o [] ≡ live_after o
      lives o inside = by_test (o == e)
          (λ yes_is. let same : o ≡ e = eqb-true o e yes_is in
          let short : e < length m.live = (let all = whole.live in omega arith) in
          ap (λ z. slice_index_or (slice_set m.live e blocks) z []) same ∙ (get_or-set_same m.live e blocks [] short ∙ (blocks_are
          ∙ (sym (live_home m.plan e who op reply (slice_index_or m.live e []) is_home) ∙ ap (λ z. live_by m.plan z who (Op op) reply (slice_index_or m.live z [])) (sym same)))))
          (λ no_is. let other : o ≢ e = eqb-false o e no_is in
          get_or-set_other m.live e o blocks [] other ∙ sym (live_elsewhere m.plan o who op reply (slice_index_or m.live o []) (λ same. other (same ∙ sym is_home))))

      kept : (c : ℕ) → (Has c (foot m.plan the_stamp) → ⊥) → parts_in new_cells c ≡ parts_in m c
      kept c out = by_number m.plan (λ cell. part_in new_cells cell ≡ part_in m cell) c
          (λ h. ap alloc_part (get_or-set_other m.live e c blocks [] (λ same. out (subst (Has c) (sym foot_is) (inl same)))))
          (λ o h is. refl)
          (λ is. refl)
          (λ p h is. mark_at p h ∙ page_untouched mark (start_of m.plan who op reply) (len_of m.plan who op reply len) p (slice_index_or m.pages p no_part) (pages_are p h)
          (λ s low high. by_test (is_in_run (start_of m.plan who op reply) (len_of m.plan who op reply len) s)
          (λ yes_is. absurd (out (subst (Has c) (sym foot_is) (inr (subst (λ z. Has z (map (page_cell m.plan) (pages_of_run m.plan (start_of m.plan who op reply) (len_of m.plan who op reply len)))) (sym is)
          (run_has m.plan (start_of m.plan who op reply) (len_of m.plan who op reply len) s p yes_is low high))))))
          (λ no_is. no_is)))
          (λ f h is. refl)
          (λ h. refl)

      -- with the new live blocks and the marked pages the cells are what the call makes of them
      pub accepted_makes : MayStep m.plan x the_stamp (parts_in m) → Makes x the_stamp m new_cells
      accepted_makes may = record {
        plan = refl;
        may = may;
        touched = λ c has. cells_after (slice_set m.live e blocks) mark_pages lives marks_made c;
        others = kept;
        links = λ by p caller inside. refl;
      }
