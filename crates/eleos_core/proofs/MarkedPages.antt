-- Pages of which some sub-pages are marked.
use Rattle.std.proofs.Common.{◌≡◌, ◌≢◌, ℕ, zero, suc, ◌+◌, ◌*◌, ◌<◌, ◌≤◌, List, [], ◌∷◌, length, map, Bool, Option, Some, None, is_some, IsTrue, if◌then◌else◌, slice_index_or, slice_set, refl, sym, ◌∙◌, ap, subst, arith}
use Rattle.std.specs.List.{AllByRecursion, splice}
use Rattle.std.proofs.lemmas.List.{get_or-map, length-map, length-set, map-set}
use Rattle.eleos_base.specs.declared.memory.Live.{Live}
use Rattle.eleos_base.specs.Lists.{map_from}
use Rattle.eleos_base.specs.Plain.{is_in_run, zeros}
use Rattle.eleos_core.specs.declared.allots.marks.Mark.{Mark}
use Rattle.eleos_core.specs.declared.allots.marks.Mark.TheVariants.{Blank, Shared}
use Rattle.eleos_core.specs.declared.cells.page.Page.{Page}
use Rattle.eleos_core.specs.declared.cells.page.Present.{Present}
use Rattle.eleos_core.specs.declared.cells.sub_page.SubPage.{SubPage}
use Rattle.eleos_core.specs.Allots.{IsCleared, marked, marked_bytes, page_marked, run_marked, with_marked}
use Rattle.eleos_core.specs.Cells.{IsPage, IsPresent, IsSubPage, frame_of_page, part_of_page, part_with, piece, sub_parts, sub_size, subs_per_page}
use Rattle.eleos_core.proofs.Changes.{map_from-keeps}
use Rattle.eleos_core.specs.Parts.{Part, SubPart, alloc_part, blank_sub, clock_part, frame_part, no_part, page_part}
use Rattle.eleos_core.proofs.ByPlace.{all_at, all_map, all_set, get_or-map_from, length-map_from, map_from-same, map_from-set, map_from-set_one}
use Rattle.eleos_core.proofs.SubPages.{in_no_run, in_run_last, in_run_more, length-cleared, past_run, piece_cleared, piece_kept}

-- a page's sub-pages of which one is set
abbrev pub bytes_at : ℕ → Option Present → List ℕ
bytes_at i None = []
bytes_at i (Some present) = piece i present.bytes.items

pub parts_set : (us : List SubPage) (i : ℕ) (u : SubPage) (present : Option Present) → sub_parts (slice_set us i u) present ≡ slice_set (sub_parts us present) i (part_with u (bytes_at i present))
parts_set us i u None = map-set (λ (v : SubPage). part_with v []) us i u
parts_set us i u (Some present) =
    let at : 0 + i ≡ i = omega arith in
    let f : ℕ → SubPage → SubPart = λ j v. part_with v (piece j present.bytes.items) in
    map_from-set f f 0 i us u (λ j v differ. refl) ∙ ap (λ n. slice_set (map_from f 0 us) i (part_with u (piece n present.bytes.items))) at

-- the part of one of them
pub part_at_place : (us : List SubPage) (i : ℕ) (u : SubPage) (present : Option Present) (d : SubPart) → i < length us → u ≡ slice_index_or us i u → slice_index_or (sub_parts us present) i d ≡ part_with u (bytes_at i present)
part_at_place us i u None d inside is = get_or-map (λ (v : SubPage). part_with v []) us i u d inside ∙ ap (λ v. part_with v []) (sym is)
part_at_place us i u (Some present) d inside is =
    let at : 0 + i ≡ i = omega arith in
    get_or-map_from (λ j v. part_with v (piece j present.bytes.items)) 0 us i u d inside ∙ (ap (λ n. part_with (slice_index_or us i u) (piece n present.bytes.items)) at ∙ ap (λ v. part_with v (piece i present.bytes.items)) (sym is))

-- a page is in a frame where it has one
pub some_frame : (present : Option Present) → is_some (frame_of_page present) ≡ is_some present
some_frame None = refl
some_frame (Some present) = refl

-- clearing one sub-page of a page in a frame
pub cleared : (i : ℕ) (old new : Present) → new.frame ≡ old.frame → sub_size * i + sub_size ≤ length old.bytes.items → new.bytes.items ≡ splice old.bytes.items (sub_size * i) (sub_size * i + sub_size) (zeros sub_size) → IsCleared i (Some old) (Some new)
cleared i old new frame inside bytes = record {
  frame = ap (λ f. Some f) frame;
  parts = λ us u. let at : 0 + i ≡ i = omega arith in
      map_from-set (λ j v. part_with v (piece j old.bytes.items)) (λ j v. part_with v (piece j new.bytes.items)) 0 i us u
      (λ j v differ. ap (part_with v) (ap (piece j) bytes ∙ piece_kept old.bytes.items i j inside (λ is. differ (omega arith))))
      ∙ ap (λ bs. slice_set (sub_parts us (Some old)) i (part_with u bs)) (ap (λ n. piece n new.bytes.items) at ∙ (ap (piece i) bytes ∙ piece_cleared old.bytes.items i inside));
  keeps = λ frames holds. (let same : new.frame ≡ old.frame = frame in let below : old.frame < frames = holds.0 in omega arith, ap length bytes ∙ (length-cleared old.bytes.items i inside ∙ holds.1));
}

-- of a page in no frame there are no bytes to clear
pub cleared_absent : (i : ℕ) → IsCleared i None None
cleared_absent i = record { frame = refl; parts = λ us u. map-set (λ (v : SubPage). part_with v []) us i u; keeps = λ frames holds. holds }

-- one sub-page marked by its block and its bytes
module _ (us : List SubPage) (i : ℕ) (u u' : SubPage) (inside : i < length us) (is : u ≡ slice_index_or us i u) where
  module _ (mark : Mark) (part : (present : Bool) (bytes : List ℕ) → part_with u' (marked_bytes mark present bytes) ≡ marked mark present (part_with u bytes)) where
    -- with the sub-page made blank, and its bytes cleared where there is a frame, the page is as marked
    pub page_blank : (block : Option Live) (old new : Option Present) → mark ≡ Blank block → IsCleared i old new
        → page_part (frame_of_page new) (sub_parts (slice_set us i u') new) ≡ with_marked mark i (page_part (frame_of_page old) (sub_parts us old))
    page_blank block old new blank clear =
        let f : Option ℕ = frame_of_page old in
        let parts : List SubPart = sub_parts us old in
        let made : part_with u' (if is_some old then zeros sub_size else []) ≡ marked mark (is_some f) (slice_index_or parts i blank_sub)
        = ap (λ b. part_with u' (if b then zeros sub_size else [])) (sym (some_frame old)) ∙ (ap (λ m. part_with u' (marked_bytes m (is_some f) (bytes_at i old))) (sym blank)
        ∙ (part (is_some f) (bytes_at i old) ∙ ap (marked mark (is_some f)) (sym (part_at_place us i u old blank_sub inside is)))) in
        ap (λ g. page_part g (sub_parts (slice_set us i u') new)) clear.frame ∙ (ap (page_part f) (clear.parts us u') ∙ ap (λ v. page_part f (slice_set parts i v)) made)

    -- so it is with the block shared and the frame as it was
    pub page_shared : (present : Option Present) → mark ≡ Shared
        → page_part (frame_of_page present) (sub_parts (slice_set us i u') present) ≡ with_marked mark i (page_part (frame_of_page present) (sub_parts us present))
    page_shared present shared =
        let f : Option ℕ = frame_of_page present in
        let parts : List SubPart = sub_parts us present in
        ap (page_part f) (parts_set us i u' present)
        ∙ (ap (λ m. page_part f (slice_set parts i (part_with u' (marked_bytes m (is_some f) (bytes_at i present))))) (sym shared)
        ∙ ap (λ v. page_part f (slice_set parts i v)) (part (is_some f) (bytes_at i present) ∙ ap (marked mark (is_some f)) (sym (part_at_place us i u present blank_sub inside is))))

-- a sub-page in a page that is in a frame as before
pub sub_kept : (wear : ℕ) (old new : Option Present) (u : SubPage) → frame_of_page new ≡ frame_of_page old → IsSubPage wear old u → IsSubPage wear new u
sub_kept wear old new u frame holds = record {
  version = holds.version;
  below = holds.below;
  dirty = λ dirty. subst (λ (b : Bool). IsTrue b) (sym (some_frame old) ∙ (ap (λ (g : Option ℕ). is_some g) (sym frame) ∙ some_frame new)) (holds.dirty dirty);
}

-- a page of which one sub-page is set
pub page_kept : (wear frames i : ℕ) (old new : Page) (u u' : SubPage) → i < length old.subs.items → u ≡ slice_index_or old.subs.items i u → new.subs.items ≡ slice_set old.subs.items i u'
    → frame_of_page new.present ≡ frame_of_page old.present → ((frames : ℕ) → IsPresent frames old.present → IsPresent frames new.present)
    → ((wear : ℕ) (present : Option Present) → IsSubPage wear present u → IsSubPage wear present u') → IsPage wear frames old → IsPage wear frames new
page_kept wear frames i old new u u' inside is subs frame keeps sub holds =
    let at : IsSubPage wear old.present u = subst (IsSubPage wear old.present) (sym is) (all_at (IsSubPage wear old.present) old.subs.items i u holds.each inside) in
    let set : AllByRecursion (IsSubPage wear old.present) (slice_set old.subs.items i u') = all_set (IsSubPage wear old.present) old.subs.items i u' holds.each (sub wear old.present at) in
    record {
      whole = ap length subs ∙ (length-set old.subs.items i u' ∙ holds.whole);
      present = keeps frames holds.present;
      each = subst (AllByRecursion (IsSubPage wear new.present)) (sym subs) (all_map (IsSubPage wear old.present) (IsSubPage wear new.present) (slice_set old.subs.items i u') (λ v. sub_kept wear old.present new.present v frame) set);
    }

-- a part of a page in whose sub-pages nothing stands where it is absent
abbrev pub IsPagePart : Part → Type 0
IsPagePart no_part = ⊥
IsPagePart (alloc_part blocks) = ⊥
IsPagePart (clock_part fs) = ⊥
IsPagePart (page_part f us) = (length us ≡ subs_per_page) × (f ≡ None → AllByRecursion (λ (u : SubPart). u.bytes ≡ []) us)
IsPagePart (frame_part owner p) = ⊥

no_bytes : (us : List SubPage) → AllByRecursion (λ (u : SubPart). u.bytes ≡ []) (map (λ (v : SubPage). part_with v []) us)
no_bytes [] = tt
no_bytes (u ∷ us) = (refl, no_bytes us)

-- a page in memory with its 4 sub-pages is such a part
pub page_is_one : (us : List SubPage) (present : Option Present) → length us ≡ subs_per_page → IsPagePart (page_part (frame_of_page present) (sub_parts us present))
page_is_one us None whole = (length-map us (λ (v : SubPage). part_with v []) ∙ whole, λ none. no_bytes us)
page_is_one us (Some present) whole = (length-map_from (λ j v. part_with v (piece j present.bytes.items)) 0 us ∙ whole, λ none. absurd (let wrong : Some present.frame ≡ None = none in cc))

-- and so is each of the pages of a machine
pub parts_are : (wear frames : ℕ) (pages : List Page) (p : ℕ) (d : Part) → AllByRecursion (IsPage wear frames) pages → p < length pages → IsPagePart (slice_index_or (map part_of_page pages) p d)
parts_are wear frames [] p d all inside = absurd (omega arith)
parts_are wear frames (page ∷ pages) zero d all inside = page_is_one page.subs.items page.present all.0.whole
parts_are wear frames (page ∷ pages) (suc p) d all inside = parts_are wear frames pages p d all.1 (omega arith)

module _ (mark : Mark) (start n p i : ℕ) (at : subs_per_page * p + i ≡ start + n) (small : i < subs_per_page) where
  -- in its own page
  pub page_more : (q : Part) → IsPagePart q → with_marked mark i (page_marked mark start n p q) ≡ page_marked mark start (n + 1) p q
  page_more no_part holds = absurd holds
  page_more (alloc_part blocks) holds = absurd holds
  page_more (clock_part fs) holds = absurd holds
  page_more (frame_part owner f) holds = absurd holds
  page_more (page_part f us) holds =
      let was : ℕ → SubPart → SubPart = λ s u. if is_in_run start n s then marked mark (is_some f) u else u in
      let now : ℕ → SubPart → SubPart = λ s u. if is_in_run start (n + 1) s then marked mark (is_some f) u else u in
      let here : p * subs_per_page + i ≡ start + n = omega arith in
      let inside : i < length us = (let whole = holds.0 in omega arith) in
      let old : slice_index_or (map_from was (p * subs_per_page) us) i blank_sub ≡ slice_index_or us i blank_sub
      = get_or-map_from was (p * subs_per_page) us i blank_sub blank_sub inside ∙ ap (λ b. if b then marked mark (is_some f) (slice_index_or us i blank_sub) else slice_index_or us i blank_sub) (past_run start n (p * subs_per_page + i) here) in
      ap (page_part f) (map_from-set_one was now (p * subs_per_page) i us blank_sub (marked mark (is_some f) (slice_index_or (map_from was (p * subs_per_page) us) i blank_sub))
      (λ j h differ. ap (λ b. if b then marked mark (is_some f) (slice_index_or us j blank_sub) else slice_index_or us j blank_sub) (in_run_more start n (p * subs_per_page + j) (λ is. differ (omega arith))))
      (λ h. ap (marked mark (is_some f)) old ∙ ap (λ b. if b then marked mark (is_some f) (slice_index_or us i blank_sub) else slice_index_or us i blank_sub) (sym (in_run_last start n (p * subs_per_page + i) here))))

  -- and in the others
  page_same : (o : ℕ) (q : Part) → o ≢ p → IsPagePart q → page_marked mark start n o q ≡ page_marked mark start (n + 1) o q
  page_same o no_part differ holds = absurd holds
  page_same o (alloc_part blocks) differ holds = absurd holds
  page_same o (clock_part fs) differ holds = absurd holds
  page_same o (frame_part owner f) differ holds = absurd holds
  page_same o (page_part f us) differ holds =
      let was : ℕ → SubPart → SubPart = λ s u. if is_in_run start n s then marked mark (is_some f) u else u in
      let now : ℕ → SubPart → SubPart = λ s u. if is_in_run start (n + 1) s then marked mark (is_some f) u else u in
      ap (page_part f) (map_from-same was now (o * subs_per_page) us blank_sub
      (λ j h. let inside : j < subs_per_page = (let whole = holds.0 in omega arith) in
      ap (λ b. if b then marked mark (is_some f) (slice_index_or us j blank_sub) else slice_index_or us j blank_sub) (in_run_more start n (o * subs_per_page + j) (λ is. differ (omega arith)))))

  -- with the next sub-page of the run set in memory, the run that is marked is one longer
  pub run_more : (wear frames : ℕ) (old now : List Page) (page page' : Page) → AllByRecursion (IsPage wear frames) old → p < length old → map part_of_page now ≡ run_marked mark start n (map part_of_page old)
      → page ≡ slice_index_or now p page → part_of_page page' ≡ with_marked mark i (part_of_page page)
      → map part_of_page (slice_set now p page') ≡ run_marked mark start (n + 1) (map part_of_page old)
  run_more wear frames old now page page' all inside so_far is made =
      let qs : List Part = map part_of_page old in
      let long : length qs ≡ length old = length-map old part_of_page in
      let long_now : length now ≡ length old = sym (length-map now part_of_page) ∙ (ap length so_far ∙ (length-map_from (page_marked mark start n) 0 qs ∙ long)) in
      let zero_plus : 0 + p ≡ p = omega arith in
      let part : part_of_page page ≡ page_marked mark start n p (slice_index_or qs p no_part)
      = ap (λ (z : Page). part_of_page z) is ∙ (sym (get_or-map part_of_page now p page no_part (omega arith)) ∙ (ap (λ zs. slice_index_or zs p no_part) so_far
      ∙ (get_or-map_from (page_marked mark start n) 0 qs p no_part no_part (omega arith) ∙ ap (λ z. page_marked mark start n z (slice_index_or qs p no_part)) zero_plus))) in
      map-set part_of_page now p page' ∙ (ap (λ zs. slice_set zs p (part_of_page page')) so_far
      ∙ map_from-set_one (page_marked mark start n) (page_marked mark start (n + 1)) 0 p qs no_part (part_of_page page')
      (λ j h differ. page_same (0 + j) (slice_index_or qs j no_part) (λ same. differ (omega arith)) (parts_are wear frames old j no_part all (omega arith)))
      (λ h. made ∙ (ap (with_marked mark i) part ∙ (page_more (slice_index_or qs p no_part) (parts_are wear frames old p no_part all inside) ∙ ap (λ z. page_marked mark start (n + 1) z (slice_index_or qs p no_part)) (sym zero_plus)))))

-- none is marked by a run of none
pub page_unmarked : (mark : Mark) (start p : ℕ) (q : Part) → page_marked mark start 0 p q ≡ q
page_unmarked mark start p no_part = refl
page_unmarked mark start p (alloc_part blocks) = refl
page_unmarked mark start p (clock_part fs) = refl
page_unmarked mark start p (frame_part owner f) = refl
page_unmarked mark start p (page_part f us) = ap (page_part f)
    (map_from-keeps (λ s u. if is_in_run start 0 s then marked mark (is_some f) u else u) (p * subs_per_page) us (λ s u from. ap (λ b. if b then marked mark (is_some f) u else u) (in_no_run start s)))

-- with an empty run marked all pages are as they were
pub run_none : (mark : Mark) (start : ℕ) (qs : List Part) → qs ≡ run_marked mark start 0 qs
run_none mark start qs = sym (map_from-keeps (page_marked mark start 0) 0 qs (λ p q from. page_unmarked mark start p q))
