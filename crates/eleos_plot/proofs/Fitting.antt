-- A value that has the part which a legal history made of a cell is fit for that cell.
use Rattle.std.proofs.Common.{◌≡◌, ℕ, zero, suc, ◌+◌, ◌*◌, ◌<◌, ◌≤◌, ◌==◌, ◌&&◌, List, [], ◌∷◌, length, map, Bool, true, false, Option, Some, None, is_some, Contains, nat_eq, if◌then◌else◌, refl, sym, ◌∙◌, subst, ap, arith}
use Rattle.std.specs.List.{AllByRecursion, IsDistinct, range_with_len}
use Rattle.std.proofs.lemmas.Bool.{eqb-true, eq-eqb}
use Rattle.std.proofs.lemmas.Bool.Decides.{Decides-eqb}
use Rattle.std.proofs.lemmas.List.{length-map}
use Rattle.std.proofs.lemmas.List.FromFn.{length-range_with_len}
use Rattle.std.proofs.lemmas.Slice.Eq.{slice_eq-Decides}
use Rattle.eleos_base.specs.declared.memory.Reply.{Reply}
use Rattle.eleos_base.specs.declared.plan.Plan.{Plan}
use Rattle.eleos_base.specs.Lists.{map_from}
use Rattle.eleos_base.specs.Plain.{is_accepted, zeros}
use Rattle.eleos_base.specs.Plans.{IsGood, page_bytes}
use Rattle.eleos_core.specs.declared.cells.frame.Frame.{Frame as Frames}
use Rattle.eleos_core.specs.declared.cells.frame.Use.{Use}
use Rattle.eleos_core.specs.declared.cells.frame.Use.TheVariants.{Free, Lent}
use Rattle.eleos_core.specs.declared.cells.page.Page.{Page as Pages}
use Rattle.eleos_core.specs.declared.cells.page.Present.{Present}
use Rattle.eleos_core.specs.declared.cells.sub_page.SubPage.{SubPage}
use Rattle.eleos_core.specs.declared.event.Event.{Event}
use Rattle.eleos_core.specs.declared.event.Event.TheVariants.{Fill, Evict}
use Rattle.eleos_core.specs.Cells.{IsPage, IsPresent, IsSubPage, IsUse, frame_of_page, holder_of_use, part_of_frame, part_of_page, part_with, piece, sub_parts}
use Rattle.eleos_core.specs.Legal.{CoreRun, IsOwner, IsWithin}
use Rattle.eleos_core.specs.Order.{AreInOrder}
use Rattle.eleos_core.specs.Parts.{Part, SubPart, no_part, alloc_part, clock_part, frame_part, page_part, frame_in, holder_in, list_in, live_in, owner_in, part_of, sub_part, subs_in}
use Rattle.eleos_base.specs.Places.{Owner, all_frames, all_pages, per_page, subs, subs_of}
use Rattle.eleos_core.specs.Seals.{Seals, seals_by}
use Rattle.eleos_core.specs.State.{History, frame, frame_by, frames_of, holder, holder_by, is_dirty, is_present, live, owner, version}
use Rattle.eleos_core.proofs.CellNumbers.{by_cell}
use Rattle.eleos_core.proofs.Numbers.{page_within}
use Rattle.eleos_core.proofs.Ordered.{in_order, none_empty}
use Rattle.eleos_core.proofs.Owners.{frames_distinct, listed_is_owned}
use Rattle.eleos_core.proofs.Pieces.{length-sub_parts}
use Rattle.eleos_core.proofs.Shares.{owner_of_plan}
use Rattle.eleos_core.proofs.Tests.{by_test}
use Rattle.eleos_core.proofs.Versions.{CanSeal, can_seal}
use Rattle.eleos_plot.specs.declared.cell.Cell.{Cell}
use Rattle.eleos_plot.specs.declared.cell.Cell.TheVariants.{Alloc, Clock, Page, Frame}
use Rattle.eleos_plot.specs.Cells.{has_page_bytes, has_zeros, is_hand_within, part_of_cell}
use Rattle.eleos_plot.specs.Fits.{AreFrames, Fits, IsAllocOf, IsClock, IsFrameCell, IsPageCell}
use Rattle.eleos_plot.specs.Laws.{CellsFit, CellsShow}

-- what a test of a page's bytes says, where it decides whether there is a part
whole : (b : Bool) (q : Part) (f : Option ℕ) (us : List SubPart) → (if b then q else no_part) ≡ page_part f us → (b ≡ true) × (q ≡ page_part f us)
whole true q f us is = (refl, is)
whole false q f us is = cc

clean : (b : Bool) (q : Part) (o : Owner) (p : Option ℕ) → (if b then q else no_part) ≡ frame_part o p → (b ≡ true) × (q ≡ frame_part o p)
clean true q o p is = (refl, is)
clean false q o p is = cc

listed : (b : Bool) (q : Part) (fs : List ℕ) → (if b then q else no_part) ≡ clock_part fs → (b ≡ true) × (q ≡ clock_part fs)
listed true q fs is = (refl, is)
listed false q fs is = cc

present_whole : (present : Option Present) (frames : ℕ) → has_page_bytes present ≡ true → ((f : ℕ) → frame_of_page present ≡ Some f → f < frames) → IsPresent frames present
present_whole None frames holds within = tt
present_whole (Some present) frames holds within = (within present.frame refl, eqb-true (length present.bytes.items) page_bytes holds)

use_clean : (used : Use) (pages : ℕ) → has_zeros used ≡ true → ((p : ℕ) → holder_of_use used ≡ Some p → p < pages) → IsUse pages used
use_clean (Free bytes) pages holds within = (slice_eq-Decides Decides-eqb bytes.items (zeros page_bytes) (has_zeros (Free bytes)) refl).0 holds
use_clean (Lent page) pages holds within = within page refl

-- the other way round
bytes_of_present : (present : Option Present) (frames : ℕ) → IsPresent frames present → has_page_bytes present ≡ true
bytes_of_present None frames is = refl
bytes_of_present (Some present) frames is = eq-eqb (length present.bytes.items) page_bytes is.1

zeros_of_use : (used : Use) (pages : ℕ) → IsUse pages used → has_zeros used ≡ true
zeros_of_use (Free bytes) pages is = (slice_eq-Decides Decides-eqb bytes.items (zeros page_bytes) (has_zeros (Free bytes)) refl).1 is
zeros_of_use (Lent page) pages is = refl

-- a page and a frame that are fit for the machine have their parts as cells
pub cells_show : CellsShow
cells_show k = record {
  pages = λ page is. ap (λ v. if v then part_of_page page else no_part) (bytes_of_present page.present (all_frames k) is.present);
  frames = λ frame is. ap (λ v. if v then part_of_frame frame else no_part) (zeros_of_use frame.used (all_pages k) is);
}

module _ (k : Plan) (x : Seals) where
  -- frames hold pages of the machine, and pages lie in frames of the machine
  pub record LieWithin (past : History) : Type 0 where
    pub framed : (p f : ℕ) → frame past p ≡ Some f → f < all_frames k
    pub held : (f p : ℕ) → holder past f ≡ Some p → p < all_pages k

  framed_step : (who : ℕ) (event : Event) (reply : Reply) (p f : ℕ) (was : Option ℕ) → IsWithin k who event → (was ≡ Some f → f < all_frames k) → frame_by event reply p was ≡ Some f → f < all_frames k
  framed_step who (Fill q g) reply p f was within before is = by_test (is_accepted reply && p == q) (λ v. (if v then Some g else was) ≡ Some f → f < all_frames k)
      (λ _ e. let same : g ≡ f = cc in subst (λ z. z < all_frames k) same within.2) (λ _ e. before e) is
  framed_step who (Evict q g) reply p f was within before is = by_test (p == q) (λ v. (if v then None else was) ≡ Some f → f < all_frames k) (λ _ e. cc) (λ _ e. before e) is
  framed_step who _ reply p f was within before is = before is

  held_step : (who : ℕ) (event : Event) (reply : Reply) (f p : ℕ) (was : Option ℕ) → IsWithin k who event → (was ≡ Some p → p < all_pages k) → holder_by event reply f was ≡ Some p → p < all_pages k
  held_step who (Fill q g) reply f p was within before is = by_test (is_accepted reply && f == g) (λ v. (if v then Some q else was) ≡ Some p → p < all_pages k)
      (λ _ e. let same : q ≡ p = cc in subst (λ z. z < all_pages k) same within.1) (λ _ e. before e) is
  held_step who (Evict q g) reply f p was within before is = by_test (f == g) (λ v. (if v then None else was) ≡ Some p → p < all_pages k) (λ _ e. cc) (λ _ e. before e) is
  held_step who _ reply f p was within before is = before is

  lie_within : (past : History) → CoreRun k x past → LieWithin past
  lie_within [] run = record { framed = λ p f is. cc; held = λ f p is. cc }
  lie_within (e ∷ past) run = let before = lie_within past run.1 in record {
    framed = λ p f is. framed_step e.who e.event e.reply p f (frame past p) run.0.within (before.framed p f) is;
    held = λ f p is. held_step e.who e.event e.reply f p (holder past f) run.0.within (before.held f p) is;
  }

  module _ (past : History) (run : CoreRun k x past) where
    -- a sub-page with this part can be sealed where it is dirty
    sub_fits : (present : Option Present) (u : SubPage) (text : List ℕ) (s : ℕ) → is_present k past s ≡ is_some present → part_with u text ≡ sub_part k x past s → IsSubPage k.wear present u
    sub_fits present u text s here is =
        let can : CanSeal k past s = can_seal k x past run s in
        let dirty : u.is_dirty ≡ is_dirty k past s = ap (λ (q : SubPart). q.is_dirty) is in
        let version_is : version k past s ≡ u.version = sym (ap (λ (q : SubPart). q.version) is) in
        record {
          version = subst (λ v. v ≤ k.wear) version_is can.most;
          below = λ holds. subst (λ v. v < k.wear) version_is (can.below (sym dirty ∙ holds));
          dirty = λ holds. sym here ∙ can.present (sym dirty ∙ holds);
        }

    subs_fit : (present : Option Present) (text : ℕ → List ℕ) (i : ℕ) (us : List SubPage) (s n : ℕ) → ((j : ℕ) → s ≤ j → j < s + n → is_present k past j ≡ is_some present)
        → map_from (λ i u. part_with u (text i)) i us ≡ map (sub_part k x past) (range_with_len s n) → AllByRecursion (IsSubPage k.wear present) us
    subs_fit present text i [] s n here is = tt
    subs_fit present text i (u ∷ us) s zero here is = cc
    subs_fit present text i (u ∷ us) s (suc n) here is =
        let first : part_with u (text i) ≡ sub_part k x past s = cc in
        let rest : map_from (λ i u. part_with u (text i)) (i + 1) us ≡ map (sub_part k x past) (range_with_len (s + 1) n) = cc in
        (sub_fits present u (text i) s (here s (omega arith) (omega arith)) first, subs_fit present text (i + 1) us (s + 1) n (λ j low high. here j (omega arith) (omega arith)) rest)

    by_place : (i : ℕ) (us : List SubPage) → map (λ (u : SubPage). part_with u []) us ≡ map_from (λ (j : ℕ) (u : SubPage). part_with u []) i us
    by_place i [] = refl
    by_place i (u ∷ us) = ap (λ rest. part_with u [] ∷ rest) (by_place (i + 1) us)

    all_fit : (present : Option Present) (us : List SubPage) (s n : ℕ) → ((j : ℕ) → s ≤ j → j < s + n → is_present k past j ≡ is_some present)
        → sub_parts us present ≡ map (sub_part k x past) (range_with_len s n) → AllByRecursion (IsSubPage k.wear present) us
    all_fit None us s n here is = subs_fit None (λ i. []) 0 us s n here (sym (by_place 0 us) ∙ is)
    all_fit (Some present) us s n here is = subs_fit (Some present) (λ i. piece i present.bytes.items) 0 us s n here is

    some_alike : (present : Option Present) → is_some (frame_of_page present) ≡ is_some present
    some_alike None = refl
    some_alike (Some present) = refl

    page_fits : (p : ℕ) (page : Pages) → has_page_bytes page.present ≡ true → part_of_page page ≡ page_part (frame past p) (map (sub_part k x past) (subs_of k p)) → IsPage k.wear (all_frames k) page
    page_fits p page bytes is =
        let framed : frame_of_page page.present ≡ frame past p = ap (λ (q : Part). frame_in q) is in
        let parts : sub_parts page.subs.items page.present ≡ map (sub_part k x past) (subs_of k p) = ap (λ (q : Part). subs_in q) is in
        let here : is_some (frame past p) ≡ is_some page.present = sym (ap (λ (o : Option ℕ). is_some o) framed) ∙ some_alike page.present in
        record {
          whole = sym (length-sub_parts page.subs.items page.present) ∙ (ap (λ (us : List SubPart). length us) parts ∙ (length-map (subs_of k p) (sub_part k x past) ∙ length-range_with_len (p * per_page k) (per_page k)));
          present = present_whole page.present (all_frames k) bytes (λ f lies. (lie_within past run).framed p f (sym framed ∙ lies));
          each = all_fit page.present page.subs.items (p * per_page k) (per_page k) (λ j low high. ap (λ q. is_some (frame past q)) (page_within k p j low high) ∙ here) parts;
        }

    frame_fits : (f : ℕ) (frame : Frames) → has_zeros frame.used ≡ true → part_of_frame frame ≡ frame_part (owner k past f) (holder past f) → IsFrameCell k (Frame frame)
    frame_fits f frame bytes is = record {
      used = use_clean frame.used (all_pages k) bytes (λ p held. (lie_within past run).held f p (sym (ap (λ (q : Part). holder_in q) is) ∙ held));
      owner = subst (λ (o : Owner). IsOwner k o) (sym (ap (λ (q : Part). owner_in q) is)) (owner_of_plan k x past run f);
    }

    frames_fit : (o : Owner) (frames : List ℕ) (hand : ℕ) → is_hand_within frames hand ≡ true → frames ≡ frames_of k past o → AreFrames k frames hand
    frames_fit o frames hand holds is = record {
      within = λ f has. (listed_is_owned k x past run o f (subst (λ fs. Contains fs f) is has)).0;
      once = subst (IsDistinct nat_eq) (sym is) (frames_distinct k x past run o);
      hand_within = holds;
    }

    -- each kind of cell
    alloc_fits : IsGood k → (e : ℕ) (value : Cell) → e < length k.enclaves → part_of_cell value ≡ alloc_part (live k past e) → IsAllocOf k e value
    alloc_fits good e (Alloc blocks) inside is = subst (AreInOrder 0 (subs k e)) (sym (ap (λ (q : Part). live_in q) is)) (in_order k x (none_empty k good) past run e inside)
    alloc_fits good e (Clock frames hand) inside is = by_test (is_hand_within frames hand) (λ v. (if v then clock_part frames else no_part) ≡ alloc_part (live k past e) → ⊥) (λ _ h. cc) (λ _ h. cc) is
    alloc_fits good e (Page page) inside is = by_test (has_page_bytes page.present) (λ v. (if v then part_of_page page else no_part) ≡ alloc_part (live k past e) → ⊥) (λ _ h. cc) (λ _ h. cc) is
    alloc_fits good e (Frame frame) inside is = by_test (has_zeros frame.used) (λ v. (if v then part_of_frame frame else no_part) ≡ alloc_part (live k past e) → ⊥) (λ _ h. cc) (λ _ h. cc) is

    clock_fits : (o : Owner) (value : Cell) → part_of_cell value ≡ clock_part (frames_of k past o) → IsClock k value
    clock_fits o (Clock frames hand) is = let both = listed (is_hand_within frames hand) (clock_part frames) (frames_of k past o) is in frames_fit o frames hand both.0 (ap list_in both.1)
    clock_fits o (Alloc blocks) is = cc
    clock_fits o (Page page) is = by_test (has_page_bytes page.present) (λ v. (if v then part_of_page page else no_part) ≡ clock_part (frames_of k past o) → ⊥) (λ _ h. cc) (λ _ h. cc) is
    clock_fits o (Frame frame) is = by_test (has_zeros frame.used) (λ v. (if v then part_of_frame frame else no_part) ≡ clock_part (frames_of k past o) → ⊥) (λ _ h. cc) (λ _ h. cc) is

    page_cell_fits : (p : ℕ) (value : Cell) → part_of_cell value ≡ page_part (frame past p) (map (sub_part k x past) (subs_of k p)) → IsPageCell k value
    page_cell_fits p (Page page) is = let both = whole (has_page_bytes page.present) (part_of_page page) (frame past p) (map (sub_part k x past) (subs_of k p)) is in page_fits p page both.0 both.1
    page_cell_fits p (Alloc blocks) is = cc
    page_cell_fits p (Clock frames hand) is = by_test (is_hand_within frames hand) (λ v. (if v then clock_part frames else no_part) ≡ page_part (frame past p) (map (sub_part k x past) (subs_of k p)) → ⊥) (λ _ h. cc) (λ _ h. cc) is
    page_cell_fits p (Frame other) is = by_test (has_zeros other.used) (λ v. (if v then part_of_frame other else no_part) ≡ page_part (frame past p) (map (sub_part k x past) (subs_of k p)) → ⊥) (λ _ h. cc) (λ _ h. cc) is

    frame_cell_fits : (f : ℕ) (value : Cell) → part_of_cell value ≡ frame_part (owner k past f) (holder past f) → IsFrameCell k value
    frame_cell_fits f (Frame frame) is = let both = clean (has_zeros frame.used) (part_of_frame frame) (owner k past f) (holder past f) is in frame_fits f frame both.0 both.1
    frame_cell_fits f (Alloc blocks) is = cc
    frame_cell_fits f (Clock frames hand) is = by_test (is_hand_within frames hand) (λ v. (if v then clock_part frames else no_part) ≡ frame_part (owner k past f) (holder past f) → ⊥) (λ _ h. cc) (λ _ h. cc) is
    frame_cell_fits f (Page page) is = by_test (has_page_bytes page.present) (λ v. (if v then part_of_page page else no_part) ≡ frame_part (owner k past f) (holder past f) → ⊥) (λ _ h. cc) (λ _ h. cc) is

-- a value that has the part which a legal history made of a cell is fit for that cell
pub cells_fit : CellsFit
cells_fit k key past c value run is =
    let x : Seals = seals_by key in
    by_cell k (λ number cell. part_of_cell value ≡ part_of k x past cell → Fits k cell value)
    (λ e inside h. alloc_fits k x past run.legal run.good e value inside h)
    (λ e inside h. clock_fits k x past run.legal (Some e) value h)
    (λ h. clock_fits k x past run.legal None value h)
    (λ p inside h. page_cell_fits k x past run.legal p value h)
    (λ f inside h. frame_cell_fits k x past run.legal f value h)
    (λ number h. tt) c is
