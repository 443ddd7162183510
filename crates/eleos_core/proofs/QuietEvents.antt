-- Quiet events leave the cells as they are.
use Rattle.std.proofs.Common.{◌≡◌, ℕ, ◌+◌, ◌*◌, ◌<◌, List, [], ◌∷◌, length, map, Option, Some, None, IfSome, slice_index_or, refl, sym, ◌∙◌, ap, subst, arith}
use Rattle.std.specs.List.{AllByRecursion}
use Rattle.std.proofs.lemmas.List.{get_or-map, get_or_read}
use Rattle.std.proofs.lemmas.Option.{IfSome_then}
use Rattle.eleos_base.specs.declared.memory.Live.{Live}
use Rattle.eleos_base.specs.declared.memory.Looked.{Looked}
use Rattle.eleos_base.specs.declared.memory.Reply.{Reply}
use Rattle.eleos_base.specs.declared.plan.Plan.{Plan}
use Rattle.eleos_base.specs.Lists.{map_from}
use Rattle.eleos_core.specs.declared.cells.frame.Frame.{Frame}
use Rattle.eleos_core.specs.declared.cells.page.Page.{Page}
use Rattle.eleos_core.specs.declared.cells.page.Present.{Present}
use Rattle.eleos_core.specs.declared.cells.sub_page.SubPage.{SubPage}
use Rattle.eleos_core.specs.declared.event.Event.{Event}
use Rattle.eleos_core.specs.declared.event.Event.TheVariants.{Starved, Spoiled, Survey}
use Rattle.eleos_core.specs.declared.event.Goal.{Goal}
use Rattle.eleos_core.specs.Applying.{Makes, parts_in, stamp_of}
use Rattle.eleos_core.specs.Cells.{Cells, IsCore, cells_of, frame_of_page, part_in, part_of_frame, part_of_page, part_with, sub_parts}
use Rattle.eleos_core.specs.Legal.{IsActor, IsOwner}
use Rattle.eleos_core.specs.Parts.{Cell, MayStep, Part, Stamp, SubPart, alloc_part, cell_of, clock_part, frame_part, list_in, no_cell, no_part, page_after, page_part, part_after, places_in, sub_after, the_alloc, the_clock, the_frame, the_page}
use Rattle.eleos_base.specs.Places.{Owner, per_page}
use Rattle.eleos_core.specs.Quiet.{IsQuiet, IsSurveyed, frames_of_owner, survey_stamp}
use Rattle.eleos_core.specs.Seals.{Seals}
use Rattle.eleos_core.specs.State.{frames_by, holder_by, links_by, live_by, owner_by}
use Rattle.eleos_core.specs.Surveys.{IsTheReply}
use Rattle.eleos_core.specs.Sweeps.{SurveyReply}
use Rattle.eleos_core.proofs.Sets.{by_number, clock_at, clock_place}

-- a page that is in no frame has no bytes
abbrev pub IsBare : Option ℕ → List SubPart → Type 0
IsBare None us = AllByRecursion (λ (u : SubPart). u.bytes ≡ []) us
IsBare (Some f) us = Unit {0}

-- the part is one that the cell may have
abbrev pub Fits : Cell → Part → Type 0
Fits no_cell no_part = Unit {0}
Fits (the_alloc e) (alloc_part blocks) = Unit {0}
Fits (the_clock owner) (clock_part fs) = Unit {0}
Fits (the_page p) (page_part f us) = IsBare f us
Fits (the_frame f) (frame_part owner p) = Unit {0}
Fits _ _ = ⊥

-- the sub-pages of a page stay as they are where each does
same_bare : (f : ℕ → SubPart → SubPart) → ((s : ℕ) (u : SubPart) → u.bytes ≡ [] → f s u ≡ u) → (us : List SubPart) (s : ℕ) → AllByRecursion (λ (u : SubPart). u.bytes ≡ []) us → us ≡ map_from f s us
same_bare f one [] s bare = refl
same_bare f one (u ∷ us) s bare = λ i. sym (one s u bare.0) i ∷ same_bare f one us (s + 1) bare.1 i

same_all : (f : ℕ → SubPart → SubPart) → ((s : ℕ) (u : SubPart) → f s u ≡ u) → (us : List SubPart) (s : ℕ) → us ≡ map_from f s us
same_all f one [] s = refl
same_all f one (u ∷ us) s = λ i. sym (one s u) i ∷ same_all f one us (s + 1) i

module _ (k : Plan) (x : Seals) (who : ℕ) (blocks : List (List ℕ)) (reply : Reply) (len : ℕ) where
  abbrev d : Event → Stamp
  d event = stamp_of who event blocks reply len

  -- a sub-page stays as it is
  bare_stays : (event : Event) → IsQuiet event → (ps : List ℕ) (s : ℕ) (u : SubPart) → u.bytes ≡ [] → sub_after k x (d event) ps None s u ≡ u
  bare_stays (Starved wanted sweep) quiet ps s u bare = λ i. record u { bytes = sym bare i }
  bare_stays (Spoiled wanted) quiet ps s u bare = λ i. record u { bytes = sym bare i }
  bare_stays (Survey e goal sweep) quiet ps s u bare = λ i. record u { bytes = sym bare i }
  bare_stays _ quiet ps s u bare = absurd quiet

  stays : (event : Event) → IsQuiet event → (ps : List ℕ) (f s : ℕ) (u : SubPart) → sub_after k x (d event) ps (Some f) s u ≡ u
  stays (Starved wanted sweep) quiet ps f s u = refl
  stays (Spoiled wanted) quiet ps f s u = refl
  stays (Survey e goal sweep) quiet ps f s u = refl
  stays _ quiet ps f s u = absurd quiet

  -- the sub-pages of a page
  subs_stay : (event : Event) → IsQuiet event → (ps : List ℕ) (f : Option ℕ) (us : List SubPart) (s : ℕ) → IsBare f us → us ≡ map_from (sub_after k x (d event) ps f) s us
  subs_stay event quiet ps None us s bare = same_bare (sub_after k x (d event) ps None) (bare_stays event quiet ps) us s bare
  subs_stay event quiet ps (Some f) us s bare = same_all (sub_after k x (d event) ps (Some f)) (stays event quiet ps f) us s

  -- a cell stays as it is where each field of its part does
  by_cell : (event : Event) → ((e : ℕ) (live : List Live) → live ≡ live_by k e who event reply live) → ((owner : Owner) (fs : List ℕ) → fs ≡ frames_by owner event fs)
      → ((f : ℕ) (owner : Owner) → owner ≡ owner_by event f owner) → ((f : ℕ) (p : Option ℕ) → p ≡ holder_by event reply f p)
      → ((p : ℕ) (f : Option ℕ) (us : List SubPart) → IsBare f us → page_part f us ≡ page_after k x (d event) p f us)
      → (cell : Cell) (q : Part) → Fits cell q → q ≡ part_after k x (d event) cell q
  by_cell event live frames owner holder page no_cell no_part fits = refl
  by_cell event live frames owner holder page (the_alloc e) (alloc_part blocks) fits = ap alloc_part (live e blocks)
  by_cell event live frames owner holder page (the_clock o) (clock_part fs) fits = ap clock_part (frames o fs)
  by_cell event live frames owner holder page (the_page p) (page_part f us) fits = page p f us fits
  by_cell event live frames owner holder page (the_frame f) (frame_part o p) fits = λ i. frame_part (owner f o i) (holder f p i)
  by_cell event live frames owner holder page _ _ fits = absurd fits

  -- so does each at a quiet event
  part_stays : (event : Event) → IsQuiet event → (cell : Cell) (q : Part) → Fits cell q → q ≡ part_after k x (d event) cell q
  part_stays (Starved wanted sweep) quiet = by_cell (Starved wanted sweep) (λ e live. refl) (λ owner fs. refl) (λ f owner. refl) (λ f p. refl)
      (λ p f us bare. ap (page_part f) (subs_stay (Starved wanted sweep) quiet (places_in k (Starved wanted sweep) f us) f us (p * per_page k) bare))
  part_stays (Spoiled wanted) quiet = by_cell (Spoiled wanted) (λ e live. refl) (λ owner fs. refl) (λ f owner. refl) (λ f p. refl)
      (λ p f us bare. ap (page_part f) (subs_stay (Spoiled wanted) quiet (places_in k (Spoiled wanted) f us) f us (p * per_page k) bare))
  part_stays (Survey home goal sweep) quiet = by_cell (Survey home goal sweep) (λ e live. refl) (λ owner fs. refl) (λ f owner. refl) (λ f p. refl)
      (λ p f us bare. ap (page_part f) (subs_stay (Survey home goal sweep) quiet (places_in k (Survey home goal sweep) f us) f us (p * per_page k) bare))
  part_stays _ quiet = absurd quiet

  links_stay : (event : Event) → IsQuiet event → (by p was : ℕ) → was ≡ links_by k who event reply by p was
  links_stay (Starved wanted sweep) quiet by p was = refl
  links_stay (Spoiled wanted) quiet by p was = refl
  links_stay (Survey e goal sweep) quiet by p was = refl
  links_stay _ quiet by p was = absurd quiet

-- a page's part is one that its cell may have
bare_page : (us : List SubPage) → AllByRecursion (λ (u : SubPart). u.bytes ≡ []) (map (λ (u : SubPage). part_with u []) us)
bare_page [] = tt
bare_page (u ∷ us) = (refl, bare_page us)

page_fits : (p : ℕ) (us : List SubPage) (present : Option Present) → Fits (the_page p) (page_part (frame_of_page present) (sub_parts us present))
page_fits p us None = bare_page us
page_fits p us (Some present) = tt

-- an item of a list that has some
pub some_item : {A : Type 0} (xs : List A) (i : ℕ) → i < length xs → A
some_item [] i inside = absurd (omega arith)
some_item (x ∷ xs) i inside = x

-- in a core each cell has such a part, so a quiet event may leave it as it is
module _ (k : Plan) (live : List (List Live)) (clocks : List (List ℕ)) (pages : List Page) (frames : List Frame) (links : List ℕ) (core : IsCore k live clocks pages frames links) where
  abbrev cells : Cells
  cells = cells_of k live clocks pages frames links

  cell_fits : (c : ℕ) → Fits (cell_of k c) (parts_in cells c)
  cell_fits c = by_number k (λ cell. Fits cell (part_in cells cell)) c
      (λ h. tt)
      (λ e h is. tt)
      (λ is. tt)
      (λ p h is. let small : p < length pages = (let all = core.pages_are in omega arith) in
      subst (Fits (the_page p)) (sym (get_or-map part_of_page pages p (some_item pages p small) no_part small))
      (let page : Page = slice_index_or pages p (some_item pages p small) in page_fits p page.subs.items page.present))
      (λ f h is. let small : f < length frames = (let all = core.frames_are in omega arith) in
      subst (Fits (the_frame f)) (sym (get_or-map part_of_frame frames f (some_item frames f small) no_part small)) tt)
      (λ h. tt)

  -- a quiet event that may be made leaves the cells of a core as they are
  pub quiet_makes : (x : Seals) (who : ℕ) (event : Event) (blocks : List (List ℕ)) (reply : Reply) (len : ℕ) → IsQuiet event
      → MayStep k x (stamp_of who event blocks reply len) (parts_in cells) → Makes x (stamp_of who event blocks reply len) cells cells
  quiet_makes x who event blocks reply len quiet may = record {
    plan = refl;
    may = may;
    touched = λ c h. part_stays k x who blocks reply len event quiet (cell_of k c) (parts_in cells c) (cell_fits c);
    others = λ c h. refl;
    links = λ by p caller small. links_stay k x who blocks reply len event quiet by p _;
  }

  -- the frames of an owner are those of its clock
  pub owned : (owner : Owner) (fs : List ℕ) → IsOwner k owner → fs ≡ slice_index_or clocks (clock_place k owner) fs → fs ≡ frames_of_owner cells owner
  owned owner fs inside is = get_or_read clocks (clock_place k owner) fs (short owner inside) is [] ∙ sym (ap list_in (clock_at cells owner inside))
    where
      short : (owner : Owner) → IsOwner k owner → clock_place k owner < length clocks
      short (Some e) inside = let all = core.owners in omega arith
      short None inside = let all = core.owners in omega arith

  module _ (e : ℕ) (goal : Goal) (sweep : List Looked) (own pool : List ℕ) (found : Option Reply) (inside : e < length k.enclaves)
      (own_is : own ≡ slice_index_or clocks e own) (pool_is : pool ≡ slice_index_or clocks (length k.enclaves) pool) (only : IsTheReply (SurveyReply own pool goal sweep) found) where
    -- the reply to a search
    surveyed : IsTheReply (SurveyReply (frames_of_owner cells (Some e)) (frames_of_owner cells None) goal sweep) found
    surveyed = subst (λ (z : List ℕ × List ℕ). IsTheReply (SurveyReply z.0 z.1 goal sweep) found) (λ i. (owned (Some e) own inside own_is i, owned None pool tt pool_is i)) only

    -- the reply found by the two lists in memory is the one that the search may have
    pub survey_is : IsSurveyed cells e goal sweep found
    survey_is few = surveyed

    -- and the search with that reply leaves the cells as they are
    pub survey_makes : (x : Seals) (who : ℕ) → IsActor k who → IfSome found (λ reply. Makes x (survey_stamp who e goal sweep reply) cells cells)
    survey_makes x who actor = IfSome_then found surveyed.allowed (λ reply allowed. quiet_makes x who (Survey e goal sweep) [] reply 0 tt (record { within = (actor, inside); on_parts = (allowed, refl) }))
