-- A core whose fields are open: the cells that it is seen as, and the page of an address in range.
use Rattle.std.proofs.Common.{◌≡◌, ℕ, ◌-◌, ◌*◌, ◌%◌, ◌<◌, ◌==◌, ◌&&◌, not, [], length, map, true, false, Option, Some, None, is_some, if◌then◌else◌, slice_index_or, slice_set, refl, sym, ◌∙◌, ap, subst, arith, vec_len}
use Rattle.std.specs.Vec.{with_item}
use Rattle.std.proofs.lemmas.List.{get_or-map, set-get_or}
use Rattle.std.proofs.lemmas.List.Elements.{All-from_recursion}
use Rattle.eleos_base.specs.declared.memory.Addr.{Addr}
use Rattle.eleos_base.specs.declared.memory.Reply.{Reply}
use Rattle.eleos_base.specs.declared.memory.Reply.TheVariants.{BadRange}
use Rattle.eleos_base.specs.Plain.{use_refusal}
use Rattle.eleos_base.specs.Plans.{IsCaller}
use Rattle.eleos_core.specs.declared.accesses.spots.Spot.{Spot}
use Rattle.eleos_core.specs.declared.cells.page.Page.{Page}
use Rattle.eleos_core.specs.declared.cells.page.Present.{Present}
use Rattle.eleos_core.specs.declared.cells.sub_page.SubPage.{SubPage}
use Rattle.eleos_core.specs.declared.machine.Core.TheInside.{Inside}
use Rattle.eleos_core.specs.Accesses.{IsSpot, block_places, opened_places, page_for, refusal_on, sub_for}
use Rattle.eleos_core.specs.Cells.{Cells, IsPage, IsCore, cells_of, frame_of_page, part_of_frame, part_of_page, part_with}
use Rattle.eleos_core.specs.Parts.{SubPart, is_worn_in, no_part}
use Rattle.eleos_base.specs.Places.{all_frames, all_pages, page_of, sub_of}
use Rattle.eleos_core.proofs.AccessParts.{accepted_range, sub_for-is}
use Rattle.eleos_core.proofs.PageParts.{bytes_in}
use Rattle.eleos_core.proofs.Sets.{map_page, page_at}
use Rattle.eleos_core.proofs.Spots.{in_range, page_inside, range_is}
use Rattle.eleos_core.proofs.MachineCells.{item_there}

-- the invariant of a core, and its view, by its fields
abbrev pub Holds : Inside → Type 0
Holds s = IsCore s.plan s.live.items s.clocks.items s.pages.items s.frames.items s.links.items

-- the cells that these fields are seen as
abbrev pub view_of : Inside → Cells
view_of s = cells_of s.plan s.live.items s.clocks.items s.pages.items s.frames.items s.links.items

-- an option that is none
pub none_of : {A : Type 0} (o : Option A) → is_some o ≡ false → o ≡ None
none_of None h = refl
none_of (Some a) h = cc

-- the caller is one of the plan's, the access is in range, and this is where it lies
pub record IsThere (s : Inside) (who : ℕ) (at : Addr) (n : ℕ) (spot : Spot) : Type 0 where
  pub core : Holds s
  pub caller : IsCaller s.plan who
  pub range : in_range s.plan who at n ≡ true
  pub is : IsSpot s.plan at spot

-- the page that has it
pub record IsFound (s : Inside) (who : ℕ) (at : Addr) (n : ℕ) (spot : Spot) (page : Page) : Type 0 where
  pub there : IsThere s who at n spot
  pub value : page ≡ slice_index_or s.pages.items spot.page page
  pub part : page_for (view_of s) at ≡ part_of_page page
  pub is_page : IsPage s.plan.wear (all_frames s.plan) page
  pub inside : spot.index < length page.subs.items

module _ (s : Inside) (m : Cells) (view : view_of s ≡ m) where
  -- a caller of the cells' plan is one of the core's
  pub caller_there : (who : ℕ) → IsCaller m.plan who → IsCaller s.plan who
  caller_there who caller = subst (λ (c : Cells). IsCaller c.plan who) (sym view) caller

  -- and an access is refused by the core as it is by the cells that it is seen as
  pub refusal_there : (who : ℕ) (at : Addr) (n : ℕ) (o : Option Reply) → refusal_on m who at n ≡ o → refusal_on (view_of s) who at n ≡ o
  refusal_there who at n o is = subst (λ (c : Cells). refusal_on c who at n ≡ o) (sym view) is

  -- what is not refused is there
  pub accepted_there : (who : ℕ) (at : Addr) (n : ℕ) (spot : Spot) → Holds s → IsCaller m.plan who → refusal_on m who at n ≡ None → IsSpot s.plan at spot → IsThere s who at n spot
  accepted_there who at n spot core caller accepted is = record {
    core = core;
    caller = caller_there who caller;
    range = accepted_range s.plan who at n (page_for (view_of s) at) (refusal_there who at n None accepted);
    is = is;
  }

module _ (s : Inside) (who : ℕ) (at : Addr) (n : ℕ) (spot : Spot) (t : IsThere s who at n spot) where
  -- the page of an access that is there is one of the machine's
  pub page_within : page_of s.plan (sub_of s.plan at) < all_pages s.plan
  page_within = page_inside s.plan who at n t.core.good t.caller (range_is s.plan who at n t.range)

  page_small : spot.page < length s.pages.items
  page_small = let inside = page_within in let is = t.is.page in let all = t.core.pages_are in omega arith

  -- so its number is one of the pages in memory
  pub page_index : spot.page < vec_len s.pages
  page_index = let small = page_small in let long = s.pages.ok.0 in omega arith

  -- and the page that was read at that number is the one that has the address
  pub found : (page : Page) → page ≡ slice_index_or s.pages.items spot.page page → IsFound s who at n spot page
  found page value =
      let p : ℕ = page_of s.plan (sub_of s.plan at) in
      let small : p < length s.pages.items = (let all = t.core.pages_are in let inside = page_within in omega arith) in
      let is_page : IsPage s.plan.wear (all_frames s.plan) page = subst (IsPage s.plan.wear (all_frames s.plan)) (sym value)
      (All-from_recursion (IsPage s.plan.wear (all_frames s.plan)) s.pages.items t.core.each_page spot.page page page_small) in record {
        there = t;
        value = value;
        part = page_at (view_of s) p page_within ∙ (get_or-map part_of_page s.pages.items p page no_part small ∙ ap part_of_page (ap (λ i. slice_index_or s.pages.items i page) (sym t.is.page) ∙ sym value));
        is_page = is_page;
        inside = let whole = is_page.whole in let in_page = t.is.in_page in omega arith;
      }

-- some page has it
pub page_there : (s : Inside) (who : ℕ) (at : Addr) (n : ℕ) → Holds s → IsCaller s.plan who → in_range s.plan who at n ≡ true → (page : Page) × (page_for (view_of s) at ≡ part_of_page page)
page_there s who at n core caller range =
    let p : ℕ = page_of s.plan (sub_of s.plan at) in
    let spot : Spot = record { page = p; place = sub_of s.plan at; index = sub_of s.plan at - p * 4; from = at.at % 1024 } in
    let small : p < length s.pages.items = (let all = core.pages_are in let less = page_inside s.plan who at n core.good caller (range_is s.plan who at n range) in omega arith) in
    let item = item_there s.pages.items p small in
    let t : IsThere s who at n spot = record { core = core; caller = caller; range = range; is = record { page = refl; place = refl; index = omega arith; in_page = omega arith; from = refl } } in
    (item.0, (found s who at n spot t item.0 item.1).part)

module _ (s : Inside) (who : ℕ) (at : Addr) (n : ℕ) (spot : Spot) (page : Page) (f : IsFound s who at n spot page) where
  -- the place of its sub-page is one of the page's sub-pages
  pub sub_index : spot.index < vec_len page.subs
  sub_index = let inside = f.inside in let long = page.subs.ok.0 in omega arith

  sub_part : (u : SubPage) → u ≡ slice_index_or page.subs.items spot.index u → sub_for s.plan at (part_of_page page) ≡ part_with u (bytes_in page.present spot.index)
  sub_part u item = sub_for-is s.plan at page spot u f.there.is f.inside ∙ ap (λ v. part_with v (bytes_in page.present spot.index)) (sym item)

  -- why an access there is refused
  pub refusal-found : (u : SubPage) → u ≡ slice_index_or page.subs.items spot.index u → refusal_on (view_of s) who at n ≡ use_refusal who u.block
  refusal-found u item =
      ap (λ v. if v then use_refusal who (sub_for s.plan at (page_for (view_of s) at)).block else Some BadRange) f.there.range
      ∙ ap (λ (z : SubPart). use_refusal who z.block) (ap (sub_for s.plan at) f.part ∙ sub_part u item)

  -- which block it takes
  pub places-found : (u : SubPage) → u ≡ slice_index_or page.subs.items spot.index u
      → opened_places s.plan at (page_for (view_of s) at) ≡ (if is_some page.present then [] else block_places spot.place (part_with u []))
  places-found u item =
      ap (opened_places s.plan at) f.part ∙ ((λ i. if is_some (frame_of_page page.present) then [] else block_places (sym f.there.is.place i) (sub_part u item i)) ∙ by_present page.present)
    where
      by_present : (present : Option Present) → (if is_some (frame_of_page present) then [] else block_places spot.place (part_with u (bytes_in present spot.index)))
          ≡ (if is_some present then [] else block_places spot.place (part_with u []))
      by_present None = refl
      by_present (Some p) = refl

  -- whether its sub-page is worn
  pub worn-found : (u : SubPage) → u ≡ slice_index_or page.subs.items spot.index u
      → is_worn_in s.plan (sub_for s.plan at (page_for (view_of s) at)) ≡ (not u.is_dirty && u.version == s.plan.wear)
  worn-found u item = ap (λ q. is_worn_in s.plan (sub_for s.plan at q)) f.part ∙ ap (is_worn_in s.plan) (sub_part u item)

  -- a page with the same part leaves the cells as they are
  pub view-kept : (page' : Page) → part_of_page page' ≡ part_of_page page → view_of (record s { pages = with_item s.pages spot.page page' }) ≡ view_of s
  view-kept page' same =
      let small : spot.page < length s.pages.items = (let inside = page_within s who at n spot f.there in let is = f.there.is.page in let all = f.there.core.pages_are in omega arith) in
      let kept : map part_of_page (slice_set s.pages.items spot.page page') ≡ map part_of_page s.pages.items = map_page s.pages.items spot.page page'
      ∙ (ap (slice_set (map part_of_page s.pages.items) spot.page) (same ∙ (ap part_of_page f.value ∙ sym (get_or-map part_of_page s.pages.items spot.page page (part_of_page page) small)))
      ∙ set-get_or (map part_of_page s.pages.items) spot.page (part_of_page page)) in
      (λ t. record { plan = s.plan; live = s.live.items; clocks = s.clocks.items; pages = kept t; frames = map part_of_frame s.frames.items; links = s.links.items })
