-- The numbers of the machine's cells, and the parts of all cells after one of them is set.
use Rattle.std.proofs.Common.{◌≡◌, ◌≢◌, ℕ, ◌+◌, ◌-◌, ◌<◌, ◌≤◌, List, [], length, map, cond, ◌==◌, nat_lt, Some, None, slice_index_or, slice_set, refl, sym, ◌∙◌, ap, arith, get_or-set_same, get_or-set_other, if◌then◌else◌}
use Rattle.std.proofs.lemmas.Bool.{ne_eqb, eqb-true, eqb-false, eq-eqb}
use Rattle.std.proofs.lemmas.List.{length-map, length-set, map-set}
use Rattle.eleos_base.specs.declared.memory.Live.{Live}
use Rattle.eleos_base.specs.declared.plan.Plan.{Plan}
use Rattle.eleos_core.specs.declared.cells.frame.Frame.{Frame}
use Rattle.eleos_core.specs.declared.cells.page.Page.{Page}
use Rattle.eleos_core.specs.Applying.{parts_in}
use Rattle.eleos_core.specs.Cells.{Cells, IsCore, cells_of, part_in, part_of_frame, part_of_page}
use Rattle.eleos_core.specs.Legal.{IsOwner}
use Rattle.eleos_core.specs.Parts.{Cell, Part, alloc_cell, alloc_part, cell_of, clock_cell, clock_part, frame_cell, later_cell, no_cell, no_part, page_cell, the_alloc, the_clock, the_frame, the_page}
use Rattle.eleos_base.specs.Places.{Owner, all_frames, all_pages}
use Rattle.eleos_core.proofs.FreeRuns.{nat_ge_of, nat_lt_of}
use Rattle.eleos_core.proofs.Tests.{by_test}

-- what holds of the cell with a number, by the kind of that cell
pub by_number : (k : Plan) (P : Cell → Type 0) (c : ℕ)
    → (c < length k.enclaves → P (the_alloc c))
    → ((e : ℕ) → e < length k.enclaves → c ≡ clock_cell k (Some e) → P (the_clock (Some e)))
    → (c ≡ clock_cell k None → P (the_clock None))
    → ((p : ℕ) → p < all_pages k → c ≡ page_cell k p → P (the_page p))
    → ((f : ℕ) → f < all_frames k → c ≡ frame_cell k f → P (the_frame f))
    → (frame_cell k (all_frames k) ≤ c → P no_cell)
    → P (cell_of k c)
by_number k P c an_alloc a_clock the_pool a_page a_frame none =
    let n : ℕ = length k.enclaves in
    let i : ℕ = c - (n + n + 1) in
    by_test (nat_lt c n) (λ v. P (if v then the_alloc c else if nat_lt (c - n) n then the_clock (Some (c - n)) else if c - n == n then the_clock None else later_cell k i))
    (λ yes_is. an_alloc (nat_lt_of c n yes_is))
    (λ not_alloc. let from : n ≤ c = nat_ge_of c n not_alloc in
    by_test (nat_lt (c - n) n) (λ v. P (if v then the_clock (Some (c - n)) else if c - n == n then the_clock None else later_cell k i))
    (λ yes_is. let below : c - n < n = nat_lt_of (c - n) n yes_is in a_clock (c - n) below (omega arith))
    (λ not_clock. let above : n ≤ c - n = nat_ge_of (c - n) n not_clock in
    by_test (c - n == n) (λ v. P (if v then the_clock None else later_cell k i))
    (λ yes_is. let same : c - n ≡ n = eqb-true (c - n) n yes_is in the_pool (omega arith))
    (λ not_pool. let other : c - n ≢ n = eqb-false (c - n) n not_pool in
    by_test (nat_lt i (all_pages k)) (λ v. P (if v then the_page i else if nat_lt (i - all_pages k) (all_frames k) then the_frame (i - all_pages k) else no_cell))
    (λ yes_is. a_page i (nat_lt_of i (all_pages k) yes_is) (omega arith))
    (λ not_page. let past : all_pages k ≤ i = nat_ge_of i (all_pages k) not_page in
    by_test (nat_lt (i - all_pages k) (all_frames k)) (λ v. P (if v then the_frame (i - all_pages k) else no_cell))
    (λ yes_is. a_frame (i - all_pages k) (nat_lt_of (i - all_pages k) (all_frames k) yes_is) (omega arith))
    (λ not_frame. let over : all_frames k ≤ i - all_pages k = nat_ge_of (i - all_pages k) (all_frames k) not_frame in none (omega arith))))))

-- the cell of each number
pub cell_of-page : (k : Plan) (p : ℕ) → p < all_pages k → cell_of k (page_cell k p) ≡ the_page p
cell_of-page k p inside = by_number k (λ cell. cell ≡ the_page p) (page_cell k p)
    (λ h. absurd (omega arith))
    (λ e h is. absurd (omega arith))
    (λ is. absurd (omega arith))
    (λ q h is. ap the_page (omega arith))
    (λ f h is. absurd (omega arith))
    (λ h. absurd (omega arith))

-- of a frame's
pub cell_of-frame : (k : Plan) (f : ℕ) → f < all_frames k → cell_of k (frame_cell k f) ≡ the_frame f
cell_of-frame k f inside = by_number k (λ cell. cell ≡ the_frame f) (frame_cell k f)
    (λ h. absurd (omega arith))
    (λ e h is. absurd (omega arith))
    (λ is. absurd (omega arith))
    (λ q h is. absurd (omega arith))
    (λ g h is. ap the_frame (omega arith))
    (λ h. absurd (omega arith))

-- of an owner's clock cell
pub cell_of-clock : (k : Plan) (owner : Owner) → IsOwner k owner → cell_of k (clock_cell k owner) ≡ the_clock owner
cell_of-clock k None inside = by_number k (λ cell. cell ≡ the_clock None) (clock_cell k None)
    (λ h. absurd (omega arith))
    (λ e h is. absurd (omega arith))
    (λ is. refl)
    (λ q h is. absurd (omega arith))
    (λ g h is. absurd (omega arith))
    (λ h. absurd (omega arith))
cell_of-clock k (Some enclave) inside = by_number k (λ cell. cell ≡ the_clock (Some enclave)) (clock_cell k (Some enclave))
    (λ h. absurd (omega arith))
    (λ e h is. let same : e ≡ enclave = omega arith in ap (λ z. the_clock (Some z)) same)
    (λ is. absurd (omega arith))
    (λ q h is. absurd (omega arith))
    (λ g h is. absurd (omega arith))
    (λ h. absurd (omega arith))

-- of an enclave's alloc cell
pub cell_of-alloc : (k : Plan) (e : ℕ) → e < length k.enclaves → cell_of k (alloc_cell k e) ≡ the_alloc e
cell_of-alloc k enclave inside = by_number k (λ cell. cell ≡ the_alloc enclave) (alloc_cell k enclave)
    (λ h. refl)
    (λ e h is. absurd (omega arith))
    (λ is. absurd (omega arith))
    (λ q h is. absurd (omega arith))
    (λ g h is. absurd (omega arith))
    (λ h. absurd (omega arith))

-- the place of an owner's clock among all clocks
abbrev pub clock_place : Plan → Owner → ℕ
clock_place k (Some e) = e
clock_place k None = length k.enclaves

-- the numbers of cells of two kinds differ
pub page_not_frame : (k : Plan) (p f : ℕ) → p < all_pages k → page_cell k p ≢ frame_cell k f
page_not_frame k p f inside same = omega arith

pub page_not_clock : (k : Plan) (p : ℕ) (owner : Owner) → IsOwner k owner → page_cell k p ≢ clock_cell k owner
page_not_clock k p None inside same = omega arith
page_not_clock k p (Some e) inside same = omega arith

-- a page's and an alloc cell's
pub page_not_alloc : (k : Plan) (p e : ℕ) → e < length k.enclaves → page_cell k p ≢ alloc_cell k e
page_not_alloc k p e inside same = omega arith

-- a frame's and a clock cell's
pub frame_not_clock : (k : Plan) (f : ℕ) (owner : Owner) → IsOwner k owner → frame_cell k f ≢ clock_cell k owner
frame_not_clock k f None inside same = omega arith
frame_not_clock k f (Some e) inside same = omega arith

pub frame_not_alloc : (k : Plan) (f e : ℕ) → e < length k.enclaves → frame_cell k f ≢ alloc_cell k e
frame_not_alloc k f e inside same = omega arith

pub clock_not_alloc : (k : Plan) (owner : Owner) (e : ℕ) → e < length k.enclaves → clock_cell k owner ≢ alloc_cell k e
clock_not_alloc k None e inside same = omega arith
clock_not_alloc k (Some home) e inside same = omega arith

-- and so do those of two cells of one kind
pub pages_differ : (k : Plan) (p q : ℕ) → p ≢ q → page_cell k p ≢ page_cell k q
pages_differ k p q differ same = differ (omega arith)

pub frames_differ : (k : Plan) (f g : ℕ) → f ≢ g → frame_cell k f ≢ frame_cell k g
frames_differ k f g differ same = differ (omega arith)

-- the pool's clock cell and an enclave's
pub pool_not_clock : (k : Plan) (e : ℕ) → e < length k.enclaves → clock_cell k None ≢ clock_cell k (Some e)
pool_not_clock k e inside same = omega arith

-- there are as many cells of each kind as the plan says
pub record AreWhole (m : Cells) : Type 0 where
  pub live : length m.live ≡ length m.plan.enclaves
  pub clocks : length m.clocks ≡ length m.plan.enclaves + 1
  pub pages : length m.pages ≡ all_pages m.plan
  pub frames : length m.frames ≡ all_frames m.plan

-- so it is in a core
pub core_whole : (k : Plan) (live : List (List Live)) (clocks : List (List ℕ)) (pages : List Page) (frames : List Frame) (links : List ℕ)
    → IsCore k live clocks pages frames links → AreWhole (cells_of k live clocks pages frames links)
core_whole k live clocks pages frames links core = record {
  live = core.enclaves;
  clocks = core.owners;
  pages = length-map pages part_of_page ∙ core.pages_are;
  frames = length-map frames part_of_frame ∙ core.frames_are;
}

-- and after one cell is set
pub whole_page : (m : Cells) (p : ℕ) (q : Part) → AreWhole m → AreWhole (record m { pages = slice_set m.pages p q })
whole_page m p q whole = record { live = whole.live; clocks = whole.clocks; pages = length-set m.pages p q ∙ whole.pages; frames = whole.frames }

pub whole_frame : (m : Cells) (f : ℕ) (q : Part) → AreWhole m → AreWhole (record m { frames = slice_set m.frames f q })
whole_frame m f q whole = record { live = whole.live; clocks = whole.clocks; pages = whole.pages; frames = length-set m.frames f q ∙ whole.frames }

-- an owner's list of frames
pub whole_clock : (m : Cells) (i : ℕ) (fs : List ℕ) → AreWhole m → AreWhole (record m { clocks = slice_set m.clocks i fs })
whole_clock m i fs whole = record { live = whole.live; clocks = length-set m.clocks i fs ∙ whole.clocks; pages = whole.pages; frames = whole.frames }

pub whole_alloc : (m : Cells) (e : ℕ) (blocks : List Live) → AreWhole m → AreWhole (record m { live = slice_set m.live e blocks })
whole_alloc m e blocks whole = record { live = length-set m.live e blocks ∙ whole.live; clocks = whole.clocks; pages = whole.pages; frames = whole.frames }

-- the part of a cell by its place in its list
pub page_at : (m : Cells) (p : ℕ) → p < all_pages m.plan → parts_in m (page_cell m.plan p) ≡ slice_index_or m.pages p no_part
page_at m p inside = ap (part_in m) (cell_of-page m.plan p inside)

-- of a frame
pub frame_at : (m : Cells) (f : ℕ) → f < all_frames m.plan → parts_in m (frame_cell m.plan f) ≡ slice_index_or m.frames f no_part
frame_at m f inside = ap (part_in m) (cell_of-frame m.plan f inside)

-- of an owner's clock
pub clock_at : (m : Cells) (owner : Owner) → IsOwner m.plan owner → parts_in m (clock_cell m.plan owner) ≡ clock_part (slice_index_or m.clocks (clock_place m.plan owner) [])
clock_at m None inside = ap (part_in m) (cell_of-clock m.plan None inside)
clock_at m (Some e) inside = ap (part_in m) (cell_of-clock m.plan (Some e) inside)

-- of an enclave's alloc cell
pub alloc_at : (m : Cells) (e : ℕ) → e < length m.plan.enclaves → parts_in m (alloc_cell m.plan e) ≡ alloc_part (slice_index_or m.live e [])
alloc_at m e inside = ap (part_in m) (cell_of-alloc m.plan e inside)

-- one value where the numbers are equal, and another elsewhere
pub at_same : {A : Type 0} (a b : ℕ) (new was : A) → a ≡ b → cond (a == b) new was ≡ new
at_same a b new was same = ap (λ v. cond v new was) (eq-eqb a b same)

-- elsewhere it is what it was
pub at_other : {A : Type 0} (a b : ℕ) (new was : A) → a ≢ b → cond (a == b) new was ≡ was
at_other a b new was differ = ap (λ v. cond v new was) (ne_eqb a b differ)

-- an item of a list of which one is set
pub item_set : {A : Type 0} (f : A → Part) (xs : List A) (i j : ℕ) (x d : A) (a b : ℕ) → i < length xs → (j ≡ i → a ≡ b) → (a ≡ b → j ≡ i)
    → f (slice_index_or (slice_set xs i x) j d) ≡ cond (a == b) (f x) (f (slice_index_or xs j d))
item_set f xs i j x d a b inside at from = by_test (j == i) (λ _. f (slice_index_or (slice_set xs i x) j d) ≡ cond (a == b) (f x) (f (slice_index_or xs j d)))
    (λ yes_is. let same : j ≡ i = eqb-true j i yes_is in
    ap (λ z. f (slice_index_or (slice_set xs i x) z d)) same ∙ (ap f (get_or-set_same xs i x d inside) ∙ sym (at_same a b (f x) (f (slice_index_or xs j d)) (at same))))
    (λ no_is. let differ : j ≢ i = eqb-false j i no_is in
    ap f (get_or-set_other xs i j x d differ) ∙ sym (at_other a b (f x) (f (slice_index_or xs j d)) (λ same. differ (from same))))

-- the parts of all cells after a page is set
pub set_page : (m : Cells) (p : ℕ) (q : Part) (c : ℕ) → AreWhole m → p < all_pages m.plan
    → parts_in (record m { pages = slice_set m.pages p q }) c ≡ cond (c == page_cell m.plan p) q (parts_in m c)
set_page m p q c whole inside =
    let others : (was : Part) → c ≢ page_cell m.plan p → was ≡ cond (c == page_cell m.plan p) q was = λ was differ. sym (at_other c (page_cell m.plan p) q was differ) in
    by_number m.plan (λ cell. part_in (record m { pages = slice_set m.pages p q }) cell ≡ cond (c == page_cell m.plan p) q (part_in m cell)) c
    (λ h. others _ (λ same. omega arith))
    (λ e h is. others _ (λ same. omega arith))
    (λ is. others _ (λ same. omega arith))
    (λ i h is. let small : p < length m.pages = (let all = whole.pages in omega arith) in
    item_set (λ z. z) m.pages p i q no_part c (page_cell m.plan p) small (λ same. omega arith) (λ same. omega arith))
    (λ f h is. others _ (λ same. omega arith))
    (λ h. others _ (λ same. omega arith))

-- after a frame is set
pub set_frame : (m : Cells) (f : ℕ) (q : Part) (c : ℕ) → AreWhole m → f < all_frames m.plan
    → parts_in (record m { frames = slice_set m.frames f q }) c ≡ cond (c == frame_cell m.plan f) q (parts_in m c)
set_frame m f q c whole inside =
    let others : (was : Part) → c ≢ frame_cell m.plan f → was ≡ cond (c == frame_cell m.plan f) q was = λ was differ. sym (at_other c (frame_cell m.plan f) q was differ) in
    by_number m.plan (λ cell. part_in (record m { frames = slice_set m.frames f q }) cell ≡ cond (c == frame_cell m.plan f) q (part_in m cell)) c
    (λ h. others _ (λ same. omega arith))
    (λ e h is. others _ (λ same. omega arith))
    (λ is. others _ (λ same. omega arith))
    (λ p h is. others _ (λ same. omega arith))
    (λ i h is. let small : f < length m.frames = (let all = whole.frames in omega arith) in
    item_set (λ z. z) m.frames f i q no_part c (frame_cell m.plan f) small (λ same. omega arith) (λ same. omega arith))
    (λ h. others _ (λ same. omega arith))

clock_set : (m : Cells) (i : ℕ) (fs : List ℕ) (c : ℕ) → AreWhole m → i ≤ length m.plan.enclaves
    → parts_in (record m { clocks = slice_set m.clocks i fs }) c ≡ cond (c == length m.plan.enclaves + i) (clock_part fs) (parts_in m c)
clock_set m i fs c whole inside =
    let n : ℕ = length m.plan.enclaves in
    let small : i < length m.clocks = (let all = whole.clocks in omega arith) in
    let others : (was : Part) → c ≢ n + i → was ≡ cond (c == n + i) (clock_part fs) was = λ was differ. sym (at_other c (n + i) (clock_part fs) was differ) in
    by_number m.plan (λ cell. part_in (record m { clocks = slice_set m.clocks i fs }) cell ≡ cond (c == n + i) (clock_part fs) (part_in m cell)) c
    (λ h. others _ (λ same. omega arith))
    (λ e h is. item_set clock_part m.clocks i e fs [] c (n + i) small (λ same. omega arith) (λ same. omega arith))
    (λ is. item_set clock_part m.clocks i n fs [] c (n + i) small (λ same. omega arith) (λ same. omega arith))
    (λ p h is. others _ (λ same. omega arith))
    (λ f h is. others _ (λ same. omega arith))
    (λ h. others _ (λ same. omega arith))

-- after an owner's clock is set
pub set_clock : (m : Cells) (owner : Owner) (fs : List ℕ) (c : ℕ) → AreWhole m → IsOwner m.plan owner
    → parts_in (record m { clocks = slice_set m.clocks (clock_place m.plan owner) fs }) c ≡ cond (c == clock_cell m.plan owner) (clock_part fs) (parts_in m c)
set_clock m None fs c whole inside = clock_set m (length m.plan.enclaves) fs c whole (omega arith)
set_clock m (Some e) fs c whole inside = clock_set m e fs c whole (omega arith)

-- after an enclave's live blocks are set
pub set_alloc : (m : Cells) (e : ℕ) (blocks : List Live) (c : ℕ) → AreWhole m → e < length m.plan.enclaves
    → parts_in (record m { live = slice_set m.live e blocks }) c ≡ cond (c == alloc_cell m.plan e) (alloc_part blocks) (parts_in m c)
set_alloc m enclave blocks c whole inside =
    let others : (was : Part) → c ≢ alloc_cell m.plan enclave → was ≡ cond (c == alloc_cell m.plan enclave) (alloc_part blocks) was
    = λ was differ. sym (at_other c (alloc_cell m.plan enclave) (alloc_part blocks) was differ) in
    by_number m.plan (λ cell. part_in (record m { live = slice_set m.live enclave blocks }) cell ≡ cond (c == alloc_cell m.plan enclave) (alloc_part blocks) (part_in m cell)) c
    (λ h. let small : enclave < length m.live = (let all = whole.live in omega arith) in
    item_set alloc_part m.live enclave c blocks [] c (alloc_cell m.plan enclave) small (λ same. omega arith) (λ same. omega arith))
    (λ e h is. others _ (λ same. omega arith))
    (λ is. others _ (λ same. omega arith))
    (λ p h is. others _ (λ same. omega arith))
    (λ f h is. others _ (λ same. omega arith))
    (λ h. others _ (λ same. omega arith))

-- the links are no part of a cell
part_linked : (m : Cells) (links : List ℕ) (cell : Cell) → part_in (record m { links = links }) cell ≡ part_in m cell
part_linked m links no_cell = refl
part_linked m links (the_alloc e) = refl
part_linked m links (the_clock None) = refl
part_linked m links (the_clock (Some e)) = refl
part_linked m links (the_page p) = refl
part_linked m links (the_frame f) = refl

-- so with other links each cell has the part that it had
pub set_links : (m : Cells) (links : List ℕ) (c : ℕ) → parts_in (record m { links = links }) c ≡ parts_in m c
set_links m links c = part_linked m links (cell_of m.plan c)

-- one page or frame in memory is set
pub map_page : (pages : List Page) (p : ℕ) (page : Page) → map part_of_page (slice_set pages p page) ≡ slice_set (map part_of_page pages) p (part_of_page page)
map_page pages p page = map-set part_of_page pages p page

-- of a frame: its part is set among those of all
pub map_frame : (frames : List Frame) (f : ℕ) (frame : Frame) → map part_of_frame (slice_set frames f frame) ≡ slice_set (map part_of_frame frames) f (part_of_frame frame)
map_frame frames f frame = map-set part_of_frame frames f frame
