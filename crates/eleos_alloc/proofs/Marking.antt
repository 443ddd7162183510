-- A page whose sub-pages in a run are marked one after another.
use Rattle.std.proofs.Common.{◌≡◌, ℕ, ◌+◌, ◌-◌, ◌*◌, ◌<◌, ◌≤◌, Bool, is_some, min, max, if◌then◌else◌, slice_index_or, ◌∙◌, ap, arith}
use Rattle.std.proofs.lemmas.Bool.Decides.{nat_tests}
use Rattle.eleos_base.specs.Plain.{is_in_run}
use Rattle.eleos_core.specs.declared.allots.marks.Mark.{Mark}
use Rattle.eleos_core.specs.Allots.{marked, page_marked}
use Rattle.eleos_core.specs.Parts.{Part, alloc_part, blank_sub, clock_part, frame_part, no_part, page_part}
use Rattle.eleos_core.proofs.ByPlace.{map_from-same}
use Rattle.eleos_core.proofs.MarkedPages.{IsPagePart}

-- of a page's sub-pages, those in a run are those between its start or the page's and its end or the page's
in_both : (start len first s : ℕ) → first ≤ s → s < first + 4 → is_in_run (max start first) (min (start + len) (first + 4) - max start first) s ≡ is_in_run start len s
in_both start len first s low high = grind (arith, nat_tests)

-- to mark the sub-pages of a run in a page is to mark those of the piece of the run that lies in this page
pub page_clipped : (mark : Mark) (start len p low count : ℕ) (q : Part) → IsPagePart q → low ≡ max start (p * 4) → count ≡ min (start + len) (p * 4 + 4) - low
    → page_marked mark low count p q ≡ page_marked mark start len p q
page_clipped mark start len p low count no_part holds low_is count_is = absurd holds
page_clipped mark start len p low count (alloc_part blocks) holds low_is count_is = absurd holds
page_clipped mark start len p low count (clock_part fs) holds low_is count_is = absurd holds
page_clipped mark start len p low count (frame_part owner f) holds low_is count_is = absurd holds
page_clipped mark start len p low count (page_part f us) holds low_is count_is = ap (page_part f)
    (map_from-same (λ s u. if is_in_run low count s then marked mark (is_some f) u else u) (λ s u. if is_in_run start len s then marked mark (is_some f) u else u) (p * 4) us blank_sub
    (λ j h. let inside : j < 4 = (let whole = holds.0 in omega arith) in
    ap (λ (b : Bool). if b then marked mark (is_some f) (slice_index_or us j blank_sub) else slice_index_or us j blank_sub)
    ((λ t. is_in_run (low_is t) ((count_is ∙ ap (λ z. min (start + len) (p * 4 + 4) - z) low_is) t) (p * 4 + j)) ∙ in_both start len (p * 4) (p * 4 + j) (omega arith) (omega arith))))
