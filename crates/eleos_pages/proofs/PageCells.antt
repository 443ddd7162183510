-- The cell of a page, and the part of its value.
use Rattle.std.proofs.Common.{◌≡◌, ℕ, ◌+◌, ◌<◌, length, true, Option, Some, None, refl, ◌∙◌, ap, arith, if◌then◌else◌}
use Rattle.std.proofs.lemmas.Bool.{eq-eqb}
use Rattle.eleos_base.specs.declared.memory.Addr.{Addr}
use Rattle.eleos_base.specs.declared.plan.Plan.{Plan}
use Rattle.eleos_base.specs.Plans.{IsCaller, IsGood, page_bytes}
use Rattle.eleos_core.specs.declared.accesses.spots.Spot.{Spot}
use Rattle.eleos_core.specs.declared.cells.page.Page.{Page as Pages}
use Rattle.eleos_core.specs.declared.cells.page.Present.{Present}
use Rattle.eleos_core.specs.Accesses.{IsSpot}
use Rattle.eleos_core.specs.Cells.{IsPresent, part_of_page}
use Rattle.eleos_core.specs.Parts.{Part, no_part, page_cell}
use Rattle.eleos_base.specs.Places.{all_pages}
use Rattle.eleos_core.proofs.CellNumbers.{page_is}
use Rattle.eleos_core.proofs.Spots.{page_inside, range_is}
use Rattle.eleos_plot.specs.declared.cell.Cell.TheVariants.{Page}
use Rattle.eleos_plot.specs.Cells.{has_page_bytes, part_of_cell}
use Rattle.eleos_core.specs.Accesses.{IsAccess, page_at}
use Rattle.eleos_pages.specs.Held.{IsPageOf}

-- the page of an access in range is one of the machine's
pub spot_within : (k : Plan) (who : ℕ) (at : Addr) (n : ℕ) (spot : Spot) → IsGood k → IsCaller k who → IsAccess k who at n → IsSpot k at spot → spot.page < all_pages k
spot_within k who at n spot good caller range is = let inside : page_at k at < all_pages k = page_inside k who at n good caller (range_is k who at n range) in let page = is.page in omega (arith, page, inside)

-- the number of the cell of its page
pub page_of_is : (k : Plan) (who : ℕ) (at : Addr) (n cell : ℕ) (spot : Spot) → IsGood k → IsCaller k who → IsAccess k who at n → IsSpot k at spot → cell ≡ page_cell k spot.page
    → IsPageOf k who at n cell
page_of_is k who at n cell spot good caller range is found =
    let inside : page_at k at < all_pages k = page_inside k who at n good caller (range_is k who at n range) in
    let number : cell ≡ length k.enclaves + length k.enclaves + 1 + page_at k at = (let page = is.page in omega (arith, page, found)) in record {
      range = range;
      cell_is = number;
      the_page_is = ap (Rattle.eleos_core.specs.Parts.cell_of k) number ∙ page_is k (page_at k at) inside;
      in_machine = omega (arith, number, inside);
    }

-- a page with the bytes of a page has its part as a cell
pub page_shows : (frames : ℕ) (page : Pages) → IsPresent frames page.present → part_of_cell (Page page) ≡ part_of_page page
page_shows frames page present = ap (λ b. if b then part_of_page page else no_part) (whole page.present present) where
  whole : (o : Option Present) → IsPresent frames o → has_page_bytes o ≡ true
  whole None h = refl
  whole (Some p) h = eq-eqb (length p.bytes.items) page_bytes h.1
