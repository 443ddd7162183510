-- Where a pointer stands: within its enclave, on a page of the machine.
use Rattle.std.proofs.Common.{◌≡◌, ℕ, ◌+◌, ◌*◌, ◌%◌, ◌<◌, ◌≤◌, ◌==◌, ◌&&◌, List, length, true, nat_le, slice_index, sym, ◌∙◌, ap, subst, arith}
use Rattle.std.proofs.lemmas.Bool.{eq-eqb}
use Rattle.std.proofs.lemmas.Bool.Decides.{nat_tests}
use Rattle.std.proofs.lemmas.List.{length-map}
use Rattle.std.proofs.lemmas.List.Sums.{sum_by_more_le}
use Rattle.eleos_base.specs.declared.plan.EnclavePlan.{EnclavePlan}
use Rattle.eleos_base.specs.declared.plan.Plan.{Plan}
use Rattle.eleos_base.specs.Places.{all_pages, page_counts, subs}
use Rattle.eleos_base.specs.Plain.{is_in_range}
use Rattle.eleos_base.specs.Plans.{IsCaller, IsGood, enclave_of, sub_bytes}
use Rattle.eleos_base.specs.Runs.{first_of_run}
use Rattle.eleos_core.specs.Parts.{cell_of, page_cell}
use Rattle.eleos_core.proofs.CellNumbers.{page_is}
use Rattle.eleos_core.proofs.LinkCells.{all_pages-le}
use Rattle.eleos_core.proofs.Spots.{IsInRange, at_home, page_inside}
use Rattle.eleos_machine.specs.declared.pointers.Pointer.{Pointer}
use Rattle.eleos_machine.specs.Pointers.{page_under, place_of}
use Rattle.eleos_pages.specs.Held.{IsPageOf}
use Rattle.eleos_spointer.specs.Ranges.{IsPointer}

-- an enclave has few sub-pages
few_subs : (k : Plan) (e : ℕ) → IsGood k → e < length k.enclaves → subs k e ≤ 16384
few_subs k e good home =
    let counts : List ℕ = page_counts k in
    let small : e < length counts = omega (arith, home, length-map k.enclaves (λ (made : EnclavePlan). made.pages)) in
    let within : first_of_run counts e + slice_index counts e ≤ all_pages k = sum_by_more_le (λ (n : ℕ). n) counts e 0 small in
    let all = all_pages-le k good in omega (arith, within, all)

-- a pointer stands within the sub-pages of its enclave
within_subs : (k : Plan) (e : ℕ) (pointer : Pointer) → IsPointer k e pointer → pointer.block.at + pointer.at + 1 ≤ 1024 * subs k e
within_subs k e pointer is = let whole = is.range.whole in let within = is.range.within in let inside = is.inside in omega (arith, whole, within, inside)

-- so its address is small
pub small_place : (k : Plan) (e : ℕ) (pointer : Pointer) → IsGood k → e < length k.enclaves → IsPointer k e pointer → pointer.block.at + pointer.at < 4294967296
small_place k e pointer good home is = let few = few_subs k e good home in let within = within_subs k e pointer is in omega (arith, few, within)

-- one byte where it stands is in range for the callers of the enclave
pub in_range : (k : Plan) (who : ℕ) (pointer : Pointer) → IsPointer k (enclave_of k who) pointer → IsInRange k who (place_of pointer) 1
in_range k who pointer is = record {
  enclave = is.range.home;
  some = omega arith;
  in_one = omega arith;
  in_all = within_subs k (enclave_of k who) pointer is;
}

-- as the test says
pub byte_in_range : (k : Plan) (who : ℕ) (pointer : Pointer) → IsPointer k (enclave_of k who) pointer → is_in_range (sub_bytes k (enclave_of k who)) (enclave_of k who) (subs k (enclave_of k who)) (place_of pointer) 1 ≡ true
byte_in_range k who pointer is =
    let home : (pointer.block.enclave == enclave_of k who) ≡ true = eq-eqb pointer.block.enclave (enclave_of k who) is.range.home in
    let one : nat_le ((pointer.block.at + pointer.at) % 1024 + 1) 1024 ≡ true = grind (arith, nat_tests) in
    let within = within_subs k (enclave_of k who) pointer is in
    let all : nat_le (pointer.block.at + pointer.at + 1) (1024 * subs k (enclave_of k who)) ≡ true = grind (arith, nat_tests, within) in
    λ i. home i && true && one i && all i

-- its page is one of the machine's
pub page_within : (k : Plan) (who : ℕ) (pointer : Pointer) → IsGood k → IsCaller k who → IsPointer k (enclave_of k who) pointer → page_under k pointer < all_pages k
page_within k who pointer good caller is = page_inside k who (place_of pointer) 1 good caller (in_range k who pointer is)

-- its enclave is one of the plan's
pub home_below : (k : Plan) (who : ℕ) (pointer : Pointer) → IsGood k → IsCaller k who → IsPointer k (enclave_of k who) pointer → pointer.block.enclave < length k.enclaves
home_below k who pointer good caller is = subst (λ e. e < length k.enclaves) (sym is.range.home) (at_home k who good caller)

-- in which it stands
pub at_own : (k : Plan) (e : ℕ) (pointer : Pointer) → IsPointer k e pointer → IsPointer k pointer.block.enclave pointer
at_own k e pointer is = subst (λ d. IsPointer k d pointer) (sym is.range.home) is

-- the enclave of a caller is one of the plan's
pub at_caller : (k : Plan) (who : ℕ) → IsGood k → IsCaller k who → enclave_of k who < length k.enclaves
at_caller k who good caller = at_home k who good caller

-- where so many bytes from a pointer on lie in one sub-page, this is the number of the cell of its page
pub found_here : (k : Plan) (who : ℕ) (pointer : Pointer) (n cell : ℕ) → IsGood k → IsCaller k who → IsPointer k (enclave_of k who) pointer
    → is_in_range (sub_bytes k pointer.block.enclave) pointer.block.enclave (subs k pointer.block.enclave) (place_of pointer) n ≡ true → cell ≡ page_cell k (page_under k pointer) → IsPageOf k who (place_of pointer) n cell
found_here k who pointer n cell good caller is range cell_is =
    let inside = page_within k who pointer good caller is in record {
      range = subst (λ e. is_in_range (sub_bytes k e) e (subs k e) (place_of pointer) n ≡ true) is.range.home range;
      cell_is = cell_is;
      the_page_is = ap (cell_of k) cell_is ∙ page_is k (page_under k pointer) inside;
      in_machine = omega (arith, cell_is, inside);
    }
