-- What tests of owners and of links tell.
use Rattle.std.proofs.Common.{◌≡◌, ◌≢◌, ℕ, ◌+◌, ◌*◌, ◌<◌, ◌≤◌, List, length, slice_index, slice_index_or, Bool, true, false, not, Option, Some, None, is_some, nat_eq, refl, subst, ◌∙◌, ap, arith, eq-eqb}
use Rattle.std.specs.Option.{option_eq}
use Rattle.std.proofs.lemmas.Bool.{eqb-true}
use Rattle.std.proofs.lemmas.List.{get_or_default}
use Rattle.std.proofs.lemmas.Nat.{mul-add-lt}
use Rattle.eleos_core.specs.declared.cells.page.Present.{Present}
use Rattle.eleos_core.specs.Cells.{frame_of_page}
use Rattle.eleos_base.specs.Places.{Owner}

-- what is not denied holds
pub not_false : (b : Bool) → not b ≡ false → b ≡ true
not_false true is = refl
not_false false is = cc

-- two owners that the test tells apart, or not
pub owner_same : (a b : Owner) → option_eq nat_eq a b ≡ true → a ≡ b
owner_same None None is = refl
owner_same None (Some e) is = cc
owner_same (Some e) None is = cc
owner_same (Some e) (Some o) is = ap Some (eqb-true e o is)

owner_itself : (a : Owner) → option_eq nat_eq a a ≡ true
owner_itself None = refl
owner_itself (Some e) = eq-eqb e e refl

-- two owners that the test tells apart are not one
pub owner_other : (a b : Owner) → option_eq nat_eq a b ≡ false → a ≢ b
owner_other a b is same = let yes : option_eq nat_eq a b ≡ true = subst (λ o. option_eq nat_eq a o ≡ true) same (owner_itself a) in cc

-- a number of links that was read, and is not 0
pub link_here : (links : List ℕ) (caller pages page callers n read : ℕ) → read ≡ slice_index_or links (caller * n + page) read → read ≢ 0 → n ≡ pages → caller < callers → page < pages
    → length links ≡ callers * pages → 1 ≤ slice_index links (caller * pages + page)
link_here links caller pages page callers n read read_is some same caller_exists page_exists whole =
    let inside : caller * pages + page < length links = omega (arith, mul-add-lt caller pages page callers caller_exists page_exists) in
    let at : read ≡ slice_index links (caller * pages + page) = read_is ∙ (ap (λ m. slice_index_or links (caller * m + page) read) same ∙ get_or_default links (caller * pages + page) read 0 inside) in
    omega arith

-- a page that is in no frame
pub not_present : (o : Option Present) → is_some o ≡ false → frame_of_page o ≡ None
not_present None is = refl
not_present (Some present) is = cc
