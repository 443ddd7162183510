-- The places of a page's sealed sub-pages, one sub-page after another.
use Rattle.std.proofs.Common.{◌≡◌, ℕ, zero, suc, ◌+◌, ◌<◌, ◌≤◌, List, [], ◌∷◌, ◌++◌, length, map, take, Bool, true, false, Option, Some, None, is_some, if◌then◌else◌, slice_index_or, refl, sym, ◌∙◌, ap, arith}
use Rattle.eleos_core.specs.declared.cells.sub_page.SubPage.{SubPage}
use Rattle.eleos_base.specs.Lists.{map_from}
use Rattle.eleos_core.specs.declared.cells.page.Present.{Present}
use Rattle.eleos_core.specs.Cells.{part_with, piece, sub_parts}
use Rattle.eleos_core.specs.Parts.{SubPart, sealed_from}
use Rattle.eleos_core.proofs.Tests.{by_test}

-- the place of the sub-page, where it is sealed
abbrev pub place_if : Bool → ℕ → List ℕ
place_if sealed s = if sealed then s ∷ [] else []

-- sub-pages without their bytes
abbrev pub bare : List SubPage → List SubPart
bare us = map (λ u. part_with u []) us

none_behind : (b : Bool) (s : ℕ) → (if b then s ∷ [] else []) ≡ place_if b s
none_behind true s = refl
none_behind false s = refl

-- one sub-page more
more : (us : List SubPage) (s i : ℕ) (u : SubPage) → i < length us → u ≡ slice_index_or us i u → sealed_from s (bare (take (suc i) us)) ≡ sealed_from s (bare (take i us)) ++ place_if (is_some u.tag) (s + i)
more [] s i u l is = absurd (omega arith)
more (v ∷ us) s zero u l is = none_behind (is_some v.tag) s ∙ (ap (λ (w : SubPage). place_if (is_some w.tag) s) (sym is) ∙ ap (place_if (is_some u.tag)) same)
  where
    same : s ≡ s + 0
    same = omega arith
more (v ∷ us) s (suc i) u l is = step (more us (s + 1) i u (omega arith) is)
  where
    next : s + 1 + i ≡ s + suc i
    next = omega arith

    step : sealed_from (s + 1) (bare (take (suc i) us)) ≡ sealed_from (s + 1) (bare (take i us)) ++ place_if (is_some u.tag) (s + 1 + i)
        → sealed_from s (bare (v ∷ take (suc i) us)) ≡ sealed_from s (bare (v ∷ take i us)) ++ place_if (is_some u.tag) (s + suc i)
    step rest = by_test (is_some v.tag) (λ b. (if b then s ∷ sealed_from (s + 1) (bare (take (suc i) us)) else sealed_from (s + 1) (bare (take (suc i) us)))
        ≡ (if b then s ∷ sealed_from (s + 1) (bare (take i us)) else sealed_from (s + 1) (bare (take i us))) ++ place_if (is_some u.tag) (s + suc i))
        (λ _. ap (λ r. s ∷ r) (rest ∙ ap (λ n. sealed_from (s + 1) (bare (take i us)) ++ place_if (is_some u.tag) n) next))
        (λ _. rest ∙ ap (λ n. sealed_from (s + 1) (bare (take i us)) ++ place_if (is_some u.tag) n) next)

pub sealed_more : (us : List SubPage) (s i : ℕ) (u : SubPage) → i < length us → u ≡ slice_index_or us i u → sealed_from s (bare (take (i + 1) us)) ≡ sealed_from s (bare (take i us)) ++ place_if (is_some u.tag) (s + i)
sealed_more us s i u l is = ap (λ n. sealed_from s (bare (take n us))) one ∙ more us s i u l is
  where
    one : i + 1 ≡ suc i
    one = omega arith

-- there are no more places than sub-pages
pub sealed_few : (s : ℕ) (us : List SubPart) → length (sealed_from s us) ≤ length us
sealed_few s [] = omega arith
sealed_few s (u ∷ us) = by_test u.is_sealed (λ b. length (if b then s ∷ sealed_from (s + 1) us else sealed_from (s + 1) us) ≤ suc (length us))
    (λ _. let rest = sealed_few (s + 1) us in omega arith)
    (λ _. let rest = sealed_few (s + 1) us in omega arith)

-- bytes make no difference
bytes_apart : (h : ℕ → List ℕ) (s i : ℕ) (us : List SubPage) → sealed_from s (map_from (λ j u. part_with u (h j)) i us) ≡ sealed_from s (bare us)
bytes_apart h s i [] = refl
bytes_apart h s i (u ∷ us) = ap (λ r. if is_some u.tag then s ∷ r else r) (bytes_apart h (s + 1) (i + 1) us)

-- a page's sealed sub-pages are the same whether its bytes lie in a frame or not
pub sealed_bare : (s : ℕ) (us : List SubPage) (present : Option Present) → sealed_from s (sub_parts us present) ≡ sealed_from s (bare us)
sealed_bare s us None = refl
sealed_bare s us (Some present) = bytes_apart (λ i. piece i present.bytes.items) s 0 us
