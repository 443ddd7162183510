-- An evict over a tap: one sub-page more, sealed where it is dirty.
use Rattle.std.proofs.Common.{◌≡◌, ℕ, zero, suc, ◌+◌, ◌<◌, ◌≤◌, List, [], ◌∷◌, ◌++◌, length, map, take, get_or, slice_set, true, false, Bool, None, Some, if◌then◌else◌, refl, sym, ◌∙◌, ap, arith, add-one}
use Rattle.std.specs.Option.{option_to_list}
use Rattle.std.proofs.lemmas.List.{length-append, take_all}
use Rattle.eleos_base.specs.Lists.{map_from}
use Rattle.eleos_core.specs.declared.cells.sub_page.SubPage.{SubPage}
use Rattle.eleos_core.specs.Cells.{part_with, piece}
use Rattle.eleos_core.specs.Evicts.{sealed_block, sealed_blocks, sealed_sub}
use Rattle.eleos_core.specs.Parts.{SubPart}
use Rattle.eleos_core.specs.Seals.{Seals}
use Rattle.eleos_core.proofs.Pieces.{blank, blocks-more, length-map_from, part_at_place, parts_with, subs_next}
use Rattle.eleos_host.specs.declared.port.HostPort.{Ghosts}
use Rattle.eleos_host.specs.declared.port.HostStore as store
use Rattle.eleos_host.specs.Taps.{TapState}
use Rattle.eleos_pages.specs.Crossed.{Crosses}
use Rattle.eleos_pages.proofs.CrossedMore.{crosses-same, crosses-then}

-- a list with one item written stays the same before it, and ends with it
pub take-written : {A : Type 0} (xs : List A) (i : ℕ) (y d : A) → i < length xs → take (i + 1) (slice_set xs i y) ≡ take i xs ++ y ∷ []
take-written [] i y d inside = absurd (omega arith)
take-written (z ∷ xs) zero y d inside = refl
take-written (z ∷ xs) (suc i) y d inside = ap (λ n. take n (slice_set (z ∷ xs) (suc i) y)) (let e : suc i + 1 ≡ suc (i + 1) = omega arith in e) ∙ ap (λ r. z ∷ r) (take-written xs i y d (omega arith))

-- how many blocks a sub-page is sealed to
sent_most : (x : Seals) (s : ℕ) (v : SubPart) → length (option_to_list (sealed_block x s v)) ≤ 1
sent_most x s v = by_dirty v.is_dirty
  where
    by_dirty : (b : Bool) → length {A = ℕ × List ℕ} (option_to_list (if b then Some (s, x.seal s (v.version + 1) v.bytes) else None)) ≤ 1
    by_dirty true = omega arith
    by_dirty false = omega arith

-- a sub-page is sealed to one block at the most
pub sent_few : (x : Seals) (s m : ℕ) (v : SubPart) → m ≡ length (option_to_list (sealed_block x s v)) → m ≤ 1
sent_few x s m v is = let most = sent_most x s v in omega arith

module _ (x : Seals) (first : ℕ) (old : List SubPage) (bytes : List ℕ) (i : ℕ) (inside : i < length old) where
  abbrev parts : List SubPart
  parts = parts_with bytes old

  abbrev blocks_to : ℕ → List (ℕ × List ℕ)
  blocks_to n = sealed_blocks x first (take n parts)

  in_parts : i < length parts
  in_parts = let same = length-map_from (λ j v. part_with v (piece j bytes)) 0 old in omega arith

  module _ (u : SubPage) (text : List ℕ) (value : u ≡ get_or old i blank) (text_is : text ≡ piece i bytes) where
    -- the sub-pages
    pub evict_next : (subs : List SubPage) (u' : SubPage) → length subs ≡ length old → part_with u' [] ≡ sealed_sub x (first + i) (part_with u text)
        → map (λ (v : SubPage). part_with v []) (take i subs) ≡ map_from (sealed_sub x) first (take i parts)
        → map (λ (v : SubPage). part_with v []) (take (i + 1) (slice_set subs i u')) ≡ map_from (sealed_sub x) first (take (i + 1) parts)
    evict_next subs u' same made so_far = subs_next x bytes old first i text u' (take i subs) (take (i + 1) (slice_set subs i u')) inside text_is
        (made ∙ ap (λ (v : SubPage). sealed_sub x (first + i) (part_with v text)) value) (take-written subs i u' blank (omega arith)) so_far

    -- the blocks
    blocks_next : blocks_to (i + 1) ≡ blocks_to i ++ option_to_list (sealed_block x (first + i) (part_with u text))
    blocks_next = ap (λ n. blocks_to n) (add-one i) ∙ (blocks-more x first parts i (part_with u text) in_parts
        ∙ ap (λ v. blocks_to i ++ option_to_list (sealed_block x (first + i) v)) (part_at_place x bytes old first i text inside text_is (part_with u text) ∙ ap (λ (v : SubPage). part_with v text) (sym value)))

    -- with one sub-page more, as many blocks more were put as it is sealed to
    pub sent_next : (n m : ℕ) → n ≡ length (blocks_to i) → m ≡ length (option_to_list (sealed_block x (first + i) (part_with u text))) → n + m ≡ length (blocks_to (i + 1))
    sent_next n m so_far more = (λ t. so_far t + more t) ∙ (sym (length-append (blocks_to i) (option_to_list (sealed_block x (first + i) (part_with u text)))) ∙ ap length (sym blocks_next))

    -- the host took the blocks so far, and then those of one sub-page more
    pub gone_next : {P : Type 0} (port : Ghosts P) (host : store.Ghosts P) (a b c : TapState P) → Crosses port host a b [] (blocks_to i)
        → Crosses port host b c [] (option_to_list (sealed_block x (first + i) (part_with u text))) → Crosses port host a c [] (blocks_to (i + 1))
    gone_next port host a b c so_far more = crosses-same port host a c _ _ _ _ refl (sym blocks_next) (crosses-then port host a b c [] [] _ _ so_far more)

-- all sub-pages
pub bare_all : (i : ℕ) (subs : List SubPage) → length subs ≤ i → map (λ (v : SubPage). part_with v []) subs ≡ map (λ (v : SubPage). part_with v []) (take i subs)
bare_all i subs all = ap (map (λ (v : SubPage). part_with v [])) (sym (take_all i subs all))
