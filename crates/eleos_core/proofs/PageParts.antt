-- The parts of a page's sub-pages, one by one, and what becomes of them where one sub-page or its bytes change.
use Rattle.std.proofs.Common.{◌≡◌, ◌≢◌, ◌⊎◌, ℕ, zero, suc, ◌+◌, ◌-◌, ◌*◌, ◌<◌, ◌≤◌, List, [], ◌∷◌, ◌++◌, length, take, drop, Option, Some, None, is_some, if◌then◌else◌, slice_index_or, refl, sym, ◌∙◌, ap, arith, inl, inr, length-append, length-drop}
use Rattle.std.proofs.lemmas.List.{append_assoc, drop-append-le, drop-drop, drop-take, ext_get_or, get_or-map, length-map, length-take-le, take-append-le, take-take}
use Rattle.std.proofs.Math.Seq.{drop-append-add, take-append-add}
use Rattle.eleos_base.specs.Lists.{map_from}
use Rattle.eleos_core.specs.declared.cells.page.Present.{Present}
use Rattle.eleos_core.specs.declared.cells.sub_page.SubPage.{SubPage}
use Rattle.eleos_core.specs.Accesses.{with_bytes}
use Rattle.eleos_core.specs.Cells.{frame_of_page, part_with, piece, sub_parts}
use Rattle.eleos_core.specs.Parts.{SubPart, blank_sub}

pub get_or-map_from : {A B : Type 0} (f : ℕ → A → B) (first : ℕ) (xs : List A) (i : ℕ) (d : A) (e : B) → i < length xs
    → slice_index_or (map_from f first xs) i e ≡ f (first + i) (slice_index_or xs i d)
get_or-map_from f first [] i d e inside = absurd (omega arith)
get_or-map_from f first (x ∷ xs) zero d e inside = let same : first ≡ first + 0 = omega arith in ap (λ n. f n x) same
get_or-map_from f first (x ∷ xs) (suc i) d e inside =
    let same : first + 1 + i ≡ first + suc i = omega arith in
    get_or-map_from f (first + 1) xs i d e (omega arith) ∙ ap (λ n. f n (slice_index_or xs i d)) same

pub length-map_from : {A B : Type 0} (f : ℕ → A → B) (first : ℕ) (xs : List A) → length (map_from f first xs) ≡ length xs
length-map_from f first [] = refl
length-map_from f first (x ∷ xs) = ap suc (length-map_from f (first + 1) xs)

-- the bytes of the i-th sub-page, where its page is in a frame
abbrev pub bytes_in : Option Present → ℕ → List ℕ
bytes_in None i = []
bytes_in (Some present) i = piece i present.bytes.items

-- there are none where it is not
pub bytes_in-absent : (present : Option Present) (i : ℕ) → bytes_in present i ≡ (if is_some (frame_of_page present) then bytes_in present i else [])
bytes_in-absent None i = refl
bytes_in-absent (Some present) i = refl

-- the part of the i-th sub-page
abbrev pub part_at_index : List SubPage → Option Present → ℕ → SubPage → SubPart
part_at_index us present i d = part_with (slice_index_or us i d) (bytes_in present i)

-- a page has as many of them as sub-pages
pub length-sub_parts : (us : List SubPage) (present : Option Present) → length (sub_parts us present) ≡ length us
length-sub_parts us None = length-map us (λ u. part_with u [])
length-sub_parts us (Some present) = length-map_from (λ i u. part_with u (piece i present.bytes.items)) 0 us

-- and in each place that of the sub-page there
pub sub_parts_at : (us : List SubPage) (present : Option Present) (i : ℕ) (d : SubPage) → i < length us
    → slice_index_or (sub_parts us present) i blank_sub ≡ part_at_index us present i d
sub_parts_at us None i d inside = get_or-map (λ u. part_with u []) us i d blank_sub inside
sub_parts_at us (Some present) i d inside =
    let same : 0 + i ≡ i = omega arith in
    get_or-map_from (λ i u. part_with u (piece i present.bytes.items)) 0 us i d blank_sub inside
    ∙ ap (λ n. part_with (slice_index_or us i d) (piece n present.bytes.items)) same

-- sub-pages whose parts are what f makes of the parts before
pub sub_parts-made : (f : ℕ → SubPart → SubPart) (us us' : List SubPage) (present present' : Option Present) (first : ℕ) (d : SubPage) → length us' ≡ length us
    → ((i : ℕ) → i < length us → part_at_index us' present' i d ≡ f (first + i) (part_at_index us present i d))
    → sub_parts us' present' ≡ map_from f first (sub_parts us present)
sub_parts-made f us us' present present' first d same made =
    ext_get_or blank_sub (sub_parts us' present') (map_from f first (sub_parts us present))
    (length-sub_parts us' present' ∙ (same ∙ sym (length-map_from f first (sub_parts us present) ∙ length-sub_parts us present)))
    (λ i inside.
    let small' : i < length us' = (let long = length-sub_parts us' present' in omega arith) in
    let small : i < length us = omega arith in
    let small'' : i < length (sub_parts us present) = (let long = length-sub_parts us present in omega arith) in
    sub_parts_at us' present' i d small' ∙ (made i small
    ∙ sym (get_or-map_from f first (sub_parts us present) i blank_sub blank_sub small'' ∙ ap (f (first + i)) (sub_parts_at us present i d small))))

-- a piece is as long as a sub-page
pub length-piece : (bytes : List ℕ) (i : ℕ) → 1024 * i + 1024 ≤ length bytes → length (piece i bytes) ≡ 1024
length-piece bytes i inside = length-take-le 1024 (drop (1024 * i) bytes) (omega (arith, length-drop (1024 * i) bytes))

-- a piece lies in front of the new bytes, or behind them
front_kept : (bytes new : List ℕ) (j from : ℕ) → 1024 * j + 1024 ≤ from → from ≤ length bytes → piece j (with_bytes bytes from new) ≡ piece j bytes
front_kept bytes new j from before inside =
    let long : length (take from bytes) ≡ from = length-take-le from bytes inside in
    let at : 1024 * j ≤ length (take from bytes) = omega arith in
    let rest : List ℕ = new ++ drop (from + length new) bytes in
    let low : from ≡ 1024 * j + (from - 1024 * j) = omega arith in
    let dropped : drop (1024 * j) (take from bytes) ≡ take (from - 1024 * j) (drop (1024 * j) bytes)
    = ap (λ n. drop (1024 * j) (take n bytes)) low ∙ drop-take (1024 * j) (from - 1024 * j) bytes in
    let size : 1024 ≤ length (drop (1024 * j) (take from bytes)) = omega (arith, length-drop (1024 * j) (take from bytes)) in
    ap (take 1024) (drop-append-le (1024 * j) (take from bytes) rest at)
    ∙ (take-append-le 1024 (drop (1024 * j) (take from bytes)) rest size
    ∙ (ap (take 1024) dropped ∙ take-take 1024 (from - 1024 * j) (drop (1024 * j) bytes) (omega arith)))

behind : (bytes new : List ℕ) (from skip : ℕ) → from ≤ length bytes → from + length new ≤ skip → drop skip (with_bytes bytes from new) ≡ drop skip bytes
behind bytes new from skip inside past =
    let front : List ℕ = take from bytes ++ new in
    let long : length front ≡ from + length new = length-append (take from bytes) new ∙ ap (λ n. n + length new) (length-take-le from bytes inside) in
    let onto : with_bytes bytes from new ≡ front ++ drop (from + length new) bytes = sym (append_assoc (take from bytes) new (drop (from + length new) bytes)) in
    let more : skip ≡ length front + (skip - (from + length new)) = omega arith in
    let again : from + length new + (skip - (from + length new)) ≡ skip = omega arith in
    ap (drop skip) onto ∙ (ap (λ n. drop n (front ++ drop (from + length new) bytes)) more
    ∙ (drop-append-add front (drop (from + length new) bytes) (skip - (from + length new))
    ∙ (drop-drop (skip - (from + length new)) (from + length new) bytes ∙ ap (λ n. drop n bytes) again)))

back_kept : (bytes new : List ℕ) (j from : ℕ) → from ≤ length bytes → from + length new ≤ 1024 * j → piece j (with_bytes bytes from new) ≡ piece j bytes
back_kept bytes new j from inside past = ap (take 1024) (behind bytes new from (1024 * j) inside past)

-- the other pieces are kept
pub piece-kept : (bytes new : List ℕ) (i j from : ℕ) → i ≢ j → 1024 * i ≤ from → from + length new ≤ 1024 * i + 1024 → from ≤ length bytes
    → piece j (with_bytes bytes from new) ≡ piece j bytes
piece-kept bytes new i j from differ low high inside = kept (lower j i differ) where
  lower : (j i : ℕ) → i ≢ j → (j < i) ⊎ (i < j)
  lower j i differ = grind arith

  kept : (j < i) ⊎ (i < j) → piece j (with_bytes bytes from new) ≡ piece j bytes
  kept (inl before) = front_kept bytes new j from (omega arith) inside
  kept (inr after) = back_kept bytes new j from inside (omega arith)

-- and the piece has the new bytes
pub piece-changed : (bytes new : List ℕ) (i from : ℕ) → from + length new ≤ 1024 → 1024 * i + 1024 ≤ length bytes
    → piece i (with_bytes bytes (1024 * i + from) new) ≡ with_bytes (piece i bytes) from new
piece-changed bytes new i from within inside =
    let start : ℕ = 1024 * i in
    let part : List ℕ = drop start bytes in
    let n : ℕ = length new in
    let long : length (take (start + from) bytes) ≡ start + from = length-take-le (start + from) bytes (omega arith) in
    let room : length part ≡ length bytes - start = length-drop start bytes in
    let front : length (take from part) ≡ from = length-take-le from part (omega arith) in
    let at : start ≤ length (take (start + from) bytes) = omega arith in
    let up : start + (from + n) ≡ start + from + n = omega arith in
    let tail : drop (start + from + n) bytes ≡ drop (from + n) part = sym (drop-drop (from + n) start bytes ∙ ap (λ z. drop z bytes) up) in
    let both : List ℕ = take from part ++ new in
    let sum : length both ≡ from + n = length-append (take from part) new ∙ ap (λ z. z + n) front in
    let whole : 1024 ≡ length both + (1024 - (from + n)) = omega arith in
    let all : 1024 ≡ from + n + (1024 - (from + n)) = omega arith in
    let kept : take (1024 - (from + n)) (drop (from + n) part) ≡ drop (from + n) (take 1024 part)
    = sym (ap (λ z. drop (from + n) (take z part)) all ∙ drop-take (from + n) (1024 - (from + n)) part) in
    ap (take 1024) (drop-append-le start (take (start + from) bytes) (new ++ drop (start + from + n) bytes) at
    ∙ ap (λ z. z ++ (new ++ drop (start + from + n) bytes)) (drop-take start from bytes))
    ∙ (ap (λ z. take 1024 (take from part ++ (new ++ z))) tail
    ∙ (ap (take 1024) (sym (append_assoc (take from part) new (drop (from + n) part)))
    ∙ (ap (λ z. take z (both ++ drop (from + n) part)) whole
    ∙ (take-append-add both (drop (from + n) part) (1024 - (from + n))
    ∙ (ap (λ z. both ++ z) kept
    ∙ (append_assoc (take from part) new (drop (from + n) (take 1024 part))
    ∙ ap (λ z. z ++ (new ++ drop (from + n) (take 1024 part))) (sym (take-take from 1024 part (omega arith)))))))))
