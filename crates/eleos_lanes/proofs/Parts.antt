-- Bytes by the S-box, part after part.
use Rattle.std.proofs.Common.{◌≡◌, ℕ, zero, suc, ◌+◌, ◌*◌, ◌/◌, ◌%◌, ◌≤◌, ◌<◌, List, [], ◌∷◌, ◌++◌, length, take, drop, get_or, map, refl, sym, ap, ap₂, ◌∙◌, arith, length-append, length-take, length-drop}
use Rattle.std.proofs.lemmas.List.{drop-drop, ext_get_or, get_or-drop, get_or-map, get_or-take, length-map, map-append}
use Rattle.std.proofs.Math.Seq.{take-add}
use Rattle.std.proofs.lemmas.Slice.{drop-put_mid, take-put_mid}
use borrow.Rule.Slice.PartMut.{put_mid}
use Rattle.eleos_base.specs.SBox.{s_box}
use Rattle.eleos_base.specs.AesState.{sub_bytes}
use Rattle.eleos_lanes.proofs.Bits.{below_sixteen}

byte_of_state : (s : List ℕ) (r : ℕ) → r < 16 → get_or (sub_bytes s) r 0 ≡ s_box (get_or s r 0)
unfolding sub_bytes
byte_of_state s =
    below_sixteen (λ r. get_or (sub_bytes s) r 0 ≡ s_box (get_or s r 0)) refl refl refl refl refl refl refl refl refl refl refl refl refl refl refl refl

byte_in_row : (xs : List ℕ) (i : ℕ) → get_or (take 16 (drop (16 * (i / 16)) xs)) (i % 16) 0 ≡ get_or xs i 0
byte_in_row xs i =
    let place : 16 * (i / 16) + i % 16 ≡ i = omega arith in
    get_or-take 16 (drop (16 * (i / 16)) xs) (i % 16) 0 (omega arith) ∙ get_or-drop (16 * (i / 16)) xs (i % 16) 0
    ∙ ap (λ k. get_or xs k 0) place

-- eight states, each byte by the S-box
pub blocks_mapped : (old new : List ℕ) → length old ≡ 128 → length new ≡ 128
    → ((b : ℕ) → b < 8 → take 16 (drop (16 * b) new) ≡ sub_bytes (take 16 (drop (16 * b) old))) → new ≡ map s_box old
blocks_mapped old new long_old long_new are =
    ext_get_or 0 new (map s_box old) (omega (arith, length-map old s_box))
    (λ i below.
    sym (byte_in_row new i) ∙ ap (λ xs. get_or xs (i % 16) 0) (are (i / 16) (omega arith))
    ∙ byte_of_state (take 16 (drop (16 * (i / 16)) old)) (i % 16) (omega arith)
    ∙ ap s_box (byte_in_row old i) ∙ sym (get_or-map s_box old i 0 0 (omega arith)))

-- the front of the changed items is the front of the items, changed
pub take-map : (f : ℕ → ℕ) (n : ℕ) (xs : List ℕ) → take n (map f xs) ≡ map f (take n xs)
take-map f zero xs = refl
take-map f (suc n) [] = refl
take-map f (suc n) (x ∷ xs) = ap (λ ys. f x ∷ ys) (take-map f n xs)

-- one part more is done
pub part_done : (f : ℕ → ℕ) (old now part : List ℕ) (at k : ℕ) → at + k ≤ length now → part ≡ map f (take k (drop at now))
    → take at now ≡ map f (take at old) → drop at now ≡ drop at old
    → (length (put_mid at k now part) ≡ length now) × (take (k + at) (put_mid at k now part) ≡ map f (take (k + at) old))
    × (drop (k + at) (put_mid at k now part) ≡ drop (k + at) old)
part_done f old now part at k within is front behind =
    let size : length part ≡ k =
    omega (arith, ap length is, length-map (take k (drop at now)) f, length-take k (drop at now), length-drop at now) in
    let place : at + k ≡ k + at = omega arith in (
      omega (
        arith,
        size,
        length-append (take at now) (part ++ drop k (drop at now)),
        length-append part (drop k (drop at now)),
        length-take at now,
        length-drop k (drop at now),
        length-drop at now,
      ),
      take-put_mid at k now part (k + at) (omega arith) (omega arith)
          ∙ ap₂ ◌++◌ front (is ∙ ap (λ xs. map f (take k xs)) behind)
          ∙ sym (map-append f (take at old) (take k (drop at old)))
          ∙ ap (map f) (sym (take-add at k old) ∙ ap (λ n. take n old) place),
      drop-put_mid at k now part (k + at) (omega arith) (omega arith) size
          ∙ ap (λ n. drop n now) (sym place) ∙ sym (drop-drop k at now) ∙ ap (drop k) behind ∙ drop-drop k at old
          ∙ ap (λ n. drop n old) place,
    )
