-- Counter blocks, and counter mode by the stream of encrypted counter blocks.
use Rattle.std.proofs.Common.{◌≡◌, ℕ, zero, suc, ◌+◌, ◌-◌, ◌*◌, ◌≤◌, ◌<◌, min, List, [], ◌∷◌, ◌++◌, length, take, drop, get_or, bit_xor, refl, sym, ap, ap₂, ◌∙◌, arith, inl, inr, length-append, length-take, length-drop, take-append-drop}
use Rattle.std.proofs.lemmas.List.{drop_more, drop_all, drop-drop, take_all, append-nil, append_assoc, nil_from_length}
use Rattle.std.proofs.Math.Seq.{take-add}
use Rattle.std.proofs.lemmas.Slice.{take-put_mid, drop-put_mid}
use Rattle.std.proofs.lemmas.Simd.{length-zip2}
use Rattle.std.proofs.lemmas.Bool.{cases_lt}
use Rattle.std.specs.Simd.Lanes.{zip2}
use borrow.Rule.Slice.PartMut.{put_mid}
use Rattle.eleos_base.specs.AesCipher.{aes}
use Rattle.eleos_base.specs.Gcm.{block_count, inc32, gctr, gctr_blocks}
use Rattle.eleos_base.proofs.GctrLemmas.{length-aes}
use Rattle.eleos_gcm.specs.Stream.{later, stream}

-- the counter's four bytes
pub last_four : (block : List ℕ) → length block ≡ 16
    → drop 12 block ≡ get_or block 12 0 ∷ get_or block 13 0 ∷ get_or block 14 0 ∷ get_or block 15 0 ∷ []
last_four block size =
    drop_more block 12 0 (omega arith)
    ∙ ap (λ rest. get_or block 12 0 ∷ rest) (drop_more block 13 0 (omega arith)
    ∙ ap (λ rest. get_or block 13 0 ∷ rest) (drop_more block 14 0 (omega arith)
    ∙ ap (λ rest. get_or block 14 0 ∷ rest) (drop_more block 15 0 (omega arith)
    ∙ ap (λ rest. get_or block 15 0 ∷ rest) (drop_all 16 block (omega arith)))))

take_min_right : (n : ℕ) (xs : List ℕ) → take (min (length xs) n) xs ≡ take n xs
take_min_right n xs =
    elim (cases_lt (length xs) n) [
      | inl less ↦
          let all : min (length xs) n ≡ length xs = omega arith in
          rw all (take_all (length xs) xs (omega arith) ∙ sym (take_all n xs (omega arith)))
      | inr more ↦
          let all : min (length xs) n ≡ n = omega arith in
          ap (λ k. take k xs) all
    ]

drop_cut : (k : ℕ) (xs : List ℕ) → k ≡ min (length xs) 128 → drop k xs ≡ drop 128 xs
drop_cut k xs width =
    elim (cases_lt (length xs) 128) [
      | inl less ↦ drop_all k xs (omega arith) ∙ sym (drop_all 128 xs (omega arith))
      | inr more ↦
          let all : k ≡ 128 = omega arith in
          ap (λ n. drop n xs) all
    ]

-- ---- the stream

pub later-suc : (n : ℕ) (counter : List ℕ) → later n (inc32 counter) ≡ inc32 (later n counter)
unfolding later
later-suc zero counter = refl
later-suc (suc n) counter = later-suc n (inc32 counter)

-- blocks of a list are a stream's
pub stream_rows : (key : List ℕ) (n : ℕ) (xs counter : List ℕ) → length xs ≡ 16 * n
    → ((i : ℕ) → i < n → take 16 (drop (16 * i) xs) ≡ aes key (later i counter)) → xs ≡ stream key counter n
unfolding stream later
stream_rows key zero xs counter long are = nil_from_length xs (omega arith)
stream_rows key (suc n) xs counter long are =
    sym (take-append-drop 16 xs)
    ∙ ap₂ ◌++◌ (are 0 (omega arith))
    (stream_rows key n (drop 16 xs) (inc32 counter) (omega (arith, length-drop 16 xs))
    (λ i below.
    let place : 16 + 16 * i ≡ 16 * suc i = omega arith in
    ap (take 16) (drop-drop (16 * i) 16 xs ∙ ap (λ k. drop k xs) place) ∙ are (suc i) (omega arith)))

pub length-stream : (key counter : List ℕ) (n : ℕ) → length (stream key counter n) ≡ 16 * n
unfolding stream
length-stream key counter zero = omega arith
length-stream key counter (suc n) =
    omega (arith, length-append (aes key counter) (stream key (inc32 counter) n), length-aes key counter, length-stream key (inc32 counter) n)

-- ---- counter mode by the stream

zip2_front : (text stream : List ℕ) → zip2 bit_xor text (take (length text) stream) ≡ zip2 bit_xor text stream
zip2_front [] stream = refl
zip2_front (x ∷ text) [] = refl
zip2_front (x ∷ text) (y ∷ stream) = ap (λ xs. bit_xor x y ∷ xs) (zip2_front text stream)

zip2_none : (xs : List ℕ) → zip2 bit_xor xs [] ≡ []
zip2_none [] = refl
zip2_none (x ∷ xs) = refl

-- a text whose front is as long as the first block of a stream, or all of it
zip2_joined : (a b s t : List ℕ) → length a ≤ length s → (length a < length s → b ≡ [])
    → zip2 bit_xor a s ++ zip2 bit_xor b t ≡ zip2 bit_xor (a ++ b) (s ++ t)
zip2_joined [] b [] t le short = refl
zip2_joined [] b (y ∷ s) t le short =
    let none = short (omega arith) in
    rw none refl
zip2_joined (x ∷ a) b [] t le short = absurd (omega arith)
zip2_joined (x ∷ a) b (y ∷ s) t le short =
    ap (λ xs. bit_xor x y ∷ xs) (zip2_joined a b s t (omega arith) (λ less. short (omega arith)))

-- no text has no blocks
gctr_of_none : (key counter : List ℕ) (n : ℕ) → gctr_blocks key counter n [] ≡ []
unfolding gctr_blocks
gctr_of_none key counter zero = refl
gctr_of_none key counter (suc n) = gctr_of_none key (inc32 counter) n

-- the first n blocks by the stream, and then the others
pub gctr_by_stream : (key counter : List ℕ) (n m : ℕ) (text : List ℕ)
    → gctr_blocks key counter (n + m) text
    ≡ zip2 bit_xor (take (16 * n) text) (stream key counter n) ++ gctr_blocks key (later n counter) m (drop (16 * n) text)
unfolding gctr_blocks stream later
gctr_by_stream key counter zero m text =
    let none : 0 + m ≡ m = omega arith in
    ap (λ k. gctr_blocks key counter k text) none
gctr_by_stream key counter (suc n) m text =
    let next : suc n + m ≡ suc (n + m) = omega arith in
    let place : 16 * suc n ≡ 16 + 16 * n = omega arith in
    let front = take 16 text in
    let behind = drop 16 text in
    let own = aes key counter in
    let others = stream key (inc32 counter) n in
    let rest = gctr_blocks key (later n (inc32 counter)) m (drop (16 * n) behind) in
    let size : length front ≤ length own = omega (arith, length-take 16 text, length-aes key counter) in
    let short : length front < length own → take (16 * n) behind ≡ [] =
    λ less. nil_from_length (take (16 * n) behind) (omega (arith, length-take (16 * n) behind, length-drop 16 text, length-take 16 text, length-aes key counter)) in
    let all : front ++ take (16 * n) behind ≡ take (16 * suc n) text = sym (take-add 16 (16 * n) text) ∙ ap (λ k. take k text) (sym place) in
    let moved : drop (16 * n) behind ≡ drop (16 * suc n) text = drop-drop (16 * n) 16 text ∙ ap (λ k. drop k text) (sym place) in
    ap (λ k. gctr_blocks key counter k text) next
    ∙ ap₂ ◌++◌ (zip2_front front own) (gctr_by_stream key (inc32 counter) n m behind)
    ∙ sym (append_assoc (zip2 bit_xor front own) (zip2 bit_xor (take (16 * n) behind) others) rest)
    ∙ ap (λ xs. xs ++ rest) (zip2_joined front (take (16 * n) behind) own others size short)
    ∙ ap₂ (λ xs ys. zip2 bit_xor xs (own ++ others) ++ gctr_blocks key (later n (inc32 counter)) m ys) all moved

-- blocks past the end of a text change nothing
pub gctr_enough : (key counter : List ℕ) (n m : ℕ) (text : List ℕ) → length text ≤ 16 * n
    → gctr_blocks key counter (n + m) text ≡ gctr_blocks key counter n text
gctr_enough key counter n m text enough =
    let none = drop_all (16 * n) text enough in
    let whole : n ≡ n + 0 = omega arith in
    let front = zip2 bit_xor (take (16 * n) text) (stream key counter n) in
    gctr_by_stream key counter n m text
    ∙ ap (λ xs. front ++ gctr_blocks key (later n counter) m xs) none
    ∙ ap (λ xs. front ++ xs) (gctr_of_none key (later n counter) m ∙ sym (gctr_of_none key (later n counter) 0))
    ∙ ap (λ xs. front ++ gctr_blocks key (later n counter) 0 xs) (sym none)
    ∙ sym (gctr_by_stream key counter n 0 text) ∙ ap (λ k. gctr_blocks key counter k text) (sym whole)

-- the text is done up to a place, and the rest is to be done from the counter on
pub record IsUnderWay (key first : List ℕ) (old counter text : List ℕ) (at : ℕ) : Type 0 where
  pub size : length text ≡ length old
  pub within : at ≤ length old
  pub parts : (m : ℕ) → length old ≤ at + 16 * m
      → take at text ++ gctr_blocks key counter m (drop at text) ≡ gctr key first old

-- before the first step nothing is done, and all is to be done from the first counter on
pub none_yet : (key first old : List ℕ) → IsUnderWay key first old first old 0
unfolding gctr
none_yet key first old =
    let n = block_count (length old) in
    record {
      size = refl;
      within = omega arith;
      parts = λ m enough. (let split : n + (m - n) ≡ m = omega arith in
          ap (λ k. gctr_blocks key first k old) (sym split) ∙ gctr_enough key first n (m - n) old (omega arith));
    }

-- up to eight blocks more were added to the stream from the counter on: so much more is done, and the counter is eight later
pub one_more : (key first old counter text part : List ℕ) (at k : ℕ) → k ≡ min (length old - at) 128
    → part ≡ zip2 bit_xor (take k (drop at text)) (take k (stream key counter 8))
    → IsUnderWay key first old counter text at
    → IsUnderWay key first old (later 8 counter) (put_mid at k text part) (at + k)
one_more key first old counter text part at k width is under =
    let rest = drop at text in
    let fit : k ≡ min (length rest) 128 = omega (arith, length-drop at text, under.size) in
    let front : take k rest ≡ take 128 rest = rw fit (take_min_right 128 rest) in
    let long : length (take k rest) ≡ k = omega (arith, length-take k rest) in
    let same : length (take k rest) ≡ length (take k (stream key counter 8)) =
    omega (arith, long, length-take k (stream key counter 8), length-stream key counter 8) in
    let size : length part ≡ k = omega (arith, ap length is, length-zip2 bit_xor (take k rest) (take k (stream key counter 8)) same) in
    let within : at ≤ length text = omega (arith, under.size, under.within) in
    let ahead : take (at + k) (put_mid at k text part) ≡ take at text ++ part = take-put_mid at k text part (at + k) (omega arith) within in
    let behind : drop (at + k) (put_mid at k text part) ≡ drop k rest =
    drop-put_mid at k text part (at + k) (omega arith) within size ∙ sym (drop-drop k at text) in
    let dropped : drop k rest ≡ drop 128 rest = drop_cut k rest fit in
    let own : part ≡ zip2 bit_xor (take 128 rest) (stream key counter 8) =
    is ∙ ap (λ n. zip2 bit_xor (take k rest) (take n (stream key counter 8))) (sym long) ∙ zip2_front (take k rest) (stream key counter 8)
    ∙ ap (λ xs. zip2 bit_xor xs (stream key counter 8)) front in
    record {
      size =
          omega (
            arith,
            under.size,
            size,
            length-append (take at text) (part ++ drop k rest),
            length-append part (drop k rest),
            length-take at text,
            length-drop k rest,
            length-drop at text,
          );
      within = omega (arith, width, under.within);
      parts = λ m enough.
          rw (ahead, behind, dropped)
          (append_assoc (take at text) part (gctr_blocks key (later 8 counter) m (drop 128 rest))
          ∙ ap (λ p. take at text ++ (p ++ gctr_blocks key (later 8 counter) m (drop 128 rest))) own
          ∙ ap (λ xs. take at text ++ xs) (sym (gctr_by_stream key counter 8 m rest))
          ∙ under.parts (8 + m) (omega (arith, width)));
    }

-- a text that is done up to its end is the old one under GCTR
pub all_done : (key first old counter text : List ℕ) (at : ℕ) → length old ≤ at
    → IsUnderWay key first old counter text at → text ≡ gctr key first old
unfolding gctr_blocks
all_done key first old counter text at last under =
    sym (append-nil (take at text) ∙ take_all at text (omega (arith, under.size))) ∙ under.parts 0 (omega arith)

-- the counter that is n later, with one added, is the one that is n + 1 later
pub later_next : (n : ℕ) (counter : List ℕ) → inc32 (later n counter) ≡ later (n + 1) counter
unfolding later
later_next n counter =
    let next : suc n ≡ n + 1 = omega arith in
    sym (later-suc n counter) ∙ ap (λ k. later k counter) next
