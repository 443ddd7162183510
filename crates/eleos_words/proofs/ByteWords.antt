-- Bytes put as words.
use Rattle.std.proofs.Common.{◌≡◌, ℕ, ◌+◌, ◌*◌, ◌-◌, ◌≤◌, ◌<◌, List, [], ◌∷◌, ◌++◌, length, take, drop, refl, sym, ap, ◌∙◌, arith, append_assoc, append-nil, length-append, length-drop}
use Rattle.std.proofs.lemmas.List.{drop-drop, take_at, drop_at, take_all}
use Rattle.std.proofs.Math.Seq.{take-append-add}
use Rattle.eleos_words.specs.Bytes.{bytes_of_word, bytes_in, with_word_at}

pub length-bytes_of_word : (word : ℕ) → length (bytes_of_word word) ≡ 8
unfolding bytes_of_word
length-bytes_of_word word = refl

pub bytes_in-snoc : (words : List ℕ) (word : ℕ) → bytes_in (words ++ word ∷ []) ≡ bytes_in words ++ bytes_of_word word
bytes_in-snoc [] word = append-nil (bytes_of_word word)
bytes_in-snoc (x ∷ xs) word = ap (λ l. bytes_of_word x ++ l) (bytes_in-snoc xs word) ∙ sym (append_assoc (bytes_of_word x) (bytes_in xs) (bytes_of_word word))

-- words have eight bytes each
pub length-bytes_in : (words : List ℕ) → length (bytes_in words) ≡ 8 * length words
length-bytes_in [] = refl
length-bytes_in (x ∷ xs) = omega (arith, length-append (bytes_of_word x) (bytes_in xs), length-bytes_of_word x, length-bytes_in xs)

-- a word that is put behind a front
pub put_split : (buf front rest : List ℕ) (j word : ℕ) {rest' : List ℕ} → front ≡ take (8 * j) buf → rest ≡ drop (8 * j) buf
    → rest' ≡ take (length rest) (bytes_of_word word) ++ drop 8 rest → front ++ rest' ≡ with_word_at buf j word
put_split buf front rest j word {rest'} f r n =
    let len : length rest ≡ length buf - 8 * j = ap length r ∙ length-drop (8 * j) buf in
    let back : drop 8 rest ≡ drop (8 * j + 8) buf = ap (drop 8) r ∙ drop-drop 8 (8 * j) buf in
    ap (λ l. front ++ l) (n ∙ (λ i. take (len i) (bytes_of_word word) ++ back i)) ∙ ap (λ l. l ++ (take (length buf - 8 * j) (bytes_of_word word) ++ drop (8 * j + 8) buf)) f ∙ sym (append_assoc (take (8 * j) buf) (take (length buf - 8 * j) (bytes_of_word word)) (drop (8 * j + 8) buf))

-- the buffer has the first bytes of these words, as many as there is room for, and behind them what was there
abbrev pub filled : List ℕ → List ℕ → List ℕ
filled buf words = take (length buf) (bytes_in words) ++ drop (8 * length words) buf

-- one word more
pub filled-more : (buf words : List ℕ) (j word : ℕ) → length words ≡ j → 8 * j < length buf
    → with_word_at (filled buf words) j word ≡ filled buf (words ++ word ∷ [])
filled-more buf words j word count room =
    let F : List ℕ = bytes_in words in
    let R : List ℕ = drop (8 * length words) buf in
    let W : List ℕ = bytes_of_word word in
    let n : ℕ = length buf - 8 * j in
    let lenF : length F ≡ 8 * j = length-bytes_in words ∙ ap (λ k. 8 * k) count in
    let fits : length F ≤ length buf = omega arith in
    let front : take (length buf) F ≡ F = take_all (length buf) F fits in
    let now : filled buf words ≡ F ++ R = ap (λ l. l ++ R) front in
    let lenR : length R ≡ n = length-drop (8 * length words) buf ∙ ap (λ k. length buf - 8 * k) count in
    let len : length (F ++ R) - 8 * j ≡ n = omega (arith, length-append F R) in
    let head : take (8 * j) (F ++ R) ≡ F = take_at F R (8 * j) lenF in
    let tail : drop (8 * j + 8) (F ++ R) ≡ drop (8 * j + 8) buf =
    sym (drop-drop 8 (8 * j) (F ++ R)) ∙ ap (drop 8) (drop_at F R (8 * j) lenF) ∙ drop-drop 8 (8 * length words) buf ∙ ap (λ k. drop (8 * k + 8) buf) count in
    let whole : length F + n ≡ length buf = omega arith in
    let after : take (length buf) (F ++ W) ≡ F ++ take n W = ap (λ k. take k (F ++ W)) (sym whole) ∙ take-append-add F W n in
    let more : take (length buf) (bytes_in (words ++ word ∷ [])) ≡ F ++ take n W = ap (take (length buf)) (bytes_in-snoc words word) ∙ after in
    let count' : 8 * length (words ++ word ∷ []) ≡ 8 * j + 8 = omega (arith, length-append words (word ∷ [])) in
    ap (λ l. with_word_at l j word) now
    ∙ (λ i. head i ++ take (len i) W ++ tail i)
    ∙ (λ i. sym more i ++ drop (sym count' i) buf)
