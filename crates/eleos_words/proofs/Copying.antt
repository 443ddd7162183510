-- The bytes of a cell, stored and copied word by word.
use Rattle.std.proofs.Common.{◌≡◌, ℕ, zero, suc, ◌+◌, ◌*◌, ◌≤◌, ◌<◌, List, [], ◌∷◌, ◌++◌, length, take, drop, Option, Some, None, refl, sym, ap, ◌∙◌, subst, arith, append-nil, length-append, add-one, ◌≢◌}
use Rattle.std.proofs.Math.Seq.{take-nil}
use Rattle.std.proofs.lemmas.List.{drop_all, length-take, get_or-set_other}
use Rattle.eleos_words.specs.declared.layout.TheConstants.{BYTES}
use Rattle.eleos_words.specs.declared.port.RingPort.{Ghosts}
use Rattle.eleos_words.specs.declared.glance.Glance.{Glance}
use Rattle.eleos_words.specs.Bytes.{bytes_in, word_in, words_for, first_words, with_word_at}
use Rattle.eleos_words.specs.Glances.{copy_of, Copies, CopiesWords, CopiesBytes, Loads, LoadsOnce, NoneFrom}
use Rattle.eleos_words.specs.Layout.{place}
use Rattle.eleos_words.specs.Stores.{StoresAll}
use Rattle.eleos_words.specs.Told.{Placed, placed, placed_from, with_word, with_words, more_calls, AllPlaced}
use Rattle.eleos_words.proofs.ByteWords.{filled, filled-more, length-bytes_in}
use Rattle.eleos_words.proofs.Tellings.{placed_from-snoc, length-placed_from, with_words-append, more_calls-more, AllPlaced-append}

-- the first k words of some bytes are k words, with zeros past the end of the bytes
pub length-first_words : (k : ℕ) (bytes : List ℕ) → length (first_words k bytes) ≡ k
length-first_words zero bytes = refl
length-first_words (suc k) bytes = omega (arith, length-append (first_words k bytes) (word_in bytes k ∷ []), length-first_words k bytes)

-- the first k + 1 words are the first k, and word k behind them
pub first_words-more : (k : ℕ) (bytes : List ℕ) → first_words (k + 1) bytes ≡ first_words k bytes ++ word_in bytes k ∷ []
first_words-more k bytes = rw add-one refl

-- words told one after another, and one more
told-more : (told : Option (List Placed)) (at : ℕ) (words : List ℕ) (j word : ℕ) → length words ≡ j
    → with_word (with_words told (placed_from at words)) (at + j) word ≡ with_words told (placed_from at (words ++ word ∷ []))
told-more told at words j word count =
    ap (λ n. with_word (with_words told (placed_from at words)) (at + n) word) (sym count)
    ∙ sym (with_words-append told (placed_from at words) (placed (at + length words) word ∷ []))
    ∙ ap (with_words told) (sym (placed_from-snoc at words word))

-- one call more for one word more
called-more : (calls at : ℕ) (words : List ℕ) (word : ℕ)
    → more_calls (more_calls calls (length (placed_from at words))) 1 ≡ more_calls calls (length (placed_from at (words ++ word ∷ [])))
called-more calls at words word =
    let more : length (placed_from at words) + 1 ≡ length (placed_from at (words ++ word ∷ [])) =
    omega (arith, length-placed_from at words, length-placed_from at (words ++ word ∷ []), length-append words (word ∷ [])) in
    more_calls-more calls (length (placed_from at words)) 1 ∙ ap (more_calls calls) more

all-more : (R : ℕ → ℕ → Type 0) (at : ℕ) (words : List ℕ) (j word : ℕ) → length words ≡ j
    → AllPlaced R (placed_from at words) → R (at + j) word → AllPlaced R (placed_from at (words ++ word ∷ []))
all-more R at words j word count all one =
    let here : R (at + length words) word = subst (λ n. R (at + n) word) (sym count) one in
    subst (AllPlaced R) (sym (placed_from-snoc at words word))
    (AllPlaced-append R (placed_from at words) (placed (at + length words) word ∷ []) all (here, tt))

module _ {P : Type 0} (ring : Ghosts P) where
  -- one word more was stored
  pub stores-more : (p q r : P) (at : ℕ) (words : List ℕ) (j word : ℕ) → length words ≡ j → StoresAll ring p q (placed_from at words)
      → ring.wrote (at + j) word → ring.stored r ≡ with_word (ring.stored q) (at + j) word → ring.loaded r ≡ ring.loaded q
      → ring.calls r ≡ more_calls (ring.calls q) 1
      → StoresAll ring p r (placed_from at (words ++ word ∷ []))
  stores-more p q r at words j word count before wrote stored loaded calls = record {
    wrote = all-more ring.wrote at words j word count before.wrote wrote;
    stored = stored ∙ ap (λ t. with_word t (at + j) word) before.stored ∙ told-more (ring.stored p) at words j word count;
    loaded = loaded ∙ before.loaded;
    calls = calls ∙ ap (λ n. more_calls n 1) before.calls ∙ called-more (ring.calls p) at words word;
  }

  -- the first words were copied, and the buffer has their bytes
  pub record Filling (first now : Glance P) (start buf : List ℕ) (j : ℕ) : Type 0 where
    pub words : List ℕ
    pub count : length words ≡ j
    pub copies : CopiesWords ring first now words
    pub uncopied : NoneFrom now.copies j
    pub port : now.port.ghost_name ≡ first.port.ghost_name
    pub bytes : buf ≡ filled start words

  pub filling-none : (first : Glance P) (start : List ℕ) → NoneFrom first.copies 0 → Filling first first start start 0
  filling-none first start none = record {
    words = [];
    count = refl;
    copies = record { loaded = refl; showed = tt; stored = refl; calls = refl; cell = refl };
    uncopied = none;
    port = refl;
    bytes = sym (ap (λ l. l ++ start) (take-nil (length start)));
  }

  -- a word that was not copied is loaded, once
  loaded-now : {copy : Option ℕ} (old new : P) (at word : ℕ) → copy ≡ None → LoadsOnce ring copy old new at word → Loads ring old new at word
  loaded-now old new at word none once = subst (λ c. LoadsOnce ring c old new at word) none once

  pub copies-more : (first now next : Glance P) (words : List ℕ) (j word : ℕ) → length words ≡ j → CopiesWords ring first now words
      → copy_of now.copies (BYTES + j) ≡ None → Copies ring now next (BYTES + j) word → CopiesWords ring first next (words ++ word ∷ [])
  copies-more first now next words j word count before none one =
      let l = loaded-now now.port.now next.port.now (place now.cell (BYTES + j)) word none one.once in
      let at : place now.cell (BYTES + j) ≡ place first.cell BYTES + j = ap (λ c. place c (BYTES + j)) before.cell ∙ omega arith in
      let showed : ring.showed (place first.cell BYTES + j) word = subst (λ n. ring.showed n word) at l.showed in
      let loaded : ring.loaded next.port.now ≡ with_word (ring.loaded now.port.now) (place first.cell BYTES + j) word = l.loaded ∙ ap (λ n. with_word (ring.loaded now.port.now) n word) at in
      record {
        loaded = loaded ∙ ap (λ t. with_word t (place first.cell BYTES + j) word) before.loaded ∙ told-more (ring.loaded first.port.now) (place first.cell BYTES) words j word count;
        showed = all-more ring.showed (place first.cell BYTES) words j word count before.showed showed;
        stored = l.stored ∙ before.stored;
        calls = l.calls ∙ ap (λ n. more_calls n 1) before.calls ∙ more_calls-more (ring.calls first.port.now) (length words) 1
            ∙ ap (more_calls (ring.calls first.port.now)) (sym (length-append words (word ∷ [])));
        cell = one.cell ∙ before.cell;
      }

  -- one word more was copied, and its bytes were put into the buffer at its place
  pub filling-more : (first now next : Glance P) (start buf buf' : List ℕ) (j word : ℕ) → Filling first now start buf j → 8 * j < length start
      → next.port.ghost_name ≡ now.port.ghost_name → Copies ring now next (BYTES + j) word → buf' ≡ with_word_at buf j word
      → Filling first next start buf' (j + 1)
  filling-more first now next start buf buf' j word f room name one put = record {
    words = f.words ++ word ∷ [];
    count = length-append f.words (word ∷ []) ∙ ap (λ n. n + 1) f.count;
    copies = copies-more first now next f.words j word f.count f.copies (f.uncopied (BYTES + j) (omega arith)) one;
    uncopied = λ i below.
        let other : i ≢ BYTES + j = omega arith in
        let before : BYTES + j ≤ i = omega arith in
        ap (λ l. copy_of l i) one.copies ∙ get_or-set_other now.copies (BYTES + j) i (Some word) None other ∙ f.uncopied i before;
    port = name ∙ f.port;
    bytes = put ∙ ap (λ l. with_word_at l j word) f.bytes ∙ filled-more start f.words j word f.count room;
  }

  pub filling-all : (first now : Glance P) (start buf : List ℕ) → Filling first now start buf (words_for (length start)) → CopiesBytes ring first now buf
  filling-all first now start buf f =
      let F : List ℕ = bytes_in f.words in
      let enough : length start ≤ 8 * length f.words = omega arith in
      let none : drop (8 * length f.words) start ≡ [] = drop_all (8 * length f.words) start enough in
      let is : buf ≡ take (length start) F = f.bytes ∙ ap (λ l. take (length start) F ++ l) none ∙ append-nil (take (length start) F) in
      let len : length buf ≡ length start = ap length is ∙ omega (arith, length-take (length start) F, length-bytes_in f.words) in
      record {
        words = f.words;
        count = f.count ∙ ap words_for (sym len);
        bytes = is ∙ ap (λ n. take n F) (sym len);
        copies = f.copies;
      }
