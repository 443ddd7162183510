-- What a round noted, step by step.
use Rattle.std.proofs.Common.{◌≡◌, ◌≢◌, ◌⊎◌, inl, inr, ⊎_elim, ℕ, ◌+◌, ◌<◌, ◌≤◌, ◌==◌, ◌&&◌, ◌||◌, List, [], ◌∷◌, ◌++◌, length, Bool, true, false, cond, nat_eq, if◌then◌else◌, get_or, refl, sym, ◌∙◌, ap, subst, arith, append-nil, append_assoc}
use Rattle.std.specs.List.{AllByRecursion, IsDistinct}
use Rattle.std.proofs.lemmas.Bool.{cases_lt, eq-eqb, eqb-true, eqb-false, ne_eqb}
use Rattle.std.proofs.lemmas.List.{length-map}
use Rattle.eleos_base.specs.declared.memory.Looked.{Looked}
use Rattle.eleos_base.specs.Ties.{Has}
use Rattle.eleos_core.specs.Sweeps.{frames_in}
use Rattle.eleos_core.proofs.OpeningLists.{all_more}
use Rattle.eleos_core.proofs.Tests.{by_test}
use Rattle.eleos_turn.specs.Numbers.{times}
use Rattle.eleos_turn.proofs.Numbers.{pigeons, times_else, times_here}
use Rattle.eleos_machine.specs.Notes.{free_notes, is_noted_free}
use Rattle.eleos_clock.specs.Lists.{AllNoted, AreNotes, AreSoFar, IsNote, IsTakenNote, frame_at, place_at}
use Rattle.eleos_clock.specs.Answered.{KeepsFree, Notes}
use Rattle.eleos_clock.proofs.Once.{once_in, same_default}
use Rattle.eleos_clock.proofs.Lists.{differ_at, has_from, has_into, permutes, place_apart, place_inside, place_of, step_to, times_at, times_last_else, times_last_here}

-- one note more
pub frames_more : (words : List Looked) (seen : Looked) → frames_in (words ++ seen ∷ []) ≡ frames_in words ++ seen.frame ∷ []
frames_more [] seen = refl
frames_more (w ∷ words) seen = ap (λ fs. w.frame ∷ fs) (frames_more words seen)

-- a frame that is noted as free stays so
free_more : (f : ℕ) (words : List Looked) (seen : Looked) → is_noted_free f (words ++ seen ∷ []) ≡ false → is_noted_free f words ≡ false
free_more f [] seen = λ none. refl
free_more f (w ∷ words) seen = by_test (w.frame == f && w.word == 0) (λ v. (v || is_noted_free f (words ++ seen ∷ [])) ≡ false → (v || is_noted_free f words) ≡ false)
    (λ _ none. cc)
    (λ _ none. free_more f words seen none)

-- a frame that is noted as free is noted
pub noted_in : (f : ℕ) (ws : List Looked) → is_noted_free f ws ≡ true → 1 ≤ times f (frames_in ws)
noted_in f [] = λ is. cc
noted_in f (w ∷ ws) = by_test (w.frame == f) (λ v. w.frame == f ≡ v → ((v && w.word == 0) || is_noted_free f ws) ≡ true → 1 ≤ cond (f == w.frame) 1 0 + times f (frames_in ws))
    (λ _ is _. let here = ap {B = ℕ} (λ b. cond b 1 0) (eq-eqb f w.frame (sym (eqb-true w.frame f is))) in omega (arith, here))
    (λ _ is more. let rest = noted_in f ws more in omega (arith, rest)) refl

-- the notes that are kept are of free frames
kept_free : (f : ℕ) (words : List Looked) → is_noted_free f (free_notes words) ≡ false → times f (frames_in (free_notes words)) ≡ 0
kept_free f [] = λ none. refl
kept_free f (w ∷ words) = by_test (w.word == 0) (λ v. w.word == 0 ≡ v → is_noted_free f (if v then w ∷ free_notes words else free_notes words) ≡ false → times f (frames_in (if v then w ∷ free_notes words else free_notes words)) ≡ 0)
    (λ _ zero_is. by_test (w.frame == f) (λ v. w.frame == f ≡ v → ((v && w.word == 0) || is_noted_free f (free_notes words)) ≡ false → cond (f == w.frame) 1 0 + times f (frames_in (free_notes words)) ≡ 0)
    (λ _ is none. let yes : (w.word == 0) || is_noted_free f (free_notes words) ≡ true = ap (λ b. b || is_noted_free f (free_notes words)) zero_is in let wrong : true ≡ false = sym yes ∙ none in cc)
    (λ _ is none. let other : f == w.frame ≡ false = ne_eqb f w.frame (λ same. eqb-false w.frame f is (sym same)) in let rest = kept_free f words none in ap {B = ℕ} (λ b. cond b 1 0 + times f (frames_in (free_notes words))) other ∙ omega (arith, rest)) refl)
    (λ _ is none. kept_free f words none) refl

-- the notes of free frames are some of the notes
pub fewer : (f : ℕ) (ws : List Looked) → times f (frames_in (free_notes ws)) ≤ times f (frames_in ws)
fewer f [] = omega arith
fewer f (w ∷ ws) = by_test (w.word == 0) (λ v. times f (frames_in (if v then w ∷ free_notes ws else free_notes ws)) ≤ cond (f == w.frame) 1 0 + times f (frames_in ws))
    (λ _. let rest = fewer f ws in omega (arith, rest))
    (λ _. let rest = fewer f ws in omega (arith, rest))

-- of notes one behind another, those of free frames are one behind another
pub free_append : (xs ys : List Looked) → free_notes (xs ++ ys) ≡ free_notes xs ++ free_notes ys
free_append [] ys = refl
free_append (x ∷ xs) ys = by_test (x.word == 0) (λ v. (if v then x ∷ free_notes (xs ++ ys) else free_notes (xs ++ ys)) ≡ (if v then x ∷ free_notes xs else free_notes xs) ++ free_notes ys)
    (λ _. ap (λ zs. x ∷ zs) (free_append xs ys))
    (λ _. free_append xs ys)

-- free notes kept are all kept again
pub free_again : (ws : List Looked) → free_notes (free_notes ws) ≡ free_notes ws
free_again [] = refl
free_again (w ∷ ws) = by_test (w.word == 0) (λ v. w.word == 0 ≡ v → free_notes (if v then w ∷ free_notes ws else free_notes ws) ≡ (if v then w ∷ free_notes ws else free_notes ws))
    (λ _ is. ap (λ b. if b then w ∷ free_notes (free_notes ws) else free_notes (free_notes ws)) is ∙ ap (λ zs. w ∷ zs) (free_again ws))
    (λ _ is. free_again ws) refl

-- notes that stay as they are keep those of free frames
pub keeps_same : (ws : List Looked) → KeepsFree ws ws
keeps_same ws = ([], sym (append-nil (free_notes ws)))

-- so do notes cut down to those of free frames
pub keeps_kept : (ws : List Looked) → KeepsFree ws (free_notes ws)
keeps_kept ws = ([], free_again ws ∙ sym (append-nil (free_notes ws)))

-- and what is kept by one change after another is kept by both
pub keeps_on : (xs ys zs : List Looked) → KeepsFree xs ys → KeepsFree ys zs → KeepsFree xs zs
keeps_on xs ys zs a b = (a.0 ++ b.0, b.1 ∙ (ap (λ fs. fs ++ b.0) a.1 ∙ append_assoc (free_notes xs) a.0 b.0))

-- to pass a frame, with a note or without, keeps the notes of free frames
pub keeps_more : (free all : Bool) (f : ℕ) (words words' : List Looked) → Notes free all f words words' → KeepsFree words words'
keeps_more free all f words words' (inl more) = (free_notes (more.0 ∷ []), ap free_notes more.5 ∙ free_append words (more.0 ∷ []))
keeps_more free all f words words' (inr same) = ([], ap free_notes same.0 ∙ sym (append-nil (free_notes words)))

kept_all : (P : Looked → Type 0) (ws : List Looked) → AllByRecursion P ws → AllByRecursion P (free_notes ws)
kept_all P [] all = tt
kept_all P (w ∷ ws) all = by_test (w.word == 0) (λ v. AllByRecursion P (if v then w ∷ free_notes ws else free_notes ws)) (λ _. (all.0, kept_all P ws all.1)) (λ _. kept_all P ws all.1)

-- notes that a search may have of a list stay such when only those of free frames are kept
pub notes_kept : (list : List ℕ) (free : Bool) (ws : List Looked) → AreNotes list free ws → AreNotes list free (free_notes ws)
notes_kept list free ws notes = record {
  once = λ f. let a = fewer f ws in let b = notes.once f in omega (arith, a, b);
  notes = kept_all IsNote ws notes.notes;
  taken = λ is. kept_all IsTakenNote ws (notes.taken is);
}

-- a frame without any note is not noted as free
pub unnoted_free : (f : ℕ) (ws : List Looked) → times f (frames_in ws) ≡ 0 → is_noted_free f ws ≡ false
unnoted_free f ws none = by_test (is_noted_free f ws) (λ v. is_noted_free f ws ≡ v → v ≡ false) (λ _ is. absurd (let some = noted_in f ws is in omega (arith, some, none))) (λ _ is. refl) refl

module _ (list : List ℕ) (start : ℕ) (free all : Bool) where
  abbrev n : ℕ
  n = length list

  abbrev frame : ℕ → ℕ
  frame i = frame_at list start i

  -- a round begins with the notes of free frames
  pub begins : (words : List Looked) → AreNotes list free (free_notes words) → AreSoFar list start 0 free all (free_notes words)
  begins words notes = record {
    notes = notes;
    seen = λ _ j lt. absurd (omega (arith, lt));
    later = λ j _ _ none. kept_free (frame j) words none;
  }

  module _ (distinct : IsDistinct nat_eq list) (within : start < n) where
    -- frames of two steps differ
    apart : (i j : ℕ) → i < n → j < n → i ≢ j → frame i ≢ frame j
    apart i j lt lt' ne = differ_at list (place_at start i n) (place_at start j n) 0 distinct (place_inside start i n within lt) (place_inside start j n within lt') (place_apart start i j n within lt lt' ne)

    listed : (i : ℕ) → i < n → 1 ≤ times (frame i) list
    listed i lt = times_at list (place_at start i n) 0 (place_inside start i n within lt)

    -- one step more
    pub steps : (i : ℕ) (words words' : List Looked) → i < n → AreSoFar list start i free all words → Notes free all (frame i) words words' → AreSoFar list start (i + 1) free all words'
    steps i words words' lt far (inr same) = subst (AreSoFar list start (i + 1) free all) (sym same.0) (record {
      notes = far.notes;
      seen = λ is j below. ⊎_elim (λ (l : j < i). far.seen is j l) (λ (l : i ≤ j). let at : i ≡ j = omega (arith, l, below) in noted_once j (ap (λ z. is_noted_free (frame z) words) (sym at) ∙ same.1 is)) (cases_lt j i);
      later = λ j above inside none. far.later j (omega (arith, above)) inside none;
    }) where
      noted_once : (j : ℕ) → is_noted_free (frame j) words ≡ true → 1 ≤ times (frame j) (frames_in words)
      noted_once j is = noted_in (frame j) words is
    steps i words words' lt far (inl more) = subst (AreSoFar list start (i + 1) free all) (sym more.5) (record {
      notes = record {
        once = λ f. subst (λ fs. times f fs ≤ times f list) (sym frames) (by_test (f == frame i) (λ v. f == frame i ≡ v → times f (frames_in words ++ frame i ∷ []) ≤ times f list)
            (λ _ is. let at : f ≡ frame i = eqb-true f (frame i) is in subst (λ g. times g (frames_in words ++ frame i ∷ []) ≤ times g list) (sym at)
            (let a = times_last_here (frame i) (frames_in words) in let b = listed i lt in omega (arith, a, b, none)))
            (λ _ is. let a = times_last_else f (frame i) (frames_in words) (eqb-false f (frame i) is) in let b = far.notes.once f in omega (arith, a, b)) refl);
        notes = all_more IsNote words seen far.notes.notes more.3;
        taken = λ is. all_more IsTakenNote words seen (far.notes.taken is) (more.4 is);
      };
      seen = λ is j below. subst (λ fs. 1 ≤ times (frame j) fs) (sym frames) (⊎_elim
          (λ (l : j < i). let a = far.seen is j l in let b = times_last_else (frame j) (frame i) (frames_in words) (apart j i (omega (arith, l, lt)) lt (λ e. omega (arith, e, l))) in omega (arith, a, b))
          (λ (l : i ≤ j). let at : i ≡ j = omega (arith, l, below) in subst (λ z. 1 ≤ times (frame z) (frames_in words ++ frame i ∷ [])) at (let a = times_last_here (frame i) (frames_in words) in omega (arith, a)))
          (cases_lt j i));
      later = λ j above inside unnoted. subst (λ fs. times (frame j) fs ≡ 0) (sym frames)
          (times_last_else (frame j) (frame i) (frames_in words) (apart j i inside lt (λ e. omega (arith, e, above))) ∙ far.later j (omega (arith, above)) inside (free_more (frame j) words seen unnoted));
    }) where
      seen : Looked
      seen = more.0

      frames : frames_in (words ++ seen ∷ []) ≡ frames_in words ++ frame i ∷ []
      frames = frames_more words seen ∙ ap (λ f. frames_in words ++ f ∷ []) more.1

      none : times (frame i) (frames_in words) ≡ 0
      none = far.later i (omega arith) lt more.2

    -- at the end each frame is noted
    pub ends : (words : List Looked) → AreSoFar list start n free all words → all ≡ true → AllNoted list free words
    ends words far is = record {
      all = permutes (frames_in words) list (λ g. both g (cases_lt 0 (times g list)));
      notes = far.notes.notes;
      taken = far.notes.taken;
    } where
      once : (g : ℕ) → times g list ≤ 1
      once g = once_in g list distinct

      both : (g : ℕ) → (0 < times g list) ⊎ (times g list ≤ 0) → times g (frames_in words) ≡ times g list
      both g (inl some) =
          let at = place_of g list some in
          let step = step_to start at.0 n within at.1 in
          let here : frame step.0 ≡ g = ap (λ p. get_or list p 0) step.2 ∙ (same_default list at.0 0 g at.1 ∙ sym at.2) in
          let low = subst (λ f. 1 ≤ times f (frames_in words)) here (far.seen is step.0 step.1) in
          let high = far.notes.once g in let one = once g in omega (arith, low, high, one, some)
      both g (inr none) = let high = far.notes.once g in omega (arith, high, none)

    -- there is room for the note of a frame that is not noted
    pub has_room : (i all_frames : ℕ) (words : List Looked) → i < n → ((f : ℕ) → Has f list → f < all_frames) → AreSoFar list start i free all words → is_noted_free (frame i) words ≡ false → length words < all_frames
    has_room i all_frames words lt below far unnoted =
        let none = far.later i (omega arith) lt unnoted in
        let count = pigeons all_frames (frame i ∷ frames_in words)
        (λ g. by_test (g == frame i) (λ v. g == frame i ≡ v → times g (frame i ∷ frames_in words) ≤ 1)
        (λ _ is. subst (λ f. times f (frame i ∷ frames_in words) ≤ 1) (sym (eqb-true g (frame i) is)) (let a = times_here (frame i) (frames_in words) in omega (arith, a, none)))
        (λ _ is. let a = times_else g (frame i) (frames_in words) (eqb-false g (frame i) is) in let b = far.notes.once g in let c = once_in g list distinct in omega (arith, a, b, c)) refl)
        (λ g has. ⊎_elim
        (λ (is : g ≡ frame i). subst (λ f. f < all_frames) (sym is) (below (frame i) (has_from (frame i) list (listed i lt))))
        (λ (more : Has g (frames_in words)). below g (has_from g list (let a = has_into g (frames_in words) more in let b = far.notes.once g in omega (arith, a, b)))) has) in
        let size = length-map words (λ (seen : Looked). seen.frame) in omega (arith, count, size)
