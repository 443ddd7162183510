-- Notes of free frames.
use Rattle.std.proofs.Common.{◌≡◌, inr, ⊎_elim, ℕ, ◌+◌, ◌<◌, ◌≤◌, ◌==◌, List, [], ◌∷◌, ◌++◌, length, cond, Some, slice_index, nat_eq, refl, sym, ◌∙◌, ap, subst, arith}
use Rattle.std.specs.List.{IsDistinct}
use Rattle.std.proofs.lemmas.Bool.{eq-eqb, eqb-true, eqb-false}
use Rattle.std.proofs.lemmas.List.{length-map}
use Rattle.eleos_base.specs.declared.memory.Looked.{Looked}
use Rattle.eleos_base.specs.Ties.{Has}
use Rattle.eleos_core.specs.Parts.{frame_cell}
use Rattle.eleos_base.specs.Places.{all_frames}
use Rattle.eleos_core.specs.Sweeps.{frames_in}
use Rattle.eleos_core.proofs.OpeningLists.{all_more}
use Rattle.eleos_core.proofs.Tests.{by_test}
use Rattle.eleos_turn.specs.Numbers.{less_one, times}
use Rattle.eleos_turn.proofs.Numbers.{pigeons, times_else, times_here}
use Rattle.eleos_machine.specs.declared.holding.ClockTurn.{ClockTurn}
use Rattle.eleos_machine.specs.declared.holding.FreeFrame.{FreeFrame}
use Rattle.eleos_machine.specs.Machines.{Site, plan_at}
use Rattle.eleos_machine.specs.Notes.{with_free}
use Rattle.eleos_machine.specs.Passes.{IsLawful, PassState, gave, plan_of}
use Rattle.eleos_machine.specs.Sweeping.{with_words}
use Rattle.eleos_clock.specs.Answered.{TriedFree}
use Rattle.eleos_clock.specs.Frees.{AreFree, NotedFree, TriedSoFar, TriedToNote, free_note}
use Rattle.eleos_clock.specs.Searches.{MaySearch}
use Rattle.eleos_clock.proofs.Lists.{differ_at, has_from, has_into, place_of, times_at, times_last_else, times_last_here}
use Rattle.eleos_clock.proofs.Noted.{frames_more}
use Rattle.eleos_clock.proofs.Once.{once_in}
use Rattle.eleos_clock.proofs.Seen.{list_distinct, list_within}
use Rattle.eleos_clock.proofs.Steps.{other, searches_gave, searches_other, searches_same, searches_then}
use Rattle.eleos_clock.proofs.Visiting.{freed}

-- a free frame was noted, and its turn given back
pub noted_free : (s : PassState) (f fn : ℕ) (s₂ s' : PassState) → IsLawful s → times f (frames_in s.sweep.words) ≡ 0
    → fn ≡ frame_cell (plan_of s) f → s₂ ≡ with_words s (with_free f s.sweep.words) → s' ≡ gave s₂ fn → NotedFree s f s'
noted_free s f fn s₂ s' law none e noted_is is =
    let b : PassState = other s (with_free f s.sweep.words) s.hand in
    let fc : ℕ = frame_cell (plan_of s) f in
    subst (NotedFree s f) (sym (is ∙ (λ i. gave (noted_is i) (e i)))) (record {
      searches = searches_then s b (gave b fc) law (λ d has. has) (searches_other s (with_free f s.sweep.words) s.hand) (searches_gave b fc (law.hand.once fc));
      turns = refl;
      words = freed f s.sweep.words none;
    })

-- a frame that was found free was noted
pub tried_noted : (s s₁ s' : PassState) (f : ℕ) (free : FreeFrame) → IsLawful s → TriedFree s f (Some free) s₁ → NotedFree s₁ free.frame s' → TriedToNote s f s'
tried_noted s s₁ s' f free law h n = record {
  searches = searches_then s s₁ s' law (λ d had. subst (Has d) (sym h.1.turns) (inr had)) h.1.searches n.searches;
  turns = n.turns ∙ ((λ i. less_one (frame_cell (plan_at (h.1.searches.goes.home i)) free.frame) (h.1.turns i)) ∙ ap (λ v. cond v s.hand.turns (fc ∷ less_one fc s.hand.turns)) (eq-eqb fc fc refl));
  words = inr (n.words ∙ (ap (λ ws. ws ++ free_note free.frame ∷ []) h.2 ∙ ap (λ g. s.sweep.words ++ free_note g ∷ []) h.0));
} where
  fc : ℕ
  fc = frame_cell (plan_of s) free.frame

-- one note more of a free frame of the list
pub add_free : (list : List ℕ) (words : List Looked) (f : ℕ) → 1 ≤ times f list → times f (frames_in words) ≡ 0 → AreFree list words → AreFree list (words ++ free_note f ∷ [])
add_free list words f listed none free = record {
  once = λ g. subst (λ fs. times g fs ≤ times g list) (sym (frames_more words (free_note f))) (by_test (g == f) (λ v. g == f ≡ v → times g (frames_in words ++ f ∷ []) ≤ times g list)
      (λ _ is. subst (λ h. times h (frames_in words ++ f ∷ []) ≤ times h list) (sym (eqb-true g f is)) (let a = times_last_here f (frames_in words) in omega (arith, a, none, listed)))
      (λ _ is. let a = times_last_else g f (frames_in words) (eqb-false g f is) in let b = free.once g in omega (arith, a, b)) refl);
  free = all_more (λ (seen : Looked). seen.word ≡ 0) words (free_note f) free.free refl;
}

-- there is room for the note of a frame that is not noted
pub room_free : (list : List ℕ) (words : List Looked) (f all_frames : ℕ) → IsDistinct nat_eq list → ((g : ℕ) → Has g list → g < all_frames) → 1 ≤ times f list → times f (frames_in words) ≡ 0 → AreFree list words → length words < all_frames
room_free list words f all_frames distinct below listed none free =
    let count = pigeons all_frames (f ∷ frames_in words)
    (λ g. by_test (g == f) (λ v. g == f ≡ v → times g (f ∷ frames_in words) ≤ 1)
    (λ _ is. subst (λ h. times h (f ∷ frames_in words) ≤ 1) (sym (eqb-true g f is)) (let a = times_here f (frames_in words) in omega (arith, a, none)))
    (λ _ is. let a = times_else g f (frames_in words) (eqb-false g f is) in let b = free.once g in let c = once_in g list distinct in omega (arith, a, b, c)) refl)
    (λ g has. ⊎_elim
    (λ (is : g ≡ f). subst (λ h. h < all_frames) (sym is) (below f (has_from f list listed)))
    (λ (more : Has g (frames_in words)). below g (has_from g list (let a = has_into g (frames_in words) more in let b = free.once g in omega (arith, a, b)))) has) in
    let size = length-map words (λ (seen : Looked). seen.frame) in omega (arith, count, size)

-- tries of the frames of the list, one after another
module _ (z : Site) (s : PassState) (clock : ClockTurn) (may : MaySearch z s clock) (law : IsLawful s) where
  distinct : IsDistinct nat_eq clock.clock
  distinct = list_distinct s law may.enclave clock may.turn

  -- each frame in the clock's list is one of the machine
  pub in_list : (f : ℕ) → Has f clock.clock → f < all_frames (plan_of s)
  in_list f has = let at = place_of f clock.clock (has_into f clock.clock has) in list_within s law may.enclave clock may.turn f (at.0, at.1, sym at.2)

  -- with no notes yet, none of the frames was tried
  pub begins : s.sweep.words ≡ [] → TriedSoFar s clock 0 s
  begins empty = record {
    notes = record {
      searches = searches_same s;
      turns = refl;
      free = subst (AreFree clock.clock) (sym empty) (record { once = λ f. omega arith; free = tt });
    };
    later = λ j _ _. ap (λ ws. times (slice_index clock.clock j) (frames_in ws)) empty;
  }

  module _ (place : ℕ) (lt : place < length clock.clock) (s' : PassState) (far : TriedSoFar s clock place s') where
    abbrev frame : ℕ
    frame = slice_index clock.clock place

    listed : 1 ≤ times frame clock.clock
    listed = times_at clock.clock place 0 lt

    -- the frame at the place that comes next is one of the machine
    pub in_machine : frame < all_frames (plan_of s)
    in_machine = in_list frame (has_from frame clock.clock listed)

    -- it has no note yet
    pub unnoted : times frame (frames_in s'.sweep.words) ≡ 0
    unnoted = far.later place (omega arith) lt

    -- so there is room for its note
    pub room : length s'.sweep.words < all_frames (plan_of s)
    room = room_free clock.clock s'.sweep.words frame (all_frames (plan_of s)) distinct in_list listed unnoted far.notes.free

    -- with this frame noted as free, or left, the frames before the next place were tried
    pub goes_on : (s'' : PassState) → TriedToNote s' frame s'' → TriedSoFar s clock (place + 1) s''
    goes_on s'' tried = record {
      notes = record {
        searches = searches_then s s' s'' law (λ d had. subst (Has d) (sym far.notes.turns) had) far.notes.searches tried.searches;
        turns = tried.turns ∙ far.notes.turns;
        free = ⊎_elim
            (λ (same : s''.sweep.words ≡ s'.sweep.words). subst (AreFree clock.clock) (sym same) far.notes.free)
            (λ (more : s''.sweep.words ≡ s'.sweep.words ++ free_note frame ∷ []). subst (AreFree clock.clock) (sym more) (add_free clock.clock s'.sweep.words frame listed unnoted far.notes.free)) tried.words;
      };
      later = λ j above inside. ⊎_elim
          (λ (same : s''.sweep.words ≡ s'.sweep.words). subst (λ ws. times (slice_index clock.clock j) (frames_in ws) ≡ 0) (sym same) (far.later j (omega (arith, above)) inside))
          (λ (more : s''.sweep.words ≡ s'.sweep.words ++ free_note frame ∷ []). subst (λ ws. times (slice_index clock.clock j) (frames_in ws) ≡ 0) (sym more)
          (subst (λ fs. times (slice_index clock.clock j) fs ≡ 0) (sym (frames_more s'.sweep.words (free_note frame)))
          (times_last_else (slice_index clock.clock j) frame (frames_in s'.sweep.words) (differ_at clock.clock j place 0 distinct inside lt (λ e. omega (arith, e, above))) ∙ far.later j (omega (arith, above)) inside))) tried.words;
    }
