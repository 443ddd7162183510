-- The end of a round, by its notes.
use Rattle.std.proofs.Common.{◌≡◌, inl, inr, ℕ, ◌<◌, ◌≤◌, ◌==◌, List, [], ◌∷◌, length, false, cond, nat_eq, sym, ◌∙◌, ap, arith, Contains}
use Rattle.std.specs.List.{AllByRecursion, IsDistinct}
use Rattle.std.proofs.lemmas.Bool.{eq-eqb, ne_eqb}
use Rattle.std.proofs.lemmas.List.{length-map}
use Rattle.std.proofs.lemmas.List.Sums.{count_by-le-length, length-filter}
use Rattle.std.proofs.lemmas.Map.Keys.{IsDistinct-cons}
use Rattle.eleos_base.specs.declared.memory.Looked.{Looked}
use Rattle.eleos_core.specs.Sweeps.{IsEnough, IsSwept, frames_in}
use Rattle.eleos_turn.specs.Numbers.{times}
use Rattle.eleos_turn.proofs.Numbers.{times_here}
use Rattle.eleos_machine.specs.Notes.{free_notes}
use Rattle.eleos_machine.specs.Passes.{PassState}
use Rattle.eleos_machine.specs.Sweeping.{with_words}
use Rattle.eleos_clock.proofs.Lists.{place_of, times_alike}
use Rattle.eleos_clock.proofs.Noted.{fewer}
use Rattle.eleos_clock.proofs.Once.{once_in}
use Rattle.eleos_swap.specs.declared.ends.RoundEnd.{RoundEnd}
use Rattle.eleos_swap.specs.declared.ends.RoundEnd.TheVariants.{Enough, Swept}
use Rattle.eleos_swap.specs.Ends.{Ends, IsEnd, MayStop, free_count}
use Rattle.eleos_swap.specs.Making.{StaysFree}
use Rattle.eleos_swap.proofs.Notes.{all_kept, kept_zero, noted_kept, shorter}

-- a list in which no number stands twice
apart : (g : ℕ) (xs : List ℕ) → times g xs ≡ 0 → AllByRecursion (λ y. nat_eq g y ≡ false) xs
apart g [] none = tt
apart g (x ∷ xs) none = (ne_eqb g x (λ is. let here = ap {B = ℕ} (λ b. cond b 1 0) (eq-eqb g x is) in omega (arith, here, none)), apart g xs (omega (arith, none)))

-- so none is there twice
distinct_of : (xs : List ℕ) → ((g : ℕ) → times g xs ≤ 1) → IsDistinct nat_eq xs
unfolding IsDistinct
distinct_of [] once = tt
distinct_of (x ∷ xs) once = IsDistinct-cons nat_eq x xs (apart x xs (let a = once x in let b = times_here x xs in omega (arith, a, b)))
    (distinct_of xs (λ g. let a = once g in omega (arith, a)))

-- notes of frames that the list has
in_own : (own : List ℕ) (ws : List Looked) → ((g : ℕ) → times g (frames_in ws) ≤ times g own) → AllByRecursion (λ (seen : Looked). Contains own seen.frame) ws
in_own own [] once = tt
in_own own (w ∷ ws) once = (there, in_own own ws (λ g. let a = once g in omega (arith, a))) where
  there : Contains own w.frame
  there = let at = place_of w.frame own (let a = once w.frame in let b = times_here w.frame (frames_in ws) in omega (arith, a, b)) in (at.0, at.1, sym at.2)

module _ (list : List ℕ) (distinct : IsDistinct nat_eq list) (low : ℕ) where
  -- no frame is noted more often than it stands in the list
  once : (ws : List Looked) → MayStop list low ws → (g : ℕ) → times g (frames_in ws) ≤ times g list
  once ws (inl all) g = let a = times_alike (frames_in ws) list all.all g in omega (arith, a)
  once ws (inr free) g = free.0.once g

  -- so there are no more notes than frames
  pub few : (ws : List Looked) → MayStop list low ws → length ws ≤ length list
  few ws stop = let a = shorter (frames_in ws) list (once ws stop) in let b = length-map ws (λ (seen : Looked). seen.frame) in omega (arith, a, b)

  -- the end where enough are noted as free
  pub enough : (ws : List Looked) (free : ℕ) → MayStop list low ws → free ≡ free_count ws → low ≤ free → IsEnough list low (free_notes ws) free
  enough ws free stop is some = record {
    count = is ∙ sym (length-filter (λ (seen : Looked). seen.word == 0) ws);
    enough = some;
    once = distinct_of (frames_in (free_notes ws)) (λ g. let a = kept_once g in let b = once_in g list distinct in omega (arith, a, b));
    listed = in_own list (free_notes ws) kept_once;
    free = kept_zero ws;
  } where
    kept_once : (g : ℕ) → times g (frames_in (free_notes ws)) ≤ times g list
    kept_once g = let a = fewer g ws in let b = once ws stop g in omega (arith, a, b)

  -- and where fewer are
  pub fewer_found : (ws : List Looked) (free : ℕ) → MayStop list low ws → free ≡ free_count ws → free < low → IsSwept list low ws free
  fewer_found ws free (inl all) is some = record { count = is; too_few = some; all = all.all; words = all.notes }
  fewer_found ws free (inr all) is some = absurd (let a = length-filter (λ (seen : Looked). seen.word == 0) ws in let b = ap length (all_kept ws all.0.free) in let c = all.1 in omega (arith, a, b, c, is, some))

  -- what the end makes of the notes
  pub record Ended (s : PassState) (end : RoundEnd) (s' : PassState) : Type 0 where
    pub words : List Looked
    pub is : s' ≡ with_words s words
    pub keeps : StaysFree s.sweep.words words
    pub end_is : IsEnd list low words end
    -- there are at most as many notes as the enclave has frames
    pub few : length words ≤ length list

  -- the round is ended by its notes
  pub ended : (s : PassState) (end : RoundEnd) (s' : PassState) → MayStop list low s.sweep.words → Ends s low end s' → Ended s end s'
  ended s (Enough free) s' stop ends = record {
    words = free_notes s.sweep.words;
    is = ends.2;
    keeps = λ f is. noted_kept f s.sweep.words is;
    end_is = enough s.sweep.words free stop ends.0 ends.1;
    few = (let a = few s.sweep.words stop in let b = length-filter (λ (seen : Looked). seen.word == 0) s.sweep.words in let c = count_by-le-length (λ (seen : Looked). seen.word == 0) s.sweep.words in omega (arith, a, b, c));
  }
  ended s (Swept free) s' stop ends = record {
    words = s.sweep.words;
    is = ends.2;
    keeps = λ f is. is;
    end_is = fewer_found s.sweep.words free stop ends.0 ends.1;
    few = few s.sweep.words stop;
  }
