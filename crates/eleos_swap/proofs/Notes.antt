-- Notes of free frames, as they grow.
use Rattle.std.proofs.Common.{◌≡◌, ℕ, ◌<◌, ◌≤◌, ◌==◌, ◌&&◌, ◌||◌, List, [], ◌∷◌, ◌++◌, length, true, false, if◌then◌else◌, refl, sym, ◌∙◌, ap, subst, arith}
use Rattle.std.specs.List.{AllByRecursion}
use Rattle.std.proofs.lemmas.Bool.{eq-eqb, eqb-true, eqb-false}
use Rattle.eleos_base.specs.declared.memory.Looked.{Looked}
use Rattle.eleos_core.proofs.Tests.{by_test}
use Rattle.eleos_turn.specs.Numbers.{less_one, times}
use Rattle.eleos_turn.proofs.Numbers.{less_else, less_exact, less_here, times_else, times_has, times_here}
use Rattle.eleos_machine.specs.Notes.{free_notes, is_noted_free}
use Rattle.eleos_clock.specs.Answered.{KeepsFree}
use Rattle.eleos_clock.specs.Frees.{free_note}
use Rattle.eleos_swap.specs.Making.{StaysFree}

-- a frame that is noted as free is so where more is noted behind
pub noted_append : (f : ℕ) (xs ys : List Looked) → is_noted_free f xs ≡ true → is_noted_free f (xs ++ ys) ≡ true
noted_append f [] ys = λ is. cc
noted_append f (x ∷ xs) ys = by_test (x.frame == f && x.word == 0) (λ v. (v || is_noted_free f xs) ≡ true → (v || is_noted_free f (xs ++ ys)) ≡ true)
    (λ _ is. refl)
    (λ _ is. noted_append f xs ys is)

-- the last note is of a free frame
pub noted_last : (f : ℕ) (xs : List Looked) → is_noted_free f (xs ++ free_note f ∷ []) ≡ true
noted_last f [] = ap (λ b. (b && true) || false) (eq-eqb f f refl)
noted_last f (x ∷ xs) = by_test (x.frame == f && x.word == 0) (λ v. (v || is_noted_free f (xs ++ free_note f ∷ [])) ≡ true)
    (λ _. refl)
    (λ _. noted_last f xs)

-- a frame that is noted as free is so where the notes of free frames alone are kept
pub noted_kept : (f : ℕ) (ws : List Looked) → is_noted_free f ws ≡ true → is_noted_free f (free_notes ws) ≡ true
noted_kept f [] = λ is. cc
noted_kept f (w ∷ ws) = by_test (w.word == 0) (λ v. w.word == 0 ≡ v → ((w.frame == f && v) || is_noted_free f ws) ≡ true → is_noted_free f (if v then w ∷ free_notes ws else free_notes ws) ≡ true)
    (λ _ zero_is. by_test (w.frame == f) (λ u. ((u && true) || is_noted_free f ws) ≡ true → ((u && w.word == 0) || is_noted_free f (free_notes ws)) ≡ true)
    (λ _ _. ap (λ b. b || is_noted_free f (free_notes ws)) zero_is)
    (λ _ is. noted_kept f ws is))
    (λ _ zero_is. by_test (w.frame == f) (λ u. ((u && false) || is_noted_free f ws) ≡ true → is_noted_free f (free_notes ws) ≡ true)
    (λ _ is. noted_kept f ws is)
    (λ _ is. noted_kept f ws is)) refl

-- and the other way round
pub noted_unkept : (f : ℕ) (ws : List Looked) → is_noted_free f (free_notes ws) ≡ true → is_noted_free f ws ≡ true
noted_unkept f [] = λ is. cc
noted_unkept f (w ∷ ws) = by_test (w.word == 0) (λ v. w.word == 0 ≡ v → is_noted_free f (if v then w ∷ free_notes ws else free_notes ws) ≡ true → ((w.frame == f && v) || is_noted_free f ws) ≡ true)
    (λ _ zero_is. by_test (w.frame == f) (λ u. ((u && w.word == 0) || is_noted_free f (free_notes ws)) ≡ true → ((u && true) || is_noted_free f ws) ≡ true)
    (λ _ _. refl)
    (λ _ is. noted_unkept f ws is))
    (λ _ zero_is. by_test (w.frame == f) (λ u. is_noted_free f (free_notes ws) ≡ true → ((u && false) || is_noted_free f ws) ≡ true)
    (λ _ is. noted_unkept f ws is)
    (λ _ is. noted_unkept f ws is)) refl

-- a search keeps the frames that were noted as free
pub keeps_noted : (ws ws' : List Looked) → KeepsFree ws ws' → StaysFree ws ws'
keeps_noted ws ws' keeps f is = noted_unkept f ws' (ap (is_noted_free f) keeps.1 ∙ noted_append f (free_notes ws) keeps.0 (noted_kept f ws is))

-- where all notes are of free frames, all are kept, and counted
pub all_kept : (ws : List Looked) → AllByRecursion (λ (seen : Looked). seen.word ≡ 0) ws → free_notes ws ≡ ws
all_kept [] all = refl
all_kept (w ∷ ws) all = ap (λ b. if b then w ∷ free_notes ws else free_notes ws) (eq-eqb w.word 0 all.0) ∙ ap (λ zs. w ∷ zs) (all_kept ws all.1)

-- the notes that are kept are of free frames
pub kept_zero : (ws : List Looked) → AllByRecursion (λ (seen : Looked). seen.word ≡ 0) (free_notes ws)
kept_zero [] = tt
kept_zero (w ∷ ws) = by_test (w.word == 0) (λ v. w.word == 0 ≡ v → AllByRecursion (λ (seen : Looked). seen.word ≡ 0) (if v then w ∷ free_notes ws else free_notes ws))
    (λ _ is. (eqb-true w.word 0 is, kept_zero ws))
    (λ _ is. kept_zero ws) refl

-- a list in which nothing stands more often is no longer
pub shorter : (xs ys : List ℕ) → ((g : ℕ) → times g xs ≤ times g ys) → length xs ≤ length ys
shorter [] ys le = omega arith
shorter (x ∷ xs) ys le =
    let here = times_here x xs in let h = le x in
    let some : 0 < times x ys = omega (arith, here, h) in
    let rest = shorter xs (less_one x ys) (λ g. by_test (g == x) (λ v. g == x ≡ v → times g xs ≤ times g (less_one x ys))
    (λ _ is. subst (λ y. times y xs ≤ times y (less_one x ys)) (sym (eqb-true g x is)) (let a = less_here x ys some in omega (arith, a, here, h)))
    (λ _ is. let a = less_else x g ys (eqb-false g x is) in let b = times_else g x xs (eqb-false g x is) in let c = le g in omega (arith, a, b, c)) refl) in
    let l = less_exact x ys (times_has x ys some) in omega (arith, rest, l)
