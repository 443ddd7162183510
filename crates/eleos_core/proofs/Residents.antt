-- An enclave has no more pages in frames than it has frames: no frame has two pages.
use Rattle.std.proofs.Common.{◌≡◌, ℕ, zero, suc, ◌+◌, ◌<◌, ◌≤◌, ◌==◌, ◌&&◌, List, [], ◌∷◌, length, filter, Bool, true, false, cond, not, Option, Some, None, is_some, count_by, if◌then◌else◌, refl, sym, ◌∙◌, ap, subst, arith}
use Rattle.std.specs.List.{range_with_len}
use Rattle.std.proofs.lemmas.Bool.{eq-eqb, eqb-false, eqb-true}
use Rattle.std.proofs.lemmas.List.Sums.{sum_by-cons}
use Rattle.eleos_base.specs.declared.plan.Plan.{Plan}
use Rattle.eleos_base.specs.Places.{Owner, all_pages, home_of}
use Rattle.eleos_core.specs.Laws.{IsLegalRun, SharesAreAll, resident, share}
use Rattle.eleos_core.specs.Legal.{CoreRun}
use Rattle.eleos_core.specs.Seals.{Seals, seals_by}
use Rattle.eleos_core.specs.State.{History, frame, frames_of, holder, is_owner, owner}
use Rattle.eleos_core.proofs.AtHome.{are_there, at_home}
use Rattle.eleos_core.proofs.Holders.{frame_iff_holder}
use Rattle.eleos_core.proofs.Shares.{once_at_owner, owner_is, shares_sum}
use Rattle.eleos_core.proofs.Tests.{by_test}
use Rattle.eleos_core.proofs.Times.{length_less, none_left, times, times_in, times_less}

-- a list of different numbers is no longer than one that has them all
fits : (xs ys : List ℕ) → ((v : ℕ) → times v xs ≤ 1) → ((v : ℕ) → times v xs ≤ times v ys) → length xs ≤ length ys
fits [] ys once all = omega arith
fits (x ∷ xs) ys once all =
    let here : times x (x ∷ xs) ≡ times x xs + 1 = ap (λ b. if b then times x xs + 1 else times x xs) (eq-eqb x x refl) in
    let one = once x in
    let some = all x in
    let less = length_less x ys in
    let rest : length xs ≤ length (filter (λ y. not (y == x)) ys) = fits xs (filter (λ y. not (y == x)) ys)
    (λ v. by_test (v == x) (λ b. (if b then times v xs + 1 else times v xs) ≤ 1 → times v xs ≤ 1) (λ _ le. omega arith) (λ _ le. le) (once v))
    (λ v. by_test (v == x) (λ b. v == x ≡ b → (if b then times v xs + 1 else times v xs) ≤ times v ys → times v xs ≤ times v (filter (λ y. not (y == x)) ys))
    (λ _ is le. let same : v ≡ x = eqb-true v x is in let none = none_left x ys in subst (λ w. times w xs ≤ times w (filter (λ y. not (y == x)) ys)) (sym same) (omega arith))
    (λ _ is le. let kept = times_less v x ys (eqb-false v x is) in omega arith) refl (all v)) in
    omega arith

-- the values of a table at these places
abbrev with_value : Option ℕ → List ℕ → List ℕ
with_value None fs = fs
with_value (Some f) fs = f ∷ fs

abbrev values : (ℕ → Option ℕ) → List ℕ → List ℕ
values there [] = []
values there (p ∷ ps) = with_value (there p) (values there ps)

length-with_value : (o : Option ℕ) (fs : List ℕ) → length (with_value o fs) ≡ cond (is_some o) 1 0 + length fs
length-with_value None fs = omega arith
length-with_value (Some f) fs = omega arith

length-values : (there : ℕ → Option ℕ) (ps : List ℕ) → length (values there ps) ≡ count_by (λ p. is_some (there p)) ps
length-values there [] = refl
length-values there (p ∷ ps) = length-with_value (there p) (values there ps) ∙ (ap (λ n. cond (is_some (there p)) 1 0 + n) (length-values there ps) ∙ sym (sum_by-cons (λ q. cond (is_some (there q)) 1 0) p ps))

-- a value stands there where a place has it, and no more often than the one place that may have it
has_place : (there : ℕ → Option ℕ) (f : ℕ) (ps : List ℕ) → 1 ≤ times f (values there ps) → (p : ℕ) × (there p ≡ Some f)
has_place there f [] some = absurd (omega arith)
has_place there f (p ∷ ps) some = at (there p) refl (has_place there f ps) some where
  at : (o : Option ℕ) → there p ≡ o → (1 ≤ times f (values there ps) → (q : ℕ) × (there q ≡ Some f)) → 1 ≤ times f (with_value o (values there ps)) → (q : ℕ) × (there q ≡ Some f)
  at None is rest more = rest more
  at (Some g) is rest more = by_test (f == g) (λ b. f == g ≡ b → 1 ≤ (if b then times f (values there ps) + 1 else times f (values there ps)) → (q : ℕ) × (there q ≡ Some f))
      (λ _ same le. (p, is ∙ ap Some (sym (eqb-true f g same))))
      (λ _ other le. rest le) refl more

at_its_place : (there : ℕ → Option ℕ) (f a : ℕ) → ((p : ℕ) → there p ≡ Some f → p ≡ a) → (ps : List ℕ) → times f (values there ps) ≤ times a ps
at_its_place there f a only [] = omega arith
at_its_place there f a only (p ∷ ps) = at (there p) refl (at_its_place there f a only ps) where
  at : (o : Option ℕ) → there p ≡ o → times f (values there ps) ≤ times a ps → times f (with_value o (values there ps)) ≤ (if a == p then times a ps + 1 else times a ps)
  at None is le = by_test (a == p) (λ b. times f (values there ps) ≤ (if b then times a ps + 1 else times a ps)) (λ _. omega arith) (λ _. le)
  at (Some g) is le = by_test (f == g) (λ b. f == g ≡ b → (if b then times f (values there ps) + 1 else times f (values there ps)) ≤ (if a == p then times a ps + 1 else times a ps))
      (λ _ same. let here : p ≡ a = only p (is ∙ ap Some (sym (eqb-true f g same))) in
      subst (λ b. times f (values there ps) + 1 ≤ (if b then times a ps + 1 else times a ps)) (sym (eq-eqb a p (sym here))) (omega arith))
      (λ _ other. by_test (a == p) (λ b. times f (values there ps) ≤ (if b then times a ps + 1 else times a ps)) (λ _. omega arith) (λ _. le)) refl

-- a place that counts has a value of its own
abbrev kept_if : Bool → Option ℕ → Option ℕ
kept_if b o = if b then o else None

is_some-kept_if : (b : Bool) (o : Option ℕ) → is_some (kept_if b o) ≡ b && is_some o
is_some-kept_if true o = refl
is_some-kept_if false o = refl

kept-kept_if : (b : Bool) (o : Option ℕ) (f : ℕ) → kept_if b o ≡ Some f → (b ≡ true) × (o ≡ Some f)
kept-kept_if true o f is = (refl, is)
kept-kept_if false o f is = cc

module _ (k : Plan) (x : Seals) (h : History) (run : CoreRun k x h) (o : Owner) where
  -- the frame of a page of this owner
  abbrev frame_here : ℕ → Option ℕ
  frame_here p = kept_if (is_owner (home_of k p) o) (frame h p)

  abbrev pages : List ℕ
  pages = range_with_len 0 (all_pages k)

  one_page : (f p q : ℕ) → frame_here p ≡ Some f → frame_here q ≡ Some f → q ≡ p
  one_page f p q p_is q_is =
      let a : holder h f ≡ Some p = (frame_iff_holder k x h run p f).0 (kept-kept_if (is_owner (home_of k p) o) (frame h p) f p_is).1 in
      let b : holder h f ≡ Some q = (frame_iff_holder k x h run q f).0 (kept-kept_if (is_owner (home_of k q) o) (frame h q) f q_is).1 in cc

  listed : (f p : ℕ) → frame_here p ≡ Some f → times f (frames_of k h o) ≡ 1
  listed f p is =
      let kept = kept-kept_if (is_owner (home_of k p) o) (frame h p) f is in
      let owned : owner k h f ≡ o = at_home k x h run p f kept.1 ∙ owner_is (home_of k p) o kept.0 in
      ap (λ w. times f (frames_of k h w)) (sym owned) ∙ once_at_owner k x h run f (are_there k x h run p f kept.1).1

  page_once : (p : ℕ) → p < all_pages k → times p pages ≡ 1
  page_once p inside = times_in p 0 (all_pages k) (omega arith) (omega arith)

  value_once : (f : ℕ) → times f (values frame_here pages) ≤ 1
  value_once f = at (times f (values frame_here pages)) refl where
    at : (n : ℕ) → times f (values frame_here pages) ≡ n → n ≤ 1
    at zero is = omega arith
    at (suc n) is =
        let place = has_place frame_here f pages (omega arith) in
        let bound = at_its_place frame_here f place.0 (λ q q_is. one_page f place.0 q place.1 q_is) pages in
        let once = page_once place.0 (are_there k x h run place.0 f (kept-kept_if (is_owner (home_of k place.0) o) (frame h place.0) f place.1).1).0 in omega arith

  -- the pages of an owner that are in frames are no more than its frames
  pub residents_fit : resident k h o ≤ share k h o
  residents_fit =
      let many : length (values frame_here pages) ≡ resident k h o = length-values frame_here pages ∙ (λ i. count_by (λ p. is_some-kept_if (is_owner (home_of k p) o) (frame h p) i) pages) in
      let few : length (values frame_here pages) ≤ share k h o = fits (values frame_here pages) (frames_of k h o) value_once
      (λ f. in_list f (times f (values frame_here pages)) refl) in
      omega arith
    where
      in_list : (f n : ℕ) → times f (values frame_here pages) ≡ n → n ≤ times f (frames_of k h o)
      in_list f zero is = omega arith
      in_list f (suc n) is = let place = has_place frame_here f pages (omega arith) in let one = listed f place.0 place.1 in let once = value_once f in omega arith

-- the shares of all owners
pub shares_are_all : (k : Plan) (key : List ℕ) (h : History) → IsLegalRun k key h → SharesAreAll k h
shares_are_all k key h run = record {
  sum = shares_sum k (seals_by key) h run.legal;
  resident = residents_fit k (seals_by key) h run.legal;
}
