-- What tests of all that a sweep saw tell of it.
use Rattle.std.proofs.Common.{◌≡◌, ℕ, suc, ◌+◌, ◌<◌, ◌≤◌, List, [], ◌∷◌, length, Bool, true, false, cond, ◌==◌, ◌&&◌, ◌||◌, ◌⊎◌, inl, inr, nat_eq, Some, refl, sym, ◌∙◌, ap, subst, arith, IsPermutation, Contains}
use Rattle.std.specs.List.{AllByRecursion, IsDistinct, count_by, list_all, list_any}
use Rattle.std.proofs.lemmas.Bool.{and_parts, and_from, eqb-true, eq-eqb, or_cases, or_left, or_right}
use Rattle.std.proofs.lemmas.List.{length-map}
use Rattle.std.proofs.lemmas.List.Sums.{sum_by-cons}
use Rattle.eleos_base.specs.declared.memory.Looked.{Looked}
use Rattle.eleos_base.specs.declared.memory.Reply.{Reply}
use Rattle.eleos_base.specs.declared.memory.Reply.TheVariants.{Enough, Swept}
use Rattle.eleos_core.specs.declared.event.Goal.TheVariants.{Low}
use Rattle.eleos_core.specs.Sweeps.{IsEnough, IsShort, IsSwept, IsTaken, SurveyReply, frames_in}
use Rattle.eleos_base.specs.Words.{is_busy, is_taken}
use Rattle.eleos_core.proofs.FrameLists.{member_from, member_into, no_longer}

-- a fact of each, from a test of each, and back
module _ (test : Looked → Bool) (P : Looked → Type 0) where
  pub each_from : ((seen : Looked) → test seen ≡ true → P seen) → (sweep : List Looked) → list_all test sweep ≡ true → AllByRecursion P sweep
  each_from one [] all = tt
  each_from one (seen ∷ sweep) all = let parts : (test seen ≡ true) × (list_all test sweep ≡ true) = and_parts (test seen) (list_all test sweep) all in (one seen parts.0, each_from one sweep parts.1)

  pub each_into : ((seen : Looked) → P seen → test seen ≡ true) → (sweep : List Looked) → AllByRecursion P sweep → list_all test sweep ≡ true
  each_into one [] all = refl
  each_into one (seen ∷ sweep) all = and_from (test seen) (list_all test sweep) (one seen all.0) (each_into one sweep all.1)

-- the tests of words
abbrev pub is_free : Looked → Bool
is_free seen = seen.word == 0

-- the frame was found pinned, or somebody had its turn
abbrev pub is_taken_there : Looked → Bool
is_taken_there seen = is_taken seen.word

-- somebody had the turn of the frame
abbrev pub is_busy_there : Looked → Bool
is_busy_there seen = is_busy seen.word

-- it was found free, or taken
abbrev pub is_free_or_taken : Looked → Bool
is_free_or_taken seen = seen.word == 0 || is_taken seen.word

abbrev free_from : (seen : Looked) → is_free seen ≡ true → seen.word ≡ 0
free_from seen free = eqb-true seen.word 0 free

abbrev free_into : (seen : Looked) → seen.word ≡ 0 → is_free seen ≡ true
free_into seen free = eq-eqb seen.word 0 free

either_from : (seen : Looked) → is_free_or_taken seen ≡ true → (seen.word ≡ 0) ⊎ (is_taken seen.word ≡ true)
either_from seen holds = by_case (or_cases (is_free seen) (is_taken seen.word) holds)
  where
    by_case : (is_free seen ≡ true) ⊎ (is_taken seen.word ≡ true) → (seen.word ≡ 0) ⊎ (is_taken seen.word ≡ true)
    by_case (inl free) = inl (eqb-true seen.word 0 free)
    by_case (inr taken) = inr taken

either_into : (seen : Looked) → (seen.word ≡ 0) ⊎ (is_taken seen.word ≡ true) → is_free_or_taken seen ≡ true
either_into seen (inl free) = or_left (is_free seen) (is_taken seen.word) (eq-eqb seen.word 0 free)
either_into seen (inr taken) = or_right (is_free seen) (is_taken seen.word) taken

-- IsTaken by its tests
pub taken_decides : (sweep : List Looked) (frames named : List ℕ) (r : Bool) → list_all is_taken_there sweep ≡ true → named ≡ frames_in sweep
    → (r ≡ true → IsPermutation named frames) × (IsPermutation named frames → r ≡ true) → (r ≡ true → IsTaken sweep frames) × (IsTaken sweep frames → r ≡ true)
taken_decides sweep frames named r all is decides = (
  (λ yes. record { all = subst (λ z. IsPermutation z frames) is (decides.0 yes); taken = each_from is_taken_there (λ seen. is_taken seen.word ≡ true) (λ seen h. h) sweep all }),
  (λ taken. decides.1 (subst (λ z. IsPermutation z frames) (sym is) taken.all)),
)

-- and where one was not found taken, the sweep is none that found all taken
pub not_taken : (sweep : List Looked) (frames : List ℕ) → list_all is_taken_there sweep ≡ false → IsTaken sweep frames → false ≡ true
not_taken sweep frames not taken = sym not ∙ each_into is_taken_there (λ seen. is_taken seen.word ≡ true) (λ seen h. h) sweep taken.taken

-- IsShort by its tests
pub short_decides : (sweep : List Looked) (pool named : List ℕ) (r : Bool) → list_all is_busy_there sweep ≡ true → named ≡ frames_in sweep
    → (r ≡ true → IsPermutation named pool) × (IsPermutation named pool → r ≡ true) → (r ≡ true → IsShort pool sweep) × (IsShort pool sweep → r ≡ true)
short_decides sweep pool named r all is decides = (
  (λ yes. record { all = subst (λ z. IsPermutation z pool) is (decides.0 yes); busy = each_from is_busy_there (λ seen. is_busy seen.word ≡ true) (λ seen h. h) sweep all }),
  (λ short. decides.1 (subst (λ z. IsPermutation z pool) (sym is) short.all)),
)

-- where one was not found BUSY, the sweep is none that found the pool so
pub not_short : (sweep : List Looked) (pool : List ℕ) → list_all is_busy_there sweep ≡ false → IsShort pool sweep → false ≡ true
not_short sweep pool not short = sym not ∙ each_into is_busy_there (λ seen. is_busy seen.word ≡ true) (λ seen h. h) sweep short.busy

-- IsSwept by its tests
pub swept_decides : (own : List ℕ) (low : ℕ) (sweep : List Looked) (named : List ℕ) (r : Bool) → count_by is_free sweep < low → list_all is_free_or_taken sweep ≡ true → named ≡ frames_in sweep
    → (r ≡ true → IsPermutation named own) × (IsPermutation named own → r ≡ true) → (r ≡ true → IsSwept own low sweep (count_by is_free sweep)) × (IsSwept own low sweep (count_by is_free sweep) → r ≡ true)
swept_decides own low sweep named r few all is decides = (
  (λ yes. record {
    count = refl;
    too_few = few;
    all = subst (λ z. IsPermutation z own) is (decides.0 yes);
    words = each_from is_free_or_taken (λ seen. (seen.word ≡ 0) ⊎ (is_taken seen.word ≡ true)) either_from sweep all;
  }),
  (λ swept. decides.1 (subst (λ z. IsPermutation z own) (sym is) swept.all)),
)

-- where one was found neither free nor taken, the sweep is none that found too few
pub not_swept : (own : List ℕ) (low : ℕ) (sweep : List Looked) (z : ℕ) → list_all is_free_or_taken sweep ≡ false → IsSwept own low sweep z → false ≡ true
not_swept own low sweep z not swept = sym not ∙ each_into is_free_or_taken (λ seen. (seen.word ≡ 0) ⊎ (is_taken seen.word ≡ true)) either_into sweep swept.words

-- IsEnough by its tests
abbrev pub is_listed : List ℕ → List ℕ → Bool
is_listed own frames = list_all (λ frame. list_any (nat_eq frame) own) frames

-- by what the sweep names
pub listed_are : (own : List ℕ) (sweep : List Looked) → list_all (λ (seen : Looked). list_any (nat_eq seen.frame) own) sweep ≡ is_listed own (frames_in sweep)
listed_are own [] = refl
listed_are own (seen ∷ sweep) = ap (λ b. list_any (nat_eq seen.frame) own && b) (listed_are own sweep)

listed_from : (own : List ℕ) (sweep : List Looked) → is_listed own (frames_in sweep) ≡ true → AllByRecursion (λ (seen : Looked). Contains own seen.frame) sweep
listed_from own [] all = tt
listed_from own (seen ∷ sweep) all = let parts : (list_any (nat_eq seen.frame) own ≡ true) × (is_listed own (frames_in sweep) ≡ true) = and_parts (list_any (nat_eq seen.frame) own) (is_listed own (frames_in sweep)) all in
    (member_from seen.frame own parts.0, listed_from own sweep parts.1)

listed_into : (own : List ℕ) (sweep : List Looked) → AllByRecursion (λ (seen : Looked). Contains own seen.frame) sweep → is_listed own (frames_in sweep) ≡ true
listed_into own [] all = refl
listed_into own (seen ∷ sweep) all = and_from (list_any (nat_eq seen.frame) own) (is_listed own (frames_in sweep)) (member_into seen.frame own all.0) (listed_into own sweep all.1)

-- where no fewer than asked for were found free, all of the list: enough were found just where none is named twice
pub enough_decides : (own : List ℕ) (low : ℕ) (sweep : List Looked) (named : List ℕ) (r : Bool) → low ≤ length sweep → list_all is_free sweep ≡ true → named ≡ frames_in sweep → is_listed own named ≡ true
    → (r ≡ true → IsDistinct nat_eq named) × (IsDistinct nat_eq named → r ≡ true) → (r ≡ true → IsEnough own low sweep (length sweep)) × (IsEnough own low sweep (length sweep) → r ≡ true)
enough_decides own low sweep named r many all is listed decides = (
  (λ yes. record {
    count = refl;
    enough = many;
    once = subst (IsDistinct nat_eq) is (decides.0 yes);
    listed = listed_from own sweep (ap (is_listed own) (sym is) ∙ listed);
    free = each_from is_free (λ seen. seen.word ≡ 0) free_from sweep all;
  }),
  (λ enough. decides.1 (subst (IsDistinct nat_eq) (sym is) enough.once)),
)

-- where one was not found free, the sweep is none that found enough
pub not_free : (own : List ℕ) (low : ℕ) (sweep : List Looked) (z : ℕ) → list_all is_free sweep ≡ false → IsEnough own low sweep z → false ≡ true
not_free own low sweep z not enough = sym not ∙ each_into is_free (λ seen. seen.word ≡ 0) free_into sweep enough.free

-- and none where it names a frame that is not the owner's
pub not_listed : (own : List ℕ) (low : ℕ) (sweep : List Looked) (z : ℕ) (named : List ℕ) → named ≡ frames_in sweep → is_listed own named ≡ false → IsEnough own low sweep z → false ≡ true
not_listed own low sweep z named is not enough = sym not ∙ (ap (is_listed own) is ∙ listed_into own sweep enough.listed)

-- the frames found free are no more than the list has
moved : (own : List ℕ) (sweep : List Looked) → AllByRecursion (λ (seen : Looked). Contains own seen.frame) sweep → (x : ℕ) → list_any (nat_eq x) (frames_in sweep) ≡ true → list_any (nat_eq x) own ≡ true
moved own [] all x found = absurd (cc)
moved own (seen ∷ sweep) all x found = by_case (moved own sweep all.1 x) (or_cases (nat_eq x seen.frame) (list_any (nat_eq x) (frames_in sweep)) found)
  where
    by_case : (list_any (nat_eq x) (frames_in sweep) ≡ true → list_any (nat_eq x) own ≡ true) → (nat_eq x seen.frame ≡ true) ⊎ (list_any (nat_eq x) (frames_in sweep) ≡ true) → list_any (nat_eq x) own ≡ true
    by_case rest (inl here) = ap (λ z. list_any (nat_eq z) own) (eqb-true x seen.frame here) ∙ member_into seen.frame own all.0
    by_case rest (inr later) = rest later

-- so a sweep that found enough is no longer than the list
pub enough_short : (own : List ℕ) (low : ℕ) (sweep : List Looked) (z : ℕ) → IsEnough own low sweep z → length sweep ≤ length own
enough_short own low sweep z enough = let few : length (frames_in sweep) ≤ length own = no_longer (frames_in sweep) own enough.once (moved own sweep enough.listed) in
    let same : length (frames_in sweep) ≡ length sweep = length-map sweep (λ (seen : Looked). seen.frame) in omega arith

-- where all were found free they are as many as the sweep names
all_free : (sweep : List Looked) → AllByRecursion (λ (seen : Looked). seen.word ≡ 0) sweep → count_by is_free sweep ≡ length sweep
all_free [] all = refl
all_free (seen ∷ sweep) all = sum_by-cons (λ (s : Looked). cond (is_free s) 1 0) seen sweep
    ∙ ((λ i. cond (free_into seen all.0 i) 1 0 + all_free sweep all.1 i) ∙ one_more (length sweep))
  where
    one_more : (n : ℕ) → 1 + n ≡ suc n
    one_more n = omega arith

not_both : (own : List ℕ) (low : ℕ) (sweep : List Looked) (y z : ℕ) → IsEnough own low sweep y → IsSwept own low sweep z → ⊥
not_both own low sweep y z enough swept = let all : count_by is_free sweep ≡ length sweep = all_free sweep enough.free in
    let many = enough.enough in let count = enough.count in let few = swept.too_few in let count' = swept.count in omega arith

-- a reply that is allowed is the one found
module _ (own pool : List ℕ) (low : ℕ) (sweep : List Looked) where
  -- where enough were found free, that is the only reply that the search may have
  pub only_enough : IsEnough own low sweep (length sweep) → (reply : Reply) → SurveyReply own pool (Low low) sweep reply → Some (Enough (length sweep)) ≡ Some reply
  only_enough found (Enough z) enough = ap (λ n. Some (Enough n)) (sym enough.count)
  only_enough found (Swept z) swept = absurd (not_both own low sweep (length sweep) z found swept)
  only_enough found _ wrong = absurd wrong
