-- Words that are told, one after another.
use Rattle.std.proofs.Common.{◌≡◌, ℕ, zero, suc, ◌+◌, ◌≤◌, ◌<◌, List, [], ◌∷◌, ◌++◌, length, Option, Some, refl, sym, ap, ◌∙◌, arith, append_assoc, append-nil, length-append, add-zero, add-suc, min, ◌^◌, ◌-◌}
use Rattle.std.proofs.lemmas.Bool.Decides.{nat_tests}
use Rattle.eleos_words.specs.declared.told.TheConstants.{MOST_TOLD}
use Rattle.eleos_words.specs.Told.{Placed, placed, with_word, with_words, placed_from, more_calls, AllPlaced}

-- one word more at the end
pub placed_from-snoc : (at : ℕ) (words : List ℕ) (word : ℕ)
    → placed_from at (words ++ word ∷ []) ≡ placed_from at words ++ placed (at + length words) word ∷ []
placed_from-snoc at [] word = ap (λ n. placed n word ∷ []) (sym (add-zero at))
placed_from-snoc at (x ∷ xs) word =
    let e : at + 1 + length xs ≡ at + length (x ∷ xs) = omega arith in
    ap (λ l. placed at x ∷ l) (placed_from-snoc (at + 1) xs word ∙ ap (λ n. placed_from (at + 1) xs ++ placed n word ∷ []) e)

-- words that stand one after another from a place on are as many as without their places
pub length-placed_from : (at : ℕ) (words : List ℕ) → length (placed_from at words) ≡ length words
length-placed_from at [] = refl
length-placed_from at (x ∷ xs) = ap suc (length-placed_from (at + 1) xs)

-- words told after words that are told
pub with_words-append : (told : Option (List Placed)) (xs ys : List Placed)
    → with_words told (xs ++ ys) ≡ with_words (with_words told xs) ys
with_words-append told [] ys = refl
with_words-append told (x ∷ xs) ys = with_words-append (with_word told x.at x.word) xs ys

-- one word more, while there are few
pub with_word-few : (told : List Placed) (at word : ℕ) → length told < MOST_TOLD
    → with_word (Some told) at word ≡ Some (told ++ placed at word ∷ [])
with_word-few told at word few = grind (arith, nat_tests)

-- calls counted after calls that are counted
pub more_calls-more : (calls a b : ℕ) → more_calls (more_calls calls a) b ≡ more_calls calls (a + b)
more_calls-more calls a zero = ap (more_calls calls) (sym (add-zero a))
more_calls-more calls a (suc k) =
    ap (λ n. min (n + 1) (2 ^ 64 - 1)) (more_calls-more calls a k)
    ∙ ap (more_calls calls) (sym (add-suc a k))

-- all are told while there are few
pub with_words-few : (told xs : List Placed) → length told + length xs ≤ MOST_TOLD
    → with_words (Some told) xs ≡ Some (told ++ xs)
with_words-few told [] few = ap Some (sym (append-nil told))
with_words-few told (x ∷ xs) few =
    let one : length told < MOST_TOLD = omega arith in
    let rest : length (told ++ x ∷ []) + length xs ≤ MOST_TOLD = omega (arith, length-append told (x ∷ [])) in
    ap (λ t. with_words t xs) (with_word-few told x.at x.word one)
    ∙ with_words-few (told ++ x ∷ []) xs rest ∙ ap Some (append_assoc told (x ∷ []) xs)

-- what holds of each word of two lists at its place holds of each word of both together
pub AllPlaced-append : (P : ℕ → ℕ → Type 0) (xs ys : List Placed) → AllPlaced P xs → AllPlaced P ys → AllPlaced P (xs ++ ys)
AllPlaced-append P [] ys all more = more
AllPlaced-append P (x ∷ xs) ys all more = (all.0, AllPlaced-append P xs ys all.1 more)

-- three words, more of them, and a last one, from the beginning on
pub told-job : (s₀ s₁ s₂ s₃ s₄ s₅ : Option (List Placed)) (a b c e : Placed) (xs : List Placed) → length xs ≤ 128 → s₀ ≡ Some []
    → s₁ ≡ with_word s₀ a.at a.word → s₂ ≡ with_word s₁ b.at b.word → s₃ ≡ with_word s₂ c.at c.word → s₄ ≡ with_words s₃ xs → s₅ ≡ with_word s₄ e.at e.word
    → s₅ ≡ Some (a ∷ b ∷ c ∷ xs ++ e ∷ [])
told-job s₀ s₁ s₂ s₃ s₄ s₅ a b c e xs few p₀ p₁ p₂ p₃ p₄ p₅ =
    let q₃ : s₃ ≡ with_words (Some []) (a ∷ b ∷ c ∷ []) =
    p₃ ∙ ap (λ s. with_word s c.at c.word) (p₂ ∙ ap (λ s. with_word s b.at b.word) (p₁ ∙ ap (λ s. with_word s a.at a.word) p₀)) in
    let q₄ : s₄ ≡ with_words (Some []) (a ∷ b ∷ c ∷ xs) = p₄ ∙ ap (λ s. with_words s xs) q₃ in
    let q₅ : s₅ ≡ with_words (Some []) (a ∷ b ∷ c ∷ xs ++ e ∷ []) =
    p₅ ∙ ap (λ s. with_word s e.at e.word) q₄ ∙ sym (with_words-append (Some []) (a ∷ b ∷ c ∷ xs) (e ∷ [])) in
    q₅ ∙ with_words-few [] (a ∷ b ∷ c ∷ xs ++ e ∷ []) (omega (arith, length-append xs (e ∷ [])))

-- the calls of three stores, of those of the words between, and of a last one
pub called-reply : (s₀ s₁ s₂ s₃ s₄ s₅ : ℕ) (a b d e : Placed) (xs : List Placed)
    → s₁ ≡ more_calls s₀ 1 → s₂ ≡ more_calls s₁ 1 → s₃ ≡ more_calls s₂ 1 → s₄ ≡ more_calls s₃ (length xs) → s₅ ≡ more_calls s₄ 1
    → s₅ ≡ more_calls s₀ (length (a ∷ b ∷ d ∷ xs ++ e ∷ []))
called-reply s₀ s₁ s₂ s₃ s₄ s₅ a b d e xs p₁ p₂ p₃ p₄ p₅ =
    let one : ℕ → ℕ = λ n. more_calls n 1 in
    let q₃ : s₃ ≡ more_calls s₀ 3 = p₃ ∙ ap one (p₂ ∙ ap one p₁) in
    let q₄ : s₄ ≡ more_calls s₀ (3 + length xs) = p₄ ∙ ap (λ n. more_calls n (length xs)) q₃ ∙ more_calls-more s₀ 3 (length xs) in
    let all : 3 + length xs + 1 ≡ length (a ∷ b ∷ d ∷ xs ++ e ∷ []) = omega (arith, length-append xs (e ∷ [])) in
    p₅ ∙ ap one q₄ ∙ more_calls-more s₀ (3 + length xs) 1 ∙ ap (more_calls s₀) all

-- the same after a `glance`
pub called-job : (c s₀ s₁ s₂ s₃ s₄ s₅ : ℕ) (a b d e : Placed) (xs : List Placed) → s₀ ≡ more_calls c 1
    → s₁ ≡ more_calls s₀ 1 → s₂ ≡ more_calls s₁ 1 → s₃ ≡ more_calls s₂ 1 → s₄ ≡ more_calls s₃ (length xs) → s₅ ≡ more_calls s₄ 1
    → s₅ ≡ more_calls c (suc (length (a ∷ b ∷ d ∷ xs ++ e ∷ [])))
called-job c s₀ s₁ s₂ s₃ s₄ s₅ a b d e xs p₀ p₁ p₂ p₃ p₄ p₅ =
    let k : ℕ = length (a ∷ b ∷ d ∷ xs ++ e ∷ []) in
    let all : 1 + k ≡ suc k = omega arith in
    called-reply s₀ s₁ s₂ s₃ s₄ s₅ a b d e xs p₁ p₂ p₃ p₄ p₅ ∙ ap (λ n. more_calls n k) p₀
    ∙ more_calls-more c 1 k ∙ ap (more_calls c) all
