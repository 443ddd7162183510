-- Words with a blank before each, and with blanks between.
use Rattle.std.proofs.Common.{◌≡◌, ℕ, List, [], ◌∷◌, ◌++◌, map, refl, sym, ap, append-nil, append_assoc}
use Rattle.std.specs.List.{flat_map, join_with_byte}
use Rattle.std.proofs.lemmas.List.Concat.{flat_map-append}
use Rattle.eleos_report.specs.Log.{spaced}

-- a blank before what each item gives
pub spaced-map : {A : Type 0} (f : A → List ℕ) (xs : List A) → spaced (map f xs) ≡ flat_map (λ x. 32 ∷ f x) xs
spaced-map f [] = refl
spaced-map f (x ∷ xs) = ap (λ rest. (32 ∷ f x) ++ rest) (spaced-map f xs)

-- words with blanks between are the first word, and the others with a blank before each
pub join-spaced : (word : List ℕ) (words : List (List ℕ)) → join_with_byte 32 (word ∷ words) ≡ word ++ spaced words
join-spaced word [] = sym (append-nil word)
join-spaced word (next ∷ words) = ap (λ rest. word ++ 32 ∷ rest) (join-spaced next words)

-- a line in the order in which it is printed
pub said_line : (out stamp actor : List ℕ) (command reply : List (List ℕ))
    → ((out ++ (stamp ++ 32 ∷ actor ++ spaced command ++ (32 ∷ 61 ∷ []))) ++ spaced reply) ++ 10 ∷ []
    ≡ out ++ (join_with_byte 32 (stamp ∷ actor ∷ command ++ (61 ∷ []) ∷ reply) ++ 10 ∷ [])
said_line out stamp actor command reply =
    rw (join-spaced stamp (actor ∷ command ++ (61 ∷ []) ∷ reply), flat_map-append (λ word. 32 ∷ word) command ((61 ∷ []) ∷ reply)) (simp append_assoc)
