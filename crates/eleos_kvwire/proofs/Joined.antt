-- The bytes of pieces together.
use Rattle.std.proofs.Common.{◌≡◌, ℕ, ◌+◌, ◌<◌, List, [], ◌∷◌, ◌++◌, length, map, take, drop, get_or, refl, sym, ◌∙◌, ap, append-nil}
use Rattle.std.specs.List.{concat}
use Rattle.std.proofs.lemmas.List.{map-append, take_more, take-append-drop}
use Rattle.std.proofs.lemmas.List.Folds.{concat-append}

module _ {X : Type 0} (bytes : X → List ℕ) (pieces : List X) (i : ℕ) where
  -- one piece more
  pub joined_next : (d : X) → i < length pieces → concat (map bytes (take i pieces)) ++ bytes (get_or pieces i d) ≡ concat (map bytes (take (i + 1) pieces))
  joined_next d within =
      rw (take_more pieces i d within, map-append bytes (take i pieces) (get_or pieces i d ∷ []), concat-append (map bytes (take i pieces)) (bytes (get_or pieces i d) ∷ []), append-nil (bytes (get_or pieces i d))) refl

  -- some pieces, and the others
  pub joined_all : concat (map bytes (take i pieces)) ++ concat (map bytes (drop i pieces)) ≡ concat (map bytes pieces)
  joined_all = sym (concat-append (map bytes (take i pieces)) (map bytes (drop i pieces))) ∙ ap concat (sym (map-append bytes (take i pieces) (drop i pieces)) ∙ ap (map bytes) (take-append-drop i pieces))
