-- Fronts of a text that is put piece by piece.
use Rattle.std.proofs.Common.{◌≡◌, ℕ, ◌<◌, ◌≤◌, List, [], ◌∷◌, length, Option, false, refl, arith, nat_le, get_or, take, drop, take-add, length-take, length-drop, Bool, true, take_all, ◌+◌, ◌-◌}
use Rattle.std.proofs.lemmas.List.{take-take}
use Rattle.std.specs.Io.KnownBytes.{Appends}
use Rattle.std.proofs.KnownBytes.{Appends-trans}
use Rattle.std.proofs.lemmas.Slice.{between_to_end}
use Rattle.std.proofs.lemmas.Bool.Decides.{nat_tests}

-- bytes that are taken of what is left of a text end within the text
pub within_text : (done count : ℕ) (text : List ℕ) → done ≤ length text → count ≤ length (take (length text - done) (drop done text)) → done + count ≤ length text
within_text done count text at fits = omega (arith, length-take {A = ℕ}, length-drop {A = ℕ})

-- a front of a front
front_of : (m n : ℕ) (xs : List ℕ) → (k : ℕ) × (take m (take n xs) ≡ take k xs)
front_of m n xs = by (nat_le m n) refl where
  by : (b : Bool) → nat_le m n ≡ b → (k : ℕ) × (take m (take n xs) ≡ take k xs)
  by true is = (m, take-take m n xs (grind (arith, nat_tests)))
  by false is = let lt : n < m = grind (arith, nat_tests) in (n, take_all m (take n xs) (omega (arith, length-take {A = ℕ})))

-- one more line
pub Appends-line : (a b c : Option (List ℕ)) (text : List ℕ) (done end : ℕ) → done ≤ end → Appends a b (take done text) → Appends b c (take (end - done) (drop done text)) → Appends a c (take end text)
Appends-line a b c text done end le first then =
    let whole : done + (end - done) ≡ end = omega arith in
    rw whole at (rw (← take-add) at (Appends-trans a b c (take done text) (take (end - done) (drop done text)) first then))

-- or a front of it
pub Appends-front : (a b c : Option (List ℕ)) (text : List ℕ) (done len count : ℕ) → Appends a b (take done text) → Appends b c (take count (take len (drop done text))) → (k : ℕ) × Appends a c (take k text)
Appends-front a b c text done len count first then =
    let front = front_of count len (drop done text) in
    (done + front.0, rw take-add (Appends-trans a b c (take done text) (take front.0 (drop done text)) first (rw front.1 at then)))

-- one more put
pub Appends-more : (a b c : Option (List ℕ)) (text : List ℕ) (done count : ℕ) → Appends a b (take done text) → Appends b c (take count (take (length text - done) (drop done text))) → Appends a c (take (done + count) text)
Appends-more a b c text done count first then =
    rw take-add (Appends-trans a b c (take done text) (take count (drop done text)) first (rw (between_to_end text done (length text) (omega arith)) at then))

-- a list of one item is that item alone
pub one_item : {A : Type 0} (xs : List A) (d : A) → length xs ≡ 1 → xs ≡ get_or xs 0 d ∷ []
one_item [] d one = absurd (omega arith)
one_item (x ∷ []) d one = refl
one_item (x ∷ y ∷ xs) d one = absurd (omega arith)
