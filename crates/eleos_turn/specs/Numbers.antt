-- Lists of numbers: without some, how often, and sums.
use Rattle.std.specs.Prelude.{ℕ, zero, suc, ◌==◌, cond, ◌+◌, List, [], ◌∷◌, length, nat_lt}

-- the list without this number
abbrev pub without : ℕ → List ℕ → List ℕ
without c [] = []
without c (x ∷ xs) = cond (c == x) (without c xs) (x ∷ without c xs)

-- how often the number stands in the list
abbrev pub times : ℕ → List ℕ → ℕ
times c [] = 0
times c (x ∷ xs) = cond (c == x) 1 0 + times c xs

-- the list without one of these numbers
abbrev pub less_one : ℕ → List ℕ → List ℕ
less_one c [] = []
less_one c (x ∷ xs) = cond (c == x) xs (x ∷ less_one c xs)

-- n numbers, those above a
abbrev pub above : ℕ → ℕ → List ℕ
above a zero = []
above a (suc n) = (a + 1) ∷ above (a + 1) n

-- the sum over a list, from its end
abbrev pub total : {A : Type 0} → (A → ℕ) → List A → ℕ
total f [] = 0
total f (x ∷ xs) = f x + total f xs

-- the first of a list, alone
abbrev pub first_of : List ℕ → List ℕ
first_of [] = []
first_of (x ∷ xs) = x ∷ []

-- all but the first of a list
abbrev pub rest_of : List ℕ → List ℕ
rest_of [] = []
rest_of (x ∷ xs) = xs

-- the longer of two lists
abbrev pub longer : {A : Type 0} → List A → List A → List A
longer xs ys = cond (nat_lt (length xs) (length ys)) ys xs

-- the shorter of two lists
abbrev pub shorter : {A : Type 0} → List A → List A → List A
shorter xs ys = cond (nat_lt (length xs) (length ys)) xs ys

-- the pins that each hand may have
abbrev pub most_pins : ℕ
most_pins = 16777216

-- the numbers under which a hand of the number k stamps: a hand of `split` has the number 0, and stamps nothing
abbrev pub numbers_of : ℕ → List ℕ
numbers_of zero = []
numbers_of (suc k) = (k + 1) ∷ []

-- the pins that a hand of the number k may have
abbrev pub most_of : ℕ → ℕ
most_of zero = 0
most_of (suc k) = most_pins
