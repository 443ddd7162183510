-- True calls in a row.
use Rattle.std.proofs.Common.{ℕ, List, [], ◌∷◌, ◌++◌}
use Rattle.eleos_base.specs.Own.{AreTrueFrom, Private, Said, after_call, after_calls}

-- calls that are true in a row are so in its two parts
pub true-front : (sub : ℕ) (p : Private) (cs ds : List Said) → AreTrueFrom sub p (cs ++ ds) → AreTrueFrom sub p cs
true-front sub p [] ds h = tt
true-front sub p (c ∷ cs) ds h = (h.0, true-front sub (after_call sub c.0 c.1 p) cs ds h.1)

-- the second part with the private memory that the first left
pub true-back : (sub : ℕ) (p : Private) (cs ds : List Said) → AreTrueFrom sub p (cs ++ ds) → AreTrueFrom sub (after_calls sub p cs) ds
true-back sub p [] ds h = h
true-back sub p (c ∷ cs) ds h = true-back sub (after_call sub c.0 c.1 p) cs ds h.1
