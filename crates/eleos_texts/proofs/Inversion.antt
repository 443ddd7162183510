-- What a step that did not fail was given.
use Rattle.std.proofs.Common.{◌≡◌, ◌⊎◌, Bool, true, false, cond, Result, Ok, Err, refl, inl, inr}
use Rattle.eleos_texts.specs.declared.why.Why.{Why}
use Rattle.eleos_texts.specs.Reasons.{◌>>=◌}

-- the value of a step, and what the next one gave
pub bind_ok : {A B E : Type 0} (r : Result A E) (f : A → Result B E) (y : B) → (r >>= f) ≡ Ok y → (x : A) × (r ≡ Ok x) × (f x ≡ Ok y)
bind_ok (Ok x) f y e = (x, refl, e)
bind_ok (Err d) f y e = absurd cc

-- a test that holds, and what is behind it
pub guard_ok : {A : Type 0} (b : Bool) (r : Result A Why) (why : Why) (y : A) → cond b r (Err why) ≡ Ok y → (b ≡ true) × (r ≡ Ok y)
guard_ok true r why y e = (refl, e)
guard_ok false r why y e = absurd cc

-- a reason is no value
pub no_value : {A : Type 0} (why : Why) (y : A) → ◌≡◌ {A = Result A Why} (Err why) (Ok y) → ⊥
no_value why y e = cc

-- one of two
pub cond_either : {A : Type 0} (b : Bool) (r s y : A) → cond b r s ≡ y → (r ≡ y) ⊎ (s ≡ y)
cond_either true r s y e = inl e
cond_either false r s y e = inr e

-- equal answers have equal values
pub ok_is : {A E : Type 0} (x y : A) → ◌≡◌ {A = Result A E} (Ok x) (Ok y) → x ≡ y
ok_is x y e = cc
