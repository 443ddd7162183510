-- What a reader gave, by its answer with the line's number.
use Rattle.std.proofs.Common.{◌≡◌, ℕ, Result, Ok, Err, refl, ◌∙◌}
use Rattle.eleos_texts.specs.declared.why.Why.{Why}
use Rattle.eleos_texts.specs.declared.why.Bad.{Bad}
use Rattle.eleos_texts.specs.declared.why.TraceRefused.{TraceRefused}
use Rattle.eleos_texts.specs.declared.why.TraceRefused.TheVariants as refused
use Rattle.eleos_texts.specs.declared.why.LineRefused.{LineRefused}
use Rattle.eleos_texts.specs.declared.why.LineRefused.TheVariants as line_refused
use Rattle.eleos_texts.specs.Reasons.{at_line, ◌>>=◌, Fails, Reads, answer_at}

-- the value of a reader, by its answer with the line's number
pub read_ok : {A B : Type 0} (view : A → B) (line : ℕ) (answer : Result A LineRefused) (read : Result B Why) (x : A) → answer_at line answer ≡ Ok x → Reads view answer read → read ≡ Ok (view x)
read_ok {A = A} {B = B} view line (Ok y) read x is given = given ∙ is_same is where
  is_same : ◌≡◌ {A = Result A TraceRefused} (Ok y) (Ok x) → ◌≡◌ {A = Result B Why} (Ok (view y)) (Ok (view x))
  is_same e = cc
read_ok view line (Err line_refused.NoMemory) read x is given = absurd cc
read_ok view line (Err (line_refused.Bad why)) read x is given = absurd cc

-- the reason of a reader, by its answer with the line's number
pub read_bad : {A B : Type 0} (view : A → B) (line : ℕ) (answer : Result A LineRefused) (read : Result B Why) (e : TraceRefused) → answer_at line answer ≡ Err e → Reads view answer read → Fails e (at_line line read)
read_bad view line answer read refused.NoMemory is given = tt
read_bad view line (Ok y) read (refused.Bad bad why) is given = absurd cc
read_bad view line (Err line_refused.NoMemory) read (refused.Bad bad why) is given = absurd cc
read_bad {A = A} {B = B} view line (Err (line_refused.Bad other)) read (refused.Bad bad why) is given = rw given (same is) where
  same : ◌≡◌ {A = Result A TraceRefused} (Err (refused.Bad line other)) (Err (refused.Bad bad why)) → ◌≡◌ {A = Result B Bad} (Err (record { line = line; why = other })) (Err (record { line = bad; why = why }))
  same e = cc

-- what fails first fails as a whole
pub fails_first : {A B : Type 0} (e : TraceRefused) (first : Result A Bad) (next : A → Result B Bad) → Fails e first → Fails e (first >>= next)
fails_first refused.NoMemory first next fails = tt
fails_first (refused.Bad bad why) first next fails = rw fails refl
