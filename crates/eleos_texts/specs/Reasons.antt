-- Why a line is refused: the first reason of a list whose test fails.
use Rattle.std.specs.Prelude.{◌≡◌, ℕ, List, [], ◌∷◌, Bool, Result, Ok, Err, if◌then◌else◌}
use Rattle.eleos_texts.specs.declared.why.Why.{Why}
use Rattle.eleos_texts.specs.declared.why.Why.TheVariants.{Form}
use Rattle.eleos_texts.specs.declared.why.Bad.{Bad}
use Rattle.eleos_texts.specs.declared.why.TraceRefused.{TraceRefused}
use Rattle.eleos_texts.specs.declared.why.TraceRefused.TheVariants as refused
use Rattle.eleos_texts.specs.declared.why.LineRefused.{LineRefused}
use Rattle.eleos_texts.specs.declared.why.LineRefused.TheVariants as line_refused

-- a value, unless one of these tests fails: then the reason of the first that does
abbrev pub unless : {A : Type 0} → List (Bool × Why) → A → Result A Why
unless [] value = Ok value
unless (test ∷ tests) value = if test.0 then unless tests value else Err test.1

-- no value: the reason of the first of these tests that fails, or else this one
abbrev pub refusal : {A : Type 0} → List (Bool × Why) → Why → Result A Why
refusal [] why = Err why
refusal (test ∷ tests) why = if test.0 then refusal tests why else Err test.1

-- the next step, where the one before gave a value
infixl 10 ◌>>=◌
-- and where it was refused, that refusal
abbrev pub ◌>>=◌ : {A B E : Type 0} → Result A E → (A → Result B E) → Result B E
(Ok x) >>= f = f x
(Err e) >>= f = Err e

-- the items of a list that has just so many; any other list is of no form
module _ {A : Type 0} where
  -- of one item
  unfoldable pub one : List A → Result A Why
  one (a ∷ []) = Ok a
  one _ = Err Form

  -- of two
  unfoldable pub two : List A → Result (A × A) Why
  two (a ∷ b ∷ []) = Ok (a, b)
  two _ = Err Form

  -- of three
  unfoldable pub three : List A → Result (A × A × A) Why
  three (a ∷ b ∷ c ∷ []) = Ok (a, b, c)
  three _ = Err Form

  -- of four
  unfoldable pub four : List A → Result (A × A × A × A) Why
  four (a ∷ b ∷ c ∷ d ∷ []) = Ok (a, b, c, d)
  four _ = Err Form

  -- of five
  unfoldable pub five : List A → Result (A × A × A × A × A) Why
  five (a ∷ b ∷ c ∷ d ∷ e ∷ []) = Ok (a, b, c, d, e)
  five _ = Err Form

  -- of six
  unfoldable pub six : List A → Result (A × A × A × A × A × A) Why
  six (a ∷ b ∷ c ∷ d ∷ e ∷ f ∷ []) = Ok (a, b, c, d, e, f)
  six _ = Err Form

  -- of eight
  unfoldable pub eight : List A → Result (A × A × A × A × A × A × A × A) Why
  eight (a ∷ b ∷ c ∷ d ∷ e ∷ f ∷ g ∷ h ∷ []) = Ok (a, b, c, d, e, f, g, h)
  eight _ = Err Form

  -- the first item of a list, and the others
  unfoldable pub one_and_more : List A → Result (A × List A) Why
  one_and_more (a ∷ more) = Ok (a, more)
  one_and_more _ = Err Form

  -- the first two items of a list, and the others
  unfoldable pub two_and_more : List A → Result (A × A × List A) Why
  two_and_more (a ∷ b ∷ more) = Ok (a, b, more)
  two_and_more _ = Err Form

-- what a reader gives for the items of a list that has just so many
module _ {A R : Type 0} where
  -- of one item
  abbrev pub with_one : (A → Result R Why) → List A → Result R Why
  with_one read items = one items >>= read

  -- of two
  abbrev pub with_two : (A → A → Result R Why) → List A → Result R Why
  with_two read items = two items >>= λ x. read x.0 x.1

  -- of three
  abbrev pub with_three : (A → A → A → Result R Why) → List A → Result R Why
  with_three read items = three items >>= λ x. read x.0 x.1 x.2

  -- of four
  abbrev pub with_four : (A → A → A → A → Result R Why) → List A → Result R Why
  with_four read items = four items >>= λ x. read x.0 x.1 x.2 x.3

  -- of five
  abbrev pub with_five : (A → A → A → A → A → Result R Why) → List A → Result R Why
  with_five read items = five items >>= λ x. read x.0 x.1 x.2 x.3 x.4

  -- of six
  abbrev pub with_six : (A → A → A → A → A → A → Result R Why) → List A → Result R Why
  with_six read items = six items >>= λ x. read x.0 x.1 x.2 x.3 x.4 x.5

  -- of eight
  abbrev pub with_eight : (A → A → A → A → A → A → A → A → Result R Why) → List A → Result R Why
  with_eight read items = eight items >>= λ x. read x.0 x.1 x.2 x.3 x.4 x.5 x.6 x.7

  -- of the first and the others
  abbrev pub with_one_and_more : (A → List A → Result R Why) → List A → Result R Why
  with_one_and_more read items = one_and_more items >>= λ x. read x.0 x.1

  -- of the first two and the others
  abbrev pub with_two_and_more : (A → A → List A → Result R Why) → List A → Result R Why
  with_two_and_more read items = two_and_more items >>= λ x. read x.0 x.1 x.2

-- a reason with the line at which it stands
abbrev pub at_line : {A : Type 0} → ℕ → Result A Why → Result A Bad
at_line line (Ok x) = Ok x
at_line line (Err why) = Err (record { line = line; why = why })

-- what a call refused is what reading refuses, unless memory ran out
abbrev pub Fails : {Y : Type 0} → TraceRefused → Result Y Bad → Type 0
Fails refused.NoMemory read = Unit {0}
Fails (refused.Bad line why) read = read ≡ Err (record { line = line; why = why })

-- what a call answered, seen by view, is what reading gives, unless memory ran out
abbrev pub Gives : {X Y : Type 0} → (X → Y) → Result X TraceRefused → Result Y Bad → Type 0
Gives view (Ok x) read = read ≡ Ok (view x)
Gives view (Err e) read = Fails e read

-- what a reader of a line refused is what the grammar refuses, unless memory ran out
abbrev pub LineFails : {Y : Type 0} → LineRefused → Result Y Why → Type 0
LineFails line_refused.NoMemory read = Unit {0}
LineFails (line_refused.Bad why) read = read ≡ Err why

-- what a reader of a line answered, seen by view, is what the grammar gives, unless memory ran out
abbrev pub Reads : {X Y : Type 0} → (X → Y) → Result X LineRefused → Result Y Why → Type 0
Reads view (Ok x) read = read ≡ Ok (view x)
Reads view (Err e) read = LineFails e read

-- why a line was not read, as the answer for a whole text
abbrev pub refused_at : ℕ → LineRefused → TraceRefused
refused_at line line_refused.NoMemory = refused.NoMemory
refused_at line (line_refused.Bad why) = refused.Bad line why

-- what a reader of a line answered, as the answer for a whole text
abbrev pub answer_at : {X : Type 0} → ℕ → Result X LineRefused → Result X TraceRefused
answer_at line (Ok x) = Ok x
answer_at line (Err e) = Err (refused_at line e)
