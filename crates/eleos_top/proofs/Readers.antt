-- What a reader refuses of the bytes of a source.
use Rattle.std.proofs.Common.{◌≡◌, ℕ, ◌<◌, List, length, Option, Some, None, IfSome, Result, Err, false, refl, sym, ◌∙◌, ap, subst, nat_le, arith}
use Rattle.std.proofs.lemmas.Bool.Decides.{nat_tests}
use Rattle.eleos_texts.specs.Texts.{most_text}
use Rattle.eleos_trace.specs.Reading.{trace_of, prefix_of}
use Rattle.eleos_texts.specs.Reasons.{Fails}
use Rattle.eleos_trace.specs.declared.trace.Kind.{Kind}
use Rattle.eleos_texts.specs.declared.why.Bad.{Bad}
use Rattle.eleos_texts.specs.declared.why.Why.{Why}
use Rattle.eleos_texts.specs.declared.why.Why.TheVariants.{TooLarge}
use Rattle.eleos_texts.specs.declared.why.TraceRefused.{TraceRefused}
use Rattle.eleos_texts.specs.declared.why.TraceRefused.TheVariants as refused
use Rattle.eleos_top.specs.declared.input.InputError.{InputError}
use Rattle.eleos_top.specs.declared.input.InputError.TheVariants as refusals
use Rattle.eleos_vectors.specs.Vectors.{vectors_in}

not_le : (a b : ℕ) → b < a → nat_le a b ≡ false
not_le a b lt = grind (arith, nat_tests)

-- the line for too many bytes
abbrev pub too_large : Bad
too_large = record { line = 0; why = TooLarge }

-- too many bytes are no vectors
pub vectors_in-large : (input : List ℕ) → most_text < length input → vectors_in input ≡ Err too_large
unfolding vectors_in
vectors_in-large input large = rw (not_le (length input) most_text large) refl

-- nor a trace of any kind
pub trace_of-large : (kind : Kind) (input : List ℕ) → most_text < length input → trace_of kind input ≡ Err too_large
unfolding trace_of prefix_of
trace_of-large kind input large = rw (not_le (length input) most_text large) refl

module _ {Y : Type 0} (reader : List ℕ → Result Y Bad) where
  -- too many bytes of a source, where they are told
  pub refuses_large : ((input : List ℕ) → most_text < length input → reader input ≡ Err too_large)
      → (left : Option (List ℕ)) → IfSome left (λ input. most_text < length input) → IfSome left (λ input. reader input ≡ Err too_large)
  refuses_large each (Some input) large = each input large
  refuses_large each None large = large

  -- what reading refuses is refused of the source's bytes
  pub refuses_told : (left : Option (List ℕ)) (input : List ℕ) (e : TraceRefused) (line : ℕ) (why : Why) → IfSome left (λ told. input ≡ told) → e ≡ refused.Bad line why
      → Fails e (reader input) → IfSome left (λ told. reader told ≡ Err (record { line = line; why = why }))
  refuses_told (Some told) input e line why same is fails = ap reader (sym same) ∙ subst (λ r. Fails r (reader input)) is fails
  refuses_told None input e line why same is fails = same

  -- the refusal that is answered then
  pub refused_as : {X : Type 0} (left : Option (List ℕ)) (e : InputError) (made bad : Bad) → IfSome left (λ input. reader input ≡ Err made) → e ≡ refusals.Refused made
      → ◌≡◌ {A = Result X InputError} (Err e) (Err (refusals.Refused bad)) → IfSome left (λ input. reader input ≡ Err bad)
  refused_as left e made bad refuses is same = subst (λ b. IfSome left (λ input. reader input ≡ Err b)) (let equal : made ≡ bad = cc in equal) refuses
