-- How a text of vectors is read line by line.
use Rattle.std.proofs.Common.{◌≡◌, ℕ, ◌+◌, List, [], ◌∷◌, ◌++◌, Result, Ok, Err, true, false, refl, sym, ◌∙◌, ap, append_assoc, append-nil, codes}
use Rattle.std.specs.List.{slice_split}
use Rattle.std.specs.Str.{bytes_eq}
use Rattle.eleos_texts.specs.declared.why.Why.{Why}
use Rattle.eleos_texts.specs.declared.why.Why.TheVariants.{Cut}
use Rattle.eleos_texts.specs.declared.why.Bad.{Bad}
use Rattle.eleos_texts.specs.declared.why.TraceRefused.{TraceRefused}
use Rattle.eleos_texts.specs.declared.why.TraceRefused.TheVariants as refused
use Rattle.eleos_texts.specs.declared.why.LineRefused.{LineRefused}
use Rattle.eleos_texts.specs.declared.why.LineRefused.TheVariants as line_refused
use Rattle.eleos_texts.specs.Fields.{is_blank, is_newline}
use Rattle.eleos_texts.specs.Reasons.{Fails, Reads, answer_at, ◌>>=◌}
use Rattle.eleos_texts.specs.Texts.{ended}
use Rattle.eleos_texts.proofs.Texts.{split_cases}
use Rattle.eleos_vectors.specs.declared.vector.Vector.{Vector}
use Rattle.eleos_vectors.specs.Vectors.{vector_of, vectors_of}

-- these vectors, and then the others where there are any
abbrev pub with_front : List Vector → Result (List Vector) Bad → Result (List Vector) Bad
with_front front vectors = vectors >>= λ others. Ok (front ++ others)

with_front-push : (front : List Vector) (vector : Vector) (vectors : Result (List Vector) Bad) → with_front front (with_front (vector ∷ []) vectors) ≡ with_front (front ++ vector ∷ []) vectors
with_front-push front vector (Ok vectors) = ap Ok (sym (append_assoc front (vector ∷ []) vectors))
with_front-push front vector (Err bad) = refl

-- no vectors, where the text ends as it may
abbrev none_behind : Result (Unit {0}) Bad → Result (List Vector) Bad
none_behind read = read >>= λ _. Ok []

-- what the loop does at a line: text stands in it, and after behind it
module _ (line : ℕ) (text after : List ℕ) where
  -- the end
  vectors_of-end : bytes_eq text (codes "end") ≡ true → vectors_of line (text ∷ slice_split is_newline after) ≡ none_behind (ended (line + 1) (slice_split is_newline after))
  unfolding vectors_of
  vectors_of-end end = split_cases (λ parts. vectors_of line (text ∷ parts) ≡ none_behind (ended (line + 1) parts)) (λ part parts. rw end refl) after

  -- a vector
  vectors_of-vector : (vector : Vector) → bytes_eq text (codes "end") ≡ false → vector_of (slice_split is_blank text) ≡ Ok vector
      → vectors_of line (text ∷ slice_split is_newline after) ≡ with_front (vector ∷ []) (vectors_of (line + 1) (slice_split is_newline after))
  unfolding vectors_of
  vectors_of-vector vector go_on is =
      split_cases (λ parts. vectors_of line (text ∷ parts) ≡ with_front (vector ∷ []) (vectors_of (line + 1) parts)) (λ part parts. rw (go_on, is) refl) after

  -- a bad line
  vectors_of-bad : (why : Why) → bytes_eq text (codes "end") ≡ false → vector_of (slice_split is_blank text) ≡ Err why
      → vectors_of line (text ∷ slice_split is_newline after) ≡ Err (record { line = line; why = why })
  unfolding vectors_of
  vectors_of-bad why go_on is =
      split_cases (λ parts. vectors_of line (text ∷ parts) ≡ Err (record { line = line; why = why })) (λ part parts. rw (go_on, is) refl) after

-- a last line that no newline ends
vectors_of-cut : (line : ℕ) (text : List ℕ) → vectors_of line (text ∷ []) ≡ Err (record { line = line; why = Cut })
unfolding vectors_of
vectors_of-cut line text = refl

-- front has the vectors so far, and whole those of all lines
module _ (line : ℕ) (front : List Vector) (rest : List ℕ) (whole : Result (List Vector) Bad) (so_far : with_front front (vectors_of line (slice_split is_newline rest)) ≡ whole) where
  -- no newline ends the line
  pub at_cut : slice_split is_newline rest ≡ rest ∷ [] → whole ≡ Err (record { line = line; why = Cut })
  at_cut parts = sym (rw (parts, vectors_of-cut line rest) at so_far)

  module _ (text after : List ℕ) (parts : slice_split is_newline rest ≡ text ∷ slice_split is_newline after) where
    -- the end, and nothing behind it
    pub at_end : bytes_eq text (codes "end") ≡ true → ended (line + 1) (slice_split is_newline after) ≡ Ok tt → whole ≡ Ok front
    at_end end none =
        let last = rw (parts, vectors_of-end line text after end, none) at so_far in
        sym last ∙ ap Ok (append-nil front)

    -- the end, and more behind it
    pub at_more : (e : TraceRefused) → bytes_eq text (codes "end") ≡ true → Fails e (ended (line + 1) (slice_split is_newline after)) → Fails e whole
    at_more refused.NoMemory end more = tt
    at_more (refused.Bad bad why) end more = sym (rw (parts, vectors_of-end line text after end, more) at so_far)

    -- a bad line
    pub at_bad : (e : TraceRefused) (answer : Result Vector LineRefused) → bytes_eq text (codes "end") ≡ false → Reads (λ v. v) answer (vector_of (slice_split is_blank text)) → answer_at line answer ≡ Err e → Fails e whole
    at_bad refused.NoMemory answer go_on given is = tt
    at_bad (refused.Bad bad why) (Ok v) go_on given is = absurd cc
    at_bad (refused.Bad bad why) (Err line_refused.NoMemory) go_on given is = absurd cc
    at_bad (refused.Bad bad why) (Err (line_refused.Bad other)) go_on given is =
        let found = rw (parts, vectors_of-bad line text after other go_on given) at so_far in
        sym found ∙ same where
          same : ◌≡◌ {A = Result (List Vector) Bad} (Err (record { line = line; why = other })) (Err (record { line = bad; why = why }))
          same = cc

    -- one more vector
    pub at_vector : (vector : Vector) → bytes_eq text (codes "end") ≡ false → vector_of (slice_split is_blank text) ≡ Ok vector
        → with_front (front ++ vector ∷ []) (vectors_of (line + 1) (slice_split is_newline after)) ≡ whole
    at_vector vector go_on is = sym (with_front-push front vector _) ∙ (rw (parts, vectors_of-vector line text after vector go_on is) at so_far)
