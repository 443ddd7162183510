-- The words of a line of the header.
use Rattle.std.proofs.Common.{◌≡◌, ℕ, List, ◌∷◌, Ok, refl}
use Rattle.std.specs.List.{slice_split}
use Rattle.eleos_texts.specs.Fields.{is_newline, is_blank}
use Rattle.eleos_texts.proofs.Texts.{split_cases}
use Rattle.eleos_trace.specs.WholeHeader.{next_words}

-- the words of a line that a newline ends
pub next_words-split : (line : ℕ) (front rest : List ℕ) → next_words line (front ∷ slice_split is_newline rest) ≡ Ok (slice_split is_blank front, slice_split is_newline rest)
next_words-split line front rest = split_cases (λ parts. next_words line (front ∷ parts) ≡ Ok (slice_split is_blank front, parts)) (λ part parts. refl) rest
