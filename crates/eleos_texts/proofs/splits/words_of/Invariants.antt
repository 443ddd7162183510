use Rattle.std.proofs.Common.{◌≡◌, ◌++◌, length, map}
use Rattle.std.specs.List.{slice_split}
use Rattle.eleos_texts.specs.Fields.{is_blank}
use Rattle.eleos_texts.proofs.splits.words_of.Given as goal

-- the words so far, and those of the rest, are those of the line
abbrev pub invariant-loop-word : goal.invariant-loop-word
invariant-loop-word l = map (λ word. word.now) l.words.items ++ slice_split is_blank l.rest ≡ slice_split is_blank l.line

abbrev pub decreases-loop-word : goal.decreases-loop-word
decreases-loop-word l = length l.rest
