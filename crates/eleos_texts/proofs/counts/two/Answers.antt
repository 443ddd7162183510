use Rattle.std.proofs.Common.{arith, map}
use Rattle.std.proofs.lemmas.Bool.Decides.{nat_tests}
use Rattle.std.proofs.lemmas.List.{length-map}
use Rattle.eleos_texts.proofs.Others.{two-other}
use Rattle.eleos_texts.proofs.counts.two.Goals as goal
use Rattle.eleos_texts.proofs.counts.two.Goals.{in_default-via-then-words-lt2, in_default-via-else-words-lt2+else-words-lt3}

pub returns-in_default : goal.returns-in_default
returns-in_default c = rw c.refused.ensures (two-other (map (λ word. word.now) c.args.words.now) (λ same. let long = simp length-map at same in
    elim c.in_default.branch [ in_default-via-then-words-lt2 w ↦ absurd (grind (arith, nat_tests)) | in_default-via-else-words-lt2+else-words-lt3 w ↦ absurd (grind (arith, nat_tests)) ]))
