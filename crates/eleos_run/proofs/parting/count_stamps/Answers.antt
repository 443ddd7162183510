use Rattle.std.proofs.Common.{◌≡◌, ℕ, ◌+◌, List, [], ◌∷◌, ◌++◌, length, take, cond, Bool, sym, ap, ◌∙◌, arith, length-append}
use Rattle.std.proofs.lemmas.List.{take_more}
use Rattle.eleos_report.specs.declared.line.LogLine.{LogLine}
use Rattle.eleos_run.specs.Lines.{stamps_in}
use Rattle.eleos_run.proofs.Tellings.{stamps_append}
use Rattle.eleos_run.proofs.parting.count_stamps.Goals as goal
use Rattle.eleos_run.proofs.parting.count_stamps.Goals.{then-has_stamp, else-has_stamp}

pub loop-line-preserved : goal.loop-line-preserved
loop-line-preserved c = let at : ℕ = c.loop-line.line-index in let lines : List LogLine = c.args.lines.now in let line : LogLine = c.line-item.result in let count = c.loop-line.invariant.count in let few = c.loop-line.invariant.few in
    let next : take (at + 1) lines ≡ take at lines ++ line ∷ [] = take_more lines at line c.loop-line-test.true ∙ ap (λ (x : LogLine). take at lines ++ x ∷ []) (sym c.line-item.is) in
    let more : length (stamps_in (take (at + 1) lines)) ≡ length (stamps_in (take at lines)) + length (stamps_in (line ∷ [])) =
    ap (λ (z : List LogLine). length (stamps_in z)) next ∙ (ap length (stamps_append (take at lines) (line ∷ [])) ∙ length-append (stamps_in (take at lines)) (stamps_in (line ∷ []))) in
    elim c.if-has_stamp.branch [
      | then-has_stamp w ↦ let now = w.count-is in let one : length (stamps_in (line ∷ [])) ≡ 1 = c.has_stamp.ensures ∙ ap (λ (b : Bool). cond b 1 0) w.if-has_stamp.true in record { count = omega (arith, now, count, more, one); few = omega (arith, now, few) }
      | else-has_stamp w ↦ let now = w.count-is in let one : length (stamps_in (line ∷ [])) ≡ 0 = c.has_stamp.ensures ∙ ap (λ (b : Bool). cond b 1 0) w.if-has_stamp.false in record { count = omega (arith, now, count, more, one); few = omega (arith, now, few) }
    ]
