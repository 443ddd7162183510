use Rattle.std.proofs.Common.{◌≡◌, ℕ, List, [], ◌∷◌, take, get_or, true, false, append-nil, sym, ap, ◌∙◌, arith}
use Rattle.eleos_meaning.specs.Table.{lines_for, most_lines}
use Rattle.eleos_trace.specs.declared.trace.Line.{Line}
use Rattle.eleos_run.specs.Lines.{commands_of_actor, is_same_actor}
use Rattle.eleos_run.proofs.LineCounts.{lines_append}
use Rattle.eleos_run.proofs.TaskLists.{commands_more}
use Rattle.eleos_run.proofs.tasks.line_count.Goals as goal
use Rattle.eleos_run.proofs.tasks.line_count.Goals.{then-is_same_actor, else-is_same_actor}

pub loop-line-preserved : goal.loop-line-preserved
loop-line-preserved c = let inv = c.loop-line.invariant in let was = inv.count in let few = inv.few in let at : ℕ = c.loop-line.line-index in let lines : List Line = c.as_slice-line-items.result.now in let line : Line = c.line-item.result in let frames : ℕ = c.all_frames-frames.result in
    let here : line ≡ get_or lines at line = c.line-item.is in
    elim c.if-is_same_actor.branch [
      | then-is_same_actor w ↦
          let mine : is_same_actor (get_or lines at line).actor c.args.actor ≡ true = ap (λ (l : Line). is_same_actor l.actor c.args.actor) (sym here) ∙ (sym c.is_same_actor.ensures ∙ w.if-is_same_actor.true) in
          let more = ap (lines_for frames) (commands_more c.args.actor lines at line true c.loop-line-test.true mine) in
          let split = lines_append frames (commands_of_actor c.args.actor (take at lines)) ((get_or lines at line).command ∷ []) in
          let one = w.most_lines-count.ensures.exact in let same = ap (λ (l : Line). most_lines frames l.command) here in let small = w.most_lines-count.ensures.few in let now = w.count-is in
          record { count = omega (arith, was, more, split, one, same, now); few = omega (arith, few, small, now) }
      | else-is_same_actor w ↦
          let other : is_same_actor (get_or lines at line).actor c.args.actor ≡ false = ap (λ (l : Line). is_same_actor l.actor c.args.actor) (sym here) ∙ (sym c.is_same_actor.ensures ∙ w.if-is_same_actor.false) in
          let more = ap (lines_for frames) (commands_more c.args.actor lines at line false c.loop-line-test.true other ∙ append-nil (commands_of_actor c.args.actor (take at lines))) in let now = w.count-is in
          record { count = omega (arith, was, more, now); few = omega (arith, few, now) }
    ]
