use Rattle.std.proofs.Common.{◌≡◌, ℕ, List, [], ◌∷◌, ◌++◌, map, take, get_or, true, false, append-nil, sym, ap, ◌∙◌, subst}
use Rattle.std.proofs.lemmas.List.{map-append}
use Rattle.eleos_trace.specs.declared.trace.Line.{Line}
use Rattle.eleos_run.specs.declared.tasks.Task.{Task}
use Rattle.eleos_run.specs.Lines.{commands_of_actor, is_same_actor}
use Rattle.eleos_meaning.specs.declared.names.NameTable.{NameTable}
use Rattle.eleos_meaning.specs.NameTable.{names_in}
use Rattle.eleos_run.specs.Tasks.{AllReady}
use Rattle.eleos_run.proofs.TaskLists.{commands_more, ready_more}
use Rattle.eleos_run.proofs.tasks.tasks_of.Goals as goal
use Rattle.eleos_run.proofs.tasks.tasks_of.Goals.{then-is_same_actor+in_ok-task_of+in_ok-push_back, else-is_same_actor}

pub loop-line-preserved : goal.loop-line-preserved
loop-line-preserved c = let inv = c.loop-line.invariant in let at : ℕ = c.loop-line.line-index in let lines : List Line = c.as_slice-line-items.result.now in let line : Line = c.line-item.result in
    let here : line ≡ get_or lines at line = c.line-item.is in
    elim c.if-is_same_actor.branch [
      | then-is_same_actor+in_ok-task_of+in_ok-push_back w ↦ let task : Task = w.in_ok-task_of.field-0 in let old : List Task = c.loop-line.tasks.items in
          let items : c.if-is_same_actor.tasks.items ≡ old ++ task ∷ [] = ap (λ q. q.items) w.tasks-is ∙ w.in_ok-push_back.ensures.items in
          let mine : is_same_actor (get_or lines at line).actor c.args.actor ≡ true = ap (λ (l : Line). is_same_actor l.actor c.args.actor) (sym here) ∙ (sym c.is_same_actor.ensures ∙ w.if-is_same_actor.true) in
          record {
            commands = ap (map (λ (t : Task). t.command)) items ∙ (map-append (λ (t : Task). t.command) old (task ∷ []) ∙ ((λ i. inv.commands i ++ (w.in_ok-task_of.ensures.command ∙ ap (λ (l : Line). l.command) here) i ∷ [])
                ∙ sym (commands_more c.args.actor lines at line true c.loop-line-test.true mine)));
            ready = subst (λ (z : NameTable × List Task). AllReady c.args.trace.now.plan c.args.actor z.0 z.1) (λ i. (sym w.names-is i, sym items i))
                (ready_more c.args.trace.now.plan c.args.actor c.loop-line.names w.task_of.new.names old task w.in_ok-task_of.ensures.others inv.ready w.in_ok-task_of.ensures.ready);
            names = ap names_in w.names-is ∙ (w.in_ok-task_of.ensures.names ∙ inv.names);
          }
      | else-is_same_actor w ↦
          let other : is_same_actor (get_or lines at line).actor c.args.actor ≡ false = ap (λ (l : Line). is_same_actor l.actor c.args.actor) (sym here) ∙ (sym c.is_same_actor.ensures ∙ w.if-is_same_actor.false) in
          record {
            commands = ap (λ q. map (λ (t : Task). t.command) q.items) w.tasks-is ∙ (inv.commands ∙ sym (commands_more c.args.actor lines at line false c.loop-line-test.true other ∙ append-nil (commands_of_actor c.args.actor (take at lines))));
            ready = subst (λ (z : NameTable × List Task). AllReady c.args.trace.now.plan c.args.actor z.0 z.1) (λ i. (sym w.names-is i, ap (λ q. q.items) (sym w.tasks-is) i)) inv.ready;
            names = ap names_in w.names-is ∙ inv.names;
          }
    ]
