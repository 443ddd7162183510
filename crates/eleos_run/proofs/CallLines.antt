-- Calls of the host in the lines of callers.
use Rattle.std.proofs.Common.{◌≡◌, ℕ, ◌+◌, ◌-◌, ◌<◌, ◌≤◌, Bool, true, false, cond, List, [], ◌∷◌, ◌++◌, length, map, refl, sym, ap, ◌∙◌, subst, arith, append-nil, append_assoc}
use Rattle.std.specs.List.{AllByRecursion}
use Rattle.eleos_machine.specs.Machines.{Site}
use Rattle.eleos_report.specs.declared.answer.Answer.{Answer}
use Rattle.eleos_report.specs.declared.line.LogLine.{LogLine}
use Rattle.eleos_report.specs.declared.line.LogLine.TheVariants.{Said, End}
use Rattle.eleos_ring.specs.Rings.{idle}
use Rattle.eleos_ring.specs.States.{RingState}
use Rattle.eleos_ring.specs.declared.accept.RingWhy.TheVariants.{WrongId, TooLong, BadStatus}
use Rattle.eleos_ring.specs.declared.call.Called.{Called}
use Rattle.eleos_ring.specs.declared.call.Called.TheVariants.{Refused, Reply}
use Rattle.eleos_trace.specs.declared.trace.Trace.{Trace}
use Rattle.eleos_trace.specs.declared.word.Actor.{Actor}
use Rattle.eleos_trace.specs.declared.word.Actor.TheVariants.{Caller}
use Rattle.eleos_trace.specs.declared.word.Word.{Word}
use Rattle.eleos_trace.specs.declared.word.Word.TheVariants.{Call}
use Rattle.eleos_meaning.specs.Table.{Shown, is_called, shown as shown_as}
use Rattle.eleos_meaning.specs.Told.{Told, answer_in, line_of}
use Rattle.eleos_run.specs.declared.jobs.Job.{Job}
use Rattle.eleos_run.specs.declared.tasks.Task.{Task}
use Rattle.eleos_run.specs.Callers.{AreDoneJobs, lines_of}
use Rattle.eleos_run.specs.Calls.{AllCalled, AreCalled, IsCalled, IsNoCall, called_answer, calls_after, calls_in, is_line_of, lines_by, shown_in}
use Rattle.eleos_run.specs.Jobs.{HasCalled, HasSpoken}
use Rattle.eleos_run.specs.Lines.{actor_at, is_same_actor}
use Rattle.eleos_run.proofs.Actors.{apart_caller, same_caller}

-- what is printed behind a call says what the call came to
pub called_is : (called : Called) (buffer : List ℕ) → is_called (called_answer called buffer) ≡ true
called_is (Reply len status) buffer = refl
called_is (Refused WrongId seen) buffer = refl
called_is (Refused TooLong seen) buffer = refl
called_is (Refused BadStatus seen) buffer = refl

-- ---- one command more

shown_append : (xs ys : List LogLine) → shown_in (xs ++ ys) ≡ shown_in xs ++ shown_in ys
shown_append [] ys = refl
shown_append (Said stamp actor word reply ∷ xs) ys = ap (λ z. (word, reply) ∷ z) (shown_append xs ys)
shown_append (End count ∷ xs) ys = shown_append xs ys

shown_lines : (who : Actor) (told : List Told) → shown_in (map (line_of who) told) ≡ map shown_as told
shown_lines who [] = refl
shown_lines who (one ∷ told) = ap (λ z. shown_as one ∷ z) (shown_lines who told)

calls_append : (made : ℕ) (xs ys : List Shown) → calls_in made (xs ++ ys) ≡ calls_in (calls_in made xs) ys
calls_append made [] ys = refl
calls_append made (x ∷ xs) ys = calls_append (calls_after made x.0) xs ys

-- ---- lines that are no calls

no_call : (made : ℕ) (word : Word) → IsNoCall word → calls_after made word ≡ made
no_call made (Call call bytes room) none = absurd none
no_call made _ none = refl

calls_none : (made : ℕ) (way : List Told) → AllByRecursion (λ (one : Told). IsNoCall one.word) way → calls_in made (map shown_as way) ≡ made
calls_none made [] none = refl
calls_none made (one ∷ way) none = ap (λ (n : ℕ). calls_in n (map shown_as way)) (no_call made one.word none.0) ∙ calls_none made way none.1

-- a command makes at most one call
pub one_call_more : (made : ℕ) (word : Word) → calls_after made word ≤ made + 1
one_call_more made (Call call bytes room) = omega arith
one_call_more made _ = omega arith

module _ (shown written : ℕ → ℕ → Type 0) where
  no_reply : (client made : ℕ) (word : Word) (reply : Answer) → IsNoCall word → IsCalled shown written client made word reply
  no_reply client made (Call call bytes room) reply none = absurd none
  no_reply client made _ reply none = tt

  called_none_of : (client made : ℕ) (way : List Told) → AllByRecursion (λ (one : Told). IsNoCall one.word) way → AreCalled shown written client made (map shown_as way)
  called_none_of client made [] none = tt
  called_none_of client made (one ∷ way) none = (no_reply client made one.word (answer_in one.came) none.0, called_none_of client (calls_after made one.word) way none.1)

  called_append : (client made : ℕ) (xs ys : List Shown) → AreCalled shown written client made xs → AreCalled shown written client (calls_in made xs) ys → AreCalled shown written client made (xs ++ ys)
  called_append client made [] ys all more = more
  called_append client made (x ∷ xs) ys all more = (all.0, called_append client (calls_after made x.0) xs ys all.1 more)

module _ {P C : Type 0} (shown written : ℕ → ℕ → Type 0) where
  -- a job without lines has made no call
  pub called_none : (client : ℕ) (j : Job P C) → j.lines.items ≡ [] → j.ring ≡ idle client 0 → HasCalled shown written client j
  called_none client j empty ring = record {
    ring = ring ∙ ap (λ (ls : List LogLine). idle client (calls_in 0 (shown_in ls))) (sym empty);
    called = subst (λ (ls : List LogLine). AreCalled shown written client 0 (shown_in ls)) (sym empty) tt;
  }

  -- behind one task more, each call has its reply still
  pub called_next : (client : ℕ) (j before after : Job P C) (task : Task) → HasCalled shown written client j → before.ring ≡ j.ring → before.lines.items ≡ j.lines.items → HasSpoken shown written task before after → HasCalled shown written client after
  called_next client j before after task h ring lines s =
      let old : List Shown = shown_in j.lines.items in
      let way : List Shown = map shown_as s.way in
      let one : List Shown = (task.command, s.reply) ∷ [] in
      let is : before.ring ≡ idle client (calls_in 0 old) = ring ∙ h.ring in
      let all : shown_in after.lines.items ≡ (old ++ way) ++ one =
      ap shown_in s.line ∙ (shown_append (before.lines.items ++ map (line_of before.actor) s.way) (Said s.stamp s.actor task.command s.reply ∷ [])
      ∙ ap (λ (z : List Shown). z ++ one) (shown_append before.lines.items (map (line_of before.actor) s.way) ∙ (λ i. shown_in (lines i) ++ shown_lines before.actor s.way i))) in
      let none : calls_in 0 (old ++ way) ≡ calls_in 0 old = calls_append 0 old way ∙ calls_none (calls_in 0 old) s.way s.no_calls in
      let mine = subst (λ (r : RingState). IsCalled shown written r.client r.posts task.command s.reply) is s.called in
      let many : calls_in 0 ((old ++ way) ++ one) ≡ calls_after (calls_in 0 old) task.command = calls_append 0 (old ++ way) one ∙ ap (λ (n : ℕ). calls_after n task.command) none in
      record {
        ring = s.ring ∙ (ap (λ (r : RingState). idle r.client (calls_after r.posts task.command)) is ∙ ap (idle client) (sym (ap (calls_in 0) all ∙ many)));
        called = subst (AreCalled shown written client 0) (sym all) (called_append shown written client 0 (old ++ way) one
            (called_append shown written client 0 old way h.called (called_none_of shown written client (calls_in 0 old) s.way s.no_calls))
            (subst (λ (n : ℕ). IsCalled shown written client n task.command s.reply) (sym none) mine, tt));
      }

  -- and the task made at most one call
  pub calls_next : (before after : Job P C) (task : Task) → HasSpoken shown written task before after → after.ring.posts ≤ before.ring.posts + 1
  calls_next before after task s = let is = ap (λ (r : RingState). r.posts) s.ring in let one = one_call_more before.ring.posts task.command in omega (arith, is, one)

-- ---- the lines of all actors

by_append : (who : Actor) (xs ys : List LogLine) → lines_by who (xs ++ ys) ≡ lines_by who xs ++ lines_by who ys
by_append who [] ys = refl
by_append who (x ∷ xs) ys = go (is_line_of who x) (by_append who xs ys) where
  go : (b : Bool) → lines_by who (xs ++ ys) ≡ lines_by who xs ++ lines_by who ys → cond b (x ∷ lines_by who (xs ++ ys)) (lines_by who (xs ++ ys)) ≡ cond b (x ∷ lines_by who xs) (lines_by who xs) ++ lines_by who ys
  go true e = ap (λ z. x ∷ z) e
  go false e = e

own_lines : (actor who : Actor) (told : List Told) → is_same_actor actor who ≡ true → lines_by who (map (line_of actor) told) ≡ map (line_of actor) told
own_lines actor who [] same = refl
own_lines actor who (one ∷ told) same = ap (λ (b : Bool). cond b (line_of actor one ∷ lines_by who (map (line_of actor) told)) (lines_by who (map (line_of actor) told))) same
    ∙ ap (λ z. line_of actor one ∷ z) (own_lines actor who told same)

no_lines : (actor who : Actor) (told : List Told) → is_same_actor actor who ≡ false → lines_by who (map (line_of actor) told) ≡ []
no_lines actor who [] apart = refl
no_lines actor who (one ∷ told) apart = ap (λ (b : Bool). cond b (line_of actor one ∷ lines_by who (map (line_of actor) told)) (lines_by who (map (line_of actor) told))) apart
    ∙ no_lines actor who told apart

module _ {P C : Type 0} (gave took : ℕ → List ℕ → Type 0) (shown written : ℕ → ℕ → Type 0) (trace : Trace) (z : Site) where
  -- the lines of a job behind those of others
  job_lines : (who : Actor) (j : Job P C) (js : List (Job P C)) (count : ℕ) → lines_by who (lines_of (j ∷ js) ++ End count ∷ []) ≡ lines_by who j.lines.items ++ lines_by who (lines_of js ++ End count ∷ [])
  job_lines who j js count = ap (lines_by who) (append_assoc j.lines.items (lines_of js) (End count ∷ [])) ∙ by_append who j.lines.items (lines_of js ++ End count ∷ [])

  -- a caller before those of the jobs has no line
  none_before : (a : ℕ) (js : List (Job P C)) (count client : ℕ) → client < a → AreDoneJobs gave took shown written trace z a js → lines_by (Caller (client + 1)) (lines_of js ++ End count ∷ []) ≡ []
  none_before a [] count client below done = refl
  none_before a (j ∷ js) count client below done =
      let told = done.0.mine in
      let none : lines_by (Caller (client + 1)) j.lines.items ≡ [] =
      ap (lines_by (Caller (client + 1))) told.lines_are ∙ no_lines (actor_at trace (a + 1)) (Caller (client + 1)) (told.told ++ told.last) (apart_caller (length trace.plan.callers) (a + 1) (client + 1) (λ e. omega (arith, e, below))) in
      job_lines (Caller (client + 1)) j js count ∙ (ap (λ (ls : List LogLine). ls ++ lines_by (Caller (client + 1)) (lines_of js ++ End count ∷ [])) none ∙ none_before (a + 1) js count client (omega (arith, below)) done.1)

  -- in the lines of jobs that are done each call has its reply
  all_from : (a : ℕ) (js : List (Job P C)) (count client : ℕ) → AreDoneJobs gave took shown written trace z a js → AreCalled shown written client 0 (shown_in (lines_by (Caller (client + 1)) (lines_of js ++ End count ∷ [])))
  all_from a [] count client done = tt
  all_from a (j ∷ js) count client done = go (is_same_actor (actor_at trace (a + 1)) (Caller (client + 1))) refl (all_from (a + 1) js count client done.1) where
    rest : List LogLine
    rest = lines_by (Caller (client + 1)) (lines_of js ++ End count ∷ [])

    go : (b : Bool) → is_same_actor (actor_at trace (a + 1)) (Caller (client + 1)) ≡ b → AreCalled shown written client 0 (shown_in rest) → AreCalled shown written client 0 (shown_in (lines_by (Caller (client + 1)) (lines_of (j ∷ js) ++ End count ∷ [])))
    go true same others =
        let told = done.0.mine in
        let is = same_caller (length trace.plan.callers) (a + 1) (client + 1) same in
        let at = is.0 in
        let mine : lines_by (Caller (client + 1)) j.lines.items ≡ j.lines.items =
        ap (lines_by (Caller (client + 1))) told.lines_are ∙ (own_lines (actor_at trace (a + 1)) (Caller (client + 1)) (told.told ++ told.last) same ∙ sym told.lines_are) in
        let all : lines_by (Caller (client + 1)) (lines_of (j ∷ js) ++ End count ∷ []) ≡ j.lines.items =
        job_lines (Caller (client + 1)) j js count ∙ ((λ i. mine i ++ none_before (a + 1) js count client (omega (arith, at)) done.1 i) ∙ append-nil j.lines.items) in
        let number : a + 1 - 1 ≡ client = omega (arith, at) in
        subst (λ (q : ℕ × List LogLine). AreCalled shown written q.0 0 (shown_in q.1)) (λ i. (number i, sym all i)) (done.0.called is.1)
    go false apart others =
        let told = done.0.mine in
        let none : lines_by (Caller (client + 1)) j.lines.items ≡ [] =
        ap (lines_by (Caller (client + 1))) told.lines_are ∙ no_lines (actor_at trace (a + 1)) (Caller (client + 1)) (told.told ++ told.last) apart in
        let all : lines_by (Caller (client + 1)) (lines_of (j ∷ js) ++ End count ∷ []) ≡ rest = job_lines (Caller (client + 1)) j js count ∙ ap (λ (ls : List LogLine). ls ++ rest) none in
        subst (λ (ls : List LogLine). AreCalled shown written client 0 (shown_in ls)) (sym all) others

  -- in the log of jobs that are done each call of each caller has its reply
  pub all_called : (js : List (Job P C)) (log : List LogLine) (count : ℕ) → AreDoneJobs gave took shown written trace z 0 js → log ≡ lines_of js ++ End count ∷ [] → AllCalled shown written log
  all_called js log count done is client = subst (λ (ls : List LogLine). AreCalled shown written client 0 (shown_in (lines_by (Caller (client + 1)) ls))) (sym is) (all_from 0 js count client done)
