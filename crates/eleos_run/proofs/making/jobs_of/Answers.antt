use Rattle.std.proofs.Common.{◌≡◌, ◌+◌, List, [], ◌∷◌, ◌++◌, length, sym, ap, ◌∙◌, subst, arith, append_assoc, length-append}
use Rattle.eleos_core.specs.Parts.{Part, Stamp}
use Rattle.eleos_machine.specs.Closing.{hands_of}
use Rattle.eleos_machine.specs.Machines.{all_passes}
use Rattle.eleos_machine.specs.Passes.{PassState}
use Rattle.eleos_plot.specs.declared.plot.Ground.{Ground}
use Rattle.eleos_turn.specs.Hands.{HandState, fresh}
use Rattle.eleos_run.specs.declared.jobs.Job.{Job}
use Rattle.eleos_run.specs.Callers.{AreNewJobs}
use Rattle.eleos_run.proofs.CallerLists.{all_dealt, new_snoc, next_dealt}
use Rattle.eleos_run.proofs.making.jobs_of.Goals as goal

pub job_of-requires-clause-actor : goal.job_of-requires-clause-actor
job_of-requires-clause-actor g c _ _ = let inv = c.loop-pass.invariant in let ys : List PassState = c.loop-pass.yielded in let rest : List PassState = c.next.new.self.rest.items in let x : PassState = c.in-Some.pass in
    let is = ap hands_of (sym (inv.split ∙ ap (λ (z : List PassState). ys ++ z) c.in-Some.ensures.steps.0)) ∙ c.requires.passes in
    let next = next_dealt c.args.machine.now 0 (all_passes c.args.trace.now.plan) ys rest x is in
    let number = ap (λ (h : HandState Stamp Part Ground). h.number) next.0 in let below = next.1 in record { from_one = omega (arith, number); within = omega (arith, number, below) }

pub job_of-requires-clause-unused : goal.job_of-requires-clause-unused
job_of-requires-clause-unused g c _ _ = let inv = c.loop-pass.invariant in let ys : List PassState = c.loop-pass.yielded in let rest : List PassState = c.next.new.self.rest.items in let x : PassState = c.in-Some.pass in
    let is = ap hands_of (sym (inv.split ∙ ap (λ (z : List PassState). ys ++ z) c.in-Some.ensures.steps.0)) ∙ c.requires.passes in
    let next = next_dealt c.args.machine.now 0 (all_passes c.args.trace.now.plan) ys rest x is in
    let number : x.hand.number ≡ 0 + length ys + 1 = ap (λ (h : HandState Stamp Part Ground). h.number) next.0 in next.0 ∙ ap (fresh c.args.machine.now) (sym number)

pub job_of-requires-clause-client : goal.job_of-requires-clause-client
job_of-requires-clause-client g c _ _ within = let inv = c.loop-pass.invariant in let ys : List PassState = c.loop-pass.yielded in let rest : List PassState = c.next.new.self.rest.items in let x : PassState = c.in-Some.pass in
    let is = ap hands_of (sym (inv.split ∙ ap (λ (z : List PassState). ys ++ z) c.in-Some.ensures.steps.0)) ∙ c.requires.passes in
    let next = next_dealt c.args.machine.now 0 (all_passes c.args.trace.now.plan) ys rest x is in
    let number = ap (λ (h : HandState Stamp Part Ground). h.number) next.0 in let all = inv.clients in let many = c.requires.clients in
    c.next_client-client.ensures.first (omega (arith, number, all, many, within))

pub loop-pass-preserved : goal.loop-pass-preserved
loop-pass-preserved g c = let inv = c.loop-pass.invariant in let ys : List PassState = c.loop-pass.yielded in let rest : List PassState = c.next.new.self.rest.items in let x : PassState = c.in-Some.pass in
    let is = ap hands_of (sym (inv.split ∙ ap (λ (z : List PassState). ys ++ z) c.in-Some.ensures.steps.0)) ∙ c.requires.passes in
    let next = next_dealt c.args.machine.now 0 (all_passes c.args.trace.now.plan) ys rest x is in
    let number : x.hand.number ≡ 0 + length ys + 1 = ap (λ (h : HandState Stamp Part Ground). h.number) next.0 in
    let old : List (Job g.row.P.Denot g.row.C.Denot) = c.loop-pass.jobs.items in let job : Job g.row.P.Denot g.row.C.Denot = c.in_ok-job_of.field-0 in let count : length old ≡ length ys = inv.count in
    let items : c.push.new.self.items ≡ old ++ job ∷ [] = c.in_ok-push.ensures.items in record {
      split = inv.split ∙ (ap (λ (z : List PassState). ys ++ z) c.in-Some.ensures.steps.0 ∙ sym (append_assoc ys (x ∷ []) rest));
      len = let was = inv.len in let one = ap length c.in-Some.ensures.steps.0 in let fewer = c.in-Some.ensures.steps.1 in omega (arith, was, one, fewer);
      count = let a = ap length items in let b = length-append old (job ∷ []) in let d = length-append ys (x ∷ []) in omega (arith, a, b, d, count);
      clients = let was = inv.clients in let one = c.next_client-client.ensures.rest in let d = length-append ys (x ∷ []) in omega (arith, was, one, d);
      jobs = subst (AreNewJobs c.args.trace.now c.args.machine.now 0) (sym items) (new_snoc c.args.trace.now c.args.machine.now 0 x.hand.number old job (omega (arith, number, count)) inv.jobs c.in_ok-job_of.ensures);
    }

pub returns-clause-count : goal.returns-clause-count
returns-clause-count g c = let inv = c.loop-pass.invariant in let ys : List PassState = c.loop-pass.yielded in let long = all_dealt c.args.machine.now 0 (all_passes c.args.trace.now.plan) c.args.passes.items c.requires.passes in
    let none = c.in-None.ensures.steps.0 in let len = inv.len in let count = inv.count in let whole = ap length inv.split ∙ length-append ys c.loop-pass.pass-iterator.rest.items in omega (arith, long, none, len, count, whole)
