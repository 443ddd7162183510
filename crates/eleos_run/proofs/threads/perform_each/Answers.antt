use Rattle.std.proofs.Common.{◌≡◌, ℕ, ◌<◌, List, length, take, ◌++◌, drop, slice_index_or, sym, ap, ◌∙◌, subst}
use Rattle.std.proofs.Math.Seq.{take-append_seam}
use Rattle.eleos_run.specs.declared.jobs.Job.{Job}
use Rattle.eleos_run.specs.Jobs.{AreReady, HasRun}
use Rattle.eleos_run.proofs.threads.perform_each.Goals as goal

pub perform_all-requires-clause-ready : goal.perform_all-requires-clause-ready
perform_all-requires-clause-ready g c _ _ = subst (λ (js : List (Job g.row.P.Denot g.row.C.Denot)). AreReady c.args.machine.now js) (sym c.as_mut_slice.ensures.value) c.requires

pub returns : goal.returns
returns g c = let new : List (Job g.row.P.Denot g.row.C.Denot) = c.perform_all.new.jobs in let same = c.perform_all.auto.jobs in let long = c.as_mut_slice.ensures.len in
    let e : take c.args.jobs.len (new ++ drop (length new) c.args.jobs.items) ≡ new = ap (λ (m : ℕ). take m (new ++ drop (length new) c.args.jobs.items)) (sym (same ∙ long)) ∙ take-append_seam new (drop (length new) c.args.jobs.items) in
    record {
      count = ap length e ∙ (same ∙ ap length c.as_mut_slice.ensures.value);
      each = subst (λ (z : List (Job g.row.P.Denot g.row.C.Denot) × List (Job g.row.P.Denot g.row.C.Denot)). (k : ℕ) (j : Job g.row.P.Denot g.row.C.Denot) → k < length z.0 → HasRun g.P.HostPort.gave g.P.HostPort.took g.C.Client.shown g.C.Client.written c.args.machine.now (slice_index_or z.0 k j) (slice_index_or z.1 k j))
          (λ i. (c.as_mut_slice.ensures.value i, sym e i)) c.perform_all.ensures;
    }
