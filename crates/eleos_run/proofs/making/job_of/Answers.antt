use Rattle.std.proofs.Common.{◌∙◌, sym, ap}
use Rattle.eleos_ring.specs.Rings.{idle}
use Rattle.eleos_ring.specs.States.{RingState}
use Rattle.eleos_run.specs.Lines.{actor_of, names_at}
use Rattle.eleos_run.proofs.CallerLists.{new_job}
use Rattle.eleos_run.proofs.making.job_of.Goals as goal

pub returns : goal.returns
returns g c = new_job c.args.trace.now c.args.machine.now (record { actor = c.actor_of-actor.result; pass = c.args.pass; tap = c.in_ok-tap.tap; ring = c.make-ring.result; client = c.args.client; names = c.tasks_of.new.names; tasks = c.in_ok-tasks.tasks; lines = c.in_ok-lines.lines })
    c.requires.run c.requires.machine c.requires.plan c.requires.actor c.requires.unused (c.actor_of-actor.ensures ∙ (λ i. actor_of (c.len.ensures i) (c.who-who.ensures i))) c.requires.client c.in_ok-tasks.ensures.ready c.in_ok-tasks.ensures.commands
    (c.in_ok-tasks.ensures.names ∙ (c.in_ok-names.ensures ∙ ap (names_at c.args.trace.now) c.who-who.ensures)) c.in_ok-lines.ensures.items (c.in_ok-lines.ensures.exact ∙ c.line_count.ensures)
    (c.make-ring.ensures ∙ ap (λ (r : RingState). idle r.client 0) (sym c.make-ring.ensures)) (λ number is. ap (λ (r : RingState). r.client) c.make-ring.ensures ∙ c.client_at.ensures.own number is)
