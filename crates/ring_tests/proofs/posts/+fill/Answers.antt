use Rattle.std.proofs.Common.{ap, ◌∙◌}
use Rattle.eleos_ring.specs.States.{RingState}
use Rattle.eleos_ring.proofs.Calling.{freed-out}
use Rattle.ring_tests.proofs.posts.+fill.Goals as goal

pub returns-clause-out : goal.returns-clause-out
returns-clause-out g t c =
    ap (λ (x : RingState). x.out) c.end.ensures
    ∙ freed-out c.args.ring.now c.post.new.self c.fill-rest.new.ring c.in-Ok.ticket c.in-Ok.ensures.answer c.in-Ok.ensures.after c.fill-rest.ensures.client c.fill-rest.ensures.out
