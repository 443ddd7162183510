use Rattle.eleos_ring.proofs.Looks.{fields-copied}
use Rattle.eleos_ring.proofs.look.copy_fields.Goals as goal

pub returns-clause-copies : goal.returns-clause-copies
returns-clause-copies g c =
    fields-copied g.P.RingPort c.args.glance.now c.state-state.new.self c.id-id.new.self c.len-length.new.self c.status-status.new.self _ _ c.requires
    c.state-state.ensures.copies c.id-id.ensures.copies c.len-length.ensures.copies c.status-status.ensures.copies
