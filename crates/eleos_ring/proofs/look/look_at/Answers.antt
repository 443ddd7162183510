use Rattle.std.proofs.Common.{◌≡◌, ◌≤◌, ◌∙◌, length, arith}
use Rattle.std.proofs.lemmas.List.{length-take-le}
use Rattle.eleos_ring.proofs.Looks.{reply-fits, polls-reply, calls-reply}
use Rattle.eleos_ring.proofs.look.look_at.Goals as goal

pub returns-in-Reply-clause-polls : goal.returns-in-Reply-clause-polls
returns-in-Reply-clause-polls g c =
    let l = c.in-Reply.len in
    let buf = c.args.buf.now in
    let fits : l ≤ length buf = reply-fits c.args.ticket (length buf) c.copy_fields-fields.result l c.in-Reply.status c.accept-polled.result c.accept-polled.ensures c.in-Reply.is in
    let len : length c.copy_bytes.new.buf ≡ l = c.copy_bytes.auto.buf ∙ length-take-le l buf fits in
    polls-reply g.P.RingPort c.args.glance.now c.copy_fields-fields.new.glance c.copy_bytes.new.self c.args.ticket c.copy_fields-fields.result buf c.copy_bytes.new.buf l c.in-Reply.status
    c.accept-polled.result c.requires.new c.copy_fields-fields.ensures.copies c.copy_bytes.ensures.copies c.accept-polled.ensures c.in-Reply.is len (omega (arith, c.requires.room))

pub returns-in-Reply-clause-calls : goal.returns-in-Reply-clause-calls
returns-in-Reply-clause-calls g c =
    let l = c.in-Reply.len in
    let buf = c.args.buf.now in
    let fits : l ≤ length buf = reply-fits c.args.ticket (length buf) c.copy_fields-fields.result l c.in-Reply.status c.accept-polled.result c.accept-polled.ensures c.in-Reply.is in
    let len : length c.copy_bytes.new.buf ≡ l = c.copy_bytes.auto.buf ∙ length-take-le l buf fits in
    calls-reply g.P.RingPort c.args.glance.now c.copy_fields-fields.new.glance c.copy_bytes.new.self c.copy_fields-fields.result c.copy_bytes.new.buf l c.in-Reply.status
    c.accept-polled.result c.copy_fields-fields.ensures.copies c.copy_bytes.ensures.copies c.in-Reply.is len
