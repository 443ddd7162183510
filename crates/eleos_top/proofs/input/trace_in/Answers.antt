use Rattle.std.proofs.Common.{ap, Err, subst}
use Rattle.eleos_texts.specs.Reasons.{Fails}
use Rattle.eleos_trace.specs.Reading.{trace_of}
use Rattle.eleos_top.proofs.Readers.{too_large, trace_of-large, refuses_large, refuses_told, refused_as}
use Rattle.eleos_top.proofs.input.trace_in.Goals as goal

pub returns-in-Err-TooLarge-clause-refused : goal.returns-in-Err-TooLarge-clause-refused
returns-in-Err-TooLarge-clause-refused g c = λ bad same.
    refused_as (trace_of c.args.kind) (g.S.Source.left c.args.source.now) _ too_large bad (refuses_large (trace_of c.args.kind) (trace_of-large c.args.kind) (g.S.Source.left c.args.source.now) (c.in-Err-TooLarge.ensures.large (ap Err c.in-Err-TooLarge.field-0-is))) c.refused.ensures same

pub returns-in-Err-Bad-clause-refused : goal.returns-in-Err-Bad-clause-refused
returns-in-Err-Bad-clause-refused g c = λ bad same.
    let fails = subst (λ text. Fails c.in-Err-Bad.field-0 (trace_of c.args.kind text)) c.deref.ensures.value c.in-Err-Bad.ensures.exact in
    refused_as (trace_of c.args.kind) (g.S.Source.left c.args.source.now) _ _ bad (refuses_told (trace_of c.args.kind) (g.S.Source.left c.args.source.now) c.in-Ok.input.items c.in-Err-Bad.field-0 c.in-Err-Bad.line c.in-Err-Bad.why c.in-Ok.ensures.all c.in-Err-Bad.field-0-is fails) c.refused-in-Err-Bad.ensures same
