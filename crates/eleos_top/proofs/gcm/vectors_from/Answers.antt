use Rattle.std.proofs.Common.{ap, Err, subst}
use Rattle.eleos_texts.specs.Reasons.{Fails}
use Rattle.eleos_vectors.specs.Vectors.{vectors_in}
use Rattle.eleos_top.proofs.Readers.{too_large, vectors_in-large, refuses_large, refuses_told, refused_as}
use Rattle.eleos_top.proofs.gcm.vectors_from.Goals as goal

pub returns-in-Err-TooLarge-clause-refused : goal.returns-in-Err-TooLarge-clause-refused
returns-in-Err-TooLarge-clause-refused g c = λ bad same.
    refused_as vectors_in (g.S.Source.left c.args.source.now) _ too_large bad (refuses_large vectors_in vectors_in-large (g.S.Source.left c.args.source.now) (c.in-Err-TooLarge.ensures.large (ap Err c.in-Err-TooLarge.field-0-is))) c.refused.ensures same

pub returns-in-Err-Bad-clause-refused : goal.returns-in-Err-Bad-clause-refused
returns-in-Err-Bad-clause-refused g c = λ bad same.
    let fails = subst (λ text. Fails c.in-Err-Bad.field-0 (vectors_in text)) c.deref.ensures.value c.in-Err-Bad.ensures in
    refused_as vectors_in (g.S.Source.left c.args.source.now) _ _ bad (refuses_told vectors_in (g.S.Source.left c.args.source.now) c.in-Ok.input.items c.in-Err-Bad.field-0 c.in-Err-Bad.line c.in-Err-Bad.why c.in-Ok.ensures.all c.in-Err-Bad.field-0-is fails) c.refused-in-Err-Bad.ensures same
