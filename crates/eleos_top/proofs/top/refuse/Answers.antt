use Rattle.std.proofs.Common.{inl, ◌∙◌, subst}
use Rattle.std.specs.Io.KnownBytes.{Appends}
use Rattle.eleos_top.proofs.top.refuse.Goals as goal

pub returns-in-Ok-put_all-clause-line : goal.returns-in-Ok-put_all-clause-line
returns-in-Ok-put_all-clause-line g c = λ _. inl (subst (λ text. Appends (g.K.Sink.got c.args.sink.now) (g.K.Sink.got c.put_all.new.sink) text) (c.deref.ensures.value ∙ c.in-Ok.ensures) c.in-Ok-put_all.ensures.all)
