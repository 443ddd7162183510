use Rattle.std.proofs.Common.{ℕ, List, ◌+◌, length, slice_set, ◌∙◌, ap}
use Rattle.std.specs.List.{splice}
use Rattle.eleos_plain.proofs.MapTexts.{texts-insert}
use Rattle.eleos_plain.proofs.texts.Texts.write.Goals as goal

pub returns-clause-ok : goal.returns-clause-ok
returns-clause-ok c =
    texts-insert c.self.inside.written c.insert.new.self c.self.inside.count c.args.sub c.in_ok-text.text c.in_ok-insert.ensures.updates
    ∙ (ap (λ ts. slice_set ts c.args.sub c.in_ok-text.text) c.self.view_is
    ∙ ap (slice_set c.args.self.now c.args.sub)
    (c.in_ok-text.ensures ∙ ap (λ (t : List ℕ). splice t c.args.from (c.args.from + length c.args.bytes.now) c.args.bytes.now) c.text.ensures.text))
