use Rattle.std.proofs.Common.{length, sym, ◌∙◌, ap}
use Rattle.eleos_plain.proofs.MapTexts.{length-zeros, text-found, text-not_found}
use Rattle.eleos_plain.proofs.texts.Texts.text.Goals as goal

pub returns-in-Some-clause-text : goal.returns-in-Some-clause-text
returns-in-Some-clause-text c =
    rw (← c.self.view_is) (c.as_slice.ensures ∙ text-found c.self.inside.written c.self.inside.count c.args.sub c.in-Some.text.now (rw c.self.view_is c.requires) (sym c.in-Some.ensures.value))

pub returns-in-None-clause-text : goal.returns-in-None-clause-text
returns-in-None-clause-text c =
    rw (← c.self.view_is)
    (c.as_slice-in-None.ensures ∙ text-not_found c.self.inside.written c.self.inside.blank c.self.inside.count c.args.sub c.self.invariant (rw c.self.view_is c.requires) (sym c.in-None.ensures.value))

pub returns-in-None-clause-whole : goal.returns-in-None-clause-whole
returns-in-None-clause-whole c = ap length c.as_slice-in-None.ensures ∙ (ap length c.self.invariant.blank_is ∙ length-zeros 1024)
