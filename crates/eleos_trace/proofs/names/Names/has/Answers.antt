use Rattle.std.proofs.Common.{◌∙◌}
use Rattle.eleos_trace.proofs.Keys.{contains-keys}
use Rattle.eleos_trace.proofs.names.Names.has.Goals as goal

pub returns : goal.returns
returns c = c.contains.ensures ∙ (rw (← c.self.view_is) (contains-keys (λ v. v.items) c.self.inside.items.keys c.args.name.now))
