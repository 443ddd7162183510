use Rattle.std.proofs.Common.{◌∙◌, ap, map, rules}
use Rattle.std.specs.FinSet as set
use Rattle.eleos_trace.proofs.Keys.{insert-keys}
use Rattle.eleos_trace.proofs.names.Names.add.Goals as goal

pub returns-clause-ok : goal.returns-clause-ok
returns-clause-ok c = rw (← c.self.view_is) (rw c.in_ok-insert.ensures.keys (insert-keys (λ v. v.items) c.self.inside.items.keys c.in_ok-to_vec.field-0 ∙ ap (λ name. set.insert (set.from_list (map (λ v. v.items) c.self.inside.items.keys)) name) (search rules)))
