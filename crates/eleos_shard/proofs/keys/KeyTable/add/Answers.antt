use Rattle.std.proofs.Common.{◌≡◌, ◌+◌, length, cond, Option, Some, None, is_some, ◌∙◌, sym, ap}
use Rattle.std.specs.Map.{update}
use Rattle.std.specs.Str.{bytes_eq}
use Rattle.eleos_sslab.specs.declared.slab.ObjId.{ObjId}
use Rattle.eleos_shard.specs.Keys.{KeyState, id_of}
use Rattle.eleos_shard.proofs.Texts.{id-named, ids_updated, length-named}
use Rattle.eleos_shard.proofs.keys.KeyTable.add.Goals as goal

pub returns-clause-ids : goal.returns-clause-ids
returns-clause-ids c other = ids_updated c.args.key.items c.self.inside.ids.entries c.insert.new.self.entries (Some c.args.id) c.in-Ok.ensures.updates.1 c.in-Ok.ensures.updates.3 other
    ∙ ap (λ (z : KeyState). update bytes_eq (id_of z.ids) c.args.key.items (Some c.args.id) other) c.self.view_is

pub returns-clause-count : goal.returns-clause-count
returns-clause-count c = let none : c.in-Ok.field-0 ≡ None = c.in-Ok.ensures.old ∙ (sym (id-named c.args.key.items c.self.inside.ids.entries) ∙ (ap (λ (z : KeyState). id_of z.ids c.args.key.items) c.self.view_is ∙ c.requires.new)) in
    length-named c.insert.new.self.entries ∙ (c.in-Ok.ensures.len ∙ (ap (λ (o : Option ObjId). length c.self.inside.ids.entries + cond (is_some o) 0 1) none
    ∙ (ap (λ n. n + 1) (sym (length-named c.self.inside.ids.entries)) ∙ ap (λ (z : KeyState). length z.ids + 1) c.self.view_is)))
