use Rattle.std.proofs.Common.{None, ◌∙◌, sym, ap}
use Rattle.std.specs.Map.{update}
use Rattle.std.specs.Str.{bytes_eq}
use Rattle.eleos_shard.specs.Keys.{KeyState, id_of}
use Rattle.eleos_shard.proofs.Texts.{id-named, ids_updated}
use Rattle.eleos_shard.proofs.keys.KeyTable.remove.Goals as goal

pub returns-clause-was : goal.returns-clause-was
returns-clause-was c = c.remove.ensures.value ∙ (sym (id-named c.args.key.now c.self.inside.ids.entries) ∙ ap (λ (z : KeyState). id_of z.ids c.args.key.now) c.self.view_is)

pub returns-clause-ids : goal.returns-clause-ids
returns-clause-ids c other = ids_updated c.args.key.now c.self.inside.ids.entries c.remove.new.self.entries None c.remove.ensures.updates.1 c.remove.ensures.updates.3 other
    ∙ ap (λ (z : KeyState). update bytes_eq (id_of z.ids) c.args.key.now None other) c.self.view_is
