use Rattle.std.proofs.Common.{◌∙◌, ap}
use Rattle.eleos_shard.specs.Keys.{KeyState, id_of}
use Rattle.eleos_shard.proofs.Texts.{ids_same}
use Rattle.eleos_shard.proofs.keys.KeyTable.reserve.Goals as goal

pub returns-clause-ids : goal.returns-clause-ids
returns-clause-ids c key = ids_same c.self.inside.ids.entries c.reserve.new.self.entries c.reserve.ensures.entries.2 key ∙ ap (λ (z : KeyState). id_of z.ids key) c.self.view_is
