use Rattle.std.proofs.Common.{◌∙◌, sym, ap}
use Rattle.eleos_shard.specs.Keys.{KeyState, id_of}
use Rattle.eleos_shard.proofs.Texts.{id-named}
use Rattle.eleos_shard.proofs.keys.KeyTable.id_of.Goals as goal

pub returns : goal.returns
returns c = c.copied.ensures ∙ (c.get.ensures.value ∙ (sym (id-named c.args.key.now c.self.inside.ids.entries) ∙ ap (λ (z : KeyState). id_of z.ids c.args.key.now) c.self.view_is))
