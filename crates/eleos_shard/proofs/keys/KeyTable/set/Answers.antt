use Rattle.std.proofs.Common.{◌≡◌, true, false, Some, None, IsSome, is_some, ◌∙◌, sym, ap}
use Rattle.std.specs.Map.{lookup, update}
use Rattle.std.specs.Option.{option_copied_mut}
use Rattle.std.specs.Str.{bytes_eq}
use Rattle.eleos_shard.specs.Keys.{KeyState, id_of, named}
use Rattle.eleos_shard.proofs.Texts.{id-named, ids_updated, is_text}
use Rattle.eleos_shard.proofs.keys.KeyTable.set.Goals as goal
use Rattle.eleos_shard.proofs.keys.KeyTable.set.Goals.{in-Some, in_default}

pub returns-clause-ids : goal.returns-clause-ids
returns-clause-ids c other =
    let some : IsSome (lookup (is_text c.args.key.now) c.self.inside.ids.entries) = ap is_some (sym (id-named c.args.key.now c.self.inside.ids.entries) ∙ ap (λ (z : KeyState). id_of z.ids c.args.key.now) c.self.view_is) ∙ c.requires in
    elim c.match-get_mut.branch [
      | in-Some w ↦ let h = (c.get_mut.follows.holds c.args.id).3 some in
          ap (λ x. id_of (named x.ids.entries) other) w.self-inside-is ∙ (ids_updated c.args.key.now c.self.inside.ids.entries (c.get_mut.follows.lender c.args.id).entries (Some c.args.id) h.1 h.3 other
          ∙ ap (λ (z : KeyState). update bytes_eq (id_of z.ids) c.args.key.now (Some c.args.id) other) c.self.view_is)
      | in_default w ↦ let none : lookup (is_text c.args.key.now) c.self.inside.ids.entries ≡ None = sym c.get_mut.ensures.value ∙ ap option_copied_mut w.in_default.is in
          let clash : true ≡ false = sym some ∙ ap is_some none in absurd (cc)
    ]
