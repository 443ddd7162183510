use Rattle.std.proofs.Common.{rules, ◌≡◌, ◌∙◌, ap}
use Rattle.eleos_meaning.specs.NameTable.{known_in, names_in}
use Rattle.eleos_meaning.specs.Names.{with_name}
use Rattle.eleos_meaning.proofs.NameTables.{names-insert}
use Rattle.eleos_meaning.proofs.names.NameTable.add.Goals as goal

pub returns : goal.returns
returns c = let text : c.in_ok-to_vec.field-0.items ≡ c.args.name.now = search rules in
    ap known_in c.in_ok-insert.ensures.entries ∙ (names-insert c.args.self.now.rooms.entries c.in_ok-to_vec.field-0 c.args.at ∙ ap (λ name. with_name name c.args.at (names_in c.args.self.now)) text)
