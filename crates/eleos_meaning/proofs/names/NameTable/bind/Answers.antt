use Rattle.std.proofs.Common.{◌∙◌, ap, Some}
use Rattle.eleos_meaning.specs.NameTable.{is_room, known_in}
use Rattle.eleos_meaning.proofs.NameTables.{names-set, rooms-set}
use Rattle.eleos_meaning.proofs.names.NameTable.bind.Goals as goal

pub returns-in-Some-clause-names : goal.returns-in-Some-clause-names
returns-in-Some-clause-names c = ap known_in (c.get_mut.follows.holds (Some c.args.at)).0 ∙ names-set c.args.self.now.rooms.entries c.args.name.now c.args.at c.requires

pub returns-in-Some-clause-rooms : goal.returns-in-Some-clause-rooms
returns-in-Some-clause-rooms c text = ap (λ es. is_room es text) (c.get_mut.follows.holds (Some c.args.at)).0 ∙ rooms-set c.args.self.now.rooms.entries c.args.name.now (Some c.args.at) text c.requires
