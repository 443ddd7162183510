use Rattle.std.proofs.Common.{rules, ◌≡◌, ◌∙◌, sym, ap, subst, IsTrue, None}
use Rattle.eleos_meaning.specs.NameTable.{is_room, known_in, room_of}
use Rattle.eleos_meaning.proofs.NameTables.{names-reserve, room-kept}
use Rattle.eleos_meaning.proofs.names.NameTable.reserve.Goals as goal

pub returns-in_ok-insert-clause-names : goal.returns-in_ok-insert-clause-names
returns-in_ok-insert-clause-names c = let text : c.in_ok-to_vec.field-0.items ≡ c.args.name.now = search rules in
    let none : room_of c.args.self.now.rooms.entries c.args.name.now ≡ None = search rules in
    ap known_in c.in_ok-insert.ensures.entries ∙ names-reserve c.args.self.now.rooms.entries c.in_ok-to_vec.field-0 (ap (room_of c.args.self.now.rooms.entries) text ∙ none)

pub returns-in_ok-insert-clause-others : goal.returns-in_ok-insert-clause-others
returns-in_ok-insert-clause-others c text has = subst (λ es. IsTrue (is_room es text)) (sym c.in_ok-insert.ensures.entries) (room-kept c.args.self.now.rooms.entries c.in_ok-to_vec.field-0 None text has)
