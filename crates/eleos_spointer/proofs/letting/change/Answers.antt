use Rattle.std.proofs.Common.{List, Option, set, ◌∙◌, ap}
use Rattle.eleos_machine.specs.declared.pointers.Pointer.{Pointer}
use Rattle.eleos_machine.specs.Passes.{PassState, plan_of}
use Rattle.eleos_machine.specs.Pointers.{page_under}
use Rattle.eleos_spointer.proofs.Changing.{lets_go_put, link_there, placed_now, pointers_then}
use Rattle.eleos_spointer.proofs.letting.change.Goals as goal

pub let_go-requires-clause-placed : goal.let_go-requires-clause-placed
let_go-requires-clause-placed g c = c.requires.pointers.placed c.args.id c.args.pointer c.requires.was

pub let_go-requires-clause-link : goal.let_go-requires-clause-link
let_go-requires-clause-link g c = λ leaves. link_there c.args.pass.now c.args.id c.args.pointer c.requires.pointers.linked c.requires.was (c.requires.may.linked leaves)

pub returns-clause-becomes : goal.returns-clause-becomes
returns-clause-becomes g c = record {
  was = c.requires.was;
  pointers = ap (λ (y : PassState). y.pointers) c.put.ensures ∙ ap (λ (ps : List (Option Pointer)). set ps c.args.id.key c.args.now) c.let_go.ensures.pointers;
  page = lets_go_put c.args.pass.now c.let_go.new.pass c.put.new.pass (page_under (plan_of c.args.pass.now) c.args.pointer) c.args.leaves _ c.let_go.ensures.page c.put.ensures;
}

pub returns-clause-pointers : goal.returns-clause-pointers
returns-clause-pointers g c =
    pointers_then c.args.pass.now c.put.new.pass c.args.id c.args.pointer c.args.now c.args.leaves (record {
      was = c.requires.was;
      pointers = ap (λ (y : PassState). y.pointers) c.put.ensures ∙ ap (λ (ps : List (Option Pointer)). set ps c.args.id.key c.args.now) c.let_go.ensures.pointers;
      page = lets_go_put c.args.pass.now c.let_go.new.pass c.put.new.pass (page_under (plan_of c.args.pass.now) c.args.pointer) c.args.leaves _ c.let_go.ensures.page c.put.ensures;
    }) c.requires.may (placed_now c.args.now c.requires.placed) c.requires.pointers
