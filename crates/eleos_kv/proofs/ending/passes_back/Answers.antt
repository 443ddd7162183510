use Rattle.std.proofs.Common.{◌≡◌, List, ◌++◌, ◌∷◌, [], length, Option, None, sym, ap, ◌∙◌, subst, arith, length-append, append_assoc}
use Rattle.eleos_machine.specs.Passes.{PassState}
use Rattle.eleos_kv.specs.Cells.{CellState}
use Rattle.eleos_kv.specs.Ends.{AreCells, passes_in}
use Rattle.eleos_kv.proofs.Backs.{cells_none, cells_snoc, fit, snoc_none, snoc_some}
use Rattle.eleos_kv.proofs.ending.passes_back.Goals as goal

pub loop-cell-preserved-in-Ok-1 : goal.loop-cell-preserved-in-Ok-1
loop-cell-preserved-in-Ok-1 g c = let s = c.in-Some.ensures.steps in record {
  split = c.loop-cell.invariant.split ∙ (ap (λ (z : List (Option CellState)). c.loop-cell.yielded ++ z) s.0 ∙ sym (append_assoc c.loop-cell.yielded (c.in-Some.cell ∷ []) c.next.new.self.rest.items));
  passes = c.in-Ok.ensures.items ∙ (ap (λ (z : List PassState). z ++ c.pass_of.result ∷ []) c.loop-cell.invariant.passes
      ∙ (ap (λ (z : PassState). passes_in c.loop-cell.yielded ++ z ∷ []) c.pass_of.ensures.pass
      ∙ (sym (snoc_some c.loop-cell.yielded c.in-Some-cell.found) ∙ ap (λ (z : Option CellState). passes_in (c.loop-cell.yielded ++ z ∷ [])) (sym c.in-Some-cell.is))));
  cells = subst (λ (z : Option CellState). AreCells g.P.HostPort.gave g.P.HostPort.took (c.loop-cell.yielded ++ z ∷ [])) (sym c.in-Some-cell.is)
      (cells_snoc g.P.HostPort.gave g.P.HostPort.took c.loop-cell.yielded c.in-Some-cell.found c.loop-cell.invariant.cells (c.pass_of.ensures.cell, c.pass_of.ensures.lawful));
  capacity = let a = c.loop-cell.invariant.capacity in let b = c.in-Ok.ensures.capacity in omega (arith, a, b);
}

pub unreachable-requires : goal.unreachable-requires
unreachable-requires g c = let inv = c.loop-cell.invariant in let full = c.in_default-push.ensures.full in let s = c.in-Some.ensures.steps in
    let made = ap length inv.passes in let few = fit c.loop-cell.yielded in
    let all = ap length (inv.split ∙ ap (λ (z : List (Option CellState)). c.loop-cell.yielded ++ z) s.0) in let parts = length-append c.loop-cell.yielded (c.in-Some.cell ∷ c.next.new.self.rest.items) in
    let room = c.requires.room in let cap = inv.capacity in omega (arith, full, made, few, all, parts, room, cap)

pub loop-cell-preserved : goal.loop-cell-preserved
loop-cell-preserved g c = let s = c.in-Some.ensures.steps in record {
  split = c.loop-cell.invariant.split ∙ (ap (λ (z : List (Option CellState)). c.loop-cell.yielded ++ z) s.0 ∙ sym (append_assoc c.loop-cell.yielded (c.in-Some.cell ∷ []) c.next.new.self.rest.items));
  passes = c.loop-cell.invariant.passes ∙ (sym (snoc_none c.loop-cell.yielded) ∙ ap (λ (z : Option CellState). passes_in (c.loop-cell.yielded ++ z ∷ [])) (sym c.in_default.is));
  cells = subst (λ (z : Option CellState). AreCells g.P.HostPort.gave g.P.HostPort.took (c.loop-cell.yielded ++ z ∷ [])) (sym c.in_default.is) (cells_none g.P.HostPort.gave g.P.HostPort.took c.loop-cell.yielded c.loop-cell.invariant.cells);
  capacity = c.loop-cell.invariant.capacity;
}
