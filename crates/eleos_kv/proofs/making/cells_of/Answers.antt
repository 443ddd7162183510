use Rattle.std.proofs.Common.{◌≡◌, ◌+◌, List, [], ◌∷◌, ◌++◌, length, sym, ap, ◌∙◌, subst, arith, append_assoc, length-append}
use Rattle.eleos_core.specs.Parts.{Part, Stamp}
use Rattle.eleos_machine.specs.Closing.{hands_of}
use Rattle.eleos_machine.specs.Machines.{plan_at}
use Rattle.eleos_machine.specs.Passes.{PassState}
use Rattle.eleos_plot.specs.declared.plot.Ground.{Ground}
use Rattle.eleos_turn.specs.Hands.{HandState, fresh}
use Rattle.eleos_kv.specs.Cells.{CellState}
use Rattle.eleos_kv.specs.Making.{AreNewCells}
use Rattle.eleos_kv.proofs.Opening.{all_dealt, new_snoc, next_dealt}
use Rattle.eleos_kv.proofs.making.cells_of.Goals as goal

pub cell_of-requires-clause-caller : goal.cell_of-requires-clause-caller
cell_of-requires-clause-caller g c = let inv = c.loop-pass.invariant in let ys : List PassState = c.loop-pass.yielded in let rest : List PassState = c.next.new.self.rest.items in let x : PassState = c.in-Some.pass in
    let is = ap hands_of (sym (inv.split ∙ ap (λ (z : List PassState). ys ++ z) c.in-Some.ensures.steps.0)) ∙ c.requires in
    let next = next_dealt c.args.machine.now 0 (length (plan_at c.args.machine.now).callers) ys rest x is in
    let number = ap (λ (h : HandState Stamp Part Ground). h.number) next.0 in let below = next.1 in record { from_one = omega (arith, number); within = omega (arith, number, below) }

pub cell_of-requires-clause-unused : goal.cell_of-requires-clause-unused
cell_of-requires-clause-unused g c = let inv = c.loop-pass.invariant in let ys : List PassState = c.loop-pass.yielded in let rest : List PassState = c.next.new.self.rest.items in let x : PassState = c.in-Some.pass in
    let is = ap hands_of (sym (inv.split ∙ ap (λ (z : List PassState). ys ++ z) c.in-Some.ensures.steps.0)) ∙ c.requires in
    let next = next_dealt c.args.machine.now 0 (length (plan_at c.args.machine.now).callers) ys rest x is in
    let number : x.hand.number ≡ 0 + length ys + 1 = ap (λ (h : HandState Stamp Part Ground). h.number) next.0 in next.0 ∙ ap (fresh c.args.machine.now) (sym number)

pub loop-pass-preserved : goal.loop-pass-preserved
loop-pass-preserved g c = let inv = c.loop-pass.invariant in let ys : List PassState = c.loop-pass.yielded in let rest : List PassState = c.next.new.self.rest.items in let x : PassState = c.in-Some.pass in
    let is = ap hands_of (sym (inv.split ∙ ap (λ (z : List PassState). ys ++ z) c.in-Some.ensures.steps.0)) ∙ c.requires in
    let next = next_dealt c.args.machine.now 0 (length (plan_at c.args.machine.now).callers) ys rest x is in
    let number : x.hand.number ≡ 0 + length ys + 1 = ap (λ (h : HandState Stamp Part Ground). h.number) next.0 in
    let old : List CellState = c.loop-pass.cells.items in let cell : CellState = c.in_ok-cell_of.field-0 in let count : length old ≡ length ys = inv.count in
    let items : c.push.new.self.items ≡ old ++ cell ∷ [] = c.in_ok-push.ensures.items in record {
      split = inv.split ∙ (ap (λ (z : List PassState). ys ++ z) c.in-Some.ensures.steps.0 ∙ sym (append_assoc ys (x ∷ []) rest));
      len = let was = inv.len in let one = ap length c.in-Some.ensures.steps.0 in let fewer = c.in-Some.ensures.steps.1 in omega (arith, was, one, fewer);
      count = let a = ap length items in let b = length-append old (cell ∷ []) in let d = length-append ys (x ∷ []) in omega (arith, a, b, d, count);
      cells = subst (AreNewCells c.args.machine.now 0) (sym items) (new_snoc c.args.machine.now 0 (length ys) old cell (omega (arith, count)) inv.cells (c.in_ok-cell_of.ensures (length ys) (let e : x.hand.number ≡ length ys + 1 = omega (arith, number) in e)));
    }

pub returns-clause-count : goal.returns-clause-count
returns-clause-count g c = let inv = c.loop-pass.invariant in let ys : List PassState = c.loop-pass.yielded in let long = all_dealt c.args.machine.now (length (plan_at c.args.machine.now).callers) c.args.callers.items c.requires in
    let none = c.in-None.ensures.steps.0 in let len = inv.len in let count = inv.count in let whole = ap length inv.split ∙ length-append ys c.loop-pass.pass-iterator.rest.items in omega (arith, long, none, len, count, whole)
