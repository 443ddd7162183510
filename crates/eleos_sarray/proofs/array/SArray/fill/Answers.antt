use Rattle.std.proofs.Common.{arith}
use Rattle.eleos_sarray.proofs.Filling.{fill_end, fill_next, fill_room, fill_start}
use Rattle.eleos_sarray.proofs.array.SArray.fill.Goals as goal

pub loop-i-init : goal.loop-i-init
loop-i-init g c = fill_start _ _ _ c.requires.array

pub set-requires-clause-left : goal.set-requires-clause-left
set-requires-clause-left g c = fill_room _ _ _ _ _ c.loop-i.invariant c.requires.left c.loop-i-test.true

pub loop-i-preserved : goal.loop-i-preserved
loop-i-preserved g c = fill_next _ _ _ _ _ _ c.loop-i.invariant c.loop-i-test.true c.in-Ok.ensures.one c.in-Ok.ensures.ok c.in-Ok.ensures.array

pub returns-clause-items : goal.returns-clause-items
returns-clause-items g c = (fill_end _ c.args.self.now c.args.value c.loop-i.i _ c.loop-i.invariant (let a = c.loop-i-test.false in let b = c.loop-i.auto.i-end in omega (arith, a, b))).1

pub returns-clause-made : goal.returns-clause-made
returns-clause-made g c = (fill_end _ c.args.self.now c.args.value c.loop-i.i _ c.loop-i.invariant (let a = c.loop-i-test.false in let b = c.loop-i.auto.i-end in omega (arith, a, b))).0
