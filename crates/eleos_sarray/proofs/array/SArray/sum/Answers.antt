use Rattle.std.proofs.Common.{◌+◌, ℕ, arith, subst, sym}
use Rattle.eleos_sarray.proofs.Summing.{IsSummedTo}
use Rattle.eleos_sarray.proofs.Summing.{sum_next, sum_room, sum_start, sum_value}
use Rattle.eleos_sarray.proofs.array.SArray.sum.Goals as goal

pub loop-i-init : goal.loop-i-init
loop-i-init g c = record { summed = sum_start _ _; array = c.requires.array }

pub get-requires-clause-left : goal.get-requires-clause-left
get-requires-clause-left g c = sum_room _ _ _ _ _ c.loop-i.invariant.summed c.requires.left c.loop-i-test.true

pub loop-i-preserved : goal.loop-i-preserved
loop-i-preserved g c = record {
  summed = subst (λ (k : ℕ). IsSummedTo (g.M.SubMemory.state c.args.mem.now) c.args.self.now (c.loop-i.i + 1) (c.loop-i.total + k) (g.M.SubMemory.state c.get.new.mem)) (sym c.from-total.ensures)
      (sum_next _ c.args.self.now c.loop-i.i c.loop-i.total c.in-Ok.value _ _ c.loop-i.invariant.summed c.loop-i-test.true c.in-Ok.ensures.fits c.in-Ok.ensures.one c.in-Ok.ensures.value);
  array = c.in-Ok.ensures.array;
}

pub returns-clause-value : goal.returns-clause-value
returns-clause-value g c = sum_value _ _ c.loop-i.i _ _ c.loop-i.invariant.summed (let a = c.loop-i-test.false in let b = c.loop-i.auto.i-end in omega (arith, a, b))
