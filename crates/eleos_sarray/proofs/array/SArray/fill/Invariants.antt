use Rattle.eleos_sarray.proofs.Filling.{IsFilledTo}
use Rattle.eleos_sarray.proofs.array.SArray.fill.Given as goal

abbrev pub invariant-loop-i : goal.invariant-loop-i
invariant-loop-i g l = IsFilledTo (g.M.SubMemory.state l.fn.mem) l.self l.value l.i (g.M.SubMemory.state l.mem)
