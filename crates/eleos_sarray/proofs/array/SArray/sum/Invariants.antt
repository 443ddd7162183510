use Rattle.eleos_sarray.specs.Arrays.{IsArray}
use Rattle.eleos_base.specs.SubMemory.{owned}
use Rattle.eleos_sarray.proofs.Summing.{IsSummedTo}
use Rattle.eleos_sarray.proofs.array.SArray.sum.Given as goal

abbrev pub invariant-loop-i : goal.invariant-loop-i
invariant-loop-i g l = record { summed : IsSummedTo (g.M.SubMemory.state l.fn.mem) l.self l.i l.total (g.M.SubMemory.state l.mem); array : IsArray (owned (g.M.SubMemory.state l.mem)) l.self }
