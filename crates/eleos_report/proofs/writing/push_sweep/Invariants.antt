use Rattle.std.proofs.Common.{◌≡◌, ◌++◌, ◌∷◌, take}
use Rattle.std.specs.List.{flat_map}
use Rattle.eleos_report.specs.Log.{looked_text}
use Rattle.eleos_report.proofs.writing.push_sweep.Given as goal

-- the frames so far are printed
abbrev pub invariant-loop-looked : goal.invariant-loop-looked
invariant-loop-looked l = l.out.items ≡ l.fn.out.items ++ flat_map (λ looked. 32 ∷ looked_text looked) (take l.looked-index l.sweep)
