use Rattle.std.proofs.Common.{◌≡◌, map, drop}
use Rattle.eleos_report.specs.Answers.{sweep_of}
use Rattle.eleos_report.proofs.Sweeps.{with_frames}
use Rattle.eleos_report.proofs.replies.sweep_of.Given as goal

-- the frames so far and those that are left are all of them
abbrev pub invariant-loop-text : goal.invariant-loop-text
invariant-loop-text l = with_frames l.sweep.items (sweep_of (map (λ text. text.now) (drop l.text-index l.texts))) ≡ sweep_of (map (λ text. text.now) l.texts)
