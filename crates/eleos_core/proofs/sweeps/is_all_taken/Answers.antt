use Rattle.std.proofs.Common.{◌≡◌, false, refl}
use Rattle.std.specs.List.{list_all}
use Rattle.eleos_core.specs.Sweeps.{frames_in}
use Rattle.eleos_core.proofs.SweepTests.{is_taken_there, not_taken, taken_decides}
use Rattle.eleos_core.proofs.sweeps.is_all_taken.Goals as goal

pub returns-then-not-are_taken : goal.returns-then-not-are_taken
returns-then-not-are_taken c = let no : list_all is_taken_there c.args.sweep.now ≡ false = (cc) in
    ((λ wrong. absurd (cc)), (λ taken. not_taken c.args.sweep.now c.args.frames.now no taken))

pub returns : goal.returns
returns c = taken_decides c.args.sweep.now c.args.frames.now (frames_in c.args.sweep.now) c.are_same.result (cc) refl c.are_same.ensures
