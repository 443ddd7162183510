use Rattle.std.proofs.Common.{◌≡◌, false, refl}
use Rattle.std.specs.List.{list_all}
use Rattle.eleos_core.specs.Sweeps.{frames_in}
use Rattle.eleos_core.proofs.SweepTests.{is_busy_there, not_short, short_decides}
use Rattle.eleos_core.proofs.sweeps.surveys.is_short.Goals as goal

pub returns-then-not-are_busy : goal.returns-then-not-are_busy
returns-then-not-are_busy c = let no : list_all is_busy_there c.args.sweep.now ≡ false = (cc) in
    ((λ wrong. absurd (cc)), (λ short. not_short c.args.sweep.now c.args.pool.now no short))

pub returns : goal.returns
returns c = short_decides c.args.sweep.now c.args.pool.now (frames_in c.args.sweep.now) c.are_same.result (cc) refl c.are_same.ensures
