use Rattle.std.proofs.Common.{◌≡◌, ◌++◌, ◌∷◌, arith}
use Rattle.std.specs.List.{flat_map}
use Rattle.std.proofs.lemmas.Grind.{common_steps}
use Rattle.eleos_report.specs.Log.{looked_text}
use Rattle.eleos_report.proofs.Spaced.{spaced-map}
use Rattle.eleos_report.proofs.writing.push_sweep.Goals as goal

pub returns : goal.returns
returns c =
    let all : c.loop-looked.out.items ≡ c.args.out.now.items ++ flat_map (λ looked. 32 ∷ looked_text looked) c.args.sweep.now = grind (arith, common_steps) in
    rw (spaced-map looked_text c.args.sweep.now) all
