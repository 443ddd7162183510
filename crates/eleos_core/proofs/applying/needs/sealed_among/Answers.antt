use Rattle.std.proofs.Common.{◌≡◌, [], ap, arith, length, take, length-take}
use Rattle.std.proofs.lemmas.List.{length-map}
use Rattle.eleos_core.specs.Cells.{part_with}
use Rattle.eleos_core.specs.Parts.{sealed_from}
use Rattle.eleos_core.proofs.Needing.{bare, sealed_few}
use Rattle.eleos_core.proofs.applying.needs.sealed_among.Goals as goal

pub push-requires : goal.push-requires
push-requires c =
    let known = take c.loop-i.i c.args.subs.now in
    let same : length c.loop-i.places ≡ length (sealed_from c.args.first (bare known)) = ap length c.loop-i.invariant in
    let few = sealed_few c.args.first (bare known) in
    let whole = length-map known (λ u. part_with u []) in
    let front = length-take c.loop-i.i c.args.subs.now in
    omega (arith, c.loop-i-test.true, c.requires.few)
