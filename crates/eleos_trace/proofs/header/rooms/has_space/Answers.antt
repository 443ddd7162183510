use Rattle.std.proofs.Common.{List, [], ◌∷◌, ◌≤◌, map, All}
use Rattle.std.specs.List.{AllByRecursion}
use Rattle.std.proofs.lemmas.List.Elements.{All-from_recursion, All-head, All-tail}
use Rattle.eleos_base.specs.declared.plan.BlockPlan.{BlockPlan}
use Rattle.eleos_base.proofs.PackedBlocks.{room_enough}
use Rattle.eleos_trace.specs.declared.header.NamedBlock.{NamedBlock}
use Rattle.eleos_trace.proofs.header.rooms.has_space.Goals as goal

sizes_of : (all : List NamedBlock) → All (λ named. 1 ≤ named.block.bytes) all → AllByRecursion (λ (block : BlockPlan). 1 ≤ block.bytes) (map (λ named. named.block) all)
sizes_of [] sizes = tt
sizes_of (named ∷ others) sizes = (All-head (λ named. 1 ≤ named.block.bytes) named others sizes, sizes_of others (All-tail (λ named. 1 ≤ named.block.bytes) named others sizes))

pub returns : goal.returns
returns c =
    let before : List BlockPlan = map (λ named. named.block) c.args.before.now in
    let sizes : All (λ (block : BlockPlan). 1 ≤ block.bytes) before = All-from_recursion _ before (sizes_of c.args.before.now c.requires.sizes) in
    rw (c.subs_for.ensures, c.free_behind_named.ensures) (room_enough c.args.plan.now before c.args.enclave c.args.bytes c.requires.enclave sizes c.requires.some)
