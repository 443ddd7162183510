-- A machine can be made of the plan of each run.
use Rattle.std.proofs.Common.{◌≡◌, ◌≤◌, arith, List, [], ◌∷◌, ◌++◌, length, take, Some, true, refl, sym, ap, ◌∙◌, subst, append_assoc}
use Rattle.std.specs.Prelude.{slice_get}
use Rattle.std.proofs.Math.Seq.{take-append_seam}
use Rattle.std.proofs.lemmas.List.Sums.{sum-map}
use Rattle.eleos_base.specs.Places.{all_frames}
use Rattle.eleos_base.specs.declared.plan.BlockPlan.{BlockPlan}
use Rattle.eleos_base.specs.declared.plan.EnclavePlan.{EnclavePlan}
use Rattle.eleos_base.specs.declared.plan.Plan.{Plan}
use Rattle.eleos_machine.specs.Judging.{AllFindRoom, CanBeMade, finds_room}
use Rattle.eleos_trace.specs.declared.trace.Trace.{Trace}
use Rattle.eleos_base.specs.Rooms.{has_space}
use Rattle.eleos_trace.specs.Blocks.{EachFindsRoom}
use Rattle.eleos_trace.specs.Kinds.{IsRun}

block_at : (before : List BlockPlan) (block : BlockPlan) (blocks : List BlockPlan) → slice_get (before ++ block ∷ blocks) (length before) ≡ Some block
block_at [] block blocks = refl
block_at (x ∷ before) block blocks = block_at before block blocks

-- both say of room the same
one_room : (plan : Plan) (before : List BlockPlan) (block : BlockPlan) → has_space (record plan { blocks = before }) block.enclave block.bytes ≡ true → finds_room plan before block ≡ true
one_room plan before block room = room

rooms_behind : (plan : Plan) (before blocks : List BlockPlan) → before ++ blocks ≡ plan.blocks → EachFindsRoom plan → AllFindRoom plan before blocks
rooms_behind plan before [] all each = tt
rooms_behind plan before (block ∷ blocks) all each =
    let found : slice_get plan.blocks (length before) ≡ Some block = ap (λ (z : List BlockPlan). slice_get z (length before)) (sym all) ∙ block_at before block blocks in
    let front : take (length before) plan.blocks ≡ before = ap (λ (z : List BlockPlan). take (length before) z) (sym all) ∙ take-append_seam before (block ∷ blocks) in (
      one_room plan before block (subst (λ (z : List BlockPlan). has_space (record plan { blocks = z }) block.enclave block.bytes ≡ true) front (each (length before) block found)),
      rooms_behind plan (before ++ block ∷ []) blocks (append_assoc before (block ∷ []) blocks ∙ all) each,
    )

-- a machine can be made of the plan of every trace of a run
pub run_can_be_made : (trace : Trace) → IsRun trace → CanBeMade trace.plan
run_can_be_made trace run = record { good = run.good; few_blocks = run.few_blocks; room = rooms_behind trace.plan [] trace.plan.blocks refl run.room }

-- the machine of a run has few frames
pub frames_few : (trace : Trace) → IsRun trace → all_frames trace.plan ≤ 512
frames_few trace run = let same = sum-map (λ (made : EnclavePlan). made.frames) trace.plan.enclaves in let most = run.good.frames in omega (arith, same, most)
