use Rattle.std.proofs.Common.{◌≡◌, ◌*◌, [], length, take, fold, slice_index_or, ◌∙◌, ap, arith, take_all}
use Rattle.eleos_core.proofs.OpeningBlocks.{live_is, with_own}
use Rattle.eleos_core.proofs.opening.lives.make_live.Goals as goal

pub returns : goal.returns
returns c =
    let all : take c.loop-block.block-index c.args.plan.now.blocks ≡ c.args.plan.now.blocks = take_all c.loop-block.block-index c.args.plan.now.blocks (omega (arith, ap length c.as_slice-block-items.ensures)) in
    c.loop-block.invariant.same ∙ (ap (fold (with_own ((slice_index_or c.as_slice.result.now c.args.enclave (record { pages = 0; frames = 0 })).pages * 4) c.args.enclave) []) all
    ∙ live_is c.args.plan.now c.args.enclave (record { pages = 0; frames = 0 }) c.as_slice.result.now c.as_slice.ensures c.requires.enclave)
