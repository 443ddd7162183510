use Rattle.std.proofs.Common.{◌≡◌, ◌≤◌, length, take, fold, ◌∙◌, ap, arith, take_all}
use Rattle.eleos_base.specs.Places.{subs}
use Rattle.eleos_base.specs.Plain.{blank}
use Rattle.eleos_plain.proofs.Opening.{opened-is, with_own}
use Rattle.eleos_plain.proofs.Placing.{subs-small}
use Rattle.eleos_plain.proofs.memory.open_enclave.Goals as goal

pub blank-requires : goal.blank-requires
blank-requires c = let small = subs-small c.args.plan.now c.args.enclave c.requires.good c.requires.enclave in omega (arith, small, c.subs_of.ensures)

pub returns : goal.returns
returns c =
    let all : take c.loop-block.block-index c.args.plan.now.blocks ≡ c.args.plan.now.blocks = take_all c.loop-block.block-index c.args.plan.now.blocks (omega (arith, ap length c.as_slice-block-items.ensures)) in
    c.loop-block.invariant ∙ (ap (fold (with_own c.args.enclave) (blank 1024 (subs c.args.plan.now c.args.enclave))) all ∙ opened-is c.args.plan.now c.args.enclave c.requires.enclave)
