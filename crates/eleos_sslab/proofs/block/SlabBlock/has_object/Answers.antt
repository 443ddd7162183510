use Rattle.std.proofs.Common.{arith}
use Rattle.std.proofs.lemmas.Bool.{false≢true}
use Rattle.eleos_sslab.proofs.Lengths.{none_in_zeros}
use Rattle.eleos_sslab.proofs.block.SlabBlock.has_object.Goals as goal

pub returns : goal.returns
returns c = (λ t. absurd (false≢true t), λ h. absurd (none_in_zeros c.args.self.now (omega arith) (λ k below. c.loop-slot.invariant k (omega arith)) h))
