use Rattle.std.proofs.Common.{◌≡◌, replicate}
use Rattle.eleos_sslab.specs.Blocks.{empty_block}
use Rattle.eleos_sslab.proofs.slab.SSlab.make.Given as goal

abbrev pub invariant-loop-place : goal.invariant-loop-place
invariant-loop-place l = l.blocks.items ≡ replicate l._place empty_block
