use Rattle.std.proofs.Common.{arith}
use Rattle.eleos_sslab.specs.Slabs.{block_at}
use Rattle.eleos_sslab.proofs.SlotSizes.{bytes_most, fits_in}
use Rattle.eleos_sslab.proofs.slab.SSlab.replace_here.Goals as goal

pub write_at-requires-clause-slot : goal.write_at-requires-clause-slot
write_at-requires-clause-slot g c = record { in_block = (c.requires.slab.slots c.args.id c.requires.held).in_block; in_slot = (fits_in _ _ c.requires.size).1 }

pub write_at-requires-clause-some : goal.write_at-requires-clause-some
write_at-requires-clause-some g c = (fits_in _ _ c.requires.size).0

pub write_at-requires-clause-most : goal.write_at-requires-clause-most
write_at-requires-clause-most g c = let a = (fits_in _ _ c.requires.size).1 in let b = bytes_most (block_at c.args.self.now c.args.id.block).size in omega (arith, a, b)
