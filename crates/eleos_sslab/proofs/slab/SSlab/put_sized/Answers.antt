use Rattle.std.proofs.Common.{arith}
use Rattle.eleos_sslab.proofs.Putting.{first_slot_fits, free_not_full, free_slot_fits, new_put}
use Rattle.eleos_sslab.proofs.SlotSizes.{bytes_most, fits_in}
use Rattle.eleos_sslab.proofs.slab.SSlab.put_sized.Goals as goal

pub write_at-requires-clause-slot : goal.write_at-requires-clause-slot
write_at-requires-clause-slot g c = free_slot_fits c.args.self.now c.args.size c.in-Some.id _ c.in-Some.ensures.found c.requires.size

pub write_at-requires-clause-some : goal.write_at-requires-clause-some
write_at-requires-clause-some g c = (fits_in _ c.args.size c.requires.size).0

pub write_at-requires-clause-most : goal.write_at-requires-clause-most
write_at-requires-clause-most g c = let a = (fits_in _ c.args.size c.requires.size).1 in let b = bytes_most c.args.size in omega (arith, a, b)

pub write_new-requires-clause-slot : goal.write_new-requires-clause-slot
write_new-requires-clause-slot g c = first_slot_fits c.args.size _ c.requires.size

pub write_new-requires-clause-some : goal.write_new-requires-clause-some
write_new-requires-clause-some g c = (fits_in _ c.args.size c.requires.size).0

pub write_new-requires-clause-most : goal.write_new-requires-clause-most
write_new-requires-clause-most g c = let a = (fits_in _ c.args.size c.requires.size).1 in let b = bytes_most c.args.size in omega (arith, a, b)

pub returns-in-Ok-clause-full : goal.returns-in-Ok-clause-full
returns-in-Ok-clause-full g c = (λ e. absurd (cc), λ full. absurd (free_not_full c.args.self.now c.args.size c.in-Some.id c.in-Some.ensures.found full))

pub returns-in-Err-clause-full : goal.returns-in-Err-clause-full
returns-in-Err-clause-full g c = (λ e. absurd (cc), λ full. absurd (free_not_full c.args.self.now c.args.size c.in-Some.id c.in-Some.ensures.found full))

pub returns-in-Some-empty_place-clause-calls : goal.returns-in-Some-empty_place-clause-calls
returns-in-Some-empty_place-clause-calls g c = new_put (g.M.SubMemory.state c.args.mem.now) (g.M.SubMemory.state c.write_new.new.mem) c.args.self.now c.write_new.new.self c.args.size c.args.bytes.now c.write_new.result
    c.requires.size c.in-None.ensures.none c.write_new.ensures.calls
