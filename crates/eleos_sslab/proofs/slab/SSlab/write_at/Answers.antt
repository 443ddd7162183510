use Rattle.std.proofs.Common.{refl, ap}
use Rattle.eleos_base.specs.declared.memory.Addr.{Addr}
use Rattle.eleos_base.specs.declared.memory.Op.TheVariants as ops
use Rattle.eleos_base.specs.declared.memory.Reply.TheVariants.{Done}
use Rattle.eleos_base.specs.Answers.{access_refusal_reply}
use Rattle.eleos_base.specs.SubMemory.{HasCalled}
use Rattle.eleos_sslab.specs.Slabs.{address_of, block_at}
use Rattle.eleos_sslab.proofs.Calling.{called_as, owned-refused, place_at, range_as, slab_at, slab_by, stored_at}
use Rattle.eleos_sslab.proofs.Lengths.{used_within}
use Rattle.eleos_sslab.proofs.Ranges.{address_fits}
use Rattle.eleos_sslab.proofs.SlotSizes.{slot_most}
use Rattle.eleos_sslab.proofs.slab.SSlab.write_at.Goals as goal

pub address_of-requires-clause-within : goal.address_of-requires-clause-within
address_of-requires-clause-within g c = used_within c.args.self.now c.args.id.block c.requires.used

pub address_of-requires-clause-slot : goal.address_of-requires-clause-slot
address_of-requires-clause-slot g c = slot_most _ _ c.requires.slot.in_block

pub address_of-requires-clause-fits : goal.address_of-requires-clause-fits
address_of-requires-clause-fits g c = address_fits _ (block_at c.args.self.now c.args.id.block) c.args.id.slot (c.requires.slab.homes c.args.id.block c.requires.used) c.requires.slot.in_block

pub set_len-requires-clause-within : goal.set_len-requires-clause-within
set_len-requires-clause-within g c = used_within c.args.self.now c.args.id.block c.requires.used

pub set_len-requires-clause-slot : goal.set_len-requires-clause-slot
set_len-requires-clause-slot g c = slot_most _ _ c.requires.slot.in_block

pub returns-in-Ok : goal.returns-in-Ok
returns-in-Ok g c = let m = g.M.SubMemory.state c.args.mem.now in
    let called : HasCalled m (ops.Write (address_of c.args.self.now c.args.id) c.args.bytes.now) Done _ = called_as _ _ _ _ _ _ (ap (λ (z : Addr). ops.Write z c.args.bytes.now) c.address_of.ensures) refl c.in-Ok.ensures.called in record {
      one = called;
      ok = stored_at m _ c.args.self.now _ c.args.id c.args.bytes.now c.requires.slab c.requires.used c.requires.slot c.set_len.ensures called;
      place = place_at m c.args.self.now _ c.args.id _ c.requires.slab c.requires.used c.requires.slot c.set_len.ensures;
      err = tt;
      kept = tt;
      fault = tt;
      slab = slab_at m _ c.args.self.now _ c.args.id c.args.bytes.now c.requires.slab c.requires.used c.requires.slot c.set_len.ensures called;
    }

pub returns-in-Err : goal.returns-in-Err
returns-in-Err g c = let m = g.M.SubMemory.state c.args.mem.now in
    let called : HasCalled m (ops.Write (address_of c.args.self.now c.args.id) c.args.bytes.now) (access_refusal_reply c.in-Err.why) _ = called_as _ _ _ _ _ _ (ap (λ (z : Addr). ops.Write z c.args.bytes.now) c.address_of.ensures) refl c.in-Err.ensures.called in record {
      one = called;
      ok = tt;
      place = tt;
      err = refl;
      kept = owned-refused m (g.M.SubMemory.state c.write.new.self) _ _ _ called;
      fault = c.in-Err.ensures.own (range_as m c.args.self.now c.args.id _ _ c.requires.slab c.requires.used c.requires.slot c.requires.some c.address_of.ensures);
      slab = slab_by m (g.M.SubMemory.state c.write.new.self) c.args.self.now (owned-refused m (g.M.SubMemory.state c.write.new.self) _ _ _ called) c.requires.slab;
    }
