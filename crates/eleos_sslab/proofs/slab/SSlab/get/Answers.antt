use Rattle.std.proofs.Common.{◌∙◌}
use Rattle.eleos_sslab.proofs.Calling.{slab_by}
use Rattle.eleos_sslab.proofs.Getting.{owned-read, read_object, read_range}
use Rattle.eleos_sslab.proofs.Lengths.{used_within}
use Rattle.eleos_sslab.proofs.slab.SSlab.get.Goals as goal

pub address_of-requires-clause-within : goal.address_of-requires-clause-within
address_of-requires-clause-within g c = used_within c.args.self.now c.args.id.block (c.args.id.slot, c.requires.held)

pub returns-in-Ok-clause-same : goal.returns-in-Ok-clause-same
returns-in-Ok-clause-same g c = owned-read (g.M.SubMemory.state c.args.mem.now) (g.M.SubMemory.state c.read.new.self) _ _ _ c.in-Ok.ensures.called

pub returns-in-Err-clause-same : goal.returns-in-Err-clause-same
returns-in-Err-clause-same g c = owned-read (g.M.SubMemory.state c.args.mem.now) (g.M.SubMemory.state c.read.new.self) _ _ _ c.in-Err.ensures.called

pub returns-in-Ok-clause-value : goal.returns-in-Ok-clause-value
returns-in-Ok-clause-value g c = read_object (g.M.SubMemory.state c.args.mem.now) (g.M.SubMemory.state c.read.new.self) c.args.self.now c.args.id c.requires.slab c.requires.held c.args.buf.now c.requires.buffer c.from-len.result
    (c.from-len.ensures ∙ c.len_of.ensures) c.address_of.result c.address_of.ensures c.read.new.buf c.read.auto.buf c.in-Ok.ensures.called

pub returns-in-Err-clause-fault : goal.returns-in-Err-clause-fault
returns-in-Err-clause-fault g c = c.in-Err.ensures.own (read_range (g.M.SubMemory.state c.args.mem.now) (g.M.SubMemory.state c.read.new.self) c.args.self.now c.args.id c.requires.slab c.requires.held c.args.buf.now c.requires.buffer c.from-len.result
    (c.from-len.ensures ∙ c.len_of.ensures) c.address_of.result c.address_of.ensures)

pub returns-in-Ok-clause-slab : goal.returns-in-Ok-clause-slab
returns-in-Ok-clause-slab g c = let m = g.M.SubMemory.state c.args.mem.now in let m' = g.M.SubMemory.state c.read.new.self in slab_by m m' c.args.self.now (owned-read m m' _ _ _ c.in-Ok.ensures.called) c.requires.slab

pub returns-in-Err-clause-slab : goal.returns-in-Err-clause-slab
returns-in-Err-clause-slab g c = let m = g.M.SubMemory.state c.args.mem.now in let m' = g.M.SubMemory.state c.read.new.self in slab_by m m' c.args.self.now (owned-read m m' _ _ _ c.in-Err.ensures.called) c.requires.slab
