use Rattle.std.proofs.Common.{set, ap, ◌∙◌}
use Rattle.eleos_sslab.specs.declared.block.SlabBlock.{SlabBlock}
use Rattle.eleos_sslab.proofs.Calling.{calls_freed, calls_stored, fault_new, kept_by, kept_refused, no_space, owned-no_space, slab_by, slab_refused, slab_stored, stored_new}
use Rattle.eleos_sslab.proofs.slab.SSlab.write_new.Goals as goal

pub returns-in-Err-clause-kept : goal.returns-in-Err-clause-kept
returns-in-Err-clause-kept g c = let m = g.M.SubMemory.state c.args.mem.now in let m₁ = g.M.SubMemory.state c.alloc.new.self in
    kept_by m m₁ c.args.self.now (owned-no_space m m₁ (no_space m m₁ c.in-Err.field-0 c.in-Err.ensures.sized c.in-Err.ensures.called))

pub returns-in-Err-clause-slab : goal.returns-in-Err-clause-slab
returns-in-Err-clause-slab g c = let m = g.M.SubMemory.state c.args.mem.now in let m₁ = g.M.SubMemory.state c.alloc.new.self in
    slab_by m m₁ c.args.self.now (owned-no_space m m₁ (no_space m m₁ c.in-Err.field-0 c.in-Err.ensures.sized c.in-Err.ensures.called)) c.requires.slab

pub returns-in-Ok-write-clause-calls : goal.returns-in-Ok-write-clause-calls
returns-in-Ok-write-clause-calls g c = calls_stored (g.M.SubMemory.state c.args.mem.now) (g.M.SubMemory.state c.alloc.new.self) (g.M.SubMemory.state c.write.new.self) c.args.self.now c.in-Ok.at c.args.place c.args.size c.args.bytes.now
    c.requires.slab c.in-Ok.ensures.fresh c.requires.within c.requires.empty c.requires.slot c.in-Ok.ensures.called c.in-Ok-write.ensures.called
    c.set_first.new.self (c.set_first.ensures ∙ ap (λ (b : SlabBlock). set c.args.self.now c.args.place b) c.of_first.ensures)

pub returns-in-Ok-write-clause-ok : goal.returns-in-Ok-write-clause-ok
returns-in-Ok-write-clause-ok g c = stored_new (g.M.SubMemory.state c.args.mem.now) (g.M.SubMemory.state c.alloc.new.self) (g.M.SubMemory.state c.write.new.self) c.args.self.now c.in-Ok.at c.args.place c.args.size c.args.bytes.now
    c.requires.slab c.in-Ok.ensures.fresh c.requires.within c.requires.empty c.requires.slot c.in-Ok.ensures.called c.in-Ok-write.ensures.called
    c.set_first.new.self (c.set_first.ensures ∙ ap (λ (b : SlabBlock). set c.args.self.now c.args.place b) c.of_first.ensures)

pub returns-in-Ok-write-clause-slab : goal.returns-in-Ok-write-clause-slab
returns-in-Ok-write-clause-slab g c = slab_stored (g.M.SubMemory.state c.args.mem.now) (g.M.SubMemory.state c.alloc.new.self) (g.M.SubMemory.state c.write.new.self) c.args.self.now c.in-Ok.at c.args.place c.args.size c.args.bytes.now
    c.requires.slab c.in-Ok.ensures.fresh c.requires.within c.requires.empty c.requires.slot c.in-Ok.ensures.called c.in-Ok-write.ensures.called
    c.set_first.new.self (c.set_first.ensures ∙ ap (λ (b : SlabBlock). set c.args.self.now c.args.place b) c.of_first.ensures)

pub returns-in-Err-write-clause-calls : goal.returns-in-Err-write-clause-calls
returns-in-Err-write-clause-calls g c = let m = g.M.SubMemory.state c.args.mem.now in let m₁ = g.M.SubMemory.state c.alloc.new.self in (
  c.in-Err-write.ensures.own (fault_new m m₁ c.in-Ok.at _ c.in-Ok.ensures.fresh c.in-Ok.ensures.called c.requires.some c.requires.most),
  (
    c.in-Ok.at,
    calls_freed m m₁ (g.M.SubMemory.state c.write.new.self) (g.M.SubMemory.state c.free.new.self) c.args.self.now c.in-Ok.at c.args.bytes.now c.in-Err-write.why c.free.result
        c.requires.slab c.in-Ok.ensures.fresh c.in-Ok.ensures.called c.in-Err-write.ensures.called c.free.ensures.called c.free.ensures.own,
  ),
)

pub returns-in-Err-write-clause-kept : goal.returns-in-Err-write-clause-kept
returns-in-Err-write-clause-kept g c = kept_refused (g.M.SubMemory.state c.args.mem.now) (g.M.SubMemory.state c.alloc.new.self) (g.M.SubMemory.state c.write.new.self) (g.M.SubMemory.state c.free.new.self) c.args.self.now c.in-Ok.at c.args.bytes.now
    c.in-Err-write.why c.free.result c.requires.slab c.in-Ok.ensures.fresh c.in-Ok.ensures.called c.in-Err-write.ensures.called c.free.ensures.called c.free.ensures.own

pub returns-in-Err-write-clause-slab : goal.returns-in-Err-write-clause-slab
returns-in-Err-write-clause-slab g c = slab_refused (g.M.SubMemory.state c.args.mem.now) (g.M.SubMemory.state c.alloc.new.self) (g.M.SubMemory.state c.write.new.self) (g.M.SubMemory.state c.free.new.self) c.args.self.now c.in-Ok.at c.args.bytes.now
    c.in-Err-write.why c.free.result c.requires.slab c.in-Ok.ensures.fresh c.in-Ok.ensures.called c.in-Err-write.ensures.called c.free.ensures.called c.free.ensures.own
