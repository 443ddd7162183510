use Rattle.eleos_base.specs.SubMemory.{owned}
use Rattle.eleos_sslab.proofs.Putting.{held_still, moved_at, replaced_there}
use Rattle.eleos_sslab.proofs.SlotSizes.{fits_in}
use Rattle.eleos_sslab.proofs.slab.SSlab.move_to.Goals as goal

pub take-requires-clause-held : goal.take-requires-clause-held
take-requires-clause-held g c = held_still (g.M.SubMemory.state c.args.mem.now) (g.M.SubMemory.state c.put_sized.new.mem) c.args.self.now c.put_sized.new.self c.args.bytes.now c.args.id c.in-Ok.new
    c.requires.held c.in-Ok.ensures.new c.in-Ok.ensures.ok

pub returns-in-Ok-clause-ok : goal.returns-in-Ok-clause-ok
returns-in-Ok-clause-ok g c = replaced_there (g.M.SubMemory.state c.args.mem.now) (g.M.SubMemory.state c.put_sized.new.mem) (g.M.SubMemory.state c.take.new.mem) c.args.self.now c.put_sized.new.self c.take.new.self c.args.bytes.now c.args.id c.in-Ok.new
    c.requires.held c.in-Ok.ensures.new c.in-Ok.ensures.ok c.take.ensures.gone c.take.ensures.others

pub returns-in-Ok-clause-calls : goal.returns-in-Ok-clause-calls
returns-in-Ok-clause-calls g c = (
  g.M.SubMemory.state c.put_sized.new.mem,
  c.put_sized.new.self,
  c.in-Ok.ensures.calls,
  moved_at (owned (g.M.SubMemory.state c.put_sized.new.mem)) (owned (g.M.SubMemory.state c.take.new.mem)) c.args.self.now c.put_sized.new.self c.take.new.self c.args.bytes.now c.args.id c.in-Ok.new
      c.requires.held c.in-Ok.ensures.new (fits_in _ c.args.size c.requires.size).0 c.in-Ok.ensures.ok.len c.take.ensures.others,
  c.take.ensures.calls,
)
