use Rattle.eleos_sslab.proofs.Lengths.{used_within}
use Rattle.eleos_sslab.proofs.Spending.{here_spent, moves_spent}
use Rattle.eleos_sslab.proofs.slab.SSlab.replace.Goals as goal

pub size_of-requires : goal.size_of-requires
size_of-requires g c = used_within c.args.self.now c.args.id.block (c.args.id.slot, c.requires.held)

pub returns-then-eq-clause-costs : goal.returns-then-eq-clause-costs
returns-then-eq-clause-costs g c = here_spent (g.M.SubMemory.state c.args.mem.now) (g.M.SubMemory.state c.replace_here.new.mem) c.args.self.now c.replace_here.new.self c.args.bytes.now c.args.id c.replace_here.result c.replace_here.ensures.calls

pub returns-else-eq-clause-costs : goal.returns-else-eq-clause-costs
returns-else-eq-clause-costs g c = moves_spent (g.M.SubMemory.state c.args.mem.now) (g.M.SubMemory.state c.move_to.new.mem) c.args.self.now c.move_to.new.self c.args.bytes.now c.args.id c.move_to.result c.move_to.ensures.calls
