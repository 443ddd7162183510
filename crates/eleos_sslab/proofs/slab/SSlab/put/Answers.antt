use Rattle.eleos_sslab.proofs.Spending.{put_spent}
use Rattle.eleos_sslab.proofs.slab.SSlab.put.Goals as goal

pub returns-in-Some-clause-costs : goal.returns-in-Some-clause-costs
returns-in-Some-clause-costs g c = put_spent (g.M.SubMemory.state c.args.mem.now) (g.M.SubMemory.state c.put_sized.new.mem) c.args.self.now c.put_sized.new.self c.args.bytes.now c.put_sized.result c.put_sized.ensures.calls
