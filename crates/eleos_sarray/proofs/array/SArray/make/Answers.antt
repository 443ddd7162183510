use Rattle.eleos_sarray.proofs.Accessing.{new_array}
use Rattle.eleos_sarray.proofs.array.SArray.make.Goals as goal

pub returns-in-Ok-clause-made : goal.returns-in-Ok-clause-made
returns-in-Ok-clause-made g c = new_array (g.M.SubMemory.state c.args.mem.now) _ c.in-Ok.at c.args.len c.requires.some c.requires.most c.in-Ok.ensures.fresh c.in-Ok.ensures.called
