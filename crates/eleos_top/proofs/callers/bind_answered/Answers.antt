use Rattle.eleos_top.proofs.Tables.{all_set_if}
use Rattle.eleos_top.proofs.callers.bind_answered.Goals as goal

pub returns : goal.returns
returns c = all_set_if c.args.callers.now c.args.who c.index_of-index.result c.index_of-index.ensures c.args.word.now c.args.reply.now c.bind_answered.result c.index-callers-index.result c.bind_answered.new.self c.if-index-callers.false c.bind_answered.ensures
