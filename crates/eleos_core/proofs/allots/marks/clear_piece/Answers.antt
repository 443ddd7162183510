use Rattle.std.proofs.Common.{◌*◌}
use Rattle.eleos_core.proofs.SubPages.{filled}
use Rattle.eleos_core.proofs.allots.marks.clear_piece.Goals as goal

pub returns : goal.returns
returns c = filled c.args.bytes.now c.fill.new.self (1024 * c.args.index) c.requires (c.fill.ensures.after (λ y is. is))
