use Rattle.std.proofs.Common.{sym}
use Rattle.std.proofs.lemmas.Nat.{and_mask}
use Rattle.eleos_base.specs.BlockField.{reduction}
use Rattle.eleos_base.proofs.BlockFieldLemmas.{times_x_is}
use Rattle.eleos_lanes.proofs.field.times_x.Goals as goal

pub returns : goal.returns
unfolding reduction
returns c = rw (c.where_set.ensures, and_mask c.args.v 1) (sym (times_x_is c.args.v))
