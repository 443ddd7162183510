use Rattle.std.proofs.Common.{ap, ◌∙◌}
use Rattle.eleos_base.specs.BlockField.{number_of}
use Rattle.eleos_base.specs.Gcm.{hash_subkey}
use Rattle.eleos_gcm.proofs.gcm.Gcm.new.Goals as goal

pub invariant_of-result : goal.invariant_of-result
unfolding hash_subkey
invariant_of-result c = c.of.ensures ∙ c.number_of.ensures ∙ ap number_of c.encrypt.ensures
