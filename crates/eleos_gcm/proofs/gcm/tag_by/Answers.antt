use Rattle.eleos_base.specs.Ghash.{ghash}
use Rattle.eleos_base.specs.Gcm.{tag_of}
use Rattle.eleos_gcm.proofs.gcm.tag_by.Goals as goal

pub returns : goal.returns
unfolding tag_of ghash
returns c is = rw (c.gctr.ensures, c.pre_counter.ensures, c.hash_for_tag-tag.ensures, is)
