use Rattle.std.proofs.Common.{rules, length, ◌/◌, refl}
use Rattle.eleos_base.specs.AesKey.{IsKeyLength}
use Rattle.eleos_aes.proofs.KeyWords.{key_sizes, key_of-expanded, IsExpanded_from}
use Rattle.eleos_aes.proofs.cipher.Aes.new.Goals as goal

is_length : (c : goal.After-round_keys) → IsKeyLength (length c.args.key.now)
is_length c = search rules

pub invariant_of-result : goal.invariant_of-result
invariant_of-result c =
    (IsExpanded_from c.args.key.now c.expanded-words.result (length c.args.key.now / 4) refl (is_length c) c.expanded-words.ensures, c.round_keys.ensures)

pub returns-clause-ok : goal.returns-clause-ok
returns-clause-ok c =
    let sizes = key_sizes (length c.args.key.now) (is_length c) in
    key_of-expanded c.args.key.now c.expanded-words.result (length c.args.key.now / 4) sizes.0 c.expanded-words.ensures
