use Rattle.std.proofs.Common.{◌≡◌, length, take}
use Rattle.eleos_base.specs.AesKey.{first_words}
use Rattle.eleos_aes.proofs.words.expanded.Given as goal

abbrev pub invariant-words : goal.invariant-words
invariant-words l = (length l.words ≡ 60) × (take l.i l.words ≡ first_words l.key l.i)
