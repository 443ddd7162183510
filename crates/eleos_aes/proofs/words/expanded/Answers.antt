use Rattle.std.proofs.Common.{arith, refl, add-one, ◌<◌, ◌≡◌, ◌+◌, ◌*◌, ◌/◌, length, ◌∙◌}
use Rattle.std.proofs.lemmas.List.{length-set, take_more_set}
use Rattle.eleos_base.specs.AesKey.{first_words}
use Rattle.eleos_aes.proofs.KeyWords.{key_sizes}
use Rattle.eleos_aes.proofs.words.expanded.Goals as goal

pub words-init : goal.words-init
unfolding first_words
words-init c = (refl, refl)

pub words-preserved : goal.words-preserved
unfolding first_words
words-preserved c =
    let words = c.words.words in
    let i = c.words.i in
    let sizes = key_sizes (length c.args.key.now) c.requires in
    let room : i < length words = omega arith in (
      length-set words i _ ∙ c.words.invariant.0,
      take_more_set words i c.word_after-word.result room
          ∙ rw add-one (rw (← c.words.invariant.1, c.word_after-word.ensures)),
    )

pub returns : goal.returns
returns c =
    let done : c.words.i ≡ 4 * (length c.args.key.now / 4 + 7) = omega arith in
    rw done at c.words.invariant.1
