use Rattle.std.proofs.Common.{◌%◌}
use Rattle.std.proofs.lemmas.Bool.{eq-eqb, ne_eqb, lt-ltb, le-ltb}
use Rattle.eleos_base.specs.AesKey.{word_change}
use Rattle.eleos_aes.proofs.words.word_change.Goals as goal
use Rattle.eleos_aes.proofs.words.word_change.Goals.{else-key_words-gt6-via-then-key_words-gt6+else-place-eq4, else-key_words-gt6-via-else-key_words-gt6}

pub returns-then-place-eq0 : goal.returns-then-place-eq0
unfolding word_change
returns-then-place-eq0 c =
    rw (
      c.xor_word.ensures,
      c.sub_word.ensures,
      c.round_constant.ensures,
      eq-eqb (c.args.i % c.args.key_words) 0 c.if-place-eq0.true,
    )

pub returns-then-place-eq4 : goal.returns-then-place-eq4
unfolding word_change
returns-then-place-eq4 c =
    rw (
      c.sub_word-then-place-eq4.ensures,
      ne_eqb (c.args.i % c.args.key_words) 0 c.if-place-eq0.false,
      lt-ltb 6 c.args.key_words c.if-key_words-gt6.true,
      eq-eqb (c.args.i % c.args.key_words) 4 c.if-place-eq4.true,
    )

pub returns-else-key_words-gt6 : goal.returns-else-key_words-gt6
unfolding word_change
returns-else-key_words-gt6 c =
    let other = ne_eqb (c.args.i % c.args.key_words) 0 c.if-place-eq0.false in
    elim c.else-key_words-gt6.branch [
      | else-key_words-gt6-via-then-key_words-gt6+else-place-eq4 w ↦
          rw (
            other,
            lt-ltb 6 c.args.key_words w.if-key_words-gt6.true,
            ne_eqb (c.args.i % c.args.key_words) 4 w.if-place-eq4.false,
          )
      | else-key_words-gt6-via-else-key_words-gt6 w ↦
          rw (other, le-ltb 6 c.args.key_words w.if-key_words-gt6.false)
    ]
