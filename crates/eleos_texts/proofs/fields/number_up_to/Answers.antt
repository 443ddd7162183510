use Rattle.std.proofs.Common.{◌≡◌, sym, ◌∙◌, arith, true}
use Rattle.std.specs.Char.{is_ascii_digit}
use Rattle.std.specs.List.{list_all}
use Rattle.std.proofs.lemmas.Bool.Decides.{nat_tests}
use Rattle.eleos_texts.proofs.Numerals.{number_up_to-large, above_most}
use Rattle.eleos_texts.proofs.fields.number_up_to.Goals as goal

pub returns-in_err-value : goal.returns-in_err-value
returns-in_err-value c =
    let digits : list_all is_ascii_digit c.args.text.now ≡ true = grind (arith, nat_tests) in
    let large = above_most _ _ (sym c.with_digit.ensures ∙ c.in_err-value.was) in
    c.from_residual.ensures ∙ sym (number_up_to-large c.args.most c.args.text.now c.loop-digit.digit-index c.loop-digit.value (omega arith) digits c.loop-digit.invariant.whole (omega arith))
