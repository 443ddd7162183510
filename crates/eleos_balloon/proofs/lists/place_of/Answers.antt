use Rattle.std.proofs.Common.{◌∙◌, sym, arith}
use Rattle.eleos_balloon.proofs.Clocks.{after_more, place_is, place_none}
use Rattle.eleos_balloon.proofs.lists.place_of.Goals as goal

pub loop-place-init : goal.loop-place-init
loop-place-init c j lt = absurd (omega (arith, lt))

pub returns-then-at-frame : goal.returns-then-at-frame
returns-then-at-frame c = sym (place_is c.args.frame c.args.list.now c.loop-place.place (let a = c.loop-place-test.true in let b = c.len-place-end.ensures in omega (arith, a, b))
    c.loop-place.invariant (sym c.at.ensures ∙ c.if-at-frame.true))

pub loop-place-preserved : goal.loop-place-preserved
loop-place-preserved c = after_more c.args.frame c.args.list.now c.loop-place.place c.loop-place.invariant (λ e. c.if-at-frame.false (c.at.ensures ∙ e))

pub returns : goal.returns
returns c = c.len.ensures ∙ sym (place_none c.args.frame c.args.list.now (λ j lt. c.loop-place.invariant j (let a = c.loop-place-test.false in let b = c.len-place-end.ensures in omega (arith, a, b, lt))))
