use Rattle.std.proofs.Common.{◌≡◌, ◌+◌, ◌-◌, ap, ◌∙◌, bit_xor, take, drop, arith}
use Rattle.std.specs.Simd.Lanes.{zip2}
use Rattle.eleos_gcm.proofs.Counters.{none_yet, one_more, all_done}
use Rattle.eleos_gcm.proofs.counter.gctr.Goals as goal

pub loop-at-init : goal.loop-at-init
loop-at-init c = none_yet c.args.cipher.now c.args.first.now c.args.text.now

pub loop-at-preserved : goal.loop-at-preserved
loop-at-preserved c =
    let key = c.args.cipher.now in
    let at = c.loop-at.at in
    let k = c.min-size.result in
    let width : at + k - at ≡ k = omega arith in
    let is = rw width at c.xor_into.ensures in
    let own = is ∙ ap (λ s. zip2 bit_xor (take k (drop at c.loop-at.text)) (take k s)) c.stream-blocks.ensures.stream in
    rw (width, c.stream-blocks.ensures.counter)
    (one_more key c.args.first.now c.args.text.now c.loop-at.counter c.loop-at.text c.xor_into.new.into at k c.min-size.ensures own
    c.loop-at.invariant)

pub returns : goal.returns
returns c = all_done c.args.cipher.now c.args.first.now c.args.text.now c.loop-at.counter c.loop-at.text c.loop-at.at (omega arith) c.loop-at.invariant
