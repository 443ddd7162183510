use Rattle.std.proofs.Common.{◌≡◌, ◌+◌, ◌-◌, ◌*◌, length, refl, ap, ◌∙◌, arith, inl, inr}
use Rattle.std.proofs.lemmas.Bool.{cases_eq}
use Rattle.eleos_base.specs.AesCipher.{aes}
use Rattle.eleos_base.specs.Gcm.{inc32}
use Rattle.eleos_lanes.proofs.Mirrors.{row_written, row_kept, length-row_written}
use Rattle.eleos_gcm.specs.Stream.{later}
use Rattle.eleos_gcm.proofs.Counters.{later_next, stream_rows}
use Rattle.eleos_gcm.proofs.counter.stream.Goals as goal

pub loop-k-init : goal.loop-k-init
unfolding later
loop-k-init c = (refl, c.told-counter, refl, (λ j none. absurd (omega arith)))

pub loop-k-preserved : goal.loop-k-preserved
loop-k-preserved c =
    let k = c.loop-k.k in
    let all = c.loop-k.counters in
    let row = c.copy_from_slice.new.self in
    let i = c.loop-k.invariant in
    let is = c.copy_from_slice.ensures.after in
    let long : length row ≡ 16 = ap length is ∙ i.1 in
    let width : 16 * k + 16 - 16 * k ≡ 16 = omega arith in
    rw width (
      length-row_written all row k (omega arith) long ∙ i.0,
      c.inc32.array_long,
      c.inc32.ensures ∙ ap inc32 i.2 ∙ later_next k c.args.counter.now,
      (λ j below. elim (cases_eq j k) [
        | inl same ↦ rw same (row_written all row k (omega arith) long ∙ is ∙ i.2)
        | inr other ↦ row_kept all row j k (omega arith) (omega arith) ∙ i.3 j (omega arith)
      ]),
    )

pub returns-clause-stream : goal.returns-clause-stream
returns-clause-stream c =
    let key = c.args.cipher.now in
    stream_rows key 8 c.encrypt_eight.new.blocks c.args.counter.now c.encrypt_eight.array_long
    (λ i below. c.encrypt_eight.ensures i below ∙ ap (aes key) (c.loop-k.invariant.3 i (omega arith)))

pub returns-clause-counter : goal.returns-clause-counter
returns-clause-counter c =
    let done : c.loop-k.k ≡ 8 = omega arith in
    c.loop-k.invariant.2 ∙ ap (λ n. later n c.args.counter.now) done
