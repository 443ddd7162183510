use Rattle.std.proofs.Common.{◌≡◌, ◌-◌, ◌*◌, ◌/◌, min, length, drop, arith, length-drop}
use Rattle.std.proofs.lemmas.List.{take_rest}
use Rattle.eleos_gcm.proofs.Padding.{padded_block}
use Rattle.eleos_gcm.proofs.hash.block_at.Goals as goal

pub returns : goal.returns
returns c =
    let bytes = c.args.bytes.now in
    let i = c.args.at / 16 in
    let place : 16 * (c.args.at / 16) ≡ c.args.at = omega arith in
    let size : c.min-size.result ≡ min (length (drop c.args.at bytes)) 16 = rw (take_rest bytes c.args.at) at c.min-size.ensures in
    let width : c.min-size.result ≡ min (length bytes - 16 * i) 16 = omega (arith, size, length-drop c.args.at bytes) in
    let block = padded_block bytes i c.min-size.result (omega arith) width in
    rw (c.copy_from_slice.ensures.after, take_rest bytes c.args.at) (rw place at block)
