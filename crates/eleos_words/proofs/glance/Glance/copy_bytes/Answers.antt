use Rattle.std.proofs.Common.{◌*◌, ◌<◌, length, arith}
use Rattle.eleos_words.proofs.Copying.{filling-more}
use Rattle.eleos_words.proofs.glance.Glance.copy_bytes.Goals as goal

pub loop-j-preserved : goal.loop-j-preserved
loop-j-preserved g c =
    let room : 8 * c.loop-j.j < length c.args.buf.now = omega (arith, c.words_for-j-end.ensures) in
    filling-more g.P.RingPort c.args.self.now c.loop-j.self c.word.new.self c.args.buf.now c.loop-j.buf c.put_word.new.buf c.loop-j.j c.word.result c.loop-j.invariant
    room c.word.ensures.port c.word.ensures.copies c.put_word.ensures
