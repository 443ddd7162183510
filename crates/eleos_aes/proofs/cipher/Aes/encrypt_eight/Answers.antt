use Rattle.std.proofs.Common.{◌*◌, take, drop, ◌∙◌}
use Rattle.eleos_aes.proofs.KeyWords.{aes_by_words}
use Rattle.eleos_aes.proofs.cipher.Aes.encrypt_eight.Goals as goal

pub returns : goal.returns
returns c b low =
    let words = c.self.inside.words in
    rw (← c.self.view_is)
    (c.encrypt_by.ensures words b c.self.invariant.1 low
    ∙ aes_by_words c.self.inside.key_words words (take 16 (drop (16 * b) c.args.blocks.now)) c.self.invariant.0)
