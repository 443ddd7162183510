use Rattle.eleos_words.proofs.ByteWords.{put_split}
use Rattle.eleos_words.proofs.bytes.put_word.Goals as goal

pub returns : goal.returns
returns c = put_split c.args.buf.now _ _ c.args.j c.args.word c.split_at_mut-rest.ensures.front c.split_at_mut-rest.ensures.back c.put_front.ensures
