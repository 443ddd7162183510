use Rattle.eleos_trace.proofs.Words.{next_words-split}
use Rattle.eleos_trace.proofs.header.whole.next_words.Goals as goal

pub returns-clause-given : goal.returns-clause-given
returns-clause-given c = rw (c.in-Some.ensures.parts, c.in_ok-words_of.ensures) (next_words-split c.args.line c.in-Some.front.now c.in-Some.rest.now)
