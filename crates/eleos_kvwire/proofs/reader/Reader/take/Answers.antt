use Rattle.std.proofs.Common.{◌<◌, arith}
use Rattle.eleos_kvwire.proofs.Fed.{too_many, reaches}
use Rattle.eleos_kvwire.proofs.reader.Reader.take.Goals as goal

pub returns-then-self-eq-MOST_TEXT : goal.returns-then-self-eq-MOST_TEXT
returns-then-self-eq-MOST_TEXT c = λ bytes has. too_many bytes c.args.self.now has c.args.byte c.if-self-eq-MOST_TEXT.true

pub returns : goal.returns
returns c = λ bytes has.
    let room : c.args.self.now.bytes < 16777216 = omega arith in
    reaches bytes c.args.self.now has c.args.byte c.read.result c.read.new.self room c.read.ensures.bytes (c.read.ensures.goes_on has.not_bad) c.read.ensures.not_bad
