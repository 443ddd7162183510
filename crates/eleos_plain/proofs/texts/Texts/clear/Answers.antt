use Rattle.std.proofs.Common.{◌≡◌, length, ap, arith}
use Rattle.eleos_plain.specs.Texts.{texts_of}
use Rattle.eleos_plain.proofs.MapTexts.{length-texts, texts-forget}
use Rattle.eleos_plain.proofs.texts.Texts.clear.Goals as goal

pub forget-requires : goal.forget-requires
forget-requires c =
    let many = length-texts c.self.inside.written c.self.inside.count in
    let same : length (texts_of c.self.inside.written c.self.inside.count) ≡ length c.args.self.now = ap length c.self.view_is in
    omega (arith, many, same, c.requires, c.self.ranges.0.1)

pub returns : goal.returns
returns c = rw (← c.self.view_is) (texts-forget c.self.inside.written c.forget.new.written c.args.start c.args.len c.self.inside.count c.forget.ensures)
