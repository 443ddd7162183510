use Rattle.std.proofs.Common.{refl, []}
use Rattle.eleos_kvwire.specs.declared.stage.HeaderLine.TheVariants.{Title}
use Rattle.eleos_kvwire.specs.declared.stage.Stage.TheVariants as stages
use Rattle.eleos_kvwire.proofs.Steps.{start_not_bad}
use Rattle.eleos_kvwire.proofs.reader.Reader.start.Goals as goal

pub returns : goal.returns
returns c = record {
  count = refl;
  not_bad = rw (c.new.ensures.items, c.new-2.ensures.items) (start_not_bad c.nothing.result 1 [] (stages.Header Title));
  knows = λ rest. rw (c.new.ensures.items, c.new-2.ensures.items, c.nothing.ensures) refl;
}
