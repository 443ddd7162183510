use Rattle.std.proofs.Common.{rules}
use Rattle.std.proofs.lemmas.Iterator.Consumers.{map_from_collect}
use Rattle.std.proofs.lemmas.Result.{IfOk-at_ok}
use Rattle.std.proofs.lemmas.Iterator.Splits.{YieldsList-from_slice_split}
use Rattle.eleos_report.specs.Fields.{is_colon}
use Rattle.eleos_report.proofs.fields.parts_at_colons.Goals as goal

pub returns : goal.returns
returns c = IfOk-at_ok _ c.in_ok-collect.was (map_from_collect _ c.collect.ensures.ran (YieldsList-from_slice_split _ is_colon c.args.text.now c.split.ensures.rest c.split.ensures.done c.split.ensures.closure (λ x b q k. search rules)))
