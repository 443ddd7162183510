use Rattle.std.proofs.Common.{◌∙◌}
use Rattle.eleos_spointer.proofs.Quieting.{seen_present}
use Rattle.eleos_spointer.proofs.bringing.is_present.Goals as goal

pub returns : goal.returns
returns c = c.is_some.ensures ∙ seen_present c.args._pass.now c.args.page.now.page c.args.page.now.cell c.in-Page.page c.requires c.in-Page.is
