use Rattle.std.proofs.Common.{◌∙◌, ap}
use Rattle.eleos_machine.specs.Passes.{PassState}
use Rattle.eleos_pages.specs.Crossed.{blocks_below}
use Rattle.eleos_spointer.proofs.bringing.draft_spoiled.Goals as goal

pub add_blocks-requires-clause-none : goal.add_blocks-requires-clause-none
add_blocks-requires-clause-none g c = ap (λ (y : PassState). y.draft.entry.blocks) c.set.ensures

pub returns : goal.returns
returns g c = c.add_blocks.ensures ∙ ap (λ (y : PassState). record y { draft = record y.draft { entry = record y.draft.entry { blocks = blocks_below c.args.count c.args.tap.now } } }) c.set.ensures
