use Rattle.std.proofs.Common.{◌≡◌}
use Rattle.eleos_pages.specs.Crossed.{blocks_below}
use Rattle.eleos_pages.proofs.filling.add_blocks.Given as goal

-- the blocks so far stand in the draft
abbrev pub invariant-loop-slot : goal.invariant-loop-slot
invariant-loop-slot g l = l.pass ≡ record l.initial.pass { draft = record l.initial.pass.draft { entry = record l.initial.pass.draft.entry { blocks = blocks_below l.slot l.tap } } }
