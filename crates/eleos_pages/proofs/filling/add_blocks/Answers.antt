use Rattle.std.proofs.Common.{◌≡◌, ℕ, zero, suc, ◌+◌, List, length, ◌∙◌, ap, refl, arith, length-append}
use Rattle.eleos_host.specs.Taps.{TapState}
use Rattle.eleos_machine.specs.Passes.{PassState}
use Rattle.eleos_plot.specs.Entries.{with_block}
use Rattle.eleos_pages.specs.Crossed.{blocks_below}
use Rattle.eleos_pages.proofs.filling.add_blocks.Goals as goal

-- there are as many blocks as slots
length-below : {P : Type 0} (n : ℕ) (tap : TapState P) → length (blocks_below n tap) ≡ n
length-below zero tap = refl
length-below (suc n) tap = let rest = length-below n tap in omega (arith, rest, length-append {A = List ℕ})

-- the pass with these blocks in its draft
abbrev with_blocks : PassState → List (List ℕ) → PassState
with_blocks s blocks = record s { draft = record s.draft { entry = record s.draft.entry { blocks = blocks } } }

pub loop-slot-init : goal.loop-slot-init
loop-slot-init g c = ap (with_blocks c.args.pass.now) c.requires.none

pub add_block-requires-clause-room : goal.add_block-requires-clause-room
add_block-requires-clause-room g c =
    let few = c.requires.few in
    let same : length c.loop-slot.pass.draft.entry.blocks ≡ c.loop-slot.slot = ap (λ (y : PassState). length y.draft.entry.blocks) c.loop-slot.invariant ∙ length-below c.loop-slot.slot c.args.tap.now in
    omega arith

pub loop-slot-preserved : goal.loop-slot-preserved
loop-slot-preserved g c =
    c.add_block.ensures
    ∙ ((λ i. record (c.loop-slot.invariant i) { draft = with_block (c.loop-slot.invariant i).draft (c.block.ensures.bytes i) })
    ∙ ap (λ (n : ℕ). with_blocks c.args.pass.now (blocks_below n c.args.tap.now)) (let one : suc c.loop-slot.slot ≡ c.loop-slot.slot + 1 = omega arith in one))
