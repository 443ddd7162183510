use Rattle.std.proofs.Common.{◌≡◌, ◌+◌, ◌≤◌, length, codes}
use Rattle.std.specs.List.{slice_split}
use Rattle.eleos_texts.specs.Fields.{is_newline}
use Rattle.eleos_trace.specs.Blocks.{block_line, AreGoodBlocks}
use Rattle.eleos_trace.specs.WholeHeader.{begins, items_of, blocks_of}
use Rattle.eleos_trace.proofs.header.blocks.blocks_of.Given as goal

-- the blocks so far, behind which the lines that are left give all
abbrev pub invariant-loop-named : goal.invariant-loop-named
invariant-loop-named l = record {
  line : l.line ≡ l.first + length l.named.items;
  good : AreGoodBlocks l.plan l.named.items;
  left : length l.rest ≤ length l.text;
  whole : items_of (λ before words. begins (codes "block") words) (block_line l.plan) l.line l.named.items (slice_split is_newline l.rest) ≡ blocks_of l.plan l.first (slice_split is_newline l.text);
}

abbrev pub decreases-loop-named : goal.decreases-loop-named
decreases-loop-named l = length l.rest
