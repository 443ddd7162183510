use Rattle.std.proofs.Common.{◌≤◌, [], None}
use Rattle.eleos_core.specs.Cells.{sub_parts}
use Rattle.eleos_core.specs.Seals.{seals_by}
use Rattle.eleos_core.proofs.FilledSoFar.{FilledTo, places_to}
use Rattle.eleos_pages.specs.Crossed.{Crosses, HasCome, blocks_below, each_at}
use Rattle.eleos_pages.proofs.fills.fill_bytes.Given as goal

-- the blocks in the first slots came for the sub-pages so far, and were opened into the first pieces of the bytes
abbrev pub invariant-loop-i : goal.invariant-loop-i
invariant-loop-i g l = record {
  few : l.blocks ≤ l.i;
  come : HasCome l.blocks l.tap;
  so_far : FilledTo (seals_by (g.S.Sealer.key l.sealer)) l.page (sub_parts l.subs None) l.i (blocks_below l.blocks l.tap) l.bytes;
  crossed : Crosses g.P.HostPort g.P.HostStore l.initial.tap l.tap
      (each_at (places_to (seals_by (g.S.Sealer.key l.sealer)) l.page (sub_parts l.subs None) l.i) (blocks_below l.blocks l.tap)) [];
}
