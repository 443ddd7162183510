use Rattle.std.proofs.Common.{◌≡◌, ◌≤◌, ◌<◌, ℕ, [], length, map, take, get_or, None}
use Rattle.eleos_base.specs.Lists.{map_from}
use Rattle.eleos_core.specs.declared.cells.sub_page.SubPage.{SubPage}
use Rattle.eleos_core.specs.Cells.{part_with, piece}
use Rattle.eleos_core.specs.Evicts.{sealed_blocks, sealed_sub}
use Rattle.eleos_core.specs.Seals.{seals_by}
use Rattle.eleos_core.proofs.Pieces.{blank, parts_with}
use Rattle.eleos_pages.specs.Crossed.{Crosses}
use Rattle.eleos_pages.proofs.evicts.evict_bytes.Given as goal

-- the sub-pages so far are sealed and their blocks are with the host; the others and their pieces are as at first
abbrev pub invariant-loop-i : goal.invariant-loop-i
invariant-loop-i g l = record {
  count : length l.subs ≡ length l.initial.subs;
  size : length l.bytes ≡ length l.initial.bytes;
  sealed : map (λ (u : SubPage). part_with u []) (take l.i l.subs)
      ≡ map_from (sealed_sub (seals_by (g.S.Sealer.key l.sealer))) l.first (take l.i (parts_with l.initial.bytes l.initial.subs));
  subs : (j : ℕ) → l.i ≤ j → get_or l.subs j blank ≡ get_or l.initial.subs j blank;
  pieces : (j : ℕ) → l.i ≤ j → j < 4 → piece j l.bytes ≡ piece j l.initial.bytes;
  crossed : Crosses g.P.HostPort g.P.HostStore l.initial.tap l.tap []
      (sealed_blocks (seals_by (g.S.Sealer.key l.sealer)) l.first (take l.i (parts_with l.initial.bytes l.initial.subs)));
  sent : l.gone ≡ length (sealed_blocks (seals_by (g.S.Sealer.key l.sealer)) l.first (take l.i (parts_with l.initial.bytes l.initial.subs)));
  few : l.gone ≤ l.i;
  passed : l.tap.failed ≡ None;
}
