use Rattle.std.proofs.Common.{◌≡◌, [], map, take}
use Rattle.eleos_base.specs.Lists.{map_from}
use Rattle.eleos_core.specs.Applying.{put_of}
use Rattle.eleos_core.specs.Cells.{part_with}
use Rattle.eleos_core.specs.Evicts.{sealed_blocks, sealed_sub}
use Rattle.eleos_core.specs.Seals.{seals_by}
use Rattle.eleos_core.specs.declared.cells.sub_page.SubPage.{SubPage}
use Rattle.eleos_core.proofs.Pieces.{parts_with}
use Rattle.eleos_core.proofs.evicts.sealing.seal_subs.Given as goal

-- the sub-pages so far are sealed, and their blocks are those for the host
abbrev pub invariant-loop-i : goal.invariant-loop-i
invariant-loop-i g l = record {
  subs : map (λ (u : SubPage). part_with u []) l.next.items ≡ map_from (sealed_sub (seals_by (g.S.Sealer.key l.sealer))) l.first (take l.i (parts_with l.bytes l.subs));
  puts : map put_of l.puts.items ≡ sealed_blocks (seals_by (g.S.Sealer.key l.sealer)) l.first (take l.i (parts_with l.bytes l.subs));
}
