use Rattle.std.proofs.Common.{◌≡◌, All, IfSome, length, map, take}
use Rattle.eleos_host.specs.Blocks.{IsBlock}
use Rattle.eleos_host.specs.Stores.{get_from}
use Rattle.eleos_top.proofs.scenes.blocks_at.Given as goal

-- the blocks so far are what the host has
abbrev pub invariant-loop-place : goal.invariant-loop-place
invariant-loop-place g l = record {
  store : g.P.HostStore.store l.host ≡ g.P.HostStore.store l.fn.host;
  told : IfSome (g.P.HostStore.store l.fn.host) (λ store. l.blocks.items ≡ map (get_from store) (take l.place-index l.places));
  lengths : All IsBlock l.blocks.items;
  count : length l.blocks.items ≡ l.place-index;
}
