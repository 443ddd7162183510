use Rattle.std.proofs.Common.{◌≡◌, map, option_map, take}
use Rattle.eleos_core.specs.Applying.{put_of}
use Rattle.eleos_top.specs.Replays.{store_with}
use Rattle.eleos_top.proofs.scenes.put_blocks.Given as goal

-- the host has the blocks so far
abbrev pub invariant-loop-put : goal.invariant-loop-put
invariant-loop-put g l = g.P.HostStore.store l.host ≡ option_map (λ store. store_with store (map put_of (take l.put-index l.puts))) (g.P.HostStore.store l.fn.host)
