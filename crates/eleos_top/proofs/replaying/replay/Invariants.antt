use Rattle.std.proofs.Common.{◌≡◌, ◌≤◌, take}
use Rattle.eleos_core.specs.Seals.{seals_by}
use Rattle.eleos_top.specs.Scenes.{opening_of}
use Rattle.eleos_top.proofs.LinesSaid.{IsReplayed}
use Rattle.eleos_top.proofs.replaying.replay.Given as goal

-- the lines so far have been answered and printed
abbrev pub invariant-loop-line : goal.invariant-loop-line
invariant-loop-line g l = record {
  replayed : IsReplayed l.trace.plan (seals_by l.trace.key) (g.P.HostStore.store l.initial.host) (opening_of l.trace) (take l.line-index l.trace.lines) (g.P.HostStore.store l.host) l.session l.text.items;
  sealer : l.session.sealer ≡ l.trace.key;
  stamps : l.session.stamps ≤ l.line-index;
}
