use Rattle.std.proofs.Common.{◌≡◌, map}
use Rattle.eleos_trace.proofs.reading.parted.Given as goal

-- the parts of those that came
abbrev pub invariant-loop-named : goal.invariant-loop-named
invariant-loop-named l = record {
  names : l.names.items ≡ map (λ named. named.name) l.yielded;
  blocks : l.blocks.items ≡ map (λ named. named.block) l.yielded;
}
