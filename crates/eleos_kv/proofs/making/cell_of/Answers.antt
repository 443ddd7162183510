use Rattle.std.proofs.Common.{◌≡◌, ◌+◌, ◌≤◌, ℕ, [], length, refl, sym, ap, ◌∙◌, subst, arith}
use Rattle.eleos_base.specs.Own.{own}
use Rattle.eleos_core.specs.Parts.{Part, Stamp}
use Rattle.eleos_direct.specs.Desks.{calls_made, calls_of}
use Rattle.eleos_machine.specs.Machines.{plan_at}
use Rattle.eleos_machine.specs.Passes.{PassState}
use Rattle.eleos_plot.specs.declared.plot.Ground.{Ground}
use Rattle.eleos_plot.specs.Terms.{core_terms}
use Rattle.eleos_shard.specs.Shards.{ShardState, places_of}
use Rattle.eleos_turn.specs.Hands.{HandState, entries, fresh}
use Rattle.eleos_kv.proofs.making.cell_of.Goals as goal
use Rattle.eleos_kv.proofs.Opening.{new_cell, new_part}

pub invariant_of-result : goal.invariant_of-result
invariant_of-result g c = new_cell g.P.HostPort.gave g.P.HostPort.took c.args._machine.now c.args.pass c.rest.result c.in_ok-shard.shard c.rest.ensures.same c.requires.unused c.requires.caller c.in_ok-shard.ensures.shard

pub returns : goal.returns
returns g c i e = new_part c.args._machine.now c.args.pass c.rest.result c.in_ok-shard.shard i c.rest.ensures.same c.requires.unused e c.in_ok-shard.ensures.empty
