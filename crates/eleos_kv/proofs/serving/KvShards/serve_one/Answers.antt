use Rattle.std.proofs.Common.{◌≡◌, ◌<◌, ℕ, ◌%◌, List, length, IfOk, OnErr, Ok, Err, ◌∙◌, sym, subst, arith}
use Rattle.std.specs.List.{sum}
use Rattle.std.proofs.Math.Nat.{mod-lt}
use Rattle.eleos_kvwire.specs.declared.trace.KvAct.{KvAct}
use Rattle.eleos_kvwire.specs.declared.trace.KvCommand.{KvCommand}
use Rattle.eleos_kvwire.specs.Sessions.{key_of}
use Rattle.eleos_shard.specs.Maps.{shard_of}
use Rattle.eleos_kv.specs.Cells.{shard_part}
use Rattle.eleos_kv.specs.Serving.{CanServe, HasServed, IsKv, KvHandState, KvState}
use Rattle.eleos_kv.specs.Terms.{Takes}
use Rattle.eleos_kv.proofs.Turns.{given_part, has_served, has_waited, may_stamp, taken_home, taken_left}
use Rattle.eleos_kv.proofs.serving.KvShards.serve_one.Goals as goal

-- the cell is that of the key's shard
the_cell : (s : KvState) (act : KvAct) (key : List ℕ) (cell shards : ℕ) → cell ≡ shard_of shards key → key ≡ key_of act → shards ≡ s.all.base.grounds → cell ≡ shard_of s.all.base.grounds (key_of act)
the_cell s act key cell shards e a b = e ∙ (λ i. shard_of (b i) (a i))

below : (s : KvState) (act : KvAct) (cell : ℕ) → IsKv s → cell ≡ shard_of s.all.base.grounds (key_of act) → cell < length s.all.base.opening
below s act cell kv e = let some = kv.some in let all = kv.shards in let lt = mod-lt (sum (key_of act)) {m = s.all.base.grounds} (omega (arith, some, all)) in omega (arith, e, all, lt)

can_serve : (s z : KvState) (h : KvHandState) (command other : KvCommand) → s ≡ z → command ≡ other → CanServe z h other → CanServe s h command
can_serve s z h command other e f can = subst (λ (y : KvState × KvCommand). CanServe y.0 h y.1) (λ i. (sym e i, sym f i)) can

pub answer-value-requires-clause-home : goal.answer-value-requires-clause-home
answer-value-requires-clause-home g c =
    let s : KvState = record { machine = c.self.inside.machine; all = c.self.inside.all } in let command = c.in_ok-command.command in let cell = c.shard_of-cell.result in
    let can = can_serve s c.args.self.now c.args.hand.now command c.args.command.now c.self.view_is c.in_ok-command.ensures c.requires in
    let is = the_cell s command.act c.key_of.result.now cell c.self.inside.shards c.shard_of-cell.ensures c.key_of.ensures c.self.invariant.1 in
    taken_home s command c.args.hand.now c.take-value.new.hand c.take-value.result.value cell c.take-value.result.word c.self.invariant.0 can is c.take-value.ensures.took c.take-value.ensures.sound (below s command.act cell c.self.invariant.0 is)

pub answer-value-requires-clause-left : goal.answer-value-requires-clause-left
answer-value-requires-clause-left g c =
    let s : KvState = record { machine = c.self.inside.machine; all = c.self.inside.all } in let command = c.in_ok-command.command in let cell = c.shard_of-cell.result in
    let can = can_serve s c.args.self.now c.args.hand.now command c.args.command.now c.self.view_is c.in_ok-command.ensures c.requires in
    let is = the_cell s command.act c.key_of.result.now cell c.self.inside.shards c.shard_of-cell.ensures c.key_of.ensures c.self.invariant.1 in
    taken_left s command c.args.hand.now c.take-value.new.hand c.take-value.result.value cell c.take-value.result.word c.self.invariant.0 can is c.take-value.ensures.took c.take-value.ensures.sound (below s command.act cell c.self.invariant.0 is)

pub enter-stamp-requires-clause-can : goal.enter-stamp-requires-clause-can
enter-stamp-requires-clause-can g c =
    let s : KvState = record { machine = c.self.inside.machine; all = c.self.inside.all } in let command = c.in_ok-command.command in let cell = c.shard_of-cell.result in
    let can = can_serve s c.args.self.now c.args.hand.now command c.args.command.now c.self.view_is c.in_ok-command.ensures c.requires in
    let is = the_cell s command.act c.key_of.result.now cell c.self.inside.shards c.shard_of-cell.ensures c.key_of.ensures c.self.invariant.1 in
    let takes = subst (λ r. IfOk r (λ reply. Takes command.act reply (shard_part c.take-value.result.value) (shard_part c.answer-value.result.cell))) c.in-Ok.is c.answer-value.ensures.takes in
    may_stamp s command c.args.hand.now c.take-value.new.hand c.take-value.result.value cell c.take-value.result.word c.self.invariant.0 can is c.take-value.ensures.took c.take-value.ensures.sound c.in-Ok.reply c.answer-value.result.cell takes

pub give-requires-clause-right : goal.give-requires-clause-right
give-requires-clause-right g c =
    let s : KvState = record { machine = c.self.inside.machine; all = c.self.inside.all } in let command = c.in_ok-command.command in let cell = c.shard_of-cell.result in
    let can = can_serve s c.args.self.now c.args.hand.now command c.args.command.now c.self.view_is c.in_ok-command.ensures c.requires in
    let is = the_cell s command.act c.key_of.result.now cell c.self.inside.shards c.shard_of-cell.ensures c.key_of.ensures c.self.invariant.1 in
    let takes = subst (λ r. IfOk r (λ reply. Takes command.act reply (shard_part c.take-value.result.value) (shard_part c.answer-value.result.cell))) c.in-Ok.is c.answer-value.ensures.takes in
    given_part s command c.args.hand.now c.take-value.new.hand c.take-value.result.value cell c.take-value.result.word c.self.invariant.0 can is c.take-value.ensures.took c.take-value.ensures.sound c.in-Ok.reply c.answer-value.result.cell takes
    c.enter-stamp.new.hand c.enter-stamp.result c.enter-stamp.ensures.stamped

pub returns-in-Ok-clause-served : goal.returns-in-Ok-clause-served
returns-in-Ok-clause-served g c =
    let s : KvState = record { machine = c.self.inside.machine; all = c.self.inside.all } in let command = c.in_ok-command.command in let cell = c.shard_of-cell.result in
    let can = can_serve s c.args.self.now c.args.hand.now command c.args.command.now c.self.view_is c.in_ok-command.ensures c.requires in
    let is = the_cell s command.act c.key_of.result.now cell c.self.inside.shards c.shard_of-cell.ensures c.key_of.ensures c.self.invariant.1 in
    let takes = subst (λ r. IfOk r (λ reply. Takes command.act reply (shard_part c.take-value.result.value) (shard_part c.answer-value.result.cell))) c.in-Ok.is c.answer-value.ensures.takes in
    subst (λ (z : KvCommand). HasServed c.args.hand.now z c.in-Ok.reply c.enter-stamp.result c.give.new.hand) c.in_ok-command.ensures
    (has_served s command c.args.hand.now c.take-value.new.hand c.take-value.result.value cell c.take-value.result.word c.self.invariant.0 can is c.take-value.ensures.took c.take-value.ensures.sound c.in-Ok.reply c.answer-value.result.cell takes
    c.enter-stamp.new.hand c.enter-stamp.result c.enter-stamp.ensures.stamped c.give.new.hand c.give.ensures.given)

pub returns-in-Err-clause-waited : goal.returns-in-Err-clause-waited
returns-in-Err-clause-waited g c =
    let s : KvState = record { machine = c.self.inside.machine; all = c.self.inside.all } in let command = c.in_ok-command.command in let cell = c.shard_of-cell.result in
    let can = can_serve s c.args.self.now c.args.hand.now command c.args.command.now c.self.view_is c.in_ok-command.ensures c.requires in
    let is = the_cell s command.act c.key_of.result.now cell c.self.inside.shards c.shard_of-cell.ensures c.key_of.ensures c.self.invariant.1 in
    has_waited s command c.args.hand.now c.take-value.new.hand c.take-value.result.value cell c.take-value.result.word c.self.invariant.0 can is c.take-value.ensures.took c.take-value.ensures.sound c.give-in-Err.new.hand c.give-in-Err.ensures.given
