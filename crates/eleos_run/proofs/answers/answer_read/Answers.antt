use Rattle.std.proofs.Common.{◌≡◌, ◌∙◌, sym, ap, length, take, drop, ◌++◌, Some, [], List, ℕ}
use Rattle.std.proofs.Math.Seq.{take-append_seam}
use Rattle.eleos_base.specs.declared.memory.Addr.{Addr}
use Rattle.eleos_base.specs.declared.memory.Op.TheVariants as ops
use Rattle.eleos_base.specs.declared.memory.Reply.TheVariants as replies
use Rattle.eleos_core.specs.declared.event.Event.TheVariants as events
use Rattle.eleos_pages.specs.Crossed.{came}
use Rattle.eleos_base.specs.Answers.{read_reply}
use Rattle.eleos_trace.specs.declared.word.Word.TheVariants as words
use Rattle.eleos_meaning.specs.Calls.{answer_of}
use Rattle.eleos_meaning.specs.NameTable.{names_in}
use Rattle.eleos_machine.specs.Machines.{plan_at}
use Rattle.eleos_pages.proofs.Crossing.{nothing_exchanges}
use Rattle.eleos_direct.proofs.Exchanged.{read_exchanges}
use Rattle.eleos_run.proofs.Crossing.{refused_exchanges}
use Rattle.eleos_run.proofs.Meanings.{bound_row, means_at, means_none, unbound_row}
use Rattle.eleos_run.proofs.Speaking.{access_call, no_call}
use Rattle.eleos_run.proofs.answers.answer_read.Goals as goal

pub returns-in_default-clause-speaks : goal.returns-in_default-clause-speaks
returns-in_default-clause-speaks g c = let none = (sym c.address_of.ensures ∙ c.in_default.is) in no_call c.args.machine.now (words.Read c.args.name.now c.args.offset c.args.len) c.skipped.result c.args.pass.now (names_in c.args.names.now) (means_none (plan_at c.args.machine.now) (words.Read c.args.name.now c.args.offset c.args.len) _ none) (unbound_row _ (names_in c.args.names.now) none)
    c.skipped.ensures.stamp c.skipped.ensures.reply c.requires.can.no_turn

pub returns-then-len-gt-MOST_TEXT-clause-speaks : goal.returns-then-len-gt-MOST_TEXT-clause-speaks
returns-then-len-gt-MOST_TEXT-clause-speaks g c = let found = (sym c.address_of.ensures ∙ c.in-Some.is) in access_call c.args.machine.now (words.Read c.args.name.now c.args.offset c.args.len) c.stamped.result c.args.pass.now c.refuse_read.new.pass (names_in c.args.names.now) (ops.Read c.at_offset-at.result c.args.len) [] replies.BadRange
    c.refuse_read.ensures (means_at (plan_at c.args.machine.now) (words.Read c.args.name.now c.args.offset c.args.len) _ _ found ∙ ap (λ (at : Addr). Some (events.Op (ops.Read at c.args.len))) (sym c.at_offset-at.ensures)) (λ skips. bound_row _ c.in-Some.start (answer_of replies.BadRange []) (names_in c.args.names.now) found skips) c.stamped.ensures.stamp c.stamped.ensures.reply

pub returns-clause-speaks : goal.returns-clause-speaks
returns-clause-speaks g c = let found = (sym c.address_of.ensures ∙ c.in-Some.is) in let long : length c.deref_mut.result.now ≡ c.args.len = ap length c.deref_mut.ensures.value ∙ c.zeros_in-text.ensures.len in
    let new : List ℕ = c.read-answer.new.buf in let old : List ℕ = c.zeros_in-text.result.items in
    let text : take c.zeros_in-text.result.len (new ++ drop (length new) old) ≡ new = ap (λ (m : ℕ). take m (new ++ drop (length new) old)) (sym (c.read-answer.auto.buf ∙ c.deref_mut.ensures.len)) ∙ take-append_seam new (drop (length new) old) in
    access_call c.args.machine.now (words.Read c.args.name.now c.args.offset c.args.len) c.stamped-2.result c.args.pass.now c.read-answer.new.pass (names_in c.args.names.now) (ops.Read c.at_offset-at.result (length c.deref_mut.result.now)) (came c.read-answer.new.tap) (read_reply c.read-answer.result c.read-answer.new.buf)
    c.read-answer.ensures.accessed.entered (means_at (plan_at c.args.machine.now) (words.Read c.args.name.now c.args.offset c.args.len) _ _ found ∙ (λ i. Some (events.Op (ops.Read (sym c.at_offset-at.ensures i) (sym long i))))) (λ skips. bound_row _ c.in-Some.start _ (names_in c.args.names.now) found skips)
    c.stamped-2.ensures.stamp (c.stamped-2.ensures.reply ∙ (c.read_answer.ensures ∙ ap (λ (z : List ℕ). answer_of (read_reply c.read-answer.result z) (came c.read-answer.new.tap)) text))

pub returns-in_default-clause-exchanged : goal.returns-in_default-clause-exchanged
returns-in_default-clause-exchanged g c = nothing_exchanges g.P.HostPort.gave g.P.HostPort.took c.args.machine.now c.args.pass.now

pub returns-then-len-gt-MOST_TEXT-clause-exchanged : goal.returns-then-len-gt-MOST_TEXT-clause-exchanged
returns-then-len-gt-MOST_TEXT-clause-exchanged g c = refused_exchanges g.P.HostPort.gave g.P.HostPort.took c.args.machine.now c.args.pass.now c.refuse_read.new.pass c.at_offset-at.result c.args.len replies.BadRange c.refuse_read.ensures

pub returns-clause-exchanged : goal.returns-clause-exchanged
returns-clause-exchanged g c = read_exchanges g.P.HostPort g.P.HostStore c.args.pass.now c.read-answer.new.pass c.args.tap.now c.at_offset-at.result (length c.deref_mut.result.now) (read_reply c.read-answer.result c.read-answer.new.buf) c.read-answer.new.tap
    c.args.machine.now c.requires.can.own c.read-answer.ensures.accessed
