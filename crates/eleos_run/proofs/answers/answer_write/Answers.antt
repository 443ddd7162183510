use Rattle.std.proofs.Common.{◌∙◌, sym, ap, Some}
use Rattle.eleos_base.specs.declared.memory.Addr.{Addr}
use Rattle.eleos_base.specs.declared.memory.Op.TheVariants as ops
use Rattle.eleos_core.specs.declared.event.Event.TheVariants as events
use Rattle.eleos_pages.specs.Crossed.{came}
use Rattle.eleos_base.specs.Answers.{write_reply}
use Rattle.eleos_trace.specs.declared.word.Word.TheVariants as words
use Rattle.eleos_meaning.specs.NameTable.{names_in}
use Rattle.eleos_machine.specs.Machines.{plan_at}
use Rattle.eleos_pages.proofs.Crossing.{nothing_exchanges}
use Rattle.eleos_direct.proofs.Exchanged.{write_exchanges}
use Rattle.eleos_run.proofs.Meanings.{bound_row, means_at, means_none, unbound_row}
use Rattle.eleos_run.proofs.Speaking.{access_call, no_call}
use Rattle.eleos_run.proofs.answers.answer_write.Goals as goal

pub returns-in_default-clause-speaks : goal.returns-in_default-clause-speaks
returns-in_default-clause-speaks g c = let none = (sym c.address_of.ensures ∙ c.in_default.is) in no_call c.args.machine.now (words.Write c.args.name.now c.args.offset c.args.bytes.now) c.skipped.result c.args.pass.now (names_in c.args.names.now) (means_none (plan_at c.args.machine.now) (words.Write c.args.name.now c.args.offset c.args.bytes.now) _ none) (unbound_row _ (names_in c.args.names.now) none)
    c.skipped.ensures.stamp c.skipped.ensures.reply c.requires.can.no_turn

pub returns-clause-speaks : goal.returns-clause-speaks
returns-clause-speaks g c = let found = (sym c.address_of.ensures ∙ c.in-Some.is) in access_call c.args.machine.now (words.Write c.args.name.now c.args.offset c.args.bytes.now) c.stamped.result c.args.pass.now c.write-answer.new.pass (names_in c.args.names.now) (ops.Write c.at_offset-at.result c.args.bytes.now) (came c.write-answer.new.tap) (write_reply c.write-answer.result)
    c.write-answer.ensures.entered (means_at (plan_at c.args.machine.now) (words.Write c.args.name.now c.args.offset c.args.bytes.now) _ _ found ∙ ap (λ (at : Addr). Some (events.Op (ops.Write at c.args.bytes.now))) (sym c.at_offset-at.ensures)) (λ skips. bound_row _ c.in-Some.start _ (names_in c.args.names.now) found skips)
    c.stamped.ensures.stamp (c.stamped.ensures.reply ∙ c.write_answer.ensures)

pub returns-in_default-clause-exchanged : goal.returns-in_default-clause-exchanged
returns-in_default-clause-exchanged g c = nothing_exchanges g.P.HostPort.gave g.P.HostPort.took c.args.machine.now c.args.pass.now

pub returns-clause-exchanged : goal.returns-clause-exchanged
returns-clause-exchanged g c = write_exchanges g.P.HostPort g.P.HostStore c.args.pass.now c.write-answer.new.pass c.args.tap.now c.at_offset-at.result c.args.bytes.now (write_reply c.write-answer.result) c.write-answer.new.tap
    c.args.machine.now c.requires.can.own c.write-answer.ensures
