use Rattle.std.proofs.Common.{◌∙◌, sym}
use Rattle.eleos_alloc.specs.Changes.{call_of}
use Rattle.eleos_base.specs.Answers.{block_reply}
use Rattle.eleos_meaning.specs.NameTable.{names_in}
use Rattle.eleos_machine.specs.Machines.{plan_at}
use Rattle.eleos_run.specs.Steps.{word_of}
use Rattle.eleos_run.proofs.Meanings.{change_at, change_bound, change_none, change_unbound}
use Rattle.eleos_run.proofs.Speaking.{block_call, no_call}
use Rattle.eleos_run.proofs.answers.answer_change.Goals as goal

pub returns-in_default : goal.returns-in_default
returns-in_default g c = let none = (sym c.address_of.ensures ∙ c.in_default.is) in let names = names_in c.args.names.now in
    no_call c.args.machine.now (word_of c.args.change c.args.name.now) c.skipped.result c.args.pass.now names (change_none (plan_at c.args.machine.now) c.args.change c.args.name.now names none)
    (change_unbound _ c.args.change c.args.name.now names none) c.skipped.ensures.stamp c.skipped.ensures.reply c.requires.can.no_turn

pub returns : goal.returns
returns g c = let found = (sym c.address_of.ensures ∙ c.in-Some.is) in let names = names_in c.args.names.now in
    block_call c.args.machine.now (word_of c.args.change c.args.name.now) c.stamped.result c.args.pass.now c.change_block-answer.new.pass names names (call_of c.args.change c.in-Some.at) (block_reply c.change_block-answer.result)
    c.change_block-answer.ensures.one c.requires.can.no_turn (change_at (plan_at c.args.machine.now) c.args.change c.args.name.now names c.in-Some.at found)
    (λ skips. change_bound _ c.args.change c.args.name.now names c.in-Some.at _ found skips) c.stamped.ensures.stamp (c.stamped.ensures.reply ∙ c.block_answer.ensures)
