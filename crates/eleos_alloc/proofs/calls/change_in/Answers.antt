use Rattle.std.proofs.Common.{sym, ◌∙◌, ap, arith}
use Rattle.eleos_base.specs.declared.memory.Reply.{Reply}
use Rattle.eleos_alloc.proofs.Calling.{drafted}
use Rattle.eleos_alloc.proofs.Changing.{can_change_at, changed_at, may_refuse_at, refused_at, small_run}
use Rattle.eleos_alloc.specs.Changes.{call_of}
use Rattle.eleos_alloc.proofs.calls.change_in.Goals as goal

pub stamp-requires-clause-may : goal.stamp-requires-clause-may
stamp-requires-clause-may g c =
    may_refuse_at c.args.m.now c.args.enclave c.args.pass.now c.args.blocks.now c.plan-plan.ensures.made c.requires.can c.args.at c.args.change c.block_at-found.result c.len_of-len.result c.who.result
    c.block_at-found.ensures c.len_of-len.ensures c.who.ensures _ (sym c.in-Err.ensures.refused) c.draft_change.new.pass
    (c.draft_change.ensures ∙ ap (λ (reply : Reply). drafted c.args.pass.now (call_of c.args.change c.args.at) reply c.len_of-len.result) c.reply_to.ensures.reply)

pub returns-in-Err-clause-one : goal.returns-in-Err-clause-one
returns-in-Err-clause-one g c =
    (refused_at c.args.m.now c.args.enclave c.args.pass.now c.args.blocks.now c.plan-plan.ensures.made c.requires.can c.args.at c.args.change c.block_at-found.result c.len_of-len.result c.who.result
    c.block_at-found.ensures c.len_of-len.ensures c.who.ensures _ (sym c.in-Err.ensures.refused) c.draft_change.new.pass c.stamp.new.pass c.stamp.result
    (c.draft_change.ensures ∙ ap (λ (reply : Reply). drafted c.args.pass.now (call_of c.args.change c.args.at) reply c.len_of-len.result) c.reply_to.ensures.reply) c.stamp.ensures.stamped).0

pub returns-in-Err-clause-blocks : goal.returns-in-Err-clause-blocks
returns-in-Err-clause-blocks g c =
    (refused_at c.args.m.now c.args.enclave c.args.pass.now c.args.blocks.now c.plan-plan.ensures.made c.requires.can c.args.at c.args.change c.block_at-found.result c.len_of-len.result c.who.result
    c.block_at-found.ensures c.len_of-len.ensures c.who.ensures _ (sym c.in-Err.ensures.refused) c.draft_change.new.pass c.stamp.new.pass c.stamp.result
    (c.draft_change.ensures ∙ ap (λ (reply : Reply). drafted c.args.pass.now (call_of c.args.change c.args.at) reply c.len_of-len.result) c.reply_to.ensures.reply) c.stamp.ensures.stamped).1

pub overflow_add-run : goal.overflow_add-run
overflow_add-run g c =
    let small = small_run c.args.m.now c.args.enclave c.args.pass.now c.args.blocks.now c.plan-plan.ensures.made c.requires.can c.args.at c.args.change c.block_at-found.result c.len_of-len.result c.who.result
    c.block_at-found.ensures c.len_of-len.ensures c.who.ensures c.in-Ok.block c.in-Ok.ensures.found (sym c.in-Ok.ensures.refused) c.plan-plan.result.now c.first_sub.result c.plan-plan.ensures.plan c.first_sub.ensures in
    omega arith

pub stamp_with_pages-requires-clause-can : goal.stamp_with_pages-requires-clause-can
stamp_with_pages-requires-clause-can g c =
    can_change_at c.args.m.now c.args.enclave c.args.pass.now c.args.blocks.now c.plan-plan.ensures.made c.requires.can c.args.at c.args.change c.block_at-found.result c.len_of-len.result c.who.result
    c.block_at-found.ensures c.len_of-len.ensures c.who.ensures c.in-Ok.block c.in-Ok.ensures.found (sym c.in-Ok.ensures.refused) c.plan-plan.result.now c.first_sub.result c.plan-plan.ensures.plan c.first_sub.ensures
    c.draft_change-2.new.pass c.first_page.result c.mark.result c.draft_change-2.ensures c.first_page.ensures c.mark.ensures

pub returns-clause-one : goal.returns-clause-one
returns-clause-one g c =
    (changed_at c.args.m.now c.args.enclave c.args.pass.now c.args.blocks.now c.plan-plan.ensures.made c.requires.can c.args.at c.args.change c.block_at-found.result c.len_of-len.result c.who.result
    c.block_at-found.ensures c.len_of-len.ensures c.who.ensures c.in-Ok.block c.in-Ok.ensures.found (sym c.in-Ok.ensures.refused) c.plan-plan.result.now c.first_sub.result c.plan-plan.ensures.plan c.first_sub.ensures
    c.draft_change-2.new.pass c.stamp_with_pages.new.pass c.apply.new.blocks c.draft_change-2.ensures c.stamp_with_pages.ensures c.apply.ensures).0

pub returns-clause-blocks : goal.returns-clause-blocks
returns-clause-blocks g c =
    (changed_at c.args.m.now c.args.enclave c.args.pass.now c.args.blocks.now c.plan-plan.ensures.made c.requires.can c.args.at c.args.change c.block_at-found.result c.len_of-len.result c.who.result
    c.block_at-found.ensures c.len_of-len.ensures c.who.ensures c.in-Ok.block c.in-Ok.ensures.found (sym c.in-Ok.ensures.refused) c.plan-plan.result.now c.first_sub.result c.plan-plan.ensures.plan c.first_sub.ensures
    c.draft_change-2.new.pass c.stamp_with_pages.new.pass c.apply.new.blocks c.draft_change-2.ensures c.stamp_with_pages.ensures c.apply.ensures).1
