use Rattle.std.proofs.Common.{◌≡◌, Some, sym, ◌∙◌, ap, subst}
use Rattle.eleos_base.specs.Plain.{lowest_run}
use Rattle.eleos_core.specs.Order.{AreInOrder}
use Rattle.eleos_core.proofs.Numbers.{some_subs}
use Rattle.eleos_core.proofs.OpeningBlocks.{placed_in_order}
use Rattle.eleos_core.proofs.OpeningLists.{on_ok}
use Rattle.eleos_core.proofs.opening.lives.add_header.Goals as goal

pub returns-clause-in_order : goal.returns-clause-in_order
returns-clause-in_order c =
    let found : lowest_run c.args.blocks.now.items c.args.subs c.div_ceil-len.result ≡ Some c.in-Some.start
    = ap (λ bs. lowest_run bs c.args.subs c.div_ceil-len.result) (sym c.deref.ensures.value) ∙ (sym c.lowest_run.ensures ∙ c.in-Some.is) in
    on_ok c.add_block.result (λ is. subst (AreInOrder 0 c.args.subs) (sym is)
    (placed_in_order c.args.subs c.div_ceil-len.result c.in-Some.start _ _ c.args.blocks.now.items
    (some_subs c.args.block.now.bytes c.div_ceil-len.result c.div_ceil-len.ensures c.requires.some) c.requires.in_order found)) c.add_block.ensures.ok
