use Rattle.std.proofs.Common.{◌≡◌, ◌+◌, ◌*◌, ◌-◌, ◌≤◌, length, slice_index, ◌∙◌, sym, subst, arith}
use Rattle.eleos_base.specs.Places.{all_pages}
use Rattle.eleos_core.proofs.Offending.{link_here}
use Rattle.eleos_core.proofs.machine.Core.is_linked.Goals as goal

pub returns-then-index-ne0-clause-linked : goal.returns-then-index-ne0-clause-linked
returns-then-index-ne0-clause-linked c =
    let exists = rw (← c.self.view_is) at c.requires in
    let here = link_here c.self.inside.links.items c.loop-caller.caller (all_pages c.self.inside.plan) c.args.page (length c.self.inside.plan.callers) c.len.result c.index.result.now
    c.index.ensures c.if-index-ne0.true (c.len.ensures ∙ (c.self.inside.pages.ok.0 ∙ c.self.invariant.pages_are)) (omega arith) exists c.self.invariant.links_are in
    let place : c.loop-caller.caller + 1 - 1 ≡ c.loop-caller.caller = omega arith in
    rw (← c.self.view_is) (
      c.loop-caller.caller + 1,
      record { from_one = omega arith; within = omega arith },
      subst (λ i. 1 ≤ slice_index c.self.inside.links.items (i * all_pages c.self.inside.plan + c.args.page)) (sym place) here,
    )
