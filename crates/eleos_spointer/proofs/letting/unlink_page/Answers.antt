use Rattle.std.proofs.Common.{◌≡◌, ℕ, ◌<◌, length, sym, ◌∙◌, ap, subst, arith}
use Rattle.eleos_base.specs.declared.plan.Plan.{Plan}
use Rattle.eleos_base.specs.Places.{all_pages}
use Rattle.eleos_base.specs.Plans.{IsCaller, IsGood, enclave_of}
use Rattle.eleos_core.specs.Parts.{page_cell}
use Rattle.eleos_plot.specs.Terms.{core_terms}
use Rattle.eleos_turn.specs.Hands.{links_on, without_pin}
use Rattle.eleos_turn.specs.Numbers.{times}
use Rattle.eleos_machine.specs.Machines.{Site, plan_at}
use Rattle.eleos_machine.specs.Passes.{PassState, plan_of}
use Rattle.eleos_machine.specs.Pointers.{page_under}
use Rattle.eleos_machine.specs.Stamping.{HasStamped}
use Rattle.eleos_spointer.specs.Ranges.{IsPointer}
use Rattle.eleos_spointer.specs.Unlinked.{Unlinks}
use Rattle.eleos_spointer.proofs.Places.{at_own, home_below, page_within}
use Rattle.eleos_spointer.proofs.Unlinking.{let_go, may_unlink, more_pins, pinned}
use Rattle.eleos_spointer.proofs.letting.unlink_page.Goals as goal

pub page_under-page-requires : goal.page_under-page-requires
page_under-page-requires g c =
    let s : PassState = c.args.pass.now in
    let plan : plan_of s ≡ c.plan.result.now = ap plan_at c.requires.can.own ∙ sym c.plan.ensures.plan in
    let caller : IsCaller (plan_of s) s.hand.number = subst (λ (z : Site). IsCaller (plan_at z) s.hand.number) (sym c.requires.can.own) c.requires.can.caller in
    let good : IsGood (plan_of s) = c.requires.pointers.lawful.machine.made.good in record {
      good = subst IsGood plan good;
      enclave = subst (λ (k : Plan). c.args.pointer.block.enclave < length k.enclaves) plan (home_below (plan_of s) s.hand.number c.args.pointer good caller c.requires.placed);
      placed = subst (λ (k : Plan). IsPointer k c.args.pointer.block.enclave c.args.pointer) plan (at_own (plan_of s) (enclave_of (plan_of s) s.hand.number) c.args.pointer c.requires.placed);
    }

pub stamp-requires-clause-may : goal.stamp-requires-clause-may
stamp-requires-clause-may g c =
    let s : PassState = c.args.pass.now in
    let plan : plan_of s ≡ c.plan.result.now = ap plan_at c.requires.can.own ∙ sym c.plan.ensures.plan in
    let is : page_under (plan_of s) c.args.pointer ≡ c.page_under-page.result = ap (λ (k : Plan). page_under k c.args.pointer) plan ∙ sym c.page_under-page.ensures in
    let caller : IsCaller (plan_of s) s.hand.number = subst (λ (z : Site). IsCaller (plan_at z) s.hand.number) (sym c.requires.can.own) c.requires.can.caller in
    let good : IsGood (plan_of s) = c.requires.pointers.lawful.machine.made.good in
    may_unlink s c.page_under-page.result (let one = caller.from_one in omega (arith, one)) (subst (λ p. 0 < links_on core_terms s.hand (page_cell (plan_of s) p)) is c.requires.link)
    c.set.new.self c.set.ensures caller c.requires.can.left
    (subst (λ p. p < all_pages (plan_of s)) is (page_within (plan_of s) s.hand.number c.args.pointer good caller c.requires.placed))

pub unpin-requires-clause-pin : goal.unpin-requires-clause-pin
unpin-requires-clause-pin g c =
    let s : PassState = c.args.pass.now in
    let page : ℕ = c.page_under-page.result in
    let plan : plan_of s ≡ c.plan.result.now = ap plan_at c.requires.can.own ∙ sym c.plan.ensures.plan in
    let is : page_under (plan_of s) c.args.pointer ≡ page = ap (λ (k : Plan). page_under k c.args.pointer) plan ∙ sym c.page_under-page.ensures in
    let at : c.page_cell.result ≡ page_cell (plan_of s) page = c.page_cell.ensures ∙ ap (λ (k : Plan). page_cell k page) (c.plan-2.ensures.plan ∙ sym (ap plan_at c.requires.can.own)) in
    subst (λ n. links_on core_terms c.stamp.new.pass.hand n < times n c.stamp.new.pass.hand.pins) (sym at)
    (more_pins s page (let one = c.requires.pointers.caller.from_one in omega (arith, one)) (subst (λ p. 0 < links_on core_terms s.hand (page_cell (plan_of s) p)) is c.requires.link) c.stamp.result c.stamp.new.pass
    (subst (λ (y : PassState). HasStamped y c.stamp.result c.stamp.new.pass) c.set.ensures c.stamp.ensures.stamped) c.stamp.ensures.lawful (pinned s page c.requires.pointers.linked))

pub returns-clause-page : goal.returns-clause-page
returns-clause-page g c =
    let s : PassState = c.args.pass.now in
    let page : ℕ = c.page_under-page.result in
    let plan : plan_of s ≡ c.plan.result.now = ap plan_at c.requires.can.own ∙ sym c.plan.ensures.plan in
    let is : page_under (plan_of s) c.args.pointer ≡ page = ap (λ (k : Plan). page_under k c.args.pointer) plan ∙ sym c.page_under-page.ensures in
    let at : c.page_cell.result ≡ page_cell (plan_of s) page = c.page_cell.ensures ∙ ap (λ (k : Plan). page_cell k page) (c.plan-2.ensures.plan ∙ sym (ap plan_at c.requires.can.own)) in
    subst (λ (y : ℕ × PassState). Unlinks s y.0 y.1) (λ i. (sym is i, sym (c.unpin.ensures ∙ ap (λ (n : ℕ). record c.stamp.new.pass { hand = without_pin c.stamp.new.pass.hand n }) at) i))
    (let_go s page (let one = c.requires.pointers.caller.from_one in omega (arith, one)) (subst (λ p. 0 < links_on core_terms s.hand (page_cell (plan_of s) p)) is c.requires.link) c.stamp.result c.stamp.new.pass
    (subst (λ (y : PassState). HasStamped y c.stamp.result c.stamp.new.pass) c.set.ensures c.stamp.ensures.stamped) c.stamp.ensures.lawful (pinned s page c.requires.pointers.linked))
