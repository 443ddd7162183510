use Rattle.std.proofs.Common.{◌≡◌, ℕ, ◌<◌, true, sym, ◌∙◌, ap, subst, length}
use Rattle.eleos_base.specs.declared.memory.Addr.{Addr}
use Rattle.eleos_base.specs.declared.plan.Plan.{Plan}
use Rattle.eleos_base.specs.Plans.{enclave_of, sub_bytes}
use Rattle.eleos_base.specs.Places.{all_pages, subs}
use Rattle.eleos_core.specs.Parts.{page_cell}
use Rattle.eleos_base.specs.Plain.{is_in_range}
use Rattle.eleos_spointer.proofs.Places.{at_caller, at_own, found_here, home_below, page_within, small_place}
use Rattle.eleos_spointer.proofs.access.find_cell.Goals as goal

pub place_of-at-requires : goal.place_of-at-requires
place_of-at-requires c =
    small_place c.args.plan.now (enclave_of c.args.plan.now c.args.who) c.args.pointer c.requires.good (at_caller c.args.plan.now c.args.who c.requires.good c.requires.caller) c.requires.placed

pub is_in_range-requires-clause-enclave : goal.is_in_range-requires-clause-enclave
is_in_range-requires-clause-enclave c =
    subst (λ a. a.enclave < length c.args.plan.now.enclaves) (sym c.place_of-at.ensures) (home_below c.args.plan.now c.args.who c.args.pointer c.requires.good c.requires.caller c.requires.placed)

pub page_under-requires-clause-enclave : goal.page_under-requires-clause-enclave
page_under-requires-clause-enclave c = home_below c.args.plan.now c.args.who c.args.pointer c.requires.good c.requires.caller c.requires.placed

pub page_under-requires-clause-placed : goal.page_under-requires-clause-placed
page_under-requires-clause-placed c = at_own c.args.plan.now (enclave_of c.args.plan.now c.args.who) c.args.pointer c.requires.placed

pub page_cell-requires-clause-page : goal.page_cell-requires-clause-page
page_cell-requires-clause-page c =
    subst (λ (p : ℕ). p < all_pages c.args.plan.now) (sym c.page_under.ensures) (page_within c.args.plan.now c.args.who c.args.pointer c.requires.good c.requires.caller c.requires.placed)

pub returns-then-is_in_range : goal.returns-then-is_in_range
returns-then-is_in_range c =
    let k : Plan = c.args.plan.now in
    found_here k c.args.who c.args.pointer c.args.len c.page_cell.result c.requires.good c.requires.caller c.requires.placed
    (subst (λ (a : Addr). is_in_range (sub_bytes k a.enclave) a.enclave (subs k a.enclave) a c.args.len ≡ true) c.place_of-at.ensures (sym c.is_in_range.ensures ∙ c.if-is_in_range.true)) (c.page_cell.ensures ∙ ap (page_cell k) c.page_under.ensures)
