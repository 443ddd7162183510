use Rattle.std.proofs.Common.{◌≡◌, ℕ, ◌<◌, set, Some, sym, ◌∙◌, ap, subst}
use Rattle.eleos_base.specs.declared.plan.Plan.{Plan}
use Rattle.eleos_base.specs.Places.{all_pages}
use Rattle.eleos_base.specs.Ties.{Has}
use Rattle.eleos_core.specs.Accesses.{link_stamp}
use Rattle.eleos_base.specs.declared.memory.Reply.TheVariants.{Done}
use Rattle.eleos_core.specs.Parts.{page_cell}
use Rattle.eleos_machine.specs.Machines.{plan_at}
use Rattle.eleos_machine.specs.Passes.{PassState, gave, part_seen, plan_of}
use Rattle.eleos_machine.specs.Pointers.{cell_under}
use Rattle.eleos_machine.specs.Stamping.{HasStamped}
use Rattle.eleos_plot.specs.Cells.{part_of_cell}
use Rattle.eleos_turn.specs.Hands.{with_pin}
use Rattle.eleos_base.specs.Plans.{enclave_of}
use Rattle.eleos_spointer.specs.Tied.{with_link}
use Rattle.eleos_spointer.proofs.Places.{at_caller, small_place}
use Rattle.eleos_spointer.proofs.Tying.{drafted, may_link, page_right, tied, turn, turn_still}
use Rattle.eleos_spointer.proofs.ties.tie.Goals as goal

pub place_of-at-requires : goal.place_of-at-requires
place_of-at-requires g c = let k = plan_of c.args.pass.now in let good = c.left.ensures.lawful.machine.made.good in
    small_place k (enclave_of k c.args.pass.now.hand.number) c.args.pointer good (at_caller k c.args.pass.now.hand.number good c.requires.may.caller) c.requires.may.placed

pub page_cell-page-requires-clause-page : goal.page_cell-page-requires-clause-page
page_cell-page-requires-clause-page g c =
    subst (λ (k : Plan). c.args.page.page < all_pages k) (ap plan_at c.requires.may.own ∙ sym c.plan.ensures.plan) c.requires.may.has.number

pub pin-requires-clause-held : goal.pin-requires-clause-held
pin-requires-clause-held g c =
    let s : PassState = c.args.pass.now in
    let is : c.page_cell-page.result ≡ cell_under (plan_of s) c.args.pointer = c.page_cell-page.ensures ∙ (ap (λ (k : Plan). page_cell k c.args.page.page) (c.plan.ensures.plan ∙ sym (ap plan_at c.requires.may.own)) ∙ ap (page_cell (plan_of s)) c.requires.may.page_is) in
    subst (λ (n : ℕ). Has n s.hand.turns) (sym is) (turn c.args.m.now s c.args.id c.args.pointer c.args.page c.requires.may)

pub stamp-requires-clause-may : goal.stamp-requires-clause-may
stamp-requires-clause-may g c =
    let s : PassState = c.args.pass.now in
    let is : c.page_cell-page.result ≡ cell_under (plan_of s) c.args.pointer = c.page_cell-page.ensures ∙ (ap (λ (k : Plan). page_cell k c.args.page.page) (c.plan.ensures.plan ∙ sym (ap plan_at c.requires.may.own)) ∙ ap (page_cell (plan_of s)) c.requires.may.page_is) in
    let pinned : c.pin.new.pass ≡ record s { hand = with_pin s.hand (cell_under (plan_of s) c.args.pointer) } = c.pin.ensures ∙ ap (λ (n : ℕ). record s { hand = with_pin s.hand n }) is in
    may_link c.args.m.now s c.args.id c.args.pointer c.args.page c.requires.may c.set.new.self
    (c.set.ensures ∙ (λ i. record (pinned i) { draft = link_stamp (pinned i).hand.number (c.place_of-at.ensures i) Done }))

pub give-requires-clause-held : goal.give-requires-clause-held
give-requires-clause-held g c =
    let s : PassState = c.args.pass.now in
    let is : c.page_cell-page.result ≡ cell_under (plan_of s) c.args.pointer = c.page_cell-page.ensures ∙ (ap (λ (k : Plan). page_cell k c.args.page.page) (c.plan.ensures.plan ∙ sym (ap plan_at c.requires.may.own)) ∙ ap (page_cell (plan_of s)) c.requires.may.page_is) in
    let pinned : c.pin.new.pass ≡ record s { hand = with_pin s.hand (cell_under (plan_of s) c.args.pointer) } = c.pin.ensures ∙ ap (λ (n : ℕ). record s { hand = with_pin s.hand n }) is in
    let draft : c.set.new.self ≡ drafted c.args.m.now s c.args.id c.args.pointer c.args.page c.requires.may = c.set.ensures ∙ (λ i. record (pinned i) { draft = link_stamp (pinned i).hand.number (c.place_of-at.ensures i) Done }) in
    subst (λ (n : ℕ). Has n c.stamp.new.pass.hand.turns) (sym is) (turn_still c.args.m.now s c.args.id c.args.pointer c.args.page c.requires.may c.stamp.result c.stamp.new.pass
    (subst (λ (y : PassState). HasStamped y c.stamp.result c.stamp.new.pass) draft c.stamp.ensures.stamped) c.stamp.ensures.lawful)

pub give-requires-clause-right : goal.give-requires-clause-right
give-requires-clause-right g c =
    let s : PassState = c.args.pass.now in
    let is : c.page_cell-page.result ≡ cell_under (plan_of s) c.args.pointer = c.page_cell-page.ensures ∙ (ap (λ (k : Plan). page_cell k c.args.page.page) (c.plan.ensures.plan ∙ sym (ap plan_at c.requires.may.own)) ∙ ap (page_cell (plan_of s)) c.requires.may.page_is) in
    let pinned : c.pin.new.pass ≡ record s { hand = with_pin s.hand (cell_under (plan_of s) c.args.pointer) } = c.pin.ensures ∙ ap (λ (n : ℕ). record s { hand = with_pin s.hand n }) is in
    let draft : c.set.new.self ≡ drafted c.args.m.now s c.args.id c.args.pointer c.args.page c.requires.may = c.set.ensures ∙ (λ i. record (pinned i) { draft = link_stamp (pinned i).hand.number (c.place_of-at.ensures i) Done }) in
    subst (λ (n : ℕ). part_of_cell c.args.page.cell ≡ part_seen c.stamp.new.pass n) (sym is) (page_right c.args.m.now s c.args.id c.args.pointer c.args.page c.requires.may c.stamp.result c.stamp.new.pass
    (subst (λ (y : PassState). HasStamped y c.stamp.result c.stamp.new.pass) draft c.stamp.ensures.stamped) c.stamp.ensures.lawful)

pub returns : goal.returns
returns g c =
    let s : PassState = c.args.pass.now in
    let is : c.page_cell-page.result ≡ cell_under (plan_of s) c.args.pointer = c.page_cell-page.ensures ∙ (ap (λ (k : Plan). page_cell k c.args.page.page) (c.plan.ensures.plan ∙ sym (ap plan_at c.requires.may.own)) ∙ ap (page_cell (plan_of s)) c.requires.may.page_is) in
    let pinned : c.pin.new.pass ≡ record s { hand = with_pin s.hand (cell_under (plan_of s) c.args.pointer) } = c.pin.ensures ∙ ap (λ (n : ℕ). record s { hand = with_pin s.hand n }) is in
    let draft : c.set.new.self ≡ drafted c.args.m.now s c.args.id c.args.pointer c.args.page c.requires.may = c.set.ensures ∙ (λ i. record (pinned i) { draft = link_stamp (pinned i).hand.number (c.place_of-at.ensures i) Done }) in
    tied c.args.m.now s c.args.id c.args.pointer c.args.page c.requires.may c.stamp.result c.stamp.new.pass
    (subst (λ (y : PassState). HasStamped y c.stamp.result c.stamp.new.pass) draft c.stamp.ensures.stamped) c.stamp.ensures.lawful
    c.set_pointer.new.self (c.set_pointer.ensures ∙ ap (λ (y : PassState). record y { pointers = set y.pointers c.args.id.key (Some (with_link c.args.pointer)) }) (c.give.ensures ∙ ap (gave c.stamp.new.pass) is))
