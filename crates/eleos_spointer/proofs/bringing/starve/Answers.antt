use Rattle.std.proofs.Common.{◌≡◌, sym, ◌∙◌, ap, subst}
use Rattle.eleos_machine.specs.Holding.{HasPage}
use Rattle.eleos_machine.specs.Passes.{PassState}
use Rattle.eleos_machine.specs.Stamping.{HasStamped}
use Rattle.eleos_machine.specs.Sweeping.{swept}
use Rattle.eleos_base.specs.Places.{home_of}
use Rattle.eleos_machine.specs.Passes.{gave, plan_of}
use Rattle.eleos_plot.specs.Refs.{wanted_of}
use Rattle.eleos_spointer.proofs.Starving.{clock_held, drafted, may_stamp, page_left, starves}
use Rattle.eleos_spointer.specs.Brought.{cell_of_held}
use Rattle.eleos_spointer.proofs.bringing.starve.Goals as goal

pub stamp-requires-clause-may : goal.stamp-requires-clause-may
stamp-requires-clause-may g c =
    may_stamp c.args.m.now c.args.pass.now c.args.page c.args.clock (wanted_of c.args.wanted) c.requires.may c.draft_sweep.new.self
    (c.draft_sweep.ensures ∙ ap (λ (y : PassState). record y { draft = swept y.sweep.words y.draft }) c.set.ensures)

pub give_clock-requires-clause-own : goal.give_clock-requires-clause-own
give_clock-requires-clause-own g c = c.stamp.ensures.stamped.goes.home ∙ (ap (λ (y : PassState). y.hand.home) (c.draft_sweep.ensures ∙ ap (λ (y : PassState). record y { draft = swept y.sweep.words y.draft }) c.set.ensures) ∙ c.requires.may.wants.own)

pub give_clock-requires-clause-has : goal.give_clock-requires-clause-has
give_clock-requires-clause-has g c =
    let is : c.draft_sweep.new.self ≡ drafted c.args.m.now c.args.pass.now c.args.page c.args.clock (wanted_of c.args.wanted) c.requires.may = c.draft_sweep.ensures ∙ ap (λ (y : PassState). record y { draft = swept y.sweep.words y.draft }) c.set.ensures in (
      home_of (plan_of c.args.pass.now) c.args.page.page,
      clock_held c.args.m.now c.args.pass.now c.args.page c.args.clock (wanted_of c.args.wanted) c.requires.may c.stamp.result c.stamp.new.pass
          (subst (λ (y : PassState). HasStamped y c.stamp.result c.stamp.new.pass) is c.stamp.ensures.stamped) c.stamp.ensures.lawful,
    )

pub give_page-requires-clause-own : goal.give_page-requires-clause-own
give_page-requires-clause-own g c = ap (λ (y : PassState). y.hand.home) c.give_clock.ensures
    ∙ (c.stamp.ensures.stamped.goes.home ∙ (ap (λ (y : PassState). y.hand.home) (c.draft_sweep.ensures ∙ ap (λ (y : PassState). record y { draft = swept y.sweep.words y.draft }) c.set.ensures) ∙ c.requires.may.wants.own))

pub give_page-requires-clause-has : goal.give_page-requires-clause-has
give_page-requires-clause-has g c =
    let is : c.draft_sweep.new.self ≡ drafted c.args.m.now c.args.pass.now c.args.page c.args.clock (wanted_of c.args.wanted) c.requires.may = c.draft_sweep.ensures ∙ ap (λ (y : PassState). record y { draft = swept y.sweep.words y.draft }) c.set.ensures in
    subst (λ (y : PassState). HasPage y c.args.page.page c.args.page.cell) (sym c.give_clock.ensures)
    (page_left c.args.m.now c.args.pass.now c.args.page c.args.clock (wanted_of c.args.wanted) c.requires.may c.stamp.result c.stamp.new.pass
    (subst (λ (y : PassState). HasStamped y c.stamp.result c.stamp.new.pass) is c.stamp.ensures.stamped) c.stamp.ensures.lawful)

pub returns : goal.returns
returns g c =
    let is : c.draft_sweep.new.self ≡ drafted c.args.m.now c.args.pass.now c.args.page c.args.clock (wanted_of c.args.wanted) c.requires.may = c.draft_sweep.ensures ∙ ap (λ (y : PassState). record y { draft = swept y.sweep.words y.draft }) c.set.ensures in
    starves c.args.m.now c.args.pass.now c.args.page c.args.clock (wanted_of c.args.wanted) c.requires.may c.stamp.result c.stamp.new.pass
    (subst (λ (y : PassState). HasStamped y c.stamp.result c.stamp.new.pass) is c.stamp.ensures.stamped) c.stamp.ensures.lawful
    c.give_page.new.pass (c.give_page.ensures ∙ ap (λ (y : PassState). gave y (cell_of_held y c.args.page)) c.give_clock.ensures)
