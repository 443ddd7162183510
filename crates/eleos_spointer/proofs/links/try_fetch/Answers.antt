use Rattle.std.proofs.Common.{Some, Err, Ok, sym, ◌∙◌, ap, subst}
use Rattle.eleos_core.specs.Parts.{clock_cell}
use Rattle.eleos_machine.specs.Machines.{plan_at}
use Rattle.eleos_machine.specs.Passes.{PassState}
use Rattle.eleos_plot.specs.Refs.{wanted_of}
use Rattle.eleos_clock.specs.Turns.{TookClock}
use Rattle.eleos_turn.specs.Hands.{refused_at}
use Rattle.eleos_spointer.proofs.Fetching.{clock_busy, fetched, may_bring}
use Rattle.eleos_spointer.proofs.links.try_fetch.Goals as goal

pub bring_in-requires-clause-may : goal.bring_in-requires-clause-may
bring_in-requires-clause-may g c = may_bring c.args.m.now c.args.pass.now c.args.page c.args.enclave (wanted_of c.args.wanted) c.requires.may c.in-Ok.clock c.try_clock.new.pass
    (subst (λ (y : PassState). TookClock y c.args.enclave c.in-Ok.clock c.try_clock.new.pass) c.sweep_clear.ensures c.in-Ok.ensures.took) (sym c.is_present.ensures ∙ c.if-is_present.false)

pub returns-in-Ok-bring_in : goal.returns-in-Ok-bring_in
returns-in-Ok-bring_in g c = fetched c.args.m.now c.args.pass.now c.args.page c.args.enclave (wanted_of c.args.wanted) c.requires.may c.in-Ok.clock c.try_clock.new.pass
    (subst (λ (y : PassState). TookClock y c.args.enclave c.in-Ok.clock c.try_clock.new.pass) c.sweep_clear.ensures c.in-Ok.ensures.took) (sym c.is_present.ensures ∙ c.if-is_present.false)
    g.P.HostPort g.P.HostStore c.args.tap.now (Ok c.in-Ok-bring_in.page) c.bring_in.new.pass c.bring_in.new.tap c.in-Ok-bring_in.ensures

pub returns-in-Err-bring_in : goal.returns-in-Err-bring_in
returns-in-Err-bring_in g c = fetched c.args.m.now c.args.pass.now c.args.page c.args.enclave (wanted_of c.args.wanted) c.requires.may c.in-Ok.clock c.try_clock.new.pass
    (subst (λ (y : PassState). TookClock y c.args.enclave c.in-Ok.clock c.try_clock.new.pass) c.sweep_clear.ensures c.in-Ok.ensures.took) (sym c.is_present.ensures ∙ c.if-is_present.false)
    g.P.HostPort g.P.HostStore c.args.tap.now (Err c.in-Err-bring_in.refused) c.bring_in.new.pass c.bring_in.new.tap c.in-Err-bring_in.ensures

pub returns-in-Err : goal.returns-in-Err
returns-in-Err g c = clock_busy c.args.m.now c.args.pass.now c.args.page c.args.enclave (wanted_of c.args.wanted) c.requires.may c.in-Err.busy.word c.try_clock.new.pass
    (c.in-Err.ensures.refused ∙ ap (λ (y : PassState). record y { hand = refused_at y.hand (clock_cell (plan_at c.args.m.now) (Some c.args.enclave)) c.in-Err.busy.word }) c.sweep_clear.ensures)
    g.P.HostPort g.P.HostStore c.args.tap.now c.give_page.new.pass c.in-Err.ensures.busy c.give_page.ensures c.left.ensures.lawful
