use Rattle.std.proofs.Common.{sym, ◌∙◌, subst}
use Rattle.eleos_machine.specs.Passes.{PassState}
use Rattle.eleos_plot.specs.Refs.{wanted_of}
use Rattle.eleos_clock.specs.Turns.{TookClock}
use Rattle.eleos_spointer.proofs.Fetching.{fetched, may_bring}
use Rattle.eleos_spointer.proofs.links.fetch.Goals as goal

pub bring_in-requires-clause-may : goal.bring_in-requires-clause-may
bring_in-requires-clause-may g c = may_bring c.args.m.now c.args.pass.now c.args.page c.args.enclave (wanted_of c.args.wanted) c.requires.may c.clock-clock.result c.clock-clock.new.pass
    (subst (λ (y : PassState). TookClock y c.args.enclave c.clock-clock.result c.clock-clock.new.pass) c.sweep_clear.ensures c.clock-clock.ensures) (sym c.is_present.ensures ∙ c.if-is_present.false)

pub returns : goal.returns
returns g c = fetched c.args.m.now c.args.pass.now c.args.page c.args.enclave (wanted_of c.args.wanted) c.requires.may c.clock-clock.result c.clock-clock.new.pass
    (subst (λ (y : PassState). TookClock y c.args.enclave c.clock-clock.result c.clock-clock.new.pass) c.sweep_clear.ensures c.clock-clock.ensures) (sym c.is_present.ensures ∙ c.if-is_present.false)
    g.P.HostPort g.P.HostStore c.args.tap.now c.bring_in.result c.bring_in.new.pass c.bring_in.new.tap c.bring_in.ensures
