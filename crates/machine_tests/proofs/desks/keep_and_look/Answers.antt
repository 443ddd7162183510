use Rattle.std.proofs.Common.{sym, subst}
use Rattle.eleos_core.specs.Parts.{Part, Stamp}
use Rattle.eleos_pages.specs.Exchanges.{AreExchanged}
use Rattle.eleos_plot.specs.declared.plot.Ground.{Ground}
use Rattle.eleos_plot.specs.Terms.{core_terms}
use Rattle.eleos_turn.specs.Hands.{HandState, entries}
use Rattle.machine_tests.proofs.desks.keep_and_look.Goals as goal

pub keep_by_desk-kept-requires-clause-exchanged : goal.keep_by_desk-kept-requires-clause-exchanged
keep_by_desk-kept-requires-clause-exchanged g c =
    subst (λ (h : HandState Stamp Part Ground). ∥ AreExchanged g.P.HostPort.gave g.P.HostPort.took c.args.machine.now h.seen (entries core_terms h) ∥₁) (sym c.requires.pass) ∣ tt ∣₁
