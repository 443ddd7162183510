use Rattle.std.proofs.Common.{true, Some, refl, subst, sym}
use Rattle.eleos_plot.specs.Terms.{core_terms}
use Rattle.eleos_turn.specs.Hands.{entries}
use Rattle.eleos_clock.specs.declared.found.Found.{Found}
use Rattle.eleos_clock.specs.Answered.{FoundNone, FoundThere}
use Rattle.eleos_clock.specs.Lists.{AreNotes}
use Rattle.eleos_clock.specs.Searches.{MaySearch}
use Rattle.eleos_machine.specs.Notes.{free_notes}
use Rattle.eleos_machine.specs.Passes.{PassState, last_stamp}
use Rattle.eleos_swap.specs.declared.evicts.Evicted.{Evicted}
use Rattle.eleos_balloon.specs.Releases.{ReleasedOne}
use Rattle.eleos_balloon.proofs.Finding.{may_begin, may_free, may_sole, no_notes, none_left, went_free, went_sole}
use Rattle.eleos_balloon.proofs.releases.release_one.Goals as goal

pub victim-requires-clause-may : goal.victim-requires-clause-may
victim-requires-clause-may g c = subst (λ (y : PassState). MaySearch c.args.m.now y c.args.clock.now) (sym c.sweep_clear.ensures) (may_begin c.args.enclave c.args.clock.now c.args.pass.now c.requires.holds c.args.m.now c.requires.own)

pub victim-requires-clause-notes : goal.victim-requires-clause-notes
victim-requires-clause-notes g c = subst (λ (y : PassState). AreNotes c.args.clock.now.clock true (free_notes y.sweep.words)) (sym c.sweep_clear.ensures) (no_notes c.args.enclave c.args.clock.now c.args.pass.now c.requires.holds)

pub returns-in-Err : goal.returns-in-Err
returns-in-Err g c = none_left c.args.enclave c.args.clock.now c.args.pass.now c.requires.holds g.P.HostPort g.P.HostStore c.args.tap.now c.victim.new.clock c.victim.new.pass c.victim.ensures.clock
    (subst (λ (y : PassState). FoundNone y c.args.clock.now.clock c.args.clock.now.hand true c.victim.new.pass c.victim.new.clock.hand) c.sweep_clear.ensures c.in-Err.ensures.answers)

pub release-stamp-requires-clause-may : goal.release-stamp-requires-clause-may
release-stamp-requires-clause-may g c = may_free c.args.enclave c.args.clock.now c.args.pass.now c.requires.holds g.P.HostPort g.P.HostStore c.args.tap.now c.victim.new.clock c.victim.new.pass c.victim.ensures.clock c.in-Ok-Free.free
    (subst (λ (y : PassState × Found). FoundThere y.0 c.args.clock.now.clock c.args.clock.now.hand true y.1 c.victim.new.pass c.victim.new.clock.hand) (λ i. (c.sweep_clear.ensures i, c.in-Ok-Free.field-0-is i)) c.in-Ok-Free.ensures.answers)

pub returns-in-Ok-Free : goal.returns-in-Ok-Free
returns-in-Ok-Free g c = went_free c.args.enclave c.args.clock.now c.args.pass.now c.requires.holds g.P.HostPort g.P.HostStore c.args.tap.now c.victim.new.clock c.victim.new.pass c.victim.ensures.clock c.in-Ok-Free.free
    (subst (λ (y : PassState × Found). FoundThere y.0 c.args.clock.now.clock c.args.clock.now.hand true y.1 c.victim.new.pass c.victim.new.clock.hand) (λ i. (c.sweep_clear.ensures i, c.in-Ok-Free.field-0-is i)) c.in-Ok-Free.ensures.answers)
    c.release-stamp.result c.release-stamp.new.pass c.release-stamp.new.clock c.release-stamp.ensures

pub release-stamp-requires-in-Ok-Sole-clause-may : goal.release-stamp-requires-in-Ok-Sole-clause-may
release-stamp-requires-in-Ok-Sole-clause-may g c = may_sole c.args.enclave c.args.clock.now c.args.pass.now c.requires.holds g.P.HostPort g.P.HostStore c.args.tap.now c.victim.new.clock c.victim.new.pass c.victim.ensures.clock c.in-Ok-Sole.sole
    (subst (λ (y : PassState × Found). FoundThere y.0 c.args.clock.now.clock c.args.clock.now.hand true y.1 c.victim.new.pass c.victim.new.clock.hand) (λ i. (c.sweep_clear.ensures i, c.in-Ok-Sole.field-0-is i)) c.in-Ok-Sole.ensures.answers)
    c.evict_from-free.result.0 c.evict_from-free.result.1.puts c.evict_from-free.new.pass c.evict_from-free.new.tap c.evict_from-free.ensures.evicted

pub returns-in-Ok-Sole : goal.returns-in-Ok-Sole
returns-in-Ok-Sole g c = subst (λ (y : Evicted). ReleasedOne g.P.HostPort g.P.HostStore c.args.pass.now c.args.tap.now c.args.enclave c.args.clock.now (record { evicted = Some y; frame = c.evict_from-free.result.0.frame; stamp = c.release-stamp-in-Ok-Sole.result })
    c.release-stamp-in-Ok-Sole.new.pass c.evict_from-free.new.tap c.release-stamp-in-Ok-Sole.new.clock) (sym c.evict_from-free.ensures.told)
    (went_sole c.args.enclave c.args.clock.now c.args.pass.now c.requires.holds g.P.HostPort g.P.HostStore c.args.tap.now c.victim.new.clock c.victim.new.pass c.victim.ensures.clock c.in-Ok-Sole.sole
    (subst (λ (y : PassState × Found). FoundThere y.0 c.args.clock.now.clock c.args.clock.now.hand true y.1 c.victim.new.pass c.victim.new.clock.hand) (λ i. (c.sweep_clear.ensures i, c.in-Ok-Sole.field-0-is i)) c.in-Ok-Sole.ensures.answers)
    c.evict_from-free.result.0 c.evict_from-free.result.1.puts c.evict_from-free.new.pass c.evict_from-free.new.tap c.evict_from-free.ensures.evicted
    (last_stamp (entries core_terms c.evict_from-free.new.pass.hand)) refl c.release-stamp-in-Ok-Sole.result c.release-stamp-in-Ok-Sole.new.pass c.release-stamp-in-Ok-Sole.new.clock c.release-stamp-in-Ok-Sole.ensures)
