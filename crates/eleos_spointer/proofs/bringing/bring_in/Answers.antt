use Rattle.std.proofs.Common.{[], ◌∷◌, Some, Err, refl, sym, ◌∙◌, ap, subst, slice_index}
use Rattle.eleos_core.specs.Parts.{frame_cell}
use Rattle.eleos_machine.specs.Passes.{PassState, plan_of, seen}
use Rattle.eleos_plot.specs.Refs.{wanted_of}
use Rattle.eleos_spointer.specs.declared.refusing.LinkRefused.TheVariants.{NoFrame}
use Rattle.eleos_spointer.specs.Brought.{MayPutIn, cell_of_held}
use Rattle.eleos_spointer.specs.Reached.{Reaches}
use Rattle.eleos_spointer.proofs.Fetching.{brings, brings_after}
use Rattle.eleos_spointer.proofs.Freeing.{freed, has_found, may_free, may_put_in, may_search, may_starve, no_notes, reached, searched_none}
use Rattle.eleos_spointer.proofs.bringing.bring_in.Goals as goal

pub victim-requires-clause-may : goal.victim-requires-clause-may
victim-requires-clause-may g c = may_search c.args.m.now c.args.pass.now c.args.page c.args.clock (wanted_of c.args.wanted) c.requires.may

pub victim-requires-clause-notes : goal.victim-requires-clause-notes
victim-requires-clause-notes g c = no_notes c.args.m.now c.args.pass.now c.args.page c.args.clock (wanted_of c.args.wanted) c.requires.may

pub starve-requires-clause-may : goal.starve-requires-clause-may
starve-requires-clause-may g c = may_starve c.args.m.now c.args.pass.now c.args.page c.args.clock (wanted_of c.args.wanted) c.requires.may
    c.victim.new.clock c.victim.new.pass c.in-Err.ensures.answers c.victim.ensures.clock (c.victim.ensures.held c.requires.may.home c.requires.may.clock_is)

pub free-frame-requires-clause-own : goal.free-frame-requires-clause-own
free-frame-requires-clause-own g c = (may_free c.args.m.now c.args.pass.now c.args.page c.args.clock (wanted_of c.args.wanted) c.requires.may
    c.victim.new.clock (slice_index c.args.clock.clock c.in-Ok.ensures.answers.place) c.victim.new.pass c.victim.ensures.lawful c.victim.ensures.clock
    (c.victim.ensures.held c.requires.may.home c.requires.may.clock_is) c.in-Ok.found c.in-Ok.ensures.answers.there).0

pub free-frame-requires-clause-caller : goal.free-frame-requires-clause-caller
free-frame-requires-clause-caller g c = (may_free c.args.m.now c.args.pass.now c.args.page c.args.clock (wanted_of c.args.wanted) c.requires.may
    c.victim.new.clock (slice_index c.args.clock.clock c.in-Ok.ensures.answers.place) c.victim.new.pass c.victim.ensures.lawful c.victim.ensures.clock
    (c.victim.ensures.held c.requires.may.home c.requires.may.clock_is) c.in-Ok.found c.in-Ok.ensures.answers.there).1

pub free-frame-requires-clause-left : goal.free-frame-requires-clause-left
free-frame-requires-clause-left g c = (may_free c.args.m.now c.args.pass.now c.args.page c.args.clock (wanted_of c.args.wanted) c.requires.may
    c.victim.new.clock (slice_index c.args.clock.clock c.in-Ok.ensures.answers.place) c.victim.new.pass c.victim.ensures.lawful c.victim.ensures.clock
    (c.victim.ensures.held c.requires.may.home c.requires.may.clock_is) c.in-Ok.found c.in-Ok.ensures.answers.there).2

pub free-frame-requires-clause-has : goal.free-frame-requires-clause-has
free-frame-requires-clause-has g c = has_found c.args.m.now c.args.pass.now c.args.page c.args.clock (wanted_of c.args.wanted) c.requires.may
    c.victim.new.clock (slice_index c.args.clock.clock c.in-Ok.ensures.answers.place) c.victim.new.pass c.victim.ensures.lawful c.victim.ensures.clock
    (c.victim.ensures.held c.requires.may.home c.requires.may.clock_is) c.in-Ok.found c.in-Ok.ensures.answers.there

pub give_clock-requires-clause-own : goal.give_clock-requires-clause-own
give_clock-requires-clause-own g c =
    let s : PassState = c.args.pass.now in
    let h = freed c.args.m.now s c.args.page c.args.clock (wanted_of c.args.wanted) c.requires.may c.victim.new.clock (slice_index c.args.clock.clock c.in-Ok.ensures.answers.place) c.victim.new.pass c.victim.ensures.lawful c.victim.ensures.clock
    (c.victim.ensures.held c.requires.may.home c.requires.may.clock_is) g.P.HostPort g.P.HostStore c.args.tap.now c.free-frame.new.tap c.free-frame.new.pass c.free-frame.result c.in-Ok.found c.in-Ok.ensures.answers.there (c.in-Ok.ensures.owned c.requires.may.home c.requires.may.clock_is) c.free-frame.ensures in
    h.reaches.goes.home ∙ c.requires.may.wants.own

pub give_clock-requires-clause-has : goal.give_clock-requires-clause-has
give_clock-requires-clause-has g c =
    let s : PassState = c.args.pass.now in
    let h = freed c.args.m.now s c.args.page c.args.clock (wanted_of c.args.wanted) c.requires.may c.victim.new.clock (slice_index c.args.clock.clock c.in-Ok.ensures.answers.place) c.victim.new.pass c.victim.ensures.lawful c.victim.ensures.clock
    (c.victim.ensures.held c.requires.may.home c.requires.may.clock_is) g.P.HostPort g.P.HostStore c.args.tap.now c.free-frame.new.tap c.free-frame.new.pass c.free-frame.result c.in-Ok.found c.in-Ok.ensures.answers.there (c.in-Ok.ensures.owned c.requires.may.home c.requires.may.clock_is) c.free-frame.ensures in
    (Some c.requires.may.home, h.clock_is)

pub put_in-requires-clause-may : goal.put_in-requires-clause-may
put_in-requires-clause-may g c =
    let s : PassState = c.args.pass.now in
    let h = freed c.args.m.now s c.args.page c.args.clock (wanted_of c.args.wanted) c.requires.may c.victim.new.clock (slice_index c.args.clock.clock c.in-Ok.ensures.answers.place) c.victim.new.pass c.victim.ensures.lawful c.victim.ensures.clock
    (c.victim.ensures.held c.requires.may.home c.requires.may.clock_is) g.P.HostPort g.P.HostStore c.args.tap.now c.free-frame.new.tap c.free-frame.new.pass c.free-frame.result c.in-Ok.found c.in-Ok.ensures.answers.there (c.in-Ok.ensures.owned c.requires.may.home c.requires.may.clock_is) c.free-frame.ensures in
    subst (λ (y : PassState). MayPutIn c.args.m.now y c.args.page c.free-frame.result (wanted_of c.args.wanted)) (sym c.give_clock.ensures)
    (may_put_in c.args.m.now s c.args.page c.args.clock (wanted_of c.args.wanted) c.requires.may c.victim.new.clock (slice_index c.args.clock.clock c.in-Ok.ensures.answers.place) c.victim.new.pass c.victim.ensures.lawful c.victim.ensures.clock
    (c.victim.ensures.held c.requires.may.home c.requires.may.clock_is) g.P.HostPort g.P.HostStore c.args.tap.now c.free-frame.new.tap c.free-frame.new.pass c.free-frame.result h)

pub returns-in-Err : goal.returns-in-Err
returns-in-Err g c =
    brings_after g.P.HostPort g.P.HostStore c.args.pass.now c.victim.new.pass c.args.pass.now.hand.turns
    (searched_none c.args.m.now c.args.pass.now c.args.page c.args.clock (wanted_of c.args.wanted) c.requires.may c.victim.new.clock c.victim.new.pass c.in-Err.ensures.answers c.victim.ensures.clock (c.victim.ensures.held c.requires.may.home c.requires.may.clock_is) c.victim.ensures.lawful)
    c.args.page (wanted_of c.args.wanted) c.args.tap.now (Err NoFrame) c.starve.new.pass c.args.tap.now (c.starve.ensures, refl)

pub returns-in-Ok : goal.returns-in-Ok
returns-in-Ok g c =
    let s : PassState = c.args.pass.now in
    let h = freed c.args.m.now s c.args.page c.args.clock (wanted_of c.args.wanted) c.requires.may c.victim.new.clock (slice_index c.args.clock.clock c.in-Ok.ensures.answers.place) c.victim.new.pass c.victim.ensures.lawful c.victim.ensures.clock
    (c.victim.ensures.held c.requires.may.home c.requires.may.clock_is) g.P.HostPort g.P.HostStore c.args.tap.now c.free-frame.new.tap c.free-frame.new.pass c.free-frame.result c.in-Ok.found c.in-Ok.ensures.answers.there (c.in-Ok.ensures.owned c.requires.may.home c.requires.may.clock_is) c.free-frame.ensures in
    let to = reached c.args.m.now s c.args.page c.args.clock (wanted_of c.args.wanted) c.requires.may c.victim.new.clock (slice_index c.args.clock.clock c.in-Ok.ensures.answers.place) c.victim.new.pass c.victim.ensures.lawful c.victim.ensures.clock
    (c.victim.ensures.held c.requires.may.home c.requires.may.clock_is) g.P.HostPort g.P.HostStore c.args.tap.now c.free-frame.new.tap c.free-frame.new.pass c.free-frame.result h in
    brings g.P.HostPort g.P.HostStore c.args.m.now s c.free-frame.new.pass c.give_clock.new.pass c.args.page (wanted_of c.args.wanted) c.requires.may.home c.victim.new.clock c.free-frame.result c.args.tap.now c.free-frame.new.tap c.requires.may.wants.own h
    (frame_cell (plan_of s) c.free-frame.result.frame ∷ cell_of_held s c.args.page ∷ [])
    (subst (λ (y : PassState). Reaches s h.first (frame_cell (plan_of s) c.free-frame.result.frame ∷ cell_of_held s c.args.page ∷ []) y) (sym c.give_clock.ensures) to) (ap seen c.give_clock.ensures) c.put_in.result c.put_in.new.pass c.put_in.new.tap c.put_in.ensures
