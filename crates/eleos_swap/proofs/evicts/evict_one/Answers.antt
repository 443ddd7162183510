use Rattle.std.proofs.Common.{false, refl, subst, sym}
use Rattle.eleos_clock.specs.declared.found.Found.{Found}
use Rattle.eleos_clock.specs.declared.found.Found.TheVariants.{Sole}
use Rattle.eleos_clock.specs.Answered.{FoundThere}
use Rattle.eleos_pages.specs.Evicted.{HasEvicted}
use Rattle.eleos_machine.specs.Holding.{HasSole}
use Rattle.eleos_machine.specs.Notes.{cleared}
use Rattle.eleos_machine.specs.Passes.{PassState}
use Rattle.eleos_swap.proofs.Evicting.{evicted, hand_moves, none_left, room, search_notes, sole_on, unnoted}
use Rattle.eleos_swap.proofs.evicts.evict_one.Goals as goal

pub victim-requires-clause-notes : goal.victim-requires-clause-notes
victim-requires-clause-notes g c = search_notes c.args.clock.now.clock c.args.pass.now.sweep.words c.requires.free

pub evict-free-requires-clause-has : goal.evict-free-requires-clause-has
evict-free-requires-clause-has g c =
    let there : FoundThere c.args.pass.now c.args.clock.now.clock c.args.clock.now.hand false (Sole c.in-Ok-Sole.sole) c.victim.new.pass c.victim.new.clock.hand =
    subst (λ (y : Found). FoundThere c.args.pass.now c.args.clock.now.clock c.args.clock.now.hand false y c.victim.new.pass c.victim.new.clock.hand) c.in-Ok-Sole.field-0-is c.in-Ok-Sole.ensures.answers in
    subst (λ (y : PassState). HasSole y c.in-Ok-Sole.sole) (sym c.sweep_clear.ensures) (sole_on c.victim.new.pass (cleared false c.victim.new.pass.sweep) c.in-Ok-Sole.sole there.there.1.has)

pub note-requires-clause-room : goal.note-requires-clause-room
note-requires-clause-room g c = room c.args.m.now c.args.pass.now c.args.clock.now c.requires.may c.left.ensures.lawful c.requires.free c.in-Ok-Sole.sole c.args.clock.now.hand c.victim.new.clock.hand c.victim.new.pass
    (subst (λ (y : Found). FoundThere c.args.pass.now c.args.clock.now.clock c.args.clock.now.hand false y c.victim.new.pass c.victim.new.clock.hand) c.in-Ok-Sole.field-0-is c.in-Ok-Sole.ensures.answers)
    g.P.HostPort g.P.HostStore c.args.tap.now c.evict-free.result.0 c.evict-free.result.1 c.evict-free.new.pass c.evict-free.new.tap
    (subst (λ (y : PassState). HasEvicted g.P.HostPort g.P.HostStore y c.args.tap.now c.in-Ok-Sole.sole c.evict-free.result.0 c.evict-free.result.1 c.evict-free.new.pass c.evict-free.new.tap) c.sweep_clear.ensures c.evict-free.ensures)

pub note-requires-clause-unnoted : goal.note-requires-clause-unnoted
note-requires-clause-unnoted g c = unnoted c.args.m.now c.args.pass.now c.args.clock.now c.requires.may c.left.ensures.lawful c.requires.free c.in-Ok-Sole.sole c.args.clock.now.hand c.victim.new.clock.hand c.victim.new.pass
    (subst (λ (y : Found). FoundThere c.args.pass.now c.args.clock.now.clock c.args.clock.now.hand false y c.victim.new.pass c.victim.new.clock.hand) c.in-Ok-Sole.field-0-is c.in-Ok-Sole.ensures.answers)
    g.P.HostPort g.P.HostStore c.args.tap.now c.evict-free.result.0 c.evict-free.result.1 c.evict-free.new.pass c.evict-free.new.tap
    (subst (λ (y : PassState). HasEvicted g.P.HostPort g.P.HostStore y c.args.tap.now c.in-Ok-Sole.sole c.evict-free.result.0 c.evict-free.result.1 c.evict-free.new.pass c.evict-free.new.tap) c.sweep_clear.ensures c.evict-free.ensures)

pub returns-in-Err-clause-evicts : goal.returns-in-Err-clause-evicts
returns-in-Err-clause-evicts g c = (none_left c.args.pass.now c.victim.new.pass c.args.clock.now.clock c.args.clock.now.hand c.victim.new.clock.hand c.in-Err.ensures.answers, refl)

pub returns-in-Err-clause-clock : goal.returns-in-Err-clause-clock
returns-in-Err-clause-clock g c = hand_moves c.args.clock.now c.victim.new.clock c.args.pass.now c.victim.new.pass c.victim.result c.requires.may.turn.hand_within c.victim.ensures.clock c.victim.ensures.answers

pub returns-in-Ok-Sole-clause-clock : goal.returns-in-Ok-Sole-clause-clock
returns-in-Ok-Sole-clause-clock g c = hand_moves c.args.clock.now c.victim.new.clock c.args.pass.now c.victim.new.pass c.victim.result c.requires.may.turn.hand_within c.victim.ensures.clock c.victim.ensures.answers

pub returns-in-Ok-Sole-clause-evicts : goal.returns-in-Ok-Sole-clause-evicts
returns-in-Ok-Sole-clause-evicts g c = evicted c.args.m.now c.args.pass.now c.args.clock.now c.requires.may c.left.ensures.lawful c.requires.free c.in-Ok-Sole.sole c.args.clock.now.hand c.victim.new.clock.hand c.victim.new.pass
    (subst (λ (y : Found). FoundThere c.args.pass.now c.args.clock.now.clock c.args.clock.now.hand false y c.victim.new.pass c.victim.new.clock.hand) c.in-Ok-Sole.field-0-is c.in-Ok-Sole.ensures.answers)
    g.P.HostPort g.P.HostStore c.args.tap.now c.evict-free.result.0 c.evict-free.result.1 c.evict-free.new.pass c.evict-free.new.tap
    (subst (λ (y : PassState). HasEvicted g.P.HostPort g.P.HostStore y c.args.tap.now c.in-Ok-Sole.sole c.evict-free.result.0 c.evict-free.result.1 c.evict-free.new.pass c.evict-free.new.tap) c.sweep_clear.ensures c.evict-free.ensures)
    c.note.new.pass c.note.ensures c.last_stamp.result c.last_stamp.ensures
