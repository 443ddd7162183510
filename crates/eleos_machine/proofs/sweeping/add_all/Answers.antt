use Rattle.std.proofs.Common.{List, length, take, get_or, sym, ◌∙◌, ap, subst, arith}
use Rattle.std.proofs.lemmas.List.{length-take, take_all, take_more}
use Rattle.eleos_base.specs.declared.memory.Looked.{Looked}
use Rattle.eleos_core.specs.Parts.{Stamp}
use Rattle.eleos_plot.specs.Entries.{HasSweep, sweep_of, with_looked}
use Rattle.eleos_machine.specs.Sweeping.{swept}
use Rattle.eleos_machine.proofs.Sweeps.{has_sweep, more, none, sweep_is}
use Rattle.eleos_machine.proofs.sweeping.add_all.Goals as goal

pub loop-word-init : goal.loop-word-init
loop-word-init c = none c.args.draft.now c.requires.none c.requires.no_words

pub add_looked-requires-clause-sweeps : goal.add_looked-requires-clause-sweeps
add_looked-requires-clause-sweeps c = subst (λ (d : Stamp). HasSweep d.entry.event) (sym c.loop-word.invariant) (has_sweep c.args.draft.now.entry.event _ c.requires.sweeps)

pub add_looked-requires-clause-room : goal.add_looked-requires-clause-room
add_looked-requires-clause-room c =
    let words : List Looked = take c.loop-word.word-index c.args.words.now in
    let is = ap (λ (d : Stamp). length (sweep_of d.entry.event)) c.loop-word.invariant ∙ ap length (sweep_is c.args.draft.now.entry.event words c.requires.sweeps) in
    let size = length-take c.loop-word.word-index c.args.words.now in
    let inside = c.loop-word-test.true in let few = c.requires.few in omega (arith, is, size, inside, few)

pub loop-word-preserved : goal.loop-word-preserved
loop-word-preserved c =
    let word : Looked = get_or c.args.words.now c.loop-word.word-index (record { frame = 0; word = 0 }) in
    c.add_looked.ensures ∙ (ap (λ (d : Stamp). with_looked d word) c.loop-word.invariant ∙ (more c.args.draft.now (take c.loop-word.word-index c.args.words.now) word
    ∙ ap (λ ws. swept ws c.args.draft.now) (sym (take_more c.args.words.now c.loop-word.word-index (record { frame = 0; word = 0 }) c.loop-word-test.true))))

pub returns : goal.returns
returns c = c.loop-word.invariant ∙ ap (λ ws. swept ws c.args.draft.now) (take_all c.loop-word.word-index c.args.words.now c.loop-word-test.false)
