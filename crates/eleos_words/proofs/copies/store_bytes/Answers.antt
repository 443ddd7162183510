use Rattle.std.proofs.Common.{◌≡◌, ◌+◌, ap, ◌∙◌, sym, subst, ◌++◌, ◌∷◌, []}
use Rattle.eleos_words.specs.declared.layout.TheConstants.{BYTES}
use Rattle.eleos_words.specs.Bytes.{first_words}
use Rattle.eleos_words.specs.Layout.{place}
use Rattle.eleos_words.specs.Stores.{StoresAll}
use Rattle.eleos_words.specs.Told.{placed_from}
use Rattle.eleos_words.proofs.Copying.{first_words-more, length-first_words, stores-more}
use Rattle.eleos_words.proofs.copies.store_bytes.Goals as goal

pub loop-j-preserved : goal.loop-j-preserved
loop-j-preserved g c =
    let bytes = c.args.bytes.now in
    let j = c.loop-j.j in
    let at = place c.args.cell BYTES in
    let s = stores-more g.P.RingPort c.args.port.now c.loop-j.port c.store.new.self at (first_words j bytes) j c.word_in.result (length-first_words j bytes) c.loop-j.invariant
    c.store.ensures.wrote c.store.ensures.stored c.store.ensures.loaded c.store.ensures.calls in
    let more : first_words j bytes ++ c.word_in.result ∷ [] ≡ first_words (j + 1) bytes =
    ap (λ w. first_words j bytes ++ w ∷ []) c.word_in.ensures ∙ sym (first_words-more j bytes) in
    subst (λ ws. StoresAll g.P.RingPort c.args.port.now c.store.new.self (placed_from at ws)) more s
