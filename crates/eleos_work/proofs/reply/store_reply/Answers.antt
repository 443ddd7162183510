use Rattle.std.proofs.Common.{ℕ, ◌≤◌, ◌∙◌, length, arith, [], ◌∷◌}
use Rattle.eleos_words.specs.declared.layout.TheConstants.{BYTES, DONE, ID, LENGTH, STATE, STATUS}
use Rattle.eleos_words.specs.Bytes.{words_of, words_for}
use Rattle.eleos_words.specs.Layout.{place}
use Rattle.eleos_words.specs.Told.{placed, placed_from}
use Rattle.eleos_words.proofs.Copying.{length-first_words}
use Rattle.eleos_words.proofs.Tellings.{told-job, called-reply, AllPlaced-append, length-placed_from}
use Rattle.eleos_work.proofs.reply.store_reply.Goals as goal

pub returns : goal.returns
returns g c =
    let at = λ (j : ℕ). place c.args.cell j in
    let bytes = c.args.bytes.now in
    let xs = placed_from (at BYTES) (words_of bytes) in
    let few : length xs ≤ 128 = omega (arith, c.requires.few, length-placed_from (at BYTES) (words_of bytes), length-first_words (words_for (length bytes)) bytes) in
    record {
      stored = told-job _ _ _ _ _ _ (placed (at ID) c.args.id) (placed (at LENGTH) (length bytes)) (placed (at STATUS) c.args.status) (placed (at STATE) DONE) xs few
          c.requires.none c.store.ensures.stored c.store-2.ensures.stored c.store-3.ensures.stored c.store_bytes.ensures.stored c.store-4.ensures.stored;
      wrote = (
        c.store.ensures.wrote,
        (
          c.store-2.ensures.wrote,
          (
            c.store-3.ensures.wrote,
            AllPlaced-append g.P.RingPort.wrote xs (placed (at STATE) DONE ∷ []) c.store_bytes.ensures.wrote (c.store-4.ensures.wrote, tt),
          ),
        ),
      );
      loaded = c.store-4.ensures.loaded ∙ c.store_bytes.ensures.loaded ∙ c.store-3.ensures.loaded ∙ c.store-2.ensures.loaded ∙ c.store.ensures.loaded;
      calls = called-reply _ _ _ _ _ _ (placed (at ID) c.args.id) (placed (at LENGTH) (length bytes)) (placed (at STATUS) c.args.status) (placed (at STATE) DONE) xs
          c.store.ensures.calls c.store-2.ensures.calls c.store-3.ensures.calls c.store_bytes.ensures.calls c.store-4.ensures.calls;
    }
