use Rattle.std.proofs.Common.{ℕ, ◌≤◌, ◌∙◌, length, arith, [], ◌∷◌}
use Rattle.eleos_words.specs.declared.layout.TheConstants.{BYTES, CALL, ID, LENGTH, POSTED, STATE}
use Rattle.eleos_words.specs.Bytes.{words_of, words_for}
use Rattle.eleos_words.specs.Layout.{place}
use Rattle.eleos_words.specs.Told.{placed, placed_from}
use Rattle.eleos_words.proofs.Copying.{length-first_words}
use Rattle.eleos_words.proofs.Tellings.{told-job, called-job, AllPlaced-append, length-placed_from}
use Rattle.eleos_ring.proofs.post.store_job.Goals as goal

pub returns : goal.returns
returns g c =
    let at = λ (j : ℕ). place c.args.cell j in
    let text = c.args.text.now in
    let xs = placed_from (at BYTES) (words_of text) in
    let few : length xs ≤ 128 = omega (arith, c.requires.few, length-placed_from (at BYTES) (words_of text), length-first_words (words_for (length text)) text) in
    record {
      stored = told-job _ _ _ _ _ _ (placed (at ID) c.args.id) (placed (at CALL) c.args.call) (placed (at LENGTH) (length text)) (placed (at STATE) POSTED) xs few
          c.glance.ensures.stored c.store.ensures.stored c.store-2.ensures.stored c.store-3.ensures.stored c.store_bytes.ensures.stored c.store-4.ensures.stored;
      wrote = (
        c.store.ensures.wrote,
        (
          c.store-2.ensures.wrote,
          (
            c.store-3.ensures.wrote,
            AllPlaced-append g.P.RingPort.wrote xs (placed (at STATE) POSTED ∷ []) c.store_bytes.ensures.wrote (c.store-4.ensures.wrote, tt),
          ),
        ),
      );
      loaded = c.store-4.ensures.loaded ∙ c.store_bytes.ensures.loaded ∙ c.store-3.ensures.loaded ∙ c.store-2.ensures.loaded ∙ c.store.ensures.loaded ∙ c.glance.ensures.loaded;
      calls = called-job (g.P.RingPort.calls c.args.port.now) _ _ _ _ _ _ (placed (at ID) c.args.id) (placed (at CALL) c.args.call) (placed (at LENGTH) (length text)) (placed (at STATE) POSTED) xs
          c.glance.ensures.calls c.store.ensures.calls c.store-2.ensures.calls c.store-3.ensures.calls c.store_bytes.ensures.calls c.store-4.ensures.calls;
    }
