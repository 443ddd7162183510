use Rattle.std.proofs.Common.{◌<◌, [], length, get_or-set_same, get_or-set_other, ap, ◌∙◌, arith, inl, inr}
use Rattle.std.proofs.lemmas.Bool.{cases_eq}
use Rattle.std.proofs.lemmas.List.{length-set}
use Rattle.eleos_lanes.specs.Planes.{block_at, vectors}
use Rattle.eleos_aes.proofs.cipher.round_keys.Goals as goal

pub keys-preserved : goal.keys-preserved
keys-preserved c =
    let n = c.keys.n in
    let keys = c.keys.keys in
    let i = c.keys.invariant in
    let own = c.spread.result in
    let within : n < length keys = omega (arith, i.0) in (
      length-set keys n own ∙ i.0,
      (λ k b below low. elim (cases_eq k n) [
        | inl same ↦
            rw same
            (ap (λ xs. block_at (vectors xs) b) (get_or-set_same keys n own [] within) ∙ c.spread.ensures b low ∙ c.key_block.ensures)
        | inr other ↦
            ap (λ xs. block_at (vectors xs) b) (get_or-set_other keys n k own [] other) ∙ i.1 k b (omega arith) low
      ]),
    )
