use Rattle.std.proofs.Common.{◌≡◌, ◌+◌, ◌*◌, take, drop, ap, ap₂, ◌∙◌, arith}
use Rattle.eleos_base.specs.AesState.{mix_columns, shift_rows, sub_bytes}
use Rattle.eleos_base.specs.AesCipher.{rounds}
use Rattle.eleos_lanes.specs.Planes.{add_block}
use Rattle.eleos_aes.proofs.States.{add_key_block, rounds_next}
use Rattle.eleos_aes.proofs.cipher.encrypt_by.Goals as goal

pub rounds-init : goal.rounds-init
unfolding rounds
rounds-init c words b has low =
    c.add_planes-planes.ensures b low
    ∙ ap₂ add_block (c.planes_of.ensures b low) (has 0 b (omega arith) low)
    ∙ add_key_block (take 16 (drop (16 * b) c.args.blocks.now)) words 0

pub rounds-preserved : goal.rounds-preserved
rounds-preserved c words b has low =
    let n = c.rounds.round in
    let block = take 16 (drop (16 * b) c.args.blocks.now) in
    c.full_round-next.ensures b low
    ∙ ap₂ add_block
    (ap (λ s. mix_columns (shift_rows (sub_bytes s))) (c.rounds.invariant words b has low)) (has (n + 1) b (omega arith) low)
    ∙ add_key_block (mix_columns (shift_rows (sub_bytes (rounds words block n)))) words (n + 1)
    ∙ rounds_next words block n

pub returns : goal.returns
returns c words b has low =
    let k = c.args.key_words in
    let done : c.rounds.round ≡ k + 5 = omega arith in
    let before = rounds words (take 16 (drop (16 * b) c.args.blocks.now)) in
    c.put_blocks.ensures b low ∙ c.last_round.ensures b low
    ∙ ap₂ add_block
    (ap (λ s. shift_rows (sub_bytes s)) (c.rounds.invariant words b has low ∙ ap before done)) (has (k + 6) b (omega arith) low)
    ∙ add_key_block (shift_rows (sub_bytes (before (k + 5)))) words (k + 6)
