-- The cipher of AES on one block (FIPS 197, 5.1).
use Rattle.std.specs.Prelude.{ℕ, zero, suc, ◌+◌, ◌*◌, ◌/◌, List, length, take, drop}
use Rattle.eleos_base.specs.AesState.{sub_bytes, shift_rows, mix_columns, add_round_key}
use Rattle.eleos_base.specs.AesKey.{first_words}

-- the four words of round key n
abbrev pub round_key : List (List ℕ) → ℕ → List (List ℕ)
round_key words n = take 4 (drop (4 * n) words)

-- the state after the first round key and n rounds that mix columns (5.1)
unfoldable pub rounds : List (List ℕ) → List ℕ → ℕ → List ℕ
rounds words block zero = add_round_key block (round_key words 0)
rounds words block (suc n) =
    add_round_key (mix_columns (shift_rows (sub_bytes (rounds words block n))))
    (round_key words (suc n))

-- the last round, which does not mix columns (5.1)
abbrev pub last_round : List (List ℕ) → List ℕ → ℕ → List ℕ
last_round words state n = add_round_key (shift_rows (sub_bytes state)) (round_key words n)

-- the cipher under a key of Nk words, with Nk + 6 rounds, on 16 bytes (5.1)
unfoldable pub aes : List ℕ → List ℕ → List ℕ
aes key block =
    let nk = length key / 4 in
    let words = first_words key (4 * (nk + 7)) in
    last_round words (rounds words block (nk + 5)) (nk + 6)
