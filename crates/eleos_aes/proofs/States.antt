-- Round keys, and rounds, under a longer list of words.
use Rattle.std.proofs.Common.{◌≡◌, ℕ, zero, suc, ◌+◌, ◌-◌, ◌*◌, ◌≤◌, ◌<◌, List, [], take, drop, get_or, refl, subst, ◌∙◌, ap, arith}
use Rattle.std.proofs.lemmas.List.{get_or-take, get_or-drop, take-take, drop-take}
use Rattle.eleos_base.specs.AesState.{add_round_key, mix_columns, shift_rows, sub_bytes}
use Rattle.eleos_base.specs.AesCipher.{round_key, rounds}
use Rattle.eleos_lanes.specs.Planes.{add_block}
use Rattle.eleos_aes.specs.Sliced.{key_block}

-- word c of round key n, at place j of the words
pub get_or-round_key : (words : List (List ℕ)) (n c j : ℕ) → c < 4 → 4 * n + c ≡ j → get_or (round_key words n) c [] ≡ get_or words j []
get_or-round_key words n c j below place =
    get_or-take 4 (drop (4 * n) words) c [] below ∙ get_or-drop (4 * n) words c [] ∙ ap (λ k. get_or words k []) place

-- the round keys in the front of the words
pub round_key-take : (words : List (List ℕ)) (m n : ℕ) → 4 * n + 4 ≤ m → round_key (take m words) n ≡ round_key words n
round_key-take words m n le =
    let split : 4 * n + (m - 4 * n) ≡ m = omega arith in
    let front : take 4 (drop (4 * n) (take (4 * n + (m - 4 * n)) words)) ≡ take 4 (drop (4 * n) words) =
    ap (take 4) (drop-take (4 * n) (m - 4 * n) words) ∙ take-take 4 (m - 4 * n) (drop (4 * n) words) (omega arith) in
    rw split at front

-- the words behind the last round key of n rounds do not matter to these rounds
pub rounds-take : (words : List (List ℕ)) (block : List ℕ) (m n : ℕ) → 4 * n + 4 ≤ m → rounds (take m words) block n ≡ rounds words block n
unfolding rounds
rounds-take words block m zero le = ap (add_round_key block) (round_key-take words m 0 le)
rounds-take words block m (suc n) le =
    rw (rounds-take words block m n (omega arith), round_key-take words m (suc n) le)

-- a round key's bytes are added as its words
pub add_key_block : (s : List ℕ) (words : List (List ℕ)) (n : ℕ) → add_block s (key_block words n) ≡ add_round_key s (round_key words n)
unfolding add_block key_block add_round_key
add_key_block s words n = refl

-- one round more
pub rounds_next : (words : List (List ℕ)) (block : List ℕ) (n : ℕ)
    → add_round_key (mix_columns (shift_rows (sub_bytes (rounds words block n)))) (round_key words (n + 1)) ≡ rounds words block (n + 1)
unfolding rounds
rounds_next words block n =
    let next : suc n ≡ n + 1 = omega arith in
    subst (λ m. add_round_key (mix_columns (shift_rows (sub_bytes (rounds words block n)))) (round_key words m) ≡ rounds words block m) next refl
