-- The blocks of a draft lie one after another in its bytes.
use Rattle.std.proofs.Common.{◌≡◌, ℕ, zero, suc, ◌*◌, ◌≤◌, List, [], ◌∷◌, ◌++◌, length, take, drop, ◌∙◌, ap, arith, subst}
use Rattle.std.proofs.Math.Seq.{take-length}
use Rattle.std.proofs.lemmas.List.{drop-append-le, length-drop, take-append-le}
use Rattle.eleos_plot.specs.Drafts.{blocks_in}

-- one more block behind them
pub blocks_in-append : (n : ℕ) (bytes block : List ℕ) → length bytes ≡ 1024 * n → length block ≡ 1024 → blocks_in (suc n) (bytes ++ block) ≡ blocks_in n bytes ++ block ∷ []
blocks_in-append zero [] block e e' = ap (λ text. text ∷ []) (subst (λ size. take size block ≡ block) e' (take-length block))
blocks_in-append zero (byte ∷ bytes) block e e' = cc
blocks_in-append (suc n) bytes block e e' =
    let long : 1024 ≤ length bytes = omega arith in
    let left : length (drop 1024 bytes) ≡ 1024 * n = let is = length-drop 1024 bytes in omega arith in
    ap (λ text. text ∷ blocks_in (suc n) (drop 1024 (bytes ++ block))) (take-append-le 1024 bytes block long)
    ∙ (ap (λ rest. take 1024 bytes ∷ blocks_in (suc n) rest) (drop-append-le 1024 bytes block long)
    ∙ ap (λ rest. take 1024 bytes ∷ rest) (blocks_in-append n (drop 1024 bytes) block left e'))
