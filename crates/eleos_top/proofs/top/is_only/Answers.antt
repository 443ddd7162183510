use Rattle.std.proofs.Common.{◌≡◌, [], ◌∷◌, ap, sym, ◌∙◌, arith}
use Rattle.eleos_top.proofs.Inputs.{one_item}
use Rattle.eleos_top.proofs.top.is_only.Goals as goal

pub returns-in-len1 : goal.returns-in-len1
returns-in-len1 c =
    let words : c.args.words.now ≡ c.word-item.result ∷ [] = one_item c.args.words.now c.word-item.result (omega arith) ∙ ap (λ word. word ∷ []) (sym c.word-item.is) in
    rw words (
      (λ same. ap (λ bytes. bytes ∷ []) (rw c.as_str.ensures.value at (c.is_word.ensures.0 same))),
      (λ same. c.is_word.ensures.1 (rw c.as_str.ensures.value (cc))),
    )
