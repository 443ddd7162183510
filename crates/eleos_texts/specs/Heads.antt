-- Lines that headers of several texts have.
use Rattle.std.specs.Prelude.{ℕ, List, [], ◌∷◌, length, ◌&&◌, Result, codes}
use Rattle.eleos_texts.specs.declared.why.Why.{Why}
use Rattle.eleos_texts.specs.declared.why.Why.TheVariants.{Form, Range}
use Rattle.eleos_texts.specs.Fields.{is, is_key_length, is_hex, bytes_in}
use Rattle.eleos_texts.specs.Reasons.{unless, with_one, with_two}

-- the bytes of `key HEX`
abbrev pub key_line : List (List ℕ) → Result (List ℕ) Why
key_line = with_two (λ first key. unless (
    (is (codes "key") first && is_hex key, Form)
    ∷ (is_key_length (length (bytes_in key)), Range) ∷ [])
    (bytes_in key))

-- `start`
abbrev pub start_line : List (List ℕ) → Result (Unit {0}) Why
start_line = with_one (λ first. unless ((is (codes "start") first, Form) ∷ []) tt)
