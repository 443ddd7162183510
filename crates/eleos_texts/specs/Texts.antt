-- The end of a text, and the printed spelling of bytes and reasons.
use Rattle.std.specs.Prelude.{ℕ, ◌*◌, ◌==◌, List, [], ◌∷◌, ◌++◌, Result, Ok, Err, codes, if◌then◌else◌}
use Rattle.std.specs.Fmt.{decimal}
use Rattle.hex.specs.Hex.{encode_lower}
use Rattle.eleos_texts.specs.declared.why.Bad.{Bad}
use Rattle.eleos_texts.specs.declared.why.Why.{Why}
use Rattle.eleos_texts.specs.declared.why.Why.TheVariants.{TooLarge, Cut, After, Form, Many, Actor, Range, Name, Enclave, BadSize, NoSpace, Owner, Later}

-- bytes of a text
abbrev pub most_text : ℕ
most_text = 16777216

-- what stands behind the end line: nothing
abbrev pub ended : ℕ → List (List ℕ) → Result (Unit {0}) Bad
ended line ([] ∷ []) = Ok tt
ended line texts = Err (record { line = line; why = After })

-- bytes in hex, in lower case, where a dash stands for none
abbrev pub hex_text : List ℕ → List ℕ
hex_text [] = codes "-"
hex_text (b ∷ bs) = encode_lower (b ∷ bs)

-- the bytes of that text, by the number of bytes
abbrev pub hex_length : ℕ → ℕ
hex_length bytes = if bytes == 0 then 1 else 2 * bytes

-- a word, a blank and a number
abbrev pub with_number : List ℕ → ℕ → List ℕ
with_number word number = word ++ 32 ∷ decimal number

-- `end N` and a newline
abbrev pub end_text : ℕ → List ℕ
end_text count = with_number (codes "end") count ++ 10 ∷ []

-- a reason, as it is printed
abbrev pub why_text : Why → List ℕ
why_text TooLarge = codes "toolarge"
why_text Cut = codes "cut"
why_text After = codes "after"
why_text Form = codes "form"
why_text Many = codes "many"
why_text Actor = codes "actor"
why_text Range = codes "range"
why_text Name = codes "name"
why_text Enclave = codes "enclave"
why_text BadSize = codes "badsize"
why_text NoSpace = codes "nospace"
why_text Owner = codes "owner"
why_text Later = codes "later"
