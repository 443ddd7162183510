-- The lines before the first command, one after another.
use Rattle.std.specs.Prelude.{ℕ, ◌+◌, List, [], ◌∷◌, ◌++◌, length, Bool, false, ◌||◌, ◌==◌, Result, Ok, Err, codes, if◌then◌else◌}
use Rattle.std.specs.List.{slice_split}
use Rattle.eleos_base.specs.declared.plan.Plan.{Plan}
use Rattle.eleos_base.specs.declared.plan.EnclavePlan.{EnclavePlan}
use Rattle.eleos_base.specs.AesKey.{IsKeyLength}
use Rattle.eleos_base.specs.Plans.{IsGood}
use Rattle.eleos_trace.specs.declared.trace.Kind.{Kind}
use Rattle.eleos_texts.specs.declared.why.Why.{Why}
use Rattle.eleos_texts.specs.declared.why.Why.TheVariants.{Cut}
use Rattle.eleos_texts.specs.declared.why.Bad.{Bad}
use Rattle.eleos_trace.specs.declared.header.Header.{Header}
use Rattle.eleos_trace.specs.declared.header.NamedBlock.{NamedBlock}
use Rattle.eleos_texts.specs.Fields.{is, is_blank}
use Rattle.eleos_texts.specs.Heads.{key_line, start_line}
use Rattle.eleos_texts.specs.Reasons.{at_line, ◌>>=◌}
use Rattle.eleos_trace.specs.Homes.{enclave_line, caller_line}
use Rattle.eleos_trace.specs.Blocks.{with_blocks, block_line, AreGoodBlocks}
use Rattle.eleos_trace.specs.Header.{title_line, spare_line, wear_line}

-- the words of the first of these lines, which has this number and which a newline ends; and the lines behind it
abbrev pub next_words : ℕ → List (List ℕ) → Result (List (List ℕ) × List (List ℕ)) Bad
next_words line (text ∷ next ∷ texts) = Ok (slice_split is_blank text, next ∷ texts)
next_words line _ = Err (record { line = line; why = Cut })

-- what the reader of that line gives, and the lines behind it
abbrev pub next_line : {A : Type 0} → ℕ → (List (List ℕ) → Result A Why) → List (List ℕ) → Result (A × List (List ℕ)) Bad
next_line line reader texts = do
  words ← next_words line texts
  x ← at_line line (reader words.0)
  Ok (x, words.1)

-- the first word of a line
abbrev pub begins : List ℕ → List (List ℕ) → Bool
begins word [] = false
begins word (first ∷ more) = is word first

-- a line of several that begin with this word, of which there has to be one
abbrev pub is_one_of : {A : Type 0} → List ℕ → List A → List (List ℕ) → Bool
is_one_of word before words = length before == 0 || begins word words

-- the items of several lines, each read behind those before it, as long as such lines come; and the lines behind them
unfoldable pub items_of : {A : Type 0} → (List A → List (List ℕ) → Bool) → (List A → List (List ℕ) → Result A Why) → ℕ → List A → List (List ℕ) → Result (List A × List (List ℕ)) Bad
items_of goes_on reader line before (text ∷ next ∷ texts) = if goes_on before (slice_split is_blank text) then (do
  x ← at_line line (reader before (slice_split is_blank text))
  items_of goes_on reader (line + 1) (before ++ x ∷ []) (next ∷ texts)) else Ok (before, text ∷ next ∷ texts)
items_of goes_on reader line before _ = Err (record { line = line; why = Cut })

-- one enclave or more
abbrev pub enclaves_of : ℕ → List (List ℕ) → Result (List EnclavePlan × List (List ℕ)) Bad
enclaves_of line = items_of (is_one_of (codes "enclave")) enclave_line line []

-- one caller of these enclaves or more
abbrev pub callers_of : List EnclavePlan → ℕ → List (List ℕ) → Result (List ℕ × List (List ℕ)) Bad
callers_of enclaves line = items_of (is_one_of (codes "caller")) (caller_line enclaves) line []

-- no header block of the machine or more
abbrev pub blocks_of : Plan → ℕ → List (List ℕ) → Result (List NamedBlock × List (List ℕ)) Bad
blocks_of plan line = items_of (λ before words. begins (codes "block") words) (block_line plan) line []

-- the lines that say the kind and what the machine is made of, and the lines behind them
unfoldable pub machine_of : Kind → List (List ℕ) → Result (Plan × List (List ℕ)) Bad
machine_of kind lines = do
  title ← next_line 1 (title_line kind) lines
  enclaves ← enclaves_of 2 title.1
  spare ← next_line (length enclaves.0 + 2) (spare_line enclaves.0) enclaves.1
  callers ← callers_of enclaves.0 (length enclaves.0 + 3) spare.1
  wear ← next_line (length enclaves.0 + length callers.0 + 3) wear_line callers.1
  Ok (record { enclaves = enclaves.0; spare = spare.0; callers = callers.0; wear = wear.0; blocks = [] }, wear.1)

-- the lines up to those of enclaves and callers, each of which has a line, and up to the wear
abbrev pub machine_lines : Plan → ℕ
machine_lines plan = length plan.enclaves + length plan.callers + 3

-- the header of these lines, which begin a trace of this kind, and the lines behind it
unfoldable pub header_of : Kind → List (List ℕ) → Result (Header × List (List ℕ)) Bad
header_of kind lines = do
  machine ← machine_of kind lines
  key ← next_line (machine_lines machine.0 + 1) key_line machine.1
  blocks ← blocks_of machine.0 (machine_lines machine.0 + 2) key.1
  start ← next_line (machine_lines machine.0 + length blocks.0 + 2) start_line blocks.1
  Ok (record { kind = kind; plan = machine.0; key = key.0; blocks = blocks.0 }, start.1)

-- the lines of a header
abbrev pub header_lines : Header → ℕ
header_lines header = machine_lines header.plan + length header.blocks + 2

-- the machine of a header, with its blocks
abbrev pub plan_of : Header → Plan
plan_of header = with_blocks header.plan header.blocks

-- a good machine, a key of a good length, and blocks that the machine may have
pub record IsGoodHeader (header : Header) : Type 0 where
  pub plan : IsGood header.plan
  pub key : IsKeyLength (length header.key)
  pub blocks : AreGoodBlocks header.plan header.blocks
