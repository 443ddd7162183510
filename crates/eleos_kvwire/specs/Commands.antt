-- The lines of commands.
use Rattle.std.specs.Prelude.{ℕ, List, [], ◌∷◌, length, Bool, ◌&&◌, nat_le, nat_lt, Option, Some, None, Result, Ok, Err, codes, if◌then◌else◌}
use Rattle.std.specs.List.{list_all}
use Rattle.eleos_texts.specs.declared.why.Why.{Why}
use Rattle.eleos_texts.specs.declared.why.Why.TheVariants.{Form, Many, Range}
use Rattle.eleos_texts.specs.Fields.{is, is_numeral, number, is_up_to}
use Rattle.eleos_texts.specs.Reasons.{unless, with_one, with_two, with_two_and_more, ◌>>=◌}
use Rattle.eleos_kvwire.specs.declared.stage.SetLine.{SetLine}
use Rattle.eleos_kvwire.specs.declared.commands.Given.{Given}
use Rattle.eleos_kvwire.specs.declared.commands.Given.TheVariants.{Whole, Awaits}
use Rattle.eleos_kvwire.specs.declared.trace.KvCommand.{KvCommand}
use Rattle.eleos_kvwire.specs.declared.trace.KvAct.{KvAct}
use Rattle.eleos_kvwire.specs.declared.trace.KvAct.TheVariants.{Set, Get, Delete, Stat}

-- commands of a session
abbrev pub most_commands : ℕ
most_commands = 100000

-- bytes of a key
abbrev pub most_key : ℕ
most_key = 64

-- bytes of a value
abbrev pub most_value : ℕ
most_value = 512

-- a byte of a key
abbrev pub is_key_byte : ℕ → Bool
is_key_byte byte = nat_le 33 byte && nat_le byte 126

-- 1 to 64 bytes of 33 to 126
abbrev pub is_key : List ℕ → Bool
is_key text = nat_le 1 (length text) && nat_le (length text) most_key && list_all is_key_byte text

-- the number of one of so many clients, from 1
abbrev pub is_client : ℕ → List ℕ → Bool
is_client clients text = nat_le 1 (number text) && is_up_to clients text

-- one of so many clients, from 1, that a numeral says
abbrev pub client_of : ℕ → List ℕ → Option ℕ
client_of clients text = if is_client clients text then Some (number text) else None

-- `C VERB KEY`, behind so many commands: who gives it, and the key
abbrev pub keyed_line : ℕ → ℕ → List ℕ → List (List ℕ) → Result (ℕ × List ℕ) Why
keyed_line clients before client = with_one (λ key. unless (
    (is_numeral client && is_key key, Form)
    ∷ (nat_lt before most_commands, Many)
    ∷ (is_client clients client, Range) ∷ [])
    (number client, key))

-- `C set KEY N`
abbrev pub set_line : ℕ → ℕ → List ℕ → List (List ℕ) → Result SetLine Why
set_line clients before client = with_two (λ key len. unless (
    (is_numeral client && is_key key && is_numeral len, Form)
    ∷ (nat_lt before most_commands, Many)
    ∷ (is_client clients client && nat_le 1 (number len) && is_up_to most_value len, Range) ∷ [])
    (record { client = number client; key = key; len = number len }))

-- a command that is one line
abbrev pub whole : (List ℕ → KvAct) → Result (ℕ × List ℕ) Why → Result Given Why
whole act line = line >>= λ said. Ok (Whole (record { client = said.0; act = act said.1 }))

-- the line of a command, by its verb
abbrev pub command_by : ℕ → ℕ → List ℕ → List ℕ → List (List ℕ) → Result Given Why
command_by clients before client verb args =
    if is (codes "set") verb then (set_line clients before client args >>= λ set. Ok (Awaits set))
    else if is (codes "get") verb then whole Get (keyed_line clients before client args)
    else if is (codes "delete") verb then whole Delete (keyed_line clients before client args)
    else if is (codes "stat") verb then whole Stat (keyed_line clients before client args)
    else Err Form

-- the line of a command of one of so many clients, behind so many commands: the command, or what a set has before its value
abbrev pub command_line : ℕ → ℕ → List (List ℕ) → Result Given Why
command_line clients before = with_two_and_more (command_by clients before)

-- a set with its value
abbrev pub with_value : SetLine → List ℕ → KvCommand
with_value set value = record { client = set.client; act = Set set.key value }
