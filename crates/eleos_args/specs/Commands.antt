-- The words of the program's commands: run; replay; check plain; check full; serve; gcm; gen N; work N.
use Rattle.std.specs.Prelude.{ℕ, List, [], ◌∷◌, Bool, false, ◌==◌, Option, Some, None, option_map, codes, if◌then◌else◌}
use Rattle.eleos_texts.specs.Fields.{is, number_up_to}
use Rattle.eleos_args.specs.declared.command.Command.{Command}
use Rattle.eleos_args.specs.declared.command.Command.TheVariants.{Run, Replay, CheckPlain, CheckFull, Serve, Gcm, Gen, Work}

-- the largest number of 64 bits
abbrev pub most_u64 : ℕ
most_u64 = 18446744073709551615

-- the word begins with a hyphen
abbrev pub is_flag : List ℕ → Bool
is_flag [] = false
is_flag (c ∷ text) = c == 45

-- a command that is one word
abbrev pub single_command : List ℕ → Option Command
single_command word = if is word (codes "run") then Some Run
    else if is word (codes "replay") then Some Replay
    else if is word (codes "serve") then Some Serve
    else if is word (codes "gcm") then Some Gcm else None

-- how a log is checked
abbrev pub check_command : List ℕ → Option Command
check_command mode = if is mode (codes "plain") then Some CheckPlain
    else if is mode (codes "full") then Some CheckFull else None

-- a command that is a word with its value; a number is decimal, below 2^64 and has no leading zero
abbrev pub valued_command : List ℕ → List ℕ → Option Command
valued_command word value = if is word (codes "check") then check_command value
    else if is word (codes "gen") then option_map (λ n. Gen n) (number_up_to most_u64 value)
    else if is word (codes "work") then option_map (λ n. Work n) (number_up_to most_u64 value) else None

-- the command that a word says, alone or with a value
abbrev pub command_by : List ℕ → Option (List ℕ) → Option Command
command_by word None = single_command word
command_by word (Some value) = valued_command word value

-- the command that the words say
abbrev pub command_of : List (List ℕ) → Option Command
command_of [] = None
command_of (word ∷ []) = command_by word None
command_of (word ∷ value ∷ []) = command_by word (Some value)
command_of (word ∷ value ∷ other ∷ others) = None
