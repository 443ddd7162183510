-- What was seen before a command: how many commands, how many of them rounds of the swapper or changes of shares, and the names that each caller bound.
use Rattle.std.specs.Prelude.{ℕ, ◌+◌, ◌-◌, List, length, replicate, Bool, true, false, ◌||◌, nat_lt, slice_index_or, slice_set, if◌then◌else◌}
use Rattle.std.specs.FinSet as set
use Rattle.std.specs.Ordering.{nat_cmp}
use Rattle.std.specs.Cmp.Lexicographic.{slice_cmp}
use Rattle.eleos_base.specs.Plans.{enclave_of}
use Rattle.eleos_trace.specs.declared.header.Header.{Header}
use Rattle.eleos_trace.specs.declared.seen.Seen.{Seen}
use Rattle.eleos_trace.specs.declared.trace.Line.{Line}
use Rattle.eleos_trace.specs.declared.word.Actor as actors
use Rattle.eleos_trace.specs.declared.word.Actor.TheVariants.{Caller}
use Rattle.eleos_trace.specs.declared.word.Word.{Word}
use Rattle.eleos_trace.specs.declared.word.Word.TheVariants.{Alloc, SwapRound, SetShare}
use Rattle.eleos_trace.specs.Blocks.{has_name}

-- commands of a trace
abbrev pub most_commands : ℕ
most_commands = 100000

-- one more command has room
abbrev pub has_room : Seen → Bool
has_room seen = nat_lt seen.commands most_commands

-- rounds of the swapper and changes of shares among them
abbrev pub most_rounds : ℕ
most_rounds = 1000

-- one more of these has room
abbrev pub has_round_room : Seen → Bool
has_round_room seen = nat_lt seen.rounds most_rounds

-- the command is a round of the swapper or a change of a share
abbrev pub is_round : Word → Bool
is_round (SwapRound enclave low) = true
is_round (SetShare enclave to) = true
is_round _ = false

-- names as a set
abbrev pub NameSet : Type 0
NameSet = set.FinSet (slice_cmp nat_cmp)

-- before the first command no caller has bound a name
abbrev pub nothing_seen : Header → Seen
nothing_seen header = record { names = replicate (length header.plan.callers) set.empty; commands = 0; rounds = 0 }

-- the names that the caller with this number has bound
abbrev pub names_of : List NameSet → ℕ → NameSet
names_of names number = slice_index_or names (number - 1) set.empty

-- names by their callers, with one more of this caller
abbrev pub with_name : List NameSet → ℕ → List ℕ → List NameSet
with_name names number name = slice_set names (number - 1) (set.insert (names_of names number) name)

-- the caller has bound the name, or a header block of its enclave has it
abbrev pub is_bound : Header → Seen → actors.Actor → List ℕ → Bool
is_bound header seen (Caller number) name = set.contains (names_of seen.names number) name || has_name header.blocks (enclave_of header.plan number) name
is_bound header seen _ name = false

-- an alloc of a caller binds its name
abbrev pub names_after : List NameSet → actors.Actor → Word → List NameSet
names_after names (Caller number) (Alloc name bytes) = with_name names number name
names_after names _ _ = names

-- how many rounds and changes there were after a command
abbrev pub rounds_after : ℕ → Word → ℕ
rounds_after rounds word = if is_round word then rounds + 1 else rounds

-- what was seen after a command
abbrev pub seen_after : Seen → Line → Seen
seen_after seen line = record { names = names_after seen.names line.actor line.command; commands = seen.commands + 1; rounds = rounds_after seen.rounds line.command }
