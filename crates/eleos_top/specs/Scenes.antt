-- A replay between two commands, and what a command means there.
use Rattle.std.specs.Prelude.{ℕ, ◌+◌, ◌-◌, List, length, map, Bool, true, slice_index_or, slice_set}
use Rattle.eleos_base.specs.declared.memory.Reply.{Reply}
use Rattle.eleos_base.specs.declared.plan.Plan.{Plan}
use Rattle.eleos_core.specs.State.{History}
use Rattle.eleos_host.specs.declared.hand.Act.{Act}
use Rattle.eleos_host.specs.declared.hand.Act.TheVariants as acts
use Rattle.eleos_host.specs.Stores.{Store, flipped, is_kept, kept_at, restored, swapped}
use Rattle.eleos_meaning.specs.declared.meanings.Meaning.{Meaning}
use Rattle.eleos_meaning.specs.declared.names.NameTable.{NameTable}
use Rattle.eleos_meaning.specs.Meanings.{meaning_of}
use Rattle.eleos_meaning.specs.Names.{Names, header_names, names_after, no_names}
use Rattle.eleos_meaning.specs.NameTable.{names_in}
use Rattle.eleos_trace.specs.declared.trace.Line.{Line}
use Rattle.eleos_trace.specs.declared.trace.Trace.{Trace}
use Rattle.eleos_trace.specs.declared.word.Actor as actors
use Rattle.eleos_trace.specs.declared.word.Actor.TheVariants.{Caller, Swapper, Balloon, Host}
use Rattle.eleos_trace.specs.declared.word.Word.{Word}

-- what happened to the machine, last entry first; what the host has; and each caller's names
pub record Scene : Type 0 where
  pub past : History
  pub store : Store
  pub names : List Names

-- the names of these tables, each caller's
abbrev pub all_names : List NameTable → List Names
all_names tables = map names_in tables

-- the names of the caller with this number
abbrev pub names_of : List Names → ℕ → Names
names_of all who = slice_index_or all (who - 1) no_names

-- each caller's names after that one got this reply to a command
abbrev pub all_after : ℕ → Word → Reply → List Names → List Names
all_after who word reply all = slice_set all (who - 1) (names_after word reply (names_of all who))

-- each caller's names before the first command: the header blocks of its enclave
abbrev pub opening_of : Trace → List Names
opening_of trace = map (header_names trace) trace.plan.callers

-- the number that an entry of the actor has: the swapper and the balloon come behind the callers
abbrev pub who_of : Plan → actors.Actor → ℕ
who_of k (Caller number) = number
who_of k Swapper = length k.callers + 1
who_of k Balloon = length k.callers + 2
who_of k Host = 0

-- what a line means in a scene
abbrev pub meaning : Plan → Scene → Line → Meaning
meaning k scene line = meaning_of k (names_of scene.names (who_of k line.actor)) line.command

-- what the host has after an act, and whether the act did anything
abbrev pub store_after : Act → Store → Store
store_after (acts.Flip place bit) store = flipped store place bit
store_after (acts.Swap a b) store = swapped store a b
store_after (acts.Keep place) store = kept_at store place
store_after (acts.Restore place) store = restored store place

-- whether an act did anything: all do, but to restore a place of which nothing was kept
abbrev pub is_done : Act → Store → Bool
is_done (acts.Restore place) store = is_kept store place
is_done act store = true
