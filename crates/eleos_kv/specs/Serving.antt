-- What it takes to serve a command, and what it does.
use Rattle.std.specs.Prelude.{◌≡◌, ℕ, ◌+◌, ◌*◌, ◌<◌, ◌≤◌, List, [], ◌∷◌, length}
use Rattle.eleos_base.specs.Histories.{opened}
use Rattle.eleos_kvwire.specs.declared.trace.KvCommand.{KvCommand}
use Rattle.eleos_kvwire.specs.Sessions.{IsSized}
use Rattle.eleos_machine.specs.Machines.{Site}
use Rattle.eleos_shard.specs.declared.reply.KvReply.{KvReply}
use Rattle.eleos_turn.specs.Hands.{Goes, HandState, Home}
use Rattle.eleos_kv.specs.declared.commands.KvEntry.{KvEntry}
use Rattle.eleos_kv.specs.Cells.{CellState, ShardPart, shard_part}
use Rattle.eleos_kv.specs.Terms.{cell_of, kv_terms}

-- the turnstile over the shards
abbrev pub Counter : Type 0
Counter = Home ShardPart ℕ

-- a client's hand there
abbrev pub KvHandState : Type 0
KvHandState = HandState KvEntry ShardPart ℕ

-- the shards: their machine, and the turnstile over them
pub record KvState : Type 0 where
  pub machine : Site
  pub all : Counter

-- a shard before the first command: its pass has made nothing and has all its stamps, and no key has a value
pub record IsNewPart (z : Site) (i : ℕ) (p : ShardPart) : Type 0 where
  pub home : p.home ≡ z
  pub number : p.number ≡ i + 1
  pub left : p.facts.left ≡ z.base.each
  pub calls : p.facts.calls ≡ []
  pub places : p.facts.places ≡ []

-- shard i has the machine's caller i + 1, and however many commands come, each pass has the stamps that one more needs
pub record IsKv (s : KvState) : Type 0 where
  pub some : 0 < length s.all.base.opening
  pub small : length s.all.base.opening ≤ 8
  pub shards : s.all.base.grounds ≡ length s.all.base.opening
  pub new : (i : ℕ) → i < length s.all.base.opening → IsNewPart s.machine i (opened kv_terms s.all.base i)
  pub room : 3 * (s.all.base.hands * s.all.base.each) ≤ s.machine.base.each

-- the command is of the hand's client, and the hand is one of these shards', has no turn, and a stamp left
pub record CanServe (s : KvState) (h : KvHandState) (command : KvCommand) : Type 0 where
  pub home : h.home ≡ s.all
  pub idle : h.turns ≡ []
  pub client : h.number ≡ command.client
  pub made : 0 < h.number
  pub left : 0 < h.left
  pub sized : IsSized command.act

-- a command with its reply
abbrev pub entry_of : KvCommand → KvReply → KvEntry
entry_of command reply = record { command = command; reply = reply }

-- the command was served: it is the hand's one new entry, at this stamp
pub record HasServed (h : KvHandState) (command : KvCommand) (reply : KvReply) (stamp : ℕ) (h' : KvHandState) : Type 0 where
  pub goes : Goes kv_terms h h' ((stamp, entry_of command reply) ∷ [])
  pub idle : h'.turns ≡ []

-- nothing was done
pub record HasWaited (h h' : KvHandState) : Type 0 where
  pub goes : Goes kv_terms h h' []
  pub idle : h'.turns ≡ []

-- the parts that an entry leaves in the cells that it touches, where this value goes back to its shard
abbrev pub kept_of : ℕ → KvEntry → CellState → List (ℕ × ShardPart)
kept_of shards d c = (cell_of shards d, shard_part c) ∷ []
