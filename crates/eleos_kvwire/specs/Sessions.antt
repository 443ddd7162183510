-- What every session keeps to.
use Rattle.std.specs.Prelude.{◌≡◌, ℕ, ◌≤◌, List, [], length, All, IsTrue}
use Rattle.eleos_base.specs.AesKey.{IsKeyLength}
use Rattle.eleos_base.specs.Plans.{IsGood}
use Rattle.eleos_kvwire.specs.Commands.{is_key}
use Rattle.eleos_kvwire.specs.declared.trace.KvCommand.{KvCommand}
use Rattle.eleos_kvwire.specs.declared.trace.KvTrace.{KvTrace}
use Rattle.eleos_kvwire.specs.declared.trace.KvAct.{KvAct}
use Rattle.eleos_kvwire.specs.declared.trace.KvAct.TheVariants.{Set, Get, Delete, Stat}

-- the key of an act
abbrev pub key_of : KvAct → List ℕ
key_of (Set key value) = key
key_of (Get key) = key
key_of (Delete key) = key
key_of (Stat key) = key

-- a value has 1 to 512 bytes
abbrev pub IsSized : KvAct → Type 0
IsSized (Set key value) = (1 ≤ length value) × (length value ≤ 512)
IsSized _ = Unit {0}

-- a command of one of so many clients
pub record IsCommand (clients : ℕ) (command : KvCommand) : Type 0 where
  pub from_one : 1 ≤ command.client
  pub within : command.client ≤ clients
  pub key : IsTrue (is_key (key_of command.act))
  pub value : IsSized command.act

-- a good machine without header blocks and with a caller for each of 1 to 8 shards, a key of a good length, 1 to 8 clients, and at most 100,000 commands of theirs
pub record IsSession (trace : KvTrace) : Type 0 where
  pub good : IsGood trace.plan
  pub no_blocks : trace.plan.blocks ≡ []
  pub key : IsKeyLength (length trace.key)
  pub some_shard : 1 ≤ trace.shards
  pub shards : trace.shards ≤ 8
  pub callers : length trace.plan.callers ≡ trace.shards
  pub some_client : 1 ≤ trace.clients
  pub clients : trace.clients ≤ 8
  pub commands : All (IsCommand trace.clients) trace.commands
  pub few : length trace.commands ≤ 100000
