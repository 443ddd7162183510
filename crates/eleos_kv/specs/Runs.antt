-- Commands in the order of their stamps, as a run of one map.
use Rattle.std.specs.Prelude.{◌≡◌, ℕ, ◌<◌, List, [], ◌∷◌, map}
use Rattle.eleos_base.specs.declared.plot.Base.{Base}
use Rattle.eleos_base.specs.declared.plot.Event.{Event}
use Rattle.eleos_base.specs.Histories.{Legal, made, opened}
use Rattle.eleos_base.specs.Own.{AreTrue}
use Rattle.eleos_shard.specs.Maps.{KvMap, KvStep, map_after, no_keys}
use Rattle.eleos_kv.specs.declared.commands.KvEntry.{KvEntry}
use Rattle.eleos_kv.specs.Cells.{ShardPart}
use Rattle.eleos_kv.specs.Terms.{kv_terms}

-- these commands with their replies are a run from the map on
abbrev pub KvRunFrom : ℕ → KvMap → List KvEntry → Type 0
KvRunFrom shards map [] = Unit {0}
KvRunFrom shards map (d ∷ ds) = KvStep shards map d.command.act d.reply × KvRunFrom shards (map_after shards d.command.act d.reply map) ds

-- they are a run of one map, in which no key has a value at first
abbrev pub KvRun : ℕ → List KvEntry → Type 0
KvRun shards ds = KvRunFrom shards no_keys ds

-- the commands of a history with their replies, in the order of their stamps
abbrev pub commands_in : List (Event KvEntry ShardPart) → List KvEntry
commands_in h = map (λ e. e.entry) h

-- no shard has a key before the first command, and there is a shard
pub record OpensEmpty (b : Base ShardPart ℕ) : Type 0 where
  pub some : 0 < b.grounds
  pub none : (i : ℕ) → i < b.grounds → (opened kv_terms b i).facts.places ≡ []

-- what each shard's calls read is what its own calls wrote
abbrev pub ReadsTrue : Base ShardPart ℕ → List (Event KvEntry ShardPart) → Type 0
ReadsTrue b h = (i : ℕ) → i < b.grounds → AreTrue 1024 (made kv_terms b h i).facts.calls

-- The commands of any legal history of shards that began empty are a run of one map, where the reads of each shard are true
abbrev pub IsOneMap : Type 0
IsOneMap = (b : Base ShardPart ℕ) (h : List (Event KvEntry ShardPart)) → Legal kv_terms b h → OpensEmpty b → ReadsTrue b h → KvRun b.grounds (commands_in h)
