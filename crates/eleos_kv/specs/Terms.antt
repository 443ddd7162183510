-- What the shards' turnstile is told of its cells and entries.
use Rattle.std.specs.Prelude.{◌≡◌, ℕ, List, [], ◌∷◌}
use Rattle.eleos_base.specs.Terms.{Terms}
use Rattle.eleos_base.specs.Ties.{neither}
use Rattle.eleos_kvwire.specs.declared.trace.KvAct.{KvAct}
use Rattle.eleos_kvwire.specs.Sessions.{key_of}
use Rattle.eleos_shard.specs.declared.reply.KvReply.{KvReply}
use Rattle.eleos_shard.specs.Maps.{shard_of}
use Rattle.eleos_shard.specs.Steps.{Serves}
use Rattle.eleos_kv.specs.declared.commands.KvEntry.{KvEntry}
use Rattle.eleos_kv.specs.Cells.{CellState, ShardPart, no_shard, shard_part}

-- the command with this reply takes the cell of its shard from one part to another: by the same pass, at most three of whose stamps it takes
pub record Takes (act : KvAct) (reply : KvReply) (before after : ShardPart) : Type 0 where
  pub home : after.home ≡ before.home
  pub number : after.number ≡ before.number
  pub serves : Serves act reply before.facts after.facts

-- the cell of an entry's shard, of so many
abbrev pub cell_of : ℕ → KvEntry → ℕ
cell_of shards d = shard_of shards (key_of d.command.act)

-- Each cell is a shard, and an entry is a command with its reply, stamped by its client. The ground is the number of shards. Nothing is linked.
abbrev pub kv_terms : Terms CellState KvEntry ShardPart ℕ
kv_terms = record {
  part = shard_part;
  blank = no_shard;
  nowhere = 0;
  who = λ d. d.command.client;
  foot = λ shards d. cell_of shards d ∷ [];
  step = λ shards d before after. Takes d.command.act d.reply (before (cell_of shards d)) (after (cell_of shards d));
  bare = λ shards d. [];
  tie = λ shards d. neither;
}

-- a step reads and changes its shard alone
pub step_by : (act : KvAct) (reply : KvReply) (b a b' a' : ShardPart) → b' ≡ b → a' ≡ a → Takes act reply b a → Takes act reply b' a'
step_by act reply b a b' a' eb ea h = Rattle.std.proofs.Common.subst (λ (z : ShardPart × ShardPart). Takes act reply z.0 z.1) (Rattle.std.proofs.Common.sym {A = ShardPart × ShardPart} (λ i. (eb i, ea i))) h
