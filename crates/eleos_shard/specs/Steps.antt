-- What a command does to its shard.
use Rattle.std.specs.Prelude.{◌≡◌, ◌⊎◌, ℕ, ◌+◌, ◌≤◌, List, [], ◌∷◌, ◌++◌, length, count_by, Bool, true, false, Option, Some, None}
use Rattle.eleos_base.specs.declared.memory.Op.{Op}
use Rattle.eleos_base.specs.declared.memory.Op.TheVariants as ops
use Rattle.eleos_base.specs.declared.memory.Reply.{Reply}
use Rattle.eleos_base.specs.declared.memory.Reply.TheVariants as replies
use Rattle.eleos_base.specs.declared.refusals.AccessRefused.{AccessRefused}
use Rattle.eleos_base.specs.declared.refusals.AccessRefused.TheVariants as accesses
use Rattle.eleos_base.specs.Own.{IsOwnRange, Said, own}
use Rattle.eleos_base.specs.SubMemory.{IsWriteFault, MemoryState, owned}
use Rattle.eleos_kvwire.specs.declared.trace.KvAct.{KvAct}
use Rattle.eleos_kvwire.specs.declared.trace.KvAct.TheVariants.{Set, Get, Delete, Stat}
use Rattle.eleos_kvwire.specs.Sessions.{key_of}
use Rattle.eleos_sslab.specs.declared.slab.ObjId.{ObjId}
use Rattle.eleos_sslab.specs.declared.slab.SlabRefused.{SlabRefused}
use Rattle.eleos_sslab.specs.declared.slab.SlabRefused.TheVariants as slabs
use Rattle.eleos_shard.specs.declared.reply.KvReply.{KvReply}
use Rattle.eleos_shard.specs.declared.reply.KvReply.TheVariants.{Stored, Full, NoSpace, Worn, Tampered, Value, Missing, Size}
use Rattle.eleos_sslab.specs.Slabs.{len_of}
use Rattle.eleos_shard.specs.Keys.{id_of}
use Rattle.eleos_shard.specs.Maps.{MayAnswer, after_act, count_after, moves}
use Rattle.eleos_shard.specs.Shards.{IsShard, ShardFacts, ShardState, count_of, facts_of, place_at, values_of}

-- the call stands in the list
abbrev pub Stands : Said → List Said → Type 0
Stands call [] = ⊥
Stands call (one ∷ calls) = (call ≡ one) ⊎ Stands call calls

-- an alloc
abbrev pub is_alloc : Op → Bool
is_alloc (ops.Alloc n) = true
is_alloc op = false

-- a free
abbrev pub is_free : Op → Bool
is_free (ops.Free at) = true
is_free op = false

-- a read or a write
abbrev pub is_access : Op → Bool
is_access (ops.Read at n) = true
is_access (ops.Write at bytes) = true
is_access op = false

-- an alloc is of one sub-page at most
abbrev pub IsSmall : Op → Type 0
IsSmall (ops.Alloc n) = n ≤ 1024
IsSmall op = Unit {0}

-- so is each of these calls
abbrev pub AreSmall : List Said → Type 0
AreSmall [] = Unit {0}
AreSmall (call ∷ calls) = IsSmall call.0 × AreSmall calls

-- so many of the calls are of this kind
abbrev pub count_calls : (Op → Bool) → List Said → ℕ
count_calls test calls = count_by (λ (call : Said). test call.0) calls

-- the calls of one command: at most one alloc, of at most 1,024 bytes, one free, and one read or write
pub record IsPiece (calls : List Said) : Type 0 where
  pub one_alloc : count_calls is_alloc calls ≤ 1
  pub one_free : count_calls is_free calls ≤ 1
  pub one_access : count_calls is_access calls ≤ 1
  pub small : AreSmall calls
  pub few : length calls ≤ 3

-- the value was written, whole, where it lies then
pub record IsWritten (key value : List ℕ) (after : ShardFacts) (calls : List Said) : Type 0 where
  pub at : Rattle.eleos_shard.specs.Shards.Place
  pub here : place_at after.places key ≡ Some at
  pub whole : at.len ≡ length value
  pub stands : Stands (ops.Write at.at value, replies.Done) calls

-- the key's value was read where it lies, with this reply, and nothing else was done
pub record IsRead (key : List ℕ) (before : ShardFacts) (reply : Reply) (calls : List Said) : Type 0 where
  pub at : Rattle.eleos_shard.specs.Shards.Place
  pub here : place_at before.places key ≡ Some at
  pub range : IsOwnRange 1024 (own 1024 before.calls) at.at at.len
  pub one : calls ≡ (ops.Read at.at at.len, reply) ∷ []

-- a call was refused so
pub record IsRefused (reply : Reply) (calls : List Said) : Type 0 where
  pub op : Op
  pub stands : Stands (op, reply) calls

-- what the calls of a set show of its reply: a value that was stored was written, and a refusal is that of a call
abbrev pub TellSet : List ℕ → List ℕ → KvReply → ShardFacts → List Said → Type 0
TellSet key value Stored after calls = IsWritten key value after calls
TellSet key value NoSpace after calls = IsRefused replies.NoSpace calls
TellSet key value (Worn sub) after calls = IsRefused (replies.Worn sub) calls
TellSet key value (Tampered sub) after calls = IsRefused (replies.Tampered sub) calls
TellSet key value reply after calls = calls ≡ []

-- what the calls of a get show: one read, or none
abbrev pub TellGet : List ℕ → KvReply → ShardFacts → List Said → Type 0
TellGet key (Value text) before calls = IsRead key before (replies.Text text) calls
TellGet key (Tampered sub) before calls = IsRead key before (replies.Tampered sub) calls
TellGet key reply before calls = calls ≡ []

-- what the calls of a command show of its reply
abbrev pub Tell : KvAct → KvReply → ShardFacts → ShardFacts → List Said → Type 0
Tell (Set key value) reply before after calls = TellSet key value reply after calls
Tell (Get key) reply before after calls = TellGet key reply before calls
Tell (Delete key) reply before after calls = count_calls is_access calls ≡ 0
Tell (Stat key) reply before after calls = calls ≡ []

-- The command with this reply takes the shard from the facts before to those after. Its piece of calls is all that the owner called, at the cost of at most one of the calls
-- left for each. The values and the number of keys are those of the one map, and each value lies where it lay, but one that was stored or deleted.
pub record Serves (act : KvAct) (reply : KvReply) (before after : ShardFacts) : Type 0 where
  pub piece : List Said
  pub calls : after.calls ≡ before.calls ++ piece
  pub left : before.left ≤ after.left + length piece
  pub shape : IsPiece piece
  pub tells : Tell act reply before after piece
  pub may : MayAnswer act reply (values_of before (key_of act)) (count_of before)
  pub values : (key : List ℕ) → values_of after key ≡ after_act act reply (values_of before) key
  pub count : count_of after ≡ count_after act reply (values_of before (key_of act)) (count_of before)
  pub places : (key : List ℕ) → moves act reply key ≡ false → place_at after.places key ≡ place_at before.places key

module _ {O : Type 0} where
  -- the command was served with this reply, on a shard that is one still, in a memory with the owner that it had
  pub record HasServed (m : MemoryState O) (s : ShardState) (act : KvAct) (reply : KvReply) (m' : MemoryState O) (s' : ShardState) : Type 0 where
    pub serves : Serves act reply (facts_of m s) (facts_of m' s')
    pub origin : m'.origin ≡ m.origin
    pub shard : IsShard (owned m') s'

-- why a set that the slab refuses may be refused: for want of space, or by a write
abbrev pub IsSetRefusal : SlabRefused → Type 0
IsSetRefusal slabs.BadSize = ⊥
IsSetRefusal slabs.Full = ⊥
IsSetRefusal slabs.NoSpace = Unit {0}
IsSetRefusal (slabs.Access why) = IsWriteFault why

-- the reply of a set whose write was refused
abbrev pub write_refusal : AccessRefused → KvReply
write_refusal (accesses.Worn sub) = Worn sub
write_refusal (accesses.Tampered sub) = Tampered sub
write_refusal why = Missing

-- the reply of a set that the slab refused
abbrev pub set_refusal : SlabRefused → KvReply
set_refusal slabs.NoSpace = NoSpace
set_refusal (slabs.Access why) = write_refusal why
set_refusal why = Full

-- the reply of a get whose read was refused
abbrev pub get_refusal : AccessRefused → KvReply
get_refusal (accesses.Tampered sub) = Tampered sub
get_refusal why = Missing

-- the reply of a stat whose key has this id
abbrev pub size_of : ShardState → Option ObjId → KvReply
size_of s None = Missing
size_of s (Some id) = Size (len_of s.blocks id)

-- the reply of a stat
abbrev pub stat_reply : ShardState → List ℕ → KvReply
stat_reply s key = size_of s (id_of s.keys key)
