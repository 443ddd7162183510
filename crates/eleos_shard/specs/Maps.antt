-- Commands on one map from keys to values, and their replies.
use Rattle.std.specs.Prelude.{◌≡◌, ℕ, ◌+◌, ◌-◌, ◌%◌, ◌==◌, if◌then◌else◌, List, length, sum, Bool, true, false, Option, Some, None, IsSome}
use Rattle.std.specs.Map.{update}
use Rattle.std.specs.Str.{bytes_eq}
use Rattle.eleos_kvwire.specs.declared.trace.KvAct.{KvAct}
use Rattle.eleos_kvwire.specs.declared.trace.KvAct.TheVariants.{Set, Get, Delete, Stat}
use Rattle.eleos_kvwire.specs.Sessions.{key_of}
use Rattle.eleos_shard.specs.declared.reply.KvReply.{KvReply}
use Rattle.eleos_shard.specs.declared.reply.KvReply.TheVariants.{Stored, Full, NoSpace, Worn, Tampered, Value, Missing, Deleted, Size}

-- the value of each key that has one
abbrev pub Values : Type 0
Values = List ℕ → Option (List ℕ)

-- no key has a value
abbrev pub no_values : Values
no_values key = None

-- the keys that a shard may have
abbrev pub most_keys : ℕ
most_keys = 1024

-- the shard of a key: the sum of its bytes, modulo the number of shards
abbrev pub shard_of : ℕ → List ℕ → ℕ
shard_of shards key = sum key % shards

-- the values after a set with this reply
abbrev pub after_set : List ℕ → List ℕ → KvReply → Values → Values
after_set key value Stored values = update bytes_eq values key (Some value)
after_set key value _ values = values

-- the values after a delete with this reply
abbrev pub after_delete : List ℕ → KvReply → Values → Values
after_delete key Deleted values = update bytes_eq values key None
after_delete key _ values = values

-- the values after a command with this reply
abbrev pub after_act : KvAct → KvReply → Values → Values
after_act (Set key value) reply values = after_set key value reply values
after_act (Get key) reply values = values
after_act (Delete key) reply values = after_delete key reply values
after_act (Stat key) reply values = values

-- the key has no value, and its shard has as many keys as it may
pub record IsFull (here : Option (List ℕ)) (count : ℕ) : Type 0 where
  pub is_new : here ≡ None
  pub all : count ≡ most_keys

-- the replies that a set may get where its key has this value and its shard so many keys: full just where there is no room for the key
abbrev pub MaySet : Option (List ℕ) → ℕ → KvReply → Type 0
MaySet here count Full = IsFull here count
MaySet here count Stored = IsFull here count → ⊥
MaySet here count NoSpace = IsFull here count → ⊥
MaySet here count (Worn sub) = IsFull here count → ⊥
MaySet here count (Tampered sub) = IsFull here count → ⊥
MaySet here count _ = ⊥

-- the replies that a get may get where its key has this value: which value it is, stands in IsTrueGet
abbrev pub MayGet : Option (List ℕ) → KvReply → Type 0
MayGet here (Value text) = IsSome here
MayGet here (Tampered sub) = IsSome here
MayGet here Missing = here ≡ None
MayGet here _ = ⊥

-- the replies that a delete may get
abbrev pub MayDelete : Option (List ℕ) → KvReply → Type 0
MayDelete here Deleted = IsSome here
MayDelete here Missing = here ≡ None
MayDelete here _ = ⊥

-- the key has a value of n bytes
pub record HasLength (here : Option (List ℕ)) (n : ℕ) : Type 0 where
  pub value : List ℕ
  pub is_here : here ≡ Some value
  pub long : n ≡ length value

-- the replies that a stat may get
abbrev pub MayStat : Option (List ℕ) → KvReply → Type 0
MayStat here (Size n) = HasLength here n
MayStat here Missing = here ≡ None
MayStat here _ = ⊥

-- the replies that a command may get where its key has this value and its shard so many keys
abbrev pub MayAnswer : KvAct → KvReply → Option (List ℕ) → ℕ → Type 0
MayAnswer (Set key value) reply here count = MaySet here count reply
MayAnswer (Get key) reply here count = MayGet here reply
MayAnswer (Delete key) reply here count = MayDelete here reply
MayAnswer (Stat key) reply here count = MayStat here reply

-- a value that was got is the one in the map
abbrev pub IsTrueGet : KvReply → Option (List ℕ) → Type 0
IsTrueGet (Value text) here = here ≡ Some text
IsTrueGet _ here = Unit {0}

-- so it is of every get; other commands tell no value
abbrev pub IsTrueAnswer : KvAct → KvReply → Option (List ℕ) → Type 0
IsTrueAnswer (Get key) reply here = IsTrueGet reply here
IsTrueAnswer act reply here = Unit {0}

-- how many keys a shard has where a set was stored, and the key had this value
abbrev pub count_stored : Option (List ℕ) → ℕ → ℕ
count_stored None n = n + 1
count_stored (Some value) n = n

-- how many keys the shard has after a set with this reply, where the key had this value
abbrev pub count_set : KvReply → Option (List ℕ) → ℕ → ℕ
count_set Stored here n = count_stored here n
count_set _ here n = n

-- how many keys it has after a delete with this reply
abbrev pub count_delete : KvReply → ℕ → ℕ
count_delete Deleted n = n - 1
count_delete _ n = n

-- how many keys it has after a command with this reply
abbrev pub count_after : KvAct → KvReply → Option (List ℕ) → ℕ → ℕ
count_after (Set key value) reply here n = count_set reply here n
count_after (Get key) reply here n = n
count_after (Delete key) reply here n = count_delete reply n
count_after (Stat key) reply here n = n

-- one map: the values of the keys, and how many keys each shard has
pub record KvMap : Type 0 where
  pub values : Values
  pub counts : ℕ → ℕ

-- no key has a value
abbrev pub no_keys : KvMap
no_keys = record { values = no_values; counts = λ shard. 0 }

-- how many keys each shard has after a command with this reply
abbrev pub counts_after : ℕ → KvAct → KvReply → KvMap → ℕ → ℕ
counts_after shards act reply map shard = if shard == shard_of shards (key_of act) then count_after act reply (map.values (key_of act)) (map.counts shard) else map.counts shard

-- the map after a command with this reply
abbrev pub map_after : ℕ → KvAct → KvReply → KvMap → KvMap
map_after shards act reply map = record { values = after_act act reply map.values; counts = counts_after shards act reply map }

-- the command may get this reply from the map
pub record KvStep (shards : ℕ) (map : KvMap) (act : KvAct) (reply : KvReply) : Type 0 where
  pub may : MayAnswer act reply (map.values (key_of act)) (map.counts (shard_of shards (key_of act)))
  pub true : IsTrueAnswer act reply (map.values (key_of act))

-- the key's value may lie elsewhere after the command: only a set that stored and a delete move one
abbrev pub moves_set : List ℕ → KvReply → List ℕ → Bool
moves_set key Stored q = bytes_eq key q
moves_set key _ q = false

-- so it is of a delete that deleted
abbrev pub moves_delete : List ℕ → KvReply → List ℕ → Bool
moves_delete key Deleted q = bytes_eq key q
moves_delete key _ q = false

-- so it is of each command
abbrev pub moves : KvAct → KvReply → List ℕ → Bool
moves (Set key value) reply q = moves_set key reply q
moves (Get key) reply q = false
moves (Delete key) reply q = moves_delete key reply q
moves (Stat key) reply q = false
