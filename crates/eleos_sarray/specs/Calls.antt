-- What each call on an array asks of its memory, and what is left of the items.
use Rattle.std.specs.Prelude.{◌≡◌, ℕ, ◌*◌, ◌<◌, List, [], ◌∷◌, ◌++◌, length, map, drop, sum, replicate, Result, Ok, Err}
use Rattle.std.specs.List.{range_with_len}
use Rattle.eleos_base.specs.declared.memory.Op.TheVariants as ops
use Rattle.eleos_base.specs.declared.memory.Reply.{Reply}
use Rattle.eleos_base.specs.declared.memory.Reply.TheVariants as replies
use Rattle.eleos_base.specs.declared.refusals.AccessRefused.{AccessRefused}
use Rattle.eleos_base.specs.declared.refusals.AllocRefused.{AllocRefused}
use Rattle.eleos_base.specs.Answers.{access_refusal_reply, alloc_reply}
use Rattle.eleos_base.specs.Lists.{map_from}
use Rattle.eleos_base.specs.Own.{IsNew, Said, block_of}
use Rattle.eleos_base.specs.SubMemory.{HasMade, MemoryState, owned}
use Rattle.eleos_sarray.specs.declared.array.SArray.{SArray}
use Rattle.eleos_sarray.specs.declared.array.Stopped.{Stopped}
use Rattle.eleos_sarray.specs.Arrays.{IsArray, bytes_of, item_at, items}

-- the answer of the alloc that made an array
abbrev pub made_reply : Result SArray AllocRefused → Reply
made_reply (Ok a) = replies.Got a.at
made_reply (Err why) = alloc_reply (Err why)

-- the answer of the read of an item
abbrev pub item_reply : Result ℕ AccessRefused → Reply
item_reply (Ok value) = replies.Text (bytes_of value)
item_reply (Err why) = access_refusal_reply why

-- the read of an item, answered with this number
abbrev pub item_read : SArray → ℕ → ℕ → Said
item_read a i value = (ops.Read (item_at a i) 8, replies.Text (bytes_of value))

-- the write of a number to an item, with this reply
abbrev pub item_write : SArray → ℕ → ℕ → Reply → Said
item_write a i value reply = (ops.Write (item_at a i) (bytes_of value), reply)

-- the writes of a number to the first n items
abbrev pub front_writes : SArray → ℕ → ℕ → List Said
front_writes a value n = map (λ i. item_write a i value replies.Done) (range_with_len 0 n)

-- the writes of `fill`, with the one at which it stopped
abbrev pub fill_writes : SArray → ℕ → Result (Unit {0}) Stopped → List Said
fill_writes a value (Ok done) = front_writes a value a.len
fill_writes a value (Err stopped) = front_writes a value stopped.at ++ item_write a stopped.at value (access_refusal_reply stopped.why) ∷ []

-- the items after `fill`: as far as it came, all are the number
abbrev pub filled : ℕ → Result (Unit {0}) Stopped → List ℕ → List ℕ
filled value (Ok done) before = replicate (length before) value
filled value (Err stopped) before = replicate stopped.at value ++ drop stopped.at before

-- the reads of the first items, answered with these numbers
abbrev pub front_reads : SArray → List ℕ → List Said
front_reads a values = map_from (item_read a) 0 values

-- the reads of `sum`, with the one at which it stopped
abbrev pub sum_reads : SArray → List ℕ → Result ℕ Stopped → List Said
sum_reads a values (Ok total) = front_reads a values
sum_reads a values (Err stopped) = front_reads a values ++ (ops.Read (item_at a stopped.at) 8, access_refusal_reply stopped.why) ∷ []

-- these numbers were read before this answer: those of all items, or of those before the one at which it stopped
abbrev pub SumsTo : SArray → List ℕ → Result ℕ Stopped → Type 0
SumsTo a values (Ok total) = (length values ≡ a.len) × (total ≡ sum values)
SumsTo a values (Err stopped) = (length values ≡ stopped.at) × (stopped.at < a.len)

module _ {O : Type 0} where
  -- the array was made, all zeros, in a new block
  pub record IsMade (m : MemoryState O) (len : ℕ) (a : SArray) (m' : MemoryState O) : Type 0 where
    pub many : a.len ≡ len
    pub new : IsNew 1024 (owned m) (block_of 1024 a.at (8 * len))
    pub array : IsArray (owned m') a
    pub zeros : items (owned m') a ≡ replicate len 0

  -- the items were read in their order, and added up
  pub record HasSummed (m : MemoryState O) (a : SArray) (result : Result ℕ Stopped) (m' : MemoryState O) : Type 0 where
    pub values : List ℕ
    pub sums : SumsTo a values result
    pub made : HasMade m (sum_reads a values result) m'
