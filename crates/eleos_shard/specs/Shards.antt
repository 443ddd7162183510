-- What contracts see of a shard, and what of it the commands that it served fix.
use Rattle.std.specs.Prelude.{◌≡◌, ℕ, ◌≤◌, List, [], length, map, replicate, Option, option_map}
use Rattle.std.specs.Map.{lookup}
use Rattle.std.specs.Str.{bytes_eq}
use Rattle.eleos_base.specs.declared.memory.Addr.{Addr}
use Rattle.eleos_base.specs.Own.{Private, Said, own, text_at}
use Rattle.eleos_base.specs.SubMemory.{MemoryState}
use Rattle.eleos_sslab.specs.declared.block.SlabBlock.{SlabBlock}
use Rattle.eleos_sslab.specs.declared.slab.ObjId.{ObjId}
use Rattle.eleos_sslab.specs.Blocks.{empty_block}
use Rattle.eleos_sslab.specs.Slabs.{IsSlab, address_of, len_of}
use Rattle.eleos_shard.specs.Keys.{IsKeyed, Keys}
use Rattle.eleos_shard.specs.Maps.{Values, most_keys}

-- the blocks of a shard's slab: one more than it may have keys, so that the slab is never full
abbrev pub most_blocks : ℕ
most_blocks = 1025

-- a shard: the blocks of its slab, and its keys
pub record ShardState : Type 0 where
  pub blocks : List SlabBlock
  pub keys : Keys

-- a shard without a key
abbrev pub empty_shard : ShardState
empty_shard = record { blocks = replicate most_blocks empty_block; keys = [] }

-- what holds of a shard in a memory with these private blocks, at any time
pub record IsShard (p : Private) (s : ShardState) : Type 0 where
  pub slab : IsSlab p s.blocks
  pub many : length s.blocks ≡ most_blocks
  pub keyed : IsKeyed s.keys s.blocks
  pub few : length s.keys ≤ most_keys

-- where a value lies: the address of the write that stored it last, and its bytes
pub record Place : Type 0 where
  pub at : Addr
  pub len : ℕ

-- the keys, each with the place of its value
abbrev pub Places : Type 0
Places = List (List ℕ × Place)

-- the place of a key's value, if it has one
abbrev pub place_at : Places → List ℕ → Option Place
place_at places key = lookup (bytes_eq key) places

-- the place of an object
abbrev pub place_of : List SlabBlock → ObjId → Place
place_of blocks id = record { at = address_of blocks id; len = len_of blocks id }

-- the places of the shard's values
abbrev pub places_of : ShardState → Places
places_of s = map (λ entry. (entry.0, place_of s.blocks entry.1)) s.keys

-- what the commands that a shard served fix of it: the calls of its memory's owner with their replies, how many calls are left, and where the values lie
pub record ShardFacts : Type 0 where
  pub calls : List Said
  pub left : ℕ
  pub places : Places

-- the bytes that these calls made at a place
abbrev pub text_in : List Said → Place → List ℕ
text_in calls place = text_at (own 1024 calls) place.at.at place.len

-- the values of the keys, as the owner's calls made them
abbrev pub values_of : ShardFacts → Values
values_of f key = option_map (text_in f.calls) (place_at f.places key)

-- so many keys have a value
abbrev pub count_of : ShardFacts → ℕ
count_of f = length f.places

module _ {O : Type 0} where
  -- the facts of a shard in its memory
  abbrev pub facts_of : MemoryState O → ShardState → ShardFacts
  facts_of m s = record { calls = m.calls; left = m.left; places = places_of s }
