-- The keys of a shard, each with the id of the object that is its value.
use Rattle.std.specs.Prelude.{◌≡◌, ℕ, List, map, Option, Some}
use Rattle.std.specs.Map.{lookup}
use Rattle.std.specs.Str.{bytes_eq}
use Rattle.std.specs.declared.vec.Vec.{Vec}
use Rattle.std.specs.declared.alloc.Global.{Global}
use Rattle.eleos_sslab.specs.declared.block.SlabBlock.{SlabBlock}
use Rattle.eleos_sslab.specs.declared.slab.ObjId.{ObjId}
use Rattle.eleos_sslab.specs.Slabs.{IsHeld}

-- the keys, in no order that matters
abbrev pub Keys : Type 0
Keys = List (List ℕ × ObjId)

-- the id of a key, if it has one
abbrev pub id_of : Keys → List ℕ → Option ObjId
id_of keys key = lookup (bytes_eq key) keys

-- the keys that these entries of a table are
abbrev pub named : List (Vec ℕ Global × ObjId) → Keys
named entries = map (λ entry. (entry.0.items, entry.1)) entries

-- a table of keys, and how many more it has room for
pub record KeyState : Type 0 where
  pub ids : Keys
  pub room : ℕ

-- each key has an object of its own, and each object is that of a key
pub record IsKeyed (keys : Keys) (blocks : List SlabBlock) : Type 0 where
  pub held : (key : List ℕ) (id : ObjId) → id_of keys key ≡ Some id → IsHeld blocks id
  pub own : (key other : List ℕ) (id : ObjId) → id_of keys key ≡ Some id → id_of keys other ≡ Some id → key ≡ other
  pub all : (id : ObjId) → IsHeld blocks id → (key : List ℕ) × (id_of keys key ≡ Some id)
