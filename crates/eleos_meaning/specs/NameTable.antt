-- What a table of names tells.
use Rattle.std.specs.Prelude.{ℕ, Bool, List, Option, Some, None, is_some}
use Rattle.std.specs.Map.{lookup}
use Rattle.std.specs.declared.vec.Vec.{Vec}
use Rattle.std.specs.declared.alloc.Global.{Global}
use Rattle.eleos_base.specs.declared.memory.Addr.{Addr}
use Rattle.eleos_meaning.specs.declared.names.NameTable.{NameTable}
use Rattle.eleos_meaning.specs.Names.{Names, is_same}

-- names that have room, each with its address once it has one
abbrev pub Rooms : Type 0
Rooms = List (Vec ℕ Global × Option Addr)

-- an address that may not be known
abbrev pub known : Option (Option Addr) → Option Addr
known None = None
known (Some at) = at

-- what stands at the name
abbrev pub room_of : Rooms → List ℕ → Option (Option Addr)
room_of rooms text = lookup (λ name. is_same text name.items) rooms

-- the addresses that names with these rooms have
abbrev pub known_in : Rooms → Names
known_in rooms text = known (room_of rooms text)

-- one of the rooms is the name's
abbrev pub is_room : Rooms → List ℕ → Bool
is_room rooms text = is_some (room_of rooms text)

-- the addresses of the table's names
abbrev pub names_in : NameTable → Names
names_in table = known_in table.rooms.entries

-- the name has room in the table
abbrev pub has_room : NameTable → List ℕ → Bool
has_room table = is_room table.rooms.entries
