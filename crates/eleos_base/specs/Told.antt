-- What objects in memory tell.
use Rattle.std.specs.Prelude.{ℕ, List, drop}
use Rattle.eleos_base.specs.declared.told.ListSource.{ListSource}
use Rattle.eleos_base.specs.declared.told.ListSink.{ListSink}
use Rattle.eleos_base.specs.declared.told.FreeSource.{FreeSource}

-- the bytes that are left
abbrev pub source_left : ListSource → List ℕ
source_left s = drop s.source.taken s.source.bytes.items

-- the bytes that were put
abbrev pub sink_got : ListSink → List ℕ
sink_got s = s.bytes.items

-- the bytes that are left
abbrev pub free_left : FreeSource → List ℕ
free_left s = drop s.taken s.bytes.items
