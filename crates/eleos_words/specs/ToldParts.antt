-- What the fields of `ToldWords` tell.
use Rattle.std.specs.Prelude.{List, map, take, nat_le, Option, Some, None, if◌then◌else◌}
use Rattle.eleos_words.specs.declared.told.TheConstants.{MOST_TOLD}
use Rattle.eleos_words.specs.declared.told.Crossing.{Crossing}
use Rattle.eleos_words.specs.declared.told.ToldWords.TheInside.{Inside}
use Rattle.eleos_words.specs.Told.{Placed, placed}

-- what one of them tells
abbrev pub placed_of : Crossing → Placed
placed_of c = placed c.at c.word.value

-- the first of the list, as many as were counted, and none where more were counted than it has
abbrev pub told_of : Inside → Option (List Placed)
told_of c = if nat_le c.count MOST_TOLD then Some (map placed_of (take c.count c.told)) else None
