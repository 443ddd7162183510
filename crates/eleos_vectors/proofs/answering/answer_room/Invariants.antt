use Rattle.std.proofs.Common.{◌≡◌, ◌+◌, ◌^◌, ◌<◌, take}
use Rattle.std.specs.List.{sum_by}
use Rattle.eleos_vectors.specs.Rooms.{answer_room}
use Rattle.eleos_vectors.proofs.answering.answer_room.Given as goal

-- the room of the vectors so far, and of the last line
abbrev pub invariant-loop-vector : goal.invariant-loop-vector
invariant-loop-vector l = record {
  room : l.room ≡ sum_by answer_room (take l.vector-index l.vectors) + 25;
  fits : l.room < 2 ^ 64;
}
