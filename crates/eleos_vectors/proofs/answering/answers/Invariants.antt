use Rattle.std.proofs.Common.{◌≡◌, ◌+◌, ◌≤◌, ◌++◌, vec_capacity, vec_len}
use Rattle.std.specs.List.{flat_map, sum_by}
use Rattle.eleos_vectors.specs.Answers.{answer_text}
use Rattle.eleos_vectors.specs.Rooms.{answer_room}
use Rattle.eleos_vectors.proofs.answering.answers.Given as goal

-- the vectors so far are answered, and there is room for the others
abbrev pub invariant-loop-vector : goal.invariant-loop-vector
invariant-loop-vector l = record {
  split : l.fn.vectors.items ≡ l.yielded ++ l.vector-iterator.rest.items;
  answered : l.text.items ≡ flat_map answer_text l.yielded;
  room : vec_len l.text + sum_by answer_room l.vector-iterator.rest.items ≤ vec_capacity l.text;
}
