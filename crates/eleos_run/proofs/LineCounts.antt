-- How many lines the actors write at most.
use Rattle.std.proofs.Common.{◌≡◌, ℕ, ◌+◌, ◌*◌, ◌≤◌, List, [], ◌∷◌, ◌++◌, length, sum_by, vec_capacity, arith, length-append}
use Rattle.std.proofs.lemmas.List.Sums.{sum_by-cons}
use Rattle.eleos_base.specs.Places.{all_frames}
use Rattle.eleos_machine.specs.Machines.{Site}
use Rattle.eleos_trace.specs.declared.trace.Trace.{Trace}
use Rattle.eleos_trace.specs.declared.word.Word.{Word}
use Rattle.eleos_trace.specs.declared.word.Word.TheVariants.{SwapRound, SetShare}
use Rattle.eleos_run.specs.declared.jobs.Job.{Job}
use Rattle.eleos_run.specs.Callers.{AreDoneJobs, AreNewJobs, lines_of}
use Rattle.eleos_run.specs.Lines.{actor_at, program_of}
use Rattle.eleos_meaning.specs.Table.{lines_for, most_lines}
use Rattle.eleos_run.proofs.TaskLists.{commands_few}

-- the lines of some commands and then others
pub lines_append : (frames : ℕ) (xs ys : List Word) → lines_for frames (xs ++ ys) ≡ lines_for frames xs + lines_for frames ys
lines_append frames [] ys = omega arith
lines_append frames (x ∷ xs) ys = let rest = lines_append frames xs ys in omega (arith, rest)

most_few : (frames : ℕ) (word : Word) → frames ≤ 512 → most_lines frames word ≤ 1025
most_few frames (SwapRound enclave low) few = omega (arith, few)
most_few frames (SetShare enclave to) few = omega (arith, few)
most_few frames _ few = omega arith

-- a command has few
pub lines_few : (frames : ℕ) (words : List Word) → frames ≤ 512 → lines_for frames words ≤ 1025 * length words
lines_few frames [] few = omega arith
lines_few frames (word ∷ words) few = let one = most_few frames word few in let rest = lines_few frames words few in omega (arith, one, rest)

-- so has a program
pub program_few : (trace : Trace) (who : ℕ) → all_frames trace.plan ≤ 512 → length trace.lines ≤ 100000 → lines_for (all_frames trace.plan) (program_of trace (actor_at trace who)) ≤ 102500000
program_few trace who frames few =
    let most = lines_few (all_frames trace.plan) (program_of trace (actor_at trace who)) frames in let all = commands_few (actor_at trace who) trace.lines in omega (arith, most, all, few)

module _ {P C : Type 0} where
  -- the room of the lines of jobs
  abbrev pub room_of : List (Job P C) → ℕ
  room_of js = sum_by (λ (j : Job P C). vec_capacity j.lines) js

  -- the room of all jobs
  pub room_few : (trace : Trace) (z : Site) (who : ℕ) (js : List (Job P C)) → all_frames trace.plan ≤ 512 → length trace.lines ≤ 100000 → AreNewJobs trace z who js → sum_by (λ (j : Job P C). vec_capacity j.lines) js ≤ 102500000 * length js
  room_few trace z who [] frames few new = omega arith
  room_few trace z who (j ∷ js) frames few new =
      let first = sum_by-cons (λ (i : Job P C). vec_capacity i.lines) j js in let rest = room_few trace z (who + 1) js frames few new.1 in
      let room = new.0.room in let most = program_few trace (who + 1) frames few in omega (arith, first, rest, room, most)

  module _ (gave took : ℕ → List ℕ → Type 0) (shown written : ℕ → ℕ → Type 0) where
    -- is enough for all lines that they write
    pub room_enough : (trace : Trace) (z : Site) (who : ℕ) (is js : List (Job P C)) → AreNewJobs trace z who is → AreDoneJobs gave took shown written trace z who js → length js ≡ length is
        → length (lines_of js) ≤ sum_by (λ (j : Job P C). vec_capacity j.lines) is
    room_enough trace z who [] [] new done same = omega arith
    room_enough trace z who [] (j ∷ js) new done same = absurd (omega (arith, same))
    room_enough trace z who (i ∷ is) [] new done same = absurd (omega (arith, same))
    room_enough trace z who (i ∷ is) (j ∷ js) new done same =
        let first = sum_by-cons (λ (i : Job P C). vec_capacity i.lines) i is in let rest = room_enough trace z (who + 1) is js new.1 done.1 (omega (arith, same)) in
        let both = length-append j.lines.items (lines_of js) in let room = new.0.room in let few = done.0.few in omega (arith, first, rest, both, room, few)
