-- Tasks of an actor, from the front and from the end.
use Rattle.std.proofs.Common.{◌≡◌, ℕ, ◌+◌, ◌<◌, ◌≤◌, List, [], ◌∷◌, ◌++◌, length, map, take, filter, Bool, true, false, cond, get_or, refl, ap, ◌∙◌, arith}
use Rattle.std.proofs.lemmas.List.{take_more}
use Rattle.eleos_base.specs.declared.plan.Plan.{Plan}
use Rattle.eleos_trace.specs.declared.trace.Line.{Line}
use Rattle.eleos_trace.specs.declared.word.Actor as actors
use Rattle.eleos_trace.specs.declared.word.Word.{Word}
use Rattle.eleos_trace.specs.declared.word.Word.TheVariants.{Alloc, Free, Share, Read, Write, Tie, Untie, Fill, Evict, Move, Flip, SwapPlaces, Keep, Restore, SwapRound, SetShare, Call}
use Rattle.eleos_trace.specs.Kinds.{MayRun}
use Rattle.eleos_run.specs.declared.tasks.Task.{Task}
use Rattle.eleos_run.specs.Lines.{commands_of_actor, is_same_actor}
use Rattle.eleos_meaning.specs.declared.names.NameTable.{NameTable}
use Rattle.eleos_run.specs.Tasks.{AllReady, CanRun, HasName, IsReady, KeepsRooms}

pub can_run : (plan : Plan) (who : actors.Actor) (word : Word) → MayRun plan who word → CanRun word
can_run plan who (Alloc name bytes) may = tt
can_run plan who (Free name) may = tt
can_run plan who (Share name) may = tt
can_run plan who (Read name offset len) may = tt
can_run plan who (Write name offset bytes) may = may.1
can_run plan who (Tie name offset) may = may
can_run plan who (Untie name offset) may = may
can_run plan who (Fill page frame) may = may
can_run plan who (Evict page frame) may = may
can_run plan who (Move frame from to) may = may
can_run plan who (Flip place bit) may = may
can_run plan who (SwapPlaces a b) may = may
can_run plan who (Keep place) may = may
can_run plan who (Restore place) may = may
can_run plan who (SwapRound enclave low) may = tt
can_run plan who (SetShare enclave to) may = may.1
can_run plan who (Call call bytes room) may = (may.1, may.2)

name_later : (old new : NameTable) (word : Word) → KeepsRooms old new → HasName old word → HasName new word
name_later old new (Alloc name bytes) keeps has = keeps name has
name_later old new (Free name) keeps has = tt
name_later old new (Share name) keeps has = tt
name_later old new (Read name offset len) keeps has = tt
name_later old new (Write name offset bytes) keeps has = tt
name_later old new (Tie name offset) keeps has = tt
name_later old new (Untie name offset) keeps has = tt
name_later old new (Fill page frame) keeps has = tt
name_later old new (Evict page frame) keeps has = tt
name_later old new (Move frame from to) keeps has = tt
name_later old new (Flip place bit) keeps has = tt
name_later old new (SwapPlaces a b) keeps has = tt
name_later old new (Keep place) keeps has = tt
name_later old new (Restore place) keeps has = tt
name_later old new (SwapRound enclave low) keeps has = tt
name_later old new (SetShare enclave to) keeps has = tt
name_later old new (Call call bytes room) keeps has = tt

-- with more rooms the tasks are ready still
task_later : (k : Plan) (actor : actors.Actor) (old new : NameTable) (task : Task) → KeepsRooms old new → IsReady k actor old task → IsReady k actor new task
task_later k actor old new task keeps ready = record { may = ready.may; can = ready.can; words = ready.words; room = ready.room; name = name_later old new task.command keeps ready.name }

pub ready_later : (k : Plan) (actor : actors.Actor) (old new : NameTable) (tasks : List Task) → KeepsRooms old new → AllReady k actor old tasks → AllReady k actor new tasks
ready_later k actor old new [] keeps ready = tt
ready_later k actor old new (task ∷ tasks) keeps ready = (task_later k actor old new task keeps ready.0, ready_later k actor old new tasks keeps ready.1)

-- and one task more
pub ready_more : (k : Plan) (actor : actors.Actor) (old new : NameTable) (tasks : List Task) (task : Task) → KeepsRooms old new → AllReady k actor old tasks → IsReady k actor new task → AllReady k actor new (tasks ++ task ∷ [])
ready_more k actor old new [] task keeps ready one = (one, tt)
ready_more k actor old new (other ∷ tasks) task keeps ready one = (task_later k actor old new other keeps ready.0, ready_more k actor old new tasks task keeps ready.1 one)

by_append : (who : actors.Actor) (xs ys : List Line) → commands_of_actor who (xs ++ ys) ≡ commands_of_actor who xs ++ commands_of_actor who ys
by_append who [] ys = refl
by_append who (x ∷ xs) ys = go (is_same_actor x.actor who) (by_append who xs ys) where
  go : (b : Bool) → commands_of_actor who (xs ++ ys) ≡ commands_of_actor who xs ++ commands_of_actor who ys → map (λ (line : Line). line.command) (cond b (x ∷ filter (λ line. is_same_actor line.actor who) (xs ++ ys)) (filter (λ line. is_same_actor line.actor who) (xs ++ ys)))
      ≡ map (λ (line : Line). line.command) (cond b (x ∷ filter (λ line. is_same_actor line.actor who) xs) (filter (λ line. is_same_actor line.actor who) xs)) ++ commands_of_actor who ys
  go true e = ap (λ z. x.command ∷ z) e
  go false e = e

one_by : (who : actors.Actor) (line : Line) (b : Bool) → is_same_actor line.actor who ≡ b → commands_of_actor who (line ∷ []) ≡ cond b (line.command ∷ []) []
one_by who line b is = ap (λ (v : Bool). map (λ (line : Line). line.command) (cond v (line ∷ []) [])) is ∙ go b where
  go : (v : Bool) → map (λ (line : Line). line.command) (cond v (line ∷ []) []) ≡ cond v (line.command ∷ []) []
  go true = refl
  go false = refl

-- the commands of the next line
pub commands_more : (who : actors.Actor) (lines : List Line) (at : ℕ) (none : Line) (b : Bool) → at < length lines → is_same_actor (get_or lines at none).actor who ≡ b
    → commands_of_actor who (take (at + 1) lines) ≡ commands_of_actor who (take at lines) ++ cond b ((get_or lines at none).command ∷ []) []
commands_more who lines at none b inside is = ap (commands_of_actor who) (take_more lines at none inside) ∙ (by_append who (take at lines) (get_or lines at none ∷ []) ∙ ap (λ z. commands_of_actor who (take at lines) ++ z) (one_by who (get_or lines at none) b is))

-- an actor has no more commands than the trace has
pub commands_few : (who : actors.Actor) (lines : List Line) → length (commands_of_actor who lines) ≤ length lines
commands_few who [] = omega arith
commands_few who (line ∷ lines) = go (is_same_actor line.actor who) (commands_few who lines) where
  go : (b : Bool) → length (commands_of_actor who lines) ≤ length lines → length (map (λ (l : Line). l.command) (cond b (line ∷ filter (λ l. is_same_actor l.actor who) lines) (filter (λ l. is_same_actor l.actor who) lines))) ≤ length (line ∷ lines)
  go true few = omega (arith, few)
  go false few = omega (arith, few)
