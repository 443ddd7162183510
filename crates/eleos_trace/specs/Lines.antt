-- A line by its actor and its verb.
use Rattle.std.specs.Prelude.{ℕ, List, Option, Some, None, Result, Ok, Err, if◌then◌else◌}
use Rattle.eleos_trace.specs.declared.givers.Givers.{Givers}
use Rattle.eleos_trace.specs.declared.header.Header.{Header}
use Rattle.eleos_trace.specs.declared.seen.Seen.{Seen}
use Rattle.eleos_trace.specs.declared.trace.Line.{Line}
use Rattle.eleos_trace.specs.declared.verbs.Verb.{Verb}
use Rattle.eleos_trace.specs.declared.verbs.Verb.TheVariants as verbs
use Rattle.eleos_trace.specs.declared.word.Actor.{Actor}
use Rattle.eleos_trace.specs.declared.word.Word.{Word}
use Rattle.eleos_trace.specs.declared.word.Word.TheVariants.{Free, Share, Tie, Untie, Fill, Evict, Keep, Restore}
use Rattle.eleos_texts.specs.declared.why.Why.{Why}
use Rattle.eleos_texts.specs.declared.why.Why.TheVariants.{Form, Later}
use Rattle.eleos_texts.specs.Reasons.{with_two_and_more, ◌>>=◌}
use Rattle.eleos_trace.specs.Actors.{actor_of}
use Rattle.eleos_trace.specs.Calls.{call_of}
use Rattle.eleos_trace.specs.Commands.{alloc_of, name_of, offset_of, read_of, write_of}
use Rattle.eleos_trace.specs.Frames.{page_and_frame_of, move_of}
use Rattle.eleos_trace.specs.Givers.{givers_of, is_built}
use Rattle.eleos_trace.specs.Host.{flip_of, swap_of, place_of}
use Rattle.eleos_trace.specs.Pointers.{point_of, copy_of, pointer_of, step_of, read_at_of, write_at_of}
use Rattle.eleos_trace.specs.Rounds.{swap_round_of, balloon_of}
use Rattle.eleos_trace.specs.Verbs.{verb_of}

-- no command, since it is not built: refused as its tests say, or else as later
abbrev pub later : Result (Unit {0}) Why → Result Word Why
later tests = tests >>= λ _. Err Later

-- the command of a verb, as the words behind it say it
abbrev pub word_of : Header → Seen → Actor → Givers → List (List ℕ) → Verb → Result Word Why
word_of header seen who may args verbs.Alloc = alloc_of header seen who may args
word_of header seen who may args verbs.Free = name_of header seen who may args >>= λ name. Ok (Free name)
word_of header seen who may args verbs.Share = name_of header seen who may args >>= λ name. Ok (Share name)
word_of header seen who may args verbs.Read = read_of header seen who may args
word_of header seen who may args verbs.Write = write_of header seen who may args
word_of header seen who may args verbs.Tie = offset_of header seen who may args >>= λ at. Ok (Tie at.0 at.1)
word_of header seen who may args verbs.Untie = offset_of header seen who may args >>= λ at. Ok (Untie at.0 at.1)
word_of header seen who may args verbs.Fill = page_and_frame_of header seen who may args >>= λ both. Ok (Fill both.0 both.1)
word_of header seen who may args verbs.Evict = page_and_frame_of header seen who may args >>= λ both. Ok (Evict both.0 both.1)
word_of header seen who may args verbs.Move = move_of header seen who may args
word_of header seen who may args verbs.Flip = flip_of header seen who may args
word_of header seen who may args verbs.SwapPlaces = swap_of header seen who may args
word_of header seen who may args verbs.Keep = place_of header seen who may args >>= λ place. Ok (Keep place)
word_of header seen who may args verbs.Restore = place_of header seen who may args >>= λ place. Ok (Restore place)
word_of header seen who may args verbs.Point = later (point_of header seen who may args)
word_of header seen who may args verbs.Copy = later (copy_of header seen who may args)
word_of header seen who may args verbs.Drop = later (pointer_of header seen who may args)
word_of header seen who may args verbs.Link = later (pointer_of header seen who may args)
word_of header seen who may args verbs.Unlink = later (pointer_of header seen who may args)
word_of header seen who may args verbs.Step = later (step_of header seen who may args)
word_of header seen who may args verbs.ReadAt = later (read_at_of header seen who may args)
word_of header seen who may args verbs.WriteAt = later (write_at_of header seen who may args)
word_of header seen who may args verbs.SwapRound = swap_round_of header seen who may args
word_of header seen who may args verbs.Balloon = balloon_of header seen who may args
word_of header seen who may args verbs.Call = call_of header seen who may args

-- that command, where it is built for the kind
abbrev pub command_of : Header → Seen → Actor → Verb → List (List ℕ) → Result Word Why
command_of header seen who verb args =
    word_of header seen who (givers_of header.kind verb) args verb >>= λ word. if is_built header.kind verb then Ok word else Err Later

-- what a word says, where it says anything; a line with any other word is of no form
abbrev pub said : {A : Type 0} → Option A → Result A Why
said None = Err Form
said (Some x) = Ok x

-- a line by its words
abbrev pub line_of : Header → Seen → List (List ℕ) → Result Line Why
line_of header seen = with_two_and_more (λ actor verb args. do
  who ← said (actor_of actor)
  verb ← said (verb_of who verb)
  command ← command_of header seen who verb args
  Ok (record { actor = who; command = command }))
