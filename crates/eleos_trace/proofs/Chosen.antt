-- Whatever its verb, a command that is read is given.
use Rattle.std.proofs.Common.{◌≡◌, ℕ, List, true, Result, Ok, Err, subst}
use Rattle.eleos_trace.specs.declared.header.Header.{Header}
use Rattle.eleos_trace.specs.declared.seen.Seen.{Seen}
use Rattle.eleos_trace.specs.declared.trace.Kind.{Kind}
use Rattle.eleos_trace.specs.declared.trace.Kind.TheVariants.{Run, Replay}
use Rattle.eleos_trace.specs.declared.trace.Line.{Line}
use Rattle.eleos_trace.specs.declared.verbs.Verb.{Verb}
use Rattle.eleos_trace.specs.declared.verbs.Verb.TheVariants as verbs
use Rattle.eleos_trace.specs.declared.givers.Givers.TheVariants as givers
use Rattle.eleos_trace.specs.declared.word.Actor as actors
use Rattle.eleos_trace.specs.declared.word.Word.{Word}
use Rattle.eleos_trace.specs.declared.word.Word.TheVariants.{Free, Share, Tie, Untie, Fill, Evict, Keep, Restore}
use Rattle.eleos_texts.specs.declared.why.Why.{Why}
use Rattle.eleos_texts.specs.declared.why.Why.TheVariants.{Later}
use Rattle.eleos_texts.specs.Reasons.{two_and_more}
use Rattle.eleos_trace.specs.Actors.{actor_of}
use Rattle.eleos_trace.specs.Commands.{name_of, offset_of}
use Rattle.eleos_trace.specs.Frames.{page_and_frame_of}
use Rattle.eleos_trace.specs.Givers.{givers_of, is_built}
use Rattle.eleos_trace.specs.Host.{place_of}
use Rattle.eleos_trace.specs.Lines.{later, word_of, command_of, said, line_of}
use Rattle.eleos_trace.specs.Verbs.{verb_of}
use Rattle.eleos_trace.specs.WholeHeader.{plan_of}
use Rattle.eleos_texts.proofs.Inversion.{bind_ok, guard_ok, no_value, ok_is}
use Rattle.eleos_trace.proofs.Given.{IsGiven, given, free_may, share_may, name_ok, offset_ok, page_and_frame_ok, place_ok, alloc_ok, read_ok, write_ok, call_ok, call_no, move_ok, flip_ok, swap_ok, swap_round_ok, swap_round_no, balloon_ok, balloon_no}

-- a command that is not built is never read
later_no : (tests : Result (Unit {0}) Why) (word : Word) → later tests ≡ Ok word → ⊥
later_no tests word e = let a = bind_ok tests (λ _. Err Later) word e in no_value Later word a.2

module _ (header : Header) (seen : Seen) (who : actors.Actor) (args : List (List ℕ)) (word : Word) where
  -- of a run
  run_ok : (verb : Verb) → word_of header seen who (givers_of Run verb) args verb ≡ Ok word → is_built Run verb ≡ true → IsGiven Run header seen who word
  run_ok verbs.Alloc e built = alloc_ok header seen who args word Run e
  run_ok verbs.Free e built =
      let a = bind_ok (name_of header seen who givers.Callers args) (λ name. Ok (Free name)) word e in
      let b = name_ok header seen who args a.0 a.1 in
      given header seen who Run (Free a.0) word b.0 (free_may (plan_of header) who Run a.0 b.1) a.2
  run_ok verbs.Share e built =
      let a = bind_ok (name_of header seen who givers.Callers args) (λ name. Ok (Share name)) word e in
      let b = name_ok header seen who args a.0 a.1 in
      given header seen who Run (Share a.0) word b.0 (share_may (plan_of header) who Run a.0 b.1) a.2
  run_ok verbs.Read e built = read_ok header seen who args word Run e
  run_ok verbs.Write e built = write_ok header seen who args word Run e
  run_ok verbs.Tie e built = absurd cc
  run_ok verbs.Untie e built = absurd cc
  run_ok verbs.Fill e built = absurd cc
  run_ok verbs.Evict e built = absurd cc
  run_ok verbs.Move e built = absurd cc
  run_ok verbs.Flip e built = absurd cc
  run_ok verbs.SwapPlaces e built = absurd cc
  run_ok verbs.Keep e built = absurd cc
  run_ok verbs.Restore e built = absurd cc
  run_ok verbs.Point e built = absurd cc
  run_ok verbs.Copy e built = absurd cc
  run_ok verbs.Drop e built = absurd cc
  run_ok verbs.Link e built = absurd cc
  run_ok verbs.Unlink e built = absurd cc
  run_ok verbs.Step e built = absurd cc
  run_ok verbs.ReadAt e built = absurd cc
  run_ok verbs.WriteAt e built = absurd cc
  run_ok verbs.SwapRound e built = swap_round_ok header seen who args word e
  run_ok verbs.Balloon e built = balloon_ok header seen who args word e
  run_ok verbs.Call e built = call_ok header seen who args word e

  -- of a replay
  replay_ok : (verb : Verb) → word_of header seen who (givers_of Replay verb) args verb ≡ Ok word → IsGiven Replay header seen who word
  replay_ok verbs.Alloc e = alloc_ok header seen who args word Replay e
  replay_ok verbs.Free e =
      let a = bind_ok (name_of header seen who givers.Callers args) (λ name. Ok (Free name)) word e in
      let b = name_ok header seen who args a.0 a.1 in
      given header seen who Replay (Free a.0) word b.0 (free_may (plan_of header) who Replay a.0 b.1) a.2
  replay_ok verbs.Share e =
      let a = bind_ok (name_of header seen who givers.Callers args) (λ name. Ok (Share name)) word e in
      let b = name_ok header seen who args a.0 a.1 in
      given header seen who Replay (Share a.0) word b.0 (share_may (plan_of header) who Replay a.0 b.1) a.2
  replay_ok verbs.Read e = read_ok header seen who args word Replay e
  replay_ok verbs.Write e = write_ok header seen who args word Replay e
  replay_ok verbs.Tie e =
      let a = bind_ok (offset_of header seen who givers.Callers args) (λ at. Ok (Tie at.0 at.1)) word e in
      let b = offset_ok header seen who args a.0 a.1 in
      given header seen who Replay (Tie a.0.0 a.0.1) word b.0 b.1 a.2
  replay_ok verbs.Untie e =
      let a = bind_ok (offset_of header seen who givers.Callers args) (λ at. Ok (Untie at.0 at.1)) word e in
      let b = offset_ok header seen who args a.0 a.1 in
      given header seen who Replay (Untie a.0.0 a.0.1) word b.0 b.1 a.2
  replay_ok verbs.Fill e =
      let a = bind_ok (page_and_frame_of header seen who givers.Swapper args) (λ pair. Ok (Fill pair.0 pair.1)) word e in
      let b = page_and_frame_ok header seen who args a.0 a.1 in
      given header seen who Replay (Fill a.0.0 a.0.1) word b.0 b.1 a.2
  replay_ok verbs.Evict e =
      let a = bind_ok (page_and_frame_of header seen who givers.Swapper args) (λ pair. Ok (Evict pair.0 pair.1)) word e in
      let b = page_and_frame_ok header seen who args a.0 a.1 in
      given header seen who Replay (Evict a.0.0 a.0.1) word b.0 b.1 a.2
  replay_ok verbs.Move e = move_ok header seen who args word e
  replay_ok verbs.Flip e = flip_ok header seen who args word e
  replay_ok verbs.SwapPlaces e = swap_ok header seen who args word e
  replay_ok verbs.Keep e =
      let a = bind_ok (place_of header seen who givers.Host args) (λ place. Ok (Keep place)) word e in
      let b = place_ok header seen who args a.0 a.1 in
      given header seen who Replay (Keep a.0) word b.0 b.1 a.2
  replay_ok verbs.Restore e =
      let a = bind_ok (place_of header seen who givers.Host args) (λ place. Ok (Restore place)) word e in
      let b = place_ok header seen who args a.0 a.1 in
      given header seen who Replay (Restore a.0) word b.0 b.1 a.2
  replay_ok verbs.Point e = absurd (later_no _ word e)
  replay_ok verbs.Copy e = absurd (later_no _ word e)
  replay_ok verbs.Drop e = absurd (later_no _ word e)
  replay_ok verbs.Link e = absurd (later_no _ word e)
  replay_ok verbs.Unlink e = absurd (later_no _ word e)
  replay_ok verbs.Step e = absurd (later_no _ word e)
  replay_ok verbs.ReadAt e = absurd (later_no _ word e)
  replay_ok verbs.WriteAt e = absurd (later_no _ word e)
  replay_ok verbs.SwapRound e = absurd (swap_round_no header seen who args word e)
  replay_ok verbs.Balloon e = absurd (balloon_no header seen who args word e)
  replay_ok verbs.Call e = absurd (call_no header seen who args word e)

  -- of a trace of either kind
  word_ok : (kind : Kind) (verb : Verb) → word_of header seen who (givers_of kind verb) args verb ≡ Ok word → is_built kind verb ≡ true → IsGiven kind header seen who word
  word_ok Run verb e built = run_ok verb e built
  word_ok Replay verb e built = replay_ok verb e

-- a line that is read
pub line_ok : (header : Header) (seen : Seen) (words : List (List ℕ)) (line : Line) → line_of header seen words ≡ Ok line → IsGiven header.kind header seen line.actor line.command
line_ok header seen words line e =
    let a = bind_ok (two_and_more words) _ line e in
    let b = bind_ok (said (actor_of a.0.0)) _ line a.2 in
    let c = bind_ok (said (verb_of b.0 a.0.1)) _ line b.2 in
    let d = bind_ok (command_of header seen b.0 c.0 a.0.2) (λ command. Ok (record { actor = b.0; command = command })) line c.2 in
    let f = bind_ok (word_of header seen b.0 (givers_of header.kind c.0) a.0.2 c.0) _ d.0 d.1 in
    let built = guard_ok (is_built header.kind c.0) (Ok f.0) Later d.0 f.2 in
    let here : Line = record { actor = b.0; command = d.0 } in
    let word = subst (λ (w : Word). IsGiven header.kind header seen b.0 w) (ok_is f.0 d.0 built.1) (word_ok header seen b.0 a.0.2 f.0 header.kind c.0 f.1 built.0) in
    subst (λ (l : Line). IsGiven header.kind header seen l.actor l.command) (ok_is here line d.2) word
