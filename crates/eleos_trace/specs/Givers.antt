-- Who may give a command, and for which kind of trace it is built.
use Rattle.std.specs.Prelude.{[], ◌∷◌, Bool, true, false, ◌&&◌, ◌||◌, Result}
use Rattle.eleos_base.specs.declared.plan.Plan.{Plan}
use Rattle.eleos_trace.specs.declared.givers.Givers.{Givers}
use Rattle.eleos_trace.specs.declared.givers.Givers.TheVariants as givers
use Rattle.eleos_trace.specs.declared.header.Header.{Header}
use Rattle.eleos_trace.specs.declared.seen.Seen.{Seen}
use Rattle.eleos_trace.specs.declared.trace.Kind.{Kind}
use Rattle.eleos_trace.specs.declared.trace.Kind.TheVariants.{Run, Replay}
use Rattle.eleos_trace.specs.declared.verbs.Verb.{Verb}
use Rattle.eleos_trace.specs.declared.verbs.Verb.TheVariants.{Alloc, Free, Share, Read, Write, Tie, Untie, Fill, Evict, Move, Flip, SwapPlaces, Keep, Restore}
use Rattle.eleos_trace.specs.declared.verbs.Verb.TheVariants.{Point, Copy, Drop, Link, Unlink, Step, ReadAt, WriteAt, SwapRound, Balloon, Call}
use Rattle.eleos_trace.specs.declared.word.Actor as actors
use Rattle.eleos_texts.specs.declared.why.Why.{Why}
use Rattle.eleos_texts.specs.declared.why.Why.TheVariants.{Form, Many, Actor}
use Rattle.eleos_texts.specs.Reasons.{unless}
use Rattle.eleos_trace.specs.Actors.{is_swapper, is_balloon, is_host}
use Rattle.eleos_trace.specs.Machines.{is_caller}
use Rattle.eleos_trace.specs.Seen.{has_room, has_round_room}

-- the actor is one of them, where a caller has to be declared
abbrev pub is_giver : Plan → Givers → actors.Actor → Bool
is_giver plan givers.Callers who = is_caller plan who
is_giver plan givers.Swapper who = is_swapper who
is_giver plan givers.Balloon who = is_balloon who
is_giver plan givers.Host who = is_host who
is_giver plan givers.CallersOrSwapper who = is_caller plan who || is_swapper who
is_giver plan givers.CallersOrBalloon who = is_caller plan who || is_balloon who
is_giver plan givers.Nobody who = false

-- these in a run, and nobody in a replay
abbrev pub in_run : Kind → Givers → Givers
in_run Run may = may
in_run Replay may = givers.Nobody

-- these in a replay, and nobody in a run
abbrev pub in_replay : Kind → Givers → Givers
in_replay Run may = givers.Nobody
in_replay Replay may = may

-- who may give a command of a trace of this kind
abbrev pub givers_of : Kind → Verb → Givers
givers_of kind Alloc = givers.Callers
givers_of kind Free = givers.Callers
givers_of kind Share = givers.Callers
givers_of kind Read = givers.Callers
givers_of kind Write = givers.Callers
givers_of kind Tie = in_replay kind givers.Callers
givers_of kind Untie = in_replay kind givers.Callers
givers_of kind Fill = in_replay kind givers.Swapper
givers_of kind Evict = in_replay kind givers.Swapper
givers_of kind Move = in_replay kind givers.Balloon
givers_of kind Flip = givers.Host
givers_of kind SwapPlaces = givers.Host
givers_of kind Keep = givers.Host
givers_of kind Restore = givers.Host
givers_of kind Point = in_run kind givers.Callers
givers_of kind Copy = in_run kind givers.Callers
givers_of kind Drop = in_run kind givers.Callers
givers_of kind Link = in_run kind givers.Callers
givers_of kind Unlink = in_run kind givers.Callers
givers_of kind Step = in_run kind givers.Callers
givers_of kind ReadAt = in_run kind givers.Callers
givers_of kind WriteAt = in_run kind givers.Callers
givers_of kind SwapRound = in_run kind givers.CallersOrSwapper
givers_of kind Balloon = in_run kind givers.CallersOrBalloon
givers_of kind Call = in_run kind givers.Callers

-- a command of a run that is built is one of a caller on its memory, a round of the swapper, a change of a share, or a call of the host; of a replay all are built that anybody may give
abbrev pub is_built : Kind → Verb → Bool
is_built Replay verb = true
is_built Run Alloc = true
is_built Run Free = true
is_built Run Share = true
is_built Run Read = true
is_built Run Write = true
is_built Run SwapRound = true
is_built Run Balloon = true
is_built Run Call = true
is_built Run verb = false

-- the tests of every command, which come before its own: its form, whether there is room for one more, and whether the actor may give it
abbrev pub admitted : Header → actors.Actor → Givers → Bool → Bool → Result (Unit {0}) Why
admitted header who may form room = unless (
    (form, Form)
    ∷ (room, Many)
    ∷ (is_giver header.plan may who, Actor) ∷ [])
    tt

-- those of a command behind the ones that were seen
abbrev pub admit : Header → Seen → actors.Actor → Givers → Bool → Result (Unit {0}) Why
admit header seen who may form = admitted header who may form (has_room seen)

-- those of a round of the swapper or of a change of a share, of which there may be fewer
abbrev pub admit_round : Header → Seen → actors.Actor → Givers → Bool → Result (Unit {0}) Why
admit_round header seen who may form = admitted header who may form (has_room seen && has_round_room seen)
