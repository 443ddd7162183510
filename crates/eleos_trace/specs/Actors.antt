-- Actors by their words.
use Rattle.std.specs.Prelude.{ℕ, ◌-◌, List, length, Bool, true, false, ◌==◌, ◌&&◌, nat_le, Option, Some, None, slice_index, codes, if◌then◌else◌}
use Rattle.eleos_trace.specs.declared.word.Actor as actors
use Rattle.eleos_trace.specs.declared.word.Actor.TheVariants.{Caller, Swapper, Balloon, Host}
use Rattle.eleos_texts.specs.Fields.{is}

-- `c1` to `c8`
abbrev pub is_caller_word : List ℕ → Bool
is_caller_word word = length word == 2 && slice_index word 0 == 99 && nat_le 49 (slice_index word 1) && nat_le (slice_index word 1) 56

-- a caller, the swapper, the balloon or the host
abbrev pub actor_of : List ℕ → Option actors.Actor
actor_of word =
    if is_caller_word word then Some (Caller (slice_index word 1 - 48))
    else if is (codes "s") word then Some Swapper
    else if is (codes "b") word then Some Balloon
    else if is (codes "h") word then Some Host
    else None

-- the swapper
abbrev pub is_swapper : actors.Actor → Bool
is_swapper Swapper = true
is_swapper _ = false

-- the balloon
abbrev pub is_balloon : actors.Actor → Bool
is_balloon Balloon = true
is_balloon _ = false

-- the host
abbrev pub is_host : actors.Actor → Bool
is_host Host = true
is_host _ = false
