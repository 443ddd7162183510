-- What commands are called.
use Rattle.std.specs.Prelude.{ℕ, List, [], ◌∷◌, Bool, Option, codes, option_map}
use Rattle.std.specs.List.{find}
use Rattle.eleos_trace.specs.declared.verbs.Verb.{Verb}
use Rattle.eleos_trace.specs.declared.verbs.Verb.TheVariants.{Alloc, Free, Share, Read, Write, Tie, Untie, Fill, Evict, Move, Flip, SwapPlaces, Keep, Restore}
use Rattle.eleos_trace.specs.declared.verbs.Verb.TheVariants.{Point, Copy, Drop, Link, Unlink, Step, ReadAt, WriteAt, SwapRound, Balloon, Call}
use Rattle.eleos_trace.specs.declared.word.Actor as actors
use Rattle.eleos_trace.specs.declared.word.Actor.TheVariants.{Host}
use Rattle.eleos_texts.specs.Fields.{is}

-- the word of a verb
abbrev pub verb_text : Verb → List ℕ
verb_text Alloc = codes "alloc"
verb_text Free = codes "free"
verb_text Share = codes "share"
verb_text Read = codes "read"
verb_text Write = codes "write"
verb_text Tie = codes "tie"
verb_text Untie = codes "untie"
verb_text Fill = codes "fill"
verb_text Evict = codes "evict"
verb_text Move = codes "move"
verb_text Flip = codes "flip"
verb_text SwapPlaces = codes "swap"
verb_text Keep = codes "keep"
verb_text Restore = codes "restore"
verb_text Point = codes "point"
verb_text Copy = codes "copy"
verb_text Drop = codes "drop"
verb_text Link = codes "link"
verb_text Unlink = codes "unlink"
verb_text Step = codes "step"
verb_text ReadAt = codes "sread"
verb_text WriteAt = codes "swrite"
verb_text SwapRound = codes "swap"
verb_text Balloon = codes "balloon"
verb_text Call = codes "call"

-- all verbs; of the two that are called `swap` the one that is not the host's
abbrev pub verbs : List Verb
verbs = Alloc ∷ Free ∷ Share ∷ Read ∷ Write ∷ Tie ∷ Untie ∷ Fill ∷ Evict ∷ Move ∷ Flip ∷ Keep ∷ Restore
    ∷ Point ∷ Copy ∷ Drop ∷ Link ∷ Unlink ∷ Step ∷ ReadAt ∷ WriteAt ∷ SwapRound ∷ Balloon ∷ Call ∷ []

-- the word is the verb's
abbrev pub is_called : List ℕ → Verb → Bool
is_called word verb = is (verb_text verb) word

-- the verb that has the word
unfoldable pub verb_called : List ℕ → Option Verb
verb_called word = find (is_called word) verbs

-- `swap` of the host is of two places, and that of any other actor of an enclave and a number
abbrev pub given_by : actors.Actor → Verb → Verb
given_by Host SwapRound = SwapPlaces
given_by who verb = verb

-- the verb that a word of the actor says
abbrev pub verb_of : actors.Actor → List ℕ → Option Verb
verb_of who word = option_map (given_by who) (verb_called word)
