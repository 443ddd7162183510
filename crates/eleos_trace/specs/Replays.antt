-- Who may give which command of a replay.
use Rattle.std.specs.Prelude.{◌≡◌, ℕ, ◌≤◌, ◌<◌, length, Option, Some, None}
use Rattle.eleos_base.specs.declared.plan.Plan.{Plan}
use Rattle.eleos_base.specs.Plans.{IsCaller}
use Rattle.eleos_trace.specs.declared.word.Actor as actors
use Rattle.eleos_trace.specs.declared.word.Actor.TheVariants.{Caller, Swapper, Balloon, Host}
use Rattle.eleos_trace.specs.declared.word.Word.{Word}
use Rattle.eleos_trace.specs.declared.word.Word.TheVariants.{Alloc, Free, Share, Read, Write, Tie, Untie, Fill, Evict, Move, Flip, SwapPlaces, Keep, Restore, SwapRound, SetShare, Call}
use Rattle.eleos_base.specs.Places.{all_frames, all_pages}
use Rattle.eleos_trace.specs.Machines.{places}

-- the number of a caller
abbrev pub number_of : actors.Actor → ℕ
number_of (Caller number) = number
number_of _ = 0

-- a caller of the plan
abbrev pub IsCallerOf : Plan → actors.Actor → Type 0
IsCallerOf plan (Caller number) = IsCaller plan number
IsCallerOf plan _ = ⊥

-- one of both is the pool, and the other an enclave of the plan
abbrev pub IsMove : Plan → Option ℕ → Option ℕ → Type 0
IsMove plan None (Some to) = to < length plan.enclaves
IsMove plan (Some from) None = from < length plan.enclaves
IsMove plan _ _ = ⊥

-- the actor may give the command, whose pages, frames and places are in the machine
abbrev pub MayGive : Plan → actors.Actor → Word → Type 0
MayGive plan who (Alloc name bytes) = IsCallerOf plan who
MayGive plan who (Free name) = IsCallerOf plan who
MayGive plan who (Share name) = IsCallerOf plan who
MayGive plan who (Read name offset len) = IsCallerOf plan who
MayGive plan who (Write name offset bytes) = IsCallerOf plan who × (length bytes ≤ 2048)
MayGive plan who (Tie name offset) = IsCallerOf plan who
MayGive plan who (Untie name offset) = IsCallerOf plan who
MayGive plan who (Fill page frame) = (who ≡ Swapper) × (page < all_pages plan) × (frame < all_frames plan)
MayGive plan who (Evict page frame) = (who ≡ Swapper) × (page < all_pages plan) × (frame < all_frames plan)
MayGive plan who (Move frame from to) = (who ≡ Balloon) × (frame < all_frames plan) × IsMove plan from to
MayGive plan who (Flip place bit) = (who ≡ Host) × (place < places plan) × (bit < 8192)
MayGive plan who (SwapPlaces a b) = (who ≡ Host) × (a < places plan) × (b < places plan)
MayGive plan who (Keep place) = (who ≡ Host) × (place < places plan)
MayGive plan who (Restore place) = (who ≡ Host) × (place < places plan)
MayGive plan who (SwapRound enclave low) = ⊥
MayGive plan who (SetShare enclave to) = ⊥
MayGive plan who (Call call bytes room) = ⊥
