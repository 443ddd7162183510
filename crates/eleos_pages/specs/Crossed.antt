-- What crossed between a tap and its host in a call.
use Rattle.std.specs.Prelude.{◌≡◌, ℕ, zero, suc, List, [], ◌∷◌, ◌++◌, ◌<◌, ◌≤◌, map, Bool, Option, Some, None, option_map, if◌then◌else◌}
use Rattle.std.specs.List.{AllByRecursion}
use Rattle.eleos_base.specs.Lists.{last_of}
use Rattle.eleos_base.specs.declared.memory.Reply.{Reply}
use Rattle.eleos_base.specs.declared.memory.Reply.TheVariants.{Tampered}
use Rattle.eleos_host.specs.declared.port.HostPort.{Ghosts}
use Rattle.eleos_host.specs.declared.port.HostStore as store
use Rattle.eleos_host.specs.declared.slot.SlotState.{SlotState}
use Rattle.eleos_host.specs.declared.slot.SlotState.TheVariants.{AsItCame}
use Rattle.eleos_host.specs.Crossings.{Placed, none_yet, with_crossing}
use Rattle.eleos_host.specs.Stores.{Store, put_to}
use Rattle.eleos_host.specs.declared.slot.TheConstants.{SLOTS}
use Rattle.eleos_host.specs.Taps.{TapState, HasSlots, IsAsItCame, IsIdle, block_of, one_more, state_of, with_failed, with_fetched}

-- the block of a slot, where it is as it came
abbrev pub came_as : SlotState → List ℕ → List (List ℕ)
came_as AsItCame block = block ∷ []
came_as _ block = []

-- these blocks crossed too, each at its place, in order
abbrev pub with_crossings : Option (List Placed) → List (ℕ × List ℕ) → Option (List Placed)
with_crossings told [] = told
with_crossings told (q ∷ qs) = with_crossings (with_crossing told q.0 q.1) qs

-- the store after these blocks were put, each to its place
abbrev pub with_puts : Store → List (ℕ × List ℕ) → Store
with_puts s [] = s
with_puts s (q ∷ qs) = with_puts (put_to s q.0 q.1) qs

-- blocks that are all of one place
abbrev pub at_place : ℕ → List (List ℕ) → List (ℕ × List ℕ)
at_place place blocks = map (λ block. (place, block)) blocks

-- blocks that are of these places, as far as they go
abbrev pub each_at : List ℕ → List (List ℕ) → List (ℕ × List ℕ)
each_at [] blocks = []
each_at (place ∷ places) [] = []
each_at (place ∷ places) (block ∷ blocks) = (place, block) ∷ each_at places blocks

-- the block that the reply says did not pass: the last that came
abbrev pub spoiled_by : Reply → List (List ℕ) → Option (List ℕ)
spoiled_by (Tampered s) blocks = last_of blocks
spoiled_by _ blocks = None

module _ {P : Type 0} where
  -- the block that came into the slot since `begin`, if one did
  abbrev pub came_in : ℕ → TapState P → List (List ℕ)
  came_in slot tap = came_as (state_of tap slot) (block_of tap slot)

  -- into the first slot
  abbrev pub came : TapState P → List (List ℕ)
  came tap = came_in 0 tap

  -- the blocks in the first n slots
  abbrev pub blocks_below : ℕ → TapState P → List (List ℕ)
  blocks_below zero tap = []
  blocks_below (suc n) tap = blocks_below n tap ++ block_of tap n ∷ []

  -- the first n slots have blocks as they came, nothing came into the others, and none is named
  pub record HasCome (n : ℕ) (tap : TapState P) : Type 0 where
    pub slots : HasSlots tap
    pub as_they_came : (j : ℕ) → j < n → IsAsItCame tap j
    pub idle : (j : ℕ) → n ≤ j → j < SLOTS → IsIdle tap j
    pub no_failure : tap.failed ≡ None

  -- the tap after a block came into the slot, where one was to come
  abbrev pub fetched_if : Bool → ℕ → TapState P → P → List ℕ → TapState P
  fetched_if has_block slot tap port block = if has_block then with_fetched tap slot port block else tap

  -- and after it was looked at: where it did not pass, its slot is named
  abbrev pub opened_by : Bool → Bool → ℕ → TapState P → P → List ℕ → TapState P
  opened_by has_block passed slot tap port block =
      if passed then fetched_if has_block slot tap port block else with_failed (fetched_if has_block slot tap port block) slot

  -- the block of the first slot where one came, and none else
  abbrev pub came_if : Bool → TapState P → List (List ℕ)
  came_if has_block tap = if has_block then block_of tap 0 ∷ [] else []

  -- the tap has begun, and nothing has come for an access yet
  pub record IsReady (tap : TapState P) : Type 0 where
    pub idle : IsIdle tap 0
    pub no_failure : tap.failed ≡ None

module _ {P : Type 0} (port : Ghosts P) (host : store.Ghosts P) where
  -- the host gave the first of these blocks and took the second, each at its place and in order, and nothing else happened: the tap did not begin
  pub record Crosses (old new : TapState P) (given taken : List (ℕ × List ℕ)) : Type 0 where
    pub gave : AllByRecursion (λ (q : ℕ × List ℕ). port.gave q.0 q.1) given
    pub took : AllByRecursion (λ (q : ℕ × List ℕ). port.took q.0 q.1) taken
    pub all_given : host.given new.port ≡ with_crossings (host.given old.port) given
    pub all_taken : host.taken new.port ≡ with_crossings (host.taken old.port) taken
    pub store : host.store new.port ≡ option_map (λ s. with_puts s taken) (host.store old.port)
    pub no_begin : new.begins ≡ old.begins

  -- the tap began once, and since then the host gave the first of these blocks and took the second, each at its place and in order; nothing else happened
  pub record HasCrossed (before new : TapState P) (given taken : List (ℕ × List ℕ)) : Type 0 where
    pub gave : AllByRecursion (λ (q : ℕ × List ℕ). port.gave q.0 q.1) given
    pub took : AllByRecursion (λ (q : ℕ × List ℕ). port.took q.0 q.1) taken
    pub all_given : host.given new.port ≡ with_crossings none_yet given
    pub all_taken : host.taken new.port ≡ with_crossings none_yet taken
    pub store : host.store new.port ≡ option_map (λ s. with_puts s taken) (host.store before.port)
    pub one_begin : new.begins ≡ one_more before.begins

  -- the tap has begun once: nothing has crossed, and nothing has come
  pub record HasBegun (before tap : TapState P) : Type 0 where
    pub ready : IsReady tap
    pub none_given : host.given tap.port ≡ none_yet
    pub none_taken : host.taken tap.port ≡ none_yet
    pub same_store : host.store tap.port ≡ host.store before.port
    pub one_begin : tap.begins ≡ one_more before.begins
