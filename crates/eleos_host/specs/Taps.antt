-- The copy buffers of one pass, as contracts see them, and what each call makes of them.
use Rattle.std.specs.Prelude.{◌≡◌, ℕ, ◌+◌, ◌%◌, ◌^◌, List, length, replicate, slice_index_or, slice_set, ◌==◌, Option, Some, None, option_map, if◌then◌else◌}
use Rattle.eleos_host.specs.declared.slot.TheConstants.{SLOTS}
use Rattle.eleos_host.specs.declared.slot.SlotState.{SlotState}
use Rattle.eleos_host.specs.declared.slot.SlotState.TheVariants.{Idle, AsItCame, Lent}
use Rattle.eleos_host.specs.Blocks.{zero_block}

-- the port; how often the tap has begun; the bytes of each slot and where they are from; the slot that was named as one that did not pass, if any
pub record TapState (P : Type 0) : Type 0 where
  pub port : P
  pub begins : ℕ
  pub blocks : List (List ℕ)
  pub states : List SlotState
  pub failed : Option ℕ

-- nothing was fetched into any slot
abbrev pub all_idle : List SlotState
all_idle = replicate SLOTS Idle

-- what the state becomes where the bytes are lent for writing
abbrev pub lent_state : SlotState → SlotState
lent_state Idle = Idle
lent_state AsItCame = Lent
lent_state Lent = Lent

-- the slot that is named, where it is another than this one
abbrev pub other_than : ℕ → Option ℕ → Option ℕ
other_than slot None = None
other_than slot (Some named) = if named == slot then None else Some named

-- one begin more: they are counted as a `u64` wraps
abbrev pub one_more : ℕ → ℕ
one_more begins = (begins + 1) % 2 ^ 64

module _ {P : Type 0} where
  -- a tap before its first `begin`
  abbrev pub new_tap : P → TapState P
  new_tap port = record { port = port; begins = 0; blocks = replicate SLOTS zero_block; states = all_idle; failed = None }

  -- the bytes that the slot has
  abbrev pub block_of : TapState P → ℕ → List ℕ
  block_of tap slot = slice_index_or tap.blocks slot zero_block

  -- where the bytes of the slot are from
  abbrev pub state_of : TapState P → ℕ → SlotState
  state_of tap slot = slice_index_or tap.states slot Idle

  -- all slots are there, as in every tap
  pub record HasSlots (tap : TapState P) : Type 0 where
    pub blocks : length tap.blocks ≡ SLOTS
    pub states : length tap.states ≡ SLOTS

  -- nothing was fetched into the slot since `begin`
  abbrev pub IsIdle : TapState P → ℕ → Type 0
  IsIdle tap slot = state_of tap slot ≡ Idle

  -- the slot was fetched since `begin`, and has its block as it came
  abbrev pub IsAsItCame : TapState P → ℕ → Type 0
  IsAsItCame tap slot = state_of tap slot ≡ AsItCame

  -- it has begun once more: nothing is fetched and nothing named; the bytes lie there still
  abbrev pub begun : TapState P → P → TapState P
  begun tap port = record { port = port; begins = one_more tap.begins; blocks = tap.blocks; states = all_idle; failed = None }

  -- the slot has the block that came, as it came
  abbrev pub with_fetched : TapState P → ℕ → P → List ℕ → TapState P
  with_fetched tap slot port block = record {
    port = port;
    begins = tap.begins;
    blocks = slice_set tap.blocks slot block;
    states = slice_set tap.states slot AsItCame;
    failed = tap.failed;
  }

  -- the slot has no block as it came, and is not the one that is named
  abbrev pub loosened : TapState P → ℕ → TapState P
  loosened tap slot = record {
    port = tap.port;
    begins = tap.begins;
    blocks = tap.blocks;
    states = slice_set tap.states slot (lent_state (state_of tap slot));
    failed = other_than slot tap.failed;
  }

  -- the slot's bytes were lent for writing, and these were left there
  abbrev pub with_lent : TapState P → ℕ → List ℕ → TapState P
  with_lent tap slot bytes = record (loosened tap slot) { blocks = slice_set tap.blocks slot bytes }

  -- the port alone has changed
  abbrev pub with_port : TapState P → P → TapState P
  with_port tap port = record tap { port = port }

  -- the slot is the one named last
  abbrev pub with_failed : TapState P → ℕ → TapState P
  with_failed tap slot = record tap { failed = Some slot }

  -- the block of the slot that is named
  abbrev pub failed_block : TapState P → Option (List ℕ)
  failed_block tap = option_map (block_of tap) tap.failed
