-- What a told host has, and what each act makes of it. A place that it doesn't have reads as zeros and never changes.
use Rattle.std.specs.Prelude.{ℕ, ◌-◌, List, ◌++◌, length, Bool, Option, Some, None, is_some, replicate, slice_index_or, slice_set}
use Rattle.eleos_host.specs.Blocks.{zero_block, with_bit_flipped}

-- the block of each place, and the block that was kept of each place, if any
pub record Store : Type 0 where
  pub contents : List (List ℕ)
  pub kept : List (Option (List ℕ))

-- a store of so many places, before anything was put or kept
abbrev pub blank_store : ℕ → Store
blank_store places = record { contents = replicate places zero_block; kept = replicate places None }

-- the list with copies of the item behind it, so that it has at least so many
abbrev pub filled_up : {A : Type 0} → ℕ → A → List A → List A
filled_up count item items = items ++ replicate (count - length items) item

-- the store with at least so many places: those that it had as they were, and the others as in a blank one
abbrev pub with_room : ℕ → Store → Store
with_room places s = record { contents = filled_up places zero_block s.contents; kept = filled_up places None s.kept }

-- what the place reads as
abbrev pub get_from : Store → ℕ → List ℕ
get_from s place = slice_index_or s.contents place zero_block

-- the place has this block
abbrev pub put_to : Store → ℕ → List ℕ → Store
put_to s place block = record s { contents = slice_set s.contents place block }

-- one bit of the place's block is turned
abbrev pub flipped : Store → ℕ → ℕ → Store
flipped s place bit = put_to s place (with_bit_flipped (get_from s place) bit)

-- each of the two places has what the other one read as
abbrev pub swapped : Store → ℕ → ℕ → Store
swapped s a b = put_to (put_to s a (get_from s b)) b (get_from s a)

-- the place's block is kept, in place of what was kept of it
abbrev pub kept_at : Store → ℕ → Store
kept_at s place = record s { kept = slice_set s.kept place (Some (get_from s place)) }

-- the block that was kept of the place
abbrev pub kept_of : Store → ℕ → Option (List ℕ)
kept_of s place = slice_index_or s.kept place None

-- a block was kept of the place
abbrev pub is_kept : Store → ℕ → Bool
is_kept s place = is_some (kept_of s place)

-- the place has this block, if there is one
abbrev pub put_if_any : Store → ℕ → Option (List ℕ) → Store
put_if_any s place None = s
put_if_any s place (Some block) = put_to s place block

-- the place has the block that was kept of it, which stays kept; nothing changes where none was
abbrev pub restored : Store → ℕ → Store
restored s place = put_if_any s place (kept_of s place)
