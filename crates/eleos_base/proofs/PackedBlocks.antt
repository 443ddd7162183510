-- Header blocks stand one behind the other, so that what is free is behind them.
use Rattle.std.proofs.Common.{◌≡◌, ℕ, zero, suc, ◌+◌, ◌-◌, ◌<◌, ◌≤◌, List, [], ◌∷◌, length, Some, None, Bool, true, false, refl, ◌∙◌, ap, cond, nat_le, nat_lt, ◌==◌, ◌&&◌, arith, get_or, is_some}
use Rattle.std.proofs.Math.ListN.{length-replicate}
use Rattle.std.specs.List.{list_all, filter, fold}
use Rattle.std.specs.Prelude.{All}
use Rattle.std.proofs.lemmas.Bool.Decides.{nat_tests}
use Rattle.std.proofs.lemmas.List.Elements.{All-head, All-tail}
use Rattle.eleos_base.specs.declared.memory.Live.{Live}
use Rattle.eleos_base.specs.declared.plan.Plan.{Plan}
use Rattle.eleos_base.specs.declared.plan.BlockPlan.{BlockPlan}
use Rattle.eleos_base.specs.declared.plan.EnclavePlan.{EnclavePlan}
use Rattle.eleos_base.specs.Lists.{first_from, map_from}
use Rattle.eleos_base.specs.Plans.{subs_in}
use Rattle.eleos_base.specs.Plain.{EnclaveMemory, lowest_run, is_free_run, is_apart, with_block, subs_for, opened_at, with_header_block, opening_of, blank, zeros}
use Rattle.eleos_base.specs.Rooms.{less_block, left_by, free_behind, has_space}

by_test : {A : Type 0} (b : Bool) → (b ≡ true → A) → (b ≡ false → A) → A
by_test true holds fails = holds refl
by_test false holds fails = fails refl

is_le : (a b : ℕ) → a ≤ b → nat_le a b ≡ true
is_le a b le = grind (arith, nat_tests)

not_le : (a b : ℕ) → b < a → nat_le a b ≡ false
not_le a b lt = grind (arith, nat_tests)

not_lt : (a b : ℕ) → b ≤ a → nat_lt a b ≡ false
not_lt a b le = grind (arith, nat_tests)

le_of : (a b : ℕ) → nat_le a b ≡ true → a ≤ b
le_of a b holds = grind (arith, nat_tests)

lt_of : (a b : ℕ) → nat_le a b ≡ false → b < a
lt_of a b fails = grind (arith, nat_tests)

-- the first number that passes
first_from-found : (test : ℕ → Bool) (count i s : ℕ) → i ≤ s → s < i + count → test s ≡ true → ((t : ℕ) → i ≤ t → t < s → test t ≡ false) → first_from test count i ≡ Some s
unfolding first_from
first_from-found test zero i s from within passes none = absurd (omega arith)
first_from-found test (suc count) i s from within passes none =
    by_test (nat_le s i) (λ holds. let at : i ≡ s = (let le : s ≤ i = le_of s i holds in omega arith) in rw (at, passes))
    (λ fails. let lt : i < s = lt_of s i fails in
    rw (none i (omega arith) lt) (first_from-found test count (i + 1) s (omega arith) (omega arith) passes (λ t above below. none t (omega arith) below)))

-- no number passes
first_from-none : (test : ℕ → Bool) (count i : ℕ) → ((t : ℕ) → i ≤ t → t < i + count → test t ≡ false) → first_from test count i ≡ None
unfolding first_from
first_from-none test zero i none = refl
first_from-none test (suc count) i none = rw (none i (omega arith) (omega arith)) (first_from-none test count (i + 1) (λ t above below. none t (omega arith) (omega arith)))

-- ---- blocks one behind the other

-- the blocks are of some sub-pages each, and fill those from the first place up to the last
abbrev Tiles : ℕ → ℕ → List Live → Type 0
Tiles from end [] = from ≡ end
Tiles from end (b ∷ bs) = (b.start ≡ from) × (1 ≤ b.len) × Tiles (from + b.len) end bs

Tiles-le : (from end : ℕ) (bs : List Live) → Tiles from end bs → from ≤ end
Tiles-le from end [] tiles = omega arith
Tiles-le from end (b ∷ bs) tiles = let rest : from + b.len ≤ end = Tiles-le (from + b.len) end bs tiles.2 in omega arith

and_false : (b : Bool) → (b && false) ≡ false
and_false true = refl
and_false false = refl

-- a run behind them meets none
apart_behind : (from end start len : ℕ) (bs : List Live) → Tiles from end bs → end ≤ start → list_all (is_apart start len) bs ≡ true
apart_behind from end start len [] tiles behind = refl
apart_behind from end start len (b ∷ bs) tiles behind =
    let first : b.start ≡ from = tiles.0 in
    let rest : from + b.len ≤ end = Tiles-le (from + b.len) end bs tiles.2 in
    rw (is_le (b.start + b.len) start (omega arith), apart_behind (from + b.len) end start len bs tiles.2 behind) refl

-- a run that starts among them meets one
met_within : (from end start len : ℕ) (bs : List Live) → Tiles from end bs → 1 ≤ len → from ≤ start → start < end → list_all (is_apart start len) bs ≡ false
met_within from end start len [] tiles some above below = absurd (omega arith)
met_within from end start len (b ∷ bs) tiles some above below =
    let first : b.start ≡ from = tiles.0 in
    by_test (nat_le (b.start + b.len) start)
    (λ holds. let past : b.start + b.len ≤ start = le_of _ _ holds in
    rw (met_within (from + b.len) end start len bs tiles.2 some (omega arith) below) (and_false _))
    (λ fails. let within : start < b.start + b.len = lt_of _ _ fails in
    rw (fails, not_le (start + len) b.start (omega arith)) refl)

-- one more behind them
Tiles-with_block : (from end : ℕ) (b : Live) (bs : List Live) → Tiles from end bs → b.start ≡ end → 1 ≤ b.len → Tiles from (end + b.len) (with_block b bs)
Tiles-with_block from end b [] tiles at some = let is : from ≡ end = tiles in (omega arith, some, omega arith)
Tiles-with_block from end b (other ∷ others) tiles at some =
    let first : other.start ≡ from = tiles.0 in
    let rest : from + other.len ≤ end = Tiles-le (from + other.len) end others tiles.2 in
    rw (not_lt b.start other.start (omega arith)) (tiles.0, tiles.1, Tiles-with_block (from + other.len) end b others tiles.2 at some)

-- the lowest free run is the one behind them, where it has room
lowest_behind : (subs end len : ℕ) (bs : List Live) → Tiles 0 end bs → 1 ≤ len → lowest_run bs subs len ≡ cond (nat_le (end + len) subs) (Some end) None
unfolding lowest_run
lowest_behind subs end len bs tiles some = by_test (nat_le (end + len) subs)
    (λ holds. let fits : end + len ≤ subs = le_of _ _ holds in
    rw holds (first_from-found (is_free_run bs subs len) subs 0 end (omega arith) (omega arith) (rw (holds, apart_behind 0 end end len bs tiles (omega arith)) refl)
    (λ t above below. rw (met_within 0 end t len bs tiles some above below) (and_false _))))
    (λ fails. let narrow : subs < end + len = lt_of _ _ fails in
    rw fails (first_from-none (is_free_run bs subs len) subs 0
    (λ t above below. by_test (nat_le end t)
    (λ past. let behind : end ≤ t = le_of _ _ past in rw (not_le (t + len) subs (omega arith)) refl)
    (λ among. rw (met_within 0 end t len bs tiles some above (lt_of _ _ among)) (and_false _)))))

-- ---- memory with header blocks

-- an enclave of so many sub-pages, of which so many behind its blocks are free
record IsPacked (subs free : ℕ) (m : EnclaveMemory) : Type 0 where
  texts : length m.texts ≡ subs
  within : free ≤ subs
  tiles : Tiles 0 (subs - free) m.blocks

-- some bytes take some sub-pages
some_subs : (bytes : ℕ) → 1 ≤ bytes → 1 ≤ subs_for 1024 bytes
some_subs bytes some = grind arith

-- one block takes its sub-pages of those that are free
packed_with : (subs free enclave : ℕ) (m : EnclaveMemory) (block : BlockPlan) → IsPacked subs free m → 1 ≤ block.bytes → (block.enclave == enclave) ≡ true → IsPacked subs (less_block enclave free block) (with_header_block 1024 m block)
packed_with subs free enclave m block packed some here =
    let len : ℕ = subs_for 1024 block.bytes in
    let taken : ℕ = subs - free in
    let some_len : 1 ≤ len = some_subs block.bytes some in
    let lowest = lowest_behind subs taken len m.blocks packed.tiles some_len in
    let whole : free ≤ subs = packed.within in
    by_test (nat_le len free)
    (λ holds. let fits : len ≤ free = le_of _ _ holds in
    let room : nat_le (taken + len) subs ≡ true = is_le _ _ (omega arith) in
    let end : taken + len ≡ subs - (free - len) = omega arith in
    let opened : opened_at 1024 block m (Some taken) ≡ with_header_block 1024 m block = rw (packed.texts, lowest, room) refl in
    let left : free - len ≡ less_block enclave free block = rw (here, holds) refl in
    rw (← left, ← opened) (record {
      texts = packed.texts;
      within = omega arith;
      tiles = rw (← end) (Tiles-with_block 0 taken _ m.blocks packed.tiles refl some_len);
    }))
    (λ fails. let narrow : free < len = lt_of _ _ fails in
    let none : nat_le (taken + len) subs ≡ false = not_le _ _ (omega arith) in
    let opened : m ≡ with_header_block 1024 m block = rw (packed.texts, lowest, none) refl in
    let left : free ≡ less_block enclave free block = rw (here, fails) refl in
    rw (← left, ← opened) packed)

-- all header blocks take theirs
packed_behind : (subs enclave : ℕ) (blocks : List BlockPlan) (free : ℕ) (m : EnclaveMemory) → IsPacked subs free m → All (λ (block : BlockPlan). 1 ≤ block.bytes) blocks
    → IsPacked subs (left_by enclave blocks free) (fold (with_header_block 1024) m (filter (λ block. block.enclave == enclave) blocks))
packed_behind subs enclave [] free m packed sizes = packed
packed_behind subs enclave (block ∷ others) free m packed sizes =
    let rest = All-tail (λ (block : BlockPlan). 1 ≤ block.bytes) block others sizes in
    by_test (block.enclave == enclave)
    (λ here. rw here (rw here at (packed_behind subs enclave others (less_block enclave free block) (with_header_block 1024 m block)
    (packed_with subs free enclave m block packed (All-head (λ (block : BlockPlan). 1 ≤ block.bytes) block others sizes) here) rest)))
    (λ away. rw away (packed_behind subs enclave others free m packed rest))

-- an item of a list made by place
map_from-at : {A B : Type 0} (f : ℕ → A → B) (i : ℕ) (xs : List A) (k : ℕ) (x : A) (y : B) → k < length xs → get_or (map_from f i xs) k y ≡ f (i + k) (get_or xs k x)
map_from-at f i [] k x y lt = absurd (omega arith)
map_from-at f i (a ∷ rest) zero x y lt = ap (λ n. f n a) (omega arith)
map_from-at f i (a ∷ rest) (suc k) x y lt = map_from-at f (i + 1) rest k x y (omega arith) ∙ ap (λ n. f n (get_or rest k x)) (omega arith)

-- so many bytes find room where what is free is enough
pub room_enough : (plan : Plan) (before : List BlockPlan) (enclave bytes : ℕ) → enclave < length plan.enclaves → All (λ (earlier : BlockPlan). 1 ≤ earlier.bytes) before → 1 ≤ bytes
    → nat_le (subs_for 1024 bytes) (free_behind plan enclave before) ≡ has_space (record plan { blocks = before }) enclave bytes
unfolding has_space
room_enough plan before enclave bytes within sizes some =
    let made : EnclavePlan = get_or plan.enclaves enclave (record { pages = 0; frames = 0 }) in
    let subs : ℕ = subs_in plan enclave made.pages in
    let blank_packed : IsPacked subs subs (blank 1024 subs) = record { texts = length-replicate subs (zeros 1024); within = omega arith; tiles = omega arith } in
    let packed = packed_behind subs enclave before subs (blank 1024 subs) blank_packed sizes in
    let behind : Plan = record plan { blocks = before } in
    let memory = map_from-at (opening_of behind) 0 plan.enclaves enclave (record { pages = 0; frames = 0 }) (record { blocks = []; texts = [] }) within in
    let here : opening_of behind enclave made ≡ opening_of behind (0 + enclave) made = ap (λ n. opening_of behind n made) (omega arith) in
    let free : ℕ = left_by enclave before subs in
    let len : ℕ = subs_for 1024 bytes in
    let lowest = lowest_behind subs (subs - free) len (opening_of behind enclave made).blocks packed.tiles (some_subs bytes some) in
    let left : free ≤ subs = packed.within in
    rw (memory, ← here, packed.texts, lowest) (enough free subs len left) where
      enough : (free subs len : ℕ) → free ≤ subs → nat_le len free ≡ is_some (cond (nat_le (subs - free + len) subs) (Some (subs - free)) None)
      enough free subs len le = by_test (nat_le len free)
          (λ holds. let fits : len ≤ free = le_of _ _ holds in rw (holds, is_le (subs - free + len) subs (omega arith)) refl)
          (λ fails. let narrow : free < len = lt_of _ _ fails in rw (fails, not_le (subs - free + len) subs (omega arith)) refl)
