-- Header blocks stand one behind the other, so that each starts where those before it end.
use Rattle.std.proofs.Common.{◌≡◌, ◌≢◌, ℕ, ◌+◌, ◌-◌, ◌*◌, ◌<◌, ◌≤◌, ◌==◌, List, [], ◌∷◌, length, take, drop, fold, filter, Option, Some, None, true, false, refl, sym, ◌∙◌, ap, cond, nat_le, nat_lt, arith, get_or, if◌then◌else◌, subst}
use Rattle.std.proofs.lemmas.Bool.Decides.{nat_tests}
use Rattle.std.proofs.lemmas.List.{drop_more, length-replicate, take_more}
use Rattle.std.proofs.lemmas.List.Sums.{fold_push}
use Rattle.eleos_base.specs.declared.memory.Addr.{Addr}
use Rattle.eleos_base.specs.declared.memory.Live.{Live}
use Rattle.eleos_base.specs.declared.plan.BlockPlan.{BlockPlan}
use Rattle.eleos_base.specs.declared.plan.EnclavePlan.{EnclavePlan}
use Rattle.eleos_base.specs.declared.plan.Plan.{Plan}
use Rattle.eleos_base.specs.Plain.{EnclaveMemory, blank, lowest_run, memory_of, opened_at, opening, opening_of, subs_for, with_block, with_header_block, zeros}
use Rattle.eleos_base.specs.Plans.{subs_in}
use Rattle.eleos_core.specs.Opening.{with_header}
use Rattle.eleos_core.specs.Order.{AreInOrder}
use Rattle.eleos_core.proofs.ByPlace.{get_or-map_from}
use Rattle.eleos_core.proofs.FreeRuns.{gap, gap_is}
use Rattle.eleos_core.proofs.OpeningBlocks.{live_is, with_own}
use Rattle.eleos_core.proofs.OpeningNumbers.{subs_made}
use Rattle.eleos_meaning.specs.Names.{Names, header_address, header_start, no_names, with_address, with_headers, with_name}

is_le : (a b : ℕ) → a ≤ b → nat_le a b ≡ true
is_le a b le = grind (arith, nat_tests)

not_le : (a b : ℕ) → b < a → nat_le a b ≡ false
not_le a b lt = grind (arith, nat_tests)

not_lt : (a b : ℕ) → b ≤ a → nat_lt a b ≡ false
not_lt a b le = grind (arith, nat_tests)

is_eq : (a b : ℕ) → a ≡ b → (a == b) ≡ true
is_eq a b same = grind (arith, nat_tests)

not_eq : (a b : ℕ) → a ≢ b → (a == b) ≡ false
not_eq a b apart = grind (arith, nat_tests)

-- some bytes take some sub-pages
some_subs : (bytes : ℕ) → 1 ≤ bytes → 1 ≤ subs_for 1024 bytes
some_subs bytes some = grind arith

-- the blocks are of some sub-pages each, and fill those from the first place up to the last
abbrev pub Tiles : ℕ → ℕ → List Live → Type 0
Tiles from end [] = from ≡ end
Tiles from end (b ∷ bs) = (b.start ≡ from) × (1 ≤ b.len) × Tiles (from + b.len) end bs

Tiles-le : (from end : ℕ) (bs : List Live) → Tiles from end bs → from ≤ end
Tiles-le from end [] tiles = omega arith
Tiles-le from end (b ∷ bs) tiles = let rest : from + b.len ≤ end = Tiles-le (from + b.len) end bs tiles.2 in omega arith

-- they are in order
Tiles-in_order : (from end subs : ℕ) (bs : List Live) → Tiles from end bs → end ≤ subs → AreInOrder from subs bs
Tiles-in_order from end subs [] tiles within = omega arith
Tiles-in_order from end subs (b ∷ bs) tiles within =
    (omega (arith, tiles.0), tiles.1, subst (λ at. AreInOrder at subs bs) (ap (λ n. n + b.len) (sym tiles.0)) (Tiles-in_order (from + b.len) end subs bs tiles.2 within))

-- no gap is before the end
gap_behind : (subs len from end : ℕ) (bs : List Live) → 1 ≤ len → Tiles from end bs → gap subs len from bs ≡ cond (nat_le len (subs - end)) (Some end) None
gap_behind subs len from end [] some tiles = ap (λ at. cond (nat_le len (subs - at)) (Some at) None) tiles
gap_behind subs len from end (b ∷ bs) some tiles =
    let narrow : b.start - from < len = omega (arith, tiles.0) in
    rw (not_le len (b.start - from) narrow) (ap (λ at. gap subs len (at + b.len) bs) tiles.0 ∙ gap_behind subs len (from + b.len) end bs some tiles.2)

-- the lowest free run is the one behind them, where it has room
lowest_behind : (subs len end : ℕ) (bs : List Live) → 1 ≤ len → Tiles 0 end bs → end ≤ subs → lowest_run bs subs len ≡ cond (nat_le len (subs - end)) (Some end) None
lowest_behind subs len end bs some tiles within =
    sym (gap_is [] bs 0 subs len some (Tiles-in_order 0 end subs bs tiles within) refl (λ s below. absurd (omega arith))) ∙ gap_behind subs len 0 end bs some tiles

-- one more behind them
Tiles-with_block : (from end : ℕ) (b : Live) (bs : List Live) → Tiles from end bs → b.start ≡ end → 1 ≤ b.len → Tiles from (end + b.len) (with_block b bs)
Tiles-with_block from end b [] tiles at some = let is : from ≡ end = tiles in (omega arith, some, omega arith)
Tiles-with_block from end b (other ∷ others) tiles at some =
    let first : other.start ≡ from = tiles.0 in
    let rest : from + other.len ≤ end = Tiles-le (from + other.len) end others tiles.2 in
    rw (not_lt b.start other.start (omega arith)) (tiles.0, tiles.1, Tiles-with_block (from + other.len) end b others tiles.2 at some)

-- header blocks leave the texts
header-texts : (size : ℕ) (blocks : List BlockPlan) (m : EnclaveMemory) → (fold (with_header_block size) m blocks).texts ≡ m.texts
header-texts size [] m = refl
header-texts size (block ∷ blocks) m = header-texts size blocks (with_header_block size m block) ∙ opened-texts (lowest_run m.blocks (length m.texts) (subs_for size block.bytes))
  where
    opened-texts : (start : Option ℕ) → (opened_at size block m start).texts ≡ m.texts
    opened-texts None = refl
    opened-texts (Some start) = refl

-- an enclave of no pages and no frames, for a number that no enclave has
abbrev pub no_enclave : EnclavePlan
no_enclave = record { pages = 0; frames = 0 }

module _ (k : Plan) (home : ℕ) where
  -- the sub-pages of the enclave
  abbrev pub all_of : ℕ
  all_of = (get_or k.enclaves home no_enclave).pages * 4

  -- its live blocks after the first i header blocks
  abbrev pub heads : ℕ → List Live
  heads i = fold (with_own all_of home) [] (take i k.blocks)

  -- the machine with those
  abbrev before : ℕ → Plan
  before i = record k { blocks = take i k.blocks }

  -- the first i header blocks fill the sub-pages up to the start, and with these addresses so far the others make those of all
  pub record Stands (texts : List (List ℕ)) (i start : ℕ) (names : Names) : Type 0 where
    pub within : start ≤ all_of
    pub tiles : Tiles 0 start (heads i)
    pub so_far : with_headers k home i (drop i k.blocks) (drop i texts) names ≡ with_headers k home 0 k.blocks texts no_names

  -- at the first
  pub Stands-start : (texts : List (List ℕ)) → Stands texts 0 0 no_names
  Stands-start texts = record { within = omega arith; tiles = refl; so_far = refl }

  module _ (exists : home < length k.enclaves) where
    memory-blocks : (i : ℕ) → (memory_of (opening (before i)) home).blocks ≡ heads i
    memory-blocks i = sym (live_is (before i) home no_enclave k.enclaves refl exists)

    memory-texts : (i : ℕ) → length (memory_of (opening (before i)) home).texts ≡ all_of
    memory-texts i =
        let made : EnclavePlan = get_or k.enclaves home no_enclave in
        let size : ℕ = subs_in k home made.pages in
        let here : memory_of (opening (before i)) home ≡ opening_of (before i) home made
        = get_or-map_from (opening_of (before i)) 0 k.enclaves home no_enclave (record { blocks = []; texts = [] }) exists ∙ ap (λ n. opening_of (before i) n made) (omega arith) in
        ap (λ (m : EnclaveMemory). length m.texts) here ∙ (ap length (header-texts 1024 (filter (λ block. block.enclave == home) (take i k.blocks)) (blank 1024 size))
        ∙ (length-replicate size (zeros 1024) ∙ subs_made k home made.pages))

    module _ (texts : List (List ℕ)) (i start : ℕ) (names : Names) (block none : BlockPlan) (at : block ≡ get_or k.blocks i none) (more : i < length k.blocks) (named : length texts ≡ length k.blocks)
        (some : 1 ≤ block.bytes) (stands : Stands texts i start names) where
      heads-more : heads (i + 1) ≡ with_own all_of home (heads i) block
      heads-more = ap (fold (with_own all_of home) []) (take_more k.blocks i none more) ∙ (fold_push (with_own all_of home) [] (take i k.blocks) (get_or k.blocks i none) ∙ ap (with_own all_of home (heads i)) (sym at))

      lowest : lowest_run (heads i) all_of (subs_for 1024 block.bytes) ≡ cond (nat_le (subs_for 1024 block.bytes) (all_of - start)) (Some start) None
      lowest = lowest_behind all_of (subs_for 1024 block.bytes) start (heads i) (some_subs block.bytes some) stands.tiles stands.within

      start-is : block.enclave ≡ home → header_start k i block ≡ cond (nat_le (subs_for 1024 block.bytes) (all_of - start)) (Some start) None
      start-is here =
          ap (λ e. lowest_run (memory_of (opening (before i)) e).blocks (length (memory_of (opening (before i)) e).texts) (subs_for 1024 block.bytes)) here
          ∙ (ap (λ bs. lowest_run bs (length (memory_of (opening (before i)) home).texts) (subs_for 1024 block.bytes)) (memory-blocks i)
          ∙ (ap (λ n. lowest_run (heads i) n (subs_for 1024 block.bytes)) (memory-texts i) ∙ lowest))

      headers-more : with_headers k home (i + 1) (drop (i + 1) k.blocks) (drop (i + 1) texts) (if block.enclave == home then with_address (get_or texts i []) (header_address k i block) names else names)
          ≡ with_headers k home 0 k.blocks texts no_names
      headers-more = rw (drop_more k.blocks i none more, drop_more texts i [] (omega arith), sym at) at stands.so_far

      -- the live blocks with this one, by where it starts
      abbrev opened : Option ℕ → List Live
      opened first = (opened_at 1024 block (record { blocks = heads i; texts = [] }) first).blocks

      heads-here : block.enclave ≡ home → (first : Option ℕ) → cond (nat_le (subs_for 1024 block.bytes) (all_of - start)) (Some start) None ≡ first → heads (i + 1) ≡ opened first
      heads-here here first is = heads-more ∙ (ap (λ v. if v then with_header all_of block (heads i) else heads i) (is_eq block.enclave home here) ∙ ap opened (lowest ∙ is))

      -- a block of another enclave
      pub Stands-away : block.enclave ≢ home → Stands texts (i + 1) start names
      Stands-away away = record {
        within = stands.within;
        tiles = rw (heads-more, not_eq block.enclave home away) stands.tiles;
        so_far = rw (not_eq block.enclave home away) at headers-more;
      }

      -- a block without room
      pub Stands-full : block.enclave ≡ home → all_of - start < subs_for 1024 block.bytes → Stands texts (i + 1) start names
      Stands-full here narrow =
          let full : nat_le (subs_for 1024 block.bytes) (all_of - start) ≡ false = not_le _ _ narrow in
          record {
            within = stands.within;
            tiles = subst (Tiles 0 start) (sym (heads-here here None (ap (λ v. cond v (Some start) None) full))) stands.tiles;
            so_far = rw (is_eq block.enclave home here, start-is here, full) at headers-more;
          }

      -- a block with room
      pub Stands-more : block.enclave ≡ home → subs_for 1024 block.bytes ≤ all_of - start
          → Stands texts (i + 1) (start + subs_for 1024 block.bytes) (with_name (get_or texts i []) (record { enclave = home; at = start * 1024 }) names)
      Stands-more here fits =
          let room : nat_le (subs_for 1024 block.bytes) (all_of - start) ≡ true = is_le _ _ fits in
          let first : start ≤ all_of = stands.within in
          let address : ◌≡◌ {A = Addr} (record { enclave = block.enclave; at = 1024 * start }) (record { enclave = home; at = start * 1024 }) =
          λ t. record { enclave = here t; at = (let same : 1024 * start ≡ start * 1024 = omega arith in same t) } in
          record {
            within = omega arith;
            tiles = subst (Tiles 0 (start + subs_for 1024 block.bytes)) (sym (heads-here here (Some start) (ap (λ v. cond v (Some start) None) room)))
                (Tiles-with_block 0 start _ (heads i) stands.tiles refl (some_subs block.bytes some));
            so_far = rw address at (rw (is_eq block.enclave home here, start-is here, room) at headers-more);
          }
