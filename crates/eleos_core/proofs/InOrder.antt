-- Blocks stay in order.
use Rattle.std.proofs.Common.{◌≡◌, ℕ, zero, suc, ◌+◌, ◌<◌, ◌≤◌, List, [], ◌∷◌, Some, None, Bool, true, nat_le, nat_lt, ◌&&◌, filter, map, arith}
use Rattle.std.specs.List.{list_all, find}
use Rattle.std.proofs.lemmas.Bool.Decides.{nat_tests}
use Rattle.eleos_base.specs.declared.memory.Live.{Live}
use Rattle.eleos_base.specs.declared.memory.Addr.{Addr}
use Rattle.eleos_base.specs.Lists.{first_from}
use Rattle.eleos_base.specs.Plain.{lowest_run, is_free_run, is_apart, with_block, shared_at}
use Rattle.eleos_core.specs.Order.{AreInOrder}
use Rattle.eleos_core.proofs.FreeRuns.{by_test, nat_lt_of, nat_ge_of, AreInOrder-le, AreInOrder-lower}

-- the number that is found passes
first_from-passes : (test : ℕ → Bool) (count i s : ℕ) → first_from test count i ≡ Some s → test s ≡ true
unfolding first_from
first_from-passes test zero i s found = cc
first_from-passes test (suc count) i s found = by_test (test i)
    (λ holds. let same : i ≡ s = (let is = rw holds at found in cc) in rw (← same) holds)
    (λ fails. first_from-passes test count (i + 1) s (rw fails at found))

-- the lowest free run is one
pub lowest_run-is_free : (blocks : List Live) (subs len start : ℕ) → lowest_run blocks subs len ≡ Some start → is_free_run blocks subs len start ≡ true
unfolding lowest_run
lowest_run-is_free blocks subs len start found = first_from-passes (is_free_run blocks subs len) subs 0 start found

-- and lies within the sub-pages
pub is_free_run-le : (blocks : List Live) (subs len start : ℕ) → is_free_run blocks subs len start ≡ true → start + len ≤ subs
is_free_run-le blocks subs len start free = grind (arith, nat_tests)

-- apart of a block that starts above
apart_below : (start len : ℕ) (b : Live) → is_apart start len b ≡ true → start < b.start → start + len ≤ b.start
apart_below start len b apart below = grind (arith, nat_tests)

-- or at or below
apart_above : (start len : ℕ) (b : Live) → is_apart start len b ≡ true → 1 ≤ len → b.start ≤ start → b.start + b.len ≤ start
apart_above start len b apart some above = grind (arith, nat_tests)

first_of : (a b c : Bool) → (a && (b && c)) ≡ true → b ≡ true
first_of a b c all = grind (arith, nat_tests)

rest_of : (a b c : Bool) → (a && (b && c)) ≡ true → (a && c) ≡ true
rest_of a b c all = grind (arith, nat_tests)

-- with one more block in a free run
pub in_order-with_block : (block : Live) (blocks : List Live) (low subs : ℕ) → AreInOrder low subs blocks → low ≤ block.start → 1 ≤ block.len
    → is_free_run blocks subs block.len block.start ≡ true → AreInOrder low subs (with_block block blocks)
in_order-with_block block [] low subs order le some free = (le, some, is_free_run-le [] subs block.len block.start free)
in_order-with_block block (b ∷ bs) low subs order le some free =
    let apart : is_apart block.start block.len b ≡ true = first_of (nat_le (block.start + block.len) subs) (is_apart block.start block.len b) (list_all (is_apart block.start block.len) bs) free in
    by_test (nat_lt block.start b.start)
    (λ above. rw above (le, some, (apart_below block.start block.len b apart (nat_lt_of _ _ above), order.1, order.2)))
    (λ below. rw below (order.0, order.1, in_order-with_block block bs (b.start + b.len) subs order.2 (apart_above block.start block.len b apart some (nat_ge_of _ _ below)) some (rest_of (nat_le (block.start + block.len) subs) (is_apart block.start block.len b) (list_all (is_apart block.start block.len) bs) free)))

-- without some
pub in_order-filter : (p : Live → Bool) (blocks : List Live) (low subs : ℕ) → AreInOrder low subs blocks → AreInOrder low subs (filter p blocks)
in_order-filter p [] low subs order = order
in_order-filter p (b ∷ bs) low subs order = by_test (p b)
    (λ kept. rw kept (order.0, order.1, in_order-filter p bs (b.start + b.len) subs order.2))
    (λ gone. rw gone (AreInOrder-lower (b.start + b.len) low subs (filter p bs) (omega arith) (in_order-filter p bs (b.start + b.len) subs order.2)))

-- with some shared
pub in_order-shared : (size enclave : ℕ) (at : Addr) (blocks : List Live) (low subs : ℕ) → AreInOrder low subs blocks → AreInOrder low subs (map (shared_at size enclave at) blocks)
in_order-shared size enclave at [] low subs order = order
in_order-shared size enclave at (b ∷ bs) low subs order = (order.0, order.1, in_order-shared size enclave at bs (b.start + b.len) subs order.2)

-- a block that is found lies within the sub-pages
pub found-le : (p : Live → Bool) (blocks : List Live) (block : Live) (low subs : ℕ) → AreInOrder low subs blocks → find p blocks ≡ Some block → block.start + block.len ≤ subs
found-le p [] block low subs order found = absurd (let wrong : None ≡ Some block = found in cc)
found-le p (b ∷ bs) block low subs order found = by_test (p b)
    (λ here. let same : b ≡ block = (let is = rw here at found in cc) in rw (← same) (AreInOrder-le (b.start + b.len) subs bs order.2))
    (λ later. found-le p bs block (b.start + b.len) subs order.2 (rw later at found))
