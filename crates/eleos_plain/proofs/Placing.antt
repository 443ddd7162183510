-- Blocks that are placed among an enclave's others, and taken away.
use Rattle.std.proofs.Common.{◌≡◌, ℕ, ◌+◌, ◌*◌, ◌/◌, ◌<◌, ◌≤◌, List, [], ◌∷◌, length, filter, map, Bool, false, not, nat_lt, if◌then◌else◌, Option, Some, None, Result, Ok, Err, OnOk, OnErr, slice_index, slice_index_or, refl, sym, ◌∙◌, ap, ap₂, subst, true, arith}
use Rattle.std.specs.List.{find}
use Rattle.std.proofs.lemmas.Bool.Decides.{nat_tests}
use Rattle.std.proofs.lemmas.List.{get_or-map}
use Rattle.std.proofs.lemmas.List.Elements.{All-get_or}
use Rattle.eleos_base.specs.declared.memory.Addr.{Addr}
use Rattle.eleos_base.specs.declared.memory.Live.{Live}
use Rattle.eleos_base.specs.declared.plan.EnclavePlan.{EnclavePlan}
use Rattle.eleos_base.specs.declared.plan.Plan.{Plan}
use Rattle.eleos_base.specs.Places.{page_counts, subs}
use Rattle.eleos_base.specs.Plain.{is_good_size, lowest_run, shared_at, starts_at, subs_for, with_block}
use Rattle.eleos_base.specs.Plans.{IsGood}
use Rattle.eleos_core.proofs.ByPlace.{length-map_from}
use Rattle.eleos_core.proofs.FreeRuns.{AreInOrder-le}
use Rattle.eleos_core.proofs.InOrder.{in_order-filter, in_order-shared}
use Rattle.eleos_core.proofs.Numbers.{some_subs}
use Rattle.eleos_core.proofs.OpeningBlocks.{placed_in_order}
use Rattle.eleos_core.proofs.Tests.{by_test}
use Rattle.eleos_core.specs.Order.{AreInOrder}
use Rattle.eleos_plain.specs.Enclaves.{IsEnclave}
use Rattle.eleos_plain.proofs.Giving.{cleared}

-- what holds after a call that was served, and after one that was not, holds
pub either_way : {T E P Q X : Type 0} (r : Result T E) → OnOk r P → OnErr r Q → (P → X) → (Q → X) → X
either_way (Ok x) ok err served not_served = served ok
either_way (Err e) ok err served not_served = not_served err

-- a run that was found, by the blocks and sub-pages themselves
pub found-run : (blocks lent : List Live) (texts : List (List ℕ)) (count len : ℕ) (run : Option ℕ) → lent ≡ blocks → count ≡ length texts → run ≡ lowest_run lent count len → lowest_run blocks (length texts) len ≡ run
found-run blocks lent texts count len run same many found = sym (found ∙ ap₂ (λ bs n. lowest_run bs n len) same many)

-- each block among those in order ends within them
with_block-le : (subs : ℕ) (block : Live) (others : List Live) (low : ℕ) → AreInOrder low subs (with_block block others) → block.start + block.len ≤ subs
with_block-le subs block [] low order = order.2
with_block-le subs block (other ∷ others) low order = by_test (nat_lt block.start other.start)
    (λ b. AreInOrder low subs (if b then block ∷ other ∷ others else other ∷ with_block block others) → block.start + block.len ≤ subs)
    (λ _ order. AreInOrder-le (block.start + block.len) subs (other ∷ others) order.2)
    (λ _ order. with_block-le subs block others (other.start + other.len) order.2) order

-- a block in the lowest free run
module _ (blocks : List Live) (texts : List (List ℕ)) (len start owner : ℕ) (is_shared : Bool) (some : 1 ≤ len) (whole : IsEnclave blocks texts) (found : lowest_run blocks (length texts) len ≡ Some start) where
  pub placed : IsEnclave (with_block (record { start = start; len = len; owner = owner; is_shared = is_shared }) blocks) texts
  placed = record { in_order = placed_in_order (length texts) len start owner is_shared blocks some whole.in_order found; small = whole.small }

  -- ends within the enclave
  pub placed-le : start + len ≤ length texts
  placed-le = with_block-le (length texts) (record { start = start; len = len; owner = owner; is_shared = is_shared }) blocks 0 placed.in_order

-- cleared texts are as many
pub length-cleared : (start len : ℕ) (texts : List (List ℕ)) → length (cleared start len texts) ≡ length texts
length-cleared start len texts = length-map_from _ 0 texts

-- blocks among cleared texts
pub among_cleared : (blocks : List Live) (texts texts' : List (List ℕ)) (start len : ℕ) → texts' ≡ cleared start len texts → IsEnclave blocks texts → IsEnclave blocks texts'
among_cleared blocks texts texts' start len is whole = let same : length texts ≡ length texts' = sym (ap length is ∙ length-cleared start len texts) in record {
  in_order = let P : ℕ → Type 0 = λ n. AreInOrder 0 n blocks in subst P same whole.in_order;
  small = omega arith;
}

-- without one
pub taken_away : (enclave : ℕ) (at : Addr) (blocks : List Live) (texts : List (List ℕ)) → IsEnclave blocks texts → IsEnclave (filter (λ b. not (starts_at 1024 enclave at b)) blocks) texts
taken_away enclave at blocks texts whole = record { in_order = in_order-filter (λ b. not (starts_at 1024 enclave at b)) blocks 0 (length texts) whole.in_order; small = whole.small }

-- with one shared
pub with_shared : (enclave : ℕ) (at : Addr) (blocks : List Live) (texts : List (List ℕ)) → IsEnclave blocks texts → IsEnclave (map (shared_at 1024 enclave at) blocks) texts
with_shared enclave at blocks texts whole = record { in_order = in_order-shared 1024 enclave at blocks 0 (length texts) whole.in_order; small = whole.small }

-- a good size is some bytes
pub some_of_good : (bytes len : ℕ) → len ≡ subs_for 1024 bytes → is_good_size bytes ≡ true → 1 ≤ len
some_of_good bytes len is good = some_subs bytes len is (let some : 1 ≤ bytes = grind (arith, nat_tests) in some)

-- an enclave has no more than 4096 sub-pages
pub subs-small : (plan : Plan) (enclave : ℕ) → IsGood plan → enclave < length plan.enclaves → subs plan enclave ≤ 4096
subs-small plan enclave good exists =
    let none : EnclavePlan = record { pages = 0; frames = 0 } in
    let pages : slice_index (page_counts plan) enclave ≡ (slice_index_or plan.enclaves enclave none).pages = get_or-map (λ (made : EnclavePlan). made.pages) plan.enclaves enclave none 0 exists in
    let few = All-get_or (λ (made : EnclavePlan). (1 ≤ made.pages) × (made.pages ≤ 1024)) plan.enclaves enclave none exists good.pages in
    let most = few.1 in omega arith
