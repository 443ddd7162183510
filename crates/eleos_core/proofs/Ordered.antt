-- Each enclave's live blocks are in order after every legal history, where no header block is empty.
use Rattle.std.proofs.Common.{◌≡◌, ℕ, zero, suc, ◌+◌, ◌/◌, ◌<◌, ◌≤◌, ◌==◌, List, [], ◌∷◌, length, map, filter, fold, Bool, true, false, not, Option, Some, None, unwrap_or, slice_index_or, if◌then◌else◌, refl, sym, ◌∙◌, subst, ap, arith}
use Rattle.std.specs.List.{AllByRecursion, find}
use Rattle.std.proofs.lemmas.Bool.{eqb-true}
use Rattle.std.proofs.lemmas.Bool.Decides.{nat_tests}
use Rattle.std.proofs.lemmas.List.{get_or-map, length-replicate}
use Rattle.std.proofs.Math.Nat.{div-eq_of_eq-mul_right}
use Rattle.eleos_base.specs.declared.memory.Addr.{Addr}
use Rattle.eleos_base.specs.declared.memory.Live.{Live}
use Rattle.eleos_base.specs.declared.memory.Op.{Op as Calls}
use Rattle.eleos_base.specs.declared.memory.Op.TheVariants.{Alloc, Free, Share, Read, Write}
use Rattle.eleos_base.specs.declared.memory.Reply.{Reply}
use Rattle.eleos_base.specs.declared.memory.Reply.TheVariants.{Done, BadSize}
use Rattle.eleos_base.specs.declared.plan.BlockPlan.{BlockPlan}
use Rattle.eleos_base.specs.declared.plan.EnclavePlan.{EnclavePlan}
use Rattle.eleos_base.specs.declared.plan.Plan.{Plan}
use Rattle.eleos_base.specs.Lists.{map_from}
use Rattle.eleos_base.specs.Plain.{EnclaveMemory, alloc_answer, alloc_reply, block_refusal, block_reply, blocks_after, got, is_accepted, is_free_run, is_good_size, lowest_run, opened_at, opening_of, shared_at, starts_at, subs_for, with_block, with_header_block}
use Rattle.eleos_base.specs.Plans.{IsGood, IsGoodBlock, enclave_of, sub_bytes, subs_in}
use Rattle.eleos_core.specs.declared.event.Event.{Event}
use Rattle.eleos_core.specs.declared.event.Event.TheVariants.{Op}
use Rattle.eleos_core.specs.Legal.{CoreRun, CoreStep}
use Rattle.eleos_core.specs.Order.{AreInOrder}
use Rattle.eleos_base.specs.Places.{subs}
use Rattle.eleos_core.specs.Seals.{Seals}
use Rattle.eleos_core.specs.State.{History, entry, live}
use Rattle.eleos_core.proofs.InOrder.{in_order-filter, in_order-shared, in_order-with_block, lowest_run-is_free}
use Rattle.eleos_core.proofs.Numbers.{some_bytes, some_subs_for}
use Rattle.eleos_core.proofs.Tests.{by_test}

-- no header block is empty
abbrev pub HasNoEmptyBlock : Plan → Type 0
HasNoEmptyBlock k = AllByRecursion (λ (block : BlockPlan). 1 ≤ block.bytes) k.blocks

-- a good plan has none
pub none_empty : (k : Plan) → IsGood k → HasNoEmptyBlock k
none_empty k good = each k.blocks good.blocks
  where
    each : (blocks : List BlockPlan) → AllByRecursion (IsGoodBlock k) blocks → AllByRecursion (λ (block : BlockPlan). 1 ≤ block.bytes) blocks
    each [] all = tt
    each (block ∷ blocks) all = (all.0.some_bytes, each blocks all.1)

-- the sub-pages that an accepted alloc takes are the lowest free run
pub record IsAllotted (size : ℕ) (blocks : List Live) (subs n start : ℕ) : Type 0 where
  pub good : is_good_size n ≡ true
  pub free : is_free_run blocks subs (subs_for size n) start ≡ true

-- an accepted alloc took a free run
pub alloc_accepted : (size enclave : ℕ) → 0 < size → (blocks : List Live) (subs n : ℕ) (reply : Reply) → reply ≡ alloc_reply size enclave blocks subs n → is_accepted reply ≡ true → IsAllotted size blocks subs n (got reply / size)
alloc_accepted size enclave some blocks subs n reply is yes_is = by_test (is_good_size n)
    (λ v. is_good_size n ≡ v → reply ≡ (if v then alloc_answer size enclave (lowest_run blocks subs (subs_for size n)) else BadSize) → IsAllotted size blocks subs n (got reply / size))
    (λ _ good is'. found (lowest_run blocks subs (subs_for size n)) refl good is')
    (λ _ good is'. let z : is_accepted reply ≡ false = ap is_accepted is' in let y : true ≡ false = sym yes_is ∙ z in cc) refl is
  where
    found : (o : Option ℕ) → lowest_run blocks subs (subs_for size n) ≡ o → is_good_size n ≡ true → reply ≡ alloc_answer size enclave o → IsAllotted size blocks subs n (got reply / size)
    found None none good is' = let z : is_accepted reply ≡ false = ap is_accepted is' in let y : true ≡ false = sym yes_is ∙ z in cc
    found (Some start) here good is' =
        let there : got reply / size ≡ start = div-eq_of_eq-mul_right {n = size} {m = got reply} {k = start} some (ap got is') in
        record { good = good; free = ap (is_free_run blocks subs (subs_for size n)) there ∙ lowest_run-is_free blocks subs (subs_for size n) start here }

-- an accepted free or share found its block
pub block_accepted : (size enclave : ℕ) (blocks : List Live) (who : ℕ) (at : Addr) (reply : Reply) → reply ≡ block_reply size enclave blocks who at → is_accepted reply ≡ true → (b : Live) × (find (starts_at size enclave at) blocks ≡ Some b)
block_accepted size enclave blocks who at reply is yes_is = found (find (starts_at size enclave at) blocks) refl is where
  found : (o : Option Live) → find (starts_at size enclave at) blocks ≡ o → reply ≡ unwrap_or (block_refusal who o) Done → (b : Live) × (find (starts_at size enclave at) blocks ≡ Some b)
  found None none is' = let z : is_accepted reply ≡ false = ap is_accepted is' in let y : true ≡ false = sym yes_is ∙ z in cc
  found (Some b) here is' = (b, here)

one_byte : (n : ℕ) → is_good_size n ≡ true → 1 ≤ n
one_byte n good = grind (arith, nat_tests)

-- the opening
record IsReady (subs : ℕ) (m : EnclaveMemory) : Type 0 where
  pub room : length m.texts ≡ subs
  pub in_order : AreInOrder 0 subs m.blocks

ready_more : (size subs : ℕ) (m : EnclaveMemory) (block : BlockPlan) → 1 ≤ subs_for size block.bytes → IsReady subs m → IsReady subs (with_header_block size m block)
ready_more size subs m block some ready = at (lowest_run m.blocks (length m.texts) (subs_for size block.bytes)) refl where
  at : (o : Option ℕ) → lowest_run m.blocks (length m.texts) (subs_for size block.bytes) ≡ o → IsReady subs (opened_at size block m o)
  at None none = ready
  at (Some start) here =
      let free : is_free_run m.blocks subs (subs_for size block.bytes) start ≡ true
      = subst (λ (n : ℕ). is_free_run m.blocks n (subs_for size block.bytes) start ≡ true) ready.room (lowest_run-is_free m.blocks (length m.texts) (subs_for size block.bytes) start here) in
      let new : Live = record { start = start; len = subs_for size block.bytes; owner = block.owner; is_shared = block.owner == 0 } in
      record { room = ready.room; in_order = in_order-with_block new m.blocks 0 subs ready.in_order (omega arith) some free }

all_ready : (k : Plan) (e subs : ℕ) (bs : List BlockPlan) (m : EnclaveMemory) → AllByRecursion (λ (block : BlockPlan). 1 ≤ block.bytes) bs → IsReady subs m → IsReady subs (fold (with_header_block (sub_bytes k e)) m bs)
all_ready k e subs [] m some ready = ready
all_ready k e subs (b ∷ bs) m some ready = all_ready k e subs bs (with_header_block (sub_bytes k e) m b) some.1 (ready_more (sub_bytes k e) subs m b (some_subs_for k e b.bytes some.0) ready)

all_kept : (P : BlockPlan → Type 0) (p : BlockPlan → Bool) (bs : List BlockPlan) → AllByRecursion P bs → AllByRecursion P (filter p bs)
all_kept P p [] h = tt
all_kept P p (b ∷ bs) h = by_test (p b) (λ v. AllByRecursion P (if v then b ∷ filter p bs else filter p bs)) (λ _. (h.0, all_kept P p bs h.1)) (λ _. all_kept P p bs h.1)

map_from_at : {A B : Type 0} (f : ℕ → A → B) (i : ℕ) (xs : List A) (e : ℕ) (d : B) (d' : A) → e < length xs → slice_index_or (map_from f i xs) e d ≡ f (i + e) (slice_index_or xs e d')
map_from_at f i [] e d d' h = absurd (omega arith)
map_from_at f i (x ∷ xs) zero d d' h = ap (λ j. f j x) (omega arith)
map_from_at f i (x ∷ xs) (suc e) d d' h = map_from_at f (i + 1) xs e d d' (omega arith) ∙ ap (λ j. f j (slice_index_or xs e d')) (omega arith)

-- an enclave's live blocks before the first event
pub opening_blocks : (k : Plan) (e : ℕ) → e < length k.enclaves → live k [] e ≡ (opening_of k e (slice_index_or k.enclaves e (record { pages = 0; frames = 0 }))).blocks
opening_blocks k e h =
    let none : EnclavePlan = record { pages = 0; frames = 0 } in
    ap (λ (m : EnclaveMemory). m.blocks) (map_from_at (opening_of k) 0 k.enclaves e (record { blocks = []; texts = [] }) none h ∙ ap (λ j. opening_of k j (slice_index_or k.enclaves e none)) (omega arith))

module _ (k : Plan) (full : HasNoEmptyBlock k) where
  opening_ready : (e : ℕ) (made : EnclavePlan) → IsReady (subs_in k e made.pages) (opening_of k e made)
  opening_ready e made = all_ready k e (subs_in k e made.pages) (filter (λ (block : BlockPlan). block.enclave == e) k.blocks) _ (all_kept (λ (block : BlockPlan). 1 ≤ block.bytes) (λ (block : BlockPlan). block.enclave == e) k.blocks full)
      (record { room = length-replicate (subs_in k e made.pages) _; in_order = omega arith })

  opening_in_order : (e : ℕ) → e < length k.enclaves → AreInOrder 0 (subs k e) (live k [] e)
  opening_in_order e h =
      let none : EnclavePlan = record { pages = 0; frames = 0 } in
      let made : EnclavePlan = slice_index_or k.enclaves e none in
      let here : live k [] e ≡ (opening_of k e made).blocks = opening_blocks k e h in
      let room : subs k e ≡ subs_in k e made.pages = ap (subs_in k e) (get_or-map (λ (m : EnclavePlan). m.pages) k.enclaves e none 0 h) in
      subst (λ (n : ℕ). AreInOrder 0 n (live k [] e)) (sym room) (subst (AreInOrder 0 (subs_in k e made.pages)) (sym here) (opening_ready e made).in_order)

module _ (k : Plan) (x : Seals) where
  -- a call leaves the blocks of its caller's enclave in order
  call_in_order : (past : History) (who : ℕ) (op : Calls) (blocks : List (List ℕ)) (reply : Reply) → CoreStep k x past (entry who (Op op) blocks reply)
      → AreInOrder 0 (subs k (enclave_of k who)) (live k past (enclave_of k who)) → AreInOrder 0 (subs k (enclave_of k who)) (blocks_after (sub_bytes k (enclave_of k who)) (enclave_of k who) who op reply (live k past (enclave_of k who)))
  call_in_order past who (Alloc n) blocks reply step order =
      let home : ℕ = enclave_of k who in
      let size : ℕ = sub_bytes k home in
      let new : Live = record { start = got reply / size; len = subs_for size n; owner = who; is_shared = false } in
      by_test (is_accepted reply) (λ v. is_accepted reply ≡ v → AreInOrder 0 (subs k home) (if v then with_block new (live k past home) else live k past home))
      (λ _ yes_is. let allotted = alloc_accepted size home (some_bytes k home) (live k past home) (subs k home) n reply step.step.reply_is yes_is in
      in_order-with_block new (live k past home) 0 (subs k home) order (omega arith) (some_subs_for k home n (one_byte n allotted.good)) allotted.free)
      (λ _ no_is. order) refl
  call_in_order past who (Free at) blocks reply step order =
      let home : ℕ = enclave_of k who in
      by_test (is_accepted reply) (λ v. AreInOrder 0 (subs k home) (if v then filter (λ block. not (starts_at (sub_bytes k home) home at block)) (live k past home) else live k past home))
      (λ _. in_order-filter (λ block. not (starts_at (sub_bytes k home) home at block)) (live k past home) 0 (subs k home) order) (λ _. order)
  call_in_order past who (Share at) blocks reply step order =
      let home : ℕ = enclave_of k who in
      by_test (is_accepted reply) (λ v. AreInOrder 0 (subs k home) (if v then map (shared_at (sub_bytes k home) home at) (live k past home) else live k past home))
      (λ _. in_order-shared (sub_bytes k home) home at (live k past home) 0 (subs k home) order) (λ _. order)
  call_in_order past who (Read at n) blocks reply step order = order
  call_in_order past who (Write at new) blocks reply step order = order

  -- one entry more
  order_step : (past : History) (who : ℕ) (event : Event) (blocks : List (List ℕ)) (reply : Reply) → CoreStep k x past (entry who event blocks reply)
      → (e : ℕ) → AreInOrder 0 (subs k e) (live k past e) → AreInOrder 0 (subs k e) (live k (entry who event blocks reply ∷ past) e)
  order_step past who (Op op) blocks reply step e order =
      let home : ℕ = enclave_of k who in
      by_test (e == home) (λ v. e == home ≡ v → AreInOrder 0 (subs k e) (if v then blocks_after (sub_bytes k e) e who op reply (live k past e) else live k past e))
      (λ _ is. let same : e ≡ home = eqb-true e home is in
      subst (λ (q : ℕ). AreInOrder 0 (subs k q) (blocks_after (sub_bytes k q) q who op reply (live k past q))) (sym same) (call_in_order past who op blocks reply step (subst (λ (q : ℕ). AreInOrder 0 (subs k q) (live k past q)) same order)))
      (λ _ is. order) refl
  order_step past who _ blocks reply step e order = order

  -- after every legal history each enclave's live blocks are in order and within its sub-pages
  pub in_order : HasNoEmptyBlock k → (past : History) → CoreRun k x past → (e : ℕ) → e < length k.enclaves → AreInOrder 0 (subs k e) (live k past e)
  in_order full [] run e h = opening_in_order k full e h
  in_order full (x' ∷ past) run e h = order_step past x'.who x'.event x'.blocks x'.reply run.0 e (in_order full past run.1 e h)
