-- Each private block that a caller's own calls left it is a live block of its alone.
use Rattle.std.proofs.Common.{◌≡◌, ◌≢◌, ◌⊎◌, inl, inr, ⊎_elim, ℕ, ◌+◌, ◌*◌, ◌/◌, ◌≤◌, ◌==◌, ◌&&◌, ◌||◌, List, [], ◌∷◌, ◌++◌, filter, fold, length, map, Bool, true, false, not, nat_lt, slice_index_or, Option, Some, None, unwrap_or, if◌then◌else◌, refl, sym, ◌∙◌, ap, subst, arith}
use Rattle.std.specs.List.{find}
use Rattle.std.proofs.lemmas.Bool.{eq-eqb, eqb-false, eqb-true, ne_eqb}
use Rattle.std.proofs.lemmas.Bool.Decides.{nat_tests}
use Rattle.eleos_base.specs.declared.memory.Addr.{Addr}
use Rattle.eleos_base.specs.declared.memory.Live.{Live}
use Rattle.eleos_base.specs.declared.memory.Op.{Op as Calls}
use Rattle.eleos_base.specs.declared.memory.Op.TheVariants.{Alloc, Free, Share, Read, Write}
use Rattle.eleos_base.specs.declared.memory.Reply.{Reply}
use Rattle.eleos_base.specs.declared.memory.Reply.TheVariants.{BadSize, Done, NotABlock, NotYours}
use Rattle.eleos_base.specs.declared.plan.Plan.{Plan}
use Rattle.eleos_base.specs.declared.plan.BlockPlan.{BlockPlan}
use Rattle.eleos_base.specs.declared.plan.EnclavePlan.{EnclavePlan}
use Rattle.eleos_base.specs.Own.{IsAmong, OwnBlock, Private, Said, after_alloc, after_call, after_calls, after_loss, after_write, block_of, without}
use Rattle.eleos_base.specs.Plain.{Call, EnclaveMemory, alloc_answer, alloc_reply, blank, block_refusal, block_reply, blocks_after, got, has_sub, is_accepted, is_good_size, lowest_run, opened_at, opening_of, shared_at, starts_at, subs_for, with_block, with_header_block}
use Rattle.eleos_base.specs.Places.{subs}
use Rattle.eleos_base.specs.Plans.{IsCaller, IsGood, enclave_of, subs_in}
use Rattle.eleos_core.specs.declared.event.Entry.{Entry}
use Rattle.eleos_core.specs.declared.event.Event.{Event}
use Rattle.eleos_core.specs.declared.event.Event.TheVariants.{Op, Starved, Spoiled}
use Rattle.eleos_core.specs.declared.event.Wanted.{Wanted}
use Rattle.eleos_core.specs.declared.event.Wanted.TheVariants.{Link as ALink, Op as ACall}
use Rattle.eleos_core.specs.Legal.{CallStep, CoreRun, CoreStep, NeedsFrame}
use Rattle.eleos_core.specs.Order.{AreInOrder}
use Rattle.eleos_core.specs.OwnLaws.{IsBacked, as_own, calls_by, opening_own, own_after}
use Rattle.eleos_core.specs.Seals.{Seals}
use Rattle.eleos_core.specs.State.{History, call, call_of, call_wanted, calls, entry, live, live_by}
use Rattle.eleos_core.proofs.Lives.{false_of}
use Rattle.eleos_core.proofs.Ordered.{in_order, none_empty, opening_blocks}
use Rattle.eleos_core.proofs.Runs.{home-within}
use Rattle.eleos_core.proofs.Tests.{by_test, second_of}

-- what cannot be
pub true_not_false : true ≡ false → ⊥
true_not_false wrong = cc

-- the block is one of these
abbrev pub IsIn : Live → List Live → Type 0
IsIn block [] = ⊥
IsIn block (other ∷ others) = (block ≡ other) ⊎ IsIn block others

in_with : (new : Live) (bs : List Live) → IsIn new (with_block new bs)
in_with new [] = inl refl
in_with new (b ∷ bs) = by_test (nat_lt new.start b.start) (λ v. IsIn new (if v then new ∷ b ∷ bs else b ∷ with_block new bs)) (λ _. inl refl) (λ _. inr (in_with new bs))

still_with : (new block : Live) (bs : List Live) → IsIn block bs → IsIn block (with_block new bs)
still_with new block [] is = absurd is
still_with new block (b ∷ bs) is = by_test (nat_lt new.start b.start) (λ v. IsIn block (if v then new ∷ b ∷ bs else b ∷ with_block new bs))
    (λ _. inr is)
    (λ _. ⊎_elim (λ (same : block ≡ b). inl same) (λ (rest : IsIn block bs). inr (still_with new block bs rest)) is)

still_filtered : (p : Live → Bool) (block : Live) (bs : List Live) → p block ≡ true → IsIn block bs → IsIn block (filter p bs)
still_filtered p block [] passes is = absurd is
still_filtered p block (b ∷ bs) passes is = by_test (p b) (λ v. p b ≡ v → IsIn block (if v then b ∷ filter p bs else filter p bs))
    (λ _ _. ⊎_elim (λ (same : block ≡ b). inl same) (λ (rest : IsIn block bs). inr (still_filtered p block bs passes rest)) is)
    (λ _ fails. ⊎_elim (λ (same : block ≡ b). absurd (true_not_false (sym passes ∙ (ap p same ∙ fails)))) (λ (rest : IsIn block bs). still_filtered p block bs passes rest) is) refl

still_mapped : (f : Live → Live) (block : Live) (bs : List Live) → f block ≡ block → IsIn block bs → IsIn block (map f bs)
still_mapped f block [] stays is = absurd is
still_mapped f block (b ∷ bs) stays is = ⊎_elim (λ (same : block ≡ b). inl (sym stays ∙ ap f same)) (λ (rest : IsIn block bs). inr (still_mapped f block bs stays rest)) is

in_filtered : (p : Live → Bool) (block : Live) (bs : List Live) → IsIn block (filter p bs) → (p block ≡ true) × IsIn block bs
in_filtered p block [] = λ is. absurd is
in_filtered p block (b ∷ bs) = by_test (p b) (λ v. p b ≡ v → IsIn block (if v then b ∷ filter p bs else filter p bs) → (p block ≡ true) × IsIn block (b ∷ bs))
    (λ _ passes is. ⊎_elim (λ (same : block ≡ b). (ap p same ∙ passes, inl same)) (λ (rest : IsIn block (filter p bs)). let more = in_filtered p block bs rest in (more.0, inr more.1)) is)
    (λ _ _ is. let more = in_filtered p block bs is in (more.0, inr more.1)) refl

-- a block of a list in order starts no lower than the list may
from_low : (block : Live) (bs : List Live) (low subs : ℕ) → AreInOrder low subs bs → IsIn block bs → low ≤ block.start
from_low block [] low subs order is = absurd is
from_low block (b ∷ bs) low subs order is = ⊎_elim
    (λ (same : block ≡ b). let from = order.0 in let at : block.start ≡ b.start = ap (λ (z : Live). z.start) same in omega arith)
    (λ (rest : IsIn block bs). let from = order.0 in let more = from_low block bs (b.start + b.len) subs order.2 rest in omega arith) is

-- what passes a test that no block below passes is found
found_first : (p : Live → Bool) (block : Live) (bs : List Live) (low subs : ℕ) → AreInOrder low subs bs → p block ≡ true → ((b : Live) → 1 ≤ b.len → b.start + b.len ≤ block.start → p b ≡ false) → IsIn block bs → find p bs ≡ Some block
found_first p block [] low subs order passes lower is = absurd is
found_first p block (b ∷ bs) low subs order passes lower is = ⊎_elim
    (λ (same : block ≡ b). ap (λ v. if v then Some b else find p bs) (ap p (sym same) ∙ passes) ∙ ap Some (sym same))
    (λ (rest : IsIn block bs). let above = from_low block bs (b.start + b.len) subs order.2 rest in
    ap (λ v. if v then Some b else find p bs) (lower b order.1 above) ∙ found_first p block bs (b.start + b.len) subs order.2 passes lower rest) is

-- the block that has a sub-page is found by it
pub found_sub : (block : Live) (bs : List Live) (low subs s : ℕ) → AreInOrder low subs bs → has_sub s block ≡ true → IsIn block bs → find (has_sub s) bs ≡ Some block
found_sub block bs low subs s order has is = found_first (has_sub s) block bs low subs order has (λ b some below. grind (arith, nat_tests)) is

module _ (home : ℕ) where
  -- a live block as its owner sees it
  abbrev pub own_block : Live → OwnBlock
  own_block block = record { enclave = home; start = 1024 * block.start; size = 1024 * block.len }

  -- the block starts at the address
  starts_there : (at : Addr) (block : Live) → at.enclave ≡ home → at.at ≡ 1024 * block.start → starts_at 1024 home at block ≡ true
  starts_there at block here start = (λ i. eq-eqb at.enclave home here i && eq-eqb at.at (1024 * block.start) start i)

  no_start : (at : Addr) (block : Live) → at.at ≢ 1024 * block.start → starts_at 1024 home at block ≡ false
  no_start at block ne = ap (λ v. (at.enclave == home) && v) (ne_eqb at.at (1024 * block.start) ne) ∙ none (at.enclave == home) where
    none : (b : Bool) → b && false ≡ false
    none true = refl
    none false = refl

  pub start_at : (at : Addr) (block : Live) → starts_at 1024 home at block ≡ true → at.at ≡ 1024 * block.start
  start_at at block is = eqb-true at.at (1024 * block.start) (second_of (at.enclave == home) (at.at == 1024 * block.start) is)

  -- the block that starts at an address is found by it
  pub found_start : (at : Addr) (block : Live) (bs : List Live) (low subs : ℕ) → AreInOrder low subs bs → starts_at 1024 home at block ≡ true → IsIn block bs → find (starts_at 1024 home at) bs ≡ Some block
  found_start at block bs low subs order starts is = found_first (starts_at 1024 home at) block bs low subs order starts
      (λ b some below. no_start at b (λ there. let here = start_at at block starts in omega arith)) is

  -- a block that does not start at the address stays as it is when the one there is freed or shared
  stays_shared : (at : Addr) (block : Live) → starts_at 1024 home at block ≡ false → shared_at 1024 home at block ≡ block
  stays_shared at block other = λ i. record block { is_shared = (ap (λ v. block.is_shared || v) other ∙ or_false block.is_shared) i } where
    or_false : (v : Bool) → v || false ≡ v
    or_false true = refl
    or_false false = refl

  module _ (who : ℕ) where
    -- the private block is a live one of the caller's alone
    pub record IsHeld (bs : List Live) (block : OwnBlock) : Type 0 where
      pub live_block : Live
      pub is_in : IsIn live_block bs
      pub same : own_block live_block ≡ block
      pub owner : live_block.owner ≡ who
      pub private : live_block.is_shared ≡ false

    -- so are all of these
    abbrev pub AllHeld : List Live → List OwnBlock → Type 0
    AllHeld bs blocks = (block : OwnBlock) → IsAmong block blocks → IsHeld bs block

    -- what stays in the list stays held
    held_on : (bs bs' : List Live) (block : OwnBlock) (held : IsHeld bs block) → IsIn held.live_block bs' → IsHeld bs' block
    held_on bs bs' block held is = record { live_block = held.live_block; is_in = is; same = held.same; owner = held.owner; private = held.private }

    -- an own alloc
    own_alloc : (bs : List Live) (subs n : ℕ) (p : Private) → AllHeld bs p.blocks → (reply : Reply) → reply ≡ alloc_reply 1024 home bs subs n
        → AllHeld (blocks_after 1024 home who (Alloc n) reply bs) (after_alloc 1024 n reply p).blocks
    own_alloc bs subs n p all reply is = subst (λ r. AllHeld (blocks_after 1024 home who (Alloc n) r bs) (after_alloc 1024 n r p).blocks) (sym is)
        (by_test (is_good_size n) (λ v. let r = if v then alloc_answer 1024 home (lowest_run bs subs (subs_for 1024 n)) else BadSize in AllHeld (blocks_after 1024 home who (Alloc n) r bs) (after_alloc 1024 n r p).blocks)
        (λ _. at (lowest_run bs subs (subs_for 1024 n))) (λ _. all))
      where
        at : (o : Option ℕ) → AllHeld (blocks_after 1024 home who (Alloc n) (alloc_answer 1024 home o) bs) (after_alloc 1024 n (alloc_answer 1024 home o) p).blocks
        at None = all
        at (Some start) = λ block among.
            let new : Live = record { start = 1024 * start / 1024; len = subs_for 1024 n; owner = who; is_shared = false } in
            let place : 1024 * (1024 * start / 1024) ≡ 1024 * start = omega arith in
            ⊎_elim
            (λ (same : block ≡ block_of 1024 (record { enclave = home; at = 1024 * start }) n). record {
              live_block = new;
              is_in = in_with new bs;
              same = (λ i. record { enclave = home; start = place i; size = 1024 * subs_for 1024 n }) ∙ sym same;
              owner = refl;
              private = refl;
            })
            (λ (old : IsAmong block p.blocks). held_on bs (with_block new bs) block (all block old) (still_with new (all block old).live_block bs (all block old).is_in)) among

    -- a block that is left starts elsewhere
    pub among_without : (start : ℕ) (block : OwnBlock) (blocks : List OwnBlock) → IsAmong block (without start blocks) → (block.start ≢ start) × IsAmong block blocks
    among_without start block [] = λ among. absurd among
    among_without start block (b ∷ blocks) = by_test (b.start == start) (λ v. b.start == start ≡ v → IsAmong block (if not v then b ∷ without start blocks else without start blocks) → (block.start ≢ start) × IsAmong block (b ∷ blocks))
        (λ _ _ among. let more = among_without start block blocks among in (more.0, inr more.1))
        (λ _ other among. ⊎_elim
        (λ (same : block ≡ b). ((λ there. eqb-false b.start start other (ap (λ (z : OwnBlock). z.start) (sym same) ∙ there)), inl same))
        (λ (rest : IsAmong block (without start blocks)). let more = among_without start block blocks rest in (more.0, inr more.1)) among) refl

    -- its live block does not start at the address of another
    elsewhere : (at : Addr) (bs : List Live) (block : OwnBlock) (held : IsHeld bs block) → block.start ≢ at.at → starts_at 1024 home at held.live_block ≡ false
    elsewhere at bs block held ne = no_start at held.live_block (λ there. ne (ap (λ (z : OwnBlock). z.start) (sym held.same) ∙ sym there))

    -- a free or a share is answered Done for a block of the caller alone
    pub loss_cases : (F : Reply → Type 0) (bs : List Live) (at : Addr) (by : ℕ) → F NotABlock → ((owner : ℕ) → F (NotYours owner)) → ((b : Live) → find (starts_at 1024 home at) bs ≡ Some b → b.owner ≡ by → F Done)
        → F (block_reply 1024 home bs by at)
    loss_cases F bs at by none yours done = at_found (find (starts_at 1024 home at) bs) refl where
      at_found : (o : Option Live) → find (starts_at 1024 home at) bs ≡ o → F (unwrap_or (block_refusal by o) Done)
      at_found None is = none
      at_found (Some b) is = by_test (b.owner == by) (λ v. b.owner == by ≡ v → F (unwrap_or (if v then None else Some (NotYours b.owner)) Done))
          (λ _ own. done b is (eqb-true b.owner by own)) (λ _ _. yours b.owner) refl

    -- an own free or share
    own_free : (bs : List Live) (at : Addr) (p : Private) → AllHeld bs p.blocks → (reply : Reply) → reply ≡ block_reply 1024 home bs who at
        → AllHeld (blocks_after 1024 home who (Free at) reply bs) (after_loss at reply p).blocks
    own_free bs at p all reply is = subst (λ r. AllHeld (blocks_after 1024 home who (Free at) r bs) (after_loss at r p).blocks) (sym is)
        (loss_cases (λ r. AllHeld (blocks_after 1024 home who (Free at) r bs) (after_loss at r p).blocks) bs at who all (λ owner. all)
        (λ b found owned block among.
        let left = among_without at.at block p.blocks among in
        let held = all block left.1 in
        held_on bs (filter (λ b. not (starts_at 1024 home at b)) bs) block held
        (still_filtered (λ b. not (starts_at 1024 home at b)) held.live_block bs (ap not (elsewhere at bs block held left.0)) held.is_in)))

    -- which leaves the other blocks as they are
    own_share : (bs : List Live) (at : Addr) (p : Private) → AllHeld bs p.blocks → (reply : Reply) → reply ≡ block_reply 1024 home bs who at
        → AllHeld (blocks_after 1024 home who (Share at) reply bs) (after_loss at reply p).blocks
    own_share bs at p all reply is = subst (λ r. AllHeld (blocks_after 1024 home who (Share at) r bs) (after_loss at r p).blocks) (sym is)
        (loss_cases (λ r. AllHeld (blocks_after 1024 home who (Share at) r bs) (after_loss at r p).blocks) bs at who all (λ owner. all)
        (λ b found owned block among.
        let left = among_without at.at block p.blocks among in
        let held = all block left.1 in
        held_on bs (map (shared_at 1024 home at) bs) block held
        (still_mapped (shared_at 1024 home at) held.live_block bs (stays_shared at held.live_block (elsewhere at bs block held left.0)) held.is_in)))

    -- a write leaves the blocks
    written_blocks : (at : Addr) (bytes : List ℕ) (reply : Reply) (p : Private) → (after_write at bytes reply p).blocks ≡ p.blocks
    written_blocks at bytes Done p = refl
    written_blocks at bytes _ p = refl

    -- another's free or share found another block
    not_there : (bs : List Live) (subs : ℕ) (at : Addr) (by : ℕ) (b : Live) (block : OwnBlock) (held : IsHeld bs block) → AreInOrder 0 subs bs → by ≢ who → find (starts_at 1024 home at) bs ≡ Some b → b.owner ≡ by
        → starts_at 1024 home at held.live_block ≡ false
    not_there bs subs at by b block held order other found owned = false_of (starts_at 1024 home at held.live_block) (λ starts.
        let here : Some b ≡ Some held.live_block = sym found ∙ found_start at held.live_block bs 0 subs order starts held.is_in in
        let same : b ≡ held.live_block = ap (λ o. unwrap_or o b) here in
        other (sym owned ∙ (ap (λ (z : Live). z.owner) same ∙ held.owner)))

    other_free : (bs : List Live) (subs : ℕ) (at : Addr) (by : ℕ) (blocks : List OwnBlock) → AreInOrder 0 subs bs → by ≢ who → AllHeld bs blocks → (reply : Reply) → reply ≡ block_reply 1024 home bs by at
        → AllHeld (blocks_after 1024 home by (Free at) reply bs) blocks
    other_free bs subs at by blocks order other all reply is = subst (λ r. AllHeld (blocks_after 1024 home by (Free at) r bs) blocks) (sym is)
        (loss_cases (λ r. AllHeld (blocks_after 1024 home by (Free at) r bs) blocks) bs at by all (λ owner. all)
        (λ b found owned block among.
        let held = all block among in
        held_on bs (filter (λ b. not (starts_at 1024 home at b)) bs) block held
        (still_filtered (λ b. not (starts_at 1024 home at b)) held.live_block bs (ap not (not_there bs subs at by b block held order other found owned)) held.is_in)))

    other_share : (bs : List Live) (subs : ℕ) (at : Addr) (by : ℕ) (blocks : List OwnBlock) → AreInOrder 0 subs bs → by ≢ who → AllHeld bs blocks → (reply : Reply) → reply ≡ block_reply 1024 home bs by at
        → AllHeld (blocks_after 1024 home by (Share at) reply bs) blocks
    other_share bs subs at by blocks order other all reply is = subst (λ r. AllHeld (blocks_after 1024 home by (Share at) r bs) blocks) (sym is)
        (loss_cases (λ r. AllHeld (blocks_after 1024 home by (Share at) r bs) blocks) bs at by all (λ owner. all)
        (λ b found owned block among.
        let held = all block among in
        held_on bs (map (shared_at 1024 home at) bs) block held
        (still_mapped (shared_at 1024 home at) held.live_block bs (stays_shared at held.live_block (not_there bs subs at by b block held order other found owned)) held.is_in)))

    other_alloc : (bs : List Live) (by n : ℕ) (reply : Reply) (blocks : List OwnBlock) → AllHeld bs blocks → AllHeld (blocks_after 1024 home by (Alloc n) reply bs) blocks
    other_alloc bs by n reply blocks all =
        let new : Live = record { start = got reply / 1024; len = subs_for 1024 n; owner = by; is_shared = false } in
        by_test (is_accepted reply) (λ v. AllHeld (if v then with_block new bs else bs) blocks)
        (λ _ block among. let held = all block among in held_on bs (with_block new bs) block held (still_with new held.live_block bs held.is_in))
        (λ _. all)

module _ (k : Plan) (who : ℕ) where
  abbrev home_of_caller : ℕ
  home_of_caller = enclave_of k who

  -- a call with its reply, and whether it is the caller's
  abbrev said : Call → Said
  said c = (c.op, c.reply)

  abbrev is_his : Call → Bool
  is_his c = c.who == who

  -- more calls after others
  pub calls_by-append : (first more : List Call) → calls_by who (first ++ more) ≡ calls_by who first ++ calls_by who more
  calls_by-append [] more = refl
  calls_by-append (c ∷ first) more = by_test (c.who == who)
      (λ v. map said (if v then c ∷ filter is_his (first ++ more) else filter is_his (first ++ more)) ≡ map said (if v then c ∷ filter is_his first else filter is_his first) ++ calls_by who more)
      (λ _. ap (λ rest. said c ∷ rest) (calls_by-append first more)) (λ _. calls_by-append first more)

  after_calls-append : (p : Private) (first more : List Said) → after_calls 1024 p (first ++ more) ≡ after_calls 1024 (after_calls 1024 p first) more
  after_calls-append p [] more = refl
  after_calls-append p (c ∷ first) more = after_calls-append (after_call 1024 c.0 c.1 p) first more

  -- one entry more
  pub own_after-more : (e : Entry) (past : History) → own_after k (e ∷ past) who ≡ after_calls 1024 (own_after k past who) (calls_by who (call_of e.who e.event e.reply))
  own_after-more e past = ap (after_calls 1024 (opening_own k who)) (calls_by-append (calls past) (call_of e.who e.event e.reply))
      ∙ after_calls-append (opening_own k who) (calls_by who (calls past)) (calls_by who (call_of e.who e.event e.reply))

  module _ (x : Seals) (caller : IsCaller k who) where
    abbrev Held : List Live → Private → Type 0
    Held bs p = AllHeld home_of_caller who bs p.blocks

    own_call : (past : History) (op : Calls) (blocks : List (List ℕ)) (reply : Reply) (p : Private) → CallStep k x past (entry who (Op op) blocks reply) op → Held (live k past home_of_caller) p
        → Held (blocks_after 1024 home_of_caller who op reply (live k past home_of_caller)) (after_call 1024 op reply p)
    own_call past (Alloc n) blocks reply p step all = own_alloc home_of_caller who (live k past home_of_caller) (subs k home_of_caller) n p all reply step.reply_is
    own_call past (Free at) blocks reply p step all = own_free home_of_caller who (live k past home_of_caller) at p all reply step.reply_is
    own_call past (Share at) blocks reply p step all = own_share home_of_caller who (live k past home_of_caller) at p all reply step.reply_is
    own_call past (Read at n) blocks reply p step all = all
    own_call past (Write at bytes) blocks reply p step all = subst (AllHeld home_of_caller who (live k past home_of_caller)) (sym (written_blocks home_of_caller who at bytes reply p)) all

    other_call : (past : History) (by : ℕ) (op : Calls) (blocks : List (List ℕ)) (reply : Reply) (p : Private) → by ≢ who → enclave_of k by ≡ home_of_caller → AreInOrder 0 (subs k home_of_caller) (live k past home_of_caller)
        → CallStep k x past (entry by (Op op) blocks reply) op → Held (live k past home_of_caller) p → Held (blocks_after 1024 home_of_caller by op reply (live k past home_of_caller)) p
    other_call past by (Alloc n) blocks reply p other here order step all = other_alloc home_of_caller who (live k past home_of_caller) by n reply p.blocks all
    other_call past by (Free at) blocks reply p other here order step all = other_free home_of_caller who (live k past home_of_caller) (subs k home_of_caller) at by p.blocks order other all reply
        (subst (λ (e : ℕ). reply ≡ block_reply 1024 e (live k past e) by at) here step.reply_is)
    other_call past by (Share at) blocks reply p other here order step all = other_share home_of_caller who (live k past home_of_caller) (subs k home_of_caller) at by p.blocks order other all reply
        (subst (λ (e : ℕ). reply ≡ block_reply 1024 e (live k past e) by at) here step.reply_is)
    other_call past by (Read at n) blocks reply p other here order step all = all
    other_call past by (Write at bytes) blocks reply p other here order step all = all

    call_held : (past : History) (by : ℕ) (op : Calls) (blocks : List (List ℕ)) (reply : Reply) (p : Private) → AreInOrder 0 (subs k home_of_caller) (live k past home_of_caller)
        → CallStep k x past (entry by (Op op) blocks reply) op → Held (live k past home_of_caller) p
        → Held (live_by k home_of_caller by (Op op) reply (live k past home_of_caller)) (after_calls 1024 p (calls_by who (call by op reply)))
    call_held past by op blocks reply p order step all = by_test (by == who)
        (λ v. by == who ≡ v → Held (live_by k home_of_caller by (Op op) reply (live k past home_of_caller)) (after_calls 1024 p (map (λ (c : Call). (c.op, c.reply)) (if v then record { who = by; op = op; reply = reply } ∷ [] else []))))
        (λ _ is. let same : by ≡ who = eqb-true by who is in
        subst (λ (w : ℕ). Held (live_by k home_of_caller w (Op op) reply (live k past home_of_caller)) (after_call 1024 op reply p)) (sym same)
        (subst (λ v. Held (if v then blocks_after 1024 home_of_caller who op reply (live k past home_of_caller) else live k past home_of_caller) (after_call 1024 op reply p)) (sym (eq-eqb home_of_caller home_of_caller refl))
        (own_call past op blocks reply p (subst (λ (w : ℕ). CallStep k x past (entry w (Op op) blocks reply) op) same step) all)))
        (λ _ is. by_test (home_of_caller == enclave_of k by)
        (λ v. home_of_caller == enclave_of k by ≡ v → Held (if v then blocks_after 1024 home_of_caller by op reply (live k past home_of_caller) else live k past home_of_caller) p)
        (λ _ here. other_call past by op blocks reply p (eqb-false by who is) (sym (eqb-true home_of_caller (enclave_of k by) here)) order step all)
        (λ _ _. all) refl) refl

    -- what was wanted and not had changes no block
    wanted_held : (bs : List Live) (by : ℕ) (wanted : Wanted) (reply : Reply) (p : Private) → NeedsFrame wanted → Held bs p → Held bs (after_calls 1024 p (calls_by who (call_wanted by wanted reply)))
    wanted_held bs by (ALink at) reply p needs all = all
    wanted_held bs by (ACall (Read at n)) reply p needs all = by_test (by == who)
        (λ v. Held bs (after_calls 1024 p (map (λ (c : Call). (c.op, c.reply)) (if v then record { who = by; op = Read at n; reply = reply } ∷ [] else []))))
        (λ _. all) (λ _. all)
    wanted_held bs by (ACall (Write at bytes)) reply p needs all = by_test (by == who)
        (λ v. Held bs (after_calls 1024 p (map (λ (c : Call). (c.op, c.reply)) (if v then record { who = by; op = Write at bytes; reply = reply } ∷ [] else []))))
        (λ _. subst (AllHeld home_of_caller who bs) (sym (written_blocks home_of_caller who at bytes reply p)) all) (λ _. all)
    wanted_held bs by (ACall (Alloc n)) reply p needs all = absurd needs
    wanted_held bs by (ACall (Free at)) reply p needs all = absurd needs
    wanted_held bs by (ACall (Share at)) reply p needs all = absurd needs

    held_step : (past : History) (by : ℕ) (event : Event) (blocks : List (List ℕ)) (reply : Reply) (p : Private) → AreInOrder 0 (subs k home_of_caller) (live k past home_of_caller)
        → CoreStep k x past (entry by event blocks reply) → Held (live k past home_of_caller) p
        → Held (live_by k home_of_caller by event reply (live k past home_of_caller)) (after_calls 1024 p (calls_by who (call_of by event reply)))
    held_step past by (Op op) blocks reply p order step all = call_held past by op blocks reply p order step.step all
    held_step past by (Starved wanted sweep) blocks reply p order step all = wanted_held (live k past home_of_caller) by wanted reply p step.within.1 all
    held_step past by (Spoiled wanted) blocks reply p order step all = wanted_held (live k past home_of_caller) by wanted reply p step.within.1 all
    held_step past by _ blocks reply p order step all = all

-- a header block is shared just where it is nobody's
with_sources : (new block : Live) (bs : List Live) → IsIn block (with_block new bs) → (block ≡ new) ⊎ IsIn block bs
with_sources new block [] = λ is. is
with_sources new block (b ∷ bs) = by_test (nat_lt new.start b.start) (λ v. IsIn block (if v then new ∷ b ∷ bs else b ∷ with_block new bs) → (block ≡ new) ⊎ IsIn block (b ∷ bs))
    (λ _ is. is)
    (λ _ is. ⊎_elim (λ (same : block ≡ b). inr (inl same)) (λ (rest : IsIn block (with_block new bs)). ⊎_elim (λ (e : block ≡ new). inl e) (λ (old : IsIn block bs). inr (inr old)) (with_sources new block bs rest)) is)

abbrev SharedByNobody : List Live → Type 0
SharedByNobody bs = (block : Live) → IsIn block bs → block.is_shared ≡ (block.owner == 0)

nobody_more : (size : ℕ) (m : EnclaveMemory) (block : BlockPlan) → SharedByNobody m.blocks → SharedByNobody (with_header_block size m block).blocks
nobody_more size m block all = at (lowest_run m.blocks (length m.texts) (subs_for size block.bytes)) where
  at : (o : Option ℕ) → SharedByNobody (opened_at size block m o).blocks
  at None = all
  at (Some start) = λ live_block is.
      let new : Live = record { start = start; len = subs_for size block.bytes; owner = block.owner; is_shared = block.owner == 0 } in
      ⊎_elim (λ (same : live_block ≡ new). ap (λ (z : Live). z.is_shared) same ∙ ap (λ (z : Live). z.owner == 0) (sym same)) (λ (old : IsIn live_block m.blocks). all live_block old) (with_sources new live_block m.blocks is)

nobody_all : (size : ℕ) (bs : List BlockPlan) (m : EnclaveMemory) → SharedByNobody m.blocks → SharedByNobody (fold (with_header_block size) m bs).blocks
nobody_all size [] m all = all
nobody_all size (b ∷ bs) m all = nobody_all size bs (with_header_block size m b) (nobody_more size m b all)

-- a block of a list as it was made of another
among_map : (f : Live → OwnBlock) (block : OwnBlock) (bs : List Live) → IsAmong block (map f bs) → (b : Live) × IsIn b bs × (f b ≡ block)
among_map f block [] among = absurd among
among_map f block (b ∷ bs) among = ⊎_elim (λ (same : block ≡ f b). (b, inl refl, sym same)) (λ (rest : IsAmong block (map f bs)). let more = among_map f block bs rest in (more.0, inr more.1, more.2)) among

module _ (k : Plan) (x : Seals) (good : IsGood k) (who : ℕ) (caller : IsCaller k who) where
  abbrev own_home : ℕ
  own_home = enclave_of k who

  opening_held : AllHeld own_home who (live k [] own_home) (opening_own k who).blocks
  opening_held block among =
      let mine : Live → Bool = λ b. b.owner == who in
      let source = among_map (as_own k own_home) block (filter mine (live k [] own_home)) among in
      let live_one = in_filtered mine source.0 (live k [] own_home) source.1 in
      let owned : source.0.owner ≡ who = eqb-true source.0.owner who live_one.0 in
      let none : EnclavePlan = record { pages = 0; frames = 0 } in
      let made : EnclavePlan = slice_index_or k.enclaves own_home none in
      let here : live k [] own_home ≡ (opening_of k own_home made).blocks = opening_blocks k own_home (home-within k who good caller) in
      let shared : source.0.is_shared ≡ (source.0.owner == 0) = subst SharedByNobody (sym here) (nobody_all 1024 (filter (λ (b : BlockPlan). b.enclave == own_home) k.blocks) (blank 1024 (subs_in k own_home made.pages)) (λ b wrong. absurd wrong)) source.0 live_one.1 in
      let some = caller.from_one in
      record {
        live_block = source.0;
        is_in = live_one.1;
        same = source.2;
        owner = owned;
        private = shared ∙ ne_eqb source.0.owner 0 (λ zero_is. let no : who ≡ 0 = sym owned ∙ zero_is in omega arith);
      }

  -- each private block is a live one of the caller's alone, after every legal history
  pub all_held : (h : History) → CoreRun k x h → AllHeld own_home who (live k h own_home) (own_after k h who).blocks
  all_held [] run = opening_held
  all_held (e ∷ past) run = subst (λ (p : Private). AllHeld own_home who (live k (e ∷ past) own_home) p.blocks) (sym (own_after-more k who e past))
      (held_step k who x caller past e.who e.event e.blocks e.reply (own_after k past who) (in_order k x (none_empty k good) past run.1 own_home (home-within k who good caller)) run.0 (all_held past run.1))

  -- a private block is live
  pub backed : (h : History) → CoreRun k x h → (block : OwnBlock) → IsAmong block (own_after k h who).blocks → IsBacked k h who block
  backed h run block among =
      let held = all_held h run block among in
      let at : Addr = record { enclave = block.enclave; at = block.start } in
      record {
        live_block = held.live_block;
        starts = found_start own_home at held.live_block (live k h own_home) 0 (subs k own_home) (in_order k x (none_empty k good) h run own_home (home-within k who good caller))
            (starts_there own_home at held.live_block (ap (λ (z : OwnBlock). z.enclave) (sym held.same)) (ap (λ (z : OwnBlock). z.start) (sym held.same))) held.is_in;
        same = held.same;
        owner = held.owner;
        private = held.private;
      }
