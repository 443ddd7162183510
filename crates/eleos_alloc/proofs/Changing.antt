-- What a free or a share may stamp, and what that leaves, where the pass has the turn of its enclave's live blocks.
use Rattle.std.proofs.Common.{◌≡◌, ℕ, ◌+◌, ◌*◌, ◌/◌, ◌<◌, ◌≤◌, ◌==◌, List, [], ◌∷◌, map, filter, Bool, true, false, not, Option, Some, None, option_map, unwrap_or, if◌then◌else◌, refl, sym, ◌∙◌, ap, subst, arith}
use Rattle.std.specs.List.{find}
use Rattle.eleos_base.specs.declared.memory.Addr.{Addr}
use Rattle.eleos_base.specs.declared.memory.Live.{Live}
use Rattle.eleos_base.specs.declared.memory.Reply.{Reply}
use Rattle.eleos_base.specs.declared.memory.Reply.TheVariants.{Done, NotYours}
use Rattle.eleos_base.specs.declared.plan.Plan.{Plan}
use Rattle.eleos_base.specs.Plain.{block_refusal, block_reply, blocks_after, is_accepted, shared_at, starts_at}
use Rattle.eleos_base.specs.Plans.{IsCaller, IsGood, enclave_of}
use Rattle.eleos_core.specs.declared.allots.marks.Mark.{Mark}
use Rattle.eleos_core.specs.declared.event.Event.TheVariants.{Op}
use Rattle.eleos_core.specs.Applying.{stamp_of}
use Rattle.eleos_core.specs.Order.{AreInOrder}
use Rattle.eleos_core.specs.Parts.{Part, alloc_cell, alloc_part, foot, len_at, live_in, page_cell, pages_of_run}
use Rattle.eleos_base.specs.Places.{all_pages, first_sub, subs}
use Rattle.eleos_core.specs.Seals.{Seals}
use Rattle.eleos_core.proofs.Allotting.{Marks, free_marks, share_marks}
use Rattle.eleos_core.proofs.FreeRuns.{by_test}
use Rattle.eleos_core.proofs.InOrder.{found-le}
use Rattle.eleos_core.proofs.SubPages.{few_pages, found_start, home_within, is_home}
use Rattle.eleos_machine.specs.Machines.{IsMachine, Site, plan_at}
use Rattle.eleos_machine.specs.Passes.{PassState, part_seen, plan_of, seals_of}
use Rattle.eleos_machine.specs.Stamping.{HasStamped, MayStamp}
use Rattle.eleos_alloc.specs.declared.changes.Change.{Change}
use Rattle.eleos_alloc.specs.declared.changes.Change.TheVariants.{Free, Share}
use Rattle.eleos_alloc.specs.declared.runs.Run.{Run}
use Rattle.eleos_alloc.specs.Calls.{HasCalled}
use Rattle.eleos_alloc.specs.Changes.{call_of, changed, mark_of}
use Rattle.eleos_alloc.specs.Stamping.{CanCallWith, CanStampWith, HasStampedWith, HoldsBlocks}
use Rattle.eleos_alloc.proofs.Calling.{IsLegal, TouchesBlocks, accepted_blocks, called, can_stamp_with, drafted, holds_here, is_caller, is_good, is_here, may_refuse, plan_is, refused_blocks}
use Rattle.eleos_alloc.proofs.TurnsHeld.{stamped_with}

-- what is found passes, and is not empty
found_passes : (p : Live → Bool) (blocks : List Live) (block : Live) → find p blocks ≡ Some block → p block ≡ true
found_passes p [] block found = absurd (let wrong : None ≡ Some block = found in cc)
found_passes p (b ∷ bs) block found = by_test (p b)
    (λ here. let same : b ≡ block = (let is = rw here at found in cc) in rw (← same) here)
    (λ later. found_passes p bs block (rw later at found))

found_some : (p : Live → Bool) (blocks : List Live) (block : Live) (low subs : ℕ) → AreInOrder low subs blocks → find p blocks ≡ Some block → 1 ≤ block.len
found_some p [] block low subs order found = absurd (let wrong : None ≡ Some block = found in cc)
found_some p (b ∷ bs) block low subs order found = by_test (p b)
    (λ here. let same : b ≡ block = (let is = rw here at found in cc) in rw (← same) order.1)
    (λ later. found_some p bs block (b.start + b.len) subs order.2 (rw later at found))

-- a refusal is no acceptance
refused_is : (who : ℕ) (found : Option Live) (reply : Reply) → block_refusal who found ≡ Some reply → is_accepted reply ≡ false
refused_is who None reply is = (let same : Rattle.eleos_base.specs.declared.memory.Reply.TheVariants.NotABlock ≡ reply = (let e = is in cc) in ap is_accepted (sym same))
refused_is who (Some block) reply is = by_test (block.owner == who)
    (λ yes_is. absurd (let wrong : None ≡ Some reply = sym (ap (λ (b : Bool). if b then None else Some (NotYours block.owner)) yes_is) ∙ is in cc))
    (λ no_is. let same : Some (NotYours block.owner) ≡ Some reply = sym (ap (λ (b : Bool). if b then None else Some (NotYours block.owner)) no_is) ∙ is in
    let reply_is : NotYours block.owner ≡ reply = cc in ap is_accepted (sym reply_is))

-- a caller's pass that has the turn of its enclave's live blocks
module _ (s : PassState) (blocks : List Live) (good : IsGood (plan_of s)) (caller : IsCaller (plan_of s) s.hand.number) (some_left : 0 < s.hand.left)
    (holds : HoldsBlocks (enclave_of (plan_of s) s.hand.number) s blocks) where
  abbrev k : Plan
  k = plan_of s

  abbrev x : Seals
  x = seals_of s

  abbrev who : ℕ
  who = s.hand.number

  abbrev home : ℕ
  home = enclave_of k who

  module _ (at : Addr) where
    abbrev pub found : Option Live
    found = find (starts_at 1024 home at) blocks

    abbrev pub len_there : ℕ
    len_there = len_at k home at blocks

    change_legal : (change : Change) (reply : Reply) → block_reply 1024 home blocks who at ≡ reply → IsLegal s blocks good caller some_left holds (call_of change at) reply len_there
    change_legal Free reply is = λ b same. record {
      within = caller;
      on_parts = (record { reply_is = sym (ap (λ (q : Part). block_reply 1024 home (live_in q) who at) (same ∙ holds.part) ∙ is); no_block = refl }, sym (ap (λ (q : Part). len_at k home at (live_in q)) (same ∙ holds.part)));
    }
    change_legal Share reply is = λ b same. record {
      within = caller;
      on_parts = (record { reply_is = sym (ap (λ (q : Part). block_reply 1024 home (live_in q) who at) (same ∙ holds.part) ∙ is); no_block = refl }, sym (ap (λ (q : Part). len_at k home at (live_in q)) (same ∙ holds.part)));
    }

    -- a refused one
    module _ (reply : Reply) (refused : block_refusal who found ≡ Some reply) where
      touches : (change : Change) → TouchesBlocks s blocks good caller some_left holds (call_of change at) reply len_there
      touches Free = ap (λ (b : Bool). alloc_cell k home ∷ map (page_cell k) (pages_of_run k (first_sub k home + at.at / 1024) (if b then len_there else 0))) (refused_is who found reply refused)
      touches Share = ap (λ (b : Bool). alloc_cell k home ∷ map (page_cell k) (pages_of_run k (first_sub k home + at.at / 1024) (if b then len_there else 0))) (refused_is who found reply refused)

      kept_blocks : (change : Change) → blocks_after 1024 home who (call_of change at) reply blocks ≡ blocks
      kept_blocks Free = ap (λ (b : Bool). if b then filter (λ block. not (starts_at 1024 home at block)) blocks else blocks) (refused_is who found reply refused)
      kept_blocks Share = ap (λ (b : Bool). if b then map (shared_at 1024 home at) blocks else blocks) (refused_is who found reply refused)

      legal : (change : Change) → IsLegal s blocks good caller some_left holds (call_of change at) reply len_there
      legal change = change_legal change reply (ap (λ o. unwrap_or o Done) refused)

      pub may_refuse_change : (change : Change) → MayStamp (drafted s (call_of change at) reply len_there)
      may_refuse_change change = may_refuse s blocks good caller some_left holds (call_of change at) reply len_there (touches change) (legal change)

      pub refused_change : (change : Change) (s' : PassState) → HasStampedWith (drafted s (call_of change at) reply len_there) s' → part_seen s' (alloc_cell k home) ≡ alloc_part blocks
      refused_change change s' is = refused_blocks s blocks good caller some_left holds (call_of change at) reply len_there s' (touches change) is ∙ ap alloc_part (kept_blocks change)

    -- an accepted one
    module _ (block : Live) (found_is : found ≡ Some block) (mine : block_refusal who found ≡ None) where
      len_is : len_there ≡ block.len
      len_is = ap (λ (o : Option Live). unwrap_or (option_map (λ (b : Live). b.len) o) 0) found_is

      start_is : at.at / 1024 ≡ block.start
      start_is = found_start home at block (found_passes (starts_at 1024 home at) blocks block found_is)

      abbrev pub run_of : Run
      run_of = record { start = first_sub k home + block.start; len = block.len }

      pub some_subs : 1 ≤ block.len
      some_subs = found_some (starts_at 1024 home at) blocks block 0 (subs k home) holds.in_order found_is

      pub subs_within : first_sub k home + block.start + block.len ≤ 4 * all_pages k
      subs_within = let most = home_within k home (is_home k who good caller) in let fits = found-le (starts_at 1024 home at) blocks block 0 (subs k home) holds.in_order found_is in omega arith

      done_legal : (change : Change) → IsLegal s blocks good caller some_left holds (call_of change at) Done len_there
      done_legal change = change_legal change Done (ap (λ o. unwrap_or o Done) mine)

      done_foot : (change : Change) → foot k (stamp_of who (Op (call_of change at)) [] Done len_there) ≡ alloc_cell k home ∷ map (page_cell k) (pages_of_run k run_of.start run_of.len)
      done_foot Free = λ i. alloc_cell k home ∷ map (page_cell k) (pages_of_run k (first_sub k home + start_is i) (len_is i))
      done_foot Share = λ i. alloc_cell k home ∷ map (page_cell k) (pages_of_run k (first_sub k home + start_is i) (len_is i))

      done_marks : (change : Change) → Marks k x (mark_of change) (stamp_of who (Op (call_of change at)) [] Done len_there) (call_of change at) run_of.start run_of.len
      done_marks Free = subst (λ (y : ℕ × ℕ). Marks k x (mark_of Free) (stamp_of who (Op (call_of Free at)) [] Done len_there) (call_of Free at) (first_sub k home + y.0) y.1) (λ i. (start_is i, len_is i)) (free_marks k x who len_there Done at)
      done_marks Share = subst (λ (y : ℕ × ℕ). Marks k x (mark_of Share) (stamp_of who (Op (call_of Share at)) [] Done len_there) (call_of Share at) (first_sub k home + y.0) y.1) (λ i. (start_is i, len_is i)) (share_marks k x who len_there Done at)

      pub can_change : (change : Change) → CanStampWith (drafted s (call_of change at) Done len_there) run_of (mark_of change) (run_of.start / 4)
      can_change change = can_stamp_with s blocks good caller some_left holds (call_of change at) Done len_there run_of (mark_of change) some_subs subs_within (done_foot change) (done_marks change) (done_legal change)

      blocks_are : (change : Change) → blocks_after 1024 home who (call_of change at) Done blocks ≡ changed change home at blocks
      blocks_are Free = refl
      blocks_are Share = refl

      pub changed_blocks : (change : Change) (s' : PassState) → HasStampedWith (drafted s (call_of change at) Done len_there) s' → part_seen s' (alloc_cell k home) ≡ alloc_part (changed change home at blocks)
      changed_blocks change s' is = accepted_blocks s blocks good caller some_left holds (call_of change at) Done len_there run_of (mark_of change) some_subs subs_within (done_foot change) (done_marks change) (done_legal change) s' is
          ∙ ap alloc_part (blocks_are change)

-- the same in the words of the code, which has the caller's enclave
module _ (z : Site) (e : ℕ) (s : PassState) (blocks : List Live) (machine : IsMachine z) (can : CanCallWith z e blocks s) (at : Addr) (change : Change) (found' : Option Live) (len' who' : ℕ)
    (found_is : found' ≡ find (starts_at 1024 e at) blocks) (len_is : len' ≡ unwrap_or (option_map (λ (b : Live). b.len) found') 0) (who_is : who' ≡ s.hand.number) where
  good : IsGood (plan_of s)
  good = is_good z e s blocks machine can

  caller : IsCaller (plan_of s) s.hand.number
  caller = is_caller z e s blocks machine can

  here : e ≡ enclave_of (plan_of s) s.hand.number
  here = is_here z e s blocks machine can

  holds : HoldsBlocks (enclave_of (plan_of s) s.hand.number) s blocks
  holds = holds_here z e s blocks machine can

  found_here : found' ≡ find (starts_at 1024 (enclave_of (plan_of s) s.hand.number) at) blocks
  found_here = found_is ∙ ap (λ e'. find (starts_at 1024 e' at) blocks) here

  len_here : len' ≡ len_at (plan_of s) (enclave_of (plan_of s) s.hand.number) at blocks
  len_here = len_is ∙ ap (λ (o : Option Live). unwrap_or (option_map (λ (b : Live). b.len) o) 0) found_here

  -- the draft, with the call, its reply and its length
  abbrev pub IsDrafted : PassState → Reply → Type 0
  IsDrafted s1 reply = s1 ≡ drafted s (call_of change at) reply len'

  like : (s1 : PassState) (reply : Reply) → IsDrafted s1 reply → s1 ≡ drafted s (call_of change at) reply (len_at (plan_of s) (enclave_of (plan_of s) s.hand.number) at blocks)
  like s1 reply is = is ∙ ap (drafted s (call_of change at) reply) len_here

  module _ (reply : Reply) (refused : block_refusal who' found' ≡ Some reply) where
    refused_here : block_refusal s.hand.number (find (starts_at 1024 (enclave_of (plan_of s) s.hand.number) at) blocks) ≡ Some reply
    refused_here = (λ i. block_refusal (sym who_is i) (sym found_here i)) ∙ refused

    -- where no block of the caller's own starts there, the free or share may be stamped with its refusal
    pub may_refuse_at : (s1 : PassState) → IsDrafted s1 reply → MayStamp s1
    may_refuse_at s1 is = subst MayStamp (sym (like s1 reply is)) (may_refuse_change s blocks good caller can.left holds at reply refused_here change)

    -- once it is stamped, the call got this refusal, and the enclave's blocks are as before
    pub refused_at : (s1 s2 : PassState) (place : ℕ) → IsDrafted s1 reply → HasStamped s1 place s2 → HasCalled s (call_of change at) reply s2 × (part_seen s2 (alloc_cell (plan_at z) e) ≡ alloc_part blocks)
    refused_at s1 s2 place is stamped =
        let done = subst (λ (y : PassState). HasStampedWith y s2) (like s1 reply is) (stamped_with s1 place s2 stamped) in (
          called s (call_of change at) reply (len_at (plan_of s) (enclave_of (plan_of s) s.hand.number) at blocks) s2 done,
          ap (part_seen s2) here ∙ refused_change s blocks good caller can.left holds at reply refused_here change s2 done,
        )

  module _ (block : Live) (block_is : found' ≡ Some block) (mine : block_refusal who' found' ≡ None) where
    there_is : find (starts_at 1024 (enclave_of (plan_of s) s.hand.number) at) blocks ≡ Some block
    there_is = sym found_here ∙ block_is

    mine_here : block_refusal s.hand.number (find (starts_at 1024 (enclave_of (plan_of s) s.hand.number) at) blocks) ≡ None
    mine_here = (λ i. block_refusal (sym who_is i) (sym found_here i)) ∙ mine

    module _ (k' : Plan) (first : ℕ) (plan_same : k' ≡ plan_at z) (first_is : first ≡ first_sub k' e) where
      abbrev pub run_made : Run
      run_made = record { start = first + block.start; len = len' }

      start_same : first + block.start ≡ first_sub (plan_of s) (enclave_of (plan_of s) s.hand.number) + block.start
      start_same = ap (λ m. m + block.start) (first_is ∙ (λ i. first_sub ((plan_same ∙ plan_is z e s blocks machine can) i) (here i)))

      len_same : len' ≡ block.len
      len_same = len_is ∙ ap (λ (o : Option Live). unwrap_or (option_map (λ (b : Live). b.len) o) 0) block_is

      -- the block ends at sub-page 16384 of the machine at the latest
      pub small_run : first + block.start + len' ≤ 16384
      small_run = let within = subs_within s blocks good caller can.left holds at block there_is mine_here in let most = few_pages (plan_of s) good in let same = start_same in let long = len_same in omega arith

      -- the free or share may be stamped once the pass has the turns of the block's pages
      pub can_change_at : (s1 : PassState) (p : ℕ) (mark : Mark) → IsDrafted s1 Done → p ≡ (first + block.start) / 4 → mark ≡ mark_of change → CanStampWith s1 run_made mark p
      can_change_at s1 p mark is p_is mark_is =
          subst (λ (y : PassState × (Run × (Mark × ℕ))). CanStampWith y.0 y.1.0 y.1.1.0 y.1.1.1)
          (sym (λ i. (like s1 Done is i, (record { start = start_same i; len = len_same i }, (mark_is i, (p_is ∙ ap (λ m. m / 4) start_same) i)))))
          (can_change s blocks good caller can.left holds at block there_is mine_here change)

      -- once it is stamped, the call was done, and the enclave's blocks are changed by it
      pub changed_at : (s1 s2 : PassState) (blocks' : List Live) → IsDrafted s1 Done → HasStampedWith s1 s2 → blocks' ≡ changed change e at blocks
          → HasCalled s (call_of change at) Done s2 × (part_seen s2 (alloc_cell (plan_at z) e) ≡ alloc_part blocks')
      changed_at s1 s2 blocks' is stamped blocks_are =
          let done = subst (λ (y : PassState). HasStampedWith y s2) (like s1 Done is) stamped in (
            called s (call_of change at) Done (len_at (plan_of s) (enclave_of (plan_of s) s.hand.number) at blocks) s2 done,
            ap (part_seen s2) here ∙ (changed_blocks s blocks good caller can.left holds at block there_is mine_here change s2 done ∙ ap alloc_part (sym (blocks_are ∙ ap (λ e'. changed change e' at blocks) here))),
          )
