-- What a call on blocks may stamp, and what that leaves, where the pass has the turn of its enclave's live blocks.
use Rattle.std.proofs.Common.{◌≡◌, ⊎_elim, inl, inr, ℕ, zero, suc, ◌+◌, ◌-◌, ◌*◌, ◌/◌, ◌<◌, ◌≤◌, List, [], ◌∷◌, length, map, Bool, true, false, nat_lt, Option, Some, None, if◌then◌else◌, refl, sym, ◌∙◌, ap, subst, arith}
use Rattle.std.specs.List.{range_with_len}
use Rattle.std.proofs.lemmas.List.{get_or-map}
use Rattle.eleos_base.specs.declared.memory.Live.{Live}
use Rattle.eleos_base.specs.declared.memory.Op.{Op as Calls}
use Rattle.eleos_base.specs.declared.memory.Op.TheVariants as calls
use Rattle.eleos_base.specs.declared.memory.Reply.{Reply}
use Rattle.eleos_base.specs.declared.memory.Reply.TheVariants.{BadSize, Got, NoSpace}
use Rattle.eleos_base.specs.declared.plan.EnclavePlan.{EnclavePlan}
use Rattle.eleos_base.specs.declared.plan.Plan.{Plan}
use Rattle.eleos_base.specs.Plain.{alloc_answer, alloc_reply, blocks_after, is_free_run, is_good_size, lowest_run, subs_for, with_block}
use Rattle.eleos_base.specs.Plans.{IsCaller, IsGood, enclave_of}
use Rattle.eleos_base.specs.Ties.{Has}
use Rattle.eleos_core.specs.declared.allots.marks.Mark.{Mark}
use Rattle.eleos_core.specs.declared.allots.marks.Mark.TheVariants.{Blank}
use Rattle.eleos_core.specs.declared.event.Event.TheVariants.{Op}
use Rattle.eleos_core.specs.Applying.{stamp_of}
use Rattle.eleos_core.specs.Order.{AreInOrder}
use Rattle.eleos_core.specs.Parts.{Cell as Numbered, MayStep, Part, Stamp, alloc_cell, alloc_part, foot, live_in, page_cell, pages_of_run, part_after}
use Rattle.eleos_base.specs.Places.{all_pages, first_sub, subs}
use Rattle.eleos_core.specs.Seals.{Seals}
use Rattle.eleos_core.specs.State.{live_by}
use Rattle.eleos_core.proofs.Allotting.{Marks, alloc_marks, live_home}
use Rattle.eleos_core.proofs.FreeRuns.{by_test, nat_ge_of, nat_lt_of}
use Rattle.eleos_core.proofs.InOrder.{in_order-with_block, is_free_run-le, lowest_run-is_free}
use Rattle.eleos_core.proofs.Numbers.{some_subs}
use Rattle.eleos_core.proofs.Sets.{cell_of-alloc, page_not_alloc}
use Rattle.eleos_core.proofs.SubPages.{few_pages, home_within, is_home}
use Rattle.eleos_plot.specs.Terms.{core_terms}
use Rattle.eleos_turn.proofs.Clients.{goes_links}
use Rattle.eleos_machine.specs.Machines.{IsMachine, Site, plan_at}
use Rattle.eleos_machine.specs.Notes.{after_entry}
use Rattle.eleos_machine.specs.Passes.{PassState, part_seen, plan_of, seals_of}
use Rattle.eleos_machine.specs.Stamping.{HasStamped, MayStamp}
use Rattle.eleos_alloc.specs.declared.runs.Run.{Run}
use Rattle.eleos_alloc.specs.Calls.{HasCalled}
use Rattle.eleos_alloc.specs.Runs.{end_of}
use Rattle.eleos_alloc.specs.Stamping.{CanCallWith, CanStampWith, HasStampedWith, HoldsBlocks, IsAhead}
use Rattle.eleos_alloc.proofs.TurnsHeld.{may_call, stamped_with}

-- the pages of a run
ahead_of : (k : Plan) (a n c : ℕ) → Has c (map (page_cell k) (range_with_len a n)) → IsAhead k a (a + n) c
ahead_of k a zero c has = absurd has
ahead_of k a (suc n) c has = ⊎_elim
    (λ (here : c ≡ page_cell k a). record { number = a; from = omega arith; below = omega arith; is = here })
    (λ (there : Has c (map (page_cell k) (range_with_len (a + 1) n))). let later = ahead_of k (a + 1) n c there in
    record { number = later.number; from = (let from = later.from in omega arith); below = (let below = later.below in omega arith); is = later.is }) has

in_pages : (k : Plan) (a n p : ℕ) → a ≤ p → p < a + n → Has (page_cell k p) (map (page_cell k) (range_with_len a n))
in_pages k a zero p from below = absurd (omega arith)
in_pages k a (suc n) p from below = by_test (nat_lt a p)
    (λ above. inr (in_pages k (a + 1) n p (let lt = nat_lt_of a p above in omega arith) (omega arith)))
    (λ here. inl (ap (page_cell k) (let ge = nat_ge_of a p here in omega arith)))

-- an enclave has few sub-pages
few_subs : (k : Plan) (e : ℕ) → IsGood k → e < length k.enclaves → subs k e ≤ 4096
few_subs k e good inside =
    let d : EnclavePlan = record { pages = 0; frames = 0 } in
    let most = (good.pages e d inside).1 in
    let is = get_or-map (λ (made : EnclavePlan). made.pages) k.enclaves e d 0 inside in
    omega arith

-- and so few live blocks
few_blocks : (low subs : ℕ) (blocks : List Live) → AreInOrder low subs blocks → low + length blocks ≤ subs
few_blocks low subs [] order = omega arith
few_blocks low subs (block ∷ blocks) order = let from = order.0 in let some = order.1 in let rest = few_blocks (block.start + block.len) subs blocks order.2 in omega arith

length-with_block : (block : Live) (blocks : List Live) → length (with_block block blocks) ≡ length blocks + 1
length-with_block block [] = refl
length-with_block block (other ∷ others) = by_test (nat_lt block.start other.start)
    (λ yes_is. ap (λ (b : Bool). length (if b then block ∷ other ∷ others else other ∷ with_block block others)) yes_is ∙ omega arith)
    (λ no_is. ap (λ (b : Bool). length (if b then block ∷ other ∷ others else other ∷ with_block block others)) no_is ∙ (let rest = length-with_block block others in omega arith))

-- the pass before the stamp
abbrev pub drafted : PassState → Calls → Reply → ℕ → PassState
drafted s op reply len = record s { draft = stamp_of s.hand.number (Op op) [] reply len }

-- and after it
pub called : (s : PassState) (op : Calls) (reply : Reply) (len : ℕ) (s' : PassState) → HasStampedWith (drafted s op reply len) s' → HasCalled s op reply s'
called s op reply len s' is = record {
  place = is.place;
  len = len;
  one = is.goes;
  past = is.past;
  sees = is.sees;
  at = is.at;
  legal = is.legal;
  turns = is.turns;
  pins = is.pins;
  links = goes_links core_terms s.hand s'.hand ((is.place, stamp_of s.hand.number (Op op) [] reply len) ∷ []) is.goes (refl, tt);
  refused = is.refused;
  rest = is.rest ∙ ap (λ d. record s { hand = s'.hand; draft = d; sweep = after_entry (Op op) s.sweep }) (sym (ap (λ (y : PassState). y.draft) is.rest));
}

-- a caller's pass that has the turn of its enclave's live blocks
module _ (s : PassState) (blocks : List Live) (good : IsGood (plan_of s)) (caller : IsCaller (plan_of s) s.hand.number) (some_left : 0 < s.hand.left)
    (holds : HoldsBlocks (enclave_of (plan_of s) s.hand.number) s blocks) where
  abbrev k : Plan
  k = plan_of s

  abbrev x : Seals
  x = seals_of s

  abbrev who : ℕ
  who = s.hand.number

  abbrev home : ℕ
  home = enclave_of k who

  inside : home < length k.enclaves
  inside = is_home k who good caller

  has_home : Has (alloc_cell k home) s.hand.turns
  has_home = subst (Has (alloc_cell k home)) (sym holds.turns) (inl refl)

  -- where the entry may be made on these blocks
  abbrev pub IsLegal : Calls → Reply → ℕ → Type 0
  IsLegal op reply len = (b : ℕ → Part) → b (alloc_cell k home) ≡ part_seen s (alloc_cell k home) → MayStep k x (stamp_of who (Op op) [] reply len) b

  -- the enclave's blocks after it
  pub blocks_then : (op : Calls) (reply : Reply) (len : ℕ) (s' : PassState) → Has (alloc_cell k home) (foot k (stamp_of who (Op op) [] reply len)) → HasStampedWith (drafted s op reply len) s'
      → part_seen s' (alloc_cell k home) ≡ alloc_part (blocks_after 1024 home who op reply blocks)
  blocks_then op reply len s' in_foot is =
      let d : Stamp = stamp_of who (Op op) [] reply len in
      is.touched (alloc_cell k home) has_home in_foot
      ∙ (ap (λ (cell : Numbered). part_after k x d cell (part_seen s (alloc_cell k home))) (cell_of-alloc k home inside)
      ∙ (ap (λ (q : Part). alloc_part (live_by k home who (Op op) reply (live_in q))) holds.part
      ∙ ap alloc_part (live_home k home who op reply blocks refl)))

  -- one that touches the blocks alone
  abbrev pub TouchesBlocks : Calls → Reply → ℕ → Type 0
  TouchesBlocks op reply len = foot k (stamp_of who (Op op) [] reply len) ≡ alloc_cell k home ∷ []

  -- it may be stamped where it is legal on the enclave's blocks, which are all that it touches
  pub may_refuse : (op : Calls) (reply : Reply) (len : ℕ) → TouchesBlocks op reply len → IsLegal op reply len → MayStamp (drafted s op reply len)
  may_refuse op reply len foot_is legal = may_call (drafted s op reply len) op refl some_left refl
      (λ c in_foot. subst (Has c) (foot_is ∙ sym holds.turns) in_foot) (legal (part_seen s) refl)

  -- once it is stamped, the enclave's blocks are what it makes of them
  pub refused_blocks : (op : Calls) (reply : Reply) (len : ℕ) (s' : PassState) → TouchesBlocks op reply len → HasStampedWith (drafted s op reply len) s' → part_seen s' (alloc_cell k home) ≡ alloc_part (blocks_after 1024 home who op reply blocks)
  refused_blocks op reply len s' foot_is is = blocks_then op reply len s' (subst (Has (alloc_cell k home)) (sym foot_is) (inl refl)) is

  -- one that touches the pages of a run too
  module _ (op : Calls) (reply : Reply) (len : ℕ) (run : Run) (mark : Mark) (some : 1 ≤ run.len) (within : run.start + run.len ≤ 4 * all_pages k)
      (foot_is : foot k (stamp_of who (Op op) [] reply len) ≡ alloc_cell k home ∷ map (page_cell k) (pages_of_run k run.start run.len))
      (marks : Marks k x mark (stamp_of who (Op op) [] reply len) op run.start run.len) (legal : IsLegal op reply len) where
    pages_are : pages_of_run k run.start run.len ≡ range_with_len (run.start / 4) (end_of run - run.start / 4)
    pages_are = by_len run.len some refl where
      by_len : (n : ℕ) → 1 ≤ n → run.len ≡ n → pages_of_run k run.start n ≡ range_with_len (run.start / 4) ((run.start + n - 1) / 4 + 1 - run.start / 4)
      by_len zero low is = absurd (omega arith)
      by_len (suc n) low is = ap (range_with_len (run.start / 4)) (omega arith)

    in_foot_is : foot k (stamp_of who (Op op) [] reply len) ≡ alloc_cell k home ∷ map (page_cell k) (range_with_len (run.start / 4) (end_of run - run.start / 4))
    in_foot_is = foot_is ∙ ap (λ ps. alloc_cell k home ∷ map (page_cell k) ps) pages_are

    -- it may be stamped once the pass has the turns of the run's pages, from the first on
    pub can_stamp_with : CanStampWith (drafted s op reply len) run mark (run.start / 4)
    can_stamp_with =
        let most = few_pages k good in
        record {
          made = (let from = caller.from_one in omega arith);
          own = refl;
          left = some_left;
          op = op;
          event = refl;
          run_is = record { some = some; within = omega arith };
          e = home;
          home = has_home;
          legal = legal;
          turns = λ c in_foot. ⊎_elim
              (λ (here : c ≡ alloc_cell k home). inl (subst (λ z. Has z s.hand.turns) (sym here) has_home))
              (λ (there : Has c (map (page_cell k) (range_with_len (run.start / 4) (end_of run - run.start / 4)))). inr (let ahead = ahead_of k (run.start / 4) (end_of run - run.start / 4) c there in
              record { number = ahead.number; from = ahead.from; below = (let below = ahead.below in omega arith); is = ahead.is }))
              (subst (Has c) in_foot_is in_foot);
          ahead = λ p from below. record {
            exists = omega arith;
            touches = record { run_is = record { some = some; within = omega arith }; ends_behind = omega arith; begins_before = omega arith };
            in_foot = subst (Has (page_cell k p)) (sym in_foot_is) (inr (in_pages k (run.start / 4) (end_of run - run.start / 4) p from (omega arith)));
            free = λ has. ⊎_elim (λ (same : page_cell k p ≡ alloc_cell k home). page_not_alloc k p home inside same) (λ (none : ⊥). none) (subst (Has (page_cell k p)) holds.turns has);
          };
          within = omega arith;
          marks = marks;
        }

    -- once it is stamped, the enclave's blocks are what it makes of them
    pub accepted_blocks : (s' : PassState) → HasStampedWith (drafted s op reply len) s' → part_seen s' (alloc_cell k home) ≡ alloc_part (blocks_after 1024 home who op reply blocks)
    accepted_blocks s' is = blocks_then op reply len s' (subst (Has (alloc_cell k home)) (sym foot_is) (inl refl)) is

  -- an alloc
  module _ (n : ℕ) (good_n : is_good_size n ≡ true) where
    alloc_legal : (reply : Reply) → alloc_reply 1024 home blocks (subs k home) n ≡ reply → IsLegal (calls.Alloc n) reply 0
    alloc_legal reply is = λ b same. record {
      within = caller;
      on_parts = record { reply_is = sym (ap (λ (q : Part). alloc_reply 1024 home (live_in q) (subs k home) n) (same ∙ holds.part) ∙ is); no_block = refl };
    }

    pub no_space : lowest_run blocks (subs k home) (subs_for 1024 n) ≡ None → IsLegal (calls.Alloc n) NoSpace 0
    no_space none = alloc_legal NoSpace (ap (λ (b : Bool). if b then alloc_answer 1024 home (lowest_run blocks (subs k home) (subs_for 1024 n)) else BadSize) good_n ∙ ap (alloc_answer 1024 home) none)

    pub no_space_touches : TouchesBlocks (calls.Alloc n) NoSpace 0
    no_space_touches = ap (λ (b : Bool). if b then alloc_cell k home ∷ [] else []) good_n

    module _ (start : ℕ) (found : lowest_run blocks (subs k home) (subs_for 1024 n) ≡ Some start) where
      abbrev pub reply_at : Reply
      reply_at = Got (record { enclave = home; at = 1024 * start })

      abbrev pub block_there : Live
      block_there = record { start = start; len = subs_for 1024 n; owner = who; is_shared = false }

      back : 1024 * start / 1024 ≡ start
      back = omega arith

      some_len : 1 ≤ n → 1 ≤ subs_for 1024 n
      some_len some = some_subs n (subs_for 1024 n) refl some

      free : is_free_run blocks (subs k home) (subs_for 1024 n) start ≡ true
      free = lowest_run-is_free blocks (subs k home) (subs_for 1024 n) start found

      ends : start + subs_for 1024 n ≤ subs k home
      ends = is_free_run-le blocks (subs k home) (subs_for 1024 n) start free

      pub run_within : first_sub k home + start + subs_for 1024 n ≤ 4 * all_pages k
      run_within = let most = home_within k home inside in let fits = ends in omega arith

      pub room : 1 ≤ n → length blocks < 4096
      room some =
          let order = in_order-with_block block_there blocks 0 (subs k home) holds.in_order (omega arith) (some_len some) free in
          let all = few_blocks 0 (subs k home) (with_block block_there blocks) order in
          let more = length-with_block block_there blocks in
          let most = few_subs k home good inside in
          omega arith

      got_legal : IsLegal (calls.Alloc n) reply_at 0
      got_legal = alloc_legal reply_at (ap (λ (b : Bool). if b then alloc_answer 1024 home (lowest_run blocks (subs k home) (subs_for 1024 n)) else BadSize) good_n ∙ ap (alloc_answer 1024 home) found)

      abbrev pub run_there : Run
      run_there = record { start = first_sub k home + start; len = subs_for 1024 n }

      got_marks : Marks k x (Blank (Some block_there)) (stamp_of who (Op (calls.Alloc n)) [] reply_at 0) (calls.Alloc n) run_there.start run_there.len
      got_marks = subst (λ z. Marks k x (Blank (Some (record { start = z; len = subs_for 1024 n; owner = who; is_shared = false }))) (stamp_of who (Op (calls.Alloc n)) [] reply_at 0) (calls.Alloc n) (first_sub k home + z) (subs_for 1024 n)) back
          (alloc_marks k x who 0 reply_at n)

      got_foot : foot k (stamp_of who (Op (calls.Alloc n)) [] reply_at 0) ≡ alloc_cell k home ∷ map (page_cell k) (pages_of_run k run_there.start run_there.len)
      got_foot = ap (λ (b : Bool). if b then alloc_cell k home ∷ map (page_cell k) (pages_of_run k (first_sub k home + 1024 * start / 1024) (subs_for 1024 n)) else []) good_n
          ∙ ap (λ z. alloc_cell k home ∷ map (page_cell k) (pages_of_run k (first_sub k home + z) (subs_for 1024 n))) back

      pub can_alloc : 1 ≤ n → CanStampWith (drafted s (calls.Alloc n) reply_at 0) run_there (Blank (Some block_there)) (run_there.start / 4)
      can_alloc some = can_stamp_with (calls.Alloc n) reply_at 0 run_there (Blank (Some block_there)) (some_len some) run_within got_foot got_marks got_legal

      pub alloc_blocks : 1 ≤ n → (s' : PassState) → HasStampedWith (drafted s (calls.Alloc n) reply_at 0) s' → part_seen s' (alloc_cell k home) ≡ alloc_part (with_block block_there blocks)
      alloc_blocks some s' is = accepted_blocks (calls.Alloc n) reply_at 0 run_there (Blank (Some block_there)) (some_len some) run_within got_foot got_marks got_legal s' is
          ∙ ap (λ z. alloc_part (with_block (record { start = z; len = subs_for 1024 n; owner = who; is_shared = false }) blocks)) back

-- the same in the words of the code, which has the machine's plan and the caller's enclave
module _ (z : Site) (e : ℕ) (s : PassState) (blocks : List Live) (machine : IsMachine z) (can : CanCallWith z e blocks s) where
  -- the machine's plan is that of the pass
  pub plan_is : plan_at z ≡ plan_of s
  plan_is = ap (λ (y : Site). plan_at y) (sym can.own)

  -- the pass's plan is good
  pub is_good : IsGood (plan_of s)
  is_good = subst IsGood plan_is machine.made.good

  -- the pass is a caller's
  pub is_caller : IsCaller (plan_of s) s.hand.number
  is_caller = subst (λ (k' : Plan). IsCaller k' s.hand.number) plan_is can.caller

  -- the enclave is that of the caller
  pub is_here : e ≡ enclave_of (plan_of s) s.hand.number
  is_here = can.home ∙ ap (λ (k' : Plan). enclave_of k' s.hand.number) plan_is

  -- the pass has the turn of the blocks of its caller's enclave, and they are these
  pub holds_here : HoldsBlocks (enclave_of (plan_of s) s.hand.number) s blocks
  holds_here = subst (λ z. HoldsBlocks z s blocks) is_here can.holds

  pub enclave_is : (k' : Plan) → k' ≡ plan_at z → e < length k'.enclaves
  enclave_is k' is = subst (λ z. z < length k'.enclaves) (sym (is_here ∙ ap (λ (k'' : Plan). enclave_of k'' s.hand.number) (sym (is ∙ plan_is))))
      (subst (λ (k'' : Plan). enclave_of k'' s.hand.number < length k''.enclaves) (sym (is ∙ plan_is)) (is_home (plan_of s) s.hand.number is_good is_caller))

  pub order_is : (subs' : ℕ) (k' : Plan) → k' ≡ plan_at z → subs' ≡ subs k' e → AreInOrder 0 subs' blocks
  order_is subs' k' is subs_are = subst (λ n. AreInOrder 0 n blocks) (sym (subs_are ∙ ap (λ (k'' : Plan). subs k'' e) (is ∙ plan_is))) can.holds.in_order

  -- an alloc
  module _ (n : ℕ) (some : 1 ≤ n) (good_n : is_good_size n ≡ true) where
    -- what the search found
    pub searched : (k' : Plan) (subs' len' : ℕ) (run : Option ℕ) → k' ≡ plan_at z → subs' ≡ subs k' e → len' ≡ subs_for 1024 n → run ≡ lowest_run blocks subs' len'
        → lowest_run blocks (subs (plan_of s) (enclave_of (plan_of s) s.hand.number)) (subs_for 1024 n) ≡ run
    searched k' subs' len' run is subs_are len_is run_is = sym (run_is ∙ (λ t. lowest_run blocks ((subs_are ∙ (λ i. subs ((is ∙ plan_is) i) (is_here i))) t) (len_is t)))

    module _ (none : lowest_run blocks (subs (plan_of s) (enclave_of (plan_of s) s.hand.number)) (subs_for 1024 n) ≡ None) where
      -- where no free run is long enough, the alloc may be stamped with the reply that there is no space
      pub may_refuse_alloc : (s1 : PassState) → s1 ≡ drafted s (calls.Alloc n) NoSpace 0 → MayStamp s1
      may_refuse_alloc s1 is = subst MayStamp (sym is) (may_refuse s blocks is_good is_caller can.left holds_here (calls.Alloc n) NoSpace 0
          (no_space_touches s blocks is_good is_caller can.left holds_here n good_n) (no_space s blocks is_good is_caller can.left holds_here n good_n none))

      -- once it is stamped, the call got this reply, and the enclave's blocks are as before
      pub refused_alloc : (s1 s2 : PassState) (place : ℕ) → s1 ≡ drafted s (calls.Alloc n) NoSpace 0 → HasStamped s1 place s2
          → HasCalled s (calls.Alloc n) NoSpace s2 × (part_seen s2 (alloc_cell (plan_at z) e) ≡ alloc_part blocks)
      refused_alloc s1 s2 place is stamped =
          let done : HasStampedWith (drafted s (calls.Alloc n) NoSpace 0) s2 = subst (λ (y : PassState). HasStampedWith y s2) is (stamped_with s1 place s2 stamped) in (
            called s (calls.Alloc n) NoSpace 0 s2 done,
            ap (part_seen s2) is_here ∙ refused_blocks s blocks is_good is_caller can.left holds_here (calls.Alloc n) NoSpace 0 s2 (no_space_touches s blocks is_good is_caller can.left holds_here n good_n) done,
          )

    module _ (start : ℕ) (found : lowest_run blocks (subs (plan_of s) (enclave_of (plan_of s) s.hand.number)) (subs_for 1024 n) ≡ Some start) where
      abbrev pub got_at : Reply
      got_at = Got (record { enclave = e; at = 1024 * start })

      -- what the code made of it
      module _ (k' : Plan) (first len' owner : ℕ) (is : k' ≡ plan_at z) (first_is : first ≡ first_sub k' e) (len_is : len' ≡ subs_for 1024 n) (owner_is : owner ≡ s.hand.number) where
        abbrev pub run_made : Run
        run_made = record { start = first + start; len = len' }

        abbrev pub block_made : Live
        block_made = record { start = start; len = len'; owner = owner; is_shared = false }

        start_is : first + start ≡ first_sub (plan_of s) (enclave_of (plan_of s) s.hand.number) + start
        start_is = ap (λ m. m + start) (first_is ∙ (λ i. first_sub ((is ∙ plan_is) i) (is_here i)))

        -- the run ends at sub-page 16384 of the machine at the latest
        pub small : first + start + len' ≤ 16384
        small = let within = run_within s blocks is_good is_caller can.left holds_here n good_n start found in let most = few_pages (plan_of s) is_good in let at = start_is in omega arith

        -- the enclave has fewer than 4096 blocks, so that there is room for one more
        pub has_room : length blocks < 4096
        has_room = room s blocks is_good is_caller can.left holds_here n good_n start found some

        reply_is : got_at ≡ reply_at s blocks is_good is_caller can.left holds_here n good_n start found
        reply_is = ap (λ z. Got (record { enclave = z; at = 1024 * start })) is_here

        block_is : block_made ≡ block_there s blocks is_good is_caller can.left holds_here n good_n start found
        block_is = λ i. record { start = start; len = len_is i; owner = owner_is i; is_shared = false }

        -- the alloc may be stamped once the pass has the turns of its pages; it clears their sub-pages for the new block
        pub can_stamp_alloc : (s1 : PassState) (p : ℕ) → s1 ≡ drafted s (calls.Alloc n) got_at 0 → p ≡ (first + start) / 4 → CanStampWith s1 run_made (Blank (Some block_made)) p
        can_stamp_alloc s1 p drafted_is p_is =
            subst (λ (y : PassState × (Run × (Live × ℕ))). CanStampWith y.0 y.1.0 (Blank (Some y.1.1.0)) y.1.1.1)
            (sym (λ i. ((drafted_is ∙ ap (λ reply. drafted s (calls.Alloc n) reply 0) reply_is) i, (record { start = start_is i; len = len_is i }, (block_is i, (p_is ∙ ap (λ m. m / 4) start_is) i)))))
            (can_alloc s blocks is_good is_caller can.left holds_here n good_n start found some)

        -- once it is stamped, the call got its block, which is then among the enclave's
        pub done_alloc : (s1 s2 : PassState) (blocks' : List Live) → s1 ≡ drafted s (calls.Alloc n) got_at 0 → HasStampedWith s1 s2 → blocks' ≡ with_block block_made blocks
            → HasCalled s (calls.Alloc n) got_at s2 × (part_seen s2 (alloc_cell (plan_at z) e) ≡ alloc_part blocks')
        done_alloc s1 s2 blocks' drafted_is stamped blocks_are =
            let done : HasStampedWith (drafted s (calls.Alloc n) got_at 0) s2 = subst (λ (y : PassState). HasStampedWith y s2) drafted_is stamped in (
              called s (calls.Alloc n) got_at 0 s2 done,
              ap (part_seen s2) is_here ∙ (alloc_blocks s blocks is_good is_caller can.left holds_here n good_n start found some s2 (subst (λ reply. HasStampedWith (drafted s (calls.Alloc n) reply 0) s2) reply_is done)
                  ∙ (ap (λ (block : Live). alloc_part (with_block block blocks)) (sym block_is) ∙ ap alloc_part (sym blocks_are))),
            )
