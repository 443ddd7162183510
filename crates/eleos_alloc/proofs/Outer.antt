-- A call takes the turn of its enclave's live blocks, makes its entry, and gives the turn back.
use Rattle.std.proofs.Common.{◌≡◌, ℕ, List, [], ◌∷◌, Bool, false, cond, if◌then◌else◌, inl, refl, sym, ◌∙◌, ap, subst, arith, eq-eqb}
use Rattle.eleos_base.specs.declared.memory.Live.{Live}
use Rattle.eleos_base.specs.declared.memory.Op.{Op as Calls}
use Rattle.eleos_base.specs.declared.memory.Op.TheVariants as calls
use Rattle.eleos_base.specs.declared.memory.Reply.{Reply}
use Rattle.eleos_base.specs.declared.memory.Reply.TheVariants.{BadSize}
use Rattle.eleos_base.specs.declared.plan.Plan.{Plan}
use Rattle.eleos_base.specs.Plain.{alloc_answer, is_good_size, lowest_run, subs_for}
use Rattle.eleos_base.specs.Plans.{IsCaller, enclave_of}
use Rattle.eleos_base.specs.Ties.{Has}
use Rattle.eleos_core.specs.declared.event.Event.TheVariants.{Op}
use Rattle.eleos_core.specs.Applying.{stamp_of}
use Rattle.eleos_core.specs.Legal.{CoreStep}
use Rattle.eleos_core.specs.Parts.{alloc_cell, live_in}
use Rattle.eleos_base.specs.Places.{subs}
use Rattle.eleos_core.specs.State.{entry}
use Rattle.eleos_plot.specs.Terms.{core_terms}
use Rattle.eleos_turn.specs.Hands.{Goes}
use Rattle.eleos_turn.specs.Numbers.{less_one}
use Rattle.eleos_turn.proofs.Clients.{goes_given, goes_links, goes_trans}
use Rattle.eleos_machine.specs.Machines.{Site, plan_at, seals_at}
use Rattle.eleos_machine.specs.Notes.{after_entry}
use Rattle.eleos_machine.specs.Passes.{PassState, gave, part_seen, plan_of}
use Rattle.eleos_machine.specs.Stamping.{HasStamped, MayStamp}
use Rattle.eleos_alloc.specs.Calls.{CanCall, HasCalled}
use Rattle.eleos_alloc.specs.Stamping.{CanCallWith, HasStampedWith, HasTaken}
use Rattle.eleos_alloc.proofs.Calling.{called, drafted}
use Rattle.eleos_alloc.proofs.TurnsHeld.{may_call, stamped_with}

module _ (z : Site) (s : PassState) (can : CanCall z s) where
  plan_is : plan_at z ≡ plan_of s
  plan_is = ap (λ (y : Site). plan_at y) (sym can.own)

  -- an alloc of a bad size touches no cell
  module _ (n : ℕ) (bad : is_good_size n ≡ false) where
    pub may_say_bad : (s1 : PassState) → s1 ≡ drafted s (calls.Alloc n) BadSize 0 → MayStamp s1
    may_say_bad s1 is = subst MayStamp (sym is) (may_call (drafted s (calls.Alloc n) BadSize 0) (calls.Alloc n) refl can.left refl
        (λ c in_foot. absurd (subst (λ (b : Bool). Has c (if b then alloc_cell (plan_of s) (enclave_of (plan_of s) s.hand.number) ∷ [] else [])) bad in_foot))
        (record {
          within = subst (λ (k : Plan). IsCaller k s.hand.number) plan_is can.caller;
          on_parts = record {
            reply_is = (let e = enclave_of (plan_of s) s.hand.number in
                sym (ap (λ (b : Bool). if b then alloc_answer 1024 e (lowest_run (live_in (part_seen s (alloc_cell (plan_of s) e))) (subs (plan_of s) e) (subs_for 1024 n)) else BadSize) bad));
            no_block = refl;
          };
        }))

  -- once it is stamped, the call was refused for its size
  pub said_bad : (n : ℕ) (s1 s2 : PassState) (place : ℕ) → s1 ≡ drafted s (calls.Alloc n) BadSize 0 → HasStamped s1 place s2 → HasCalled s (calls.Alloc n) BadSize s2
  said_bad n s1 s2 place is stamped = called s (calls.Alloc n) BadSize 0 s2 (subst (λ (y : PassState). HasStampedWith y s2) is (stamped_with s1 place s2 stamped))

  -- the others take the turn of the blocks
  module _ (e : ℕ) (blocks : List Live) (s1 : PassState) (taken : HasTaken e s blocks s1) where
    -- with the turn the pass may make its call, by the plan and the enclave that the code has
    pub can_call_with : (k : Plan) (who : ℕ) → k ≡ plan_at z → who ≡ s.hand.number → e ≡ enclave_of k who → CanCallWith z e blocks s1
    can_call_with k who k_is who_is e_is = record {
      own = taken.goes.home ∙ can.own;
      caller = subst (IsCaller (plan_at z)) (sym taken.goes.number) can.caller;
      home = e_is ∙ (λ i. enclave_of (k_is i) ((who_is ∙ sym taken.goes.number) i));
      left = (let left = taken.goes.left in let some = can.left in omega arith);
      holds = taken.holds;
    }

    -- the call was made, and the turn is given back
    module _ (op : Calls) (reply : Reply) (s2 : PassState) (made : HasCalled s1 op reply s2) where
      -- the pass is still one of this machine
      pub own_then : s2.hand.home ≡ z
      own_then = made.one.home ∙ (taken.goes.home ∙ can.own)

      -- the turn of the enclave's blocks is held still
      pub held_then : (cell : ℕ) → cell ≡ e → Has cell s2.hand.turns
      held_then cell is = subst (Has cell) (sym (made.turns ∙ taken.holds.turns)) (inl is)

      done : HasCalled s op reply (gave s2 e)
      done = record {
        place = made.place;
        len = made.len;
        one = subst (λ w. Goes core_terms s.hand (gave s2 e).hand ((made.place, stamp_of w (Op op) [] reply made.len) ∷ [])) taken.goes.number
            (goes_trans core_terms s.hand s1.hand (gave s2 e).hand [] ((made.place, stamp_of s1.hand.number (Op op) [] reply made.len) ∷ []) taken.goes
            (goes_trans core_terms s1.hand s2.hand (gave s2 e).hand ((made.place, stamp_of s1.hand.number (Op op) [] reply made.len) ∷ []) [] made.one (goes_given core_terms e s2.hand (gave s2 e).hand refl)));
        past = made.past;
        sees = made.sees ∙ ap (λ w. entry w (Op op) [] reply ∷ made.past) taken.goes.number;
        at = made.at;
        legal = subst (λ (y : Site × ℕ). CoreStep (plan_at y.0) (seals_at y.0) made.past (entry y.1 (Op op) [] reply)) (λ i. (taken.goes.home i, taken.goes.number i)) made.legal;
        turns = ap (less_one e) (made.turns ∙ taken.holds.turns) ∙ (ap (λ (b : Bool). cond b [] (e ∷ [])) (eq-eqb e e refl) ∙ sym can.idle);
        pins = made.pins ∙ taken.pins;
        links = λ c. made.links c ∙ goes_links core_terms s.hand s1.hand [] taken.goes tt c;
        refused = made.refused ∙ taken.refused;
        rest = ap (λ (y : PassState). gave y e) made.rest ∙ ap (λ (y : PassState). record y { hand = (gave s2 e).hand; draft = s2.draft; sweep = after_entry (Op op) y.sweep }) taken.rest;
      }

      -- with the turn given back, the whole is the call with this reply
      pub done_then : (cell : ℕ) (s3 : PassState) → cell ≡ e → s3 ≡ gave s2 cell → HasCalled s op reply s3
      done_then cell s3 cell_is is = subst (HasCalled s op reply) (sym (is ∙ ap (gave s2) cell_is)) done

-- after a call the pass may call again, while it has stamps left
pub idle_again : (z : Site) (s s' : PassState) (op : Calls) (reply : Reply) → s.hand.home ≡ z → IsCaller (plan_at z) s.hand.number → s.hand.turns ≡ [] → HasCalled s op reply s'
    → (s'.hand.home ≡ z) × IsCaller (plan_at z) s'.hand.number × (s'.hand.turns ≡ [])
idle_again z s s' op reply own caller idle is = (is.one.home ∙ own, subst (IsCaller (plan_at z)) (sym is.one.number) caller, is.turns ∙ idle)
