-- An access that is out of range: it may be stamped as refused, and it seals nothing.
use Rattle.std.proofs.Common.{◌≡◌, ℕ, ◌-◌, ◌*◌, ◌/◌, ◌==◌, ◌&&◌, List, [], ◌∷◌, length, Bool, true, false, not, Option, Some, MatchOption, is_some, if◌then◌else◌, refl, sym, ◌∙◌, ap, subst}
use Rattle.std.proofs.lemmas.Bool.{true≢false}
use Rattle.eleos_base.specs.declared.memory.Addr.{Addr}
use Rattle.eleos_base.specs.declared.memory.Op.{Op as Calls}
use Rattle.eleos_base.specs.declared.memory.Op.TheVariants.{Read, Write}
use Rattle.eleos_base.specs.declared.memory.Reply.{Reply}
use Rattle.eleos_base.specs.declared.memory.Reply.TheVariants.{BadRange}
use Rattle.eleos_base.specs.declared.plan.Plan.{Plan}
use Rattle.eleos_base.specs.Places.{first_sub, is_sub_of, page_of, per_page, sub_of}
use Rattle.eleos_base.specs.Plain.{is_accepted}
use Rattle.eleos_base.specs.Plans.{IsCaller, enclave_of, sub_bytes}
use Rattle.eleos_base.specs.Ties.{Has, Tie, neither, adds, takes}
use Rattle.eleos_core.specs.declared.event.Event.TheVariants.{Op}
use Rattle.eleos_core.specs.Accesses.{page_at}
use Rattle.eleos_core.specs.Applying.{puts_of, stamp_of}
use Rattle.eleos_core.specs.Legal.{CoreStep}
use Rattle.eleos_core.specs.Parts.{CallOn, Stamp, foot, frame_in, page_cell, part_at, places_in, subs_in}
use Rattle.eleos_core.specs.Seals.{Seals}
use Rattle.eleos_core.specs.State.{History, entry}
use Rattle.eleos_core.proofs.AccessParts.{puts_from-none}
use Rattle.eleos_core.proofs.SealedPuts.{puts_are}
use Rattle.eleos_core.proofs.Spots.{and_false}
use Rattle.eleos_machine.specs.Machines.{Site, plan_at}
use Rattle.eleos_machine.specs.Passes.{PassState, part_seen, plan_of, seals_of}
use Rattle.eleos_machine.specs.Stamping.{HasStamped, MayStamp}
use Rattle.eleos_pages.specs.Entered.{CanCall, Enters}
use Rattle.eleos_pages.specs.Held.{IsOutside, access_stamp}
use Rattle.eleos_pages.proofs.Ending.{entered}
use Rattle.eleos_pages.proofs.OnPages.{same_hand}
use Rattle.eleos_direct.specs.Accesses.{IsAccessAt}
use Rattle.eleos_direct.proofs.Holding.{read_puts}

not_adds : (c : ℕ) → neither ≡ adds c → ⊥
not_adds c is = cc

not_takes : (c : ℕ) → neither ≡ takes c → ⊥
not_takes c is = cc

-- the same access, named otherwise
out_at : (k : Plan) (who : ℕ) (from at : Addr) (m n : ℕ) → from ≡ at → m ≡ n → IsOutside k who at n → IsOutside k who from m
out_at k who from at m n there size out = subst (λ (a : Addr). IsOutside k who a m) (sym there) (subst (λ (l : ℕ). IsOutside k who at l) (sym size) out)

refused_match : (b : Bool) (o : Option Reply) (A : Type 0) (B : Reply → Type 0) → b ≡ false → B BadRange → MatchOption (if b then o else Some BadRange) A B
refused_match false o A B is h = h
refused_match true o A B is h = absurd (true≢false is)

-- a call that touches no cell may be stamped as refused where it is legal
stamps : (z : Site) (s : PassState) (op : Calls) → CanCall z s → foot (plan_of s) (access_stamp s op [] BadRange) ≡ [] → CallOn (plan_of s) (seals_of s) (access_stamp s op [] BadRange) (part_seen s) op
    → MayStamp (record s { draft = access_stamp s op [] BadRange })
stamps z s op can none legal = record {
  own = refl;
  left = can.left;
  turns = λ c has. absurd (subst (Has c) none has);
  legal = record { within = subst (λ (y : Site). IsCaller (plan_at y) s.hand.number) (sym can.own) can.caller; on_parts = legal };
  sweep = tt;
  bare = λ c has. absurd has;
  covered = λ c is. absurd (not_adds c is);
  there = λ c is. absurd (not_takes c is);
}

-- so may an access that is out of range
pub may_refuse : (z : Site) (s : PassState) (at : Addr) (n : ℕ) (op : Calls) → CanCall z s → IsAccessAt at n op → IsOutside (plan_at z) s.hand.number at n → MayStamp (record s { draft = access_stamp s op [] BadRange })
may_refuse z s at n (Read from m) can is out =
    let k : Plan = plan_of s in
    let o : IsOutside k s.hand.number from m = out_at k s.hand.number from at m n is.0 is.1 (subst (λ (y : Site). IsOutside (plan_at y) s.hand.number at n) (sym can.own) out) in
    stamps z s (Read from m) can (ap (λ b. if b then page_cell k (page_at k from) ∷ [] else []) o) (refused_match _ _ _ _ o (record { reply_is = refl; no_block = refl }))
may_refuse z s at n (Write from bytes) can is out =
    let k : Plan = plan_of s in
    let o : IsOutside k s.hand.number from (length bytes) = out_at k s.hand.number from at (length bytes) n is.0 is.1 (subst (λ (y : Site). IsOutside (plan_at y) s.hand.number at n) (sym can.own) out) in
    stamps z s (Write from bytes) can (ap (λ b. if b then page_cell k (page_at k from) ∷ [] else []) o) (refused_match _ _ _ _ o (record { reply_is = refl; no_block = refl }))
may_refuse z s at n _ can is out = absurd is

-- the refusal of an access that is out of range was stamped
pub refused_outside : (s s1 s2 : PassState) (op : Calls) (n : ℕ) → s.hand.turns ≡ [] → s1 ≡ record s { draft = access_stamp s op [] BadRange } → HasStamped s1 n s2 → Enters s (access_stamp s op [] BadRange) [] s2
refused_outside s s1 s2 op n none is stamped =
    let d : Stamp = access_stamp s op [] BadRange in
    subst (λ held. Enters s d held s2) none
    (same_hand s d d s.hand.turns s2 (entered (record s { draft = d }) s2 n refl (subst (λ (y : PassState). HasStamped y n s2) is stamped)))

-- a write that is not accepted seals nothing
refused_puts : (k : Plan) (x : Seals) (past : History) (who : ℕ) (at : Addr) (new : List ℕ) (blocks : List (List ℕ)) (reply : Reply) → is_accepted reply ≡ false → CoreStep k x past (entry who (Op (Write at new)) blocks reply)
    → puts_of k x (entry who (Op (Write at new)) blocks reply) past ≡ []
refused_puts k x past who at new blocks reply refused step =
    let q = part_at k x past (page_cell k (page_at k at)) in
    sym (puts_are k x past who (Op (Write at new)) blocks reply 0 step)
    ∙ puts_from-none k x (stamp_of who (Op (Write at new)) blocks reply 0) (places_in k (Op (Write at new)) (frame_in q) (subs_in q)) (frame_in q) (page_at k at * per_page k) (subs_in q)
    (λ s u. ap (λ v. (is_sub_of k (enclave_of k who) s && (v && (at.at / sub_bytes k (enclave_of k who) == s - first_sub k (enclave_of k who)))) && not (is_some (frame_in q))) refused
    ∙ ap (λ v. v && not (is_some (frame_in q))) (and_false (is_sub_of k (enclave_of k who) s)))

-- nor does any access that is out of range
pub outside_puts : (k : Plan) (x : Seals) (past : History) (who : ℕ) (at : Addr) (n : ℕ) (op : Calls) (blocks : List (List ℕ)) → IsAccessAt at n op → CoreStep k x past (entry who (Op op) blocks BadRange)
    → puts_of k x (entry who (Op op) blocks BadRange) past ≡ []
outside_puts k x past who at n (Read from m) blocks is step = read_puts k x past who from m blocks BadRange step
outside_puts k x past who at n (Write from bytes) blocks is step = refused_puts k x past who from bytes blocks BadRange refl step
outside_puts k x past who at n _ blocks is step = absurd is
