-- After every legal entry a dirty sub-page is present and can be sealed once more.
use Rattle.std.proofs.Common.{◌≡◌, ℕ, ◌+◌, ◌-◌, ◌/◌, ◌%◌, ◌*◌, ◌<◌, ◌≤◌, ◌==◌, List, [], ◌∷◌, length, Bool, true, false, not, ◌&&◌, ◌||◌, nat_le, Option, Some, None, is_some, if◌then◌else◌, refl, sym, subst, arith}
use Rattle.std.proofs.lemmas.Bool.Decides.{eqb_tells, nat_tests}
use Rattle.std.proofs.lemmas.Bool.{eqb-true}
use Rattle.eleos_base.specs.declared.memory.Addr.{Addr}
use Rattle.eleos_base.specs.declared.memory.Live.{Live}
use Rattle.eleos_base.specs.declared.memory.Op.{Op as Calls}
use Rattle.eleos_base.specs.declared.memory.Op.TheVariants.{Write}
use Rattle.eleos_base.specs.declared.memory.Reply.{Reply}
use Rattle.eleos_base.specs.declared.memory.Reply.TheVariants.{BadRange}
use Rattle.eleos_base.specs.declared.plan.Plan.{Plan}
use Rattle.eleos_base.specs.Plain as plain
use Rattle.eleos_base.specs.Plain.{is_accepted, is_in_range, is_in_run, use_refusal, has_sub}
use Rattle.eleos_base.specs.Plans.{enclave_of, sub_bytes}
use Rattle.std.specs.List.{find}
use Rattle.eleos_core.specs.declared.event.Entry.{Entry}
use Rattle.eleos_core.specs.declared.event.Event.{Event}
use Rattle.eleos_core.specs.declared.event.Event.TheVariants.{Op, Fill, Evict}
use Rattle.eleos_core.specs.Seals.{Seals}
use Rattle.eleos_base.specs.Places.{first_sub, is_sub_of, page_of, sub_of, subs}
use Rattle.eleos_core.specs.State.{History, covers, entry, frame, is_dirty, is_present, live, version, writes}
use Rattle.eleos_core.specs.Legal.{CallStep, CoreRun, CoreStep, access_refusal, is_worn, verdict}
use Rattle.eleos_core.proofs.Tests.{by_test, first_of, second_of}
use Rattle.eleos_core.proofs.Replies.{access_refuses, write_accepted}

-- a dirty sub-page is present, and one sealing more is within the wear limit, which no version passes
pub record CanSeal (k : Plan) (past : History) (s : ℕ) : Type 0 where
  pub present : is_dirty k past s ≡ true → is_present k past s ≡ true
  pub below : is_dirty k past s ≡ true → version k past s < k.wear
  pub most : version k past s ≤ k.wear

-- one sub-page, in plain values: d and p are dirty and present before, n the version, c and w that the entry covers it and writes it
still_present : (c w p d : Bool) → (d ≡ true → p ≡ true) → (if c || false then false else if w then p else d) ≡ true → p ≡ true
still_present true w p d h e = cc
still_present false true p d h e = e
still_present false false p d h e = h e

still_below : (c w p d : Bool) (n wear : ℕ) → (d ≡ true → n < wear) → n ≤ wear → (w ≡ true → not d && (n == wear) ≡ false)
    → (if c || false then false else if w then p else d) ≡ true → (if w && not p then n + 1 else n) < wear
still_below true w p d n wear low most worn e = cc
still_below false false p d n wear low most worn e = low e
still_below false true true true n wear low most worn e = low refl
still_below false true true false n wear low most worn e = grind (arith, eqb_tells n wear, worn refl)
still_below false true false d n wear low most worn e = cc

still_most : (w p d : Bool) (n wear : ℕ) → (d ≡ true → p ≡ true) → n ≤ wear → (w ≡ true → not d && (n == wear) ≡ false) → (if w && not p then n + 1 else n) ≤ wear
still_most false p d n wear h most worn = most
still_most true true d n wear h most worn = most
still_most true false true n wear h most worn = let e = h refl in cc
still_most true false false n wear h most worn = grind (arith, eqb_tells n wear, worn refl)

-- an evict: v says that it evicts the sub-page
evict_below : (v d q : Bool) (n wear : ℕ) → (d ≡ true → n < wear) → (if false || v then false else d) ≡ true → (if (v && d) || (false && not q) then n + 1 else n) < wear
evict_below true d q n wear low e = cc
evict_below false d q n wear low e = low e

evict_most : (v d q : Bool) (n wear : ℕ) → (d ≡ true → n < wear) → n ≤ wear → (if (v && d) || (false && q) then n + 1 else n) ≤ wear
evict_most true true q n wear low most = let h = low refl in omega arith
evict_most true false q n wear low most = most
evict_most false d q n wear low most = most

-- a dirty sub-page stays in its frame but for an evict, after which it is clean: o is the frame before
kept_present : (b d : Bool) (o : Option ℕ) (f : ℕ) → (d ≡ true → is_some o ≡ true) → d ≡ true → is_some (if b then Some f else o) ≡ true
kept_present true d o f h e = refl
kept_present false d o f h e = h e

evict_present : (b d : Bool) (o : Option ℕ) → (d ≡ true → is_some o ≡ true) → (if false || b then false else d) ≡ true → is_some (if b then None else o) ≡ true
evict_present true d o h e = cc
evict_present false d o h e = h e

first_of_four : (a b c d : Bool) → a && b && c && d ≡ true → a ≡ true
first_of_four true b c d e = refl
first_of_four false b c d e = e

-- an access that is not refused is to the caller's own enclave
pub own_enclave : (size enclave : ℕ) (blocks : List Live) (subs who : ℕ) (at : Addr) (n : ℕ) → plain.access_refusal size enclave blocks subs who at n ≡ None → at.enclave ≡ enclave
own_enclave size enclave blocks subs who at n open_is = by_test (is_in_range size enclave subs at n)
    (λ v. is_in_range size enclave subs at n ≡ v → (if v then use_refusal who (find (has_sub (at.at / size)) blocks) else Some BadRange) ≡ None → at.enclave ≡ enclave)
    (λ _ is e. eqb-true at.enclave enclave (first_of_four (at.enclave == enclave) (nat_le 1 n) (nat_le (at.at % size + n) size) (nat_le (at.at + n) (size * subs)) is))
    (λ _ is e. cc) refl open_is

-- a place within the enclave, counted from its first
same_sub : (first len block s : ℕ) → is_in_run first len s ≡ true → block ≡ s - first → first + block ≡ s
same_sub first len block s inside e = grind (arith, nat_tests)

module _ (k : Plan) where
  -- what a write to the sub-page says: it is accepted, in the caller's enclave, and of that place
  pub record IsWrite (who : ℕ) (at : Addr) (reply : Reply) (s : ℕ) : Type 0 where
    pub accepted : is_accepted reply ≡ true
    pub at_home : is_sub_of k (enclave_of k who) s ≡ true
    pub place : at.at / sub_bytes k (enclave_of k who) ≡ s - first_sub k (enclave_of k who)

  pub is_write : (who : ℕ) (at : Addr) (bytes : List ℕ) (reply : Reply) (s : ℕ) → writes k who (Op (Write at bytes)) reply s ≡ true → IsWrite who at reply s
  is_write who at bytes reply s w =
      let home = enclave_of k who in
      let block = at.at / sub_bytes k home in
      let local = s - first_sub k home in
      let inner : is_accepted reply && block == local ≡ true = second_of (is_sub_of k home s) (is_accepted reply && block == local) w in
      record {
        accepted = first_of (is_accepted reply) (block == local) inner;
        at_home = first_of (is_sub_of k home s) (is_accepted reply && block == local) w;
        place = eqb-true block local (second_of (is_accepted reply) (block == local) inner);
      }

  -- where it is not refused, the sub-page is that of its address
  pub written_sub : (past : History) (who : ℕ) (at : Addr) (n : ℕ) (reply : Reply) (s : ℕ) → access_refusal k past who at n ≡ None → IsWrite who at reply s → sub_of k at ≡ s
  written_sub past who at n reply s open_is write =
      let home = enclave_of k who in
      let own : at.enclave ≡ home = own_enclave (sub_bytes k home) home (live k past home) (subs k home) who at n open_is in
      let same = same_sub (first_sub k home) (subs k home) (at.at / sub_bytes k home) s write.at_home write.place in
      subst (λ e. first_sub k e + at.at / sub_bytes k e ≡ s) (sym own) same

module _ (k : Plan) (x : Seals) where
  -- a write that is accepted was not worn
  pub unworn : (past : History) (e : Entry) (op : Calls) (s : ℕ) → CallStep k x past e op → writes k e.who (Op op) e.reply s ≡ true → is_worn k past s ≡ false
  unworn past e (Write at bytes) s step w =
      let write = is_write k e.who at bytes e.reply s w in
      let refusal = access_refusal k past e.who at (length bytes) in
      let h = write_accepted refusal (is_worn k past (sub_of k at)) (verdict k x past e.event e.blocks) (sub_of k at) e (access_refuses k past e.who at (length bytes)) step write.accepted in
      subst (λ (q : ℕ). is_worn k past q ≡ false) (written_sub k past e.who at (length bytes) e.reply s h.0 write) h.1
  unworn past e _ s step w = let none : false ≡ true = second_of (is_sub_of k (enclave_of k e.who) s) false w in cc

  -- one entry more
  can_seal_step : (past : History) (who : ℕ) (event : Event) (blocks : List (List ℕ)) (reply : Reply) → CoreStep k x past (entry who event blocks reply)
      → ((s : ℕ) → CanSeal k past s) → (s : ℕ) → CanSeal k (entry who event blocks reply ∷ past) s
  can_seal_step past who (Op op) blocks reply step h s = record {
    present = still_present (covers k who (Op op) reply past s) (writes k who (Op op) reply s) (is_present k past s) (is_dirty k past s) (h s).present;
    below = still_below (covers k who (Op op) reply past s) (writes k who (Op op) reply s) (is_present k past s) (is_dirty k past s) (version k past s) k.wear (h s).below (h s).most
        (unworn past (entry who (Op op) blocks reply) op s step.step);
    most = still_most (writes k who (Op op) reply s) (is_present k past s) (is_dirty k past s) (version k past s) k.wear (h s).present (h s).most
        (unworn past (entry who (Op op) blocks reply) op s step.step);
  }
  can_seal_step past who (Fill p f) blocks reply step h s = record {
    present = kept_present (is_accepted reply && (page_of k s == p)) (is_dirty k past s) (frame past (page_of k s)) f (h s).present;
    below = (h s).below;
    most = (h s).most;
  }
  can_seal_step past who (Evict p f) blocks reply step h s = record {
    present = evict_present (page_of k s == p) (is_dirty k past s) (frame past (page_of k s)) (h s).present;
    below = evict_below (page_of k s == p) (is_dirty k past s) (is_present k past s) (version k past s) k.wear (h s).below;
    most = evict_most (page_of k s == p) (is_dirty k past s) (is_present k past s) (version k past s) k.wear (h s).below (h s).most;
  }
  can_seal_step past who _ blocks reply step h s = record { present = (h s).present; below = (h s).below; most = (h s).most }

  -- it holds of each sub-page after a legal history
  pub can_seal : (h : History) → CoreRun k x h → (s : ℕ) → CanSeal k h s
  can_seal [] run s = record { present = λ e. cc; below = λ e. cc; most = omega arith }
  can_seal (e ∷ past) run s = can_seal_step past e.who e.event e.blocks e.reply run.0 (can_seal past run.1) s
