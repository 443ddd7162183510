-- The reply of a legal entry is one of plain memory.
use Rattle.std.proofs.Common.{◌≡◌, ℕ, ◌/◌, ◌<◌, ◌⊎◌, List, [], length, Bool, true, false, ◌&&◌, Option, Some, None, MatchOption, MatchBool, unwrap_or, get_or, refl, sym, ◌∙◌, subst, ap, inl, inr}
use Rattle.eleos_base.specs.declared.memory.Addr.{Addr}
use Rattle.eleos_base.specs.declared.memory.Op.{Op as Calls}
use Rattle.eleos_base.specs.declared.memory.Op.TheVariants.{Alloc, Free, Share, Read, Write}
use Rattle.eleos_base.specs.declared.memory.Reply.{Reply}
use Rattle.eleos_base.specs.declared.memory.Reply.TheVariants.{Done, Text, Worn, Tampered}
use Rattle.eleos_base.specs.declared.plan.Plan.{Plan}
use Rattle.eleos_base.specs.Plain as plain
use Rattle.eleos_base.specs.Plain.{EnclaveMemory, MayReply, is_accepted, is_read_failure, is_write_failure, answer, may_fail, bytes_of}
use Rattle.eleos_base.specs.Plans.{enclave_of, sub_bytes}
use Rattle.eleos_core.specs.declared.event.Entry.{Entry}
use Rattle.eleos_core.specs.declared.event.Event.TheVariants.{Op}
use Rattle.eleos_core.specs.declared.event.Wanted.TheVariants.{Op as ACall}
use Rattle.eleos_core.specs.Legal.{Judged, passed, failed, unfit, ByBlocks, IsPlainly, NeedsFrame, CallStep, AreTrue, access_refusal, wanted_refusal, is_worn, verdict}
use Rattle.eleos_base.specs.Places.{sub_of}
use Rattle.eleos_core.specs.Seals.{Seals}
use Rattle.eleos_core.specs.State.{History, entry, found, live, places}
use Rattle.eleos_core.proofs.AsPlain.{as_plain, enclave_memory, length-texts, memory-is, texts-at}
use Rattle.eleos_core.proofs.Contents.{found-is, in_range, text}
use Rattle.eleos_core.proofs.Addresses.{at_home, local-within, sub_of-is}

-- the reply to an access with this refusal: the refusal, else the good one, or one of the machine's failures
abbrev IsReply : Option Reply → Reply → (Reply → Bool) → Reply → Type 0
IsReply refusal good is_failure reply = (reply ≡ unwrap_or refusal good) ⊎ (is_accepted (unwrap_or refusal good) && is_failure reply ≡ true)

by_judged : (j : Judged) (good good' reply : Reply) (is_failure : Reply → Bool) → (j ≡ passed → good ≡ good') → ((s : ℕ) → is_failure (Tampered s) ≡ true)
    → ByBlocks j good reply → (reply ≡ good') ⊎ (is_failure reply ≡ true)
by_judged passed good good' reply is_failure same fails e = inl (e ∙ same refl)
by_judged (failed s) good good' reply is_failure same fails e = inr (ap is_failure e ∙ fails s)
by_judged unfit good good' reply is_failure same fails e = absurd e

read_reply : (o : Option Reply) (j : Judged) (bytes bytes' : List ℕ) (e : Entry) → (o ≡ None → j ≡ passed → bytes ≡ bytes') → MatchOption o (ByBlocks j (Text bytes) e.reply) (IsPlainly e)
    → IsReply o (Text bytes') is_read_failure e.reply
read_reply None j bytes bytes' e same step = by_judged j (Text bytes) (Text bytes') e.reply is_read_failure (λ all. ap Text (same refl all)) (λ s. refl) step
read_reply (Some refusal) j bytes bytes' e same step = inl step.reply_is

write_reply : (o : Option Reply) (w : Bool) (j : Judged) (s : ℕ) (e : Entry) → MatchOption o (MatchBool w (IsPlainly e (Worn s)) (ByBlocks j Done e.reply)) (IsPlainly e)
    → IsReply o Done is_write_failure e.reply
write_reply None true j s e step = inr (ap is_write_failure step.reply_is)
write_reply None false j s e step = by_judged j Done Done e.reply is_write_failure (λ _. refl) (λ s. refl) step
write_reply (Some refusal) w j s e step = inl step.reply_is

module _ (k : Plan) (x : Seals) where
  -- what plain memory lets an enclave's memory answer
  abbrev MayAnswer : EnclaveMemory → ℕ → Calls → Reply → Type 0
  MayAnswer m who op reply = let home = enclave_of k who in (reply ≡ answer (sub_bytes k home) home m who op) ⊎ (may_fail (sub_bytes k home) home m who op reply ≡ true)

  may_reply : (past : History) (who : ℕ) (op : Calls) (reply : Reply) → enclave_of k who < length k.enclaves
      → MayAnswer (enclave_memory k x past (enclave_of k who)) who op reply → MayReply k (as_plain k x past) who op reply
  may_reply past who op reply within allowed = subst (λ (m : EnclaveMemory). MayAnswer m who op reply) (sym (memory-is k x past (enclave_of k who) within)) allowed

  -- its sub-pages are the enclave's, so it refuses the same accesses
  same_refusal : (past : History) (who n : ℕ) (at : Addr)
      → let home = enclave_of k who in plain.access_refusal (sub_bytes k home) home (live k past home) (length (enclave_memory k x past home).texts) who at n ≡ access_refusal k past who at n
  same_refusal past who n at = let home = enclave_of k who in ap (λ (count : ℕ). plain.access_refusal (sub_bytes k home) home (live k past home) count who at n) (length-texts k x past home)

  -- the bytes at an address
  abbrev bytes_at : History → ℕ → ℕ → Addr → List ℕ
  bytes_at past who n at = let home = enclave_of k who in bytes_of (sub_bytes k home) home at.at n (get_or (enclave_memory k x past home).texts (at.at / sub_bytes k home) [])

  -- the bytes that an accepted read finds are the memory's
  read_bytes : (past : History) (who n : ℕ) (at : Addr) (blocks : List (List ℕ)) (reply : Reply) → AreTrue k x past (places k (Op (Read at n)) past) blocks
      → access_refusal k past who at n ≡ None → verdict k x past (Op (Read at n)) blocks ≡ passed
      → bytes_of (sub_bytes k at.enclave) at.enclave at.at n (found k x (entry who (Op (Read at n)) blocks reply) past (sub_of k at))
      ≡ bytes_at past who n at
  read_bytes past who n at blocks reply a not_refused all =
      let home = enclave_of k who in
      let e : Entry = entry who (Op (Read at n)) blocks reply in
      let inside = in_range k past who n at not_refused in
      let own : at.enclave ≡ home = at_home k home n at inside in
      let text-is = found-is k x past e (sub_of k at) refl a all
      ∙ (ap (text k x past) (sub_of-is k home at own) ∙ sym (texts-at k x past home (at.at / sub_bytes k home) (local-within k home n at inside))) in
      ap (λ (d : ℕ). bytes_of (sub_bytes k d) d at.at n (found k x e past (sub_of k at))) own ∙ ap (bytes_of (sub_bytes k home) home at.at n) text-is

  -- the reply of a call is one of plain memory
  call_reply : (past : History) (who : ℕ) (op : Calls) (blocks : List (List ℕ)) (reply : Reply) → CallStep k x past (entry who (Op op) blocks reply) op
      → AreTrue k x past (places k (Op op) past) blocks → MayAnswer (enclave_memory k x past (enclave_of k who)) who op reply
  call_reply past who (Alloc n) blocks reply step a =
      let home = enclave_of k who in
      inl (step.reply_is ∙ ap (λ (count : ℕ). plain.alloc_reply (sub_bytes k home) home (live k past home) count n) (sym (length-texts k x past home)))
  call_reply past who (Free at) blocks reply step a = inl step.reply_is
  call_reply past who (Share at) blocks reply step a = inl step.reply_is
  call_reply past who (Read at n) blocks reply step a =
      let e : Entry = entry who (Op (Read at n)) blocks reply in
      subst (λ (o : Option Reply). IsReply o (Text (bytes_at past who n at)) is_read_failure reply) (sym (same_refusal past who n at))
      (read_reply (access_refusal k past who at n) (verdict k x past e.event blocks) (bytes_of (sub_bytes k at.enclave) at.enclave at.at n (found k x e past (sub_of k at))) (bytes_at past who n at) e
      (read_bytes past who n at blocks reply a) step)
  call_reply past who (Write at new) blocks reply step a =
      let e : Entry = entry who (Op (Write at new)) blocks reply in
      subst (λ (o : Option Reply). IsReply o Done is_write_failure reply) (sym (same_refusal past who (length new) at))
      (write_reply (access_refusal k past who at (length new)) (is_worn k past (sub_of k at)) (verdict k x past e.event blocks) (sub_of k at) e step)

  -- and so is one that says why what was wanted could not be had
  wanted_reply : (past : History) (who : ℕ) (op : Calls) (reply : Reply) → NeedsFrame (ACall op) → wanted_refusal k past who (ACall op) ≡ None
      → is_read_failure reply ≡ true → is_write_failure reply ≡ true → MayAnswer (enclave_memory k x past (enclave_of k who)) who op reply
  wanted_reply past who (Alloc n) reply needs not_refused r w = absurd needs
  wanted_reply past who (Free at) reply needs not_refused r w = absurd needs
  wanted_reply past who (Share at) reply needs not_refused r w = absurd needs
  wanted_reply past who (Read at n) reply needs not_refused r w =
      subst (λ (o : Option Reply). IsReply o (Text (bytes_at past who n at)) is_read_failure reply) (sym (same_refusal past who n at ∙ not_refused)) (inr r)
  wanted_reply past who (Write at new) reply needs not_refused r w =
      subst (λ (o : Option Reply). IsReply o Done is_write_failure reply) (sym (same_refusal past who (length new) at ∙ not_refused)) (inr w)

  -- so each call of a caller of the plan may get its reply
  pub may-get : (past : History) (who : ℕ) (op : Calls) (blocks : List (List ℕ)) (reply : Reply) → enclave_of k who < length k.enclaves
      → CallStep k x past (entry who (Op op) blocks reply) op → AreTrue k x past (places k (Op op) past) blocks → MayReply k (as_plain k x past) who op reply
  may-get past who op blocks reply within step a = may_reply past who op reply within (call_reply past who op blocks reply step a)

  -- a reply by which an access fails for want of a frame or for a bad block is one that plain memory may give
  pub may-fail : (past : History) (who : ℕ) (op : Calls) (reply : Reply) → enclave_of k who < length k.enclaves → NeedsFrame (ACall op) → wanted_refusal k past who (ACall op) ≡ None
      → is_read_failure reply ≡ true → is_write_failure reply ≡ true → MayReply k (as_plain k x past) who op reply
  may-fail past who op reply within needs not_refused r w = may_reply past who op reply within (wanted_reply past who op reply needs not_refused r w)
