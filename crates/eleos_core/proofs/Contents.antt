-- The text of a sub-page, wherever it lies, and what an entry makes of it.
use Rattle.std.proofs.Common.{◌≡◌, ℕ, ◌+◌, ◌-◌, ◌==◌, ◌/◌, List, [], ◌∷◌, length, true, false, ◌&&◌, filter, Option, Some, None, is_some, if◌then◌else◌, refl, sym, ◌∙◌, subst, ap}
use Rattle.std.specs.List.{find}
use Rattle.std.proofs.lemmas.Bool.{eqb-true}
use Rattle.eleos_base.specs.declared.memory.Addr.{Addr}
use Rattle.eleos_base.specs.declared.memory.Op.{Op as Calls}
use Rattle.eleos_base.specs.declared.memory.Op.TheVariants.{Alloc, Free, Share, Read, Write}
use Rattle.eleos_base.specs.declared.memory.Reply.{Reply}
use Rattle.eleos_base.specs.declared.memory.Reply.TheVariants.{Done, BadRange}
use Rattle.eleos_base.specs.declared.plan.Plan.{Plan}
use Rattle.eleos_base.specs.Ties.{Has}
use Rattle.eleos_base.specs.Plain.{is_accepted, is_in_range, use_refusal, has_sub}
use Rattle.eleos_base.specs.Plans.{enclave_of, sub_bytes}
use Rattle.eleos_core.specs.declared.event.Entry.{Entry}
use Rattle.eleos_core.specs.declared.event.Event.{Event}
use Rattle.eleos_core.specs.declared.event.Event.TheVariants.{Op, Fill, Evict}
use Rattle.eleos_core.specs.Seals.{Seals, Opens}
use Rattle.eleos_base.specs.Places.{page_of, subs_of, sub_of, subs, first_sub, is_sub_of, blank_bytes}
use Rattle.eleos_core.specs.State.{History, entry, live, frame, is_present, is_dirty, is_sealed, version, covers, writes, fills, evicts, rewritten, places, block_for, opened, bytes, last, found}
use Rattle.eleos_core.specs.Legal.{passed, CallStep, EventStep, AreTrue, access_refusal, is_worn, verdict}
use Rattle.eleos_core.proofs.Tests.{by_test, first_of, second_of}
use Rattle.eleos_core.proofs.Replies.{access_refuses, write_accepted, by_blocks}
use Rattle.eleos_core.proofs.Addresses.{has-sub_of, at_home, sub_of-is, sub-again}
use Rattle.eleos_core.proofs.OneSubPage.{op_text, op_clean, evict_text, evict_clean, fill_text, fill_clean}
use Rattle.eleos_core.proofs.Passed.{block-true, has-filter, has-place}

-- an access that is not refused is in range
pub in_range : (k : Plan) (past : History) (who n : ℕ) (at : Addr) → access_refusal k past who at n ≡ None → is_in_range (sub_bytes k (enclave_of k who)) (enclave_of k who) (subs k (enclave_of k who)) at n ≡ true
in_range k past who n at =
    let e = enclave_of k who in
    let refusal = use_refusal who (find (has_sub (at.at / sub_bytes k e)) (live k past e)) in
    by_test (is_in_range (sub_bytes k e) e (subs k e) at n) (λ v. (if v then refusal else Some BadRange) ≡ None → v ≡ true) (λ _ not_refused. refl) (λ _ not_refused. cc)

module _ (k : Plan) (x : Seals) where
  -- what the last block opens to, or zeros where the sub-page is blank
  abbrev pub stored : History → ℕ → List ℕ
  stored past s = if is_sealed k past s then x.unseal s (version k past s) (last k x past s) else blank_bytes k

  -- the text of a sub-page, wherever it lies
  abbrev pub text : History → ℕ → List ℕ
  text past s = if is_present k past s then bytes k x past s else stored past s

  -- a clean sub-page in a frame is as it was sealed
  abbrev pub IsClean : History → Type 0
  IsClean past = (s : ℕ) → is_dirty k past s ≡ false → is_present k past s ≡ true → bytes k x past s ≡ stored past s

  -- the text after a call
  abbrev pub text_by : ℕ → Calls → Reply → History → ℕ → List ℕ
  text_by who op reply past s = if covers k who (Op op) reply past s then blank_bytes k else if writes k who (Op op) reply s then rewritten k who (Op op) (text past s) else text past s

  -- the block that an accepted write opened is the last one
  pub write_block : (past : History) (e : Entry) (op : Calls) (s : ℕ) → CallStep k x past e op → AreTrue k x past (places k (Op op) past) e.blocks → e.event ≡ Op op
      → writes k e.who (Op op) e.reply s ≡ true → is_present k past s ≡ false → is_sealed k past s ≡ true → block_for (places k (Op op) past) e.blocks s ≡ last k x past s
  write_block past e (Alloc n) s step a is w p g = let no : false ≡ true = second_of (is_sub_of k (enclave_of k e.who) s) false w in cc
  write_block past e (Free at) s step a is w p g = let no : false ≡ true = second_of (is_sub_of k (enclave_of k e.who) s) false w in cc
  write_block past e (Share at) s step a is w p g = let no : false ≡ true = second_of (is_sub_of k (enclave_of k e.who) s) false w in cc
  write_block past e (Read at n) s step a is w p g = let no : false ≡ true = second_of (is_sub_of k (enclave_of k e.who) s) false w in cc
  write_block past e (Write at new) s step a is w p g =
      let home = enclave_of k e.who in
      let local : ℕ = at.at / sub_bytes k home in
      let inside : is_sub_of k home s ≡ true = first_of (is_sub_of k home s) (is_accepted e.reply && local == s - first_sub k home) w in
      let it : is_accepted e.reply && local == s - first_sub k home ≡ true = second_of (is_sub_of k home s) (is_accepted e.reply && local == s - first_sub k home) w in
      let h = write_accepted (access_refusal k past e.who at (length new)) (is_worn k past (sub_of k at)) (verdict k x past e.event e.blocks) (sub_of k at) e
      (access_refuses k past e.who at (length new)) step (first_of (is_accepted e.reply) (local == s - first_sub k home) it) in
      let own = at_home k home (length new) at (in_range k past e.who (length new) at h.0) in
      let place : local ≡ s - first_sub k home = eqb-true local (s - first_sub k home) (second_of (is_accepted e.reply) (local == s - first_sub k home) it) in
      let i : sub_of k at ≡ s = sub_of-is k home at own ∙ (ap (λ (l : ℕ). first_sub k home + l) place ∙ sub-again k home s inside) in
      block-true k x past (places k (Op (Write at new)) past) e.blocks (subst (λ (v : Event). verdict k x past v e.blocks ≡ passed) is h.2) a s
      (has-place (is_sealed k past) (is_present k past (sub_of k at)) (sub_of k at) s i (ap (is_present k past) i ∙ p) g)

  -- what an accepted access finds is the text
  pub found-is : (past : History) (e : Entry) (s : ℕ) → places k e.event past ≡ (if is_present k past s then [] else filter (is_sealed k past) (s ∷ []))
      → AreTrue k x past (places k e.event past) e.blocks → verdict k x past e.event e.blocks ≡ passed → found k x e past s ≡ text past s
  found-is past e s is a j = by_test (is_present k past s) (λ v. (if v then bytes k x past s else opened k x e past s) ≡ (if v then bytes k x past s else stored past s))
      (λ _. refl)
      (λ p. by_test (is_sealed k past s)
      (λ v. (if v then x.unseal s (version k past s) (block_for (places k e.event past) e.blocks s) else blank_bytes k) ≡ (if v then x.unseal s (version k past s) (last k x past s) else blank_bytes k))
      (λ g. ap (x.unseal s (version k past s)) (block-true k x past (places k e.event past) e.blocks j a s (subst (Has s) (sym is) (has-place (is_sealed k past) (is_present k past s) s s refl p g))))
      (λ _. refl))

  module _ (opens : Opens x) where
    -- a call changes the texts that it covers or writes
    pub call-text : (past : History) (who : ℕ) (op : Calls) (blocks : List (List ℕ)) (reply : Reply) → CallStep k x past (entry who (Op op) blocks reply) op
        → AreTrue k x past (places k (Op op) past) blocks → (s : ℕ) → text (entry who (Op op) blocks reply ∷ past) s ≡ text_by who op reply past s
    call-text past who op blocks reply step a s =
        sym (op_text x opens (blank_bytes k) s (rewritten k who (Op op)) (covers k who (Op op) reply past s) (writes k who (Op op) reply s) (is_present k past s) (is_dirty k past s) (is_sealed k past s)
        (version k past s) (bytes k x past s) (last k x past s) (block_for (places k (Op op) past) blocks s) (write_block past (entry who (Op op) blocks reply) op s step a refl))

    -- after a call too, clean sub-pages in frames are as they were sealed
    pub call-clean : (past : History) (who : ℕ) (op : Calls) (blocks : List (List ℕ)) (reply : Reply) → IsClean past → IsClean (entry who (Op op) blocks reply ∷ past)
    call-clean past who op blocks reply clean s =
        op_clean x opens (blank_bytes k) s (rewritten k who (Op op)) (covers k who (Op op) reply past s) (writes k who (Op op) reply s) (is_present k past s) (is_dirty k past s) (is_sealed k past s)
        (version k past s) (bytes k x past s) (last k x past s) (rewritten k who (Op op) (opened k x (entry who (Op op) blocks reply) past s)) (clean s)

    -- the block that an accepted fill opened is the last one
    pub fill_block : (past : History) (who p f : ℕ) (blocks : List (List ℕ)) (reply : Reply) → EventStep k x past (entry who (Fill p f) blocks reply) (Fill p f) → AreTrue k x past (places k (Fill p f) past) blocks
        → (s : ℕ) → fills k (Fill p f) reply s ≡ true → is_sealed k past s ≡ true → block_for (places k (Fill p f) past) blocks s ≡ last k x past s
    fill_block past who p f blocks reply step a s v g =
        block-true k x past (places k (Fill p f) past) blocks (by_blocks (verdict k x past (Fill p f) blocks) Done reply step.1 (first_of (is_accepted reply) (page_of k s == p) v)).0 a s
        (has-filter (is_sealed k past) (subs_of k p) s (has-sub_of k s p (eqb-true (page_of k s) p (second_of (is_accepted reply) (page_of k s == p) v))) g)

    -- a fill and an evict change no text
    pub fill-text : (past : History) (who p f : ℕ) (blocks : List (List ℕ)) (reply : Reply) → EventStep k x past (entry who (Fill p f) blocks reply) (Fill p f)
        → AreTrue k x past (places k (Fill p f) past) blocks → (s : ℕ) → text past s ≡ text (entry who (Fill p f) blocks reply ∷ past) s
    fill-text past who p f blocks reply step a s =
        fill_text x opens (blank_bytes k) s (λ t. t) (fills k (Fill p f) reply s) (is_sealed k past s) f (frame past (page_of k s))
        (version k past s) (bytes k x past s) (last k x past s) (block_for (places k (Fill p f) past) blocks s)
        (λ v. ap (frame past) (eqb-true (page_of k s) p (second_of (is_accepted reply) (page_of k s == p) v)) ∙ step.0.absent) (fill_block past who p f blocks reply step a s)

    -- so they are after a fill whose blocks are the ones last sealed
    pub fill-clean : (past : History) (who p f : ℕ) (blocks : List (List ℕ)) (reply : Reply) → EventStep k x past (entry who (Fill p f) blocks reply) (Fill p f)
        → AreTrue k x past (places k (Fill p f) past) blocks → IsClean past → IsClean (entry who (Fill p f) blocks reply ∷ past)
    fill-clean past who p f blocks reply step a clean s =
        fill_clean x opens (blank_bytes k) s (λ t. t) (fills k (Fill p f) reply s) (is_dirty k past s) (is_sealed k past s) f (frame past (page_of k s))
        (version k past s) (bytes k x past s) (last k x past s) (block_for (places k (Fill p f) past) blocks s)
        (fill_block past who p f blocks reply step a s) (clean s)

    -- an evict changes no text: what the frame had is what opens from the block afterwards
    pub evict-text : (past : History) (who p f : ℕ) (blocks : List (List ℕ)) (reply : Reply) → EventStep k x past (entry who (Evict p f) blocks reply) (Evict p f)
        → IsClean past → (s : ℕ) → text past s ≡ text (entry who (Evict p f) blocks reply ∷ past) s
    evict-text past who p f blocks reply step clean s =
        evict_text x opens (blank_bytes k) s (λ t. t) (evicts k (Evict p f) s) (is_dirty k past s) (is_sealed k past s) (frame past (page_of k s))
        (version k past s) (bytes k x past s) (last k x past s) (rewritten k who (Evict p f) (opened k x (entry who (Evict p f) blocks reply) past s))
        (λ v. ap (λ (q : ℕ). is_some (frame past q)) (eqb-true (page_of k s) p v) ∙ ap (λ (u : Option ℕ). is_some u) step.0.present) (clean s)

    -- and after an evict clean sub-pages in frames are as they were sealed
    pub evict-clean : (past : History) (who p f : ℕ) (blocks : List (List ℕ)) (reply : Reply) → IsClean past → IsClean (entry who (Evict p f) blocks reply ∷ past)
    evict-clean past who p f blocks reply clean s =
        evict_clean x opens (blank_bytes k) s (λ t. t) (evicts k (Evict p f) s) (is_dirty k past s) (is_sealed k past s) (frame past (page_of k s))
        (version k past s) (bytes k x past s) (last k x past s) (rewritten k who (Evict p f) (opened k x (entry who (Evict p f) blocks reply) past s))
        (clean s)
