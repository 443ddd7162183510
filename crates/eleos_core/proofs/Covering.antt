-- The block of a call, by its part in the page and by the history.
use Rattle.std.proofs.Common.{◌≡◌, ℕ, ◌+◌, ◌-◌, ◌/◌, ◌<◌, ◌==◌, ◌&&◌, List, ◌∷◌, length, map, filter, Bool, true, false, not, nat_le, Option, Some, None, option_map, unwrap_or, if◌then◌else◌, refl, sym, ◌∙◌, subst, ap, arith}
use Rattle.std.specs.List.{find, list_all}
use Rattle.std.proofs.lemmas.Bool.{eqb-true}
use Rattle.std.proofs.lemmas.Bool.Decides.{nat_tests}
use Rattle.eleos_base.specs.declared.memory.Addr.{Addr}
use Rattle.eleos_base.specs.declared.memory.Live.{Live}
use Rattle.eleos_base.specs.declared.memory.Op.{Op as Calls}
use Rattle.eleos_base.specs.declared.memory.Op.TheVariants.{Alloc, Free, Share, Read, Write}
use Rattle.eleos_base.specs.declared.memory.Reply.{Reply}
use Rattle.eleos_base.specs.declared.plan.Plan.{Plan}
use Rattle.eleos_base.specs.Plain.{blocks_after, got, has_sub, is_accepted, is_apart, is_in, is_in_run, shared_at, starts_at, subs_for, with_block}
use Rattle.eleos_base.specs.Plans.{IsGood, enclave_of, sub_bytes}
use Rattle.eleos_core.specs.declared.event.Event.{Event}
use Rattle.eleos_core.specs.declared.event.Event.TheVariants.{Op}
use Rattle.eleos_core.specs.Legal.{CoreStep}
use Rattle.eleos_core.specs.Order.{AreInOrder}
use Rattle.eleos_core.specs.PartLaws.{IsLenOf}
use Rattle.eleos_core.specs.Parts.{block_by, block_in, home_of_sub, is_in_block, is_zeroed}
use Rattle.eleos_base.specs.Places.{all_pages, first_sub, is_sub_of, page_of, subs}
use Rattle.eleos_core.specs.Seals.{Seals}
use Rattle.eleos_core.specs.State.{History, covers, entry, live}
use Rattle.eleos_core.proofs.InOrder.{found-le, is_free_run-le}
use Rattle.eleos_core.proofs.Lives.{false_of, find_allotted, find_freed, find_shared, found_passes, start_is}
use Rattle.eleos_core.proofs.Numbers.{caller_home, home_sub_is, no_run, run_shift, some_bytes, sub_by_home}
use Rattle.eleos_core.proofs.Ordered.{alloc_accepted, block_accepted}
use Rattle.eleos_core.proofs.Tests.{by_test, second_of}

and_false : (v : Bool) → false ≡ (v && false)
and_false true = refl
and_false false = refl

module _ (k : Plan) (x : Seals) (past : History) where
  -- each enclave's blocks are in order
  abbrev pub InOrder : Type 0
  InOrder = (e : ℕ) → e < length k.enclaves → AreInOrder 0 (subs k e) (live k past e)

  -- a sub-page of the caller's enclave, counted from the enclave's first, lies in the block of the call
  abbrev inside : ℕ → Calls → Reply → ℕ → Bool
  inside who (Alloc n) reply r = is_accepted reply && is_in_run (got reply / sub_bytes k (enclave_of k who)) (subs_for (sub_bytes k (enclave_of k who)) n) r
  inside who (Free at) reply r = is_accepted reply && is_in r (find (starts_at (sub_bytes k (enclave_of k who)) (enclave_of k who) at) (live k past (enclave_of k who)))
  inside who (Share at) reply r = is_accepted reply && is_in r (find (starts_at (sub_bytes k (enclave_of k who)) (enclave_of k who) at) (live k past (enclave_of k who)))
  inside who (Read at n) reply r = false
  inside who (Write at new) reply r = false

  -- the block that starts at an address, where it is found
  found_run : (home : ℕ) (at : Addr) (len s : ℕ) (b : Live) → AreInOrder 0 (subs k home) (live k past home) → find (starts_at (sub_bytes k home) home at) (live k past home) ≡ Some b
      → len ≡ unwrap_or (option_map (λ (block : Live). block.len) (find (starts_at (sub_bytes k home) home at) (live k past home))) 0
      → is_in_run (first_sub k home + at.at / sub_bytes k home) len s ≡ (is_sub_of k home s && is_in (s - first_sub k home) (find (starts_at (sub_bytes k home) home at) (live k past home)))
  found_run home at len s b order here is_len =
      let start : at.at / sub_bytes k home ≡ b.start = start_is (sub_bytes k home) home (some_bytes k home) at b (found_passes (starts_at (sub_bytes k home) home at) (live k past home) b here) in
      let long : len ≡ b.len = is_len ∙ ap (λ (o : Option Live). unwrap_or (option_map (λ (block : Live). block.len) o) 0) here in
      ap (λ (i : ℕ). is_in_run (first_sub k home + i) len s) start ∙ (ap (λ (n : ℕ). is_in_run (first_sub k home + b.start) n s) long
      ∙ (run_shift (first_sub k home) (subs k home) b.start b.len s (found-le (starts_at (sub_bytes k home) home at) (live k past home) b 0 (subs k home) order here)
      ∙ ap (λ (o : Option Live). is_sub_of k home s && is_in (s - first_sub k home) o) (sym here)))

  -- the block by the parts is that by the history
  in_block_is : (who : ℕ) (op : Calls) (blocks : List (List ℕ)) (reply : Reply) (len s : ℕ) → CoreStep k x past (entry who (Op op) blocks reply) → IsLenOf k past who (Op op) len
      → AreInOrder 0 (subs k (enclave_of k who)) (live k past (enclave_of k who))
      → is_in_block k who (Op op) reply len s ≡ (is_sub_of k (enclave_of k who) s && inside who op reply (s - first_sub k (enclave_of k who)))
  in_block_is who (Alloc n) blocks reply len s step is_len order =
      let home : ℕ = enclave_of k who in
      let size : ℕ = sub_bytes k home in
      let start : ℕ = got reply / size in
      by_test (is_accepted reply) (λ v. is_accepted reply ≡ v → is_in_run (first_sub k home + start) (if v then subs_for size n else 0) s ≡ (is_sub_of k home s && (v && is_in_run start (subs_for size n) (s - first_sub k home))))
      (λ _ yes_is. let allotted = alloc_accepted size home (some_bytes k home) (live k past home) (subs k home) n reply step.step.reply_is yes_is in
      run_shift (first_sub k home) (subs k home) start (subs_for size n) s (is_free_run-le (live k past home) (subs k home) (subs_for size n) start allotted.free))
      (λ _ no_is. no_run (first_sub k home + start) s ∙ and_false (is_sub_of k home s)) refl
  in_block_is who (Free at) blocks reply len s step is_len order =
      let home : ℕ = enclave_of k who in
      by_test (is_accepted reply) (λ v. is_accepted reply ≡ v → is_in_run (first_sub k home + at.at / sub_bytes k home) (if v then len else 0) s
      ≡ (is_sub_of k home s && (v && is_in (s - first_sub k home) (find (starts_at (sub_bytes k home) home at) (live k past home)))))
      (λ _ yes_is. let here = block_accepted (sub_bytes k home) home (live k past home) who at reply step.step.reply_is yes_is in found_run home at len s here.0 order here.1 is_len)
      (λ _ no_is. no_run (first_sub k home + at.at / sub_bytes k home) s ∙ and_false (is_sub_of k home s)) refl
  in_block_is who (Share at) blocks reply len s step is_len order =
      let home : ℕ = enclave_of k who in
      by_test (is_accepted reply) (λ v. is_accepted reply ≡ v → is_in_run (first_sub k home + at.at / sub_bytes k home) (if v then len else 0) s
      ≡ (is_sub_of k home s && (v && is_in (s - first_sub k home) (find (starts_at (sub_bytes k home) home at) (live k past home)))))
      (λ _ yes_is. let here = block_accepted (sub_bytes k home) home (live k past home) who at reply step.step.reply_is yes_is in found_run home at len s here.0 order here.1 is_len)
      (λ _ no_is. no_run (first_sub k home + at.at / sub_bytes k home) s ∙ and_false (is_sub_of k home s)) refl
  in_block_is who (Read at n) blocks reply len s step is_len order = no_run 0 s ∙ and_false (is_sub_of k (enclave_of k who) s)
  in_block_is who (Write at new) blocks reply len s step is_len order = no_run 0 s ∙ and_false (is_sub_of k (enclave_of k who) s)

  -- and what is zeroed is what is covered
  call_zeroes : (who : ℕ) (op : Calls) (blocks : List (List ℕ)) (reply : Reply) (len s : ℕ) → CoreStep k x past (entry who (Op op) blocks reply) → IsLenOf k past who (Op op) len
      → AreInOrder 0 (subs k (enclave_of k who)) (live k past (enclave_of k who)) → is_zeroed k who (Op op) reply len s ≡ covers k who (Op op) reply past s
  call_zeroes who (Alloc n) blocks reply len s step is_len order = in_block_is who (Alloc n) blocks reply len s step is_len order
  call_zeroes who (Free at) blocks reply len s step is_len order = in_block_is who (Free at) blocks reply len s step is_len order
  call_zeroes who (Share at) blocks reply len s step is_len order = and_false (is_sub_of k (enclave_of k who) s)
  call_zeroes who (Read at n) blocks reply len s step is_len order = in_block_is who (Read at n) blocks reply len s step is_len order
  call_zeroes who (Write at new) blocks reply len s step is_len order = in_block_is who (Write at new) blocks reply len s step is_len order

  -- the block of a sub-page of the caller's enclave after the call
  call_block : (who : ℕ) (op : Calls) (blocks : List (List ℕ)) (reply : Reply) (r : ℕ) → CoreStep k x past (entry who (Op op) blocks reply) → AreInOrder 0 (subs k (enclave_of k who)) (live k past (enclave_of k who))
      → (if inside who op reply r then block_by k who (Op op) reply (find (has_sub r) (live k past (enclave_of k who))) else find (has_sub r) (live k past (enclave_of k who)))
      ≡ find (has_sub r) (blocks_after (sub_bytes k (enclave_of k who)) (enclave_of k who) who op reply (live k past (enclave_of k who)))
  call_block who (Alloc n) blocks reply r step order =
      let home : ℕ = enclave_of k who in
      let size : ℕ = sub_bytes k home in
      let bs : List Live = live k past home in
      let new : Live = record { start = got reply / size; len = subs_for size n; owner = who; is_shared = false } in
      by_test (is_accepted reply) (λ v. is_accepted reply ≡ v → (if v && has_sub r new then Some new else find (has_sub r) bs) ≡ find (has_sub r) (if v then with_block new bs else bs))
      (λ _ yes_is. let allotted = alloc_accepted size home (some_bytes k home) bs (subs k home) n reply step.step.reply_is yes_is in
      find_allotted new bs r (second_of (nat_le (new.start + new.len) (subs k home)) (list_all (is_apart new.start new.len) bs) allotted.free))
      (λ _ no_is. refl) refl
  call_block who (Free at) blocks reply r step order =
      let home : ℕ = enclave_of k who in
      let size : ℕ = sub_bytes k home in
      let bs : List Live = live k past home in
      by_test (is_accepted reply) (λ v. is_accepted reply ≡ v → (if v && is_in r (find (starts_at size home at) bs) then None else find (has_sub r) bs) ≡ find (has_sub r) (if v then filter (λ block. not (starts_at size home at block)) bs else bs))
      (λ _ yes_is. let here = block_accepted size home bs who at reply step.step.reply_is yes_is in
      ap (λ (o : Option Live). if is_in r o then None else find (has_sub r) bs) here.1 ∙ find_freed size home (some_bytes k home) at bs here.0 0 (subs k home) r order here.1)
      (λ _ no_is. refl) refl
  call_block who (Share at) blocks reply r step order =
      let home : ℕ = enclave_of k who in
      let size : ℕ = sub_bytes k home in
      let bs : List Live = live k past home in
      let shared : Option Live → Option Live = option_map (λ (block : Live). record block { is_shared = true }) in
      by_test (is_accepted reply) (λ v. is_accepted reply ≡ v → (if v && is_in r (find (starts_at size home at) bs) then shared (find (has_sub r) bs) else find (has_sub r) bs) ≡ find (has_sub r) (if v then map (shared_at size home at) bs else bs))
      (λ _ yes_is. let here = block_accepted size home bs who at reply step.step.reply_is yes_is in
      ap (λ (o : Option Live). if is_in r o then shared (find (has_sub r) bs) else find (has_sub r) bs) here.1 ∙ find_shared size home (some_bytes k home) at bs here.0 0 (subs k home) r order here.1)
      (λ _ no_is. refl) refl
  call_block who (Read at n) blocks reply r step order = refl
  call_block who (Write at new) blocks reply r step order = refl

  -- an entry zeroes what it covers
  pub zeroes : IsGood k → InOrder → (who : ℕ) (event : Event) (blocks : List (List ℕ)) (reply : Reply) (len s : ℕ) → CoreStep k x past (entry who event blocks reply) → IsLenOf k past who event len
      → is_zeroed k who event reply len s ≡ covers k who event reply past s
  zeroes good order who (Op op) blocks reply len s step is_len = call_zeroes who op blocks reply len s step is_len (order (enclave_of k who) (caller_home k good who step.within))
  zeroes good order who _ blocks reply len s step is_len = refl

  -- the block of a sub-page of the machine after an entry
  pub block_after : IsGood k → InOrder → (who : ℕ) (event : Event) (blocks : List (List ℕ)) (reply : Reply) (len s : ℕ) → CoreStep k x past (entry who event blocks reply) → IsLenOf k past who event len → page_of k s < all_pages k
      → (if is_in_block k who event reply len s then block_by k who event reply (block_in k (home_of_sub k s) (live k past (home_of_sub k s)) s) else block_in k (home_of_sub k s) (live k past (home_of_sub k s)) s)
      ≡ block_in k (home_of_sub k s) (live k (entry who event blocks reply ∷ past) (home_of_sub k s)) s
  block_after good order who (Op op) blocks reply len s step is_len exists =
      let home : ℕ = enclave_of k who in
      let h : ℕ = home_of_sub k s in
      let ordered = order home (caller_home k good who step.within) in
      let in_block = in_block_is who op blocks reply len s step is_len ordered in
      let P : Bool → ℕ → Type 0 = λ v q. (if v then block_by k who (Op op) reply (block_in k q (live k past q) s) else block_in k q (live k past q) s) ≡ block_in k q (blocks_after (sub_bytes k q) q who op reply (live k past q)) s in
      by_test (h == home) (λ v. h == home ≡ v → (if is_in_block k who (Op op) reply len s then block_by k who (Op op) reply (block_in k h (live k past h) s) else block_in k h (live k past h) s)
      ≡ block_in k h (if v then blocks_after (sub_bytes k h) h who op reply (live k past h) else live k past h) s)
      (λ _ is. let same : h ≡ home = eqb-true h home is in
      let here : is_sub_of k home s ≡ true = sub_by_home k home s exists same in
      let inside_is : is_in_block k who (Op op) reply len s ≡ inside who op reply (s - first_sub k home) = in_block ∙ ap (λ v. v && inside who op reply (s - first_sub k home)) here in
      subst (P (is_in_block k who (Op op) reply len s)) (sym same) (subst (λ v. P v home) (sym inside_is) (call_block who op blocks reply (s - first_sub k home) step ordered)))
      (λ _ is. let away : is_sub_of k home s ≡ false = false_of (is_sub_of k home s) (λ here. let same : h ≡ home = home_sub_is k home s here in let z : (h == home) ≡ true = grind (arith, nat_tests) in let y : true ≡ false = sym z ∙ is in cc) in
      ap (λ v. if v then block_by k who (Op op) reply (block_in k h (live k past h) s) else block_in k h (live k past h) s) (in_block ∙ ap (λ v. v && inside who op reply (s - first_sub k home)) away)) refl
  block_after good order who _ blocks reply len s step is_len exists = refl
