-- In a sound history each caller reads in its private blocks what its own calls have made there; and the two laws of private memory.
use Rattle.std.proofs.Common.{◌≡◌, ◌≢◌, ℕ, zero, suc, ◌+◌, ◌*◌, ◌/◌, ◌%◌, ◌<◌, ◌≤◌, ◌==◌, ◌&&◌, List, [], ◌∷◌, ◌++◌, drop, length, map, take, true, false, None, Some, get_or, slice_index_or, if◌then◌else◌, refl, sym, ◌∙◌, ap, subst, arith, length-drop, length-take}
use Rattle.std.specs.List.{find, range_with_len}
use Rattle.std.proofs.lemmas.Bool.{eqb-false, eqb-true}
use Rattle.std.proofs.lemmas.Bool.Decides.{nat_tests}
use Rattle.std.proofs.lemmas.List.{get_or-drop, get_or-take, same_lists}
use Rattle.std.proofs.lemmas.List.FromFn.{get_or-map-range_with_len, length-map-range_with_len}
use Rattle.eleos_base.specs.declared.memory.Addr.{Addr}
use Rattle.eleos_base.specs.declared.memory.Op.{Op as Calls}
use Rattle.eleos_base.specs.declared.memory.Op.TheVariants.{Alloc, Free, Share, Read, Write}
use Rattle.eleos_base.specs.declared.memory.Reply.{Reply}
use Rattle.eleos_base.specs.declared.memory.Reply.TheVariants.{BadRange, Done, Text}
use Rattle.eleos_base.specs.declared.plan.Plan.{Plan}
use Rattle.eleos_base.specs.Own.{AreTrueFrom, IsAmong, IsTrueRead, IsTrueReply, OwnBlock, Private, Said, after_call, after_calls, after_write, nothing, text_at}
use Rattle.eleos_base.specs.Places.{first_sub, sub_of, subs}
use Rattle.eleos_base.specs.Plain.{Call, alloc_reply, block_reply, bytes_of, has_sub, is_accepted, is_in_range, rewritten, text_after, use_refusal}
use Rattle.eleos_base.specs.Plans.{IsCaller, IsGood, enclave_of}
use Rattle.eleos_core.specs.declared.event.Entry.{Entry}
use Rattle.eleos_core.specs.declared.event.Event.{Event}
use Rattle.eleos_core.specs.declared.event.Event.TheVariants.{Op, Fill, Evict, Starved, Spoiled}
use Rattle.eleos_core.specs.declared.event.Wanted.{Wanted}
use Rattle.eleos_core.specs.declared.event.Wanted.TheVariants.{Link as ALink, Op as ACall}
use Rattle.eleos_core.specs.Laws.{OfEveryRun}
use Rattle.eleos_core.specs.Legal.{AreTrue, CallStep, CoreRun, CoreStep, NeedsFrame, Sound, access_refusal, is_worn, verdict}
use Rattle.eleos_core.specs.Order.{AreInOrder}
use Rattle.eleos_core.specs.OwnLaws.{AreBacked, OwnBlocksLive, ReadsPrivate, calls_by, opening_own, own_after}
use Rattle.eleos_core.specs.Seals.{Seals, seals_by}
use Rattle.eleos_core.specs.State.{History, call, call_of, call_wanted, calls, entry, found, live, places}
use Rattle.eleos_core.proofs.Addresses.{at_home, sub_of-is}
use Rattle.eleos_core.proofs.AsPlain.{text_in, text_other, text_own}
use Rattle.eleos_core.proofs.BlockSizes.{are_sized, text_size}
use Rattle.eleos_core.proofs.Contents.{call-text, evict-text, fill-text, found-is, in_range, text}
use Rattle.eleos_core.proofs.Ordered.{in_order, none_empty}
use Rattle.eleos_core.proofs.OwnBlocks.{AllHeld, all_held, backed, calls_by-append, own_after-more, true_not_false}
use Rattle.eleos_core.proofs.OwnBytes.{Agree, byte_of-zeros, ends_within, other_alloc_bytes, other_free_bytes, other_write_bytes, own_alloc_bytes, own_free_bytes, own_share_bytes, own_write_bytes}
use Rattle.eleos_core.proofs.OwnParts.{IsPartOf, part_calls, part_true}
use Rattle.eleos_core.proofs.Replies.{access_refuses, read_accepted, write_accepted}
use Rattle.eleos_core.proofs.Runs.{home-within, runs-as}
use Rattle.eleos_core.proofs.Seals.{seals-open}
use Rattle.eleos_core.proofs.Tests.{by_test}

-- a write that was refused leaves private memory
not_written : (at : Addr) (bytes : List ℕ) (reply : Reply) (p : Private) → is_accepted reply ≡ false → after_write at bytes reply p ≡ p
not_written at bytes Done p refused = absurd (true_not_false refused)
not_written at bytes _ p refused = refl

-- a refused read is true
refused_read : (p : Private) (at : Addr) (n : ℕ) (reply : Reply) → is_accepted reply ≡ false → IsTrueRead 1024 p at n reply
refused_read p at n (Text bytes) refused = absurd (true_not_false refused)
refused_read p at n _ refused = tt

-- so many bytes of a text from a place on are those of a table of offsets
bytes_are : (byte : ℕ → ℕ) (text : List ℕ) (from n a : ℕ) → from + n ≤ length text → ((j : ℕ) → j < n → slice_index_or text (from + j) 0 ≡ byte (a + j)) → take n (drop from text) ≡ map byte (range_with_len a n)
bytes_are byte text from n a fits same =
    let size : length (take n (drop from text)) ≡ n = simp (length-take, length-drop) (omega arith) in
    same_lists (take n (drop from text)) (map byte (range_with_len a n)) (size ∙ sym (length-map-range_with_len byte a n))
    (λ j d inside. let lt : j < n = omega (arith, size, inside) in
    get_or-take n (drop from text) j d lt ∙ (get_or-drop from text j d ∙ (default_of text (from + j) d 0 (omega arith) ∙ (same j lt ∙ sym (get_or-map-range_with_len byte a n j (a + j) d lt refl)))))
  where
    default_of : (xs : List ℕ) (i d d' : ℕ) → i < length xs → get_or xs i d ≡ get_or xs i d'
    default_of [] i d d' lt = absurd (omega arith)
    default_of (x ∷ xs) zero d d' lt = refl
    default_of (x ∷ xs) (suc i) d d' lt = default_of xs i d d' (omega arith)

module _ (k : Plan) (key : List ℕ) (good : IsGood k) (who : ℕ) (caller : IsCaller k who) where
  abbrev x : Seals
  x = seals_by key

  abbrev home : ℕ
  home = enclave_of k who

  -- the texts of the caller's enclave have what its own calls made
  abbrev Holds : History → Private → Type 0
  Holds past p = Agree (text_in k x past home) p

  record Before (past : History) (p : Private) : Type 0 where
    pub run : CoreRun k x past
    pub sound : Sound k x past
    pub held : AllHeld home who (live k past home) p.blocks
    pub agree : Holds past p

  order_of : (past : History) (p : Private) → Before past p → AreInOrder 0 (subs k home) (live k past home)
  order_of past p before = in_order k x (none_empty k good) past before.run home (home-within k who good caller)

  sizes_of : (past : History) (p : Private) → Before past p → (s : ℕ) → length (text_in k x past home s) ≡ 1024
  sizes_of past p before s = text_size k key past (first_sub k home + s) (are_sized k key past before.run before.sound)

  -- the text of a sub-page after a call, by its place in the caller's enclave
  abbrev Makes : History → Calls → Reply → Private → Type 0
  Makes past op reply p' = Agree (λ s. text_after 1024 home (live k past home) op reply s (text_in k x past home s)) p'

  -- an own call
  own_makes : (past : History) (op : Calls) (blocks : List (List ℕ)) (reply : Reply) (p : Private) → CallStep k x past (entry who (Op op) blocks reply) op → Before past p → Makes past op reply (after_call 1024 op reply p)
  own_makes past (Alloc n) blocks reply p step before = own_alloc_bytes home who (subs k home) (live k past home) (order_of past p before) (text_in k x past home) p before.held before.agree n reply step.reply_is
  own_makes past (Free at) blocks reply p step before = own_free_bytes home who (subs k home) (live k past home) (order_of past p before) (text_in k x past home) p before.held before.agree at reply step.reply_is
  own_makes past (Share at) blocks reply p step before = own_share_bytes home who (subs k home) (live k past home) (order_of past p before) (text_in k x past home) p before.held before.agree at reply step.reply_is
  own_makes past (Read at n) blocks reply p step before = before.agree
  own_makes past (Write at bytes) blocks reply p step before = by_test (is_accepted reply) (λ v. is_accepted reply ≡ v → Makes past (Write at bytes) reply (after_write at bytes reply p))
      (λ _ yes_is.
      let h = write_accepted (access_refusal k past who at (length bytes)) (is_worn k past (sub_of k at)) (verdict k x past (Op (Write at bytes)) blocks) (sub_of k at) (entry who (Op (Write at bytes)) blocks reply)
      (access_refuses k past who at (length bytes)) step yes_is in
      let fits = within home (subs k home) (length bytes) at (in_range k past who (length bytes) at h.0) in
      subst (λ (r : Reply). Makes past (Write at bytes) r (after_write at bytes r p)) (sym h.3)
      (own_write_bytes home who (subs k home) (live k past home) (order_of past p before) (text_in k x past home) p before.held before.agree at bytes fits (sizes_of past p before)))
      (λ _ no_is. subst (Makes past (Write at bytes) reply) (sym (not_written at bytes reply p no_is))
      (λ block among s i inside from to. ap (λ v. slice_index_or (if v && (at.at / 1024 == s) then rewritten 1024 home (Write at bytes) (text_in k x past home s) else text_in k x past home s) i 0) no_is ∙ before.agree block among s i inside from to)) refl
    where
      within : (e n m : ℕ) (to : Addr) → is_in_range 1024 e n to m ≡ true → to.at % 1024 + m ≤ 1024
      within e n m to inside = grind (arith, nat_tests)

  -- another's call in the same enclave
  other_makes : (past : History) (by : ℕ) (op : Calls) (blocks : List (List ℕ)) (reply : Reply) (p : Private) → by ≢ who → enclave_of k by ≡ home → CallStep k x past (entry by (Op op) blocks reply) op → Before past p → Makes past op reply p
  other_makes past by (Alloc n) blocks reply p other here step before = other_alloc_bytes home who (subs k home) (live k past home) (order_of past p before) (text_in k x past home) p before.held before.agree n reply
      (subst (λ (e : ℕ). reply ≡ alloc_reply 1024 e (live k past e) (subs k e) n) here step.reply_is)
  other_makes past by (Free at) blocks reply p other here step before = other_free_bytes home who (subs k home) (live k past home) (order_of past p before) (text_in k x past home) p before.held before.agree by at reply other
      (subst (λ (e : ℕ). reply ≡ block_reply 1024 e (live k past e) by at) here step.reply_is)
  other_makes past by (Share at) blocks reply p other here step before = before.agree
  other_makes past by (Read at n) blocks reply p other here step before = before.agree
  other_makes past by (Write at bytes) blocks reply p other here step before = other_write_bytes home who (subs k home) (live k past home) (order_of past p before) (text_in k x past home) p before.held before.agree by at bytes reply other
      (λ yes_is.
      let h = write_accepted (access_refusal k past by at (length bytes)) (is_worn k past (sub_of k at)) (verdict k x past (Op (Write at bytes)) blocks) (sub_of k at) (entry by (Op (Write at bytes)) blocks reply)
      (access_refuses k past by at (length bytes)) step yes_is in
      subst (λ (e : ℕ). use_refusal by (find (has_sub (at.at / 1024)) (live k past e)) ≡ None) here
      (ap (λ v. if v then use_refusal by (find (has_sub (at.at / 1024)) (live k past (enclave_of k by))) else Some BadRange) (sym (in_range k past by (length bytes) at h.0)) ∙ h.0))

  -- what a call makes of the caller's enclave
  module _ (past : History) (by : ℕ) (op : Calls) (blocks : List (List ℕ)) (reply : Reply) (step : CoreStep k x past (entry by (Op op) blocks reply)) (true_is : AreTrue k x past (places k (Op op) past) blocks) where
    abbrev new : History
    new = entry by (Op op) blocks reply ∷ past

    text_there : enclave_of k by ≡ home → (s : ℕ) → s < subs k home → text_after 1024 home (live k past home) op reply s (text_in k x past home s) ≡ text_in k x new home s
    text_there here s = subst (λ (e : ℕ). s < subs k e → text_after 1024 e (live k past e) op reply s (text_in k x past e s) ≡ text_in k x new e s) here
        (text_own k x past new by op reply (λ j. refl) (call-text k x (seals-open key) past by op blocks reply step.step true_is) s)

    text_else : home ≢ enclave_of k by → (s : ℕ) → s < subs k home → text_in k x past home s ≡ text_in k x new home s
    text_else other s = text_other k x past new by op reply (λ j. refl) (call-text k x (seals-open key) past by op blocks reply step.step true_is) home s other

    -- the sub-page of a byte of a private block
    place_within : (p' : Private) → AllHeld home who (live k new home) p'.blocks → AreInOrder 0 (subs k home) (live k new home) → (block : OwnBlock) → IsAmong block p'.blocks
        → (s i : ℕ) → i < 1024 → block.start ≤ 1024 * s + i → 1024 * s + i < block.start + block.size → s < subs k home
    place_within p' held order block among s i inside from to =
        let here = held block among in
        let end = ends_within here.live_block (live k new home) 0 (subs k home) order here.is_in in
        let start : 1024 * here.live_block.start ≡ block.start = ap (λ (z : OwnBlock). z.start) here.same in
        let size : 1024 * here.live_block.len ≡ block.size = ap (λ (z : OwnBlock). z.size) here.same in
        omega arith

    agree_there : (p' : Private) → enclave_of k by ≡ home → AllHeld home who (live k new home) p'.blocks → AreInOrder 0 (subs k home) (live k new home) → Makes past op reply p' → Holds new p'
    agree_there p' here held order makes block among s i inside from to =
        ap (λ text. slice_index_or text i 0) (sym (text_there here s (place_within p' held order block among s i inside from to))) ∙ makes block among s i inside from to

    agree_else : (p' : Private) → home ≢ enclave_of k by → AllHeld home who (live k new home) p'.blocks → AreInOrder 0 (subs k home) (live k new home) → Holds past p' → Holds new p'
    agree_else p' other held order agree block among s i inside from to =
        ap (λ text. slice_index_or text i 0) (sym (text_else other s (place_within p' held order block among s i inside from to))) ∙ agree block among s i inside from to

    call_agrees : (p : Private) → Before past p → AreInOrder 0 (subs k home) (live k new home) → AllHeld home who (live k new home) (after_calls 1024 p (calls_by who (call by op reply))).blocks
        → Holds new (after_calls 1024 p (calls_by who (call by op reply)))
    call_agrees p before order held = by_test (by == who)
        (λ v. by == who ≡ v → let p' = after_calls 1024 p (map (λ (c : Call). (c.op, c.reply)) (if v then record { who = by; op = op; reply = reply } ∷ [] else [])) in AllHeld home who (live k new home) p'.blocks → Holds new p')
        (λ _ is held'. let same : by ≡ who = eqb-true by who is in
        agree_there (after_call 1024 op reply p) (ap (enclave_of k) same) held' order
        (own_makes past op blocks reply p (subst (λ (w : ℕ). CallStep k x past (entry w (Op op) blocks reply) op) same step.step) before))
        (λ _ is held'. by_test (home == enclave_of k by) (λ v. home == enclave_of k by ≡ v → Holds new p)
        (λ _ here. let there : enclave_of k by ≡ home = sym (eqb-true home (enclave_of k by) here) in agree_there p there held' order (other_makes past by op blocks reply p (eqb-false by who is) there step.step before))
        (λ _ other. agree_else p (eqb-false home (enclave_of k by) other) held' order before.agree) refl) refl held

  -- what was wanted and not had changes nothing
  wanted_same : (by : ℕ) (wanted : Wanted) (reply : Reply) (p : Private) → NeedsFrame wanted → is_accepted reply ≡ false → after_calls 1024 p (calls_by who (call_wanted by wanted reply)) ≡ p
  wanted_same by (ALink at) reply p needs refused = refl
  wanted_same by (ACall (Read at n)) reply p needs refused = by_test (by == who)
      (λ v. after_calls 1024 p (map (λ (c : Call). (c.op, c.reply)) (if v then record { who = by; op = Read at n; reply = reply } ∷ [] else [])) ≡ p) (λ _. refl) (λ _. refl)
  wanted_same by (ACall (Write at bytes)) reply p needs refused = by_test (by == who)
      (λ v. after_calls 1024 p (map (λ (c : Call). (c.op, c.reply)) (if v then record { who = by; op = Write at bytes; reply = reply } ∷ [] else [])) ≡ p) (λ _. not_written at bytes reply p refused) (λ _. refl)
  wanted_same by (ACall (Alloc n)) reply p needs refused = absurd needs
  wanted_same by (ACall (Free at)) reply p needs refused = absurd needs
  wanted_same by (ACall (Share at)) reply p needs refused = absurd needs

  agree_step : (past : History) (by : ℕ) (event : Event) (blocks : List (List ℕ)) (reply : Reply) (p : Private) → CoreStep k x past (entry by event blocks reply) → AreTrue k x past (places k event past) blocks → Before past p
      → AreInOrder 0 (subs k home) (live k (entry by event blocks reply ∷ past) home) → AllHeld home who (live k (entry by event blocks reply ∷ past) home) (after_calls 1024 p (calls_by who (call_of by event reply))).blocks
      → Holds (entry by event blocks reply ∷ past) (after_calls 1024 p (calls_by who (call_of by event reply)))
  agree_step past by (Op op) blocks reply p step true_is before order held = call_agrees past by op blocks reply step true_is p before order held
  agree_step past by (Fill q f) blocks reply p step true_is before order held = λ block among s i inside from to.
      ap (λ text. slice_index_or text i 0) (sym (fill-text k x (seals-open key) past by q f blocks reply step.step true_is (first_sub k home + s))) ∙ before.agree block among s i inside from to
  agree_step past by (Evict q f) blocks reply p step true_is before order held = λ block among s i inside from to.
      ap (λ text. slice_index_or text i 0) (sym (evict-text k x (seals-open key) past by q f blocks reply step.step (runs-as k x (seals-open key) good past before.run before.sound).clean (first_sub k home + s))) ∙ before.agree block among s i inside from to
  agree_step past by (Starved wanted sweep) blocks reply p step true_is before order held = subst (Holds past) (sym (wanted_same by wanted reply p step.within.1 (ap is_accepted step.step.2.reply_is))) before.agree
  agree_step past by (Spoiled wanted) blocks reply p step true_is before order held = subst (Holds past) (sym (wanted_same by wanted reply p step.within.1 (ap is_accepted step.step.3))) before.agree
  agree_step past by _ blocks reply p step true_is before order held = before.agree

  before_all : (h : History) → CoreRun k x h → Sound k x h → Before h (own_after k h who)
  before_all [] run sound = record {
    run = run;
    sound = sound;
    held = all_held k x good who caller [] run;
    agree = λ block among s i inside from to. byte_of-zeros i inside;
  }
  before_all (e ∷ past) run sound =
      let held = all_held k x good who caller (e ∷ past) run in
      let more = own_after-more k who e past in
      record {
        run = run;
        sound = sound;
        held = held;
        agree = subst (Holds (e ∷ past)) (sym more) (agree_step past e.who e.event e.blocks e.reply (own_after k past who) run.0 sound.0 (before_all past run.1 sound.1)
            (in_order k x (none_empty k good) (e ∷ past) run home (home-within k who good caller)) (subst (λ (p : Private). AllHeld home who (live k (e ∷ past) home) p.blocks) more held));
      }

  -- an own read
  read_true : (past : History) (at : Addr) (n : ℕ) (blocks : List (List ℕ)) (reply : Reply) (p : Private) → CallStep k x past (entry who (Op (Read at n)) blocks reply) (Read at n) → AreTrue k x past (places k (Op (Read at n)) past) blocks
      → Before past p → IsTrueRead 1024 p at n reply
  unfolding text_at
  read_true past at n blocks reply p step true_is before = told reply refl where
    reply_text : Reply → List ℕ
    reply_text (Text bytes) = bytes
    reply_text _ = []

    within : (e n m : ℕ) (to : Addr) → is_in_range 1024 e n to m ≡ true → to.at % 1024 + m ≤ 1024
    within e n m to inside = grind (arith, nat_tests)

    told : (r : Reply) → reply ≡ r → IsTrueRead 1024 p at n r
    told (Text bytes) is = λ range.
        let e : Entry = entry who (Op (Read at n)) blocks reply in
        let h = read_accepted (access_refusal k past who at n) (verdict k x past (Op (Read at n)) blocks) (Text (bytes_of 1024 at.enclave at.at n (found k x e past (sub_of k at)))) e (access_refuses k past who at n) step (ap is_accepted is) in
        let inside = in_range k past who n at h.0 in
        let text_is : found k x e past (sub_of k at) ≡ text_in k x past home (at.at / 1024)
        = found-is k x past e (sub_of k at) refl true_is h.1 ∙ ap (text k x past) (sub_of-is k home at (at_home k home n at inside)) in
        let fits = within home (subs k home) n at inside in
        let size = sizes_of past p before (at.at / 1024) in
        let from = range.from in let to = range.within in
        ap reply_text (sym is ∙ h.2)
        ∙ (ap (λ t. take n (drop (at.at % 1024) t)) text_is
        ∙ bytes_are p.byte (text_in k x past home (at.at / 1024)) (at.at % 1024) n at.at (omega (arith, fits, size))
        (λ j lt. let place : 1024 * (at.at / 1024) + (at.at % 1024 + j) ≡ at.at + j = omega arith in
        before.agree range.block range.among (at.at / 1024) (at.at % 1024 + j) (omega (arith, fits, lt)) (omega (arith, place, from)) (omega (arith, place, to, lt)) ∙ ap p.byte place))
    told _ is = tt

  -- a refused call is true
  refused_true : (p : Private) (op : Calls) (reply : Reply) → is_accepted reply ≡ false → IsTrueReply 1024 p op reply
  refused_true p (Read at n) reply refused = refused_read p at n reply refused
  refused_true p (Alloc n) reply refused = tt
  refused_true p (Free at) reply refused = tt
  refused_true p (Share at) reply refused = tt
  refused_true p (Write at bytes) reply refused = tt

  own_true : (past : History) (op : Calls) (blocks : List (List ℕ)) (reply : Reply) (p : Private) → CallStep k x past (entry who (Op op) blocks reply) op → AreTrue k x past (places k (Op op) past) blocks → Before past p → IsTrueReply 1024 p op reply
  own_true past (Read at n) blocks reply p step true_is before = read_true past at n blocks reply p step true_is before
  own_true past (Alloc n) blocks reply p step true_is before = tt
  own_true past (Free at) blocks reply p step true_is before = tt
  own_true past (Share at) blocks reply p step true_is before = tt
  own_true past (Write at bytes) blocks reply p step true_is before = tt

  -- a call of the list of the caller's calls
  one_true : (by : ℕ) (op : Calls) (reply : Reply) (p : Private) → (by ≡ who → IsTrueReply 1024 p op reply) → AreTrueFrom 1024 p (calls_by who (call by op reply))
  one_true by op reply p told = by_test (by == who) (λ v. by == who ≡ v → AreTrueFrom 1024 p (map (λ (c : Call). (c.op, c.reply)) (if v then record { who = by; op = op; reply = reply } ∷ [] else [])))
      (λ _ is. (told (eqb-true by who is), tt)) (λ _ _. tt) refl

  wanted_true : (by : ℕ) (wanted : Wanted) (reply : Reply) (p : Private) → is_accepted reply ≡ false → AreTrueFrom 1024 p (calls_by who (call_wanted by wanted reply))
  wanted_true by (ALink at) reply p refused = tt
  wanted_true by (ACall op) reply p refused = one_true by op reply p (λ _. refused_true p op reply refused)

  event_true : (past : History) (by : ℕ) (event : Event) (blocks : List (List ℕ)) (reply : Reply) (p : Private) → CoreStep k x past (entry by event blocks reply) → AreTrue k x past (places k event past) blocks → Before past p
      → AreTrueFrom 1024 p (calls_by who (call_of by event reply))
  event_true past by (Op op) blocks reply p step true_is before = one_true by op reply p (λ same. own_true past op blocks reply p (subst (λ (w : ℕ). CallStep k x past (entry w (Op op) blocks reply) op) same step.step) true_is before)
  event_true past by (Starved wanted sweep) blocks reply p step true_is before = wanted_true by wanted reply p (ap is_accepted step.step.2.reply_is)
  event_true past by (Spoiled wanted) blocks reply p step true_is before = wanted_true by wanted reply p (ap is_accepted step.step.3)
  event_true past by _ blocks reply p step true_is before = tt

  true-append : (p : Private) (first more : List Said) → AreTrueFrom 1024 p first → AreTrueFrom 1024 (after_calls 1024 p first) more → AreTrueFrom 1024 p (first ++ more)
  true-append p [] more told rest = rest
  true-append p (c ∷ first) more told rest = (told.0, true-append (after_call 1024 c.0 c.1 p) first more told.1 rest)

  reads_true : (h : History) → CoreRun k x h → Sound k x h → AreTrueFrom 1024 (opening_own k who) (calls_by who (calls h))
  reads_true [] run sound = tt
  reads_true (e ∷ past) run sound = subst (AreTrueFrom 1024 (opening_own k who)) (sym (calls_by-append k who (calls past) (call_of e.who e.event e.reply)))
      (true-append (opening_own k who) (calls_by who (calls past)) (calls_by who (call_of e.who e.event e.reply)) (reads_true past run.1 sound.1)
      (event_true past e.who e.event e.blocks e.reply (own_after k past who) run.0 sound.0 (before_all past run.1 sound.1)))

-- no block is a part of every private memory before its calls
pub nothing_part : (k : Plan) (who : ℕ) → IsPartOf nothing (opening_own k who)
nothing_part k who = record { blocks = λ block none. absurd none; bytes = refl }

-- the laws
pub own_blocks_live : OfEveryRun (λ k key h. OwnBlocksLive k h)
own_blocks_live k key h run =
    let each : (who : ℕ) → IsCaller k who → AreBacked k h who (own_after k h who) = λ who caller. backed k (seals_by key) run.good who caller h run.legal in record {
      all = each;
      allotted = λ who caller block among. each who caller block ((part_calls (calls_by who (calls h)) nothing (opening_own k who) (nothing_part k who)).blocks block among);
    }

-- in a sound history each caller reads in its private blocks what its own calls made there
pub reads_private : OfEveryRun (λ k key h. ReadsPrivate k key h)
reads_private k key h run sound who caller =
    let told = reads_true k key run.good who caller h run.legal sound in record {
      all = told;
      allotted = part_true (calls_by who (calls h)) nothing (opening_own k who) (nothing_part k who) told;
    }
