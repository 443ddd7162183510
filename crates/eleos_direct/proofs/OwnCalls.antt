-- The calls of a pass are those that the history has of it, so the laws of private memory hold of them.
use Rattle.std.proofs.Common.{◌≡◌, ℕ, ◌+◌, ◌*◌, ◌/◌, ◌%◌, ◌<◌, ◌≤◌, ◌==◌, ◌&&◌, ◌||◌, List, [], ◌∷◌, ◌++◌, length, map, Bool, true, false, nat_le, Option, Some, None, unwrap_or, MatchOption, MatchBool, Result, Ok, Err, IsOk, IfOk, IfErr, if◌then◌else◌, cond, refl, sym, ◌∙◌, ap, subst, arith, append_assoc, append-nil}
use Rattle.std.specs.List.{find}
use Rattle.std.proofs.lemmas.Bool.{eq-eqb, false≢true}
use Rattle.std.proofs.lemmas.Bool.Decides.{nat_tests}
use Rattle.std.proofs.lemmas.List.{append_cancel_right}
use Rattle.eleos_base.specs.declared.memory.Addr.{Addr}
use Rattle.eleos_base.specs.declared.memory.Live.{Live}
use Rattle.eleos_base.specs.declared.memory.Op.{Op as Calls}
use Rattle.eleos_base.specs.declared.memory.Op.TheVariants.{Alloc, Free, Read, Write}
use Rattle.eleos_base.specs.declared.memory.Reply.{Reply}
use Rattle.eleos_base.specs.declared.memory.Reply.TheVariants as replies
use Rattle.eleos_base.specs.declared.plan.Plan.{Plan}
use Rattle.eleos_base.specs.declared.refusals.AccessRefused.{AccessRefused}
use Rattle.eleos_base.specs.declared.refusals.AccessRefused.TheVariants as accesses
use Rattle.eleos_base.specs.declared.refusals.AllocRefused.{AllocRefused}
use Rattle.eleos_base.specs.declared.refusals.BlockRefused.{BlockRefused}
use Rattle.eleos_base.specs.declared.refusals.BlockRefused.TheVariants as refusals
use Rattle.eleos_base.specs.Answers.{access_refusal_reply, alloc_reply, block_reply, read_reply, write_reply}
use Rattle.eleos_base.specs.Own.{IsNew, IsOwnRange, IsOwnStart, OwnBlock, Said, block_of, nothing, own}
use Rattle.eleos_base.specs.Places.{sub_of, subs}
use Rattle.eleos_base.specs.Plain as plain
use Rattle.eleos_base.specs.Plain.{Call, bytes_of, has_sub, is_in_range, use_refusal}
use Rattle.eleos_base.specs.Plans.{IsCaller, IsGood, enclave_of}
use Rattle.eleos_base.specs.SubMemory.{IsReadFault, IsWriteFault}
use Rattle.eleos_core.specs.declared.event.Event.{Event}
use Rattle.eleos_core.specs.declared.event.Event.TheVariants.{Op, Starved, Spoiled}
use Rattle.eleos_core.specs.declared.event.Wanted.TheVariants.{Link as ALink, Op as ACall}
use Rattle.eleos_core.specs.Laws.{IsLegalRun}
use Rattle.eleos_core.specs.Legal.{ByBlocks, CoreRun, CoreStep, IsPlainly, Judged, passed, failed, unfit, access_refusal, is_worn, verdict}
use Rattle.eleos_core.specs.OwnLaws.{calls_by, opening_own}
use Rattle.eleos_core.specs.Parts.{Entries, Made, Stamp}
use Rattle.eleos_core.specs.Seals.{seals_by}
use Rattle.eleos_core.specs.State.{History, call_of, calls, entry, found, live}
use Rattle.eleos_core.proofs.OwnAllots.{allocs_new}
use Rattle.eleos_core.proofs.OwnBlocks.{all_held, calls_by-append, found_sub}
use Rattle.eleos_core.proofs.OwnBytes.{ends_within}
use Rattle.eleos_core.proofs.OwnParts.{part_calls}
use Rattle.eleos_core.proofs.OwnReads.{nothing_part, own_blocks_live}
use Rattle.eleos_core.proofs.Ordered.{in_order, none_empty}
use Rattle.eleos_core.proofs.Runs.{home-within}
use Rattle.eleos_plot.specs.Histories.{history_after, history_of}
use Rattle.eleos_plot.specs.Terms.{core_terms}
use Rattle.eleos_turn.specs.Hands.{own as own_entries}
use Rattle.eleos_direct.specs.Desks.{calls_made}

-- ---- calls of a history

-- a call with its reply
abbrev said_of : Call → Said
said_of c = (c.op, c.reply)

-- the calls that an entry answers
abbrev said_by : ℕ → Event → Reply → List Said
said_by by event reply = map said_of (call_of by event reply)

-- of one call an actor has all or nothing
one_call : (b : Bool) (by : ℕ) (op : Calls) (reply : Reply) → map said_of (cond b (record { who = by; op = op; reply = reply } ∷ []) []) ≡ cond b ((op, reply) ∷ []) []
one_call true by op reply = refl
one_call false by op reply = refl

abbrev none_said : List Said
none_said = []

no_call : (b : Bool) → cond b none_said none_said ≡ none_said
no_call true = refl
no_call false = refl

one_event : (k : Plan) (who by : ℕ) (event : Event) (reply : Reply) → calls_by who (call_of by event reply) ≡ cond (by == who) (said_by by event reply) []
one_event k who by (Op op) reply = one_call (by == who) by op reply
one_event k who by (Starved (ACall op) sweep) reply = one_call (by == who) by op reply
one_event k who by (Starved (ALink at) sweep) reply = sym (no_call (by == who))
one_event k who by (Spoiled (ACall op)) reply = one_call (by == who) by op reply
one_event k who by (Spoiled (ALink at)) reply = sym (no_call (by == who))
one_event k who by _ reply = sym (no_call (by == who))

with_one : (b : Bool) (n : ℕ) (d : Stamp) (more : List Made) → cond b (said_by d.entry.who d.entry.event d.entry.reply) [] ++ calls_made more ≡ calls_made (cond b ((n, d) ∷ more) more)
with_one true n d more = refl
with_one false n d more = refl

-- the calls of an actor in a history are those of its own entries
pub own_calls : (k : Plan) (who n : ℕ) (past : History) (es : Entries) → calls_by who (calls (history_after past es)) ≡ calls_by who (calls past) ++ calls_made (own_entries core_terms who n es)
own_calls k who n past [] = sym (append-nil (calls_by who (calls past)))
own_calls k who n past (e ∷ es) =
    let d : Stamp = e.entry in
    let rest = own_calls k who (n + 1) (d.entry ∷ past) es in
    let more : List Made = own_entries core_terms who (n + 1) es in
    rest ∙ (ap (λ (cs : List Said). cs ++ calls_made more) (calls_by-append k who (calls past) (call_of d.entry.who d.entry.event d.entry.reply))
    ∙ (append_assoc (calls_by who (calls past)) (calls_by who (call_of d.entry.who d.entry.event d.entry.reply)) (calls_made more)
    ∙ ap (λ (cs : List Said). calls_by who (calls past) ++ cs)
    (ap (λ (cs : List Said). cs ++ calls_made more) (one_event k who d.entry.who d.entry.event d.entry.reply) ∙ with_one (d.entry.who == who) n d more)))

-- the calls of some entries, and of others
pub calls_made-append : (xs ys : List Made) → calls_made (xs ++ ys) ≡ calls_made xs ++ calls_made ys
calls_made-append [] ys = refl
calls_made-append (x ∷ xs) ys = ap (λ (cs : List Said). said_by x.1.entry.who x.1.entry.event x.1.entry.reply ++ cs) (calls_made-append xs ys)
    ∙ sym (append_assoc (said_by x.1.entry.who x.1.entry.event x.1.entry.reply) (calls_made xs) (calls_made ys))

-- where an actor's entries are these and a call, its calls before that call were those of these
pub calls_before : (k : Plan) (who place : ℕ) (op : Calls) (blocks : List (List ℕ)) (reply : Reply) (len : ℕ) (past : History) (es : Entries) (made : List Made)
    → history_of es ≡ entry who (Op op) blocks reply ∷ past → own_entries core_terms who 0 es ≡ made ++ (place, record { entry = entry who (Op op) blocks reply; len = len }) ∷ []
    → calls_by who (calls past) ≡ calls_made made
calls_before k who place op blocks reply len past es made sees mine =
    let last : List Said = (op, reply) ∷ [] in
    let here : calls_by who (call_of who (Op op) reply) ≡ last = one_event k who who (Op op) reply ∙ ap (λ (b : Bool). cond b last []) (eq-eqb who who refl) in
    append_cancel_right (calls_by who (calls past)) (calls_made made) last
    (ap (λ (cs : List Said). calls_by who (calls past) ++ cs) (sym here) ∙ (sym (calls_by-append k who (calls past) (call_of who (Op op) reply))
    ∙ (ap (λ (h : History). calls_by who (calls h)) (sym sees) ∙ (own_calls k who 0 [] es ∙ (ap calls_made mine ∙ calls_made-append made _)))))

-- ---- the laws of private memory, at a call

-- an access of a private range that is judged by blocks alone is answered, or its block did not pass
abbrev may_read : Reply → Bool
may_read (replies.Text bytes) = true
may_read (replies.Tampered s) = true
may_read _ = false

abbrev may_write : Reply → Bool
may_write replies.Done = true
may_write (replies.Worn s) = true
may_write (replies.Tampered s) = true
may_write _ = false

by_blocks : (may : Reply → Bool) (j : Judged) (good reply : Reply) → ((s : ℕ) → may (replies.Tampered s) ≡ true) → may good ≡ true → ByBlocks j good reply → may reply ≡ true
by_blocks may passed good reply tampered fine is = ap may is ∙ fine
by_blocks may (failed s) good reply tampered fine is = ap may is ∙ tampered s
by_blocks may unfit good reply tampered fine is = absurd is

read_fault : (r : AccessRefused) → may_read (access_refusal_reply r) ≡ true → IsReadFault r
read_fault (accesses.Tampered s) may = tt
read_fault accesses.BadRange may = absurd (false≢true may)
read_fault accesses.Unallocated may = absurd (false≢true may)
read_fault (accesses.NotYours owner) may = absurd (false≢true may)
read_fault (accesses.Worn s) may = absurd (false≢true may)

write_fault : (r : AccessRefused) → may_write (access_refusal_reply r) ≡ true → IsWriteFault r
write_fault (accesses.Tampered s) may = tt
write_fault (accesses.Worn s) may = tt
write_fault accesses.BadRange may = absurd (false≢true may)
write_fault accesses.Unallocated may = absurd (false≢true may)
write_fault (accesses.NotYours owner) may = absurd (false≢true may)

-- the block has the sub-page of each of its bytes
has_byte : (block : Live) (at : ℕ) → 1024 * block.start ≤ at → at < 1024 * (block.start + block.len) → has_sub (at / 1024) block ≡ true
has_byte block at from to = grind (arith, nat_tests)

in_range_there : (home n all : ℕ) (at : Addr) → at.enclave ≡ home → 1 ≤ n → at.at % 1024 + n ≤ 1024 → at.at + n ≤ 1024 * all → is_in_range 1024 home all at n ≡ true
in_range_there home n all at here some in_sub within =
    ap (λ (b : Bool). b && nat_le 1 n && nat_le (at.at % 1024 + n) 1024 && nat_le (at.at + n) (1024 * all)) (eq-eqb at.enclave home here) ∙ fits
  where
    fits : true && nat_le 1 n && nat_le (at.at % 1024 + n) 1024 && nat_le (at.at + n) (1024 * all) ≡ true
    fits = grind (arith, nat_tests)

module _ (k : Plan) (key : List ℕ) (good : IsGood k) (past : History) (run : CoreRun k (seals_by key) past) (who : ℕ) (caller : IsCaller k who) where
  abbrev home : ℕ
  home = enclave_of k who

  abbrev mine : List Said
  mine = calls_by who (calls past)

  legal : IsLegalRun k key past
  legal = record { good = good; legal = run }

  -- a block that an alloc answers is new
  pub fresh : (n : ℕ) (r : Result Addr AllocRefused) → CoreStep k (seals_by key) past (entry who (Op (Alloc n)) [] (alloc_reply r)) → IfOk r (λ (at : Addr). IsNew 1024 (own 1024 mine) (block_of 1024 at n))
  fresh n (Ok at) step = (allocs_new k key past legal who n at [] step).allotted
  fresh n (Err e) step = tt

  -- a free of a private block is done
  freed : (at : Addr) → IsOwnStart (own 1024 mine) at → plain.block_reply 1024 home (live k past home) who at ≡ replies.Done
  freed at is =
      let backed = (own_blocks_live k key past legal).allotted who caller is.block is.among in
      let there : Addr = record { enclave = is.block.enclave; at = is.block.start } in
      let same : at ≡ there = λ i. record { enclave = is.home i; at = is.starts i } in
      ap (λ (a : Addr). plain.block_reply 1024 home (live k past home) who a) same
      ∙ (ap (λ (o : Option Live). unwrap_or (plain.block_refusal who o) replies.Done) backed.starts
      ∙ ap (λ (b : Bool). unwrap_or (cond b None (Some (replies.NotYours backed.live_block.owner))) replies.Done) (eq-eqb backed.live_block.owner who backed.owner))

  done_is_ok : (r : Result (Unit {0}) BlockRefused) → block_reply r ≡ replies.Done → IsOk r
  done_is_ok (Ok done) is = refl
  done_is_ok (Err refusals.NotABlock) is = absurd (false≢true (ap plain.is_accepted is))
  done_is_ok (Err (refusals.NotYours owner)) is = absurd (false≢true (ap plain.is_accepted is))

  pub free_done : (at : Addr) (r : Result (Unit {0}) BlockRefused) → CoreStep k (seals_by key) past (entry who (Op (Free at)) [] (block_reply r)) → IsOwnStart (own 1024 mine) at → IsOk r
  free_done at r step is = done_is_ok r (step.step.reply_is ∙ freed at is)

  -- an access of a private range is not refused
  not_refused : (at : Addr) (n : ℕ) → IsOwnRange 1024 (own 1024 mine) at n → access_refusal k past who at n ≡ None
  not_refused at n is =
      let held = all_held k (seals_by key) good who caller past run is.block ((part_calls mine nothing (opening_own k who) (nothing_part k who)).blocks is.block is.among) in
      let order = in_order k (seals_by key) (none_empty k good) past run home (home-within k who good caller) in
      let b : Live = held.live_block in
      let end = ends_within b (live k past home) 0 (subs k home) order held.is_in in
      let start : 1024 * b.start ≡ is.block.start = ap (λ (z : OwnBlock). z.start) held.same in
      let size : 1024 * b.len ≡ is.block.size = ap (λ (z : OwnBlock). z.size) held.same in
      let here : at.enclave ≡ home = is.home ∙ ap (λ (z : OwnBlock). z.enclave) (sym held.same) in
      let from = is.from in let within = is.within in let some = is.some in
      let has : has_sub (at.at / 1024) b ≡ true = has_byte b at.at (omega arith) (omega arith) in
      ap (λ (v : Bool). if v then use_refusal who (find (has_sub (at.at / 1024)) (live k past home)) else Some replies.BadRange) (in_range_there home n (subs k home) at here is.some is.in_sub (omega arith))
      ∙ (ap (use_refusal who) (found_sub b (live k past home) 0 (subs k home) (at.at / 1024) order has held.is_in)
      ∙ (ap (λ (v : Bool). if v || b.owner == who then None else Some (replies.NotYours b.owner)) held.private
      ∙ ap (λ (v : Bool). if v then None else Some (replies.NotYours b.owner)) (eq-eqb b.owner who held.owner)))

  pub read_own : (at : Addr) (n : ℕ) (blocks : List (List ℕ)) (r : Result (Unit {0}) AccessRefused) (text : List ℕ) → CoreStep k (seals_by key) past (entry who (Op (Read at n)) blocks (read_reply r text))
      → IsOwnRange 1024 (own 1024 mine) at n → IfErr r IsReadFault
  read_own at n blocks (Ok done) text step is = tt
  read_own at n blocks (Err e) text step is =
      let reply : Reply = access_refusal_reply e in
      let good_reply : Reply = replies.Text (bytes_of 1024 at.enclave at.at n (found k (seals_by key) (entry who (Op (Read at n)) blocks reply) past (sub_of k at))) in
      let judged : ByBlocks (verdict k (seals_by key) past (Op (Read at n)) blocks) good_reply reply
      = subst (λ (o : Option Reply). MatchOption o (ByBlocks (verdict k (seals_by key) past (Op (Read at n)) blocks) good_reply reply) (IsPlainly (entry who (Op (Read at n)) blocks reply))) (not_refused at n is) step.step in
      read_fault e (by_blocks may_read (verdict k (seals_by key) past (Op (Read at n)) blocks) good_reply reply (λ s. refl) refl judged)

  pub write_own : (at : Addr) (bytes : List ℕ) (blocks : List (List ℕ)) (r : Result (Unit {0}) AccessRefused) → CoreStep k (seals_by key) past (entry who (Op (Write at bytes)) blocks (write_reply r))
      → IsOwnRange 1024 (own 1024 mine) at (length bytes) → IfErr r IsWriteFault
  write_own at bytes blocks (Ok done) step is = tt
  write_own at bytes blocks (Err e) step is =
      let reply : Reply = access_refusal_reply e in
      let judged : MatchBool (is_worn k past (sub_of k at)) (IsPlainly (entry who (Op (Write at bytes)) blocks reply) (replies.Worn (sub_of k at))) (ByBlocks (verdict k (seals_by key) past (Op (Write at bytes)) blocks) replies.Done reply)
      = subst (λ (o : Option Reply). MatchOption o (MatchBool (is_worn k past (sub_of k at)) (IsPlainly (entry who (Op (Write at bytes)) blocks reply) (replies.Worn (sub_of k at))) (ByBlocks (verdict k (seals_by key) past (Op (Write at bytes)) blocks) replies.Done reply)) (IsPlainly (entry who (Op (Write at bytes)) blocks reply))) (not_refused at (length bytes) is) step.step in
      write_fault e (worn_or (is_worn k past (sub_of k at)) judged)
    where
      worn_or : (w : Bool) → MatchBool w (IsPlainly (entry who (Op (Write at bytes)) blocks (access_refusal_reply e)) (replies.Worn (sub_of k at))) (ByBlocks (verdict k (seals_by key) past (Op (Write at bytes)) blocks) replies.Done (access_refusal_reply e)) → may_write (access_refusal_reply e) ≡ true
      worn_or true is_worn = ap may_write is_worn.reply_is
      worn_or false by = by_blocks may_write (verdict k (seals_by key) past (Op (Write at bytes)) blocks) replies.Done (access_refusal_reply e) (λ s. refl) refl by
