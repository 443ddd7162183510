-- What lines mean, by the table.
use Rattle.std.proofs.Common.{◌≡◌, ℕ, List, [], ◌∷◌, map, Bool, true, false, not, ◌&&◌, Option, Some, None, is_some, if◌then◌else◌, inl, refl, sym, ap, ◌∙◌, subst, ◌<◌, arith}
use Rattle.std.specs.List.{AllByRecursion, list_all}
use Rattle.eleos_core.proofs.Tests.{first_of, second_of}
use Rattle.eleos_base.specs.declared.memory.Addr.{Addr}
use Rattle.eleos_base.specs.declared.memory.Op.{Op}
use Rattle.eleos_base.specs.declared.memory.Op.TheVariants as ops
use Rattle.eleos_base.specs.declared.memory.Reply.{Reply}
use Rattle.eleos_base.specs.declared.memory.Reply.TheVariants as replies
use Rattle.eleos_base.specs.declared.plan.Plan.{Plan}
use Rattle.eleos_base.specs.Plain as plain
use Rattle.eleos_base.specs.Plans.{enclave_of, sub_bytes}
use Rattle.eleos_alloc.specs.Calls.{HasCalled}
use Rattle.eleos_alloc.specs.Changes.{call_of}
use Rattle.eleos_alloc.specs.declared.changes.Change.{Change}
use Rattle.eleos_alloc.specs.declared.changes.Change.TheVariants as changes
use Rattle.eleos_core.specs.declared.event.Event.{Event}
use Rattle.eleos_core.specs.declared.event.Event.TheVariants as events
use Rattle.eleos_base.specs.Places.{subs}
use Rattle.eleos_core.specs.State.{live}
use Rattle.eleos_machine.specs.Machines.{Site, plan_at}
use Rattle.eleos_machine.specs.Passes.{PassState, plan_of}
use Rattle.eleos_report.specs.declared.answer.Answer.{Answer}
use Rattle.eleos_report.specs.declared.answer.Answer.TheVariants.{Enough, Swept, Reached, Short, Pinned, Skipped}
use Rattle.eleos_trace.specs.declared.word.Word.{Word}
use Rattle.eleos_trace.specs.declared.word.Word.TheVariants.{Alloc, Free, Share, Read, Write, Evict, Move, SwapRound, SetShare, Call}
use Rattle.eleos_meaning.specs.Calls.{answer_of, at_offset}
use Rattle.eleos_meaning.specs.declared.meanings.Meaning.TheVariants.{Happens}
use Rattle.eleos_meaning.specs.Meanings.{at_name, event_of, is_illegal, meaning_at, meaning_of}
use Rattle.eleos_meaning.specs.Names.{Names}
use Rattle.eleos_run.specs.Steps.{AreOnBlocks, home_of, word_of}
use Rattle.eleos_run.specs.Calls.{IsNoCall}
use Rattle.eleos_meaning.specs.Table.{IsSurveyed, Means, bind, is_called, is_frame_line, is_none, is_skipped, most_lines, named_row, next, resolve, round_event, share_event, shown, when}
use Rattle.eleos_meaning.specs.Told.{Came, Entered, Replied, Told, answer_in, made_of}

-- ---- events

or_else : Event → Option Event → Event
or_else d None = d
or_else d (Some e) = e

pub some_is : (a b : Event) → Some a ≡ Some b → a ≡ b
unfolding or_else
some_is a b is = ap (or_else a) is

pub not_some : (e : Event) → None ≡ Some e → ⊥
not_some e is = cc

-- a name's event is a call at its address
pub called : (f : Addr → Op) (found : Option Addr) (is_not : Bool) (event : Event) → (if is_not then None else event_of (at_name (λ at. Happens (events.Op (f at))) found)) ≡ Some event → (at : Addr) × (event ≡ events.Op (f at))
called f found true event is = absurd (not_some event is)
called f None false event is = absurd (not_some event is)
called f (Some at) false event is = (at, sym (some_is (events.Op (f at)) event is))

-- an event without a name is this one
pub alone_is : (op : Op) (is_not : Bool) (event : Event) → (if is_not then None else Some (events.Op op)) ≡ Some event → event ≡ events.Op op
alone_is op true event is = absurd (not_some event is)
alone_is op false event is = sym (some_is (events.Op op) event is)

-- a call of the host means no event
pub no_event : (is_not : Bool) (event : Event) → (if is_not then None else None) ≡ Some event → ⊥
no_event true event is = not_some event is
no_event false event is = not_some event is

-- a word that stands in the lines of a run
abbrev pub IsToldWord : Word → Type 0
IsToldWord (Alloc name bytes) = Unit {0}
IsToldWord (Free name) = Unit {0}
IsToldWord (Share name) = Unit {0}
IsToldWord (Read name offset len) = Unit {0}
IsToldWord (Write name offset bytes) = Unit {0}
IsToldWord (Evict page frame) = Unit {0}
IsToldWord (Move frame from to) = Unit {0}
IsToldWord (SwapRound enclave low) = Unit {0}
IsToldWord (SetShare enclave to) = Unit {0}
IsToldWord (Call call bytes room) = Unit {0}
IsToldWord _ = ⊥

-- the event ties nothing
abbrev pub IsUntied : Event → Type 0
IsUntied (events.Link at) = ⊥
IsUntied (events.Unlink page) = ⊥
IsUntied _ = Unit {0}

untied_as : (a b : Event) → b ≡ a → IsUntied a → IsUntied b
untied_as a b is untied = subst IsUntied (sym is) untied

-- an event that is no call is this one
event_alone : (d : Event) (is_not : Bool) (event : Event) → (if is_not then None else Some d) ≡ Some event → event ≡ d
event_alone d true event is = absurd (not_some event is)
event_alone d false event is = sym (some_is d event is)

round_unties : (enclave low : ℕ) (reply : Answer) (event : Event) → round_event enclave low reply ≡ Some event → IsUntied event
round_unties enclave low (Enough free sweep) event is = untied_as _ event (sym (some_is _ event is)) tt
round_unties enclave low (Swept free sweep) event is = untied_as _ event (sym (some_is _ event is)) tt
round_unties enclave low _ event is = absurd (not_some event is)

share_unties : (enclave to : ℕ) (reply : Answer) (event : Event) → share_event enclave to reply ≡ Some event → IsUntied event
share_unties enclave to (Reached share) event is = untied_as _ event (sym (some_is _ event is)) tt
share_unties enclave to (Short share sweep) event is = untied_as _ event (sym (some_is _ event is)) tt
share_unties enclave to (Pinned share sweep) event is = untied_as _ event (sym (some_is _ event is)) tt
share_unties enclave to _ event is = absurd (not_some event is)

-- the event that such a word means ties nothing
pub resolve_unties : (k : Plan) (names : Names) (word : Word) (reply : Answer) (event : Event) → IsToldWord word → resolve k names word reply ≡ Some event → IsUntied event
resolve_unties k names (Alloc name bytes) reply event told is = untied_as (events.Op (ops.Alloc bytes)) event (alone_is (ops.Alloc bytes) (is_illegal reply) event is) tt
resolve_unties k names (Free name) reply event told is = let m = called (λ at. ops.Free at) (names name) (is_illegal reply) event is in untied_as (events.Op (ops.Free m.0)) event m.1 tt
resolve_unties k names (Share name) reply event told is = let m = called (λ at. ops.Share at) (names name) (is_illegal reply) event is in untied_as (events.Op (ops.Share m.0)) event m.1 tt
resolve_unties k names (Read name offset len) reply event told is = let m = called (λ at. ops.Read (at_offset at offset) len) (names name) (is_illegal reply) event is in untied_as (events.Op (ops.Read (at_offset m.0 offset) len)) event m.1 tt
resolve_unties k names (Write name offset bytes) reply event told is = let m = called (λ at. ops.Write (at_offset at offset) bytes) (names name) (is_illegal reply) event is in untied_as (events.Op (ops.Write (at_offset m.0 offset) bytes)) event m.1 tt
resolve_unties k names (Evict page frame) reply event told is = untied_as (events.Evict page frame) event (event_alone (events.Evict page frame) (is_illegal reply) event is) tt
resolve_unties k names (Move frame from to) reply event told is = untied_as (events.Move frame from to) event (event_alone (events.Move frame from to) (is_illegal reply) event is) tt
resolve_unties k names (SwapRound enclave low) reply event told is = round_unties enclave low reply event is
resolve_unties k names (SetShare enclave to) reply event told is = share_unties enclave to reply event is
resolve_unties k names (Call call bytes room) reply event told is = absurd (no_event (is_illegal reply) event is)
resolve_unties k names _ reply event told is = absurd told

-- a command on blocks made no other entries
abbrev pub IsBlockWord : Word → Type 0
IsBlockWord (Alloc name bytes) = Unit {0}
IsBlockWord (Free name) = Unit {0}
IsBlockWord (Share name) = Unit {0}
IsBlockWord _ = ⊥

-- what an alloc, a free or a share came to is a call on blocks, or no entry
pub means_on : (k : Plan) (names : Names) (word : Word) (came : Came) → IsBlockWord word → Means k names word came → AreOnBlocks (made_of came)
means_on k names word (Replied reply) on m = tt
means_on k names (Alloc name bytes) (Entered one puts) on m = ((ops.Alloc bytes, alone_is (ops.Alloc bytes) (is_illegal (answer_in (Entered one puts))) one.1.entry.event m, tt), tt)
means_on k names (Free name) (Entered one puts) on m = let q = called (λ at. ops.Free at) (names name) (is_illegal (answer_in (Entered one puts))) one.1.entry.event m in ((ops.Free q.0, q.1, tt), tt)
means_on k names (Share name) (Entered one puts) on m = let q = called (λ at. ops.Share at) (names name) (is_illegal (answer_in (Entered one puts))) one.1.entry.event m in ((ops.Share q.0, q.1, tt), tt)
means_on k names _ (Entered one puts) on m = absurd on

-- at the address of its name a command means this
pub means_at : (k : Plan) (word : Word) (found : Option Addr) (at : Addr) → found ≡ Some at → event_of (at_name (meaning_at k word) found) ≡ event_of (meaning_at k word at)
means_at k word found at is = ap (λ (f : Option Addr). event_of (at_name (meaning_at k word) f)) is

-- and nothing without one
pub means_none : (k : Plan) (word : Word) (found : Option Addr) → found ≡ None → event_of (at_name (meaning_at k word) found) ≡ None
means_none k word found is = ap (λ (f : Option Addr). event_of (at_name (meaning_at k word) f)) is

-- ---- rows

-- no reply of an entry is printed as skipped or as illegal
pub is_reply : (reply : Reply) (blocks : List (List ℕ)) → (is_skipped (answer_of reply blocks) ≡ false) × (is_illegal (answer_of reply blocks) ≡ false)
is_reply (replies.Got at) blocks = (refl, refl)
is_reply replies.Done blocks = (refl, refl)
is_reply (replies.Text bytes) blocks = (refl, refl)
is_reply replies.BadSize blocks = (refl, refl)
is_reply replies.NoSpace blocks = (refl, refl)
is_reply replies.NotABlock blocks = (refl, refl)
is_reply replies.BadRange blocks = (refl, refl)
is_reply replies.Unallocated blocks = (refl, refl)
is_reply (replies.NotYours owner) blocks = (refl, refl)
is_reply (replies.Worn sub) blocks = (refl, refl)
is_reply (replies.NoFrame sweep) blocks = (refl, refl)
is_reply (replies.Tampered sub) blocks = (refl, refl)
is_reply (replies.Enough n) blocks = (refl, refl)
is_reply (replies.Swept n) blocks = (refl, refl)
is_reply (replies.Reached n) blocks = (refl, refl)
is_reply (replies.Pinned n) blocks = (refl, refl)
is_reply (replies.Short n) blocks = (refl, refl)

pub no_row : {A : Type 0} (after : A) → None ≡ Some after → ⊥
no_row after is = cc

-- a row stands only where its test holds
row_holds : (test : Bool) (names after : Names) → when test names ≡ Some after → test ≡ true
row_holds true names after is = refl
row_holds false names after is = absurd (no_row after is)

-- nothing stands on the way
alone : (way : List Told) (test : Bool) (names after : Names) → when (is_none (map shown way) && test) names ≡ Some after → way ≡ []
alone [] test names after is = refl
alone (told ∷ way) test names after is = absurd (no_row after is)

-- the word of a line that tells of a frame
abbrev pub IsFrameWord : Word → Type 0
IsFrameWord (Evict page frame) = Unit {0}
IsFrameWord (Move frame from to) = Unit {0}
IsFrameWord _ = ⊥

-- lines of frames alone
abbrev pub AreFrameLines : List Told → Type 0
AreFrameLines way = AllByRecursion (λ (one : Told). IsFrameWord one.word) way

no_true : false ≡ true → ⊥
no_true e = cc

frame_word : (word : Word) (reply : Answer) → is_frame_line (word, reply) ≡ true → IsFrameWord word
frame_word (Evict page frame) reply is = tt
frame_word (Move frame from to) reply is = tt
frame_word _ reply is = absurd (no_true is)

frame_words : (way : List Told) → list_all is_frame_line (map shown way) ≡ true → AreFrameLines way
frame_words [] all = tt
frame_words (one ∷ way) all = (
  frame_word one.word (answer_in one.came) (first_of (is_frame_line (shown one)) (list_all is_frame_line (map shown way)) all),
  frame_words way (second_of (is_frame_line (shown one)) (list_all is_frame_line (map shown way)) all),
)

nothing_on : (way : List Told) → way ≡ [] → AreFrameLines way
nothing_on way none = subst AreFrameLines (sym none) tt

survey_words : (way : List Told) (test : Bool) (names after : Names) → when (list_all is_frame_line (map shown way) && test) names ≡ Some after → AreFrameLines way
survey_words way test names after is = frame_words way (first_of (list_all is_frame_line (map shown way)) test (row_holds (list_all is_frame_line (map shown way) && test) names after is))

-- a command whose lines these are is one of a run, and those on its way are of frames
pub row_told : (home : ℕ) (names : Names) (word : Word) (way : List Told) (reply : Answer) (after : Names) → next home names word (map shown way) reply ≡ Some after → AreFrameLines way × IsToldWord word
row_told home names (Alloc name bytes) way reply after is = (nothing_on way (alone way (not (is_skipped reply)) (bind home name reply names) after is), tt)
row_told home names (Free name) way reply after is = (nothing_on way (alone way (if is_some (names name) then not (is_skipped reply) else is_skipped reply) names after is), tt)
row_told home names (Share name) way reply after is = (nothing_on way (alone way (if is_some (names name) then not (is_skipped reply) else is_skipped reply) names after is), tt)
row_told home names (Read name offset len) way reply after is = (nothing_on way (alone way (if is_some (names name) then not (is_skipped reply) else is_skipped reply) names after is), tt)
row_told home names (Write name offset bytes) way reply after is = (nothing_on way (alone way (if is_some (names name) then not (is_skipped reply) else is_skipped reply) names after is), tt)
row_told home names (SwapRound enclave low) way reply after is = (survey_words way (not (is_skipped reply)) names after is, tt)
row_told home names (SetShare enclave to) way reply after is = (survey_words way (not (is_skipped reply)) names after is, tt)
row_told home names (Call call bytes room) way reply after is = (nothing_on way (alone way (is_called reply) names after is), tt)
row_told home names _ way reply after is = absurd (no_row after is)

told_word : (word : Word) → IsFrameWord word → IsToldWord word
told_word (Evict page frame) frame_is = tt
told_word (Move frame from to) frame_is = tt
told_word _ frame_is = absurd frame_is

-- such a line is one of a run
pub frame_told : (one : Told) → IsFrameWord one.word → IsToldWord one.word
frame_told one is = told_word one.word is

no_call : (word : Word) → IsFrameWord word → IsNoCall word
no_call (Evict page frame) frame_is = tt
no_call (Move frame from to) frame_is = tt
no_call _ frame_is = absurd frame_is

-- and none of them is a call of the host
pub frame_no_calls : (way : List Told) → AreFrameLines way → AllByRecursion (λ (one : Told). IsNoCall one.word) way
frame_no_calls [] all = tt
frame_no_calls (one ∷ way) all = (no_call one.word all.0, frame_no_calls way all.1)

-- each command has its own line at least
pub some_lines : (frames : ℕ) (word : Word) → 0 < most_lines frames word
some_lines frames (SwapRound enclave low) = omega arith
some_lines frames (SetShare enclave to) = omega arith
some_lines frames _ = omega arith

-- nothing on the way is what a survey may have there
pub nothing_surveyed : (word : Word) (reply : Answer) → IsSurveyed word [] reply
nothing_surveyed (SwapRound enclave low) reply = tt
nothing_surveyed (SetShare enclave to) reply = inl ([], refl)
nothing_surveyed _ reply = tt

-- a command with a bound name, which was not skipped, leaves the names as they are
pub bound_row : (found : Option Addr) (at : Addr) (reply : Answer) (names : Names) → found ≡ Some at → is_skipped reply ≡ false → named_row (is_some found) [] reply names ≡ Some names
bound_row found at reply names is skips = λ i. when (if is_some (is i) then not (skips i) else skips i) names

-- so does a skipped command whose name is not bound
pub unbound_row : (found : Option Addr) (names : Names) → found ≡ None → named_row (is_some found) [] Skipped names ≡ Some names
unbound_row found names is = λ i. when (if is_some (is i) then false else true) names

-- ---- a free or a share

-- at the address of its name it means the change of the block there
pub change_at : (k : Plan) (change : Change) (name : List ℕ) (names : Names) (at : Addr) → names name ≡ Some at → event_of (meaning_of k names (word_of change name)) ≡ Some (events.Op (call_of change at))
change_at k changes.Free name names at is = means_at k (Free name) (names name) at is
change_at k changes.Share name names at is = means_at k (Share name) (names name) at is

-- and nothing without one
pub change_none : (k : Plan) (change : Change) (name : List ℕ) (names : Names) → names name ≡ None → event_of (meaning_of k names (word_of change name)) ≡ None
change_none k changes.Free name names none = means_none k (Free name) (names name) none
change_none k changes.Share name names none = means_none k (Share name) (names name) none

-- it leaves the names, with such an address
pub change_bound : (home : ℕ) (change : Change) (name : List ℕ) (names : Names) (at : Addr) (reply : Answer) → names name ≡ Some at → is_skipped reply ≡ false → next home names (word_of change name) [] reply ≡ Some names
change_bound home changes.Free name names at reply is skips = bound_row (names name) at reply names is skips
change_bound home changes.Share name names at reply is skips = bound_row (names name) at reply names is skips

-- and without one
pub change_unbound : (home : ℕ) (change : Change) (name : List ℕ) (names : Names) → names name ≡ None → next home names (word_of change name) [] Skipped ≡ Some names
change_unbound home changes.Free name names none = unbound_row (names name) names none
change_unbound home changes.Share name names none = unbound_row (names name) names none

-- ---- the enclave of a block

enclave_in : Reply → ℕ
enclave_in (replies.Got at) = at.enclave
enclave_in _ = 0

not_got : (at : Addr) → replies.Got at ≡ replies.BadSize → ⊥
not_got at is = cc

not_got_space : (at : Addr) → replies.Got at ≡ replies.NoSpace → ⊥
not_got_space at is = cc

got_by : (size home : ℕ) (at : Addr) (good : Bool) (found : Option ℕ) → replies.Got at ≡ (if good then plain.alloc_answer size home found else replies.BadSize) → at.enclave ≡ home
unfolding enclave_in
got_by size home at false found is = absurd (not_got at is)
got_by size home at true None is = absurd (not_got_space at is)
got_by size home at true (Some start) is = ap enclave_in is

-- a block that a caller got is of its enclave
pub got_home : (s s' : PassState) (z : Site) (bytes : ℕ) (at : Addr) → s.hand.home ≡ z → HasCalled s (ops.Alloc bytes) (replies.Got at) s' → home_of z s ≡ at.enclave
got_home s s' z bytes at own h = let k = plan_of s in let e : ℕ = enclave_of k s.hand.number in
    ap (λ (q : Site). enclave_of (plan_at q) s.hand.number) (sym own)
    ∙ sym (got_by (sub_bytes k e) e at (plain.is_good_size bytes) (plain.lowest_run (live k h.past e) (subs k e) (plain.subs_for (sub_bytes k e) bytes)) h.legal.step.reply_is)
