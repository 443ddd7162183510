-- A command's own line is of no evict.
use Rattle.std.proofs.Common.{◌≡◌, ℕ, List, Some, sym, subst}
use Rattle.eleos_base.specs.declared.memory.Op.TheVariants as ops
use Rattle.eleos_base.specs.declared.plan.Plan.{Plan}
use Rattle.eleos_core.specs.declared.event.Event.{Event}
use Rattle.eleos_core.specs.declared.event.Event.TheVariants as events
use Rattle.eleos_core.specs.Parts.{Entries}
use Rattle.eleos_core.specs.Seals.{Seals}
use Rattle.eleos_report.specs.declared.answer.Answer.{Answer}
use Rattle.eleos_report.specs.declared.answer.Answer.TheVariants.{Enough, Swept, Reached, Short, Pinned}
use Rattle.eleos_trace.specs.declared.word.Word.{Word}
use Rattle.eleos_trace.specs.declared.word.Word.TheVariants.{Alloc, Free, Share, Read, Write, SwapRound, SetShare, Call}
use Rattle.eleos_meaning.specs.Calls.{at_offset}
use Rattle.eleos_meaning.specs.Meanings.{is_illegal}
use Rattle.eleos_meaning.specs.Names.{Names}
use Rattle.eleos_meaning.specs.Table.{Means, Shown, next, resolve, round_event, share_event}
use Rattle.eleos_meaning.specs.Told.{Came, Entered, Replied, answer_in}
use Rattle.eleos_run.specs.Counts.{IsCounted}
use Rattle.eleos_run.proofs.Meanings.{alone_is, called, no_event, no_row, not_some, some_is}

-- the event is no evict
abbrev IsNoEvict : Event → Type 0
IsNoEvict (events.Evict page frame) = ⊥
IsNoEvict _ = Unit {0}

none_as : (a b : Event) → b ≡ a → IsNoEvict a → IsNoEvict b
none_as a b is none = subst IsNoEvict (sym is) none

round_none : (enclave low : ℕ) (reply : Answer) (event : Event) → round_event enclave low reply ≡ Some event → IsNoEvict event
round_none enclave low (Enough free sweep) event is = none_as _ event (sym (some_is _ event is)) tt
round_none enclave low (Swept free sweep) event is = none_as _ event (sym (some_is _ event is)) tt
round_none enclave low _ event is = absurd (not_some event is)

share_none : (enclave to : ℕ) (reply : Answer) (event : Event) → share_event enclave to reply ≡ Some event → IsNoEvict event
share_none enclave to (Reached share) event is = none_as _ event (sym (some_is _ event is)) tt
share_none enclave to (Short share sweep) event is = none_as _ event (sym (some_is _ event is)) tt
share_none enclave to (Pinned share sweep) event is = none_as _ event (sym (some_is _ event is)) tt
share_none enclave to _ event is = absurd (not_some event is)

own_none : (k : Plan) (home : ℕ) (names : Names) (word : Word) (way : List Shown) (row printed : Answer) (after : Names) (event : Event) → next home names word way row ≡ Some after → resolve k names word printed ≡ Some event → IsNoEvict event
own_none k home names (Alloc name bytes) way row reply after event stands is = none_as (events.Op (ops.Alloc bytes)) event (alone_is (ops.Alloc bytes) (is_illegal reply) event is) tt
own_none k home names (Free name) way row reply after event stands is = let m = called (λ at. ops.Free at) (names name) (is_illegal reply) event is in none_as (events.Op (ops.Free m.0)) event m.1 tt
own_none k home names (Share name) way row reply after event stands is = let m = called (λ at. ops.Share at) (names name) (is_illegal reply) event is in none_as (events.Op (ops.Share m.0)) event m.1 tt
own_none k home names (Read name offset len) way row reply after event stands is = let m = called (λ at. ops.Read (at_offset at offset) len) (names name) (is_illegal reply) event is in none_as (events.Op (ops.Read (at_offset m.0 offset) len)) event m.1 tt
own_none k home names (Write name offset bytes) way row reply after event stands is = let m = called (λ at. ops.Write (at_offset at offset) bytes) (names name) (is_illegal reply) event is in none_as (events.Op (ops.Write (at_offset m.0 offset) bytes)) event m.1 tt
own_none k home names (SwapRound enclave low) way row reply after event stands is = round_none enclave low reply event is
own_none k home names (SetShare enclave to) way row reply after event stands is = share_none enclave to reply event is
own_none k home names (Call call bytes room) way row reply after event stands is = absurd (no_event (is_illegal reply) event is)
own_none k home names _ way row reply after event stands is = absurd (no_row after stands)

-- so it tells no number of blocks
pub own_counted : (k : Plan) (x : Seals) (h : Entries) (home : ℕ) (names : Names) (word : Word) (way : List Shown) (came : Came) (after : Names) → next home names word way (answer_in came) ≡ Some after → Means k names word came → IsCounted k x h came
own_counted k x h home names word way (Replied reply) after stands means = tt
own_counted k x h home names word way (Entered one puts) after stands means =
    λ page frame is. absurd (subst IsNoEvict is (own_none k home names word way (answer_in (Entered one puts)) (answer_in (Entered one puts)) after one.1.entry.event stands means))
