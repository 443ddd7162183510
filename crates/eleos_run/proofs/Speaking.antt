-- What is spoken behind a command, from what its call did.
use Rattle.std.proofs.Common.{◌≡◌, ℕ, Bool, true, false, if◌then◌else◌, List, [], ◌∷◌, ◌++◌, length, Some, None, refl, sym, ap, ◌∙◌, arith, append-nil}
use Rattle.eleos_alloc.specs.Calls.{HasCalled}
use Rattle.eleos_base.specs.declared.memory.Op.{Op}
use Rattle.eleos_base.specs.declared.memory.Reply.{Reply}
use Rattle.eleos_core.specs.declared.event.Event.{Event}
use Rattle.eleos_core.specs.declared.event.Event.TheVariants as events
use Rattle.eleos_core.specs.Applying.{stamp_of}
use Rattle.eleos_core.specs.Parts.{Stamp, Made}
use Rattle.eleos_pages.specs.Entered.{Enters}
use Rattle.eleos_pages.specs.Held.{access_stamp}
use Rattle.eleos_machine.specs.Machines.{Site, plan_at}
use Rattle.eleos_machine.specs.Passes.{PassState, last_stamp}
use Rattle.eleos_plot.specs.Terms.{core_terms}
use Rattle.eleos_report.specs.declared.answer.Answer.{Answer}
use Rattle.eleos_report.specs.declared.answer.Answer.TheVariants.{Skipped}
use Rattle.eleos_trace.specs.declared.word.Word.{Word}
use Rattle.eleos_turn.specs.Hands.{Goes, entries}
use Rattle.eleos_run.specs.declared.answers.Spoken.{Spoken}
use Rattle.eleos_meaning.specs.declared.meanings.Meaning.{Meaning}
use Rattle.eleos_meaning.specs.declared.meanings.Meaning.TheVariants.{Nameless}
use Rattle.eleos_ring.specs.declared.call.Called.{Called}
use Rattle.eleos_trace.specs.declared.word.CallWord.{CallWord}
use Rattle.eleos_base.specs.declared.plan.Plan.{Plan}
use Rattle.eleos_trace.specs.declared.word.Word.TheVariants.{Call, SwapRound, SetShare}
use Rattle.eleos_run.specs.Calls.{called_answer}
use Rattle.eleos_run.proofs.CallLines.{called_is}
use Rattle.eleos_meaning.specs.Calls.{answer_of}
use Rattle.eleos_meaning.specs.Meanings.{event_in, event_of, is_illegal, meaning_of}
use Rattle.eleos_base.specs.Places.{all_frames}
use Rattle.eleos_meaning.specs.Table.{is_skipped, next, resolve, when}
use Rattle.eleos_run.proofs.Meanings.{is_reply, nothing_surveyed, some_lines}
use Rattle.eleos_meaning.specs.Told.{Entered, Replied, answer_in, event_answer}
use Rattle.eleos_meaning.specs.Names.{Names}
use Rattle.eleos_run.specs.Steps.{Speaks, home_of}

pub last_snoc : (xs : List Made) (x : Made) → last_stamp (xs ++ x ∷ []) ≡ x.0
last_snoc [] x = refl
last_snoc (y ∷ []) x = refl
last_snoc (y ∷ z ∷ zs) x = last_snoc (z ∷ zs) x

-- a command that means a call resolves to it, whatever is printed
resolve_call : (k : Plan) (names : Names) (command : Word) (reply : Answer) (op : Op) → event_of (meaning_of k names command) ≡ Some (events.Op op) → resolve k names command reply ≡ event_in (meaning_of k names command) reply
resolve_call k names (SwapRound enclave low) reply op meant = absurd (cc)
resolve_call k names (SetShare enclave to) reply op meant = absurd (cc)
resolve_call k names _ reply op meant = refl

-- and a skipped one that means nothing to nothing
resolve_none : (k : Plan) (names : Names) (command : Word) → event_of (meaning_of k names command) ≡ None → resolve k names command Skipped ≡ None
resolve_none k names (SwapRound enclave low) meant = refl
resolve_none k names (SetShare enclave to) meant = refl
resolve_none k names _ meant = meant

-- the pass made one entry, of the command's call
pub one_call : (z : Site) (command : Word) (said : Spoken) (s s' : PassState) (names names' : Names) (op : Op) (n : ℕ) (d : Stamp) → Goes core_terms s.hand s'.hand ((n, d) ∷ []) → s'.hand.turns ≡ [] → s'.hand.pins ≡ s.hand.pins → d.entry.event ≡ events.Op op
    → event_of (meaning_of (plan_at z) names command) ≡ Some (events.Op op)
    → (is_skipped (answer_of d.entry.reply d.entry.blocks) ≡ false → next (home_of z s) names command [] (answer_of d.entry.reply d.entry.blocks) ≡ Some names')
    → said.stamp ≡ Some (last_stamp (entries core_terms s'.hand)) → said.reply ≡ answer_of d.entry.reply d.entry.blocks → Speaks z command [] said s s' names names'
one_call z command said s s' names names' op n d goes turns pins event meant row stamp reply =
    let same : answer_in (Entered (n, d) 0) ≡ answer_of d.entry.reply d.entry.blocks = ap (λ (v : Event). event_answer v d.entry.reply d.entry.blocks 0) event in
    let meaning : Meaning = meaning_of (plan_at z) names command in let plain = is_reply d.entry.reply d.entry.blocks in
    record {
      came = Entered (n, d) 0;
      has_made = record { goes = goes; turns = turns; pins = pins };
      stamp_is = stamp ∙ ap Some (ap last_stamp goes.own ∙ last_snoc (entries core_terms s.hand) (n, d));
      reply_is = reply ∙ sym same;
      gives = (ap (λ (r : Answer). next (home_of z s) names command [] r) same ∙ row plain.0, tt, resolve_call (plan_at z) names command (answer_in (Entered (n, d) 0)) op meant ∙ (ap (λ (r : Answer). event_in meaning r) same ∙ (ap (λ (b : Bool). if b then None else event_of meaning) plain.1 ∙ (meant ∙ ap Some (sym event)))), tt, nothing_surveyed command (answer_in (Entered (n, d) 0)));
      few = some_lines (all_frames (plan_at z)) command;
    }

-- the command's name has no address, and nothing was done
pub no_call : (z : Site) (command : Word) (said : Spoken) (s : PassState) (names : Names) → event_of (meaning_of (plan_at z) names command) ≡ None → next (home_of z s) names command [] Skipped ≡ Some names
    → said.stamp ≡ None → said.reply ≡ Skipped → s.hand.turns ≡ [] → Speaks z command [] said s s names names
no_call z command said s names meant row stamp reply turns = record {
  came = Replied Skipped;
  has_made = record {
    goes = record { home = refl; number = refl; left = omega arith; own = sym (append-nil (entries core_terms s.hand)); more = []; sees = sym (append-nil s.hand.seen) };
    turns = turns;
    pins = refl;
  };
  stamp_is = stamp;
  reply_is = reply;
  gives = (row, tt, resolve_none (plan_at z) names command meant, tt, nothing_surveyed command Skipped);
  few = some_lines (all_frames (plan_at z)) command;
}

-- a call of the host made no entry
no_event : (illegal : Bool) → (if illegal then None else event_of Nameless) ≡ None
no_event true = refl
no_event false = refl

-- a call of the host was answered
pub host_call : (z : Site) (call : CallWord) (bytes : List ℕ) (room : ℕ) (called : Called) (left : List ℕ) (said : Spoken) (s : PassState) (names : Names) → said.stamp ≡ None → said.reply ≡ called_answer called left → s.hand.turns ≡ [] → Speaks z (Call call bytes room) [] said s s names names
host_call z call bytes room called left said s names stamp reply turns = record {
  came = Replied (called_answer called left);
  has_made = record {
    goes = record { home = refl; number = refl; left = omega arith; own = sym (append-nil (entries core_terms s.hand)); more = []; sees = sym (append-nil s.hand.seen) };
    turns = turns;
    pins = refl;
  };
  stamp_is = stamp;
  reply_is = reply;
  gives = (ap (λ (b : Bool). when b names) (called_is called left), tt, no_event (is_illegal (called_answer called left)), tt, tt);
  few = omega arith;
}

-- by a call on blocks
pub block_call : (z : Site) (command : Word) (said : Spoken) (s s' : PassState) (names names' : Names) (op : Op) (reply : Reply) → HasCalled s op reply s' → s.hand.turns ≡ []
    → event_of (meaning_of (plan_at z) names command) ≡ Some (events.Op op) → (is_skipped (answer_of reply []) ≡ false → next (home_of z s) names command [] (answer_of reply []) ≡ Some names')
    → said.stamp ≡ Some (last_stamp (entries core_terms s'.hand)) → said.reply ≡ answer_of reply [] → Speaks z command [] said s s' names names'
block_call z command said s s' names names' op reply h idle meant row stamp printed =
    one_call z command said s s' names names' op h.place (stamp_of s.hand.number (events.Op op) [] reply h.len) h.one (h.turns ∙ idle) h.pins refl meant row stamp printed

-- by an access
pub access_call : (z : Site) (command : Word) (said : Spoken) (s s' : PassState) (names : Names) (op : Op) (blocks : List (List ℕ)) (reply : Reply) → Enters s (access_stamp s op blocks reply) [] s'
    → event_of (meaning_of (plan_at z) names command) ≡ Some (events.Op op) → (is_skipped (answer_of reply blocks) ≡ false → next (home_of z s) names command [] (answer_of reply blocks) ≡ Some names)
    → said.stamp ≡ Some (last_stamp (entries core_terms s'.hand)) → said.reply ≡ answer_of reply blocks → Speaks z command [] said s s' names names
access_call z command said s s' names op blocks reply h meant row stamp printed =
    one_call z command said s s' names names op (length h.past) (access_stamp s op blocks reply) h.goes h.turns h.pins refl meant row stamp printed
