-- A call on a desk: what it leaves of the pass, and what its answer may be.
use Rattle.std.proofs.Common.{◌≡◌, ℕ, List, [], ◌∷◌, length, Result, IsOk, IfOk, IfErr, refl, sym, ◌∙◌, ap, subst, arith}
use Rattle.std.proofs.Math.Logic.{∥∥₁_map}
use Rattle.eleos_base.specs.declared.memory.Addr.{Addr}
use Rattle.eleos_base.specs.declared.memory.Op.{Op as Calls}
use Rattle.eleos_base.specs.declared.memory.Op.TheVariants.{Alloc, Free, Read, Write}
use Rattle.eleos_base.specs.declared.memory.Reply.{Reply}
use Rattle.eleos_base.specs.declared.refusals.AccessRefused.{AccessRefused}
use Rattle.eleos_base.specs.declared.refusals.AllocRefused.{AllocRefused}
use Rattle.eleos_base.specs.declared.refusals.BlockRefused.{BlockRefused}
use Rattle.eleos_base.specs.Answers.{alloc_reply, block_reply, read_reply, write_reply}
use Rattle.eleos_base.specs.Own.{IsNew, IsOwnRange, IsOwnStart, Said, block_of, own}
use Rattle.eleos_base.specs.Plans.{IsCaller, IsGood}
use Rattle.eleos_base.specs.SubMemory.{HasMade, IsReadFault, IsWriteFault}
use Rattle.eleos_core.specs.declared.event.Event.TheVariants.{Op}
use Rattle.eleos_core.specs.Applying.{stamp_of}
use Rattle.eleos_core.specs.Legal.{CoreRun, CoreStep}
use Rattle.eleos_core.specs.OwnLaws.{calls_by}
use Rattle.eleos_core.specs.Parts.{Stamp}
use Rattle.eleos_core.specs.State.{History, calls, entry}
use Rattle.eleos_host.specs.declared.port.HostPort.{Ghosts}
use Rattle.eleos_host.specs.declared.port.HostStore as store
use Rattle.eleos_host.specs.Taps.{TapState}
use Rattle.eleos_machine.specs.Machines.{Site, plan_at, seals_at}
use Rattle.eleos_machine.specs.Passes.{IsLawful, PassState, plan_of, seals_of, seen}
use Rattle.eleos_plot.specs.Terms.{core_terms}
use Rattle.eleos_turn.specs.Hands.{Goes, entries, own as own_entries}
use Rattle.eleos_alloc.specs.Calls.{HasCalled}
use Rattle.eleos_pages.specs.Crossed.{came}
use Rattle.eleos_pages.specs.Exchanges.{AreExchanged, Exchanges, HasExchanged}
use Rattle.eleos_pages.proofs.Crossing.{none_taken}
use Rattle.eleos_pages.proofs.Exchanging.{exchanged_append, exchanged_last, exchanged_later, exchanges_these}
use Rattle.eleos_direct.specs.Accesses.{HasAccessed}
use Rattle.eleos_direct.specs.Desks.{IsAtDesk, IsExchanged, calls_made, calls_of, desk_state}
use Rattle.eleos_direct.proofs.OwnCalls.{calls_before, calls_made-append, free_done, fresh, read_own, write_own}

-- the pass stamped just this call, with the blocks that came for it, and has no turn
pub record StampedCall (s : PassState) (op : Calls) (blocks : List (List ℕ)) (reply : Reply) (s' : PassState) : Type 0 where
  pub len : ℕ
  pub past : History
  pub goes : Goes core_terms s.hand s'.hand ((length past, stamp_of s.hand.number (Op op) blocks reply len) ∷ [])
  pub sees : seen s' ≡ entry s.hand.number (Op op) blocks reply ∷ past
  pub legal : CoreStep (plan_of s) (seals_of s) past (entry s.hand.number (Op op) blocks reply)
  pub no_turn : s'.hand.turns ≡ []

-- a call on blocks
pub by_call : (s : PassState) (op : Calls) (reply : Reply) (s' : PassState) → s.hand.turns ≡ [] → HasCalled s op reply s' → StampedCall s op [] reply s'
by_call s op reply s' none made = record {
  len = made.len;
  past = made.past;
  goes = subst (λ (n : ℕ). Goes core_terms s.hand s'.hand ((n, stamp_of s.hand.number (Op op) [] reply made.len) ∷ [])) made.at made.one;
  sees = made.sees;
  legal = made.legal;
  no_turn = made.turns ∙ none;
}

-- an access
pub by_access : {P : Type 0} (port : Ghosts P) (host : store.Ghosts P) (s : PassState) (before : TapState P) (at : Addr) (op : Calls) (reply : Reply) (s' : PassState) (tap : TapState P)
    → HasAccessed port host s before at op reply s' tap → StampedCall s op (came tap) reply s'
by_access port host s before at op reply s' tap made = record {
  len = 0;
  past = made.entered.past;
  goes = made.entered.goes;
  sees = made.entered.sees;
  legal = made.entered.legal;
  no_turn = made.entered.turns;
}

module _ (z : Site) (s : PassState) (desk : IsAtDesk z s) (op : Calls) (blocks : List (List ℕ)) (reply : Reply) (s' : PassState) (made : StampedCall s op blocks reply s') where
  abbrev stamped : Stamp
  stamped = stamp_of s.hand.number (Op op) blocks reply made.len

  -- the desk has made just this call
  pub called : (pass tap : ℕ) → HasMade (desk_state z s pass tap) ((op, reply) ∷ []) (desk_state z s' pass tap)
  called pass tap = record {
    origin = λ i. record { machine = z; number = made.goes.number i; pass = pass; tap = tap };
    calls = ap calls_made made.goes.own ∙ calls_made-append (entries core_terms s.hand) ((length made.past, stamped) ∷ []);
    left = (let left = made.goes.left in omega arith);
  }

  -- and is one still
  pub still : IsAtDesk z s'
  still = record {
    own = made.goes.home ∙ desk.own;
    caller = subst (IsCaller (plan_at z)) (sym made.goes.number) desk.caller;
    no_turn = made.no_turn;
  }

  -- what was exchanged before and for the call is all that was
  pub all_exchanged : (gave took : ℕ → List ℕ → Type 0) → Exchanges gave took z s s' → IsExchanged gave took z s → IsExchanged gave took z s'
  all_exchanged gave took more old = ∥∥₁_map old (λ all. subst (AreExchanged gave took z s'.hand.seen) (sym made.goes.own)
      (exchanged_append gave took z s'.hand.seen (entries core_terms s.hand) ((length made.past, stamped) ∷ [])
      (exchanged_later gave took z s s'.hand.seen [] (entries core_terms s.hand) refl made.goes.more made.goes.sees all)
      (more ((length made.past, stamped) ∷ []) made.goes.own)))

  -- for a call that exchanges nothing
  pub quiet : (gave took : ℕ → List ℕ → Type 0) → HasExchanged gave took (plan_at z) (seals_at z) made.past (entry s.hand.number (Op op) blocks reply) → Exchanges gave took z s s'
  quiet gave took one = exchanges_these gave took z s s' ((length made.past, stamped) ∷ []) made.goes (exchanged_last gave took z s'.hand.seen stamped made.past made.sees one)

  -- the laws of private memory hold before the call
  module _ (lawful : IsLawful s') where
    pub good : IsGood (plan_of s)
    good = subst (λ (y : Site). IsGood (plan_at y)) made.goes.home lawful.machine.opening.good

    pub run : CoreRun (plan_of s) (seals_of s) made.past
    run = (subst (CoreRun (plan_of s) (seals_of s)) made.sees (subst (λ (y : Site). CoreRun (plan_at y) (seals_at y) (seen s')) made.goes.home lawful.run.legal)).1

    pub caller : IsCaller (plan_of s) s.hand.number
    caller = subst (λ (y : Site). IsCaller (plan_at y) s.hand.number) (sym desk.own) desk.caller

    pub before : calls_by s.hand.number (calls made.past) ≡ calls_of s
    before = calls_before (plan_of s) s.hand.number (length made.past) op blocks reply made.len made.past s'.hand.seen (entries core_terms s.hand) made.sees
        (ap (λ (w : ℕ). own_entries core_terms w 0 s'.hand.seen) (sym made.goes.number) ∙ made.goes.own)

-- a block that the desk gets is new
pub gets_new : (z : Site) (s : PassState) → IsAtDesk z s → (n : ℕ) (r : Result Addr AllocRefused) (s' : PassState) → StampedCall s (Alloc n) [] (alloc_reply r) s' → IsLawful s'
    → IfOk r (λ (at : Addr). IsNew 1024 (own 1024 (calls_of s)) (block_of 1024 at n))
gets_new z s desk n r s' made lawful =
    subst (λ (cs : List Said). IfOk r (λ (at : Addr). IsNew 1024 (own 1024 cs) (block_of 1024 at n))) (before z s desk (Alloc n) [] (alloc_reply r) s' made lawful)
    (fresh (plan_of s) s.hand.home.base.grounds.key (good z s desk (Alloc n) [] (alloc_reply r) s' made lawful) made.past (run z s desk (Alloc n) [] (alloc_reply r) s' made lawful)
    s.hand.number (caller z s desk (Alloc n) [] (alloc_reply r) s' made lawful) n r made.legal)

-- a private block that it frees is freed
pub frees_own : (z : Site) (s : PassState) → IsAtDesk z s → (at : Addr) (r : Result (Unit {0}) BlockRefused) (s' : PassState) → StampedCall s (Free at) [] (block_reply r) s' → IsLawful s'
    → IsOwnStart (own 1024 (calls_of s)) at → IsOk r
frees_own z s desk at r s' made lawful =
    subst (λ (cs : List Said). IsOwnStart (own 1024 cs) at → IsOk r) (before z s desk (Free at) [] (block_reply r) s' made lawful)
    (free_done (plan_of s) s.hand.home.base.grounds.key (good z s desk (Free at) [] (block_reply r) s' made lawful) made.past (run z s desk (Free at) [] (block_reply r) s' made lawful)
    s.hand.number (caller z s desk (Free at) [] (block_reply r) s' made lawful) at r made.legal)

-- a read of a private range is refused only as tampered
pub reads_own : (z : Site) (s : PassState) → IsAtDesk z s → (at : Addr) (n : ℕ) (blocks : List (List ℕ)) (r : Result (Unit {0}) AccessRefused) (text : List ℕ) (s' : PassState)
    → StampedCall s (Read at n) blocks (read_reply r text) s' → IsLawful s' → IsOwnRange 1024 (own 1024 (calls_of s)) at n → IfErr r IsReadFault
reads_own z s desk at n blocks r text s' made lawful =
    subst (λ (cs : List Said). IsOwnRange 1024 (own 1024 cs) at n → IfErr r IsReadFault) (before z s desk (Read at n) blocks (read_reply r text) s' made lawful)
    (read_own (plan_of s) s.hand.home.base.grounds.key (good z s desk (Read at n) blocks (read_reply r text) s' made lawful) made.past (run z s desk (Read at n) blocks (read_reply r text) s' made lawful)
    s.hand.number (caller z s desk (Read at n) blocks (read_reply r text) s' made lawful) at n blocks r text made.legal)

-- a write only as worn or tampered
pub writes_own : (z : Site) (s : PassState) → IsAtDesk z s → (at : Addr) (bytes : List ℕ) (blocks : List (List ℕ)) (r : Result (Unit {0}) AccessRefused) (s' : PassState)
    → StampedCall s (Write at bytes) blocks (write_reply r) s' → IsLawful s' → IsOwnRange 1024 (own 1024 (calls_of s)) at (length bytes) → IfErr r IsWriteFault
writes_own z s desk at bytes blocks r s' made lawful =
    subst (λ (cs : List Said). IsOwnRange 1024 (own 1024 cs) at (length bytes) → IfErr r IsWriteFault) (before z s desk (Write at bytes) blocks (write_reply r) s' made lawful)
    (write_own (plan_of s) s.hand.home.base.grounds.key (good z s desk (Write at bytes) blocks (write_reply r) s' made lawful) made.past (run z s desk (Write at bytes) blocks (write_reply r) s' made lawful)
    s.hand.number (caller z s desk (Write at bytes) blocks (write_reply r) s' made lawful) at bytes blocks r made.legal)

module _ (gave took : ℕ → List ℕ → Type 0) (z : Site) (s : PassState) (desk : IsAtDesk z s) (op : Calls) (blocks : List (List ℕ)) (reply : Reply) (s' : PassState) (made : StampedCall s op blocks reply s') where
  -- the desk's facts after a call that is no write and no read
  pub still_quiet : IsExchanged gave took z s → HasExchanged gave took (plan_at z) (seals_at z) made.past (entry s.hand.number (Op op) blocks reply) → IsAtDesk z s' × IsExchanged gave took z s'
  still_quiet old one = (still z s desk op blocks reply s' made, all_exchanged z s desk op blocks reply s' made gave took (quiet z s desk op blocks reply s' made gave took one) old)

  -- and after one of which it is known what was exchanged
  pub still_exchanged : IsExchanged gave took z s → Exchanges gave took z s s' → IsAtDesk z s' × IsExchanged gave took z s'
  still_exchanged old more = (still z s desk op blocks reply s' made, all_exchanged z s desk op blocks reply s' made gave took more old)

-- nothing is exchanged for an alloc and for a free
pub alloc_exchanged : (gave took : ℕ → List ℕ → Type 0) (z : Site) (past : History) (who n : ℕ) (reply : Reply) → HasExchanged gave took (plan_at z) (seals_at z) past (entry who (Op (Alloc n)) [] reply)
alloc_exchanged gave took z past who n reply = record { given = tt; taken = none_taken gave took (plan_at z) (seals_at z) past who (Alloc n) [] reply tt }

pub free_exchanged : (gave took : ℕ → List ℕ → Type 0) (z : Site) (past : History) (who : ℕ) (at : Addr) (reply : Reply) → HasExchanged gave took (plan_at z) (seals_at z) past (entry who (Op (Free at)) [] reply)
free_exchanged gave took z past who at reply = record { given = tt; taken = none_taken gave took (plan_at z) (seals_at z) past who (Free at) [] reply tt }
