-- What is exchanged with the host for a command.
use Rattle.std.proofs.Common.{ℕ, List, [], ◌∷◌, take, sym, subst}
use Rattle.eleos_base.specs.declared.memory.Addr.{Addr}
use Rattle.eleos_base.specs.declared.memory.Op.{Op}
use Rattle.eleos_base.specs.declared.memory.Op.TheVariants as ops
use Rattle.eleos_base.specs.declared.memory.Reply.{Reply}
use Rattle.eleos_base.specs.declared.plan.Plan.{Plan}
use Rattle.eleos_core.specs.declared.event.Entry.{Entry}
use Rattle.eleos_core.specs.declared.event.Event as events
use Rattle.eleos_core.specs.declared.event.Event.TheVariants.{Op as ACall}
use Rattle.eleos_core.specs.Parts.{Made, Entries}
use Rattle.eleos_core.specs.Seals.{Seals}
use Rattle.eleos_core.specs.State.{History, entry, places}
use Rattle.eleos_pages.specs.Entered.{Enters}
use Rattle.eleos_pages.specs.Held.{access_stamp}
use Rattle.eleos_machine.specs.Machines.{Site, plan_at, seals_at}
use Rattle.eleos_machine.specs.Passes.{PassState}
use Rattle.eleos_trace.specs.declared.word.Word.{Word}
use Rattle.eleos_run.specs.declared.answers.Spoken.{Spoken}
use Rattle.eleos_pages.specs.Exchanges.{AreExchanged, Exchanges, HasExchanged}
use Rattle.eleos_meaning.specs.Names.{Names}
use Rattle.eleos_run.specs.Steps.{AreOnBlocks, HasMadeOnBlocks, IsOnBlocks, Speaks}
use Rattle.eleos_meaning.specs.Told.{made_of}
use Rattle.eleos_run.proofs.Meanings.{IsBlockWord, means_on}
use Rattle.eleos_plot.specs.Histories.{history_of}
use Rattle.eleos_pages.proofs.Crossing.{entry_exchanges, none_given, none_taken}
use Rattle.eleos_pages.proofs.Exchanging.{exchanges_these}

module _ (gave took : ℕ → List ℕ → Type 0) where
  block_exchanged : (k : Plan) (x : Seals) (past : History) (who : ℕ) (op : Op) (blocks : List (List ℕ)) (reply : Reply) → IsOnBlocks op → HasExchanged gave took k x past (entry who (ACall op) blocks reply)
  block_exchanged k x past who (ops.Alloc n) blocks reply on = record { given = tt; taken = none_taken gave took k x past who (ops.Alloc n) blocks reply tt }
  block_exchanged k x past who (ops.Free at) blocks reply on = record { given = tt; taken = none_taken gave took k x past who (ops.Free at) blocks reply tt }
  block_exchanged k x past who (ops.Share at) blocks reply on = record { given = tt; taken = none_taken gave took k x past who (ops.Share at) blocks reply tt }
  block_exchanged k x past who (ops.Read at n) blocks reply on = absurd on
  block_exchanged k x past who (ops.Write at bytes) blocks reply on = absurd on

  module _ (z : Site) where
    made_exchanged : (made : List Made) (h : Entries) → AreOnBlocks made → AreExchanged gave took z h made
    made_exchanged [] h on = tt
    made_exchanged (one ∷ made) h on = let e : Entry = one.1.entry in let op : Op = on.0.0 in
        (subst (λ (v : events.Event). HasExchanged gave took (plan_at z) (seals_at z) (history_of (take one.0 h)) (entry e.who v e.blocks e.reply)) (sym on.0.1) (block_exchanged (plan_at z) (seals_at z) _ e.who op e.blocks e.reply on.0.2), made_exchanged made h on.1)

    -- entries of calls on blocks
    pub on_blocks_exchange : (s s' : PassState) → HasMadeOnBlocks s s' → Exchanges gave took z s s'
    on_blocks_exchange s s' q = exchanges_these gave took z s s' q.made q.goes (made_exchanged q.made s'.hand.seen q.on)

    -- a command on a block
    pub block_exchanges : (command : Word) (said : Spoken) (s s' : PassState) (names names' : Names) → IsBlockWord command → Speaks z command [] said s s' names names' → Exchanges gave took z s s'
    block_exchanges command said s s' names names' on speaks =
        on_blocks_exchange s s' (record { made = made_of speaks.came; goes = speaks.has_made.goes; on = means_on (plan_at z) names command speaks.came on speaks.gives.2 })

    -- a read that is out of range
    pub refused_exchanges : (s s' : PassState) (at : Addr) (n : ℕ) (reply : Reply) → Enters s (access_stamp s (ops.Read at n) [] reply) [] s' → Exchanges gave took z s s'
    refused_exchanges s s' at n reply enters = entry_exchanges gave took z s s' (access_stamp s (ops.Read at n) [] reply) [] enters
        (record { given = none_given gave took (places (plan_at z) (ACall (ops.Read at n)) enters.past); taken = none_taken gave took (plan_at z) (seals_at z) enters.past s.hand.number (ops.Read at n) [] reply tt })
