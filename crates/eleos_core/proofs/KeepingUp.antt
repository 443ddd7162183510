-- The cells after an entry: those that it touches are what it makes of them, and the others are as before.
use Rattle.std.proofs.Common.{◌≡◌, ℕ, List, ◌∷◌, refl, sym}
use Rattle.eleos_base.specs.declared.memory.Reply.{Reply}
use Rattle.eleos_base.specs.declared.plan.Plan.{Plan}
use Rattle.eleos_base.specs.Plans.{IsGood}
use Rattle.eleos_core.specs.declared.event.Event.{Event}
use Rattle.eleos_core.specs.Legal.{CoreRun, CoreStep}
use Rattle.eleos_core.specs.PartLaws.{IsLenOf, PartsFollow}
use Rattle.eleos_core.specs.Parts.{Stamp, cell_of, part_after, part_of}
use Rattle.eleos_core.specs.Seals.{Seals}
use Rattle.eleos_core.specs.State.{History, entry}
use Rattle.eleos_core.proofs.CellNumbers.{by_cell}
use Rattle.eleos_core.proofs.Covering.{InOrder}
use Rattle.eleos_core.proofs.Ordered.{HasNoEmptyBlock, in_order}
use Rattle.eleos_core.proofs.SubParts.{page_agrees}
use Rattle.eleos_core.proofs.Quiet.{quiet}

module _ (k : Plan) (x : Seals) (past : History) where
  -- each cell after the entry
  follows : IsGood k → InOrder k x past → (who : ℕ) (event : Event) (blocks : List (List ℕ)) (reply : Reply) (len : ℕ) → CoreStep k x past (entry who event blocks reply) → IsLenOf k past who event len
      → (c : ℕ) → part_after k x (record { entry = entry who event blocks reply; len = len }) (cell_of k c) (part_of k x past (cell_of k c)) ≡ part_of k x (entry who event blocks reply ∷ past) (cell_of k c)
  follows good order who event blocks reply len step is_len = by_cell k (λ c cell. part_after k x (record { entry = entry who event blocks reply; len = len }) cell (part_of k x past cell) ≡ part_of k x (entry who event blocks reply ∷ past) cell)
      (λ e _. refl) (λ e _. refl) refl (λ p exists. page_agrees k x past good order who event blocks reply len p step is_len exists) (λ g _. refl) (λ c. refl)

-- the cells keep up with the history, where no header block is empty
pub keep_up : (k : Plan) → HasNoEmptyBlock k → (x : Seals) (past : History) (d : Stamp) → IsGood k → CoreRun k x past → CoreStep k x past d.entry → IsLenOf k past d.entry.who d.entry.event d.len → PartsFollow k x past d
keep_up k full x past d good run step is_len =
    let order = in_order k x full past run in
    record {
      touched = λ c _. sym (follows k x past good order d.entry.who d.entry.event d.entry.blocks d.entry.reply d.len step is_len c);
      others = λ c out. quiet k x past good order d.entry.who d.entry.event d.entry.blocks d.entry.reply d.len step is_len c out;
    }
