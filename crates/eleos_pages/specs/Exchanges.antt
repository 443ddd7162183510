-- What the host gave and took for the entries of a history.
use Rattle.std.specs.Prelude.{◌≡◌, ℕ, List, [], ◌∷◌, ◌++◌, take}
use Rattle.std.specs.List.{AllByRecursion}
use Rattle.eleos_base.specs.declared.plan.Plan.{Plan}
use Rattle.eleos_core.specs.declared.event.Entry.{Entry}
use Rattle.eleos_core.specs.Applying.{puts_of}
use Rattle.eleos_core.specs.Parts.{Entries, Made}
use Rattle.eleos_core.specs.Seals.{Seals}
use Rattle.eleos_core.specs.State.{History, places}
use Rattle.eleos_machine.specs.Machines.{Site, plan_at, seals_at}
use Rattle.eleos_machine.specs.Passes.{PassState}
use Rattle.eleos_plot.specs.Histories.{history_of}
use Rattle.eleos_plot.specs.Terms.{core_terms}
use Rattle.eleos_turn.specs.Hands.{entries}

-- `gave` and `took` say which block a host gave, and which it took, for a place
module _ (gave took : ℕ → List ℕ → Type 0) where
  -- the host gave each of these blocks for its place
  abbrev pub AreGiven : List ℕ → List (List ℕ) → Type 0
  AreGiven [] blocks = Unit {0}
  AreGiven (place ∷ places) [] = Unit {0}
  AreGiven (place ∷ places) (block ∷ blocks) = gave place block × AreGiven places blocks

  -- the host gave the blocks that came for the entry, each for its place, and took the block of each of its sealings, each for its place
  pub record HasExchanged (k : Plan) (x : Seals) (past : History) (e : Entry) : Type 0 where
    pub given : AreGiven (places k e.event past) e.blocks
    pub taken : AllByRecursion (λ (q : ℕ × List ℕ). took q.0 q.1) (puts_of k x e past)

  -- so it did for each entry of the history
  abbrev pub AllExchanged : Plan → Seals → History → Type 0
  AllExchanged k x [] = Unit {0}
  AllExchanged k x (e ∷ past) = HasExchanged k x past e × AllExchanged k x past

  module _ (z : Site) where
    -- so it did for these entries of a history of the machine, each at its place
    abbrev pub AreExchanged : Entries → List Made → Type 0
    AreExchanged h [] = Unit {0}
    AreExchanged h (one ∷ made) = HasExchanged (plan_at z) (seals_at z) (history_of (take one.0 h)) one.1.entry × AreExchanged h made

    -- so it did for the entries that the pass made since
    abbrev pub Exchanges : PassState → PassState → Type 0
    Exchanges s s' = (made : List Made) → entries core_terms s'.hand ≡ entries core_terms s.hand ++ made → AreExchanged s'.hand.seen made
