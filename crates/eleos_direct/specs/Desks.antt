-- A caller's pass at its machine, as a memory with one owner.
use Rattle.std.specs.Prelude.{◌≡◌, ℕ, List, [], ◌∷◌, ◌++◌, map}
use Rattle.eleos_base.specs.Own.{Said}
use Rattle.eleos_base.specs.Plain.{Call}
use Rattle.eleos_base.specs.Plans.{IsCaller}
use Rattle.eleos_base.specs.SubMemory.{MemoryState}
use Rattle.eleos_core.specs.Parts.{Made}
use Rattle.eleos_core.specs.State.{call_of}
use Rattle.eleos_machine.specs.Machines.{Site, plan_at}
use Rattle.eleos_machine.specs.Passes.{PassState}
use Rattle.eleos_pages.specs.Exchanges.{AreExchanged}
use Rattle.eleos_plot.specs.Terms.{core_terms}
use Rattle.eleos_turn.specs.Hands.{entries}

-- what a desk was made with: its machine, the number of its pass, and the names of its references to the pass and to the tap
pub record DeskOrigin : Type 0 where
  pub machine : Site
  pub number : ℕ
  pub pass : ℕ
  pub tap : ℕ

-- the origin of no desk
abbrev pub no_desk : DeskOrigin
no_desk = record {
  machine = record {
    table = record { words = 0; slots = 0; views_name = 0; atom = 0; block = 0; offset = 0; slot_names = [] };
    base = record { grounds = record { plan = record { enclaves = []; spare = 0; callers = []; wear = 0; blocks = [] }; key = [] }; opening = []; hands = 0; each = 0 };
  };
  number = 0;
  pass = 0;
  tap = 0;
}

-- the calls that these entries answer, with their replies, in the order of the entries
abbrev pub calls_made : List Made → List Said
calls_made [] = []
calls_made (one ∷ made) = map (λ (c : Call). (c.op, c.reply)) (call_of one.1.entry.who one.1.entry.event one.1.entry.reply) ++ calls_made made

-- the calls that the pass made, with their replies
abbrev pub calls_of : PassState → List Said
calls_of s = calls_made (entries core_terms s.hand)

-- a pass at its machine as a memory, where the references to the pass and to its tap have these names
abbrev pub desk_state : Site → PassState → ℕ → ℕ → MemoryState DeskOrigin
desk_state z s pass tap = record {
  origin = record { machine = z; number = s.hand.number; pass = pass; tap = tap };
  calls = calls_of s;
  left = s.hand.left;
}

-- the pass is a caller's of this machine, and has no turn
pub record IsAtDesk (z : Site) (s : PassState) : Type 0 where
  pub own : s.hand.home ≡ z
  pub caller : IsCaller (plan_at z) s.hand.number
  pub no_turn : s.hand.turns ≡ []

-- for each entry that the pass made the host gave the blocks that came for it, and took the blocks that it seals
abbrev pub IsExchanged : (ℕ → List ℕ → Type 0) → (ℕ → List ℕ → Type 0) → Site → PassState → Type 0
IsExchanged gave took z s = ∥ AreExchanged gave took z s.hand.seen (entries core_terms s.hand) ∥₁
