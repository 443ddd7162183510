-- One entry of a pass: where it stands, after what, and what stays of the pass.
use Rattle.std.specs.Prelude.{◌≡◌, ℕ, ◌<◌, List, [], ◌∷◌, length}
use Rattle.eleos_base.specs.Plans.{IsCaller}
use Rattle.eleos_core.specs.Legal.{CoreStep}
use Rattle.eleos_core.specs.Parts.{Stamp}
use Rattle.eleos_core.specs.State.{History}
use Rattle.eleos_plot.specs.Terms.{core_terms}
use Rattle.eleos_turn.specs.Hands.{Goes, links_on}
use Rattle.eleos_machine.specs.Machines.{Site, plan_at}
use Rattle.eleos_machine.specs.Notes.{after_entry}
use Rattle.eleos_machine.specs.Passes.{PassState, plan_of, seals_of, seen}

-- the pass is a caller's of this machine, has no turn, and has a stamp left
pub record CanCall (z : Site) (s : PassState) : Type 0 where
  pub own : s.hand.home ≡ z
  pub caller : IsCaller (plan_at z) s.hand.number
  pub no_turn : s.hand.turns ≡ []
  pub left : 0 < s.hand.left

-- the pass stamped this entry and no other one, at its place in the history that it has seen then; it has these turns left, and its pins, its links and its last refusal are as before
pub record Enters (s : PassState) (d : Stamp) (held : List ℕ) (s' : PassState) : Type 0 where
  pub past : History
  pub goes : Goes core_terms s.hand s'.hand ((length past, d) ∷ [])
  pub sees : seen s' ≡ d.entry ∷ past
  pub legal : CoreStep (plan_of s) (seals_of s) past d.entry
  pub turns : s'.hand.turns ≡ held
  pub pins : s'.hand.pins ≡ s.hand.pins
  pub links : (c : ℕ) → links_on core_terms s'.hand c ≡ links_on core_terms s.hand c
  pub refused : s'.hand.refused ≡ s.hand.refused
  -- all but the hand and the draft stays, and the notes are older by an entry
  pub rest : s' ≡ record s { hand = s'.hand; draft = s'.draft; sweep = after_entry d.entry.event s.sweep }
