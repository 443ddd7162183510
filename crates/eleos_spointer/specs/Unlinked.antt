-- A page that a pass lets go of.
use Rattle.std.specs.Prelude.{◌≡◌, ◌≢◌, ℕ, ◌+◌, [], ◌∷◌, length}
use Rattle.eleos_base.specs.declared.memory.Reply.TheVariants.{Done}
use Rattle.eleos_core.specs.declared.event.Event.TheVariants.{Unlink}
use Rattle.eleos_core.specs.Accesses.{unlink_stamp}
use Rattle.eleos_core.specs.Legal.{CoreStep}
use Rattle.eleos_core.specs.Parts.{page_cell}
use Rattle.eleos_core.specs.State.{History}
use Rattle.eleos_plot.specs.Terms.{core_terms}
use Rattle.eleos_turn.specs.Hands.{Goes, links_on}
use Rattle.eleos_turn.specs.Numbers.{less_one}
use Rattle.eleos_machine.specs.Notes.{after_entry}
use Rattle.eleos_machine.specs.Passes.{IsLawful, PassState, plan_of, seals_of, seen}

-- the pass stamped an unlink of the page and no other entry, at its place in the history that it has seen then. It has one pin and
-- one link less there, and the turns that it had; nothing is said of its pointers.
pub record Unlinks (s : PassState) (page : ℕ) (s' : PassState) : Type 0 where
  pub past : History
  pub goes : Goes core_terms s.hand s'.hand ((length past, unlink_stamp s.hand.number page Done) ∷ [])
  pub sees : seen s' ≡ (unlink_stamp s.hand.number page Done).entry ∷ past
  pub legal : CoreStep (plan_of s) (seals_of s) past (unlink_stamp s.hand.number page Done).entry
  pub turns : s'.hand.turns ≡ s.hand.turns
  pub pins : s'.hand.pins ≡ less_one (page_cell (plan_of s) page) s.hand.pins
  pub link : links_on core_terms s'.hand (page_cell (plan_of s) page) + 1 ≡ links_on core_terms s.hand (page_cell (plan_of s) page)
  pub links : (c : ℕ) → c ≢ page_cell (plan_of s) page → links_on core_terms s'.hand c ≡ links_on core_terms s.hand c
  pub refused : s'.hand.refused ≡ s.hand.refused
  pub rest : s' ≡ record s { hand = s'.hand; draft = unlink_stamp s.hand.number page Done; sweep = after_entry (Unlink page) s.sweep; pointers = s'.pointers }
  pub lawful : IsLawful s'
