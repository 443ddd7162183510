-- When a pass may stamp its draft, and what the stamp does.
use Rattle.std.specs.Prelude.{◌≡◌, ℕ, ◌<◌, List, [], ◌∷◌, length, true}
use Rattle.eleos_core.specs.declared.event.Event.{Event}
use Rattle.eleos_core.specs.declared.event.Event.TheVariants.{Starved, Survey}
use Rattle.eleos_base.specs.Ties.{Has, adds, takes}
use Rattle.eleos_core.specs.Legal.{CoreStep}
use Rattle.eleos_core.specs.Parts.{MayStep, Part, Stamp, after_at, foot}
use Rattle.eleos_core.specs.State.{History}
use Rattle.eleos_plot.specs.declared.plot.Ground.{Ground}
use Rattle.eleos_plot.specs.Histories.{kept_by}
use Rattle.eleos_plot.specs.Terms.{bare_of, core_terms, tie_of}
use Rattle.eleos_turn.specs.Hands.{Goes, HandState, Stamped, links_on, part_of}
use Rattle.eleos_turn.specs.Numbers.{times}
use Rattle.eleos_machine.specs.Notes.{after_entry}
use Rattle.eleos_machine.specs.Passes.{PassState, part_seen, plan_of, seals_of, seen}

-- what an entry of a hand makes of the parts of the cells that it touches
abbrev pub kept_of : HandState Stamp Part Ground → Stamp → List (ℕ × Part)
kept_of h d = kept_by h.home.base.grounds (part_of core_terms h) d

-- what the draft's entry makes of the parts of the cells that it touches
abbrev pub kept : PassState → List (ℕ × Part)
kept s = kept_by s.hand.home.base.grounds (part_seen s) s.draft

-- the words of an event are those that the pass noted, in a search that it began after its last stamp, or after its last survey
abbrev pub IsOwnSweep : PassState → Event → Type 0
IsOwnSweep s (Starved wanted sweep) = (sweep ≡ s.sweep.words) × (s.sweep.since_stamp ≡ true)
IsOwnSweep s (Survey e goal sweep) = (sweep ≡ s.sweep.words) × (s.sweep.since_survey ≡ true)
IsOwnSweep s _ = Unit {0}

-- the pass may stamp its draft
pub record MayStamp (s : PassState) : Type 0 where
  pub own : s.draft.entry.who ≡ s.hand.number
  pub left : 0 < s.hand.left
  -- it has the turns of the cells that the entry touches, and the entry is legal on what it has seen of them
  pub turns : (c : ℕ) → Has c (foot (plan_of s) s.draft) → Has c s.hand.turns
  pub legal : MayStep (plan_of s) (seals_of s) s.draft (part_seen s)
  pub sweep : IsOwnSweep s s.draft.entry.event
  -- nobody links the page that leaves its frame: its turn was taken without pins, and the pass has no link there
  pub bare : (c : ℕ) → Has c (bare_of (plan_of s) s.draft.entry.event) → Has c s.hand.clean × (links_on core_terms s.hand c ≡ 0)
  -- a link that it adds is covered by a pin that covers no other, and one that it takes off is there
  pub covered : (c : ℕ) → tie_of (plan_of s) s.draft.entry.event s.draft.entry.reply ≡ adds c → links_on core_terms s.hand c < times c s.hand.pins
  pub there : (c : ℕ) → tie_of (plan_of s) s.draft.entry.event s.draft.entry.reply ≡ takes c → 0 < links_on core_terms s.hand c

-- the draft was stamped: it is the entry of the history at the place n, and the pass's only new one
pub record HasStamped (s : PassState) (n : ℕ) (s' : PassState) : Type 0 where
  -- all but the hand stays, and the notes are older by an entry
  pub rest : s' ≡ record s { hand = s'.hand; sweep = after_entry s.draft.entry.event s.sweep }
  pub stamped : Stamped core_terms s.draft (kept s) s.hand n s'.hand
  pub goes : Goes core_terms s.hand s'.hand ((n, s.draft) ∷ [])
  -- the entries before it, after which it is legal
  pub past : History
  pub sees : seen s' ≡ s.draft.entry ∷ past
  pub place : n ≡ length past
  pub legal : CoreStep (plan_of s) (seals_of s) past s.draft.entry
  -- the cells that it touches are what it makes of them, and the others whose turns are held are as before
  pub touched : (c : ℕ) → Has c (foot (plan_of s) s.draft) → part_seen s' c ≡ after_at (plan_of s) (seals_of s) s.draft (part_seen s) c
  pub others : (c : ℕ) → Has c s.hand.turns → (Has c (foot (plan_of s) s.draft) → ⊥) → part_seen s' c ≡ part_seen s c
