-- A turnstile's history as one of the machine.
use Rattle.std.specs.Prelude.{◌≡◌, ℕ, List, [], ◌∷◌, map}
use Rattle.eleos_base.specs.declared.plot.Base.{Base}
use Rattle.eleos_base.specs.declared.plot.Event.{Event as Stamped}
use Rattle.eleos_base.specs.Histories.{linked, made, opened, put}
use Rattle.eleos_base.specs.Plans.{IsGood}
use Rattle.eleos_base.specs.Ties.{Has}
use Rattle.eleos_core.specs.Legal.{CoreRun}
use Rattle.eleos_core.specs.Parts.{Part, Stamp, after_at, foot, page_cell, part_at}
use Rattle.eleos_core.specs.Seals.{seals_by}
use Rattle.eleos_core.specs.State.{History, links}
use Rattle.eleos_plot.specs.declared.plot.Ground.{Ground}
use Rattle.eleos_plot.specs.Terms.{Steps, core_terms}

-- the machine's history after these entries of a turnstile, which stand in the order in which they were stamped
abbrev pub history_after : History → List (Stamped Stamp Part) → History
history_after past [] = past
history_after past (e ∷ es) = history_after (e.entry.entry ∷ past) es

-- the machine's history of all entries of a turnstile, the last one first
abbrev pub history_of : List (Stamped Stamp Part) → History
history_of es = history_after [] es

-- what the history made of the machine's cell with this number
abbrev pub part_after : Ground → History → ℕ → Part
part_after g past c = part_at g.plan (seals_by g.key) past c

-- the turnstile was made over the cells of a good plan before its first event
pub record IsOpening (b : Base Part Ground) : Type 0 where
  pub good : IsGood b.grounds.plan
  pub parts : (c : ℕ) → opened core_terms b c ≡ part_after b.grounds [] c

-- the turnstile's history is a legal one of the machine, and its cells and its links are what that one made
pub record IsMachineRun (b : Base Part Ground) (es : List (Stamped Stamp Part)) : Type 0 where
  pub legal : CoreRun b.grounds.plan (seals_by b.grounds.key) (history_of es)
  pub parts : (c : ℕ) → made core_terms b es c ≡ part_after b.grounds (history_of es) c
  pub links : (who p : ℕ) → linked core_terms b.grounds es who (page_cell b.grounds.plan p) ≡ links b.grounds.plan (history_of es) who p

-- what the entry makes of the parts of the cells that it touches
abbrev pub kept_by : Ground → (ℕ → Part) → Stamp → List (ℕ × Part)
kept_by g before d = map (λ c. (c, after_at g.plan (seals_by g.key) d before c)) (foot g.plan d)

-- the kept parts are those of the cells that the entry touches and what it makes of them, and other cells keep theirs
pub record IsKept (g : Ground) (before : ℕ → Part) (d : Stamp) (kept : List (ℕ × Part)) : Type 0 where
  pub cells : map (λ q. q.0) kept ≡ foot g.plan d
  pub steps : Steps g.plan (seals_by g.key) d before (put kept before)
  pub others : (c : ℕ) → (Has c (foot g.plan d) → ⊥) → put kept before c ≡ before c
