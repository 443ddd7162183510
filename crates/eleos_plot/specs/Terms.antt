-- What the cells and entries of the machine mean to a turnstile.
use Rattle.std.specs.Prelude.{◌≡◌, ℕ, List, [], ◌∷◌, if◌then◌else◌}
use Rattle.eleos_base.specs.declared.memory.Reply.{Reply}
use Rattle.eleos_base.specs.declared.plan.Plan.{Plan}
use Rattle.eleos_base.specs.Plain.{is_accepted}
use Rattle.eleos_base.specs.Terms.{Terms}
use Rattle.eleos_base.specs.Ties.{Has, Tie, neither, adds, takes}
use Rattle.eleos_core.specs.declared.event.Event.{Event}
use Rattle.eleos_core.specs.declared.event.Event.TheVariants.{Link, Unlink, Evict}
use Rattle.eleos_core.specs.Parts.{MayStep, Part, Stamp, after_at, foot, no_part, page_cell}
use Rattle.eleos_base.specs.Places.{page_of, sub_of}
use Rattle.eleos_core.specs.Seals.{Seals, seals_by}
use Rattle.eleos_plot.specs.declared.cell.Cell.{Cell}
use Rattle.eleos_plot.specs.declared.plot.Ground.{Ground}
use Rattle.eleos_plot.specs.Cells.{part_of_cell}

-- a machine of nothing
abbrev pub no_plan : Plan
no_plan = record { enclaves = []; spare = 0; callers = []; wear = 1; blocks = [] }

-- the page that leaves its frame, which nobody may link
abbrev pub bare_of : Plan → Event → List ℕ
bare_of k (Evict p f) = page_cell k p ∷ []
bare_of k _ = []

-- an accepted link adds one to the address's page, and an unlink takes one off its page
abbrev pub tie_of : Plan → Event → Reply → Tie
tie_of k (Link at) reply = if is_accepted reply then adds (page_cell k (page_of k (sub_of k at))) else neither
tie_of k (Unlink p) reply = takes (page_cell k p)
tie_of k _ reply = neither

-- the entry may be made on the parts before, and the cells that it touches are what it makes of them
pub record Steps (k : Plan) (x : Seals) (d : Stamp) (before after : ℕ → Part) : Type 0 where
  pub may : MayStep k x d before
  pub made : (c : ℕ) → Has c (foot k d) → after c ≡ after_at k x d before c

-- the machine as a turnstile is told of it: parts, feet and steps, the page that an evict wants bare, the links of pages
abbrev pub core_terms : Terms Cell Stamp Part Ground
core_terms = record {
  part = part_of_cell;
  blank = no_part;
  nowhere = record { plan = no_plan; key = [] };
  who = λ d. d.entry.who;
  foot = λ g d. foot g.plan d;
  step = λ g d before after. Steps g.plan (seals_by g.key) d before after;
  bare = λ g d. bare_of g.plan d.entry.event;
  tie = λ g d. tie_of g.plan d.entry.event d.entry.reply;
}
