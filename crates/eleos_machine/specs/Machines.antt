-- What contracts see of a machine: its turnstile.
use Rattle.std.specs.Prelude.{◌≡◌, ℕ, ◌+◌, ◌^◌, List, [], length, slice_index_or}
use Rattle.eleos_base.specs.declared.plan.Plan.{Plan}
use Rattle.eleos_base.specs.declared.plot.Base.{Base}
use Rattle.eleos_core.specs.Parts.{Part, no_part, part_at}
use Rattle.eleos_base.specs.Places.{all_frames, all_pages}
use Rattle.eleos_core.specs.Seals.{Seals, seals_by}
use Rattle.eleos_plot.specs.declared.plot.Ground.{Ground}
use Rattle.eleos_plot.specs.Histories.{IsOpening}
use Rattle.eleos_turn.specs.Hands.{Home}
use Rattle.eleos_machine.specs.Judging.{CanBeMade}

-- a machine: which table it is, and what was fixed when it was made
abbrev pub Site : Type 0
Site = Home Part Ground

-- its plan, and how it seals
abbrev pub plan_at : Site → Plan
plan_at z = z.base.grounds.plan

-- how the machine seals: by the key that was fixed when it was made
abbrev pub seals_at : Site → Seals
seals_at z = seals_by z.base.grounds.key

-- how many cells the machine of a plan has: alloc cells, clock cells, the pool's, pages and frames
abbrev pub all_cells : Plan → ℕ
all_cells k = length k.enclaves + length k.enclaves + 1 + all_pages k + all_frames k

-- these are the parts of all cells before the first event
pub record AreOpening (k : Plan) (parts : List Part) : Type 0 where
  pub count : length parts ≡ all_cells k
  pub each : (x : Seals) (c : ℕ) → slice_index_or parts c no_part ≡ part_at k x [] c

-- its callers, its swapper and its balloon
abbrev pub all_passes : Plan → ℕ
all_passes k = length k.callers + 2

-- the stamps of each pass
abbrev pub stamps_each : ℕ
stamps_each = 2 ^ 40

-- what is fixed of a turnstile on this ground, over cells of these parts, for so many passes
abbrev pub base_over : {Q G : Type 0} → G → List Q → ℕ → Base Q G
base_over fixed parts passes = record { grounds = fixed; opening = parts; hands = passes; each = stamps_each }

-- the turnstile was made over all cells of its plan before the first event, for all passes
pub record IsMachine (z : Site) : Type 0 where
  pub made : CanBeMade (plan_at z)
  pub opening : IsOpening z.base
  pub cells : length z.base.opening ≡ all_cells (plan_at z)
  pub passes : z.base.hands ≡ all_passes (plan_at z)
  pub each : z.base.each ≡ stamps_each
