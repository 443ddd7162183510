-- The parts of cells keep up with the history: an entry is judged by the parts of the cells that it touches, and changes these alone.
use Rattle.std.specs.Prelude.{◌≡◌, ℕ, ◌≤◌, ◌∷◌}
use Rattle.eleos_base.specs.declared.memory.Op.TheVariants.{Free, Share}
use Rattle.eleos_base.specs.declared.plan.Plan.{Plan}
use Rattle.eleos_base.specs.Plans.{IsGood, enclave_of}
use Rattle.eleos_base.specs.Ties.{Has}
use Rattle.eleos_core.specs.declared.event.Event.{Event}
use Rattle.eleos_core.specs.declared.event.Event.TheVariants.{Op, Unlink, Evict}
use Rattle.eleos_core.specs.Legal.{CoreRun, CoreStep}
use Rattle.eleos_core.specs.Parts.{Stamp, MayStep, after_at, foot, len_at, part_at}
use Rattle.eleos_core.specs.Seals.{Seals}
use Rattle.eleos_core.specs.State.{History, links, live}

-- a stamp carries the length of the block that its call frees or shares
abbrev pub IsLenOf : Plan → History → ℕ → Event → ℕ → Type 0
IsLenOf k past who (Op (Free at)) len = len ≡ len_at k (enclave_of k who) at (live k past (enclave_of k who))
IsLenOf k past who (Op (Share at)) len = len ≡ len_at k (enclave_of k who) at (live k past (enclave_of k who))
IsLenOf k past who event len = Unit {0}

-- nobody links a page that is evicted, and who unlinks one has a link of it
abbrev pub LinksAllow : Plan → History → ℕ → Event → Type 0
LinksAllow k past who (Evict p f) = (by : ℕ) → links k past by p ≡ 0
LinksAllow k past who (Unlink p) = 1 ≤ links k past who p
LinksAllow k past who event = Unit {0}

-- the cells after the stamp's entry: those that it touches are what it makes of them, and the others are as before
pub record PartsFollow (k : Plan) (x : Seals) (past : History) (d : Stamp) : Type 0 where
  pub touched : (c : ℕ) → Has c (foot k d) → part_at k x (d.entry ∷ past) c ≡ after_at k x d (part_at k x past) c
  pub others : (c : ℕ) → (Has c (foot k d) → ⊥) → part_at k x (d.entry ∷ past) c ≡ part_at k x past c

-- every legal entry
abbrev pub PartsKeepUp : Type 0
PartsKeepUp = (k : Plan) (x : Seals) (past : History) (d : Stamp) → IsGood k → CoreRun k x past → CoreStep k x past d.entry
    → IsLenOf k past d.entry.who d.entry.event d.len → PartsFollow k x past d

-- an entry that may be made on the parts of a history is legal after it
abbrev pub PartsJudge : Type 0
PartsJudge = (k : Plan) (x : Seals) (past : History) (d : Stamp) → IsGood k → CoreRun k x past → MayStep k x d (part_at k x past)
    → LinksAllow k past d.entry.who d.entry.event → CoreStep k x past d.entry

-- and a legal entry may be made on them
abbrev pub PartsAllow : Type 0
PartsAllow = (k : Plan) (x : Seals) (past : History) (d : Stamp) → IsGood k → CoreRun k x past → CoreStep k x past d.entry
    → IsLenOf k past d.entry.who d.entry.event d.len → MayStep k x d (part_at k x past)
