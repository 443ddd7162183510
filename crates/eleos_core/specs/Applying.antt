-- What applying an event means: by the parts of the cells, and by the history behind them.
use Rattle.std.specs.Prelude.{◌≡◌, ℕ, ◌+◌, ◌*◌, ◌<◌, List, [], ◌∷◌, filter, map, take, Bool, Option, Some, is_some, if◌then◌else◌}
use Rattle.eleos_base.specs.declared.memory.Part.{Part as Offence}
use Rattle.eleos_base.specs.declared.memory.Part.TheVariants.{Present, Frame, Absent, Linked, Owner, Untied}
use Rattle.eleos_base.specs.declared.memory.Op.TheVariants.{Write}
use Rattle.eleos_base.specs.declared.memory.Reply.{Reply}
use Rattle.eleos_base.specs.declared.plan.Plan.{Plan}
use Rattle.eleos_base.specs.Plans.{IsCaller, IsGood}
use Rattle.eleos_base.specs.Ties.{Has}
use Rattle.eleos_core.specs.declared.event.Entry.{Entry}
use Rattle.eleos_core.specs.declared.event.Event.{Event}
use Rattle.eleos_core.specs.declared.event.Event.TheVariants.{Op, Link, Unlink, Fill, Evict, Move, Starved, Spoiled, Survey}
use Rattle.eleos_core.specs.declared.machine.Put.{Put}
use Rattle.eleos_core.specs.Cells.{Cells, links_in, part_in}
use Rattle.eleos_core.specs.Legal.{CoreRun, CoreStep, passes}
use Rattle.eleos_core.specs.Parts.{Part, Stamp, SubPart, MayStep, after_at, cell_of, foot, frame_in, page_cell, part_at, places_in, sealing_in, seals_in, subs_in}
use Rattle.eleos_base.specs.Places.{all_pages, all_subs, page_of, per_page, sub_of}
use Rattle.eleos_core.specs.Seals.{Seals}
use Rattle.eleos_core.specs.State.{History, address_of, entry, frame, is_owner, is_present, is_sealing, last, links, links_by, owner, places}

-- the cells are what the history made of them
pub record Shows (x : Seals) (past : History) (m : Cells) : Type 0 where
  pub parts : (c : ℕ) → part_in m (cell_of m.plan c) ≡ part_at m.plan x past c
  pub links : (who p : ℕ) → IsCaller m.plan who → p < all_pages m.plan → links_in m who p ≡ links m.plan past who p

-- the part of each cell by its number
abbrev pub parts_in : Cells → ℕ → Part
parts_in m c = part_in m (cell_of m.plan c)

-- the stamp's entry may be made on the cells, and makes the new cells of them
pub record Makes (x : Seals) (d : Stamp) (old new : Cells) : Type 0 where
  pub plan : new.plan ≡ old.plan
  pub may : MayStep old.plan x d (parts_in old)
  pub touched : (c : ℕ) → Has c (foot old.plan d) → parts_in new c ≡ after_at old.plan x d (parts_in old) c
  pub others : (c : ℕ) → (Has c (foot old.plan d) → ⊥) → parts_in new c ≡ parts_in old c
  pub links : (who p : ℕ) → IsCaller old.plan who → p < all_pages old.plan → links_in new who p ≡ links_by old.plan d.entry.who d.entry.event d.entry.reply who p (links_in old who p)

-- the blocks given up to the first that does not pass
abbrev pub used : (ℕ → List ℕ → Bool) → List ℕ → List (List ℕ) → List (List ℕ)
used test [] given = []
used test (s ∷ ss) [] = []
used test (s ∷ ss) (c ∷ cs) = c ∷ (if test s c then used test ss cs else [])

-- a stamp of an entry
abbrev pub stamp_of : ℕ → Event → List (List ℕ) → Reply → ℕ → Stamp
stamp_of who event blocks reply len = record { entry = entry who event blocks reply; len = len }

module _ (k : Plan) (x : Seals) where
  -- the blocks that a stamp's entry seals of these sub-pages, the first of which has the number s, each with its place
  abbrev pub puts_from : Stamp → List ℕ → Option ℕ → ℕ → List SubPart → List (ℕ × List ℕ)
  puts_from d ps f s [] = []
  puts_from d ps f s (u ∷ us) = if seals_in k x d.entry (is_some f) s u then (s, x.seal s (u.version + 1) (sealing_in k x d.entry ps s u)) ∷ puts_from d ps f (s + 1) us else puts_from d ps f (s + 1) us

  -- those of a page with this part
  abbrev pub page_puts : Stamp → ℕ → Part → List (ℕ × List ℕ)
  page_puts d p q = puts_from d (places_in k d.entry.event (frame_in q) (subs_in q)) (frame_in q) (p * per_page k) (subs_in q)

  -- all blocks that an entry seals, by the parts before it
  abbrev pub puts_in : Stamp → (ℕ → Part) → Event → List (ℕ × List ℕ)
  puts_in d b (Op (Write at bytes)) = let p = page_of k (sub_of k at) in page_puts d p (b (page_cell k p))
  puts_in d b (Evict p f) = page_puts d p (b (page_cell k p))
  puts_in d b event = []

-- a block for the host with its place
abbrev pub put_of : Put → ℕ × List ℕ
put_of put = (put.place, put.block)

module _ (k : Plan) (x : Seals) where
  -- the entry of an event to which these blocks were given
  abbrev pub entry_of : History → ℕ → Event → List (List ℕ) → Reply → Entry
  entry_of past who event given reply = entry who event (used (passes k x past) (places k event past) given) reply

  -- the sealings of an entry in rising order of place, each with its block
  abbrev pub puts_of : Entry → History → List (ℕ × List ℕ)
  puts_of e past = map (λ s. (s, last k x (e ∷ past) s)) (filter (is_sealing k e past) (all_subs k))

  -- what an event offends against where no entry of it is legal
  abbrev pub offence : History → Event → Offence
  offence past (Op op) = Frame
  offence past (Link at) = Absent
  offence past (Unlink p) = Untied
  offence past (Fill p f) = if is_some (frame past p) then Present else Frame
  offence past (Evict p f) = if is_owner (frame past p) (Some f) then Linked else Absent
  offence past (Move f from to) = if is_owner (owner k past f) from then Frame else Owner
  offence past (Starved wanted sweep) = if is_present k past (sub_of k (address_of wanted)) then Present else Frame
  offence past (Spoiled wanted) = if is_present k past (sub_of k (address_of wanted)) then Present else Frame
  offence past (Survey e goal sweep) = Frame

  -- the event was applied: its entry is legal, the puts are its sealings, and the cells are what the longer history made
  pub record Applies (past : History) (who : ℕ) (event : Event) (given : List (List ℕ)) (reply : Reply) (sent : List Put) (new : Cells) : Type 0 where
    pub plan : new.plan ≡ k
    pub legal : CoreStep k x past (entry_of past who event given reply)
    pub puts : map put_of sent ≡ puts_of (entry_of past who event given reply) past
    pub shown : Shows x (entry_of past who event given reply ∷ past) new

  -- no entry of the event is legal, with whatever front of the blocks that were given and whatever reply
  pub record IsIllegal (past : History) (who : ℕ) (event : Event) (given : List (List ℕ)) (part : Offence) : Type 0 where
    pub never : (count : ℕ) (reply : Reply) → CoreStep k x past (entry who event (take count given) reply) → ⊥
    pub part_is : part ≡ offence past event

-- after whatever legal history from a good plan the cells show, the event was applied
abbrev pub AlwaysApplies : Seals → Cells → ℕ → Event → List (List ℕ) → Reply → List Put → Cells → Type 0
AlwaysApplies x old who event given reply sent new = (past : History) → IsGood old.plan → CoreRun old.plan x past → Shows x past old → Applies old.plan x past who event given reply sent new

-- after whatever such history, it is illegal
abbrev pub AlwaysIllegal : Seals → Cells → ℕ → Event → List (List ℕ) → Offence → Type 0
AlwaysIllegal x old who event given part = (past : History) → IsGood old.plan → CoreRun old.plan x past → Shows x past old → IsIllegal old.plan x past who event given part
