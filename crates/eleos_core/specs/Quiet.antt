-- Events that leave the machine as it is: what waits for a frame or for a block of its page, and the end of a search.
use Rattle.std.specs.Prelude.{◌≡◌, ℕ, ◌<◌, ◌^◌, List, [], length, take, false, Option, Some, None, is_some, if◌then◌else◌}
use Rattle.eleos_base.specs.declared.memory.Looked.{Looked}
use Rattle.eleos_base.specs.declared.memory.Part.{Part as Offence}
use Rattle.eleos_base.specs.declared.memory.Part.TheVariants.{Present, Frame}
use Rattle.eleos_base.specs.declared.memory.Reply.{Reply}
use Rattle.eleos_core.specs.declared.event.Event.{Event}
use Rattle.eleos_core.specs.declared.event.Event.TheVariants.{Starved, Spoiled as SpoiledPage, Survey}
use Rattle.eleos_core.specs.declared.event.Goal.{Goal}
use Rattle.eleos_core.specs.declared.event.Wanted.{Wanted}
use Rattle.eleos_core.specs.declared.fills.opening.Spoiled.{Spoiled}
use Rattle.eleos_core.specs.Accesses.{page_for}
use Rattle.eleos_core.specs.Applying.{parts_in, stamp_of, used}
use Rattle.eleos_core.specs.Cells.{Cells}
use Rattle.eleos_core.specs.Fills.{sealed_places}
use Rattle.eleos_core.specs.Legal.{Judged, NeedsFrame, failed, passed}
use Rattle.eleos_core.specs.Parts.{Part, Stamp, block_at, clock_cell, frame_in, list_in, passes_in, subs_in, verdict_in, wanted_refusal_in}
use Rattle.eleos_base.specs.Places.{Owner, home_of, page_of, sub_of}
use Rattle.eleos_core.specs.Seals.{Seals}
use Rattle.eleos_core.specs.State.{address_of}
use Rattle.eleos_core.specs.Surveys.{IsTheReply}
use Rattle.eleos_core.specs.Sweeps.{IsTaken, SurveyReply}

-- an event that changes no cell
abbrev pub IsQuiet : Event → Type 0
IsQuiet (Starved wanted sweep) = Unit {0}
IsQuiet (SpoiledPage wanted) = Unit {0}
IsQuiet (Survey e goal sweep) = Unit {0}
IsQuiet _ = ⊥

-- the stamps of their entries
abbrev pub starved_stamp : ℕ → Wanted → List Looked → Reply → Stamp
starved_stamp who wanted sweep reply = stamp_of who (Starved wanted sweep) [] reply 0

-- of a link or an access that a bad block of its page stops, with the blocks that came
abbrev pub spoiled_stamp : ℕ → Wanted → List (List ℕ) → Reply → Stamp
spoiled_stamp who wanted blocks reply = stamp_of who (SpoiledPage wanted) blocks reply 0

-- of the end of a search among the frames of an enclave, for which no block comes
abbrev pub survey_stamp : ℕ → ℕ → Goal → List Looked → Reply → Stamp
survey_stamp who e goal sweep reply = stamp_of who (Survey e goal sweep) [] reply 0

module _ (m : Cells) where
  -- the frames of an owner
  abbrev pub frames_of_owner : Owner → List ℕ
  frames_of_owner owner = list_in (parts_in m (clock_cell m.plan owner))

  -- the reply that a search among the enclave's frames and the pool's may have. A share is a number of 32 bits.
  abbrev pub IsSurveyed : ℕ → Goal → List Looked → Option Reply → Type 0
  IsSurveyed e goal sweep found = length (frames_of_owner (Some e)) < 2 ^ 32
      → IsTheReply (SurveyReply (frames_of_owner (Some e)) (frames_of_owner None) goal sweep) found

  -- the page of what is wanted, as a number and by its part
  abbrev pub wanted_page : Wanted → ℕ
  wanted_page wanted = page_of m.plan (sub_of m.plan (address_of wanted))

  -- what the cells have of that page
  abbrev pub wanted_part : Wanted → Part
  wanted_part wanted = page_for m (address_of wanted)

  -- the frames of that page's enclave
  abbrev pub wanted_frames : Wanted → List ℕ
  wanted_frames wanted = frames_of_owner (home_of m.plan (wanted_page wanted))

  -- it needs a frame, and is not refused at once
  pub record MayWait (who : ℕ) (wanted : Wanted) : Type 0 where
    pub needs : NeedsFrame wanted
    pub not_refused : wanted_refusal_in m.plan who wanted (block_at m.plan (wanted_part wanted) (address_of wanted)) ≡ None

  -- and its page is absent
  pub record IsWaiting (who : ℕ) (wanted : Wanted) : Type 0 where
    pub may : MayWait who wanted
    pub absent : is_some (frame_in (wanted_part wanted)) ≡ false

  -- and all the frames that its page may take were found pinned or BUSY
  pub record IsStarving (who : ℕ) (wanted : Wanted) (sweep : List Looked) : Type 0 where
    pub waiting : IsWaiting who wanted
    pub taken : IsTaken sweep (wanted_frames wanted)

  -- what such an event offends against where it is not legal
  abbrev pub waiting_fault : Wanted → Offence
  waiting_fault wanted = if is_some (frame_in (wanted_part wanted)) then Present else Frame

  -- the places of the blocks of its page
  abbrev pub wanted_places : Wanted → List ℕ
  wanted_places wanted = sealed_places (wanted_page wanted) (wanted_part wanted)

  -- what becomes of these blocks
  abbrev pub wanted_verdict : Seals → Wanted → List (List ℕ) → Judged
  wanted_verdict x wanted blocks = verdict_in m.plan x (SpoiledPage wanted) blocks (wanted_part wanted)

  -- of the blocks given for them this many were used, up to that of the place, which is the first that does not pass
  pub record IsSpoiledAt (x : Seals) (wanted : Wanted) (given : List (List ℕ)) (found : Spoiled) : Type 0 where
    pub used_are : take found.used given ≡ used (passes_in m.plan x (subs_in (wanted_part wanted))) (wanted_places wanted) given
    pub fails : wanted_verdict x wanted (take found.used given) ≡ failed found.place

  -- each of the blocks given for them passes, so all are used
  pub record AllPass (x : Seals) (wanted : Wanted) (given : List (List ℕ)) : Type 0 where
    pub used_are : used (passes_in m.plan x (subs_in (wanted_part wanted))) (wanted_places wanted) given ≡ given
    pub pass : wanted_verdict x wanted given ≡ passed
