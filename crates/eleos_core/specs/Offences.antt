-- What a fill, an evict or a move offends against, by the parts of its page and frame and by the links of the page.
use Rattle.std.specs.Prelude.{◌≡◌, ◌≢◌, ◌⊎◌, ℕ, ◌≤◌, Some, None}
use Rattle.eleos_base.specs.declared.memory.Part.{Part as Offence}
use Rattle.eleos_base.specs.declared.memory.Part.TheVariants.{Present, Frame, Absent, Linked, Owner}
use Rattle.eleos_base.specs.Plans.{IsCaller}
use Rattle.eleos_core.specs.Cells.{Cells, links_in}
use Rattle.eleos_core.specs.Fills.{page_in, the_frame_in}
use Rattle.eleos_core.specs.Parts.{frame_in, holder_in, owner_in}
use Rattle.eleos_base.specs.Places as places
use Rattle.eleos_base.specs.Places.{home_of}

-- a fill: the page is present, or else the frame holds a page or is not its enclave's
abbrev pub OffendsFill : Cells → ℕ → ℕ → Offence → Type 0
OffendsFill m p f Present = frame_in (page_in m p) ≢ None
OffendsFill m p f Frame = (frame_in (page_in m p) ≡ None) × ((holder_in (the_frame_in m f) ≢ None) ⊎ (owner_in (the_frame_in m f) ≢ home_of m.plan p))
OffendsFill m p f _ = ⊥

-- nobody has a link of the page, or somebody has
abbrev pub IsUnlinked : Cells → ℕ → Type 0
IsUnlinked m p = (who : ℕ) → IsCaller m.plan who → links_in m who p ≡ 0

-- some caller has a link of the page, so it has to stay in its frame
abbrev pub IsLinked : Cells → ℕ → Type 0
IsLinked m p = (who : ℕ) × IsCaller m.plan who × (1 ≤ links_in m who p)

-- the page can leave the frame
pub record CanEvictIn (m : Cells) (p f : ℕ) : Type 0 where
  pub present : frame_in (page_in m p) ≡ Some f
  pub unlinked : IsUnlinked m p

-- an evict: the page is not in that frame, or else it is linked
abbrev pub OffendsEvict : Cells → ℕ → ℕ → Offence → Type 0
OffendsEvict m p f Absent = frame_in (page_in m p) ≢ Some f
OffendsEvict m p f Linked = (frame_in (page_in m p) ≡ Some f) × IsLinked m p
OffendsEvict m p f _ = ⊥

-- a move: the frame is not that owner's, or else it holds a page
abbrev pub OffendsMove : Cells → ℕ → places.Owner → Offence → Type 0
OffendsMove m f from Owner = owner_in (the_frame_in m f) ≢ from
OffendsMove m f from Frame = (owner_in (the_frame_in m f) ≡ from) × (holder_in (the_frame_in m f) ≢ None)
OffendsMove m f from _ = ⊥
