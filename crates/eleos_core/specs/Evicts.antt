-- A page that leaves its frame: what becomes of its sub-pages, and the blocks that go to the host.
use Rattle.std.specs.Prelude.{◌≡◌, ℕ, ◌+◌, ◌≤◌, ◌^◌, List, [], ◌∷◌, ◌++◌, length, true, false, Option, Some, None, All, if◌then◌else◌}
use Rattle.std.specs.Option.{option_to_list}
use Rattle.eleos_base.specs.declared.memory.Reply.TheVariants.{Done}
use Rattle.eleos_base.specs.Plans.{page_bytes}
use Rattle.eleos_core.specs.declared.cells.page.Page.{Page}
use Rattle.eleos_core.specs.declared.cells.page.Present.{Present}
use Rattle.eleos_core.specs.declared.cells.sub_page.SubPage.{SubPage}
use Rattle.eleos_core.specs.declared.event.Event.TheVariants.{Evict}
use Rattle.eleos_core.specs.Applying.{stamp_of}
use Rattle.eleos_core.specs.Cells.{subs_per_page}
use Rattle.eleos_core.specs.Parts.{Stamp, SubPart}
use Rattle.eleos_core.specs.Seals.{Seals}

-- the stamp of an evict
abbrev pub evict_stamp : ℕ → ℕ → ℕ → Stamp
evict_stamp who p f = stamp_of who (Evict p f) [] Done 0

-- a sub-page whose page has left its frame: sealed at its next version where it was dirty
abbrev pub sealed_sub : Seals → ℕ → SubPart → SubPart
sealed_sub x s u = if u.is_dirty
    then record { block = u.block; version = u.version + 1; is_sealed = true; tag = x.tag s (u.version + 1) (x.seal s (u.version + 1) u.bytes); is_dirty = false; bytes = [] }
    else record u { bytes = [] }

-- the block for the host with its place, where the sub-page is dirty
abbrev pub sealed_block : Seals → ℕ → SubPart → Option (ℕ × List ℕ)
sealed_block x s u = if u.is_dirty then Some (s, x.seal s (u.version + 1) u.bytes) else None

-- those of all these sub-pages, the first of which has the number s
abbrev pub sealed_blocks : Seals → ℕ → List SubPart → List (ℕ × List ℕ)
sealed_blocks x s [] = []
sealed_blocks x s (u ∷ us) = option_to_list (sealed_block x s u) ++ sealed_blocks x (s + 1) us

-- the page has the bytes of a frame
abbrev pub HasBytes : Option Present → Type 0
HasBytes None = ⊥
HasBytes (Some present) = length present.bytes.items ≡ page_bytes

-- the page is in a frame, and each of its sub-pages can be sealed once more
pub record CanLeave (page : Page) : Type 0 where
  pub whole : length page.subs.items ≡ subs_per_page
  pub bytes : HasBytes page.present
  pub versions : All (λ (u : SubPage). u.version ≤ 2 ^ 63) page.subs.items
