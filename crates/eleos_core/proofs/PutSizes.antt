-- The blocks for the host are as long as sub-pages.
use Rattle.std.proofs.Common.{◌≡◌, ℕ, ◌+◌, ◌*◌, ◌≤◌, List, [], ◌∷◌, length, map, Bool, true, false, Some, None, if◌then◌else◌, sym, ◌∙◌, subst, arith}
use Rattle.std.specs.List.{All, AllByRecursion}
use Rattle.std.specs.Option.{option_to_list}
use Rattle.std.proofs.lemmas.List.Elements.{All-cons, All-nil}
use Rattle.eleos_base.specs.Lists.{map_from}
use Rattle.eleos_base.proofs.GctrLemmas.{length-ciphertext_of}
use Rattle.eleos_core.specs.declared.cells.sub_page.SubPage.{SubPage}
use Rattle.eleos_core.specs.declared.machine.Put.{Put}
use Rattle.eleos_core.specs.Applying.{put_of}
use Rattle.eleos_core.specs.Cells.{part_with, piece, sub_size}
use Rattle.eleos_core.specs.Evicts.{sealed_block, sealed_blocks}
use Rattle.eleos_core.specs.Parts.{SubPart}
use Rattle.eleos_core.specs.Seals.{nonce_of, seals_by}
use Rattle.eleos_core.proofs.Differences.{all_append}
use Rattle.eleos_core.proofs.PageParts.{length-piece}
use Rattle.eleos_core.proofs.Pieces.{parts_with}

-- the block with its place, and the bytes of the part, have the size
abbrev IsSized : ℕ × List ℕ → Type 0
IsSized put = length put.1 ≡ sub_size

abbrev IsFull : SubPart → Type 0
IsFull u = length u.bytes ≡ sub_size

-- blocks with their places, as those that are put
sized_puts : (puts : List Put) → AllByRecursion IsSized (map put_of puts) → All (λ (put : Put). length put.block ≡ sub_size) puts
sized_puts [] each = All-nil (λ (put : Put). length put.block ≡ sub_size)
sized_puts (put ∷ puts) each = All-cons (λ (put : Put). length put.block ≡ sub_size) put puts each.0 (sized_puts puts each.1)

-- where there is one
pub one_put-sized : (place : ℕ) (block : List ℕ) (puts : List Put) → map put_of puts ≡ (place, block) ∷ [] → length block ≡ sub_size
    → All (λ (put : Put). length put.block ≡ sub_size) puts
one_put-sized place block puts is size = sized_puts puts (subst (AllByRecursion IsSized) (sym is) (size, _))

module _ (key : List ℕ) where
  -- what is sealed is as long as its text
  block-sized : (s : ℕ) (u : SubPart) → IsFull u → AllByRecursion IsSized (option_to_list (sealed_block (seals_by key) s u))
  block-sized s u full = by_dirty u.is_dirty
    where
      by_dirty : (d : Bool) → AllByRecursion IsSized (option_to_list (if d then Some (s, (seals_by key).seal s (u.version + 1) u.bytes) else None))
      by_dirty true = (length-ciphertext_of key (nonce_of s (u.version + 1)) u.bytes ∙ full, _)
      by_dirty false = _

  blocks-sized : (s : ℕ) (us : List SubPart) → AllByRecursion IsFull us → AllByRecursion IsSized (sealed_blocks (seals_by key) s us)
  blocks-sized s [] full = _
  blocks-sized s (u ∷ us) full = all_append IsSized (option_to_list (sealed_block (seals_by key) s u)) (sealed_blocks (seals_by key) (s + 1) us)
      (block-sized s u full.0) (blocks-sized (s + 1) us full.1)

  -- the sub-pages of a page in a frame are full
  parts-full : (bytes : List ℕ) (i : ℕ) (us : List SubPage) → 1024 * (i + length us) ≤ length bytes
      → AllByRecursion IsFull (map_from (λ j v. part_with v (piece j bytes)) i us)
  parts-full bytes i [] fits = _
  parts-full bytes i (u ∷ us) fits = (length-piece bytes i (omega arith), parts-full bytes (i + 1) us (omega arith))

  -- the blocks of a page that leaves its frame
  pub page_puts-sized : (s : ℕ) (bytes : List ℕ) (us : List SubPage) (puts : List Put) → 1024 * length us ≤ length bytes
      → map put_of puts ≡ sealed_blocks (seals_by key) s (parts_with bytes us) → All (λ (put : Put). length put.block ≡ sub_size) puts
  page_puts-sized s bytes us puts fits is =
      sized_puts puts (subst (AllByRecursion IsSized) (sym is) (blocks-sized s (parts_with bytes us) (parts-full bytes 0 us (omega arith))))
