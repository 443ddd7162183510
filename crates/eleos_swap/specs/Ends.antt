-- How a round ends, by what was noted.
use Rattle.std.specs.Prelude.{◌≡◌, ◌⊎◌, ℕ, ◌==◌, ◌<◌, ◌≤◌, List, false, length, count_by}
use Rattle.eleos_base.specs.declared.memory.Looked.{Looked}
use Rattle.eleos_base.specs.declared.memory.Reply.{Reply}
use Rattle.eleos_base.specs.declared.memory.Reply.TheVariants as replies
use Rattle.eleos_core.specs.Sweeps.{IsEnough, IsSwept}
use Rattle.eleos_machine.specs.Notes.{free_notes}
use Rattle.eleos_machine.specs.Passes.{PassState}
use Rattle.eleos_machine.specs.Sweeping.{with_words}
use Rattle.eleos_clock.specs.Frees.{AreFree}
use Rattle.eleos_clock.specs.Lists.{AllNoted}
use Rattle.eleos_swap.specs.declared.ends.RoundEnd.{RoundEnd}
use Rattle.eleos_swap.specs.declared.ends.RoundEnd.TheVariants.{Enough, Swept}

-- the end as a reply
abbrev pub end_reply : RoundEnd → Reply
end_reply (Enough free) = replies.Enough free
end_reply (Swept free) = replies.Swept free

-- how many frames are noted as free
abbrev pub free_count : List Looked → ℕ
free_count words = count_by (λ (seen : Looked). seen.word == 0) words

-- the end by the notes, and the notes that stay
abbrev pub Ends : PassState → ℕ → RoundEnd → PassState → Type 0
Ends s low (Enough free) s' = (free ≡ free_count s.sweep.words) × (low ≤ free) × (s' ≡ with_words s (free_notes s.sweep.words))
Ends s low (Swept free) s' = (free ≡ free_count s.sweep.words) × (free < low) × (s' ≡ s)

-- the round may end: no frame had a page to evict, and each is noted, or enough frames are noted as free, and no other
abbrev pub MayStop : List ℕ → ℕ → List Looked → Type 0
MayStop list low words = AllNoted list false words ⊎ (AreFree list words × (low ≤ length words))

-- the end, of an enclave with these frames
abbrev pub IsEnd : List ℕ → ℕ → List Looked → RoundEnd → Type 0
IsEnd list low words (Enough free) = IsEnough list low words free
IsEnd list low words (Swept free) = IsSwept list low words free
