-- What a search among frames saw of them, and how it ended.
use Rattle.std.specs.Prelude.{◌≡◌, ℕ, ◌<◌, ◌≤◌, ◌⊎◌, List, [], length, map, ◌==◌, nat_eq, true, count_by, Contains, IsPermutation}
use Rattle.std.specs.List.{AllByRecursion, IsDistinct}
use Rattle.eleos_base.specs.Words.{is_busy, is_taken}
use Rattle.eleos_base.specs.declared.memory.Looked.{Looked}
use Rattle.eleos_base.specs.declared.memory.Reply.{Reply}
use Rattle.eleos_base.specs.declared.memory.Reply.TheVariants.{Enough, Swept, Reached, Pinned, Short}
use Rattle.eleos_core.specs.declared.event.Goal.{Goal}
use Rattle.eleos_core.specs.declared.event.Goal.TheVariants.{Low, To}

-- the frames that the sweep names
abbrev pub frames_in : List Looked → List ℕ
frames_in sweep = map (λ (seen : Looked). seen.frame) sweep

-- the sweep names just these frames, each once, and each with a word that shows pins or BUSY
pub record IsTaken (sweep : List Looked) (frames : List ℕ) : Type 0 where
  pub all : IsPermutation (frames_in sweep) frames
  pub taken : AllByRecursion (λ (seen : Looked). is_taken seen.word ≡ true) sweep

-- z frames of the list were found free, no fewer than asked for
pub record IsEnough (own : List ℕ) (low : ℕ) (sweep : List Looked) (z : ℕ) : Type 0 where
  pub count : z ≡ length sweep
  pub enough : low ≤ z
  pub once : IsDistinct nat_eq (frames_in sweep)
  pub listed : AllByRecursion (λ (seen : Looked). Contains own seen.frame) sweep
  pub free : AllByRecursion (λ (seen : Looked). seen.word ≡ 0) sweep

-- of all frames of the list z were found free, fewer than asked for, and the others taken
pub record IsSwept (own : List ℕ) (low : ℕ) (sweep : List Looked) (z : ℕ) : Type 0 where
  pub count : z ≡ count_by (λ (seen : Looked). seen.word == 0) sweep
  pub too_few : z < low
  pub all : IsPermutation (frames_in sweep) own
  pub words : AllByRecursion (λ (seen : Looked). (seen.word ≡ 0) ⊎ (is_taken seen.word ≡ true)) sweep

-- the share is smaller than it should be, and all frames of the pool were found BUSY
pub record IsShort (pool : List ℕ) (sweep : List Looked) : Type 0 where
  pub all : IsPermutation (frames_in sweep) pool
  pub busy : AllByRecursion (λ (seen : Looked). is_busy seen.word ≡ true) sweep

-- the answer to a search among the enclave's own frames and those of the pool
abbrev pub SurveyReply : List ℕ → List ℕ → Goal → List Looked → Reply → Type 0
SurveyReply own pool (Low n) sweep (Enough z) = IsEnough own n sweep z
SurveyReply own pool (Low n) sweep (Swept z) = IsSwept own n sweep z
SurveyReply own pool (To n) sweep (Reached share) = (share ≡ length own) × (share ≡ n) × (sweep ≡ [])
SurveyReply own pool (To n) sweep (Pinned share) = (share ≡ length own) × (n < share) × IsTaken sweep own
SurveyReply own pool (To n) sweep (Short share) = (share ≡ length own) × (share < n) × IsShort pool sweep
SurveyReply own pool goal sweep _ = ⊥
