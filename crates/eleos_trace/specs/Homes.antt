-- The lines of enclaves and of callers.
use Rattle.std.specs.Prelude.{ℕ, ◌+◌, ◌≤◌, ◌<◌, List, length, All, ◌&&◌, nat_le, nat_lt, [], ◌∷◌, Result, codes}
use Rattle.eleos_base.specs.declared.plan.EnclavePlan.{EnclavePlan}
use Rattle.eleos_base.specs.Limits.{most_enclaves, most_pages, most_pages_in_all, most_frames, most_callers}
use Rattle.eleos_base.specs.Plans.{AreGoodPages}
use Rattle.eleos_texts.specs.declared.why.Why.{Why}
use Rattle.eleos_texts.specs.declared.why.Why.TheVariants.{Form, Range, Enclave}
use Rattle.eleos_texts.specs.Fields.{is, is_numeral, is_number, number, is_up_to}
use Rattle.eleos_texts.specs.Reasons.{unless, with_four, with_six}
use Rattle.eleos_trace.specs.Machines.{pages_of, frames_of, is_enclave}

-- `enclave E pages P frames F`, where E counts the enclaves before it
abbrev pub enclave_line : List EnclavePlan → List (List ℕ) → Result EnclavePlan Why
enclave_line before = with_six (λ first which second pages third frames. unless (
    (is (codes "enclave") first && is_number (length before) which && is (codes "pages") second && is_numeral pages && is (codes "frames") third && is_numeral frames, Form)
    ∷ (nat_lt (length before) most_enclaves, Range)
    ∷ (nat_le 1 (number pages) && is_up_to most_pages pages && nat_le (pages_of before + number pages) most_pages_in_all, Range)
    ∷ (nat_le (frames_of before + number frames) most_frames, Range) ∷ [])
    (record { pages = number pages; frames = number frames }))

-- `caller C enclave E`, where C is one more than the callers before it
abbrev pub caller_line : List EnclavePlan → List ℕ → List (List ℕ) → Result ℕ Why
caller_line enclaves before = with_four (λ first which second enclave. unless (
    (is (codes "caller") first && is_number (length before + 1) which && is (codes "enclave") second && is_numeral enclave, Form)
    ∷ (nat_lt (length before) most_callers, Range)
    ∷ (is_enclave enclaves enclave, Enclave) ∷ [])
    (number enclave))

-- enclaves that a machine may have, if they are some
pub record AreGoodEnclaves (enclaves : List EnclavePlan) : Type 0 where
  pub few : length enclaves ≤ most_enclaves
  pub pages : AreGoodPages enclaves
  pub all_pages : pages_of enclaves ≤ most_pages_in_all
  pub frames : frames_of enclaves ≤ most_frames

-- callers that a machine of these enclaves may have, if they are some
pub record AreGoodCallers (enclaves : List EnclavePlan) (callers : List ℕ) : Type 0 where
  pub few : length callers ≤ most_callers
  pub at_home : All (λ enclave. enclave < length enclaves) callers
