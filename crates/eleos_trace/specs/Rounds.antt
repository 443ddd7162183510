-- Rounds of the swapper and changes of shares, with the reasons for which a line is refused.
use Rattle.std.specs.Prelude.{ℕ, List, [], ◌∷◌, Bool, ◌&&◌, Option, Some, None, Result, if◌then◌else◌}
use Rattle.eleos_base.specs.declared.plan.Plan.{Plan}
use Rattle.eleos_base.specs.Limits.{most_frames}
use Rattle.eleos_base.specs.Plans.{enclave_of}
use Rattle.eleos_trace.specs.declared.givers.Givers.{Givers}
use Rattle.eleos_trace.specs.declared.header.Header.{Header}
use Rattle.eleos_trace.specs.declared.seen.Seen.{Seen}
use Rattle.eleos_trace.specs.declared.word.Actor as actors
use Rattle.eleos_trace.specs.declared.word.Actor.TheVariants.{Caller}
use Rattle.eleos_trace.specs.declared.word.Word.{Word}
use Rattle.eleos_trace.specs.declared.word.Word.TheVariants.{SwapRound, SetShare}
use Rattle.eleos_texts.specs.declared.why.Why.{Why}
use Rattle.eleos_texts.specs.declared.why.Why.TheVariants.{Range, Enclave}
use Rattle.eleos_texts.specs.Fields.{is_numeral, is_number, is_up_to, most_u32, number}
use Rattle.eleos_texts.specs.Reasons.{unless, with_two, ◌>>=◌}
use Rattle.eleos_trace.specs.Givers.{admit_round}
use Rattle.eleos_trace.specs.Machines.{is_enclave}

-- an enclave that is declared, and of a caller its own
abbrev pub is_own : Plan → actors.Actor → List ℕ → Bool
is_own plan (Caller caller) text = is_number (enclave_of plan caller) text
is_own plan _ text = is_enclave plan.enclaves text

-- its number, where it is one
abbrev pub own_in : Plan → actors.Actor → List ℕ → Option ℕ
own_in plan who text = if is_own plan who text then Some (number text) else None

module _ (header : Header) (seen : Seen) (who : actors.Actor) (may : Givers) where
  -- `swap ENCLAVE LOW`
  abbrev pub swap_round_of : List (List ℕ) → Result Word Why
  swap_round_of = with_two (λ enclave low. admit_round header seen who may (is_numeral enclave && is_numeral low) >>= λ _. unless (
      (is_up_to most_u32 low, Range)
      ∷ (is_own header.plan who enclave, Enclave) ∷ [])
      (SwapRound (number enclave) (number low)))

  -- `balloon ENCLAVE TO`
  abbrev pub balloon_of : List (List ℕ) → Result Word Why
  balloon_of = with_two (λ enclave to. admit_round header seen who may (is_numeral enclave && is_numeral to) >>= λ _. unless (
      (is_up_to most_frames to, Range)
      ∷ (is_own header.plan who enclave, Enclave) ∷ [])
      (SetShare (number enclave) (number to)))
