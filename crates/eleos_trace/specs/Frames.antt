-- Commands of the swapper and of the balloon on frames.
use Rattle.std.specs.Prelude.{ℕ, List, [], ◌∷◌, Bool, ◌&&◌, ◌||◌, Option, Some, None, Result, Ok, codes, if◌then◌else◌}
use Rattle.eleos_base.specs.declared.plan.EnclavePlan.{EnclavePlan}
use Rattle.eleos_trace.specs.declared.givers.Givers.{Givers}
use Rattle.eleos_trace.specs.declared.header.Header.{Header}
use Rattle.eleos_trace.specs.declared.seen.Seen.{Seen}
use Rattle.eleos_trace.specs.declared.word.Actor as actors
use Rattle.eleos_trace.specs.declared.word.Word.{Word}
use Rattle.eleos_trace.specs.declared.word.Word.TheVariants.{Move}
use Rattle.eleos_texts.specs.declared.why.Why.{Why}
use Rattle.eleos_texts.specs.declared.why.Why.TheVariants.{Range, Enclave}
use Rattle.eleos_texts.specs.Fields.{is, is_numeral, number, is_below}
use Rattle.eleos_texts.specs.Reasons.{unless, with_two, with_three, ◌>>=◌}
use Rattle.eleos_trace.specs.Givers.{admit}
use Rattle.eleos_base.specs.Places.{all_frames, all_pages}
use Rattle.eleos_trace.specs.Machines.{is_enclave}

-- a dash stands for the pool
abbrev pub is_pool : List ℕ → Bool
is_pool text = is (codes "-") text

-- one of both is the pool, and the other an enclave by its number
abbrev pub is_move : List ℕ → List ℕ → Bool
is_move from to = is_pool from && is_numeral to || is_numeral from && is_pool to

-- a frame, and such two
abbrev pub is_frame_move : List ℕ → List ℕ → List ℕ → Bool
is_frame_move frame from to = is_numeral frame && is_move from to

-- the pool, or an enclave that is declared
abbrev pub is_owner : List EnclavePlan → List ℕ → Bool
is_owner enclaves text = is_pool text || is_enclave enclaves text

-- nobody for the pool, or else the number of an enclave
abbrev pub owner : List ℕ → Option ℕ
owner text = if is_pool text then None else Some (number text)

-- that owner, where it is one
abbrev pub owner_in : List EnclavePlan → List ℕ → Option (Option ℕ)
owner_in enclaves text = if is_owner enclaves text then Some (owner text) else None

-- the owners before and behind a move, where both are some
unfoldable pub owners_of : List EnclavePlan → List ℕ → List ℕ → Result (Option ℕ × Option ℕ) Why
owners_of enclaves from to = unless ((is_owner enclaves from && is_owner enclaves to, Enclave) ∷ []) (owner from, owner to)

module _ (header : Header) (seen : Seen) (who : actors.Actor) (may : Givers) where
  -- the page and the frame, as of `fill PAGE FRAME` and `evict PAGE FRAME`
  abbrev pub page_and_frame_of : List (List ℕ) → Result (ℕ × ℕ) Why
  page_and_frame_of = with_two (λ page frame. admit header seen who may (is_numeral page && is_numeral frame) >>= λ _. unless (
      (is_below (all_pages header.plan) page && is_below (all_frames header.plan) frame, Range) ∷ [])
      (number page, number frame))

  -- `move FRAME FROM TO`
  abbrev pub move_of : List (List ℕ) → Result Word Why
  move_of = with_three (λ frame from to. admit header seen who may (is_frame_move frame from to) >>= λ _. unless (
      (is_below (all_frames header.plan) frame, Range) ∷ [])
      (number frame) >>= λ place. owners_of header.plan.enclaves from to >>= λ owners. Ok (Move place owners.0 owners.1))
