-- What searches among frames answer, in histories written out by hand.
use Rattle.std.proofs.Common.{◌≡◌, ◌≢◌, ℕ, ◌==◌, if◌then◌else◌, Bool, true, false, [], ◌∷◌, Some, None, inl, inr, refl, arith}
use Rattle.std.specs.List.{IsDistinct}
use Rattle.std.proofs.lemmas.Option.{none-some, same_Some}
use Rattle.eleos_base.specs.declared.memory.Looked.{Looked}
use Rattle.eleos_base.specs.declared.memory.Reply.TheVariants.{Done, Enough, Swept, Reached, Pinned, Short}
use Rattle.eleos_core.specs.declared.event.Event.TheVariants.{Fill, Move, Survey}
use Rattle.eleos_core.specs.declared.event.Goal.TheVariants.{Low, To}
use Rattle.eleos_core.specs.Seals.{Seals}
use Rattle.eleos_core.specs.State.{History, entry, frames_of}
use Rattle.eleos_core.specs.Legal.{CoreStep, CoreRun, IsActor}
use Rattle.eleos_core.proofs.Sanity.{plainly, one_enclave}
use Rattle.eleos_base.specs.declared.plan.Plan.{Plan}

-- what was seen of a frame: nothing, BUSY, or one pin and a later chance
abbrev free : ℕ → Looked
free frame = record { frame = frame; word = 0 }

abbrev busy : ℕ → Looked
busy frame = record { frame = frame; word = 1 }

abbrev pinned : ℕ → Looked
pinned frame = record { frame = frame; word = 258 }

-- four pages and four frames; caller 1 surveys
abbrev wide : Plan
wide = one_enclave 4 4 1000

surveyor : IsActor wide 1
surveyor = record { from_one = omega arith; within = omega arith }

-- pages 0 and 1 are in frames 0 and 1, whatever the tests for them say
other_frame : (a b c : ℕ) → a ≢ c → b ≢ c → (first second : Bool) → (if second then Some b else if first then Some a else None) ≢ Some c
other_frame a b c one two first true same = two (same_Some b c same)
other_frame a b c one two true false same = one (same_Some a c same)
other_frame a b c one two false false same = none-some c same

other_frame_yet : (a c : ℕ) → a ≢ c → (first : Bool) → (if first then Some a else None) ≢ Some c
other_frame_yet a c one true same = one (same_Some a c same)
other_frame_yet a c one false same = none-some c same

module _ (x : Seals) where
  -- two pages in frames 0 and 1, and frames 2 and 3 gone to the pool
  abbrev lent : History
  lent = entry 1 (Move 3 (Some 0) None) [] Done ∷ entry 1 (Move 2 (Some 0) None) [] Done ∷ entry 1 (Fill 1 1) [] Done ∷ entry 1 (Fill 0 0) [] Done ∷ []

  lent_runs : CoreRun wide x lent
  lent_runs = (
    record { within = (surveyor, omega arith, tt, omega arith, tt); step = (record { owned = refl; free = λ p. other_frame 0 1 3 (λ same. omega arith) (λ same. omega arith) (p == 0) (p == 1) }, plainly) },
    (
      record { within = (surveyor, omega arith, tt, omega arith, tt); step = (record { owned = refl; free = λ p. other_frame 0 1 2 (λ same. omega arith) (λ same. omega arith) (p == 0) (p == 1) }, plainly) },
      (
        record { within = (surveyor, omega arith, omega arith); step = (record { absent = refl; free = λ p. other_frame_yet 0 1 (λ same. omega arith) (p == 0); at_home = refl }, refl) },
        (record { within = (surveyor, omega arith, omega arith); step = (record { absent = refl; free = λ p same. cc; at_home = refl }, refl) }, tt),
      ),
    ),
  )

  its_own : (frames_of wide lent (Some 0) ≡ 0 ∷ 1 ∷ []) × (frames_of wide lent None ≡ 2 ∷ 3 ∷ [])
  its_own = (refl, refl)

  -- all that the enclave has is pinned
  balloon_pinned : CoreStep wide x lent (entry 1 (Survey 0 (To 1) (pinned 0 ∷ pinned 1 ∷ [])) [] (Pinned 2))
  balloon_pinned = record {
    within = (surveyor, omega arith);
    step = ((refl, omega arith, record { all = record { moves = []; below = tt; is = refl }; taken = (refl, (refl, tt)) }), refl);
  }

  -- the share is as asked for
  balloon_reached : CoreStep wide x lent (entry 1 (Survey 0 (To 2) []) [] (Reached 2))
  balloon_reached = record { within = (surveyor, omega arith); step = ((refl, refl, refl), refl) }

  -- the pool's frames are BUSY, or there are none
  balloon_busy : CoreStep wide x lent (entry 1 (Survey 0 (To 5) (busy 2 ∷ busy 3 ∷ [])) [] (Short 2))
  balloon_busy = record {
    within = (surveyor, omega arith);
    step = ((refl, omega arith, record { all = record { moves = []; below = tt; is = refl }; busy = (refl, (refl, tt)) }), refl);
  }

  balloon_short : CoreStep wide x [] (entry 1 (Survey 0 (To 5) []) [] (Short 4))
  balloon_short = record {
    within = (surveyor, omega arith);
    step = ((refl, omega arith, record { all = record { moves = []; below = tt; is = refl }; busy = tt }), refl);
  }

  -- while a frame of the pool is free, the share is not Short
  balloon_not_short : CoreStep wide x lent (entry 1 (Survey 0 (To 5) (busy 2 ∷ free 3 ∷ [])) [] (Short 2)) → ⊥
  balloon_not_short step = let is_busy = step.step.0.2.busy.1.0 in cc

  -- too few free frames, of all that the enclave has
  swap_swept : CoreStep wide x lent (entry 1 (Survey 0 (Low 1) (pinned 0 ∷ pinned 1 ∷ [])) [] (Swept 0))
  swap_swept = record {
    within = (surveyor, omega arith);
    step = (record { count = refl; too_few = omega arith; all = record { moves = []; below = tt; is = refl }; words = (inr refl, (inr refl, tt)) }, refl);
  }

  swap_swept_some : CoreStep wide x [] (entry 1 (Survey 0 (Low 2) (free 3 ∷ busy 1 ∷ pinned 2 ∷ busy 0 ∷ [])) [] (Swept 1))
  swap_swept_some = record {
    within = (surveyor, omega arith);
    step = (record { count = refl; too_few = omega arith; all = record { moves = (0, 3) ∷ []; below = (omega arith, omega arith, tt); is = refl }; words = (inl refl, (inr refl, (inr refl, (inr refl, tt)))) }, refl);
  }

  -- free ones enough, in any order, named by the enclave's list
  swap_enough : CoreStep wide x [] (entry 1 (Survey 0 (Low 1) (free 2 ∷ free 0 ∷ [])) [] (Enough 2))
  unfolding IsDistinct
  swap_enough = record {
    within = (surveyor, omega arith);
    step = (
      record {
        count = refl;
        enough = omega arith;
        once = ((refl, tt), (tt, tt));
        listed = ((2, omega arith, refl), ((0, omega arith, refl), tt));
        free = (refl, (refl, tt));
      },
      refl,
    );
  }

  -- none twice, and none that is pinned
  swap_twice : CoreStep wide x [] (entry 1 (Survey 0 (Low 2) (free 2 ∷ free 2 ∷ [])) [] (Enough 2)) → ⊥
  unfolding IsDistinct
  swap_twice step = let once = step.step.0.once.0.0 in cc

  swap_pinned : CoreStep wide x lent (entry 1 (Survey 0 (Low 1) (pinned 0 ∷ [])) [] (Enough 1)) → ⊥
  swap_pinned step = let free = step.step.0.free.0 in cc
