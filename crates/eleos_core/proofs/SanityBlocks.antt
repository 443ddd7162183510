-- Histories over a host that gives wrong blocks: a flipped bit, an old block, two blocks in each other's place, a refused fill; and wear.
use Rattle.std.proofs.Common.{◌≡◌, ℕ, ◌==◌, List, [], ◌∷◌, false, nat_eq, take, drop, if◌then◌else◌, refl, sym, ◌∙◌, ap, arith}
use Rattle.std.specs.Cmp.Lexicographic.{pointwise}
use Rattle.eleos_base.specs.Lists.{first_from}
use Rattle.eleos_base.specs.Plain.{lowest_run, zeros}
use Rattle.eleos_base.specs.declared.memory.Op.TheVariants.{Alloc, Free, Read, Write}
use Rattle.eleos_base.specs.declared.memory.Reply.{Reply}
use Rattle.eleos_base.specs.declared.memory.Reply.TheVariants.{Got, Done, Text, Tampered, Worn}
use Rattle.eleos_base.specs.declared.plan.Plan.{Plan}
use Rattle.eleos_core.specs.declared.event.Event.TheVariants.{Op, Fill, Evict, Spoiled}
use Rattle.eleos_core.specs.declared.event.Wanted.TheVariants.{Link as ALink, Op as ACall}
use Rattle.eleos_core.specs.Seals.{Seals, Opens}
use Rattle.eleos_core.specs.State.{History, entry, sealings, sealings_of}
use Rattle.eleos_core.specs.Legal.{CoreStep, CoreRun, Judged, passed, failed}
use Rattle.eleos_core.proofs.Sanity.{same_tag, caller, swapper, plainly, passing, passing_text, failing, gone, one_enclave, small, at, blank_with}

-- the block does not pass where this one was sealed
abbrev IsAltered : Seals → ℕ → ℕ → List ℕ → List ℕ → Type 0
IsAltered x s v block sealed = pointwise nat_eq (x.tag s v block) (x.tag s v sealed) ≡ false

-- a block that has its tag has not failed
passed_not_failed : (t : List ℕ) (s : ℕ) → (if pointwise nat_eq t t then passed else failed 0) ≡ failed s → ⊥
passed_not_failed t s fails = let passes : ◌≡◌ {A = Judged} passed (failed s) = sym (ap (λ b. if b then passed else failed 0) (same_tag t)) ∙ fails in cc

module _ (x : Seals) (opens : Opens x) where
  abbrev block_of : ℕ → ℕ → List ℕ
  block_of s byte = x.seal s 1 (blank_with byte)

  -- a flipped bit: reads and fills are answered Tampered until the block is as it was
  abbrev kept : History
  kept = entry 2 (Evict 0 0) [] Done ∷ entry 1 (Op (Write (at 0) (65 ∷ []))) [] Done ∷ entry 2 (Fill 0 0) [] Done ∷ entry 1 (Op (Alloc 1)) [] (Got (at 0)) ∷ []

  kept_runs : CoreRun small x kept
  unfolding lowest_run first_from
  kept_runs = (
    record { within = (swapper, omega arith, omega arith); step = (record { present = refl; no_link = λ by. refl }, plainly) },
    (
      record { within = caller; step = refl },
      (
        record { within = (swapper, omega arith, omega arith); step = (record { absent = refl; free = λ p same. cc; at_home = refl }, refl) },
        (record { within = caller; step = plainly }, tt),
      ),
    ),
  )

  one_put : sealings small kept ≡ (0, 1) ∷ []
  one_put = refl

  -- what waits for the page is answered Tampered too, and the page stays absent
  abbrev spoiled : List ℕ → History
  spoiled bad = entry 1 (Spoiled (ACall (Read (at 0) 1))) (bad ∷ []) (Tampered 0) ∷ entry 1 (Spoiled (ALink (at 0))) (bad ∷ []) (Tampered 0) ∷ kept

  spoiled_runs : (bad : List ℕ) → IsAltered x 0 1 bad (block_of 0 65) → CoreRun small x (spoiled bad)
  unfolding lowest_run first_from
  spoiled_runs bad altered =
      let judged = ap (λ b. if b then passed else failed 0) altered in (
        record { within = (caller, tt); step = (record { not_refused = refl; absent = refl }, 0, judged, refl) },
        (record { within = (caller, tt); step = (record { not_refused = refl; absent = refl }, 0, judged, refl) }, kept_runs),
      )

  -- with the right block nothing is spoiled
  spoils_none : (s : ℕ) → CoreStep small x kept (entry 1 (Spoiled (ALink (at 0))) (block_of 0 65 ∷ []) (Tampered s)) → ⊥
  spoils_none s step = passed_not_failed (x.tag 0 1 (block_of 0 65)) step.step.1 step.step.2

  abbrev flipped : List ℕ → History
  flipped bad = entry 1 (Op (Read (at 0) 1)) (block_of 0 65 ∷ []) (Text (65 ∷ [])) ∷ entry 2 (Fill 0 0) (bad ∷ []) (Tampered 0) ∷ entry 1 (Op (Read (at 0) 1)) (bad ∷ []) (Tampered 0) ∷ kept

  flipped_runs : (bad : List ℕ) → IsAltered x 0 1 bad (block_of 0 65) → CoreRun small x (flipped bad)
  flipped_runs bad altered = (
    record { within = caller; step = passing_text (x.tag 0 1 (block_of 0 65)) (failed 0) (x.unseal 0 1 (block_of 0 65)) (blank_with 65) (opens.unseals 0 1 (blank_with 65)) },
    (
      record {
        within = (swapper, omega arith, omega arith);
        step = (record { absent = refl; free = λ p. gone (p == 0) 0; at_home = refl }, failing (pointwise nat_eq (x.tag 0 1 bad) (x.tag 0 1 (block_of 0 65))) 0 Done altered);
      },
      (
        record {
          within = caller;
          step = failing (pointwise nat_eq (x.tag 0 1 bad) (x.tag 0 1 (block_of 0 65))) 0 (Text (take 1 (x.unseal 0 1 bad))) altered;
        },
        kept_runs,
      ),
    ),
  )

  -- an old block does not pass in place of the last
  abbrev second_text : List ℕ
  second_text = 66 ∷ drop 1 (x.unseal 0 1 (block_of 0 65))

  abbrev old : History
  old = entry 1 (Op (Read (at 0) 1)) (block_of 0 65 ∷ []) (Tampered 0) ∷ entry 1 (Op (Write (at 0) (66 ∷ []))) (block_of 0 65 ∷ []) Done
      ∷ entry 1 (Op (Write (at 0) (65 ∷ []))) [] Done ∷ entry 1 (Op (Alloc 1)) [] (Got (at 0)) ∷ []

  old_runs : IsAltered x 0 2 (block_of 0 65) (x.seal 0 2 second_text) → CoreRun small x old
  unfolding lowest_run first_from
  old_runs altered = (
    record {
      within = caller;
      step = failing (pointwise nat_eq (x.tag 0 2 (block_of 0 65)) (x.tag 0 2 (x.seal 0 2 second_text))) 0 (Text (take 1 (x.unseal 0 2 (block_of 0 65)))) altered;
    },
    (
      record { within = caller; step = passing (x.tag 0 1 (block_of 0 65)) (failed 0) Done },
      (
        record { within = caller; step = refl },
        (record { within = caller; step = plainly }, tt),
      ),
    ),
  )

  -- two blocks in each other's place
  abbrev swapped : History
  swapped = entry 1 (Op (Read (at 1024) 1)) (block_of 0 65 ∷ []) (Tampered 1) ∷ entry 1 (Op (Read (at 0) 1)) (block_of 1 66 ∷ []) (Tampered 0)
      ∷ entry 1 (Op (Write (at 1024) (66 ∷ []))) [] Done ∷ entry 1 (Op (Write (at 0) (65 ∷ []))) [] Done ∷ entry 1 (Op (Alloc 2048)) [] (Got (at 0)) ∷ []

  swapped_runs : IsAltered x 0 1 (block_of 1 66) (block_of 0 65) → IsAltered x 1 1 (block_of 0 65) (block_of 1 66) → CoreRun small x swapped
  unfolding lowest_run first_from
  swapped_runs first second = (
    record {
      within = caller;
      step = failing (pointwise nat_eq (x.tag 1 1 (block_of 0 65)) (x.tag 1 1 (block_of 1 66))) 1 (Text (take 1 (x.unseal 1 1 (block_of 0 65)))) second;
    },
    (
      record {
        within = caller;
        step = failing (pointwise nat_eq (x.tag 0 1 (block_of 1 66)) (x.tag 0 1 (block_of 0 65))) 0 (Text (take 1 (x.unseal 0 1 (block_of 1 66)))) first;
      },
      (
        record { within = caller; step = refl },
        (
          record { within = caller; step = refl },
          (record { within = caller; step = plainly }, tt),
        ),
      ),
    ),
  )

  -- a refused fill leaves the page absent, so that it can't be evicted; an evicted page keeps what was written
  abbrev refused : List ℕ → History
  refused bad = entry 2 (Fill 0 0) (bad ∷ []) (Tampered 1) ∷ entry 1 (Op (Write (at 1024) (66 ∷ []))) [] Done ∷ entry 1 (Op (Alloc 2048)) [] (Got (at 0)) ∷ []

  refused_runs : (bad : List ℕ) → IsAltered x 1 1 bad (block_of 1 66) → CoreRun small x (refused bad)
  unfolding lowest_run first_from
  refused_runs bad altered = (
    record {
      within = (swapper, omega arith, omega arith);
      step = (record { absent = refl; free = λ p same. cc; at_home = refl }, failing (pointwise nat_eq (x.tag 1 1 bad) (x.tag 1 1 (block_of 1 66))) 1 Done altered);
    },
    (
      record { within = caller; step = refl },
      (record { within = caller; step = plainly }, tt),
    ),
  )

  evicts_absent : (bad : List ℕ) (blocks : List (List ℕ)) (reply : Reply) → CoreStep small x (refused bad) (entry 2 (Evict 0 0) blocks reply) → ⊥
  evicts_absent bad blocks reply step = let present = step.step.0.present in cc

  abbrev filled_after : List ℕ → History
  filled_after bad = entry 1 (Op (Write (at 0) (65 ∷ []))) [] Done ∷ entry 2 (Fill 0 0) (block_of 1 66 ∷ []) Done ∷ refused bad

  abbrev read_after : List ℕ → History
  read_after bad = entry 1 (Op (Read (at 1024) 1)) (block_of 1 66 ∷ []) (Text (66 ∷ [])) ∷ entry 2 (Evict 0 0) [] Done ∷ filled_after bad

  read_after_runs : (bad : List ℕ) → IsAltered x 1 1 bad (block_of 1 66) → CoreRun small x (read_after bad)
  read_after_runs bad altered = (
    record { within = caller; step = passing_text (x.tag 1 1 (block_of 1 66)) (failed 1) (x.unseal 1 1 (block_of 1 66)) (blank_with 66) (opens.unseals 1 1 (blank_with 66)) },
    (
      record { within = (swapper, omega arith, omega arith); step = (record { present = refl; no_link = λ by. refl }, plainly) },
      (
        record { within = caller; step = refl },
        (
          record {
            within = (swapper, omega arith, omega arith);
            step = (record { absent = refl; free = λ p same. cc; at_home = refl }, passing (x.tag 1 1 (block_of 1 66)) (failed 1) Done);
          },
          refused_runs bad altered,
        ),
      ),
    ),
  )

  -- the evict seals the one dirty sub-page
  dirty_alone : (bad : List ℕ) → sealings_of small (entry 2 (Evict 0 0) [] Done) (filled_after bad) ≡ (0, 1) ∷ []
  dirty_alone bad = refl

  -- a sub-page that may be sealed once
  abbrev once : Plan
  once = one_enclave 1 1 1

  abbrev worn : History
  worn = entry 1 (Op (Write (at 0) (66 ∷ []))) [] (Worn 0) ∷ entry 2 (Fill 0 0) (block_of 0 65 ∷ []) Done ∷ entry 1 (Op (Write (at 0) (66 ∷ []))) [] (Worn 0)
      ∷ entry 1 (Op (Write (at 0) (65 ∷ []))) [] Done ∷ entry 1 (Op (Alloc 1)) [] (Got (at 0)) ∷ []

  worn_runs : CoreRun once x worn
  unfolding lowest_run first_from
  worn_runs = (
    record { within = caller; step = plainly },
    (
      record {
        within = (swapper, omega arith, omega arith);
        step = (record { absent = refl; free = λ p same. cc; at_home = refl }, passing (x.tag 0 1 (block_of 0 65)) (failed 0) Done);
      },
      (
        record { within = caller; step = plainly },
        (
          record { within = caller; step = refl },
          (record { within = caller; step = plainly }, tt),
        ),
      ),
    ),
  )

  -- it is read all the same, and stays worn in the next block that has it
  abbrev worn_block : History
  worn_block = entry 1 (Op (Write (at 0) (67 ∷ []))) [] (Worn 0) ∷ entry 1 (Op (Read (at 0) 1)) [] (Text (0 ∷ [])) ∷ entry 1 (Op (Alloc 1)) [] (Got (at 0)) ∷ entry 1 (Op (Free (at 0))) [] Done
      ∷ entry 2 (Evict 0 0) [] Done ∷ entry 1 (Op (Read (at 0) 1)) [] (Text (65 ∷ [])) ∷ worn

  worn_block_runs : CoreRun once x worn_block
  unfolding lowest_run first_from zeros
  worn_block_runs = (
    record { within = caller; step = plainly },
    (
      record { within = caller; step = refl },
      (
        record { within = caller; step = plainly },
        (
          record { within = caller; step = plainly },
          (
            record { within = (swapper, omega arith, omega arith); step = (record { present = refl; no_link = λ by. refl }, plainly) },
            (record { within = caller; step = sym (ap (λ f. Text (take 1 f)) (opens.unseals 0 1 (blank_with 65))) }, worn_runs),
          ),
        ),
      ),
    ),
  )

  nothing_put : sealings once worn_block ≡ (0, 1) ∷ []
  nothing_put = refl
