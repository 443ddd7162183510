-- Histories of several callers and several enclaves: who may use a block, which addresses are refused, and how sub-pages are numbered.
use Rattle.std.proofs.Common.{◌≡◌, ℕ, List, [], ◌∷◌, false, nat_eq, take, refl, arith}
use Rattle.std.specs.Cmp.Lexicographic.{pointwise}
use Rattle.eleos_base.specs.Lists.{first_from}
use Rattle.eleos_base.specs.Plain.{lowest_run, zeros}
use Rattle.eleos_base.specs.Plans.{IsCaller}
use Rattle.eleos_base.specs.declared.memory.Addr.{Addr}
use Rattle.eleos_base.specs.declared.memory.Op.TheVariants.{Alloc, Free, Share, Read, Write}
use Rattle.eleos_base.specs.declared.memory.Reply.TheVariants.{Got, Done, Text, Tampered, NotYours, NotABlock, NoSpace, BadSize, BadRange, Unallocated}
use Rattle.eleos_base.specs.declared.plan.Plan.{Plan}
use Rattle.eleos_core.specs.declared.event.Event.TheVariants.{Op}
use Rattle.eleos_core.specs.Seals.{Seals, Opens}
use Rattle.eleos_core.specs.State.{History, entry, sealings}
use Rattle.eleos_core.specs.Legal.{CoreRun, failed}
use Rattle.eleos_core.proofs.Sanity.{caller, plainly, passing_text, failing, small, at, blank_with}

-- two callers of one enclave, and a block of an owner from the start
abbrev pair : ℕ → Plan
pair owner = record { enclaves = record { pages = 1; frames = 1 } ∷ []; spare = 0; callers = 0 ∷ 0 ∷ []; wear = 1000; blocks = record { enclave = 0; bytes = 100; owner = owner } ∷ [] }

first : {owner : ℕ} → IsCaller (pair owner) 1
first = record { from_one = omega arith; within = omega arith }

second : {owner : ℕ} → IsCaller (pair owner) 2
second = record { from_one = omega arith; within = omega arith }

-- two enclaves of one page and one frame, each with a caller
abbrev two : Plan
two = record { enclaves = record { pages = 1; frames = 1 } ∷ record { pages = 1; frames = 1 } ∷ []; spare = 0; callers = 0 ∷ 1 ∷ []; wear = 1000; blocks = [] }

first_home : IsCaller two 1
first_home = record { from_one = omega arith; within = omega arith }

second_home : IsCaller two 2
second_home = record { from_one = omega arith; within = omega arith }

abbrev there : ℕ → Addr
there offset = record { enclave = 1; at = offset }

module _ (x : Seals) (opens : Opens x) where
  abbrev block_of : ℕ → ℕ → List ℕ
  block_of s byte = x.seal s 1 (blank_with byte)

  -- a block that is the first caller's from the start
  abbrev shared : History
  shared = entry 2 (Op (Free (at 0))) [] (NotYours 1) ∷ entry 2 (Op (Read (at 0) 1)) (block_of 0 65 ∷ []) (Text (65 ∷ [])) ∷ entry 1 (Op (Share (at 0))) [] Done
      ∷ entry 2 (Op (Share (at 0))) [] (NotYours 1) ∷ entry 2 (Op (Read (at 0) 1)) [] (NotYours 1) ∷ entry 1 (Op (Write (at 0) (65 ∷ []))) [] Done ∷ []

  shared_runs : CoreRun (pair 1) x shared
  unfolding lowest_run first_from
  shared_runs = (
    record { within = second; step = plainly },
    (
      record { within = second; step = passing_text (x.tag 0 1 (block_of 0 65)) (failed 0) (x.unseal 0 1 (block_of 0 65)) (blank_with 65) (opens.unseals 0 1 (blank_with 65)) },
      (
        record { within = first; step = plainly },
        (
          record { within = second; step = plainly },
          (
            record { within = second; step = plainly },
            (record { within = first; step = refl }, tt),
          ),
        ),
      ),
    ),
  )

  -- a block of nobody is shared from the start, and nobody frees it
  abbrev nobodys : History
  nobodys = entry 1 (Op (Share (at 0))) [] (NotYours 0) ∷ entry 2 (Op (Free (at 0))) [] (NotYours 0) ∷ entry 2 (Op (Read (at 0) 1)) (block_of 0 65 ∷ []) (Text (65 ∷ [])) ∷ entry 1 (Op (Write (at 0) (65 ∷ []))) [] Done ∷ []

  nobodys_runs : CoreRun (pair 0) x nobodys
  unfolding lowest_run first_from
  nobodys_runs = (
    record { within = first; step = plainly },
    (
      record { within = second; step = plainly },
      (
        record { within = second; step = passing_text (x.tag 0 1 (block_of 0 65)) (failed 0) (x.unseal 0 1 (block_of 0 65)) (blank_with 65) (opens.unseals 0 1 (blank_with 65)) },
        (record { within = first; step = refl }, tt),
      ),
    ),
  )

  -- refusals by size, range and place
  abbrev edges : History
  edges = entry 1 (Op (Read (record { enclave = 1; at = 0 }) 1)) [] BadRange ∷ entry 1 (Op (Read (at 4096) 1)) [] BadRange ∷ entry 1 (Op (Read (at 2048) 1)) [] Unallocated ∷ entry 1 (Op (Read (at 0) 0)) [] BadRange
      ∷ entry 1 (Op (Read (at 0) 1025)) [] BadRange ∷ entry 1 (Op (Read (at 1023) 2)) [] BadRange ∷ entry 1 (Op (Read (at 1023) 1)) [] (Text (0 ∷ [])) ∷ entry 1 (Op (Read (at 0) 1024)) [] (Text (zeros 1024))
      ∷ entry 1 (Op (Alloc 2048)) [] (Got (at 0)) ∷ entry 1 (Op (Alloc 65537)) [] BadSize ∷ entry 1 (Op (Alloc 0)) [] BadSize ∷ []

  edges_run : CoreRun small x edges
  unfolding lowest_run first_from zeros
  edges_run = (
    record { within = caller; step = plainly },
    (
      record { within = caller; step = plainly },
      (
        record { within = caller; step = plainly },
        (
          record { within = caller; step = plainly },
          (
            record { within = caller; step = plainly },
            (
              record { within = caller; step = plainly },
              (
                record { within = caller; step = refl },
                (
                  record { within = caller; step = refl },
                  (
                    record { within = caller; step = plainly },
                    (
                      record { within = caller; step = plainly },
                      (record { within = caller; step = plainly }, tt),
                    ),
                  ),
                ),
              ),
            ),
          ),
        ),
      ),
    ),
  )

  -- the lowest free run, and what was freed is taken again
  abbrev lowest : History
  lowest = entry 1 (Op (Free (at 1024))) [] NotABlock ∷ entry 1 (Op (Free (at 1024))) [] Done ∷ entry 1 (Op (Alloc 1024)) [] (Got (at 1024)) ∷ entry 1 (Op (Alloc 1025)) [] NoSpace ∷ entry 1 (Op (Free (at 1024))) [] Done
      ∷ entry 1 (Op (Alloc 2048)) [] (Got (at 2048)) ∷ entry 1 (Op (Alloc 1024)) [] (Got (at 1024)) ∷ entry 1 (Op (Alloc 1024)) [] (Got (at 0)) ∷ []

  lowest_runs : CoreRun small x lowest
  unfolding lowest_run first_from
  lowest_runs = (
    record { within = caller; step = plainly },
    (
      record { within = caller; step = plainly },
      (
        record { within = caller; step = plainly },
        (
          record { within = caller; step = plainly },
          (
            record { within = caller; step = plainly },
            (
              record { within = caller; step = plainly },
              (
                record { within = caller; step = plainly },
                (record { within = caller; step = plainly }, tt),
              ),
            ),
          ),
        ),
      ),
    ),
  )

  -- the second enclave's first sub-page is the machine's sub-page 4
  abbrev apart : List ℕ → History
  apart bad = entry 2 (Op (Read (there 0) 1)) (bad ∷ []) (Tampered 4) ∷ entry 2 (Op (Read (there 0) 1)) (block_of 4 66 ∷ []) (Text (66 ∷ [])) ∷ entry 1 (Op (Read (there 0) 1)) [] BadRange ∷ entry 2 (Op (Read (at 0) 1)) [] BadRange
      ∷ entry 1 (Op (Read (at 0) 1)) [] (Text (0 ∷ [])) ∷ entry 2 (Op (Write (there 0) (66 ∷ []))) [] Done ∷ entry 2 (Op (Alloc 1)) [] (Got (there 0)) ∷ entry 1 (Op (Alloc 1)) [] (Got (at 0)) ∷ []

  apart_runs : (bad : List ℕ) → pointwise nat_eq (x.tag 4 1 bad) (x.tag 4 1 (block_of 4 66)) ≡ false → CoreRun two x (apart bad)
  unfolding lowest_run first_from zeros
  apart_runs bad altered = (
    record { within = second_home; step = failing (pointwise nat_eq (x.tag 4 1 bad) (x.tag 4 1 (block_of 4 66))) 4 (Text (take 1 (x.unseal 4 1 bad))) altered },
    (
      record { within = second_home; step = passing_text (x.tag 4 1 (block_of 4 66)) (failed 4) (x.unseal 4 1 (block_of 4 66)) (blank_with 66) (opens.unseals 4 1 (blank_with 66)) },
      (
        record { within = first_home; step = plainly },
        (
          record { within = second_home; step = plainly },
          (
            record { within = first_home; step = refl },
            (
              record { within = second_home; step = refl },
              (
                record { within = second_home; step = plainly },
                (record { within = first_home; step = plainly }, tt),
              ),
            ),
          ),
        ),
      ),
    ),
  )

  sealed_there : (bad : List ℕ) → sealings two (apart bad) ≡ (4, 1) ∷ []
  sealed_there bad = refl
