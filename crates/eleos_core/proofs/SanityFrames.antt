-- Histories of frames: links that keep a page, events that are not legal, frames that move, and what searches among frames answer.
use Rattle.std.proofs.Common.{◌≡◌, ℕ, ◌-◌, ◌<◌, ◌≤◌, ◌==◌, ◌&&◌, List, [], ◌∷◌, Bool, true, false, Some, None, if◌then◌else◌, refl, arith}
use Rattle.eleos_base.specs.Lists.{first_from}
use Rattle.eleos_base.specs.Plain.{lowest_run, zeros}
use Rattle.eleos_base.specs.declared.memory.Looked.{Looked}
use Rattle.eleos_base.specs.declared.memory.Op.TheVariants.{Alloc, Read, Write}
use Rattle.eleos_base.specs.declared.memory.Reply.{Reply}
use Rattle.eleos_base.specs.declared.memory.Reply.TheVariants.{Got, Done, Text, NoFrame}
use Rattle.eleos_base.specs.declared.plan.Plan.{Plan}
use Rattle.eleos_core.specs.declared.event.Event.TheVariants.{Op, Link, Unlink, Fill, Evict, Move, Starved}
use Rattle.eleos_core.specs.declared.event.Wanted.TheVariants.{Link as ALink, Op as ACall}
use Rattle.eleos_core.specs.Seals.{Seals}
use Rattle.eleos_core.specs.State.{History, entry, frames_of, owner, links}
use Rattle.eleos_core.specs.Legal.{CoreStep, CoreRun, IsActor}
use Rattle.eleos_core.specs.Laws.{share, resident}
use Rattle.eleos_core.proofs.Sanity.{caller, swapper, plainly, gone, one_enclave, at}

-- what was seen of a frame; 258 is one pin and a later chance
abbrev seen : ℕ → ℕ → Looked
seen frame word = record { frame = frame; word = word }

none_is_not_one : (n : ℕ) → n ≡ 0 → n ≡ 1 → ⊥
none_is_not_one n none one = omega arith

-- a link that was taken off leaves none
unlinked : (b : Bool) → (if b && true then (if b && true then 1 else 0) - 1 else if b && true then 1 else 0) ≡ 0
unlinked true = refl
unlinked false = refl

module _ (x : Seals) where
  -- one frame for two pages
  abbrev tight : Plan
  tight = one_enclave 2 1 1000

  abbrev allocated : History
  allocated = entry 1 (Op (Alloc 8192)) [] (Got (at 0)) ∷ []

  allocated_runs : CoreRun tight x allocated
  unfolding lowest_run first_from
  allocated_runs = (record { within = caller; step = plainly }, tt)

  -- an absent page is not linked
  links_absent : (blocks : List (List ℕ)) (reply : Reply) → CoreStep tight x allocated (entry 1 (Link (at 0)) blocks reply) → ⊥
  links_absent blocks reply step = let present = step.step.0 in cc

  abbrev filled : History
  filled = entry 2 (Fill 0 0) [] Done ∷ allocated

  filled_runs : CoreRun tight x filled
  filled_runs = (record { within = (swapper, omega arith, omega arith); step = (record { absent = refl; free = λ p same. cc; at_home = refl }, refl) }, allocated_runs)

  -- a present page is not filled, nor another page into its frame
  fills_present : (blocks : List (List ℕ)) (reply : Reply) → CoreStep tight x filled (entry 2 (Fill 0 0) blocks reply) → ⊥
  fills_present blocks reply step = let absent = step.step.0.absent in cc

  fills_taken : (blocks : List (List ℕ)) (reply : Reply) → CoreStep tight x filled (entry 2 (Fill 1 0) blocks reply) → ⊥
  fills_taken blocks reply step = step.step.0.free 0 refl

  abbrev linked : History
  linked = entry 1 (Link (at 0)) [] Done ∷ filled

  linked_runs : CoreRun tight x linked
  unfolding lowest_run first_from
  linked_runs = (record { within = caller; step = (refl, plainly) }, filled_runs)

  -- a linked page is not evicted
  evicts_linked : (blocks : List (List ℕ)) (reply : Reply) → CoreStep tight x linked (entry 2 (Evict 0 0) blocks reply) → ⊥
  evicts_linked blocks reply step = none_is_not_one (links tight linked 1 0) (step.step.0.no_link 1) refl

  -- so the other page finds no frame
  abbrev starved : History
  starved = entry 1 (Starved (ALink (at 4096)) (seen 0 258 ∷ [])) [] (NoFrame (seen 0 258 ∷ [])) ∷ linked

  starved_runs : CoreRun tight x starved
  unfolding lowest_run first_from
  starved_runs = (
    record {
      within = (caller, tt);
      step = (record { not_refused = refl; absent = refl }, record { all = record { moves = []; below = tt; is = refl }; taken = (refl, tt) }, plainly);
    },
    linked_runs,
  )

  -- a frame that nobody pins is no reason
  starves_free : (blocks : List (List ℕ)) (reply : Reply) → CoreStep tight x linked (entry 1 (Starved (ALink (at 4096)) (seen 0 2 ∷ [])) blocks reply) → ⊥
  starves_free blocks reply step = let taken = step.step.1.taken.0 in cc

  -- unlinked, it leaves the frame to the other page
  abbrev relinked : History
  relinked = entry 1 (Unlink 1) [] Done ∷ entry 1 (Link (at 4096)) [] Done ∷ entry 2 (Fill 1 0) [] Done ∷ entry 2 (Evict 0 0) [] Done ∷ entry 1 (Unlink 0) [] Done ∷ starved

  relinked_runs : CoreRun tight x relinked
  unfolding lowest_run first_from
  relinked_runs = (
    record { within = (caller, omega arith); step = (omega arith, plainly) },
    (
      record { within = caller; step = (refl, plainly) },
      (
        record { within = (swapper, omega arith, omega arith); step = (record { absent = refl; free = λ p. gone (p == 0) 0; at_home = refl }, refl) },
        (
          record { within = (swapper, omega arith, omega arith); step = (record { present = refl; no_link = λ by. unlinked (by == 1) }, plainly) },
          (record { within = (caller, omega arith); step = (omega arith, plainly) }, starved_runs),
        ),
      ),
    ),
  )

  -- who has no link on a page takes none off
  unlinks_untied : (blocks : List (List ℕ)) (reply : Reply) → CoreStep tight x relinked (entry 1 (Unlink 0) blocks reply) → ⊥
  unlinks_untied blocks reply step = let some : 1 ≤ 0 = step.step.0 in omega arith

  -- an enclave with no frame: every link and every access by a pointer finds none, calls go on
  abbrev bare : Plan
  bare = one_enclave 1 0 1000

  abbrev unframed : History
  unframed = entry 1 (Op (Read (at 0) 1)) [] (Text (0 ∷ [])) ∷ entry 1 (Starved (ACall (Write (at 0) (65 ∷ []))) []) [] (NoFrame []) ∷ entry 1 (Starved (ACall (Read (at 0) 1)) []) [] (NoFrame []) ∷ entry 1 (Starved (ALink (at 0)) []) [] (NoFrame [])
      ∷ entry 1 (Op (Alloc 1)) [] (Got (at 0)) ∷ []

  unframed_runs : CoreRun bare x unframed
  unfolding lowest_run first_from zeros
  unframed_runs = (
    record { within = caller; step = refl },
    (
      record {
        within = (caller, tt);
        step = (record { not_refused = refl; absent = refl }, record { all = record { moves = []; below = tt; is = refl }; taken = tt }, plainly);
      },
      (
        record {
          within = (caller, tt);
          step = (record { not_refused = refl; absent = refl }, record { all = record { moves = []; below = tt; is = refl }; taken = tt }, plainly);
        },
        (
          record {
            within = (caller, tt);
            step = (record { not_refused = refl; absent = refl }, record { all = record { moves = []; below = tt; is = refl }; taken = tt }, plainly);
          },
          (record { within = caller; step = plainly }, tt),
        ),
      ),
    ),
  )

  -- no alloc needs a frame
  starves_alloc : (blocks : List (List ℕ)) (reply : Reply) → CoreStep bare x unframed (entry 1 (Starved (ACall (Alloc 1)) []) blocks reply) → ⊥
  starves_alloc blocks reply step = step.within.1

  -- two enclaves of one page and one frame, frames 0 and 1, and frame 2 in the pool; the swapper is 3 and the balloon 4
  abbrev two : Plan
  two = record { enclaves = record { pages = 1; frames = 1 } ∷ record { pages = 1; frames = 1 } ∷ []; spare = 1; callers = 0 ∷ 1 ∷ []; wear = 1000; blocks = [] }

  balloon : IsActor two 4
  balloon = record { from_one = omega arith; within = omega arith }

  swapper_of_two : IsActor two 3
  swapper_of_two = record { from_one = omega arith; within = omega arith }

  at_first : (frames_of two [] (Some 0) ≡ 0 ∷ []) × (frames_of two [] (Some 1) ≡ 1 ∷ []) × (frames_of two [] None ≡ 2 ∷ []) × (frames_of two [] (Some 2) ≡ [])
  at_first = (refl, refl, refl, refl)

  -- a page is filled into a frame of its own enclave alone
  fills_foreign : (blocks : List (List ℕ)) (reply : Reply) → CoreStep two x [] (entry 3 (Fill 1 0) blocks reply) → ⊥
  fills_foreign blocks reply step = let home = step.step.0.at_home in cc

  fills_spare : (blocks : List (List ℕ)) (reply : Reply) → CoreStep two x [] (entry 3 (Fill 1 2) blocks reply) → ⊥
  fills_spare blocks reply step = let home = step.step.0.at_home in cc

  -- frame 0 goes to the pool, behind frame 2
  abbrev gone_out : History
  gone_out = entry 4 (Move 0 (Some 0) None) [] Done ∷ []

  gone_out_runs : CoreRun two x gone_out
  gone_out_runs = (record { within = (balloon, omega arith, tt, omega arith, tt); step = (record { owned = refl; free = λ p same. cc }, plainly) }, tt)

  after_out : (frames_of two gone_out (Some 0) ≡ []) × (frames_of two gone_out (Some 1) ≡ 1 ∷ []) × (frames_of two gone_out None ≡ 2 ∷ 0 ∷ []) × (owner two gone_out 0 ≡ None)
  after_out = (refl, refl, refl, refl)

  -- what is gone doesn't go again, and the enclave fills it no more
  moves_gone : (blocks : List (List ℕ)) (reply : Reply) → CoreStep two x gone_out (entry 4 (Move 0 (Some 0) None) blocks reply) → ⊥
  moves_gone blocks reply step = let owned = step.step.0.owned in cc

  fills_gone : (blocks : List (List ℕ)) (reply : Reply) → CoreStep two x gone_out (entry 3 (Fill 0 0) blocks reply) → ⊥
  fills_gone blocks reply step = let home = step.step.0.at_home in cc

  -- no frame goes from one enclave to another at once, nor a frame of the pool to an enclave that there is not
  moves_across : (blocks : List (List ℕ)) (reply : Reply) → CoreStep two x [] (entry 4 (Move 0 (Some 0) (Some 1)) blocks reply) → ⊥
  moves_across blocks reply step = step.within.2

  moves_nowhere : (blocks : List (List ℕ)) (reply : Reply) → CoreStep two x [] (entry 4 (Move 2 None (Some 2)) blocks reply) → ⊥
  moves_nowhere blocks reply step = let below : 2 < 2 = step.within.4 in omega arith

  -- it comes back, and frame 2 joins the second enclave
  abbrev come_back : History
  come_back = entry 4 (Move 2 None (Some 1)) [] Done ∷ entry 4 (Move 0 None (Some 0)) [] Done ∷ gone_out

  come_back_runs : CoreRun two x come_back
  come_back_runs = (
    record { within = (balloon, omega arith, tt, tt, omega arith); step = (record { owned = refl; free = λ p same. cc }, plainly) },
    (record { within = (balloon, omega arith, tt, tt, omega arith); step = (record { owned = refl; free = λ p same. cc }, plainly) }, gone_out_runs),
  )

  after_back : (frames_of two come_back (Some 0) ≡ 0 ∷ []) × (frames_of two come_back (Some 1) ≡ 1 ∷ 2 ∷ []) × (frames_of two come_back None ≡ [])
  after_back = (refl, refl, refl)

  -- a frame with a page in it stays
  abbrev in_use : History
  in_use = entry 3 (Fill 1 2) [] Done ∷ come_back

  in_use_runs : CoreRun two x in_use
  in_use_runs = (record { within = (swapper_of_two, omega arith, omega arith); step = (record { absent = refl; free = λ p same. cc; at_home = refl }, refl) }, come_back_runs)

  moves_used : (blocks : List (List ℕ)) (reply : Reply) → CoreStep two x in_use (entry 4 (Move 2 (Some 1) None) blocks reply) → ⊥
  moves_used blocks reply step = step.step.0.free 1 refl

  shares_now : (share two in_use (Some 1) ≡ 2) × (resident two in_use (Some 1) ≡ 1) × (resident two in_use (Some 0) ≡ 0)
  shares_now = (refl, refl, refl)
