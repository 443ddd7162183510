-- Histories written out by hand: that they are legal holds by computing, for all seals that open what they sealed.
use Rattle.std.proofs.Common.{◌≡◌, ◌≢◌, ℕ, List, [], ◌∷◌, Bool, true, false, ◌&&◌, nat_eq, Some, None, take, drop, if◌then◌else◌, refl, sym, ap, ap₂, subst, arith}
use Rattle.std.specs.Cmp.Lexicographic.{pointwise}
use Rattle.std.proofs.lemmas.Bool.{eq-eqb}
use Rattle.eleos_base.specs.Lists.{first_from}
use Rattle.eleos_base.specs.Plain.{lowest_run, zeros}
use Rattle.eleos_base.specs.Plans.{IsCaller}
use Rattle.eleos_base.specs.declared.memory.Addr.{Addr}
use Rattle.eleos_base.specs.declared.memory.Op.TheVariants.{Alloc, Read, Write}
use Rattle.eleos_base.specs.declared.memory.Reply.{Reply}
use Rattle.eleos_base.specs.declared.memory.Reply.TheVariants.{Got, Done, Text, Tampered}
use Rattle.eleos_base.specs.declared.plan.Plan.{Plan}
use Rattle.eleos_core.specs.declared.event.Event.{Event}
use Rattle.eleos_core.specs.declared.event.Event.TheVariants.{Op, Fill, Evict}
use Rattle.eleos_core.specs.Seals.{Seals, Opens}
use Rattle.eleos_core.specs.State.{History, entry, version, last, is_dirty, is_sealed, frame, sealings}
use Rattle.eleos_core.specs.Legal.{CoreStep, CoreRun, IsActor, IsPlainly, Judged, passed, failed, ByBlocks}

-- a block has its own tag
pub same_tag : (t : List ℕ) → pointwise nat_eq t t ≡ true
same_tag [] = refl
same_tag (b ∷ bs) = ap₂ (λ v w. v && w) (eq-eqb b b refl) (same_tag bs)

-- what becomes of one block that passes, of one that passes for a read of one byte, and of one that does not pass
pub passing : (t : List ℕ) (other : Judged) (good : Reply) → ByBlocks (if pointwise nat_eq t t then passed else other) good good
passing t other good = subst (λ b. ByBlocks (if b then passed else other) good good) (sym (same_tag t)) refl

-- a read of one byte answers the first byte of the text, where its block is the one last sealed
pub passing_text : (t : List ℕ) (other : Judged) (found text : List ℕ) → found ≡ text → ByBlocks (if pointwise nat_eq t t then passed else other) (Text (take 1 found)) (Text (take 1 text))
passing_text t other found text opens = subst (λ b. ByBlocks (if b then passed else other) (Text (take 1 found)) (Text (take 1 text))) (sym (same_tag t)) (ap (λ f. Text (take 1 f)) (sym opens))

-- and a block that does not pass is answered Tampered
pub failing : (b : Bool) (s : ℕ) (good : Reply) → b ≡ false → ByBlocks (if b then passed else failed s) good (Tampered s)
failing b s good no_is = subst (λ b. ByBlocks (if b then passed else failed s) good (Tampered s)) (sym no_is) refl

-- a page that was filled and evicted is in no frame
pub gone : (b : Bool) (f : ℕ) → (if b then None else if b then Some f else None) ≢ Some f
gone true f same = cc
gone false f same = cc

-- one enclave with one caller, as many pages and frames, and a limit of wear; the swapper is 2 and the balloon 3
abbrev pub one_enclave : ℕ → ℕ → ℕ → Plan
one_enclave pages frames wear = record { enclaves = record { pages = pages; frames = frames } ∷ []; spare = 0; callers = 0 ∷ []; wear = wear; blocks = [] }

-- the smallest machine: one page, one frame, and a sub-page sealed at most 1,000 times
abbrev pub small : Plan
small = one_enclave 1 1 1000

-- its one caller has the number 1
pub caller : {pages frames wear : ℕ} → IsCaller (one_enclave pages frames wear) 1
caller = record { from_one = omega arith; within = omega arith }

-- the swapper is an actor of it
pub swapper : {pages frames wear : ℕ} → IsActor (one_enclave pages frames wear) 2
swapper = record { from_one = omega arith; within = omega arith }

-- the one reply, and no block
pub plainly : {who : ℕ} {event : Event} {reply : Reply} → IsPlainly (entry who event [] reply) reply
plainly = record { reply_is = refl; no_block = refl }

-- an address in the one enclave
abbrev pub at : ℕ → Addr
at offset = record { enclave = 0; at = offset }

-- a blank sub-page with a first byte
abbrev pub blank_with : ℕ → List ℕ
blank_with byte = byte ∷ drop 1 (zeros 1024)

module _ (x : Seals) (opens : Opens x) where
  abbrev first_block : List ℕ
  first_block = x.seal 0 1 (blank_with 65)

  abbrev second_text : List ℕ
  second_text = 66 ∷ drop 1 (x.unseal 0 1 first_block)

  abbrev second_block : List ℕ
  second_block = x.seal 0 2 second_text

  abbrev allocated : History
  allocated = entry 1 (Op (Alloc 1)) [] (Got (at 0)) ∷ []

  allocated_runs : CoreRun small x allocated
  unfolding lowest_run first_from
  allocated_runs = (record { within = caller; step = plainly }, tt)

  -- a write while the page is absent seals at version 1
  abbrev written : History
  written = entry 1 (Op (Write (at 0) (65 ∷ []))) [] Done ∷ allocated

  written_runs : CoreRun small x written
  written_runs = (record { within = caller; step = refl }, allocated_runs)

  sealed_once : (version small written 0 ≡ 1) × (last small x written 0 ≡ first_block) × (is_dirty small written 0 ≡ false) × (is_sealed small written 0 ≡ true) × (is_sealed small written 1 ≡ false)
  sealed_once = (refl, refl, refl, refl, refl)

  -- a fill takes that block, a write in the frame makes the sub-page dirty, and an evict seals it at version 2
  abbrev filled : History
  filled = entry 2 (Fill 0 0) (first_block ∷ []) Done ∷ written

  filled_runs : CoreRun small x filled
  filled_runs = (
    record {
      within = (swapper, omega arith, omega arith);
      step = (record { absent = refl; free = λ p same. cc; at_home = refl }, passing (x.tag 0 1 first_block) (failed 0) Done);
    },
    written_runs,
  )

  abbrev dirtied : History
  dirtied = entry 1 (Op (Write (at 0) (66 ∷ []))) [] Done ∷ filled

  dirtied_runs : CoreRun small x dirtied
  dirtied_runs = (record { within = caller; step = refl }, filled_runs)

  dirty_now : (version small dirtied 0 ≡ 1) × (is_dirty small dirtied 0 ≡ true)
  dirty_now = (refl, refl)

  abbrev evicted : History
  evicted = entry 2 (Evict 0 0) [] Done ∷ dirtied

  evicted_runs : CoreRun small x evicted
  evicted_runs = (
    record {
      within = (swapper, omega arith, omega arith);
      step = (record { present = refl; no_link = λ by. refl }, plainly);
    },
    dirtied_runs,
  )

  sealed_twice : (version small evicted 0 ≡ 2) × (last small x evicted 0 ≡ second_block) × (is_dirty small evicted 0 ≡ false) × (sealings small evicted ≡ (0, 1) ∷ (0, 2) ∷ [])
  sealed_twice = (refl, refl, refl, refl)

  -- a read while the page is absent takes the last block
  abbrev read_back : History
  read_back = entry 1 (Op (Read (at 0) 1)) (second_block ∷ []) (Text (66 ∷ [])) ∷ evicted

  read_back_runs : CoreRun small x read_back
  read_back_runs = (record { within = caller; step = passing_text (x.tag 0 2 second_block) (failed 0) (x.unseal 0 2 second_block) second_text (opens.unseals 0 2 second_text) }, evicted_runs)

  -- another block is answered Tampered, and the read without a block or with one too many is no entry
  abbrev tampered : List ℕ → History
  tampered block = entry 1 (Op (Read (at 0) 1)) (block ∷ []) (Tampered 0) ∷ evicted

  tampered_runs : (block : List ℕ) → pointwise nat_eq (x.tag 0 2 block) (x.tag 0 2 second_block) ≡ false → CoreRun small x (tampered block)
  tampered_runs block altered = (
    record {
      within = caller;
      step = failing (pointwise nat_eq (x.tag 0 2 block) (x.tag 0 2 second_block)) 0 (Text (take 1 (x.unseal 0 2 block))) altered;
    },
    evicted_runs,
  )

  none_came : (reply : Reply) → CoreStep small x evicted (entry 1 (Op (Read (at 0) 1)) [] reply) → ⊥
  none_came reply step = step.step

  -- a write while the page is absent opens the last block first
  abbrev third_text : List ℕ
  third_text = 67 ∷ drop 1 (x.unseal 0 2 second_block)

  abbrev rewritten : History
  rewritten = entry 1 (Op (Write (at 0) (67 ∷ []))) (second_block ∷ []) Done ∷ read_back

  rewritten_runs : CoreRun small x rewritten
  rewritten_runs = (record { within = caller; step = passing (x.tag 0 2 second_block) (failed 0) Done }, read_back_runs)

  sealed_thrice : (version small rewritten 0 ≡ 3) × (last small x rewritten 0 ≡ x.seal 0 3 third_text) × (frame rewritten 0 ≡ None)
  sealed_thrice = (refl, refl, refl)
