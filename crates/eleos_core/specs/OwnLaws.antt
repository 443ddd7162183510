-- Private memory: a caller's own blocks follow from its own calls, and so does what it reads there.
use Rattle.std.specs.Prelude.{◌≡◌, ℕ, ◌*◌, List, Option, Some, false, filter, map, ◌==◌}
use Rattle.std.specs.List.{find}
use Rattle.eleos_base.specs.declared.memory.Addr.{Addr}
use Rattle.eleos_base.specs.declared.memory.Live.{Live}
use Rattle.eleos_base.specs.declared.memory.Op.TheVariants.{Alloc}
use Rattle.eleos_base.specs.declared.memory.Reply.TheVariants.{Got}
use Rattle.eleos_base.specs.declared.plan.Plan.{Plan}
use Rattle.eleos_base.specs.Own.{AreTrue, AreTrueFrom, IsAmong, IsNew, OwnBlock, Private, Said, after_calls, block_of, own}
use Rattle.eleos_base.specs.Plain.{Call, memory_of, opening, starts_at}
use Rattle.eleos_base.specs.Plans.{IsCaller, enclave_of, sub_bytes}
use Rattle.eleos_core.specs.declared.event.Event.TheVariants.{Op}
use Rattle.eleos_core.specs.Legal.{CoreStep, Sound}
use Rattle.eleos_core.specs.Seals.{seals_by}
use Rattle.eleos_core.specs.State.{History, calls, entry, live}

-- the calls of one caller with their replies, in their order
abbrev pub calls_by : ℕ → List Call → List Said
calls_by who cs = map (λ (c : Call). (c.op, c.reply)) (filter (λ (c : Call). c.who == who) cs)

module _ (k : Plan) where
  -- a live block of the enclave as its owner sees it
  abbrev pub as_own : ℕ → Live → OwnBlock
  as_own home block = record { enclave = home; start = sub_bytes k home * block.start; size = sub_bytes k home * block.len }

  -- the caller's private memory before the first call: its header blocks, all zeros
  abbrev pub opening_own : ℕ → Private
  opening_own who = record { blocks = map (as_own (enclave_of k who)) (filter (λ (block : Live). block.owner == who) (memory_of (opening k) (enclave_of k who)).blocks); byte = λ a. 0 }

  -- and what its own calls have made of that
  abbrev pub own_after : History → ℕ → Private
  own_after h who = after_calls (sub_bytes k (enclave_of k who)) (opening_own who) (calls_by who (calls h))

  -- the live block of the caller's enclave that starts where a private block does
  abbrev pub block_there : History → ℕ → OwnBlock → Option Live
  block_there h who block = let home = enclave_of k who in find (starts_at (sub_bytes k home) home (record { enclave = block.enclave; at = block.start })) (live k h home)

  -- it is that block, and the caller's alone
  pub record IsBacked (h : History) (who : ℕ) (block : OwnBlock) : Type 0 where
    pub live_block : Live
    pub starts : block_there h who block ≡ Some live_block
    pub same : as_own (enclave_of k who) live_block ≡ block
    pub owner : live_block.owner ≡ who
    pub private : live_block.is_shared ≡ false

  -- so is each private block
  abbrev pub AreBacked : History → ℕ → Private → Type 0
  AreBacked h who p = (block : OwnBlock) → IsAmong block p.blocks → IsBacked h who block

  -- each private block that a caller's own calls left it is live and its alone, with its header blocks and without them
  pub record OwnBlocksLive (h : History) : Type 0 where
    pub all : (who : ℕ) → IsCaller k who → AreBacked h who (own_after h who)
    pub allotted : (who : ℕ) → IsCaller k who → AreBacked h who (own (sub_bytes k (enclave_of k who)) (calls_by who (calls h)))

  -- a caller reads in its private blocks what its own calls have made there, with its header blocks and without them
  pub record ReadsOwn (h : History) (who : ℕ) : Type 0 where
    pub all : AreTrueFrom (sub_bytes k (enclave_of k who)) (opening_own who) (calls_by who (calls h))
    pub allotted : AreTrue (sub_bytes k (enclave_of k who)) (calls_by who (calls h))

  -- so does each caller where no altered block passed
  abbrev pub ReadsPrivate : List ℕ → History → Type 0
  ReadsPrivate key h = Sound k (seals_by key) h → (who : ℕ) → IsCaller k who → ReadsOwn h who

  -- a block that the caller gets next is of whole sub-pages and touches none of its private ones, with its header blocks and without them
  pub record GetsNew (h : History) (who : ℕ) (block : OwnBlock) : Type 0 where
    pub all : IsNew (sub_bytes k (enclave_of k who)) (own_after h who) block
    pub allotted : IsNew (sub_bytes k (enclave_of k who)) (own (sub_bytes k (enclave_of k who)) (calls_by who (calls h))) block

  -- so does each alloc that is legal next
  abbrev pub AllocsNew : List ℕ → History → Type 0
  AllocsNew key h = (who n : ℕ) (at : Addr) (blocks : List (List ℕ)) → CoreStep k (seals_by key) h (entry who (Op (Alloc n)) blocks (Got at))
      → GetsNew h who (block_of (sub_bytes k (enclave_of k who)) at n)
