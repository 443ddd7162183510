-- A call that is refused changes nothing.
use Rattle.std.proofs.Common.{◌≡◌, ℕ, ◌-◌, ◌/◌, ◌<◌, ◌==◌, List, length, filter, map, Bool, true, false, not, ◌&&◌, if◌then◌else◌, refl, sym}
use Rattle.std.specs.List.{find}
use Rattle.eleos_base.specs.declared.memory.Live.{Live}
use Rattle.eleos_base.specs.declared.memory.Op.{Op as Calls}
use Rattle.eleos_base.specs.declared.memory.Op.TheVariants.{Alloc, Free, Share, Read, Write}
use Rattle.eleos_base.specs.declared.memory.Reply.{Reply}
use Rattle.eleos_base.specs.declared.plan.Plan.{Plan}
use Rattle.eleos_base.specs.Plain as plain
use Rattle.eleos_base.specs.Plain.{is_accepted, plain_after}
use Rattle.eleos_base.specs.Plans.{enclave_of, sub_bytes}
use Rattle.eleos_core.specs.declared.event.Event.TheVariants.{Op}
use Rattle.eleos_base.specs.Places.{first_sub, is_sub_of, blank_bytes}
use Rattle.eleos_core.specs.Seals.{Seals}
use Rattle.eleos_core.specs.State.{History, covers, live, rewritten, writes}
use Rattle.eleos_core.proofs.AsPlain.{as_plain, memory-after}
use Rattle.eleos_core.proofs.Contents.{text}

-- a call that is refused covers nothing, writes nothing and leaves the blocks
module _ (size enclave : ℕ) where
  refused_covers : (blocks : List Live) (op : Calls) (reply : Reply) (s : ℕ) → is_accepted reply ≡ false → plain.covers size enclave blocks op reply s ≡ false
  refused_covers blocks (Alloc n) reply s refused = λ t. refused t && plain.is_in_run (plain.got reply / size) (plain.subs_for size n) s
  refused_covers blocks (Free at) reply s refused = λ t. refused t && plain.is_in s (find (plain.starts_at size enclave at) blocks)
  refused_covers blocks (Share at) reply s refused = refl
  refused_covers blocks (Read at n) reply s refused = refl
  refused_covers blocks (Write at bytes) reply s refused = refl

  refused_writes : (op : Calls) (reply : Reply) (s : ℕ) → is_accepted reply ≡ false → plain.writes size enclave op reply s ≡ false
  refused_writes (Alloc n) reply s refused = refl
  refused_writes (Free at) reply s refused = refl
  refused_writes (Share at) reply s refused = refl
  refused_writes (Read at n) reply s refused = refl
  refused_writes (Write at bytes) reply s refused = λ t. refused t && at.at / size == s

  refused_blocks : (who : ℕ) (op : Calls) (reply : Reply) (blocks : List Live) → is_accepted reply ≡ false → plain.blocks_after size enclave who op reply blocks ≡ blocks
  refused_blocks who (Alloc n) reply blocks refused =
      λ t. if refused t then plain.with_block (record { start = plain.got reply / size; len = plain.subs_for size n; owner = who; is_shared = false }) blocks else blocks
  refused_blocks who (Free at) reply blocks refused = λ t. if refused t then filter (λ block. not (plain.starts_at size enclave at block)) blocks else blocks
  refused_blocks who (Share at) reply blocks refused = λ t. if refused t then map (plain.shared_at size enclave at) blocks else blocks
  refused_blocks who (Read at n) reply blocks refused = refl
  refused_blocks who (Write at bytes) reply blocks refused = refl

and_false : (a b : Bool) → b ≡ false → a && b ≡ false
and_false true b refused = refused
and_false false b refused = refl

either_same : {A : Type 0} (b : Bool) (new was : A) → new ≡ was → (if b then new else was) ≡ was
either_same true new was same = same
either_same false new was same = refl

module _ (k : Plan) (x : Seals) where
  -- a call that is refused leaves plain memory
  pub refused-same : (past : History) (who : ℕ) (op : Calls) (reply : Reply) → enclave_of k who < length k.enclaves → is_accepted reply ≡ false
      → plain_after k who op reply (as_plain k x past) ≡ as_plain k x past
  refused-same past who op reply within refused =
      let home = enclave_of k who in
      memory-after k x past past who op reply
      (λ j. sym (either_same (j == home) (plain.blocks_after (sub_bytes k j) j who op reply (live k past j)) (live k past j) (refused_blocks (sub_bytes k j) j who op reply (live k past j) refused)))
      (λ s. let local : ℕ = s - first_sub k home in
      let covers-is : covers k who (Op op) reply past s ≡ false =
      and_false (is_sub_of k home s) (plain.covers (sub_bytes k home) home (live k past home) op reply local) (refused_covers (sub_bytes k home) home (live k past home) op reply local refused) in
      let writes-is : writes k who (Op op) reply s ≡ false =
      and_false (is_sub_of k home s) (plain.writes (sub_bytes k home) home op reply local) (refused_writes (sub_bytes k home) home op reply local refused) in
      sym (λ t. if covers-is t then blank_bytes k else if writes-is t then rewritten k who (Op op) (text k x past s) else text k x past s))
      within
