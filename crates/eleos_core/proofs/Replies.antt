-- What a legal entry says where it was accepted.
use Rattle.std.proofs.Common.{◌≡◌, ℕ, ◌/◌, ◌==◌, ◌||◌, List, Bool, true, false, Option, Some, None, MatchOption, MatchBool, if◌then◌else◌, refl, ◌∙◌, ap, subst}
use Rattle.std.specs.List.{find}
use Rattle.eleos_base.specs.declared.memory.Addr.{Addr}
use Rattle.eleos_base.specs.declared.memory.Live.{Live}
use Rattle.eleos_base.specs.declared.memory.Reply.{Reply}
use Rattle.eleos_base.specs.declared.memory.Reply.TheVariants.{Done, Worn, BadRange, NotYours}
use Rattle.eleos_base.specs.declared.plan.Plan.{Plan}
use Rattle.eleos_base.specs.Plain as plain
use Rattle.eleos_base.specs.Plain.{is_accepted, use_refusal, has_sub, is_in_range}
use Rattle.eleos_base.specs.Plans.{enclave_of, sub_bytes}
use Rattle.eleos_core.specs.declared.event.Entry.{Entry}
use Rattle.eleos_base.specs.Places.{subs}
use Rattle.eleos_core.specs.State.{History, live}
use Rattle.eleos_core.specs.Legal.{Judged, passed, failed, unfit, ByBlocks, IsPlainly, access_refusal}

-- a refusal is none of the accepted replies
abbrev pub IsRefusal : Option Reply → Type 0
IsRefusal None = Unit {0}
IsRefusal (Some r) = is_accepted r ≡ false

pub use_refuses : (who : ℕ) (o : Option Live) → IsRefusal (use_refusal who o)
use_refuses who None = refl
use_refuses who (Some block) = by_owner (block.is_shared || block.owner == who)
  where
    by_owner : (b : Bool) → IsRefusal (if b then None else Some (NotYours block.owner))
    by_owner true = tt
    by_owner false = refl

-- why a caller may not use a block is none of the accepted replies
pub use_refusal-refuses : (who : ℕ) (block : Option Live) (reply : Reply) → use_refusal who block ≡ Some reply → is_accepted reply ≡ false
use_refusal-refuses who block reply is = subst IsRefusal is (use_refuses who block)

range_refuses : (b : Bool) (o : Option Reply) → IsRefusal o → IsRefusal (if b then o else Some BadRange)
range_refuses true o h = h
range_refuses false o h = refl

pub refuses : (size enclave : ℕ) (blocks : List Live) (subs who : ℕ) (at : Addr) (n : ℕ) → IsRefusal (plain.access_refusal size enclave blocks subs who at n)
refuses size enclave blocks subs who at n = range_refuses (is_in_range size enclave subs at n) (use_refusal who (find (has_sub (at.at / size)) blocks)) (use_refuses who (find (has_sub (at.at / size)) blocks))

-- why an access is refused is none of the accepted replies
pub access_refuses : (k : Plan) (past : History) (who : ℕ) (at : Addr) (n : ℕ) → IsRefusal (access_refusal k past who at n)
access_refuses k past who at n = refuses (sub_bytes k (enclave_of k who)) (enclave_of k who) (live k past (enclave_of k who)) (subs k (enclave_of k who)) who at n

-- an accepted reply by the blocks is the good one, and all blocks passed
pub by_blocks : (j : Judged) (good reply : Reply) → ByBlocks j good reply → is_accepted reply ≡ true → (j ≡ passed) × (reply ≡ good)
by_blocks passed good reply e yes_is = (refl, e)
by_blocks (failed s) good reply e yes_is = let h : is_accepted reply ≡ false = ap is_accepted e in cc
by_blocks unfit good reply e yes_is = absurd e

-- an accepted read and an accepted write had no refusal, and their blocks passed
pub read_accepted : (o : Option Reply) (j : Judged) (good : Reply) (e : Entry) → IsRefusal o
    → MatchOption o (ByBlocks j good e.reply) (IsPlainly e) → is_accepted e.reply ≡ true → (o ≡ None) × (j ≡ passed) × (e.reply ≡ good)
read_accepted None j good e r step yes_is = let h = by_blocks j good e.reply step yes_is in (refl, h.0, h.1)
read_accepted (Some q) j good e r step yes_is = let h : is_accepted e.reply ≡ false = ap is_accepted step.reply_is ∙ r in cc

-- of a write, and its sub-page was not worn
pub write_accepted : (o : Option Reply) (w : Bool) (j : Judged) (s : ℕ) (e : Entry) → IsRefusal o
    → MatchOption o (MatchBool w (IsPlainly e (Worn s)) (ByBlocks j Done e.reply)) (IsPlainly e)
    → is_accepted e.reply ≡ true → (o ≡ None) × (w ≡ false) × (j ≡ passed) × (e.reply ≡ Done)
write_accepted None true j s e r step yes_is = let h : is_accepted e.reply ≡ false = ap is_accepted step.reply_is in cc
write_accepted None false j s e r step yes_is = let h = by_blocks j Done e.reply step yes_is in (refl, refl, h.0, h.1)
write_accepted (Some q) w j s e r step yes_is = let h : is_accepted e.reply ≡ false = ap is_accepted step.reply_is ∙ r in cc
