-- Which entries are legal after a history.
use Rattle.std.specs.Prelude.{◌≡◌, ◌≢◌, ℕ, ◌+◌, ◌<◌, ◌≤◌, List, [], ◌∷◌, length, Bool, true, false, not, ◌==◌, ◌&&◌, Option, Some, None, MatchOption, MatchBool, IsTrue, nat_eq, if◌then◌else◌}
use Rattle.std.specs.Cmp.Lexicographic.{pointwise}
use Rattle.eleos_base.specs.declared.memory.Addr.{Addr}
use Rattle.eleos_base.specs.declared.memory.Op.{Op as Calls}
use Rattle.eleos_base.specs.declared.memory.Op.TheVariants.{Alloc, Free, Share, Read, Write}
use Rattle.eleos_base.specs.declared.memory.Reply.{Reply}
use Rattle.eleos_base.specs.declared.memory.Reply.TheVariants.{Done, Text, Worn, Tampered, NoFrame}
use Rattle.eleos_base.specs.declared.plan.Plan.{Plan}
use Rattle.eleos_base.specs.Plans.{IsCaller, enclave_of, sub_bytes}
use Rattle.eleos_base.specs.Plain as plain
use Rattle.eleos_core.specs.declared.event.Entry.{Entry}
use Rattle.eleos_core.specs.declared.event.Event.{Event}
use Rattle.eleos_core.specs.declared.event.Event.TheVariants.{Op, Link, Unlink, Fill, Evict, Move, Starved, Spoiled, Survey}
use Rattle.eleos_core.specs.declared.event.Wanted.{Wanted}
use Rattle.eleos_core.specs.declared.event.Wanted.TheVariants.{Link as ALink, Op as ACall}
use Rattle.eleos_base.specs.Places.{Owner, all_pages, all_frames, home_of, page_of, sub_of, subs}
use Rattle.eleos_core.specs.Seals.{Seals}
use Rattle.eleos_core.specs.State.{History, address_of, bytes, found, frame, frames_of, is_dirty, is_present, last, links, live, owner, places, version}
use Rattle.eleos_core.specs.Sweeps.{IsTaken, SurveyReply}

-- what became of the blocks that came
pub data Judged : Type 0 where
  passed : Judged
  failed : ℕ → Judged
  unfit : Judged

-- nothing came after the block that did not pass
abbrev pub failed_last : ℕ → List (List ℕ) → Judged
failed_last s [] = failed s
failed_last s (c ∷ cs) = unfit

-- each place got its block, up to the first that does not pass
abbrev pub judged : (ℕ → List ℕ → Bool) → List ℕ → List (List ℕ) → Judged
judged test [] [] = passed
judged test [] (c ∷ cs) = unfit
judged test (s ∷ ss) [] = unfit
judged test (s ∷ ss) (c ∷ cs) = if test s c then judged test ss cs else failed_last s cs

-- the reply is this one where the blocks passed, and names the one that did not
abbrev pub ByBlocks : Judged → Reply → Reply → Type 0
ByBlocks passed good reply = reply ≡ good
ByBlocks (failed s) good reply = reply ≡ Tampered s
ByBlocks unfit good reply = ⊥

-- the reply is this one, and no block came
pub record IsPlainly (e : Entry) (reply : Reply) : Type 0 where
  pub reply_is : e.reply ≡ reply
  pub no_block : e.blocks ≡ []

-- what was wanted needs a frame
abbrev pub NeedsFrame : Wanted → Type 0
NeedsFrame (ALink at) = Unit {0}
NeedsFrame (ACall (Read at n)) = Unit {0}
NeedsFrame (ACall (Write at bytes)) = Unit {0}
NeedsFrame (ACall op) = ⊥

-- just one of both is the pool
abbrev pub OneIsPool : Owner → Owner → Type 0
OneIsPool (Some e) None = Unit {0}
OneIsPool None (Some e) = Unit {0}
OneIsPool _ _ = ⊥

-- an owner of the plan
abbrev pub IsOwner : Plan → Owner → Type 0
IsOwner k None = Unit {0}
IsOwner k (Some e) = e < length k.enclaves

-- the callers, or with them the swapper and the balloon, whose numbers follow
pub record IsActor (k : Plan) (who : ℕ) : Type 0 where
  pub from_one : 1 ≤ who
  pub within : who ≤ length k.callers + 2

-- the event is one of the plan's: an address may name any enclave
abbrev pub IsWithin : Plan → ℕ → Event → Type 0
IsWithin k who (Op op) = IsCaller k who
IsWithin k who (Link at) = IsCaller k who
IsWithin k who (Unlink p) = IsCaller k who × (p < all_pages k)
IsWithin k who (Fill p f) = IsActor k who × (p < all_pages k) × (f < all_frames k)
IsWithin k who (Evict p f) = IsActor k who × (p < all_pages k) × (f < all_frames k)
IsWithin k who (Move f from to) = IsActor k who × (f < all_frames k) × OneIsPool from to × IsOwner k from × IsOwner k to
IsWithin k who (Starved wanted sweep) = IsCaller k who × NeedsFrame wanted
IsWithin k who (Spoiled wanted) = IsCaller k who × NeedsFrame wanted
IsWithin k who (Survey e goal sweep) = IsActor k who × (e < length k.enclaves)

module _ (k : Plan) where
  -- why the caller may not access so many bytes at the address
  abbrev pub access_refusal : History → ℕ → Addr → ℕ → Option Reply
  access_refusal past who at n = let e = enclave_of k who in plain.access_refusal (sub_bytes k e) e (live k past e) (subs k e) who at n

  -- why what was wanted is refused at once
  abbrev pub wanted_refusal : History → ℕ → Wanted → Option Reply
  wanted_refusal past who (ALink at) = access_refusal past who at 1
  wanted_refusal past who (ACall (Read at n)) = access_refusal past who at n
  wanted_refusal past who (ACall (Write at bytes)) = access_refusal past who at (length bytes)
  wanted_refusal past who (ACall op) = None

  -- it is not refused at once, and its page is absent
  pub record IsWanted (past : History) (who : ℕ) (wanted : Wanted) : Type 0 where
    pub not_refused : wanted_refusal past who wanted ≡ None
    pub absent : is_present k past (sub_of k (address_of wanted)) ≡ false

  -- no page is in the frame
  abbrev pub IsFreeFrame : History → ℕ → Type 0
  IsFreeFrame past f = (p : ℕ) → frame past p ≢ Some f

  -- a write is refused where the sub-page is clean and was sealed as often as it may be
  abbrev pub is_worn : History → ℕ → Bool
  is_worn past s = not (is_dirty k past s) && version k past s == k.wear

  -- the frames of a page's enclave
  abbrev pub frames_at_home : History → ℕ → List ℕ
  frames_at_home past p = frames_of k past (home_of k p)

  -- the page can be put into the frame
  pub record CanFill (past : History) (p f : ℕ) : Type 0 where
    pub absent : frame past p ≡ None
    pub free : IsFreeFrame past f
    pub at_home : owner k past f ≡ home_of k p

  -- the page can leave the frame
  pub record CanEvict (past : History) (p f : ℕ) : Type 0 where
    pub present : frame past p ≡ Some f
    pub no_link : (by : ℕ) → links k past by p ≡ 0

  -- the frame can go
  pub record CanMove (past : History) (f : ℕ) (from : Owner) : Type 0 where
    pub owned : owner k past f ≡ from
    pub free : IsFreeFrame past f

module _ (k : Plan) (x : Seals) where
  -- the block has the tag of the last sealing
  abbrev pub passes : History → ℕ → List ℕ → Bool
  passes past s block = pointwise nat_eq (x.tag s (version k past s) block) (x.tag s (version k past s) (last k x past s))

  -- the blocks that came for the event
  abbrev pub verdict : History → Event → List (List ℕ) → Judged
  verdict past event blocks = judged (passes past) (places k event past) blocks

  -- a call's entry
  abbrev pub CallStep : History → Entry → Calls → Type 0
  CallStep past e (Alloc n) = let home = enclave_of k e.who in IsPlainly e (plain.alloc_reply (sub_bytes k home) home (live k past home) (subs k home) n)
  CallStep past e (Free at) = let home = enclave_of k e.who in IsPlainly e (plain.block_reply (sub_bytes k home) home (live k past home) e.who at)
  CallStep past e (Share at) = let home = enclave_of k e.who in IsPlainly e (plain.block_reply (sub_bytes k home) home (live k past home) e.who at)
  CallStep past e (Read at n) = MatchOption (access_refusal k past e.who at n)
      (ByBlocks (verdict past e.event e.blocks) (Text (plain.bytes_of (sub_bytes k at.enclave) at.enclave at.at n (found k x e past (sub_of k at)))) e.reply)
      (IsPlainly e)
  CallStep past e (Write at bytes) = MatchOption (access_refusal k past e.who at (length bytes))
      (MatchBool (is_worn k past (sub_of k at)) (IsPlainly e (Worn (sub_of k at))) (ByBlocks (verdict past e.event e.blocks) Done e.reply))
      (IsPlainly e)

  -- a link's entry
  abbrev pub LinkStep : History → Entry → Addr → Type 0
  LinkStep past e at = MatchOption (access_refusal k past e.who at 1)
      ((is_present k past (sub_of k at) ≡ true) × IsPlainly e Done)
      (IsPlainly e)

  -- an entry, by its event
  abbrev pub EventStep : History → Entry → Event → Type 0
  EventStep past e (Op op) = CallStep past e op
  EventStep past e (Link at) = LinkStep past e at
  EventStep past e (Unlink p) = (1 ≤ links k past e.who p) × IsPlainly e Done
  EventStep past e (Fill p f) = CanFill k past p f × ByBlocks (verdict past e.event e.blocks) Done e.reply
  EventStep past e (Evict p f) = CanEvict k past p f × IsPlainly e Done
  EventStep past e (Move f from to) = CanMove k past f from × IsPlainly e Done
  EventStep past e (Starved wanted sweep) = IsWanted k past e.who wanted × IsTaken sweep (frames_at_home k past (page_of k (sub_of k (address_of wanted)))) × IsPlainly e (NoFrame sweep)
  EventStep past e (Spoiled wanted) = IsWanted k past e.who wanted × (s : ℕ) × (verdict past e.event e.blocks ≡ failed s) × (e.reply ≡ Tampered s)
  EventStep past e (Survey home goal sweep) = SurveyReply (frames_of k past (Some home)) (frames_of k past None) goal sweep e.reply × (e.blocks ≡ [])

  -- the entry is legal after the history
  pub record CoreStep (past : History) (e : Entry) : Type 0 where
    pub within : IsWithin k e.who e.event
    pub step : EventStep past e e.event

  -- each entry is legal after those before it
  abbrev pub CoreRun : History → Type 0
  CoreRun [] = Unit {0}
  CoreRun (e ∷ past) = CoreStep past e × CoreRun past

  -- a block of a place that passes is the one last sealed there
  abbrev pub AreTrue : History → List ℕ → List (List ℕ) → Type 0
  AreTrue past [] blocks = Unit {0}
  AreTrue past (s ∷ ss) [] = Unit {0}
  AreTrue past (s ∷ ss) (c ∷ cs) = (IsTrue (passes past s c) → c ≡ last k x past s) × AreTrue past ss cs

  -- no altered or replaced block passed
  abbrev pub Sound : History → Type 0
  Sound [] = Unit {0}
  Sound (e ∷ past) = AreTrue past (places k e.event past) e.blocks × Sound past
