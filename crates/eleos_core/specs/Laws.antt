-- The laws over every list of events.
use Rattle.std.specs.Prelude.{◌≡◌, ◌≢◌, ◌↔◌, ℕ, Bool, IsTrue, ◌+◌, ◌<◌, ◌≤◌, ◌&&◌, List, [], ◌∷◌, length, map, is_some, IsSome, Some, None, Contains, count_by, nat_eq}
use Rattle.std.specs.List.{AllByRecursion, IsDistinct, range_with_len, sum_by}
use Rattle.eleos_base.specs.declared.plan.Plan.{Plan}
use Rattle.eleos_base.specs.Plain.{PlainRun, opening}
use Rattle.eleos_base.specs.Plans.{IsGood, sub_bytes}
use Rattle.eleos_core.specs.Legal.{CoreRun, Sound, passes}
use Rattle.eleos_base.specs.Places.{Owner, all_frames, all_pages, home_of}
use Rattle.eleos_core.specs.Seals.{Seals, nonce_of, seals_by}
use Rattle.eleos_core.specs.State.{History, calls, frame, frames_of, holder, is_owner, links, owner, places, sealings, version}

-- the nonces that a history sealed under, in order
abbrev pub nonces : Plan → History → List (List ℕ)
nonces k h = map (λ sealing. nonce_of sealing.0 sealing.1) (sealings k h)

-- no item stands twice
abbrev pub AreDifferent : {A : Type 0} → List A → Type 0
AreDifferent [] = Unit {0}
AreDifferent (x ∷ xs) = AllByRecursion (λ y. x ≢ y) xs × AreDifferent xs

-- how many frames an owner has
abbrev pub share : Plan → History → Owner → ℕ
share k h owner = length (frames_of k h owner)

-- how many of its pages are in frames
abbrev pub resident : Plan → History → Owner → ℕ
resident k h owner = count_by (λ p. is_owner (home_of k p) owner && is_some (frame h p)) (range_with_len 0 (all_pages k))

-- a legal history under a key, from a good plan
pub record IsLegalRun (k : Plan) (key : List ℕ) (h : History) : Type 0 where
  pub good : IsGood k
  pub legal : CoreRun k (seals_by key) h

-- no nonce is used twice, and no version is above the wear limit
pub record FreshNonces (k : Plan) (h : History) : Type 0 where
  pub once : AreDifferent (nonces k h)
  pub worn_at_most : (s : ℕ) → version k h s ≤ k.wear

-- a page that somebody links is in a frame
abbrev pub LinkedStay : Plan → History → Type 0
LinkedStay k h = (by p : ℕ) → 1 ≤ links k h by p → IsSome (frame h p)

-- a page lies in a frame that its enclave owns
abbrev pub PagesAtHome : Plan → History → Type 0
PagesAtHome k h = (p f : ℕ) → frame h p ≡ Some f → owner k h f ≡ home_of k p

-- a page is in a frame just where the frame holds it
abbrev pub FramesHold : History → Type 0
FramesHold h = (p f : ℕ) → (frame h p ≡ Some f) ↔ (holder h f ≡ Some p)

-- the owners' lists have frames of the machine alone, each stands in the list of its owner alone, and none twice
pub record ListsAreOwned (k : Plan) (h : History) : Type 0 where
  pub frames : (o : Owner) (f : ℕ) → Contains (frames_of k h o) f → f < all_frames k
  pub owned : (o : Owner) (f : ℕ) → Contains (frames_of k h o) f → owner k h f ≡ o
  pub listed : (f : ℕ) → f < all_frames k → Contains (frames_of k h (owner k h f)) f
  pub once : (o : Owner) → IsDistinct nat_eq (frames_of k h o)

-- a frame that holds a page is its enclave's, and one of the pool holds none
pub record HoldersAtHome (k : Plan) (h : History) : Type 0 where
  pub frame_exists : (p f : ℕ) → holder h f ≡ Some p → f < all_frames k
  pub page_exists : (p f : ℕ) → holder h f ≡ Some p → p < all_pages k
  pub at_home : (p f : ℕ) → holder h f ≡ Some p → owner k h f ≡ home_of k p
  pub pool_free : (f : ℕ) → owner k h f ≡ None → holder h f ≡ None

-- the shares of all enclaves and the pool are the machine's frames, and no owner has more pages in frames than it has frames
pub record SharesAreAll (k : Plan) (h : History) : Type 0 where
  pub sum : sum_by (λ e. share k h (Some e)) (range_with_len 0 (length k.enclaves)) + share k h None ≡ all_frames k
  pub resident : (owner : Owner) → resident k h owner ≤ share k h owner

-- the calls of a sound history are one run of plain memory
abbrev pub RunsPlain : Plan → List ℕ → History → Type 0
RunsPlain k key h = Sound k (seals_by key) h → PlainRun k (opening k) (calls h)

-- of the blocks that came for these places those that pass have so many bytes
abbrev pub HaveSize : ℕ → (ℕ → List ℕ → Bool) → List ℕ → List (List ℕ) → Type 0
HaveSize size test [] blocks = Unit {0}
HaveSize size test (s ∷ ss) [] = Unit {0}
HaveSize size test (s ∷ ss) (c ∷ cs) = (IsTrue (test s c) → length c ≡ size) × HaveSize size test ss cs

-- each block that passed is as long as a sub-page
abbrev pub BlocksFit : Plan → Seals → History → Type 0
BlocksFit k x [] = Unit {0}
BlocksFit k x (e ∷ past) = HaveSize (sub_bytes k 0) (passes k x past) (places k e.event past) e.blocks × BlocksFit k x past

-- so it is of every block that a sound history took and that passed
abbrev pub PassedBlocksFit : Plan → List ℕ → History → Type 0
PassedBlocksFit k key h = Sound k (seals_by key) h → BlocksFit k (seals_by key) h

-- what a law says of every legal history
abbrev pub OfEveryRun : (Plan → List ℕ → History → Type 0) → Type 0
OfEveryRun law = (k : Plan) (key : List ℕ) (h : History) → IsLegalRun k key h → law k key h
