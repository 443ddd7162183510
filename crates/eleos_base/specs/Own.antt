-- What a caller's own calls make of its private memory.
-- Offsets are in bytes, from the start of the caller's enclave; `sub` is the bytes of a sub-page there.
use Rattle.std.specs.Prelude.{◌≡◌, ◌⊎◌, ℕ, ◌+◌, ◌-◌, ◌*◌, ◌%◌, ◌^◌, ◌≤◌, List, [], ◌∷◌, length, map, filter, not, ◌==◌, slice_index_or, if◌then◌else◌}
use Rattle.std.specs.List.{range_with_len}
use Rattle.eleos_base.specs.declared.memory.Addr.{Addr}
use Rattle.eleos_base.specs.declared.memory.Op.{Op}
use Rattle.eleos_base.specs.declared.memory.Op.TheVariants.{Alloc, Free, Share, Read, Write}
use Rattle.eleos_base.specs.declared.memory.Reply.{Reply}
use Rattle.eleos_base.specs.declared.memory.Reply.TheVariants.{Got, Done, Text}
use Rattle.eleos_base.specs.Plain.{is_in_run, subs_for}

-- a call with its reply
abbrev pub Said : Type 0
Said = Op × Reply

-- a private block: its enclave, its first offset there, and its bytes, whole sub-pages
pub record OwnBlock : Type 0 where
  pub enclave : ℕ
  pub start : ℕ
  pub size : ℕ

-- the private blocks, the last one first, and the byte at each offset
pub record Private : Type 0 where
  pub blocks : List OwnBlock
  pub byte : ℕ → ℕ

-- no block
abbrev pub nothing : Private
nothing = record { blocks = []; byte = λ _. 0 }

-- the byte at each offset, where n bytes from start on are zeros and the others as they were
abbrev pub zeroed : ℕ → ℕ → (ℕ → ℕ) → ℕ → ℕ
zeroed start n byte a = if is_in_run start n a then 0 else byte a

-- the byte at each offset, where these bytes lie from start on and the others as they were
abbrev pub written : ℕ → List ℕ → (ℕ → ℕ) → ℕ → ℕ
written start bytes byte a = if is_in_run start (length bytes) a then slice_index_or bytes (a - start) 0 else byte a

-- the blocks but the one that starts there
abbrev pub without : ℕ → List OwnBlock → List OwnBlock
without start blocks = filter (λ block. not (block.start == start)) blocks

-- the n bytes from an offset on
unfoldable pub text_at : Private → ℕ → ℕ → List ℕ
text_at p start n = map p.byte (range_with_len start n)

-- the block is one of these
abbrev pub IsAmong : OwnBlock → List OwnBlock → Type 0
IsAmong block [] = ⊥
IsAmong block (other ∷ others) = (block ≡ other) ⊎ IsAmong block others

-- n bytes from a on and m bytes from b on have none in common
abbrev pub AreApart : ℕ → ℕ → ℕ → ℕ → Type 0
AreApart a n b m = (a + n ≤ b) ⊎ (b + m ≤ a)

-- after a free or a share with this reply: a shared block is private no more
abbrev pub after_loss : Addr → Reply → Private → Private
after_loss at Done p = record p { blocks = without at.at p.blocks }
after_loss at _ p = p

-- after a write with this reply
abbrev pub after_write : Addr → List ℕ → Reply → Private → Private
after_write at bytes Done p = record p { byte = written at.at bytes p.byte }
after_write at bytes _ p = p

-- a private block starts there
pub record IsOwnStart (p : Private) (at : Addr) : Type 0 where
  pub block : OwnBlock
  pub among : IsAmong block p.blocks
  pub home : at.enclave ≡ block.enclave
  pub starts : at.at ≡ block.start

module _ (sub : ℕ) where
  -- the block of n bytes that an alloc answered
  abbrev pub block_of : Addr → ℕ → OwnBlock
  block_of at n = record { enclave = at.enclave; start = at.at; size = sub * subs_for sub n }

  -- after an alloc of n bytes with this reply
  abbrev pub after_alloc : ℕ → Reply → Private → Private
  after_alloc n (Got at) p = record { blocks = block_of at n ∷ p.blocks; byte = zeroed at.at (sub * subs_for sub n) p.byte }
  after_alloc n _ p = p

  -- after a call with this reply
  abbrev pub after_call : Op → Reply → Private → Private
  after_call (Alloc n) reply p = after_alloc n reply p
  after_call (Free at) reply p = after_loss at reply p
  after_call (Share at) reply p = after_loss at reply p
  after_call (Read at n) reply p = p
  after_call (Write at bytes) reply p = after_write at bytes reply p

  -- after these calls in their order
  abbrev pub after_calls : Private → List Said → Private
  after_calls p [] = p
  after_calls p (call ∷ calls) = after_calls (after_call call.0 call.1 p) calls

  -- what all calls of a caller made that had no block before them
  abbrev pub own : List Said → Private
  own calls = after_calls nothing calls

  -- at least one byte, within one sub-page of a private block
  pub record IsOwnRange (p : Private) (at : Addr) (n : ℕ) : Type 0 where
    pub block : OwnBlock
    pub among : IsAmong block p.blocks
    pub home : at.enclave ≡ block.enclave
    pub some : 1 ≤ n
    pub from : block.start ≤ at.at
    pub within : at.at + n ≤ block.start + block.size
    pub in_sub : at.at % sub + n ≤ sub

  -- a range of private bytes stays private and keeps its bytes
  pub record Keeps (p p' : Private) (at : Addr) (n : ℕ) : Type 0 where
    pub range : IsOwnRange p' at n
    pub text : text_at p' at.at n ≡ text_at p at.at n

  -- the block is of whole sub-pages, no private block touches it, and each of its offsets is a u32
  pub record IsNew (p : Private) (block : OwnBlock) : Type 0 where
    pub whole : block.start % sub ≡ 0
    pub apart : (other : OwnBlock) → IsAmong other p.blocks → AreApart block.start block.size other.start other.size
    pub fits : block.start + block.size ≤ 2 ^ 32

  -- a read with this reply is true: within a private block it has just the bytes that the owner's calls made there
  abbrev pub IsTrueRead : Private → Addr → ℕ → Reply → Type 0
  IsTrueRead p at n (Text bytes) = IsOwnRange p at n → bytes ≡ text_at p at.at n
  IsTrueRead p at n _ = Unit {0}

  -- a call with this reply is true; only a read may be not
  abbrev pub IsTrueReply : Private → Op → Reply → Type 0
  IsTrueReply p (Read at n) reply = IsTrueRead p at n reply
  IsTrueReply p _ reply = Unit {0}

  -- each of these calls is true
  abbrev pub AreTrueFrom : Private → List Said → Type 0
  AreTrueFrom p [] = Unit {0}
  AreTrueFrom p (call ∷ calls) = IsTrueReply p call.0 call.1 × AreTrueFrom (after_call call.0 call.1 p) calls

  -- each is, of a caller that had no block before them
  abbrev pub AreTrue : List Said → Type 0
  AreTrue calls = AreTrueFrom nothing calls
