-- Frees and shares: what they are to the machine, to the block's pages and to the enclave's blocks.
use Rattle.std.specs.Prelude.{ℕ, List, None, not, filter, map}
use Rattle.eleos_base.specs.declared.memory.Addr.{Addr}
use Rattle.eleos_base.specs.declared.memory.Live.{Live}
use Rattle.eleos_base.specs.declared.memory.Op.{Op as Calls}
use Rattle.eleos_base.specs.declared.memory.Op.TheVariants as calls
use Rattle.eleos_base.specs.Plain.{shared_at, starts_at}
use Rattle.eleos_core.specs.declared.allots.marks.Mark.{Mark}
use Rattle.eleos_core.specs.declared.allots.marks.Mark.TheVariants.{Blank, Shared}
use Rattle.eleos_alloc.specs.declared.changes.Change.{Change}
use Rattle.eleos_alloc.specs.declared.changes.Change.TheVariants.{Free, Share}

-- the call
abbrev pub call_of : Change → Addr → Calls
call_of Free at = calls.Free at
call_of Share at = calls.Share at

-- what becomes of the block's sub-pages
abbrev pub mark_of : Change → Mark
mark_of Free = Blank None
mark_of Share = Shared

-- what becomes of the live blocks of the enclave
abbrev pub changed : Change → ℕ → Addr → List Live → List Live
changed Free e at blocks = filter (λ block. not (starts_at 1024 e at block)) blocks
changed Share e at blocks = map (shared_at 1024 e at) blocks
