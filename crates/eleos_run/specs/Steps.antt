-- What one command does to the pass of its actor.
use Rattle.std.specs.Prelude.{◌≡◌, ℕ, ◌<◌, List, [], ◌∷◌, ◌++◌, length}
use Rattle.eleos_alloc.specs.declared.changes.Change.{Change}
use Rattle.eleos_alloc.specs.declared.changes.Change.TheVariants as changes
use Rattle.eleos_base.specs.Places.{all_frames}
use Rattle.eleos_base.specs.Plans.{enclave_of}
use Rattle.eleos_core.specs.Legal.{IsActor}
use Rattle.eleos_base.specs.declared.memory.Op.{Op}
use Rattle.eleos_base.specs.declared.memory.Op.TheVariants as ops
use Rattle.eleos_core.specs.declared.event.Event.TheVariants as events
use Rattle.eleos_machine.specs.Machines.{Site, plan_at}
use Rattle.eleos_machine.specs.Passes.{PassState}
use Rattle.eleos_plot.specs.Terms.{core_terms}
use Rattle.eleos_trace.specs.declared.word.Word.{Word}
use Rattle.eleos_trace.specs.declared.word.Word.TheVariants as words
use Rattle.eleos_turn.specs.Hands.{Goes}
use Rattle.eleos_run.specs.declared.answers.Spoken.{Spoken}
use Rattle.eleos_meaning.specs.Names.{Names}
use Rattle.eleos_meaning.specs.Table.{AnySaid, Gives, most_lines}
use Rattle.eleos_meaning.specs.Told.{Came, Told, answer_in, made_in, made_of, stamp_in}
use Rattle.eleos_core.specs.Parts.{Made}

-- the pass is an actor's of this machine, and has no turn and no pin
pub record IsIdle (z : Site) (s : PassState) : Type 0 where
  pub own : s.hand.home ≡ z
  pub actor : IsActor (plan_at z) s.hand.number
  pub turns : s.hand.turns ≡ []
  pub pins : s.hand.pins ≡ []

-- the pass made these entries, and has no turn again, and the pins that it had
pub record HasMade (s s' : PassState) (made : List Made) : Type 0 where
  pub goes : Goes core_terms s.hand s'.hand made
  pub turns : s'.hand.turns ≡ []
  pub pins : s'.hand.pins ≡ s.hand.pins

-- the enclave of the pass's caller
abbrev pub home_of : Site → PassState → ℕ
home_of z s = enclave_of (plan_at z) s.hand.number

-- the command that frees or shares the block of the name
abbrev pub word_of : Change → List ℕ → Word
word_of changes.Free name = words.Free name
word_of changes.Share name = words.Share name

-- what was spoken behind the command and told on its way is of the entries that the pass made for it, and the names have their addresses after it
pub record Speaks (z : Site) (command : Word) (way : List Told) (said : Spoken) (s s' : PassState) (names names' : Names) : Type 0 where
  pub came : Came
  pub has_made : HasMade s s' (made_in way ++ made_of came)
  pub stamp_is : said.stamp ≡ stamp_in came
  pub reply_is : said.reply ≡ answer_in came
  pub gives : Gives AnySaid (plan_at z) (home_of z s) names command way came names'
  pub few : length way < most_lines (all_frames (plan_at z)) command

-- the pass made these entries, all of them calls on blocks
abbrev pub IsOnBlocks : Op → Type 0
IsOnBlocks (ops.Read at n) = ⊥
IsOnBlocks (ops.Write at bytes) = ⊥
IsOnBlocks _ = Unit {0}

-- each of these entries is a call that neither reads nor writes
abbrev pub AreOnBlocks : List Made → Type 0
AreOnBlocks [] = Unit {0}
AreOnBlocks (one ∷ made) = ((op : Op) × (one.1.entry.event ≡ events.Op op) × IsOnBlocks op) × AreOnBlocks made

-- from s to s' the pass made these entries, each an alloc, a free or a share
pub record HasMadeOnBlocks (s s' : PassState) : Type 0 where
  pub made : List Made
  pub goes : Goes core_terms s.hand s'.hand made
  pub on : AreOnBlocks made
