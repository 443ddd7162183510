-- The words of a sweep, one after another, in a draft.
use Rattle.std.proofs.Common.{◌≡◌, List, [], ◌∷◌, ◌++◌, refl, sym, ap}
use Rattle.eleos_base.specs.declared.memory.Looked.{Looked}
use Rattle.eleos_base.specs.declared.memory.Reply.{Reply}
use Rattle.eleos_base.specs.declared.memory.Reply.TheVariants.{NoFrame}
use Rattle.eleos_core.specs.declared.event.Event.{Event}
use Rattle.eleos_core.specs.declared.event.Event.TheVariants.{Starved, Survey}
use Rattle.eleos_core.specs.Parts.{Stamp}
use Rattle.eleos_plot.specs.Entries.{HasSweep, event_looked, reply_looked, sweep_of, with_looked}
use Rattle.eleos_machine.specs.Sweeping.{HasNoWords, event_swept, reply_swept, swept}

pub event_more : (event : Event) (words : List Looked) (word : Looked) → event_looked (event_swept words event) word ≡ event_swept (words ++ word ∷ []) event
event_more (Starved wanted sweep) words word = refl
event_more (Survey e goal sweep) words word = refl
event_more _ words word = refl

pub reply_more : (reply : Reply) (words : List Looked) (word : Looked) → reply_looked (reply_swept words reply) word ≡ reply_swept (words ++ word ∷ []) reply
reply_more (NoFrame sweep) words word = refl
reply_more _ words word = refl

-- a word that is added to a draft's words stands behind them in event and reply
pub more : (d : Stamp) (words : List Looked) (word : Looked) → with_looked (swept words d) word ≡ swept (words ++ word ∷ []) d
more d words word = λ i. record d { entry = record d.entry { event = event_more d.entry.event words word i; reply = reply_more d.entry.reply words word i } }

event_none : (event : Event) → sweep_of event ≡ [] → event_swept [] event ≡ event
event_none (Starved wanted sweep) is = ap (Starved wanted) (sym is)
event_none (Survey e goal sweep) is = ap (Survey e goal) (sym is)
event_none _ is = refl

reply_none : (reply : Reply) → HasNoWords reply → reply_swept [] reply ≡ reply
reply_none (NoFrame sweep) is = ap NoFrame (sym is)
reply_none _ is = refl

-- a draft whose event and reply have no words is the same with no words put into it
pub none : (d : Stamp) → sweep_of d.entry.event ≡ [] → HasNoWords d.entry.reply → d ≡ swept [] d
none d is is' = λ i. record d { entry = record d.entry { event = sym (event_none d.entry.event is) i; reply = sym (reply_none d.entry.reply is') i } }

-- an event with a sweep has one still when other words are put into it
pub has_sweep : (event : Event) (words : List Looked) → HasSweep event → HasSweep (event_swept words event)
has_sweep (Starved wanted sweep) words has = has
has_sweep (Survey e goal sweep) words has = has
has_sweep _ words has = has

-- the words that are put into an event with a sweep are its sweep then
pub sweep_is : (event : Event) (words : List Looked) → HasSweep event → sweep_of (event_swept words event) ≡ words
sweep_is (Starved wanted sweep) words has = refl
sweep_is (Survey e goal sweep) words has = refl
sweep_is _ words has = absurd has
