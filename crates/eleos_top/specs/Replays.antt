-- A replay: the lines that the machine's step and a host with these blocks give a trace, one command after another.
use Rattle.std.specs.Prelude.{◌≡◌, ◌⊎◌, ℕ, List, [], ◌∷◌, length, map, take, fold, Option, Some, IfSome, option_map}
use Rattle.eleos_base.specs.declared.plan.Plan.{Plan}
use Rattle.eleos_core.specs.declared.event.Entry.{Entry}
use Rattle.eleos_core.specs.declared.event.Event.{Event}
use Rattle.eleos_core.specs.Applying.{offence, puts_of}
use Rattle.eleos_core.specs.Laws.{RunsPlain}
use Rattle.eleos_core.specs.Legal.{CoreStep}
use Rattle.eleos_core.specs.Seals.{Seals, seals_by}
use Rattle.eleos_core.specs.State.{places}
use Rattle.eleos_host.specs.Stores.{Store, get_from, put_to, with_room}
use Rattle.eleos_trace.specs.Machines as machines
use Rattle.eleos_trace.specs.declared.trace.Line.{Line}
use Rattle.eleos_trace.specs.declared.trace.Trace.{Trace}
use Rattle.eleos_top.specs.declared.response.Response.{Response}
use Rattle.eleos_top.specs.declared.response.Response.TheVariants as answers
use Rattle.eleos_meaning.specs.declared.meanings.Meaning.{Meaning}
use Rattle.eleos_meaning.specs.declared.meanings.Meaning.TheVariants.{Nameless, Happens, Offends, Acts}
use Rattle.eleos_top.specs.Log.{Said, replay_text}
use Rattle.eleos_top.specs.Scenes.{Scene, all_after, is_done, meaning, opening_of, store_after, who_of}

-- the blocks are what the host has at these places, as far as they go
abbrev pub AreFrom : Store → List ℕ → List (List ℕ) → Type 0
AreFrom store at blocks = blocks ≡ map (get_from store) (take (length blocks) at)

-- what the host has after these blocks were put
abbrev pub store_with : Store → List (ℕ × List ℕ) → Store
store_with store puts = fold (λ s put. put_to s put.0 put.1) store puts

module _ (k : Plan) (x : Seals) where
  -- the event becomes this entry: it is legal, and its blocks are what the host has
  pub record Enters (scene : Scene) (who : ℕ) (event : Event) (e : Entry) : Type 0 where
    pub who_is : e.who ≡ who
    pub event_is : e.event ≡ event
    pub legal : CoreStep k x scene.past e
    pub from_host : AreFrom scene.store (places k event scene.past) e.blocks

  -- the scene after the entry that the line made
  abbrev pub scene_after : Line → Entry → Scene → Scene
  scene_after line e scene = record {
    past = e ∷ scene.past;
    store = store_with scene.store (puts_of k x e scene.past);
    names = all_after e.who line.command e.reply scene.names;
  }

  -- the line's event became an entry
  pub record IsEntered (line : Line) (scene : Scene) (who : ℕ) (event : Event) (answer : Response) (after : Scene) : Type 0 where
    pub e : Entry
    pub enters : Enters scene who event e
    pub answer_is : answer ≡ answers.Entered (length scene.past) e.reply (length (puts_of k x e scene.past))
    pub after_is : after ≡ scene_after line e scene

  -- no entry of the event is legal
  pub record IsRefused (scene : Scene) (who : ℕ) (event : Event) (answer : Response) (after : Scene) : Type 0 where
    pub never : (e : Entry) → Enters scene who event e → ⊥
    pub answer_is : answer ≡ answers.Refused (offence k x scene.past event)
    pub after_is : after ≡ scene

  -- a line with this meaning gets the answer, and leaves this scene after it
  abbrev pub Gets : Meaning → Line → Scene → Response → Scene → Type 0
  Gets Nameless line scene answer after = (answer ≡ answers.Skipped) × (after ≡ scene)
  Gets (Happens event) line scene answer after = IsEntered line scene (who_of k line.actor) event answer after ⊎ IsRefused scene (who_of k line.actor) event answer after
  Gets (Offends part) line scene answer after = (answer ≡ answers.Refused part) × (after ≡ scene)
  Gets (Acts act) line scene answer after = (answer ≡ answers.Acted (is_done act scene.store)) × (after ≡ record scene { store = store_after act scene.store })

  -- the lines said are those of these lines of a trace, from the scene on, and this scene is the last
  abbrev pub Replays : List Line → Scene → List Said → Scene → Type 0
  Replays [] scene said last = (said ≡ []) × (last ≡ scene)
  Replays (line ∷ lines) scene said last = (answer : Response) × (after : Scene) × (rest : List Said)
      × (said ≡ record { line = line; answer = answer } ∷ rest) × Gets (meaning k scene line) line scene answer after × Replays lines after rest last

-- the scene before the first command
abbrev pub opening_scene : Trace → Store → Scene
opening_scene trace store = record { past = []; store = store; names = opening_of trace }

-- the text is the log of a replay of the trace over a host that has this, and afterwards the host has what the replay left there
pub record IsLogFrom (store : Store) (after : Option Store) (trace : Trace) (text : List ℕ) : Type 0 where
  pub lines : List Said
  pub last : Scene
  pub replayed : Replays trace.plan (seals_by trace.key) trace.lines (opening_scene trace store) lines last
  pub printed : text ≡ replay_text lines
  pub left : after ≡ Some last.store
  -- where no altered or replaced block passed, its calls are one run of plain memory
  pub one_run : RunsPlain trace.plan trace.key last.past

-- it is, where the host tells what it has
abbrev pub IsLogOver : Option Store → Option Store → Trace → List ℕ → Type 0
IsLogOver told after trace text = IfSome told (λ store. IsLogFrom store after trace text)

-- it is, once the host has at least the places of the trace
abbrev pub IsReplayLog : Option Store → Option Store → Trace → List ℕ → Type 0
IsReplayLog told after trace text = IsLogOver (option_map (with_room (machines.places trace.plan)) told) after trace text
