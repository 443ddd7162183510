-- The table of commands: what a line means, and which lines stand for a command.
use Rattle.std.specs.Prelude.{◌≡◌, ◌⊎◌, ℕ, ◌+◌, ◌*◌, ◌==◌, List, [], ◌∷◌, ◌++◌, map, Bool, true, false, not, ◌&&◌, Option, Some, None, is_some, if◌then◌else◌}
use Rattle.std.specs.List.{AllByRecursion, flat_map, list_all, list_any}
use Rattle.eleos_base.specs.declared.memory.Looked.{Looked}
use Rattle.eleos_base.specs.declared.plan.Plan.{Plan}
use Rattle.eleos_core.specs.declared.event.Event.{Event}
use Rattle.eleos_core.specs.declared.event.Event.TheVariants.{Survey}
use Rattle.eleos_core.specs.declared.event.Goal.TheVariants.{Low, To}
use Rattle.eleos_report.specs.declared.answer.Answer.{Answer}
use Rattle.eleos_report.specs.declared.answer.Answer.TheVariants.{At, Okay, Put, Enough, Swept, Reached, Short, Pinned, Replied, WrongId, TooLong, BadStatus, Skipped}
use Rattle.eleos_trace.specs.declared.word.Word.{Word}
use Rattle.eleos_trace.specs.declared.word.Word.TheVariants.{Alloc, Free, Share, Read, Write, Evict, Move, SwapRound, SetShare, Call}
use Rattle.eleos_meaning.specs.Meanings.{event_in, meaning_of}
use Rattle.eleos_meaning.specs.Names.{Names, with_name}
use Rattle.eleos_meaning.specs.Told.{Came, Entered, Replied, Told, answer_in}

-- a line by its text alone
abbrev pub Shown : Type 0
Shown = Word × Answer

-- the command of a line, and what is printed behind it
abbrev pub shown : Told → Shown
shown told = (told.word, answer_in told.came)

-- the line says that its command was skipped
abbrev pub is_skipped : Answer → Bool
is_skipped Skipped = true
is_skipped _ = false

-- the line says what a call of the host came to
abbrev pub is_called : Answer → Bool
is_called (Replied status bytes) = true
is_called (WrongId seen) = true
is_called (TooLong seen) = true
is_called (BadStatus seen) = true
is_called _ = false

-- the event of a round of the swapper of which this is printed
abbrev pub round_event : ℕ → ℕ → Answer → Option Event
round_event enclave low (Enough free sweep) = Some (Survey enclave (Low low) sweep)
round_event enclave low (Swept free sweep) = Some (Survey enclave (Low low) sweep)
round_event enclave low _ = None

-- and of a change of a share: where the share was reached, nothing is noted
abbrev pub share_event : ℕ → ℕ → Answer → Option Event
share_event enclave to (Reached share) = Some (Survey enclave (To to) [])
share_event enclave to (Short share sweep) = Some (Survey enclave (To to) sweep)
share_event enclave to (Pinned share sweep) = Some (Survey enclave (To to) sweep)
share_event enclave to _ = None

-- the event that a command with this reply means; none where its line has no stamp
abbrev pub resolve : Plan → Names → Word → Answer → Option Event
resolve k names (SwapRound enclave low) reply = round_event enclave low reply
resolve k names (SetShare enclave to) reply = share_event enclave to reply
resolve k names word reply = event_in (meaning_of k names word) reply

-- these names where the test holds, and none where it does not
abbrev pub when : Bool → Names → Option Names
when test names = if test then Some names else None

-- no line stands on the way to that of the command
abbrev pub is_none : List Shown → Bool
is_none [] = true
is_none _ = false

-- nothing on the way; it is skipped just where its name is not bound
abbrev pub named_row : Bool → List Shown → Answer → Names → Option Names
named_row is_bound way reply names = when (is_none way && (if is_bound then not (is_skipped reply) else is_skipped reply)) names

-- the line tells of a page that left its frame, or of a frame that got another owner
abbrev pub is_frame_line : Shown → Bool
is_frame_line (Evict page frame, Put puts) = true
is_frame_line (Move frame from to, Okay) = true
is_frame_line _ = false

-- such lines alone on the way to a survey
abbrev pub survey_row : List Shown → Answer → Names → Option Names
survey_row way reply names = when (list_all is_frame_line way && not (is_skipped reply)) names

module _ (home : ℕ) where
  -- the name's address after an alloc of a caller of this enclave was answered so
  abbrev pub bind : List ℕ → Answer → Names → Names
  bind name (At at) names = with_name name (record { enclave = home; at = at }) names
  bind name _ names = names

  -- what a command leaves of the names, where these are its lines; none where they are not
  abbrev pub next : Names → Word → List Shown → Answer → Option Names
  next names (Alloc name bytes) way reply = named_row true way reply (bind name reply names)
  next names (Free name) way reply = named_row (is_some (names name)) way reply names
  next names (Share name) way reply = named_row (is_some (names name)) way reply names
  next names (Read name offset len) way reply = named_row (is_some (names name)) way reply names
  next names (Write name offset bytes) way reply = named_row (is_some (names name)) way reply names
  next names (SwapRound enclave low) way reply = survey_row way reply names
  next names (SetShare enclave to) way reply = survey_row way reply names
  next names (Call call bytes room) way reply = when (is_none way && is_called reply) names
  next names _ way reply = None

-- ---- what a run says of the lines on the way to a survey, beyond their row

-- what is noted in a printed end of a round
abbrev pub sweep_in : Answer → List Looked
sweep_in (Enough free sweep) = sweep
sweep_in (Swept free sweep) = sweep
sweep_in _ = []

-- the words have the frame as free
abbrev pub is_free_in : ℕ → List Looked → Bool
is_free_in frame sweep = list_any (λ (seen : Looked). seen.frame == frame && seen.word == 0) sweep

-- the line of the page that left the frame
abbrev pub evict_line : ℕ → ℕ → ℕ → Shown
evict_line page frame puts = (Evict page frame, Put puts)

-- the line is that of a page that left a frame which the words have as free
pub record IsEvictLine (sweep : List Looked) (one : Shown) : Type 0 where
  pub page : ℕ
  pub frame : ℕ
  pub puts : ℕ
  pub is : one ≡ evict_line page frame puts
  pub free : is_free_in frame sweep ≡ true

-- the line of a frame that the enclave gets from the pool
abbrev pub gain_line : ℕ → ℕ → Shown
gain_line enclave frame = (Move frame None (Some enclave), Okay)

-- a frame that an enclave gives to the pool, and the page that leaves it before, if there is one, with the number of blocks that it puts
pub record Loss : Type 0 where
  pub frame : ℕ
  pub page : Option (ℕ × ℕ)

-- the line of the page that leaves the frame, if there is one
abbrev pub page_lines : ℕ → Option (ℕ × ℕ) → List Shown
page_lines frame None = []
page_lines frame (Some page) = evict_line page.0 frame page.1 ∷ []

-- the lines of such a frame: right behind that of its page that of its own way
abbrev pub loss_lines : ℕ → Loss → List Shown
loss_lines enclave loss = page_lines loss.frame loss.page ++ (Move loss.frame (Some enclave) None, Okay) ∷ []

-- frames went one way: all from the pool to the enclave, or all from the enclave to the pool
abbrev pub IsOneWay : ℕ → List Shown → Type 0
IsOneWay enclave way = ((frames : List ℕ) × (way ≡ map (gain_line enclave) frames)) ⊎ ((losses : List Loss) × (way ≡ flat_map (loss_lines enclave) losses))

-- pages leave frames that a round's words have as free, and a change of a share moves frames one way
abbrev pub IsSurveyed : Word → List Shown → Answer → Type 0
IsSurveyed (SwapRound enclave low) way reply = AllByRecursion (IsEvictLine (sweep_in reply)) way
IsSurveyed (SetShare enclave to) way reply = IsOneWay enclave way
IsSurveyed _ way reply = Unit {0}

module _ (k : Plan) where
  -- a line with a stamp is of the event that its text means; one without means none
  abbrev pub Means : Names → Word → Came → Type 0
  Means names word (Entered one puts) = resolve k names word (answer_in (Entered one puts)) ≡ Some one.1.entry.event
  Means names word (Replied reply) = resolve k names word reply ≡ None

  -- each of these lines, with or without a stamp, is of what its text means, all by the same names
  abbrev pub AllMean : Names → List Told → Type 0
  AllMean names [] = Unit {0}
  AllMean names (told ∷ way) = Means names told.word told.came × AllMean names way

module _ (Says : Names → Word → Answer → Type 0) (k : Plan) (home : ℕ) where
  -- what a line without a stamp may say beyond its row
  abbrev pub MaySay : Names → Word → Came → Type 0
  MaySay names word (Entered one puts) = Unit {0}
  MaySay names word (Replied reply) = Says names word reply

  -- the table as the relation by which programs are told
  abbrev pub Gives : Names → Word → List Told → Came → Names → Type 0
  Gives names word way came after = (next home names word (map shown way) (answer_in came) ≡ Some after) × AllMean k names way × Means k names word came × MaySay names word came × IsSurveyed word (map shown way) (answer_in came)

-- nothing is said but skipped commands, so far
abbrev pub AnySaid : Names → Word → Answer → Type 0
AnySaid names word reply = Unit {0}

-- nothing stands behind the last command
abbrev pub Ends : Names → List Told → Type 0
Ends names last = last ≡ []

-- the most lines of a command in a machine of so many frames: its own, and before it in a round one for each frame, and in a change of a share two
abbrev pub most_lines : ℕ → Word → ℕ
most_lines frames (SwapRound enclave low) = frames + 1
most_lines frames (SetShare enclave to) = 2 * frames + 1
most_lines frames word = 1

-- the most lines of these commands together
abbrev pub lines_for : ℕ → List Word → ℕ
lines_for frames [] = 0
lines_for frames (word ∷ words) = most_lines frames word + lines_for frames words
