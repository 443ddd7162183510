-- The meaning of a session's text.
use Rattle.std.specs.Prelude.{ℕ, ◌+◌, List, [], ◌∷◌, ◌++◌, length, take, replicate, nat_le, nat_lt, ◌==◌, Option, Some, None, unwrap_or, Result, Ok, Err, codes, if◌then◌else◌}
use Rattle.std.specs.List.{slice_split}
use Rattle.eleos_base.specs.declared.plan.Plan.{Plan}
use Rattle.eleos_texts.specs.declared.why.Why.{Why}
use Rattle.eleos_texts.specs.declared.why.Why.TheVariants.{TooLarge, Cut, After, Form}
use Rattle.eleos_texts.specs.declared.why.Bad.{Bad}
use Rattle.eleos_texts.specs.Fields.{is, is_blank, is_newline}
use Rattle.eleos_texts.specs.Texts.{most_text}
use Rattle.eleos_kvwire.specs.declared.header.Header.{Header}
use Rattle.eleos_kvwire.specs.declared.stage.HeaderLine.TheVariants.{Title}
use Rattle.eleos_kvwire.specs.declared.stage.Stage.{Stage}
use Rattle.eleos_kvwire.specs.declared.stage.Stage.TheVariants as stages
use Rattle.eleos_kvwire.specs.declared.commands.Given.{Given}
use Rattle.eleos_kvwire.specs.declared.commands.Given.TheVariants.{Whole, Awaits}
use Rattle.eleos_kvwire.specs.declared.trace.KvCommand.{KvCommand}
use Rattle.eleos_kvwire.specs.declared.trace.KvTrace.{KvTrace}
use Rattle.eleos_kvwire.specs.Header.{header_line, no_header, stage_after}
use Rattle.eleos_kvwire.specs.Commands.{command_line, with_value}

-- what a text is: a session, the front of one that ends in this line, or neither
pub data Text : Type 0 where
  IsWhole : KvTrace → Text
  IsFront : ℕ → Text
  IsBad : Bad → Text

-- a bad line
abbrev pub bad : ℕ → Why → Text
bad line why = IsBad (record { line = line; why = why })

-- what the text is, by what its line says and how it goes on behind it
abbrev pub behind : {A : Type 0} → ℕ → Result A Why → (A → Text) → Text
behind line (Ok said) next = next said
behind line (Err why) next = bad line why

-- the machine of a header: one enclave, and a caller for each shard
abbrev pub plan_of : Header → Plan
plan_of header = record { enclaves = record { pages = header.pages; frames = header.frames } ∷ []; spare = 0; callers = replicate header.shards 0; wear = header.wear; blocks = [] }

-- the session with this header and these commands
abbrev pub trace_with : Header → List KvCommand → KvTrace
trace_with header commands = record { plan = plan_of header; key = header.key; shards = header.shards; clients = header.clients; commands = commands }

-- what stands behind the last line of a session: nothing
abbrev pub ended : KvTrace → ℕ → List (List ℕ) → Text
ended trace line ([] ∷ []) = IsWhole trace
ended trace line texts = bad line After

-- what stands behind the line of a command
abbrev pub stage_with : Given → Stage
stage_with (Whole command) = stages.Command
stage_with (Awaits set) = stages.Value set

-- the command that such a line gives by itself
abbrev pub commands_in : Given → List KvCommand
commands_in (Whole command) = command ∷ []
commands_in (Awaits set) = []

-- What a text is from some place on. The place has its stage, what stands already in its line or its value, what the header says so far, its line and the commands before it.
-- Then come the parts of the text between its newlines. A value and the newline behind it count as one line, whatever newlines the value has.
unfoldable pub read_from : Stage → List ℕ → Header → ℕ → List KvCommand → List (List ℕ) → Text
read_from (stages.Header due) held header line before (text ∷ next ∷ texts) =
    behind line (header_line due header (slice_split is_blank (held ++ text))) λ header. read_from (stage_after due) [] header (line + 1) before (next ∷ texts)
read_from stages.Command held header line before (text ∷ next ∷ texts) =
    if is (codes "end") (held ++ text) then read_from stages.End [] header (line + 1) before (next ∷ texts)
    else behind line (command_line header.clients (length before) (slice_split is_blank (held ++ text))) λ given. read_from (stage_with given) [] header (line + 1) (before ++ commands_in given) (next ∷ texts)
read_from (stages.Value set) held header line before (text ∷ next ∷ texts) =
    if length (held ++ text) == set.len then read_from stages.Command [] header (line + 1) (before ++ with_value set (held ++ text) ∷ []) (next ∷ texts)
    else if nat_lt (length (held ++ text)) set.len then read_from (stages.Value set) (held ++ text ++ 10 ∷ []) header line before (next ∷ texts)
    else bad line Form
read_from (stages.Value set) held header line before (text ∷ []) = if nat_le (length (held ++ text)) set.len then IsFront line else bad line Form
read_from stages.End held header line before texts = ended (trace_with header before) line texts
read_from stage held header line before texts = IsFront line

-- what a text is, its number of bytes aside
abbrev pub text_of : List ℕ → Text
text_of bytes = read_from (stages.Header Title) [] no_header 1 [] (slice_split is_newline bytes)

-- why a text can be no session, however it goes on
abbrev pub refusal_in : Text → Option Bad
refusal_in (IsWhole trace) = None
refusal_in (IsFront line) = None
refusal_in (IsBad found) = Some found

-- the first refusal of a text that has too many bytes, by those that are not too many
abbrev pub refusal_past : Text → Bad
refusal_past text = unwrap_or (refusal_in text) (record { line = 0; why = TooLarge })

-- the first refusal as the bytes come
unfoldable pub first_refusal : List ℕ → Option Bad
first_refusal bytes = if nat_le (length bytes) most_text then refusal_in (text_of bytes) else Some (refusal_past (text_of (take most_text bytes)))

-- the session that a text is, where no more bytes come
abbrev pub trace_in : Text → Result KvTrace Bad
trace_in (IsWhole trace) = Ok trace
trace_in (IsFront line) = Err (record { line = line; why = Cut })
trace_in (IsBad found) = Err found

-- the session that a text is, or its first refusal
unfoldable pub session_of : List ℕ → Result KvTrace Bad
session_of bytes = if nat_le (length bytes) most_text then trace_in (text_of bytes) else Err (refusal_past (text_of (take most_text bytes)))
