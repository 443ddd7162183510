-- What a session has read of its text, and what it answers.
use Rattle.std.specs.Prelude.{◌≡◌, ℕ, List, [], ◌++◌, length, Option, Some, None, Result, Ok, Err}
use Rattle.std.specs.List.{slice_split}
use Rattle.eleos_texts.specs.declared.why.Bad.{Bad}
use Rattle.eleos_texts.specs.declared.why.TraceRefused.{TraceRefused}
use Rattle.eleos_texts.specs.declared.why.TraceRefused.TheVariants as refused
use Rattle.eleos_texts.specs.Fields.{is_newline}
use Rattle.eleos_kvwire.specs.declared.reader.Reader.{Reader}
use Rattle.eleos_kvwire.specs.declared.session.Session.{Session}
use Rattle.eleos_kvwire.specs.Reading.{Text, read_from, text_of, refusal_in, first_refusal}

-- what the whole text is, where these bytes come behind those that were read
abbrev pub text_with : Reader → List ℕ → Text
text_with reader rest = read_from reader.stage reader.held.items reader.header reader.line reader.commands.items (slice_split is_newline rest)

-- the reader has read these bytes: whatever comes behind them, it knows what the whole text is
pub record HasRead (bytes : List ℕ) (reader : Reader) : Type 0 where
  pub count : reader.bytes ≡ length bytes
  pub not_bad : refusal_in (text_with reader []) ≡ None
  pub knows : (rest : List ℕ) → text_of (bytes ++ rest) ≡ text_with reader rest

-- a refusal holds: such a text is refused so, whatever comes behind it; want of memory says nothing of it
abbrev pub Holds : TraceRefused → List ℕ → Type 0
Holds refused.NoMemory bytes = Unit {0}
Holds (refused.Bad line why) bytes = (rest : List ℕ) → first_refusal (bytes ++ rest) ≡ Some (record { line = line; why = why })

-- where a session that was fed these bytes stands
abbrev pub StandsAt : List ℕ → Option TraceRefused → Reader → Type 0
StandsAt bytes None reader = HasRead bytes reader
StandsAt bytes (Some e) reader = Holds e bytes

-- the session was fed these bytes, in whatever pieces
abbrev pub WasFed : List ℕ → Session → Type 0
WasFed bytes session = StandsAt bytes session.refused session.reader

-- the refusal of a session, where it has one
abbrev pub refusal_of : Session → Option TraceRefused
refusal_of session = session.refused

-- what is answered for a text is its first refusal, unless memory ran out
abbrev pub Judges : {A : Type 0} → Result A TraceRefused → Option Bad → Type 0
Judges (Ok x) found = found ≡ None
Judges (Err refused.NoMemory) found = Unit {0}
Judges (Err (refused.Bad line why)) found = found ≡ Some (record { line = line; why = why })

-- a refusal that was answered
abbrev pub answered : {A : Type 0} → Result A TraceRefused → Option TraceRefused
answered (Ok x) = None
answered (Err e) = Some e
