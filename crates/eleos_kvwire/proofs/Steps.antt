-- What one byte does at a place of a text.
use Rattle.std.proofs.Common.{◌≡◌, ℕ, ◌+◌, ◌<◌, ◌≤◌, List, [], ◌∷◌, ◌++◌, length, None, Result, Ok, Err, Bool, true, false, refl, ◌∙◌, ap, append_assoc, append-nil, length-append, arith, cond, codes, nat_le, nat_lt, eqb, ◌≢◌}
use Rattle.std.specs.List.{slice_split, onto_first}
use Rattle.std.proofs.lemmas.Bool.Decides.{nat_tests}
use Rattle.eleos_texts.specs.declared.why.Why.{Why}
use Rattle.eleos_texts.specs.declared.why.Why.TheVariants.{Form, After}
use Rattle.eleos_texts.specs.declared.why.TraceRefused.{TraceRefused}
use Rattle.eleos_texts.specs.declared.why.TraceRefused.TheVariants as refused
use Rattle.eleos_texts.specs.declared.why.LineRefused.{LineRefused}
use Rattle.eleos_texts.specs.declared.why.LineRefused.TheVariants as line_refused
use Rattle.eleos_texts.specs.Fields.{is, is_blank, is_newline}
use Rattle.eleos_texts.specs.Reasons.{Reads, answer_at}
use Rattle.eleos_texts.proofs.Answers.{read_ok}
use Rattle.eleos_texts.proofs.Texts.{split_cases}
use Rattle.eleos_kvwire.specs.declared.header.Header.{Header}
use Rattle.eleos_kvwire.specs.declared.stage.HeaderLine.{HeaderLine}
use Rattle.eleos_kvwire.specs.declared.stage.SetLine.{SetLine}
use Rattle.eleos_kvwire.specs.declared.stage.Stage.{Stage}
use Rattle.eleos_kvwire.specs.declared.stage.Stage.TheVariants as stages
use Rattle.eleos_kvwire.specs.declared.commands.Given.{Given}
use Rattle.eleos_kvwire.specs.declared.trace.KvCommand.{KvCommand}
use Rattle.eleos_kvwire.specs.Header.{header_line, stage_after}
use Rattle.eleos_kvwire.specs.Commands.{command_line, with_value}
use Rattle.eleos_kvwire.specs.Reading.{Text, IsFront, bad, behind, read_from, refusal_in, stage_with, commands_in}
use Rattle.eleos_kvwire.specs.Steps.{GoesOn, IsAtLine}

lt_of : (a b : ℕ) → a < b → nat_lt a b ≡ true
lt_of a b lt = grind (arith, nat_tests)

not_lt : (a b : ℕ) → b ≤ a → nat_lt a b ≡ false
not_lt a b le = grind (arith, nat_tests)

not_le : (a b : ℕ) → b < a → nat_le a b ≡ false
not_le a b lt = grind (arith, nat_tests)

le_of : (a b : ℕ) → nat_le a b ≡ true → a ≤ b
le_of a b test = grind (arith, nat_tests)

is_le : (a b : ℕ) → a ≤ b → nat_le a b ≡ true
is_le a b le = grind (arith, nat_tests)

not_eq : (a b : ℕ) → a < b → eqb a b ≡ false
not_eq a b lt = grind (arith, nat_tests)

not_eq_past : (a b : ℕ) → b < a → eqb a b ≡ false
not_eq_past a b lt = grind (arith, nat_tests)

is_eq : (a b : ℕ) → a ≤ b → b ≤ a → eqb a b ≡ true
is_eq a b le ge = grind (arith, nat_tests)

newline_is : (c : ℕ) → is_newline c ≡ true → c ≡ 10
newline_is c test = grind (arith, nat_tests)

module _ (header : Header) (line : ℕ) (before : List KvCommand) where
  -- a byte of a line
  pub keeps_line : (stage : Stage) (held : List ℕ) (c : ℕ) (rest : List ℕ) → IsAtLine stage → is_newline c ≡ false
      → read_from stage held header line before (slice_split is_newline (c ∷ rest)) ≡ read_from stage (held ++ c ∷ []) header line before (slice_split is_newline rest)
  unfolding read_from
  keeps_line (stages.Header due) held c rest here other = rw other (split_cases
      (λ parts. read_from (stages.Header due) held header line before (onto_first c parts) ≡ read_from (stages.Header due) (held ++ c ∷ []) header line before parts) each rest) where
        each : (part : List ℕ) (parts : List (List ℕ)) → read_from (stages.Header due) held header line before ((c ∷ part) ∷ parts) ≡ read_from (stages.Header due) (held ++ c ∷ []) header line before (part ∷ parts)
        each part [] = refl
        each part (next ∷ parts) = rw (append_assoc held (c ∷ []) part) refl
  keeps_line stages.Command held c rest here other = rw other (split_cases
      (λ parts. read_from stages.Command held header line before (onto_first c parts) ≡ read_from stages.Command (held ++ c ∷ []) header line before parts) each rest) where
        each : (part : List ℕ) (parts : List (List ℕ)) → read_from stages.Command held header line before ((c ∷ part) ∷ parts) ≡ read_from stages.Command (held ++ c ∷ []) header line before (part ∷ parts)
        each part [] = refl
        each part (next ∷ parts) = rw (append_assoc held (c ∷ []) part) refl
  keeps_line (stages.Value set) held c rest here other = absurd here
  keeps_line stages.End held c rest here other = absurd here

  -- a line can go on
  pub line_not_bad : (stage : Stage) (held : List ℕ) → IsAtLine stage → refusal_in (read_from stage held header line before ([] ∷ [])) ≡ None
  unfolding read_from
  line_not_bad (stages.Header due) held here = refl
  line_not_bad stages.Command held here = refl
  line_not_bad (stages.Value set) held here = absurd here
  line_not_bad stages.End held here = absurd here

  -- a place before the first byte of its line can go on
  pub start_not_bad : (stage : Stage) → refusal_in (read_from stage [] header line before ([] ∷ [])) ≡ None
  unfolding read_from
  start_not_bad (stages.Header due) = refl
  start_not_bad stages.Command = refl
  start_not_bad (stages.Value set) = rw (is_le 0 set.len (omega arith)) refl
  start_not_bad stages.End = refl

  -- a value can go on while it has not too many bytes
  pub value_not_bad : (set : SetLine) (held : List ℕ) → length held ≤ set.len → refusal_in (read_from (stages.Value set) held header line before ([] ∷ [])) ≡ None
  unfolding read_from
  value_not_bad set held within = rw (append-nil held, is_le (length held) set.len within) refl

  -- a value that can go on has no more bytes than its line announced
  pub value_fits : (set : SetLine) (held : List ℕ) → refusal_in (read_from (stages.Value set) held header line before ([] ∷ [])) ≡ None → length held ≤ set.len
  unfolding read_from
  value_fits set held none = by (nat_le (length held) set.len) refl (rw (append-nil held) at none) where
    by : (b : Bool) → nat_le (length held) set.len ≡ b → refusal_in (cond b (IsFront line) (bad line Form)) ≡ None → length held ≤ set.len
    by true test none = le_of _ _ test
    by false test none = absurd cc

  -- a byte of a value
  pub keeps_value : (set : SetLine) (held : List ℕ) (c : ℕ) (rest : List ℕ) → length held < set.len
      → read_from (stages.Value set) held header line before (slice_split is_newline (c ∷ rest)) ≡ read_from (stages.Value set) (held ++ c ∷ []) header line before (slice_split is_newline rest)
  unfolding read_from
  keeps_value set held c rest short = by (is_newline c) refl where
    Goal : List (List ℕ) → Type 0
    Goal parts = read_from (stages.Value set) held header line before parts ≡ read_from (stages.Value set) (held ++ c ∷ []) header line before (slice_split is_newline rest)

    by : (b : Bool) → is_newline c ≡ b → Goal (cond b ([] ∷ slice_split is_newline rest) (onto_first c (slice_split is_newline rest)))
    by true newline = rw (newline_is c newline) (split_cases
        (λ parts. read_from (stages.Value set) held header line before ([] ∷ parts) ≡ read_from (stages.Value set) (held ++ 10 ∷ []) header line before parts)
        (λ part parts. rw (append-nil held, not_eq (length held) set.len short, lt_of (length held) set.len short) refl) rest)
    by false other = split_cases
        (λ parts. read_from (stages.Value set) held header line before (onto_first c parts) ≡ read_from (stages.Value set) (held ++ c ∷ []) header line before parts) each rest where
          each : (part : List ℕ) (parts : List (List ℕ)) → read_from (stages.Value set) held header line before ((c ∷ part) ∷ parts) ≡ read_from (stages.Value set) (held ++ c ∷ []) header line before (part ∷ parts)
          each part [] = rw (append_assoc held (c ∷ []) part) refl
          each part (next ∷ parts) = rw (append_assoc held (c ∷ []) part) refl

  -- a byte in the place of the newline behind a value
  pub bad_value : (set : SetLine) (held : List ℕ) (c : ℕ) (rest : List ℕ) → set.len ≤ length held → is_newline c ≡ false
      → read_from (stages.Value set) held header line before (slice_split is_newline (c ∷ rest)) ≡ bad line Form
  unfolding read_from
  bad_value set held c rest all other = rw other (split_cases
      (λ parts. read_from (stages.Value set) held header line before (onto_first c parts) ≡ bad line Form) each rest) where
        past : (part : List ℕ) → set.len < length (held ++ c ∷ part)
        past part = omega (arith, length-append held (c ∷ part))

        each : (part : List ℕ) (parts : List (List ℕ)) → read_from (stages.Value set) held header line before ((c ∷ part) ∷ parts) ≡ bad line Form
        each part [] = rw (not_le _ set.len (past part)) refl
        each part (next ∷ parts) = let more : set.len ≤ length (held ++ c ∷ part) = omega (arith, past part) in rw (not_eq_past _ set.len (past part), not_lt _ set.len more) refl

  -- the newline behind a value
  pub ends_value : (set : SetLine) (held : List ℕ) (rest : List ℕ) → length held ≤ set.len → set.len ≤ length held
      → read_from (stages.Value set) held header line before (slice_split is_newline (10 ∷ rest)) ≡ read_from stages.Command [] header (line + 1) (before ++ with_value set held ∷ []) (slice_split is_newline rest)
  unfolding read_from
  ends_value set held rest within all = split_cases
      (λ parts. read_from (stages.Value set) held header line before ([] ∷ parts) ≡ read_from stages.Command [] header (line + 1) (before ++ with_value set held ∷ []) parts)
      (λ part parts. rw (append-nil held, is_eq (length held) set.len within all) refl) rest

  -- the newline of a line of the header
  ends_header : (due : HeaderLine) (held rest : List ℕ)
      → read_from (stages.Header due) held header line before (slice_split is_newline (10 ∷ rest)) ≡ behind line (header_line due header (slice_split is_blank held)) λ said. read_from (stage_after due) [] said (line + 1) before (slice_split is_newline rest)
  unfolding read_from
  ends_header due held rest = split_cases
      (λ parts. read_from (stages.Header due) held header line before ([] ∷ parts) ≡ behind line (header_line due header (slice_split is_blank held)) λ said. read_from (stage_after due) [] said (line + 1) before parts)
      (λ part parts. rw (append-nil held) refl) rest

  -- the newline of the last line
  pub ends_session : (held rest : List ℕ) → is (codes "end") held ≡ true
      → read_from stages.Command held header line before (slice_split is_newline (10 ∷ rest)) ≡ read_from stages.End [] header (line + 1) before (slice_split is_newline rest)
  unfolding read_from
  ends_session held rest end = split_cases
      (λ parts. read_from stages.Command held header line before ([] ∷ parts) ≡ read_from stages.End [] header (line + 1) before parts)
      (λ part parts. rw (append-nil held, end) refl) rest

  -- the newline of a command
  ends_command : (held rest : List ℕ) → is (codes "end") held ≡ false
      → read_from stages.Command held header line before (slice_split is_newline (10 ∷ rest)) ≡ behind line (command_line header.clients (length before) (slice_split is_blank held)) λ given. read_from (stage_with given) [] header (line + 1) (before ++ commands_in given) (slice_split is_newline rest)
  unfolding read_from
  ends_command held rest more = split_cases
      (λ parts. read_from stages.Command held header line before ([] ∷ parts) ≡ behind line (command_line header.clients (length before) (slice_split is_blank held)) λ given. read_from (stage_with given) [] header (line + 1) (before ++ commands_in given) parts)
      (λ part parts. rw (append-nil held, more) refl) rest

  -- a byte behind the end
  pub bad_end : (held : List ℕ) (c : ℕ) (rest : List ℕ) → read_from stages.End held header line before (slice_split is_newline (c ∷ rest)) ≡ bad line After
  unfolding read_from
  bad_end held c rest = by (is_newline c) where
    by : (b : Bool) → read_from stages.End held header line before (cond b ([] ∷ slice_split is_newline rest) (onto_first c (slice_split is_newline rest))) ≡ bad line After
    by true = split_cases (λ parts. read_from stages.End held header line before ([] ∷ parts) ≡ bad line After) (λ part parts. refl) rest
    by false = split_cases (λ parts. read_from stages.End held header line before (onto_first c parts) ≡ bad line After) (λ part parts. refl) rest

-- a line that its reader refuses is bad
goes_bad : {A B : Type 0} (view : A → B) (line : ℕ) (answer : Result A LineRefused) (read : Result B Why) (e : TraceRefused) (next : B → Text) (later : Text)
    → answer_at line answer ≡ Err e → Reads view answer read → GoesOn {A = Unit {0}} (Err e) (behind line read next) later
goes_bad view line answer read refused.NoMemory next later is given = tt
goes_bad view line (Ok y) read (refused.Bad at why) next later is given = absurd cc
goes_bad view line (Err line_refused.NoMemory) read (refused.Bad at why) next later is given = absurd cc
goes_bad {A = A} {B = B} view line (Err (line_refused.Bad other)) read (refused.Bad at why) next later is given = rw given (same is) where
  same : ◌≡◌ {A = Result A TraceRefused} (Err (refused.Bad line other)) (Err (refused.Bad at why)) → bad line other ≡ bad at why
  same e = cc

-- what the newline of a line does, by what its reader answered
module _ (header : Header) (line : ℕ) (before : List KvCommand) (held rest : List ℕ) {A : Type 0} (answer : Result A LineRefused) where
  -- a line of the header
  module _ (due : HeaderLine) (view : A → Header) (given : Reads view answer (header_line due header (slice_split is_blank held))) where
    -- where its reader takes it, reading goes on behind the newline, at the line of the header that is due next
    pub reads_header : (x : A) → answer_at line answer ≡ Ok x
        → read_from (stages.Header due) held header line before (slice_split is_newline (10 ∷ rest)) ≡ read_from (stage_after due) [] (view x) (line + 1) before (slice_split is_newline rest)
    reads_header x is = ends_header header line before due held rest
        ∙ ap (λ answer. behind line answer λ said. read_from (stage_after due) [] said (line + 1) before (slice_split is_newline rest)) (read_ok view line answer (header_line due header (slice_split is_blank held)) x is given)

    -- where its reader refuses it, the text is bad at this line, unless memory ran out
    pub bad_header : (e : TraceRefused) (later : Text) → answer_at line answer ≡ Err e
        → GoesOn {A = Unit {0}} (Err e) (read_from (stages.Header due) held header line before (slice_split is_newline (10 ∷ rest))) later
    bad_header e later is = rw (ends_header header line before due held rest)
        (goes_bad view line answer (header_line due header (slice_split is_blank held)) e (λ said. read_from (stage_after due) [] said (line + 1) before (slice_split is_newline rest)) later is given)

  -- the line of a command
  module _ (view : A → Given) (more : is (codes "end") held ≡ false) (given : Reads view answer (command_line header.clients (length before) (slice_split is_blank held))) where
    -- where its reader takes it, reading goes on behind the newline: at a value if one is awaited, and else behind this command
    pub reads_command : (x : A) → answer_at line answer ≡ Ok x
        → read_from stages.Command held header line before (slice_split is_newline (10 ∷ rest)) ≡ read_from (stage_with (view x)) [] header (line + 1) (before ++ commands_in (view x)) (slice_split is_newline rest)
    reads_command x is = ends_command header line before held rest more
        ∙ ap (λ answer. behind line answer λ given. read_from (stage_with given) [] header (line + 1) (before ++ commands_in given) (slice_split is_newline rest))
        (read_ok view line answer (command_line header.clients (length before) (slice_split is_blank held)) x is given)

    -- where its reader refuses it, the text is bad at this line, unless memory ran out
    pub bad_command : (e : TraceRefused) (later : Text) → answer_at line answer ≡ Err e
        → GoesOn {A = Unit {0}} (Err e) (read_from stages.Command held header line before (slice_split is_newline (10 ∷ rest))) later
    bad_command e later is = rw (ends_command header line before held rest more)
        (goes_bad view line answer (command_line header.clients (length before) (slice_split is_blank held)) e
        (λ given. read_from (stage_with given) [] header (line + 1) (before ++ commands_in given) (slice_split is_newline rest)) later is given)

-- a byte other than the newline's
pub no_newline : (c : ℕ) → c ≢ 10 → is_newline c ≡ false
no_newline c other = grind (arith, nat_tests)
