-- What every session that is read keeps to.
use Rattle.std.proofs.Common.{◌≡◌, ℕ, ◌+◌, ◌<◌, ◌≤◌, List, [], ◌∷◌, ◌++◌, length, take, nat_le, nat_lt, ◌==◌, Bool, true, false, cond, Result, Ok, Err, refl, subst, append-nil, codes, arith}
use Rattle.std.specs.Prelude.{All, IfOk}
use Rattle.std.specs.List.{slice_split}
use Rattle.std.proofs.lemmas.Bool.Decides.{nat_tests}
use Rattle.std.proofs.lemmas.List.{length-replicate, length_push}
use Rattle.std.proofs.lemmas.List.Elements.{All-nil, All-cons, All-append, All-replicate}
use Rattle.eleos_base.specs.declared.plan.EnclavePlan.{EnclavePlan}
use Rattle.eleos_base.specs.Plans.{IsGood}
use Rattle.eleos_texts.specs.declared.why.Why.{Why}
use Rattle.eleos_texts.specs.declared.why.Why.TheVariants.{Form}
use Rattle.eleos_texts.specs.Fields.{is, is_blank, is_newline}
use Rattle.eleos_texts.specs.Texts.{most_text}
use Rattle.eleos_texts.specs.declared.why.TraceRefused.{TraceRefused}
use Rattle.eleos_texts.specs.Reasons.{Gives}
use Rattle.eleos_kvwire.specs.declared.header.Header.{Header}
use Rattle.eleos_kvwire.specs.declared.stage.HeaderLine.{HeaderLine}
use Rattle.eleos_kvwire.specs.declared.stage.HeaderLine.TheVariants.{Title, Sizes, Shards, Clients, Wear, Key, Start}
use Rattle.eleos_kvwire.specs.declared.stage.SetLine.{SetLine}
use Rattle.eleos_kvwire.specs.declared.stage.Stage.{Stage}
use Rattle.eleos_kvwire.specs.declared.stage.Stage.TheVariants as stages
use Rattle.eleos_kvwire.specs.declared.commands.Given.{Given}
use Rattle.eleos_kvwire.specs.declared.commands.Given.TheVariants.{Whole, Awaits}
use Rattle.eleos_kvwire.specs.declared.trace.KvCommand.{KvCommand}
use Rattle.eleos_kvwire.specs.declared.trace.KvTrace.{KvTrace}
use Rattle.eleos_kvwire.specs.Header.{header_line, stage_after, no_header}
use Rattle.eleos_kvwire.specs.Commands.{command_line, with_value}
use Rattle.eleos_kvwire.specs.Reading.{Text, IsWhole, IsFront, IsBad, bad, behind, ended, plan_of, trace_with, read_from, text_of, trace_in, session_of, refusal_past, stage_with, commands_in}
use Rattle.eleos_kvwire.specs.Sessions.{IsCommand, IsSession}
use Rattle.eleos_kvwire.proofs.Limits.{HasKey, HasBefore, HasAt, IsSet, IsGiven, header_ok, command_ok}

-- commands of so many clients
record AreCommands (clients : ℕ) (commands : List KvCommand) : Type 0 where
  each : All (IsCommand clients) commands
  few : length commands ≤ 100000

with_more : (clients : ℕ) (commands : List KvCommand) (command : KvCommand) → AreCommands clients commands → length commands < 100000 → IsCommand clients command → AreCommands clients (commands ++ command ∷ [])
with_more clients commands command are room is = record {
  each = All-append (IsCommand clients) commands (command ∷ []) are.each (All-cons (IsCommand clients) command [] is (All-nil (IsCommand clients)));
  few = rw (length_push commands command) (omega arith);
}

-- what was read is good, at each stage
abbrev AreGood : Stage → Header → List KvCommand → Type 0
AreGood (stages.Header due) header before = HasBefore due header × (before ≡ [])
AreGood stages.Command header before = HasKey header × AreCommands header.clients before
AreGood (stages.Value set) header before = HasKey header × AreCommands header.clients before × IsSet header.clients set × (length before < 100000)
AreGood stages.End header before = HasKey header × AreCommands header.clients before

none : (clients : ℕ) → AreCommands clients []
none clients = record { each = All-nil (IsCommand clients); few = omega arith }

-- behind a line of the header
after_header : (due : HeaderLine) (header : Header) (before : List KvCommand) → before ≡ [] → HasAt (stage_after due) header → AreGood (stage_after due) header before
after_header Title header before empty has = (has, empty)
after_header Sizes header before empty has = (has, empty)
after_header Shards header before empty has = (has, empty)
after_header Clients header before empty has = (has, empty)
after_header Wear header before empty has = (has, empty)
after_header Key header before empty has = (has, empty)
after_header Start header before empty has = (has, rw empty (none header.clients))

-- behind the line of a command
after_command : (given : Given) (header : Header) (before : List KvCommand) → HasKey header → AreCommands header.clients before → length before < 100000 → IsGiven header.clients given → AreGood (stage_with given) header (before ++ commands_in given)
after_command (Whole command) header before has are room is = (has, with_more header.clients before command are room is)
after_command (Awaits set) header before has are room is = rw (append-nil before) (has, are, is, room)

good_plan : (header : Header) → HasKey header → IsGood (plan_of header)
good_plan header has =
    let wear = has.0 in let clients = wear.0 in let shards = clients.0 in let sizes = shards.0 in
    let enclave : EnclavePlan = record { pages = header.pages; frames = header.frames } in
    record {
      some_enclave = omega arith;
      enclaves = omega arith;
      pages = All-cons (λ enclave. (1 ≤ enclave.pages) × (enclave.pages ≤ 1024)) enclave [] (sizes.some_pages.some, sizes.some_pages.within) (All-nil (λ enclave. (1 ≤ enclave.pages) × (enclave.pages ≤ 1024)));
      all_pages = omega (arith, sizes.some_pages.within);
      frames = omega (arith, sizes.few_frames);
      some_caller = rw (length-replicate {A = ℕ} header.shards 0) shards.1.some;
      callers = rw (length-replicate {A = ℕ} header.shards 0) shards.1.within;
      at_home = All-replicate (λ enclave. enclave < 1) header.shards 0 (omega arith);
      some_wear = wear.1.some;
      wear = wear.1.within;
      blocks = tt;
    }

good_trace : (header : Header) (before : List KvCommand) → HasKey header → AreCommands header.clients before → IsSession (trace_with header before)
good_trace header before has are = record {
  good = good_plan header has;
  no_blocks = refl;
  key = has.1;
  some_shard = has.0.0.0.1.some;
  shards = has.0.0.0.1.within;
  callers = length-replicate {A = ℕ} header.shards 0;
  some_client = has.0.0.1.some;
  clients = has.0.0.1.within;
  commands = are.each;
  few = are.few;
}

behind_whole : {A : Type 0} (line : ℕ) (answer : Result A Why) (next : A → Text) (trace : KvTrace) → behind line answer next ≡ IsWhole trace → (said : A) × (answer ≡ Ok said) × (next said ≡ IsWhole trace)
behind_whole line (Ok said) next trace e = (said, refl, e)
behind_whole line (Err why) next trace e = absurd cc

same_trace : (a b : KvTrace) → IsWhole a ≡ IsWhole b → a ≡ b
same_trace a b e = cc

ended_whole : (trace whole : KvTrace) (line : ℕ) (texts : List (List ℕ)) → ended trace line texts ≡ IsWhole whole → trace ≡ whole
ended_whole trace whole line ([] ∷ []) e = same_trace trace whole e
ended_whole trace whole line [] e = absurd cc
ended_whole trace whole line ([] ∷ text ∷ texts) e = absurd cc
ended_whole trace whole line ((c ∷ cs) ∷ texts) e = absurd cc

eq_of : (a b : ℕ) → (a == b) ≡ true → a ≡ b
eq_of a b test = grind (arith, nat_tests)

by_test : {A R : Type 0} (b : Bool) (x y z : A) → (b ≡ true → x ≡ z → R) → (b ≡ false → y ≡ z → R) → cond b x y ≡ z → R
by_test true x y z holds fails e = holds refl e
by_test false x y z holds fails e = fails refl e

no_front : (line : ℕ) (trace : KvTrace) → IsFront line ≡ IsWhole trace → ⊥
no_front line trace e = cc

no_bad : (line : ℕ) (why : Why) (trace : KvTrace) → bad line why ≡ IsWhole trace → ⊥
no_bad line why trace e = cc

-- a value that has come
set_is : (clients : ℕ) (set : SetLine) (value : List ℕ) → IsSet clients set → length value ≡ set.len → IsCommand clients (with_value set value)
set_is clients set value is full = record {
  from_one = is.client.some;
  within = is.client.within;
  key = is.key;
  value = rw full (is.len.some, is.len.within);
}

module _ (trace : KvTrace) where
  reads_good : (texts : List (List ℕ)) (stage : Stage) (held : List ℕ) (header : Header) (line : ℕ) (before : List KvCommand)
      → AreGood stage header before → read_from stage held header line before texts ≡ IsWhole trace → IsSession trace
  unfolding read_from
  reads_good [] (stages.Header due) held header line before good e = absurd (no_front line trace e)
  reads_good [] stages.Command held header line before good e = absurd (no_front line trace e)
  reads_good [] (stages.Value set) held header line before good e = absurd (no_front line trace e)
  reads_good [] stages.End held header line before good e = subst (λ (t : KvTrace). IsSession t) (ended_whole (trace_with header before) trace line [] e) (good_trace header before good.0 good.1)
  reads_good (text ∷ []) (stages.Header due) held header line before good e = absurd (no_front line trace e)
  reads_good (text ∷ []) stages.Command held header line before good e = absurd (no_front line trace e)
  reads_good (text ∷ []) (stages.Value set) held header line before good e =
      by_test (nat_le (length (held ++ text)) set.len) (IsFront line) (bad line Form) (IsWhole trace) (λ test e. absurd (no_front line trace e)) (λ test e. absurd (no_bad line Form trace e)) e
  reads_good (text ∷ []) stages.End held header line before good e = subst (λ (t : KvTrace). IsSession t) (ended_whole (trace_with header before) trace line (text ∷ []) e) (good_trace header before good.0 good.1)
  reads_good (text ∷ next ∷ texts) (stages.Header due) held header line before good e =
      let a = behind_whole line (header_line due header (slice_split is_blank (held ++ text))) (λ said. read_from (stage_after due) [] said (line + 1) before (next ∷ texts)) trace e in
      let has = header_ok due header a.0 (slice_split is_blank (held ++ text)) a.1 good.0 in
      reads_good (next ∷ texts) (stage_after due) [] a.0 (line + 1) before (after_header due a.0 before good.1 has) a.2
  reads_good (text ∷ next ∷ texts) stages.Command held header line before good e =
      let words : List (List ℕ) = slice_split is_blank (held ++ text) in
      by_test (is (codes "end") (held ++ text)) (read_from stages.End [] header (line + 1) before (next ∷ texts))
      (behind line (command_line header.clients (length before) words) λ given. read_from (stage_with given) [] header (line + 1) (before ++ commands_in given) (next ∷ texts)) (IsWhole trace)
      (λ end e. reads_good (next ∷ texts) stages.End [] header (line + 1) before good e)
      (λ more e.
      let a = behind_whole line (command_line header.clients (length before) words) (λ given. read_from (stage_with given) [] header (line + 1) (before ++ commands_in given) (next ∷ texts)) trace e in
      let given = command_ok header.clients (length before) words a.0 a.1 in
      reads_good (next ∷ texts) (stage_with a.0) [] header (line + 1) (before ++ commands_in a.0) (after_command a.0 header before good.0 good.1 given.0 given.1) a.2) e
  reads_good (text ∷ next ∷ texts) (stages.Value set) held header line before good e =
      let command : KvCommand = with_value set (held ++ text) in
      let longer : Text = cond (nat_lt (length (held ++ text)) set.len) (read_from (stages.Value set) (held ++ text ++ 10 ∷ []) header line before (next ∷ texts)) (bad line Form) in
      by_test (length (held ++ text) == set.len) (read_from stages.Command [] header (line + 1) (before ++ command ∷ []) (next ∷ texts)) longer (IsWhole trace)
      (λ full e. reads_good (next ∷ texts) stages.Command [] header (line + 1) (before ++ command ∷ []) (good.0, with_more header.clients before command good.1 good.3 (set_is header.clients set (held ++ text) good.2 (eq_of _ _ full))) e)
      (λ other e. by_test (nat_lt (length (held ++ text)) set.len) (read_from (stages.Value set) (held ++ text ++ 10 ∷ []) header line before (next ∷ texts)) (bad line Form) (IsWhole trace)
      (λ short e. reads_good (next ∷ texts) (stages.Value set) (held ++ text ++ 10 ∷ []) header line before good e) (λ long e. absurd (no_bad line Form trace e)) e) e
  reads_good (text ∷ next ∷ texts) stages.End held header line before good e = subst (λ (t : KvTrace). IsSession t) (ended_whole (trace_with header before) trace line (text ∷ next ∷ texts) e) (good_trace header before good.0 good.1)

whole_of : (text : Text) (trace : KvTrace) → trace_in text ≡ Ok trace → text ≡ IsWhole trace
whole_of (IsWhole other) trace e = cc
whole_of (IsFront line) trace e = absurd cc
whole_of (IsBad found) trace e = absurd cc

-- a session that a text is
pub good_session : (bytes : List ℕ) (trace : KvTrace) → session_of bytes ≡ Ok trace → IsSession trace
unfolding session_of
good_session bytes trace e = by (nat_le (length bytes) most_text) e where
  by : (b : Bool) → cond b (trace_in (text_of bytes)) (Err (refusal_past (text_of (take most_text bytes)))) ≡ Ok trace → IsSession trace
  by true e = reads_good trace (slice_split is_newline bytes) (stages.Header Title) [] no_header 1 [] (tt, refl) (whole_of (text_of bytes) trace e)
  by false e = absurd cc

-- what is answered for such a text
pub good_answer : (result : Result KvTrace TraceRefused) (bytes : List ℕ) → Gives (λ trace. trace) result (session_of bytes) → IfOk result (λ trace. IsSession trace)
good_answer (Ok trace) bytes given = good_session bytes trace given
good_answer (Err e) bytes given = tt
