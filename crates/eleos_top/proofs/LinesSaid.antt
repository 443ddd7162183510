-- A replay that goes on by one more line.
use Rattle.std.proofs.Common.{◌≡◌, inl, inr, ℕ, suc, ◌+◌, List, [], ◌∷◌, ◌++◌, length, filter, Bool, true, false, if◌then◌else◌, Option, Some, None, IfSome, refl, sym, ◌∙◌, ap, subst, append-nil, arith}
use Rattle.std.proofs.lemmas.Grind.{flat_map-append}
use Rattle.eleos_base.specs.declared.plan.Plan.{Plan}
use Rattle.eleos_core.specs.Laws.{OfEveryRun, RunsPlain}
use Rattle.eleos_core.specs.Seals.{Seals, seals_by}
use Rattle.eleos_core.specs.State.{History}
use Rattle.eleos_base.specs.Plans.{IsGood}
use Rattle.eleos_host.specs.Stores.{Store}
use Rattle.eleos_trace.specs.declared.trace.Line.{Line}
use Rattle.eleos_trace.specs.declared.trace.Trace.{Trace}
use Rattle.eleos_top.specs.declared.response.Response.{Response}
use Rattle.eleos_meaning.specs.declared.meanings.Meaning.{Meaning}
use Rattle.eleos_meaning.specs.Names.{Names}
use Rattle.eleos_meaning.specs.declared.meanings.Meaning.TheVariants.{Nameless, Happens, Offends, Acts}
use Rattle.eleos_top.specs.declared.sessions.Session.{Session}
use Rattle.eleos_report.specs.declared.line.LogLine.TheVariants.{End}
use Rattle.eleos_report.specs.Log.{line_text}
use Rattle.eleos_top.specs.Log.{Said, entries, is_entry, lines_text, said_text}
use Rattle.eleos_top.specs.Replays.{Gets, IsLogOver, Replays}
use Rattle.eleos_top.specs.Scenes.{Scene, all_names, meaning, opening_of}
use Rattle.eleos_top.specs.Sessions.{Answered, AlwaysGoesOn, GoesOn, StandsAfter, scene_of}

abbrev pub said_of : Line → Response → Said
said_of line answer = record { line = line; answer = answer }

abbrev counted : Bool → ℕ
counted b = if b then 1 else 0

text_push : (said : List Said) (s : Said) → lines_text (said ++ s ∷ []) ≡ lines_text said ++ said_text s
text_push said s = flat_map-append said_text said (s ∷ []) ∙ ap (λ text. lines_text said ++ text) (append-nil (said_text s))

entries_push : (said : List Said) (s : Said) → entries (said ++ s ∷ []) ≡ entries said + counted (is_entry s.answer)
entries_push [] s = by (is_entry s.answer) ∙ none_before (counted (is_entry s.answer))
  where
    none_before : (n : ℕ) → n ≡ 0 + n
    none_before n = omega arith

    by : (b : Bool) → length (if b then s ∷ [] else []) ≡ counted b
    by true = refl
    by false = refl
entries_push (first ∷ said) s = by (is_entry first.answer) (entries_push said s)
  where
    rest : List Said → List Said
    rest lines = filter (λ one. is_entry one.answer) lines

    one_before : (m n : ℕ) → suc (m + n) ≡ suc m + n
    one_before m n = omega arith

    by : (b : Bool) → entries (said ++ s ∷ []) ≡ entries said + counted (is_entry s.answer)
        → length (if b then first ∷ rest (said ++ s ∷ []) else rest (said ++ s ∷ [])) ≡ length (if b then first ∷ rest said else rest said) + counted (is_entry s.answer)
    by true more = ap suc more ∙ one_before (entries said) (counted (is_entry s.answer))
    by false more = more

module _ (k : Plan) (x : Seals) where
  replays_push : (lines : List Line) (first : Scene) (said : List Said) (last : Scene) (line : Line) (answer : Response) (after : Scene)
      → Replays k x lines first said last → Gets k x (meaning k last line) line last answer after
      → Replays k x (lines ++ line ∷ []) first (said ++ said_of line answer ∷ []) after
  replays_push [] first said last line answer after replays gets =
      (answer, after, [], ap (λ s. s ++ said_of line answer ∷ []) replays.0, subst (λ (scene : Scene). Gets k x (meaning k scene line) line scene answer after) replays.1 gets, (refl, refl))
  replays_push (one ∷ lines) first said last line answer after (a, mid, rest, said_is, got, more) gets =
      (a, mid, rest ++ said_of line answer ∷ [], ap (λ s. s ++ said_of line answer ∷ []) said_is, got, replays_push lines mid rest last line answer after more gets)

  one_more : (n : ℕ) → suc n ≡ n + 1
  one_more n = omega arith

  -- no entry
  none_more : (scene after : Scene) (answer : Response) → is_entry answer ≡ false → after ≡ scene → length after.past ≡ length scene.past + counted (is_entry answer)
  none_more scene after answer is_not after_is = ap (λ (s : Scene). length s.past) after_is ∙ (zero_more (length scene.past) ∙ ap (λ b. length scene.past + counted b) (sym is_not))
    where
      zero_more : (n : ℕ) → n ≡ n + 0
      zero_more n = omega arith

  -- an entry, and nothing else, makes the history longer
  gets_count : (m : Meaning) (line : Line) (scene : Scene) (answer : Response) (after : Scene) → Gets k x m line scene answer after → length after.past ≡ length scene.past + counted (is_entry answer)
  gets_count Nameless line scene answer after got = none_more scene after answer (ap is_entry got.0) got.1
  gets_count (Happens event) line scene answer after (inl is) =
      ap (λ (s : Scene). length s.past) is.after_is ∙ (one_more (length scene.past) ∙ ap (λ a. length scene.past + counted (is_entry a)) (sym is.answer_is))
  gets_count (Happens event) line scene answer after (inr is) = none_more scene after answer (ap is_entry is.answer_is) is.after_is
  gets_count (Offends part) line scene answer after got = none_more scene after answer (ap is_entry got.0) got.1
  gets_count (Acts act) line scene answer after got =
      ap (λ (s : Scene). length s.past) got.1 ∙ (zero_more (length scene.past) ∙ ap (λ a. length scene.past + counted (is_entry a)) (sym got.0))
    where
      zero_more : (n : ℕ) → n ≡ n + 0
      zero_more n = omega arith

  -- where a replay of these lines stands, and what it printed
  pub record IsReplayed (told : Option Store) (names : List Names) (lines : List Line) (now : Option Store) (session : Session) (text : List ℕ) : Type 0 where
    pub past : History
    pub stands : StandsAfter k x past session
    pub said : IfSome told (λ store. (said : List Said) × (store' : Store) × (now ≡ Some store')
        × Replays k x lines (record { past = []; store = store; names = names }) said (scene_of past store' session)
        × (text ≡ lines_text said) × (length past ≡ entries said))

  -- before the first line
  pub replayed_none : (told : Option Store) (session : Session) → StandsAfter k x [] session → IsReplayed told (all_names session.names.items) [] told session []
  replayed_none told session stands = record { past = []; stands = stands; said = by told }
    where
      by : (t : Option Store) → IfSome t (λ store. (said : List Said) × (store' : Store) × (t ≡ Some store')
          × Replays k x [] (record { past = []; store = store; names = all_names session.names.items }) said (scene_of [] store' session)
          × ([] ≡ lines_text said) × (0 ≡ entries said))
      by None = tt
      by (Some store) = ([], store, refl, (refl, refl), refl, refl)

  -- one line more
  pub replayed_more : (told : Option Store) (names : List Names) (lines : List Line) (line : Line) (answer : Response) (now now' : Option Store) (old new : Session) (text text' : List ℕ)
      → IsReplayed told names lines now old text
      → AlwaysGoesOn k x (Answered k x line) answer now now' old new
      → text' ≡ text ++ said_text (said_of line answer)
      → IsReplayed told names (lines ++ line ∷ []) now' new text'
  replayed_more told names lines line answer now now' old new text text' is goes_on text_is =
      record { past = on.later; stands = on.stands; said = by told is.said }
    where
      on : GoesOn k x (Answered k x line) answer now now' old new is.past
      on = goes_on is.past is.stands

      gone : (store' : Store) → now ≡ Some store' → (store'' : Store) × (now' ≡ Some store'') × Answered k x line (scene_of is.past store' old) answer (scene_of on.later store'' new)
      gone store' now_is = subst (λ (o : Option Store). IfSome o (λ s. (store'' : Store) × (now' ≡ Some store'') × Answered k x line (scene_of is.past s old) answer (scene_of on.later store'' new))) now_is on.goes

      by : (t : Option Store)
          → IfSome t (λ store. (said : List Said) × (store' : Store) × (now ≡ Some store')
          × Replays k x lines (record { past = []; store = store; names = names }) said (scene_of is.past store' old)
          × (text ≡ lines_text said) × (length is.past ≡ entries said))
          → IfSome t (λ store. (said : List Said) × (store' : Store) × (now' ≡ Some store')
          × Replays k x (lines ++ line ∷ []) (record { past = []; store = store; names = names }) said (scene_of on.later store' new)
          × (text' ≡ lines_text said) × (length on.later ≡ entries said))
      by None s = tt
      by (Some store) (said, store', now_is, replays, so_far, count) =
          let next = gone store' now_is in (
            said ++ said_of line answer ∷ [],
            next.0,
            next.1,
            replays_push lines (record { past = []; store = store; names = names }) said (scene_of is.past store' old) line answer (scene_of on.later next.0 new) replays next.2,
            text_is ∙ (ap (λ t. t ++ said_text (said_of line answer)) so_far ∙ sym (text_push said (said_of line answer))),
            gets_count (meaning k (scene_of is.past store' old) line) line (scene_of is.past store' old) answer (scene_of on.later next.0 new) next.2
                ∙ (ap (λ n. n + counted (is_entry answer)) count ∙ sym (entries_push said (said_of line answer))),
          )

-- after the last line: the log
pub log_of_all : (trace : Trace) (told now : Option Store) (session : Session) (text text' : List ℕ) → IsGood trace.plan → OfEveryRun RunsPlain
    → IsReplayed trace.plan (seals_by trace.key) told (opening_of trace) trace.lines now session text
    → text' ≡ text ++ line_text (End session.stamps) → IsLogOver told now trace text'
log_of_all trace told now session text text' good law is text_is = by told is.said
  where
    k : Plan
    k = trace.plan

    x : Seals
    x = seals_by trace.key

    by : (t : Option Store)
        → IfSome t (λ store. (said : List Said) × (store' : Store) × (now ≡ Some store')
        × Replays k x trace.lines (record { past = []; store = store; names = opening_of trace }) said (scene_of is.past store' session)
        × (text ≡ lines_text said) × (length is.past ≡ entries said))
        → IsLogOver t now trace text'
    by None s = tt
    by (Some store) (said, store', now_is, replays, so_far, count) = record {
      lines = said;
      last = scene_of is.past store' session;
      replayed = replays;
      left = now_is;
      printed = text_is ∙ (λ i. so_far i ++ line_text (End ((is.stands.stamps ∙ count) i)));
      one_run = law k trace.key is.past (record { good = good; legal = is.stands.run });
    }
