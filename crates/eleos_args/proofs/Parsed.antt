-- What `clap` makes of the words.
use Rattle.std.proofs.Common.{◌≡◌, ◌≢◌, ℕ, ◌==◌, ◌&&◌, ◌||◌, List, [], ◌∷◌, ◌++◌, Bool, true, false, Option, Some, None, option_map, is_some, fold, codes, refl, sym, ◌∙◌, ap, ap₂, subst, unwrap_or, Box, Global, ◌⊎◌, ⊎_elim, inl, inr, append_assoc, append-nil}
use Rattle.std.specs.List.{list_any, find}
use Rattle.std.specs.Str.{bytes_eq}
use Rattle.std.specs.Option.{option_map_or}
use Rattle.std.proofs.lemmas.Slice.Eq.{bytes_eq-Decides}
use Rattle.clap.specs.Walk.{Held, Names, Row, Rule, Text, Walk, answers_to, finished, first_of, nothing_held, rows_after, settled, walk, walk_from, walked}
use Rattle.clap.specs.Simple.{App, HasMatchesOf, Shape, is_simple, subcommand_rows, subcommand_rows_of, built, filled_from, label_of, new_shape, subcommand_of, names_of, entered, rows_at}
use Rattle.clap.specs.Faults.{check_fault, defaults_fault, entered_fault, fault_of, is_simple_and_free, level_fault, settle_fault, turn_fault, walk_fault}
use Rattle.clap.specs.Kinds.{HasKind, IsAmong, Kinds, or_else}
use Rattle.clap.specs.Matches.{subcommand_name_of}
use Rattle.clap.specs.Values.{kind_of}
use Rattle.clap.specs.declared.error.Error.{Error}
use Rattle.clap.specs.declared.parser.matches.ArgMatches.{ArgMatches}
use Rattle.clap.specs.declared.parser.matches.ArgMatches.TheViews.{out-ArgMatches, out-SubCommand}
use Rattle.clap.specs.declared.parser.matches.SubCommand.{SubCommand}
use Rattle.std.specs.Box.{box_value}
use Rattle.clap.specs.declared.error.kind.ErrorKind.TheVariants as kind
use Rattle.clap.proofs.OnLiterals.{clap_on_literals}
use Rattle.eleos_args.specs.Commands.{command_by, command_of, is_flag}
use Rattle.eleos_args.specs.Program.{program, value_rule}

-- the names of the commands
abbrev names : Names
names = names_of (built program)

-- where the walk stands once a command was named
abbrev stopped_at : Text → List Text → Walk
stopped_at name after = record (walk_from nothing_held) { stopped = Some (name, after) }

-- all words after it are the command's
rest-fold : (name : Text) (after rest : List Text) → fold (walked [] names) (stopped_at name after) rest ≡ stopped_at name (after ++ rest)
unfolding walked
rest-fold name after [] = ap (stopped_at name) (sym (append-nil after))
rest-fold name after (word ∷ rest) = rest-fold name (after ++ word ∷ []) rest ∙ ap (stopped_at name) (append_assoc after (word ∷ []) rest)

-- and none of them a fault of the program's own
rest-fault : (name : Text) (after rest : List Text) → walk_fault (built program).top names (stopped_at name after) rest ≡ []
unfolding walk_fault walked
rest-fault name after [] = refl
rest-fault name after (word ∷ rest) = rest-fault name (after ++ word ∷ []) rest

-- a command alone, and one with a value, as they are built
abbrev bare : Text → Shape
bare name = record (new_shape name) { no_binary_name = true; disable_help_flag = true; disable_help_subcommand = true; is_built = true }

abbrev full : Text → Shape
full name = record (bare name) { rules = filled_from 1 (value_rule ∷ []) }

-- what a command's own words come to
abbrev below : Shape → List Text → Kinds
below shape rest = level_fault shape [] nothing_held rest false []

-- what its value is
abbrev value_in : Shape → List Text → Option Text
value_in shape rest = first_of (codes "value") (rows_after shape.rules [] rest)

bare-none : (name : Text) → (below (bare name) [] ≡ []) × (value_in (bare name) [] ≡ None)
unfolding clap_on_literals
bare-none name = (refl, refl)

bare-one : (name word : Text) (more : List Text) → is_flag word ≡ false → below (bare name) (word ∷ more) ≡ kind.UnknownArgument ∷ []
unfolding clap_on_literals
bare-one name [] more plain = refl
bare-one name (x ∷ xs) more plain = simp plain

full-none : (name : Text) → below (full name) [] ≡ kind.MissingRequiredArgument ∷ []
unfolding clap_on_literals
full-none name = refl

full-one : (name word : Text) → is_flag word ≡ false → below (full name) (word ∷ []) ≡ []
unfolding clap_on_literals
full-one name [] plain = refl
full-one name (x ∷ xs) plain = simp plain

full-value : (name word : Text) → is_flag word ≡ false → value_in (full name) (word ∷ []) ≡ Some word
unfolding clap_on_literals
full-value name [] plain = refl
full-value name (x ∷ xs) plain = simp plain

full-two : (name word next : Text) (more : List Text) → is_flag word ≡ false → is_flag next ≡ false → below (full name) (word ∷ next ∷ more) ≡ kind.UnknownArgument ∷ []
unfolding clap_on_literals
full-two name [] [] more plain plain' = refl
full-two name [] (y ∷ ys) more plain plain' = simp plain'
full-two name (x ∷ xs) [] more plain plain' = simp plain
full-two name (x ∷ xs) (y ∷ ys) more plain plain' = simp (plain, plain')

-- a word that names no command
stray : (word : Text) (more : List Text) → is_flag word ≡ false → find (answers_to word) names ≡ None → fault_of program (word ∷ more) ≡ kind.UnknownArgument ∷ kind.InvalidSubcommand ∷ []
unfolding clap_on_literals
stray [] more plain none = refl
stray (x ∷ xs) more plain none = simp (plain, none)

no_word : fault_of program [] ≡ kind.MissingSubcommand ∷ []
unfolding clap_on_literals
no_word = refl

-- the name enters the command
record Enters (name : Text) (shape : Shape) : Type 0 where
  pub walked_is : walked [] names (walk_from nothing_held) name ≡ stopped_at name []
  pub turn_is : turn_fault (built program).top names (walk_from nothing_held) name ≡ []
  pub found_is : find (λ (s : Shape). answers_to name (label_of s)) (built program).subs ≡ Some shape

-- what is left to check behind the walk
abbrev behind : Walk → Kinds → Kinds
behind w faults = or_else faults (or_else (entered_fault (built program) w.stopped) (or_else (settle_fault (built program).top.rules (built program).top.args_override_self w.held)
    (or_else (defaults_fault (settled (built program).top.rules w.held).rows (built program).top.rules) (check_fault (built program).top (finished (built program).top.rules w.held) (is_some (entered (built program) w.stopped))))))

module _ (name : Text) (shape : Shape) (enters : Enters name shape) (rest : List Text) where
  whole : walk [] names nothing_held (name ∷ rest) ≡ stopped_at name rest
  whole = ap (λ w. fold (walked [] names) w rest) enters.walked_is ∙ rest-fold name [] rest

  no_fault : walk_fault (built program).top names (walk_from nothing_held) (name ∷ rest) ≡ []
  unfolding walk_fault
  no_fault = ap (λ ks. or_else ks (walk_fault (built program).top names (walked [] names (walk_from nothing_held) name) rest)) enters.turn_is
      ∙ (ap (λ w. walk_fault (built program).top names w rest) enters.walked_is ∙ rest-fault name [] rest)

  enters-fault : fault_of program (name ∷ rest) ≡ or_else (below shape rest) []
  unfolding defaults_fault
  enters-fault = ap₂ behind whole no_fault ∙ at (find (λ (s : Shape). answers_to name (label_of s)) (built program).subs) enters.found_is where
    at : (o : Option Shape) → o ≡ Some shape
        → or_else (option_map_or (λ (s : Shape). level_fault s [] nothing_held rest false []) o []) (or_else [] (or_else [] (check_fault (built program).top [] (is_some (option_map (λ (s : Shape). rows_at s rest) o)))))
        ≡ or_else (below shape rest) []
    at o is = rw is refl

  enters-subcommand : subcommand_of program (name ∷ rest) ≡ Some (shape.name, rows_after shape.rules [] rest)
  enters-subcommand = ap (λ (w : Walk). entered (built program) w.stopped) whole ∙ ap (option_map (λ (s : Shape). rows_at s rest)) enters.found_is

-- a command with its value
abbrev pub value_of : Text × List Row → Text × Option Text
value_of p = (p.0, first_of (codes "value") p.1)

-- the words are taken, with this value
pub record IsTaken (words : List Text) (word : Text) (value : Option Text) : Type 0 where
  pub free : fault_of program words ≡ []
  pub subcommand : option_map value_of (subcommand_of program words) ≡ Some (word, value)
  pub command : command_of words ≡ command_by word value

-- or they are none of the program's
pub record IsRefused (words : List Text) : Type 0 where
  pub faults : fault_of program words ≡ [] → ⊥
  pub none : command_of words ≡ None

abbrev pub Reads : List Text → Type 0
Reads words = ((word : Text) × (value : Option Text) × IsTaken words word value) ⊎ IsRefused words

some_fault : (ks : Kinds) (k : kind.the_data) (more : Kinds) → ks ≡ k ∷ more → or_else ks [] ≡ [] → ⊥
some_fault ks k more is none = absurd (let wrong : k ∷ more ≡ [] = ap (λ x. or_else x []) (sym is) ∙ none in cc)

-- no flag among the words
first_plain : (word : Text) (rest : List Text) → list_any is_flag (word ∷ rest) ≡ false → is_flag word ≡ false
first_plain word rest plain = by (is_flag word) plain where
  by : (b : Bool) → (b || list_any is_flag rest) ≡ false → b ≡ false
  by true e = e
  by false e = refl

rest_plain : (word : Text) (rest : List Text) → list_any is_flag (word ∷ rest) ≡ false → list_any is_flag rest ≡ false
rest_plain word rest plain = by (is_flag word) plain where
  by : (b : Bool) → (b || list_any is_flag rest) ≡ false → list_any is_flag rest ≡ false
  by true e = cc
  by false e = e

-- a command without a value
bare-reads : (name : Text) (rest : List Text) → Enters name (bare name) → list_any is_flag rest ≡ false → ((value : Text) → command_by name (Some value) ≡ None) → Reads (name ∷ rest)
bare-reads name [] enters plain none = inl (
  name,
  None,
  record {
    free = enters-fault name (bare name) enters [] ∙ ap (λ ks. or_else ks []) (bare-none name).0;
    subcommand = ap (option_map value_of) (enters-subcommand name (bare name) enters []) ∙ ap (λ v. Some (name, v)) (bare-none name).1;
    command = refl;
  },
)
bare-reads name (word ∷ more) enters plain none = inr (record {
  faults = λ free. some_fault (below (bare name) (word ∷ more)) kind.UnknownArgument [] (bare-one name word more (first_plain word more plain)) (sym (enters-fault name (bare name) enters (word ∷ more)) ∙ free);
  none = at more;
}) where
  at : (more : List Text) → command_of (name ∷ word ∷ more) ≡ None
  at [] = none word
  at (other ∷ others) = refl

-- a command with one
full-reads : (name : Text) (rest : List Text) → Enters name (full name) → list_any is_flag rest ≡ false → command_by name None ≡ None → Reads (name ∷ rest)
full-reads name [] enters plain none = inr (record {
  faults = λ free. some_fault (below (full name) []) kind.MissingRequiredArgument [] (full-none name) (sym (enters-fault name (full name) enters []) ∙ free);
  none = none;
})
full-reads name (word ∷ []) enters plain none =
    let own = first_plain word [] plain in inl (
      name,
      Some word,
      record {
        free = enters-fault name (full name) enters (word ∷ []) ∙ ap (λ ks. or_else ks []) (full-one name word own);
        subcommand = ap (option_map value_of) (enters-subcommand name (full name) enters (word ∷ [])) ∙ ap (λ v. Some (name, v)) (full-value name word own);
        command = refl;
      },
    )
full-reads name (word ∷ next ∷ more) enters plain none = inr (record {
  faults = λ free. some_fault (below (full name) (word ∷ next ∷ more)) kind.UnknownArgument []
      (full-two name word next more (first_plain word (next ∷ more) plain) (first_plain next more (rest_plain word (next ∷ more) plain)))
      (sym (enters-fault name (full name) enters (word ∷ next ∷ more)) ∙ free);
  none = refl;
})

run_enters : Enters (codes "run") (bare (codes "run"))
unfolding clap_on_literals
run_enters = record { walked_is = refl; turn_is = refl; found_is = refl }

replay_enters : Enters (codes "replay") (bare (codes "replay"))
unfolding clap_on_literals
replay_enters = record { walked_is = refl; turn_is = refl; found_is = refl }

check_enters : Enters (codes "check") (full (codes "check"))
unfolding clap_on_literals
check_enters = record { walked_is = refl; turn_is = refl; found_is = refl }

serve_enters : Enters (codes "serve") (bare (codes "serve"))
unfolding clap_on_literals
serve_enters = record { walked_is = refl; turn_is = refl; found_is = refl }

gcm_enters : Enters (codes "gcm") (bare (codes "gcm"))
unfolding clap_on_literals
gcm_enters = record { walked_is = refl; turn_is = refl; found_is = refl }

gen_enters : Enters (codes "gen") (full (codes "gen"))
unfolding clap_on_literals
gen_enters = record { walked_is = refl; turn_is = refl; found_is = refl }

work_enters : Enters (codes "work") (full (codes "work"))
unfolding clap_on_literals
work_enters = record { walked_is = refl; turn_is = refl; found_is = refl }

-- a word that no test finds
unknown : (word : Text) (rest : List Text) → is_flag word ≡ false → bytes_eq (codes "run") word ≡ false → bytes_eq (codes "replay") word ≡ false → bytes_eq (codes "check") word ≡ false
    → bytes_eq (codes "serve") word ≡ false → bytes_eq (codes "gcm") word ≡ false → bytes_eq (codes "gen") word ≡ false → bytes_eq (codes "work") word ≡ false → Reads (word ∷ rest)
unknown word rest plain run replay check serve gcm gen work = inr (record {
  faults = λ free. let wrong : kind.UnknownArgument ∷ kind.InvalidSubcommand ∷ [] ≡ [] = sym (stray word rest plain (simp (run, replay, check, serve, gcm, gen, work))) ∙ free in cc;
  none = at rest;
}) where
  at : (rest : List Text) → command_of (word ∷ rest) ≡ None
  at [] = simp (run, replay, serve, gcm)
  at (value ∷ []) = simp (check, gen, work)
  at (value ∷ other ∷ others) = refl

-- a word that is a name
named : (name word : Text) (rest : List Text) → bytes_eq name word ≡ true → Reads (name ∷ rest) → Reads (word ∷ rest)
named name word rest is reads = subst (λ (w : Text). Reads (w ∷ rest)) ((bytes_eq-Decides name word).0 is) reads

by_name : {A : Type 0} (b : Bool) → (b ≡ true → A) → (b ≡ false → A) → A
by_name true holds fails = holds refl
by_name false holds fails = fails refl

-- words without a flag are taken, or they are none of the program's
pub reads : (words : List Text) → list_any is_flag words ≡ false → Reads words
reads [] plain = inr (record { faults = λ free. let wrong : kind.MissingSubcommand ∷ [] ≡ [] = sym no_word ∙ free in cc; none = refl })
reads (word ∷ rest) plain =
    let others = rest_plain word rest plain in
    by_name (bytes_eq (codes "run") word) (λ is. named (codes "run") word rest is (bare-reads (codes "run") rest run_enters others (λ value. refl)))
    (λ run. by_name (bytes_eq (codes "replay") word) (λ is. named (codes "replay") word rest is (bare-reads (codes "replay") rest replay_enters others (λ value. refl)))
    (λ replay. by_name (bytes_eq (codes "check") word) (λ is. named (codes "check") word rest is (full-reads (codes "check") rest check_enters others refl))
    (λ check. by_name (bytes_eq (codes "serve") word) (λ is. named (codes "serve") word rest is (bare-reads (codes "serve") rest serve_enters others (λ value. refl)))
    (λ serve. by_name (bytes_eq (codes "gcm") word) (λ is. named (codes "gcm") word rest is (bare-reads (codes "gcm") rest gcm_enters others (λ value. refl)))
    (λ gcm. by_name (bytes_eq (codes "gen") word) (λ is. named (codes "gen") word rest is (full-reads (codes "gen") rest gen_enters others refl))
    (λ gen. by_name (bytes_eq (codes "work") word) (λ is. named (codes "work") word rest is (full-reads (codes "work") rest work_enters others refl))
    (λ work. unknown word rest (first_plain word rest plain) run replay check serve gcm gen work)))))))

-- the program is one whose matches and faults are known
simple : is_simple program ≡ true
unfolding clap_on_literals
simple = refl

free_of_rules : is_simple_and_free program ≡ true
unfolding clap_on_literals
free_of_rules = refl

-- where `clap` refuses the words, and not for want of memory, they are none of the program's
pub refused-none : (words : List Text) (app : App) (e : Error) → app ≡ program → list_any is_flag words ≡ false → (is_simple_and_free app ≡ true → HasKind (fault_of app words) e) → kind_of e ≢ kind.OutOfMemory → command_of words ≡ None
refused-none words app e is plain kinds why = ⊎_elim (λ taken. absurd (⊎_elim why (none taken.2.free) (kinds (ap is_simple_and_free is ∙ free_of_rules)))) (λ refused. refused.none) (reads words plain) where
  none : fault_of program words ≡ [] → IsAmong (kind_of e) (fault_of app words) → ⊥
  none free among = let at = ap (λ (a : App). fault_of a words) is ∙ free in let P : Kinds → Type 0 = IsAmong (kind_of e) in subst P at among

-- what a parse that took the words found
module _ (words : List Text) (app : App) (m : ArgMatches) (is : app ≡ program) (plain : list_any is_flag words ≡ false) (kinds : is_simple_and_free app ≡ true → fault_of app words ≡ []) (matches : HasMatchesOf app words m) where
  free : fault_of program words ≡ []
  free = ap (λ (a : App). fault_of a words) (sym is) ∙ kinds (ap is_simple_and_free is ∙ free_of_rules)

  found : subcommand_rows_of m ≡ subcommand_of program words
  found = (matches (ap is_simple is ∙ simple)).1 ∙ ap (λ (a : App). subcommand_of a words) is

  taken : (word : Text) × (value : Option Text) × IsTaken words word value
  taken = ⊎_elim (λ t. t) (λ refused. absurd (refused.faults free)) (reads words plain)

  -- it entered a command
  pub entered-some : is_some (subcommand_rows_of m) ≡ true
  entered-some = by (subcommand_rows_of m) (ap (option_map value_of) found ∙ taken.2.subcommand) where
    by : (o : Option (Text × List Row)) → option_map value_of o ≡ Some (taken.0, taken.1) → is_some o ≡ true
    by None e = absurd (let wrong : None ≡ Some (taken.0, taken.1) = e in cc)
    by (Some p) e = refl

  -- with its value
  pub entered-command : (word : Text) (rows : List Row) → subcommand_rows_of m ≡ Some (word, rows) → command_of words ≡ command_by word (first_of (codes "value") rows)
  entered-command word rows at =
      let same : Some (word, first_of (codes "value") rows) ≡ Some (taken.0, taken.1) = ap (option_map value_of) (sym at ∙ found) ∙ taken.2.subcommand in
      let word_is : taken.0 ≡ word = ap (λ (o : Option (Text × Option Text)). (unwrap_or o (taken.0, taken.1)).0) (sym same) in
      let value_is : taken.1 ≡ first_of (codes "value") rows = ap (λ (o : Option (Text × Option Text)). (unwrap_or o (taken.0, taken.1)).1) (sym same) in
      taken.2.command ∙ ap₂ command_by word_is value_is

-- the command by the parts that are read of it
pub found-rows : (m : ArgMatches) (word : Text) (rows : List Row) → Some word ≡ subcommand_name_of m → Some rows ≡ option_map (λ (p : Text × List Row). p.1) (subcommand_rows (out-ArgMatches m).subcommand) → subcommand_rows_of m ≡ Some (word, rows)
found-rows m word rows name at = by (subcommand_rows_of m) (name ∙ names-rows (out-ArgMatches m).subcommand) at where
  names-rows : (o : Option (Box SubCommand Global)) → option_map (λ b. (out-SubCommand (box_value b)).name.now) o ≡ option_map (λ (p : Text × List Row). p.0) (subcommand_rows o)
  names-rows None = refl
  names-rows (Some b) = refl

  by : (o : Option (Text × List Row)) → Some word ≡ option_map (λ (p : Text × List Row). p.0) o → Some rows ≡ option_map (λ (p : Text × List Row). p.1) o → o ≡ Some (word, rows)
  by None e e' = absurd (let wrong : Some word ≡ None = e in cc)
  by (Some p) e e' = let first : p.0 ≡ word = ap (λ (o : Option Text). unwrap_or o word) (sym e) in let second : p.1 ≡ rows = ap (λ (o : Option (List Row)). unwrap_or o rows) (sym e') in λ t. Some (first t, second t)
