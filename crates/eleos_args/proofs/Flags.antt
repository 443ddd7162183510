-- No command has a word that begins with a hyphen.
use Rattle.std.proofs.Common.{◌≡◌, ℕ, ◌==◌, ◌&&◌, ◌||◌, List, [], ◌∷◌, length, slice_index, Bool, true, false, not, nat_le, Option, Some, None, option_map, map, codes, if◌then◌else◌, refl, sym, ◌∙◌, ap, ap₂, subst, arith}
use Rattle.std.specs.List.{list_all, list_any}
use Rattle.std.specs.Char.{is_ascii_digit}
use Rattle.std.proofs.lemmas.Bool.Decides.{nat_tests}
use Rattle.eleos_texts.specs.Fields.{is, is_numeral, is_up_to, number, number_up_to}
use Rattle.eleos_args.specs.declared.command.Command.{Command}
use Rattle.eleos_args.specs.Commands.{check_command, command_of, is_flag, most_u64, single_command, valued_command}

hyphen : (c : ℕ) → (c == 45) ≡ true → 45 ≡ c
hyphen c holds = grind (arith, nat_tests)

no_numeral : (a b : Bool) → (a && b && false) ≡ false
no_numeral true true = refl
no_numeral true false = refl
no_numeral false b = refl

number-none : (xs : List ℕ) → number_up_to most_u64 (45 ∷ xs) ≡ None
number-none xs = ap (λ v. if v && is_up_to most_u64 (45 ∷ xs) then Some (number (45 ∷ xs)) else None) (no_numeral (nat_le 1 (length (45 ∷ xs))) (length (45 ∷ xs) == 1 || not (slice_index (45 ∷ xs) 0 == 48)))

all_none : (a b d : Bool) → (if a then None else if b then None else if d then None else None) ≡ (let none : Option Command = None in none)
all_none true b d = refl
all_none false true d = refl
all_none false false true = refl
all_none false false false = refl

valued-none : (word xs : List ℕ) → valued_command word (45 ∷ xs) ≡ None
valued-none word xs = ap (λ o. if is word (codes "check") then None else if is word (codes "gen") then option_map (λ n. Command.Gen n) o else if is word (codes "work") then option_map (λ n. Command.Work n) o else None) (number-none xs)
    ∙ all_none (is word (codes "check")) (is word (codes "gen")) (is word (codes "work"))

single-flag : (word : List ℕ) → is_flag word ≡ true → single_command word ≡ None
single-flag [] flag = cc
single-flag (x ∷ xs) flag = subst (λ (c : ℕ). single_command (c ∷ xs) ≡ None) (hyphen x flag) refl

named-flag : (word value : List ℕ) → is_flag word ≡ true → valued_command word value ≡ None
named-flag [] value flag = cc
named-flag (x ∷ xs) value flag = subst (λ (c : ℕ). valued_command (c ∷ xs) value ≡ None) (hyphen x flag) refl

valued-flag : (word value : List ℕ) → is_flag value ≡ true → valued_command word value ≡ None
valued-flag word [] flag = cc
valued-flag word (x ∷ xs) flag = subst (λ (c : ℕ). valued_command word (c ∷ xs) ≡ None) (hyphen x flag) (valued-none word xs)

-- words with a flag are none of the program's
pub flag-none : (words : List (List ℕ)) → list_any is_flag words ≡ true → command_of words ≡ None
flag-none [] flag = cc
flag-none (word ∷ []) flag = by (is_flag word) refl where
  by : (b : Bool) → is_flag word ≡ b → single_command word ≡ None
  by true holds = single-flag word holds
  by false fails = absurd (let wrong : false ≡ true = ap (λ b. b || false) (sym fails) ∙ flag in cc)
flag-none (word ∷ value ∷ []) flag = by (is_flag word) refl (is_flag value) refl where
  by : (b : Bool) → is_flag word ≡ b → (b' : Bool) → is_flag value ≡ b' → valued_command word value ≡ None
  by true holds b' is' = named-flag word value holds
  by false fails true holds = valued-flag word value holds
  by false fails false fails' = absurd (let wrong : false ≡ true = ap₂ (λ a b. a || (b || false)) (sym fails) (sym fails') ∙ flag in cc)
flag-none (word ∷ value ∷ other ∷ others) flag = refl
