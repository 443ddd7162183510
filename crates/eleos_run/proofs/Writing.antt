-- Lines that are written one after another, and the entries that they tell.
use Rattle.std.proofs.Common.{◌≡◌, ℕ, ◌++◌, Bool, List, [], ◌∷◌, map, Option, Some, None, Vec, refl, sym, ap, ◌∙◌, arith, append_assoc, append-nil}
use Rattle.std.specs.declared.alloc.Global.{Global}
use Rattle.std.proofs.lemmas.List.{map-append}
use Rattle.eleos_balloon.specs.declared.went.Went.{Went}
use Rattle.eleos_balloon.specs.Steps.{all_entries, evict_entries, move_entry, went_entries}
use Rattle.eleos_core.specs.Parts.{Made}
use Rattle.eleos_meaning.specs.Told.{Told, line_of, made_in}
use Rattle.eleos_report.specs.declared.line.LogLine.{LogLine}
use Rattle.eleos_swap.specs.declared.evicts.Evicted.{Evicted}
use Rattle.eleos_swap.specs.Evicts.{entry_of}
use Rattle.eleos_trace.specs.declared.word.Actor.{Actor}
use Rattle.eleos_run.specs.Surveys.{Writes, all_told, evict_told, page_told, went_told}
use Rattle.eleos_run.proofs.Tellings.{made_append}

-- nothing was written
pub writes_none : (actor : Actor) (lines : Vec LogLine Global) → Writes actor [] lines lines
writes_none actor lines = record { lines = sym (append-nil lines.items); room = omega arith }

-- more was written
pub writes_more : (actor : Actor) (xs ys : List Told) (a b c : Vec LogLine Global) → Writes actor xs a b → Writes actor ys b c → Writes actor (xs ++ ys) a c
writes_more actor xs ys a b c first next = record {
  lines = next.lines ∙ (ap (λ (z : List LogLine). z ++ map (line_of actor) ys) first.lines ∙ (append_assoc a.items (map (line_of actor) xs) (map (line_of actor) ys) ∙ ap (λ (z : List LogLine). a.items ++ z) (sym (map-append (line_of actor) xs ys))));
  room = let one = first.room in let two = next.room in omega (arith, one, two);
}

-- evicts tell just their entries
pub evicts_made : (number : ℕ) (evicted : List Evicted) → made_in (map (evict_told number) evicted) ≡ map (entry_of number) evicted
evicts_made number [] = refl
evicts_made number (one ∷ evicted) = ap (λ (z : List Made). entry_of number one ∷ z) (evicts_made number evicted)

page_made : (number : ℕ) (page : Option Evicted) → made_in (page_told number page) ≡ evict_entries number page
page_made number None = refl
page_made number (Some one) = refl

went_made : (number : ℕ) (gets : Bool) (e : ℕ) (went : Went) → made_in (went_told number gets e went) ≡ went_entries number gets e went
went_made number gets e went = made_append (page_told number went.evicted) _ ∙ ap (λ (z : List Made). z ++ move_entry number gets e went ∷ []) (page_made number went.evicted)

-- so do frames that went
pub all_made : (number : ℕ) (gets : Bool) (e : ℕ) (went : List Went) → made_in (all_told number gets e went) ≡ all_entries number gets e went
all_made number gets e [] = refl
all_made number gets e (one ∷ went) = made_append (went_told number gets e one) (all_told number gets e went) ∙ (λ i. went_made number gets e one i ++ all_made number gets e went i)

-- one frame more
pub told_more : (number : ℕ) (gets : Bool) (e : ℕ) (went : List Went) (one : Went) → all_told number gets e (went ++ one ∷ []) ≡ all_told number gets e went ++ went_told number gets e one
told_more number gets e [] one = append-nil (went_told number gets e one)
told_more number gets e (first ∷ went) one = ap (λ (z : List Told). went_told number gets e first ++ z) (told_more number gets e went one) ∙ sym (append_assoc (went_told number gets e first) (all_told number gets e went) (went_told number gets e one))
