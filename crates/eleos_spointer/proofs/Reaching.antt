-- Steps of a pass one after another, with the entries that it made.
use Rattle.std.proofs.Common.{◌≡◌, ℕ, List, [], ◌∷◌, ◌++◌, length, refl, sym, ◌∙◌, ap, subst, append_assoc, append-nil}
use Rattle.eleos_base.specs.declared.plot.Event.{Event}
use Rattle.eleos_base.specs.Ties.{Has}
use Rattle.eleos_core.specs.Parts.{Made, Part, Stamp}
use Rattle.eleos_core.specs.State.{History}
use Rattle.eleos_plot.specs.Histories.{history_after, history_of}
use Rattle.eleos_plot.specs.Terms.{core_terms}
use Rattle.eleos_turn.specs.Hands.{Goes}
use Rattle.eleos_turn.specs.Numbers.{less_one}
use Rattle.eleos_turn.proofs.Clients.{goes_given, goes_same, goes_trans}
use Rattle.eleos_machine.specs.Machines.{Site}
use Rattle.eleos_machine.specs.Notes.{Sweep}
use Rattle.eleos_machine.specs.Passes.{IsLawful, PassState, gave, seen}
use Rattle.eleos_clock.specs.Searches.{Searches}
use Rattle.eleos_pages.specs.Entered.{Enters}
use Rattle.eleos_pages.proofs.Ending.{lawful_gave}
use Rattle.eleos_spointer.specs.Reached.{Reaches, Stands}

-- what was seen then stands behind what is seen now
history_append : (past : History) (xs ys : List (Event Stamp Part)) → history_after past (xs ++ ys) ≡ history_after (history_after past xs) ys
history_append past [] ys = refl
history_append past (x ∷ xs) ys = history_append (x.entry.entry ∷ past) xs ys

history_more : (past : History) (es : List (Event Stamp Part)) → (more : History) × (history_after past es ≡ more ++ past)
history_more past [] = ([], refl)
history_more past (e ∷ es) = let rest = history_more (e.entry.entry ∷ past) es in (rest.0 ++ e.entry.entry ∷ [], rest.1 ∙ sym (append_assoc rest.0 (e.entry.entry ∷ []) past))

-- the history that a pass has seen grows in front
pub seen_on : (s s' : PassState) (made : List Made) → Goes core_terms s.hand s'.hand made → (more : History) × (seen s' ≡ more ++ seen s)
seen_on s s' made goes = let rest = history_more (seen s) goes.more in (rest.0, ap history_of goes.sees ∙ (history_append [] s.hand.seen goes.more ∙ rest.1))

-- an entry stands where more is seen
abbrev pub stands_on : (z : Site) (all all' : History) (one : Made) → (more : History) × (all' ≡ more ++ all) → Stands z all one → Stands z all' one
stands_on z all all' one more is = record {
  past = is.past;
  place = is.place;
  later = more.0 ++ is.later;
  behind = more.1 ∙ (ap (λ h. more.0 ++ h) is.behind ∙ sym (append_assoc more.0 is.later (one.1.entry ∷ is.past)));
  legal = is.legal;
}

-- one part after another
pub reaches_then : (s s' s'' : PassState) (xs ys : List Made) (held' held : List ℕ) → Reaches s xs held' s' → Reaches s' ys held s'' → Reaches s (xs ++ ys) held s''
reaches_then s s' s'' xs ys held' held a b = record {
  goes = goes_trans core_terms s.hand s'.hand s''.hand xs ys a.goes b.goes;
  turns = b.turns;
  pins = b.pins ∙ a.pins;
  links = λ c. b.links c ∙ a.links c;
  pointers = b.pointers ∙ a.pointers;
  lawful = b.lawful;
}

-- a search made nothing
pub reaches_searched : (s s' : PassState) (held : List ℕ) → Searches s s' → s'.hand.turns ≡ held → IsLawful s' → Reaches s [] held s'
reaches_searched s s' held did turns law = record {
  goes = did.goes;
  turns = turns;
  pins = did.pins;
  links = did.links;
  pointers = did.pointers;
  lawful = law;
}

-- one entry
pub reaches_entered : (s s' : PassState) (d : Stamp) (held : List ℕ) (e : Enters s d held s') → IsLawful s' → Reaches s ((length e.past, d) ∷ []) held s'
reaches_entered s s' d held e law = record {
  goes = e.goes;
  turns = e.turns;
  pins = e.pins;
  links = e.links;
  pointers = ap (λ (y : PassState). y.pointers) e.rest;
  lawful = law;
}

-- it stands where it was stamped
abbrev pub stands_entered : (s s' : PassState) (d : Stamp) (held : List ℕ) (e : Enters s d held s') → Stands s.hand.home (seen s') (length e.past, d)
stands_entered s s' d held e = record { past = e.past; place = refl; later = []; behind = e.sees; legal = e.legal }

-- a turn was given back
pub reaches_gave : (s s' : PassState) (made : List Made) (held : List ℕ) (c : ℕ) → Has c s'.hand.turns → Reaches s made held s' → Reaches s made (less_one c held) (gave s' c)
reaches_gave s s' made held c has a = record {
  goes = subst (Goes core_terms s.hand (gave s' c).hand) (append-nil made) (goes_trans core_terms s.hand s'.hand (gave s' c).hand made [] a.goes (goes_given core_terms c s'.hand (gave s' c).hand refl));
  turns = ap (less_one c) a.turns;
  pins = a.pins;
  links = a.links;
  pointers = a.pointers;
  lawful = lawful_gave s' c a.lawful has;
}

-- the notes of a pass are no part of what it reaches
pub lawful_noted : (s : PassState) (w : Sweep) → IsLawful s → IsLawful (record s { sweep = w })
lawful_noted s w law = record { machine = law.machine; hand = law.hand; run = law.run }

pub reaches_noted : (s : PassState) (w : Sweep) (s' : PassState) (made : List Made) (held : List ℕ) → Reaches (record s { sweep = w }) made held s' → Reaches s made held s'
reaches_noted s w s' made held a = record { goes = a.goes; turns = a.turns; pins = a.pins; links = a.links; pointers = a.pointers; lawful = a.lawful }

-- nothing was done
pub reaches_same : (s : PassState) → IsLawful s → Reaches s [] s.hand.turns s
reaches_same s law = record { goes = goes_same core_terms s.hand; turns = refl; pins = refl; links = λ c. refl; pointers = refl; lawful = law }
