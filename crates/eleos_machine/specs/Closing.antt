-- Why a machine is not closed, and what a closed one leaves.
use Rattle.std.specs.Prelude.{◌≡◌, ℕ, ◌+◌, ◌*◌, ◌≤◌, List, [], ◌∷◌, length, map, Bool, not, ◌==◌, ◌&&◌, ◌||◌, Option, Some, None, option_map, if◌then◌else◌}
use Rattle.std.specs.List.{find, list_all, list_any, range_with_len}
use Rattle.eleos_core.specs.Parts.{Part, Stamp}
use Rattle.eleos_plot.specs.declared.plot.Ground.{Ground}
use Rattle.eleos_plot.specs.Terms.{core_terms}
use Rattle.eleos_turn.specs.Closings.{AllBegin, AllOwn, left_of}
use Rattle.eleos_turn.specs.Hands.{HandState, links}
use Rattle.eleos_machine.specs.declared.closing.CloseWhy.{CloseWhy}
use Rattle.eleos_machine.specs.declared.closing.CloseWhy.TheVariants.{Missing, Foreign, Linked, Held}
use Rattle.eleos_machine.specs.Machines.{Site}
use Rattle.eleos_machine.specs.Passes.{IsLawful, PassState}

-- one of the passes has the number n
abbrev pub has_number : ℕ → List PassState → Bool
has_number n ss = list_any (λ (s : PassState). s.hand.number == n) ss

-- all n passes that were made are among these
abbrev pub has_all : ℕ → List PassState → Bool
has_all n ss = list_all (λ i. has_number (i + 1) ss) (range_with_len 0 n)

-- a pass is among these that was not made, or there are too many
abbrev pub has_foreign : ℕ → List PassState → Bool
has_foreign n ss = not (length ss == n) || has_number 0 ss

-- the pass has a link, or a turn
abbrev pub has_link : PassState → Bool
has_link s = not (s.hand.number == 0) && not (length (links core_terms s.hand) == 0)

-- the pass has the turn of some cell
abbrev pub has_turn : PassState → Bool
has_turn s = not (length s.hand.turns == 0)

-- the number of the first pass of which this holds
abbrev pub first_with : (PassState → Bool) → List PassState → Option ℕ
first_with test ss = option_map (λ (s : PassState). s.hand.number) (find test ss)

-- a pass has a link; else a pass has a turn
abbrev pub idle_fault : Option ℕ → List PassState → Option CloseWhy
idle_fault (Some who) ss = Some (Linked who)
idle_fault None ss = option_map Held (first_with has_turn ss)

-- why a machine of n passes is not closed with these
abbrev pub close_fault : ℕ → List PassState → Option CloseWhy
close_fault n ss = if has_all n ss then (if has_foreign n ss then Some Foreign else idle_fault (first_with has_link ss) ss) else Some Missing

-- the hands of these passes
abbrev pub hands_of : List PassState → List (HandState Stamp Part Ground)
hands_of ss = map (λ (s : PassState). s.hand) ss

-- all passes are of this machine
abbrev pub AllOfMachine : Site → List PassState → Type 0
AllOfMachine z [] = Unit {0}
AllOfMachine z (s ∷ ss) = (s.hand.home ≡ z) × AllOfMachine z ss

-- the machine was closed with these passes: this one has seen the whole history, in which each of them made just the entries that it had seen
pub record HasClosed (z : Site) (ss : List PassState) (s : PassState) : Type 0 where
  pub home : s.hand.home ≡ z
  pub number : s.hand.number ≡ 0
  pub lawful : IsLawful s
  pub begins : AllBegin s.hand.seen (hands_of ss)
  pub own : AllOwn core_terms s.hand.seen (hands_of ss)
  pub room : length s.hand.seen + left_of (hands_of ss) ≤ z.base.hands * z.base.each
