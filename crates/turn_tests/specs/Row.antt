-- A row of counters, as a turnstile is told of it.
use Rattle.std.specs.Prelude.{◌≡◌, ℕ, ◌+◌, ◌<◌, List, [], ◌∷◌, length, option_to_list}
use Rattle.eleos_base.specs.Terms.{Terms}
use Rattle.eleos_base.specs.Ties.{Has, neither}
use Rattle.eleos_turn.specs.Hands.{HandState, Home}
use Rattle.turn_tests.specs.declared.counters.Counter.{Counter}
use Rattle.turn_tests.specs.declared.counters.Raise.{Raise}

-- the counters that an entry raises
abbrev pub raised : Raise → List ℕ
raised e = e.first ∷ option_to_list e.second

-- what the counters and their entries mean: each counter that an entry raises is 1 more after it
abbrev pub row : Terms Counter Raise ℕ (Unit {0})
row = record { part = λ c. c.count; blank = 0; nowhere = tt; who = λ e. e.by; foot = λ _ e. raised e; step = λ _ e b a. (c : ℕ) → Has c (raised e) → a c ≡ b c + 1; bare = λ _ _. []; tie = λ _ _. neither }

-- the hand may take turns in this row of two counters or more, and has none
pub record IsReady (hand : HandState Raise ℕ (Unit {0})) (home : Home ℕ (Unit {0})) : Type 0 where
  pub own : hand.home ≡ home
  pub cells : 1 < length home.base.opening
  pub idle : hand.turns ≡ []
  pub made : 0 < hand.number
