-- What cells and entries mean.
use Rattle.std.specs.Prelude.{◌≡◌, ℕ, List}
use Rattle.eleos_base.specs.Ties.{Tie, Has}

-- what cells and entries mean: C is a cell, D an entry, Q the part of a cell that the history fixes, G the ground
pub record Terms (C D Q G : Type 0) : Type 1 where
  -- all of a cell that the history fixes
  pub part : C → Q
  -- the part of a number that no cell has
  pub blank : Q
  -- it stands where there is no turnstile
  pub nowhere : G
  -- the hand that may stamp the entry
  pub who : D → ℕ
  -- the cells that it touches
  pub foot : G → D → List ℕ
  -- of what never changes, and of the parts of the foot before and after
  pub step : G → D → (ℕ → Q) → (ℕ → Q) → Type 0
  -- the cells of the foot on which nobody may have a link
  pub bare : G → D → List ℕ
  -- the link that it adds or takes
  pub tie : G → D → Tie

-- a step reads and changes the parts of its foot alone
abbrev pub IsLocal : {C D Q G : Type 0} → Terms C D Q G → Type 0
IsLocal {C} {D} {Q} {G} t = (g : G) (e : D) (b a b' a' : ℕ → Q) → ((c : ℕ) → Has c (t.foot g e) → (b' c ≡ b c) × (a' c ≡ a c)) → t.step g e b a → t.step g e b' a'
