-- A history, what it made of each cell, and which links it left.
use Rattle.std.specs.Prelude.{◌≡◌, ℕ, ◌+◌, ◌-◌, ◌<◌, ◌≤◌, ◌==◌, ◌&&◌, List, [], ◌∷◌, map, cond, slice_index_or}
use Rattle.eleos_base.specs.declared.plot.Event.{Event}
use Rattle.eleos_base.specs.declared.plot.Base.{Base}
use Rattle.eleos_base.specs.Ties.{Tie, neither, adds, takes, Has}
use Rattle.eleos_base.specs.Terms.{Terms}

-- the part of each cell, where it was f before these were put
abbrev pub put : {Q : Type 0} → List (ℕ × Q) → (ℕ → Q) → ℕ → Q
put [] f c = f c
put (x ∷ xs) f c = cond (c == x.0) x.1 (put xs f c)

-- the part of each cell after the history, where it was f before
abbrev pub made_from : {D Q : Type 0} → (ℕ → Q) → List (Event D Q) → ℕ → Q
made_from f [] = f
made_from f (e ∷ es) = made_from (put e.kept f) es

-- how many links each hand has on each cell, where it was l before the hand w did this
abbrev pub tied_up : ℕ → Tie → (ℕ → ℕ → ℕ) → ℕ → ℕ → ℕ
tied_up w neither l k c = l k c
tied_up w (adds d) l k c = cond ((k == w) && (c == d)) (l k c + 1) (l k c)
tied_up w (takes d) l k c = cond ((k == w) && (c == d)) (l k c - 1) (l k c)

-- no hand has a link
abbrev pub no_link : ℕ → ℕ → ℕ
no_link k c = 0

module _ {C D Q G : Type 0} (t : Terms C D Q G) where
  -- the part of each cell when the turnstile was made
  abbrev pub opened : Base Q G → ℕ → Q
  opened b c = slice_index_or b.opening c t.blank

  -- what the history made of each cell
  abbrev pub made : Base Q G → List (Event D Q) → ℕ → Q
  made b h = made_from (opened b) h

  -- how many links each hand has on each cell after the history, where it had l before
  abbrev pub linked_from : G → (ℕ → ℕ → ℕ) → List (Event D Q) → ℕ → ℕ → ℕ
  linked_from g l [] = l
  linked_from g l (e ∷ es) = linked_from g (tied_up (t.who e.entry) (t.tie g e.entry) l) es

  -- how many links each hand has on each cell after the history
  abbrev pub linked : G → List (Event D Q) → ℕ → ℕ → ℕ
  linked g h = linked_from g no_link h

  -- the entry may follow where the parts are f and the links l: its kept cells are its foot, its step leaves the kept parts, bare cells have no link
  pub record MayFollow (g : G) (f : ℕ → Q) (l : ℕ → ℕ → ℕ) (e : Event D Q) : Type 0 where
    pub cells : map (λ k. k.0) e.kept ≡ t.foot g e.entry
    pub steps : t.step g e.entry f (put e.kept f)
    pub bare : (c : ℕ) → Has c (t.bare g e.entry) → (k : ℕ) → l k c ≡ 0
    pub there : (c : ℕ) → t.tie g e.entry ≡ takes c → 0 < l (t.who e.entry) c

  -- each entry may follow, where the parts are f and the links l before
  abbrev pub LegalFrom : G → (ℕ → Q) → (ℕ → ℕ → ℕ) → List (Event D Q) → Type 0
  LegalFrom g f l [] = Unit {0}
  LegalFrom g f l (e ∷ es) = MayFollow g f l e × LegalFrom g (put e.kept f) (tied_up (t.who e.entry) (t.tie g e.entry) l) es

  -- each entry may follow the ones before it
  abbrev pub Legal : Base Q G → List (Event D Q) → Type 0
  Legal b h = LegalFrom b.grounds (opened b) no_link h

  -- each entry is of a hand that was made
  abbrev pub Signed : ℕ → List (Event D Q) → Type 0
  Signed n [] = Unit {0}
  Signed n (e ∷ es) = ((0 < t.who e.entry) × (t.who e.entry ≤ n)) × Signed n es
