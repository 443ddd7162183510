-- One sub-page at an event, in plain values.
use Rattle.std.proofs.Common.{◌≡◌, ℕ, ◌+◌, List, Bool, true, false, not, ◌&&◌, ◌||◌, Option, Some, None, is_some, if◌then◌else◌, refl, sym, ◌∙◌, ap}
use Rattle.eleos_core.specs.Seals.{Seals, Opens}

-- c and w: the call covers it and writes it; p, d, g: it was present, dirty and sealed; n, b, l: its version, its bytes in the frame and its last block;
-- o: the block that came; t: the text that is sealed; z: the bytes of a blank sub-page; f: what a write does to a text
module _ (x : Seals) (opens : Opens x) (z : List ℕ) (s : ℕ) (f : List ℕ → List ℕ) where
  -- what its last block opens to
  abbrev pub of : Bool → ℕ → List ℕ → List ℕ
  of g n l = if g then x.unseal s n l else z

  -- a call changes the text that it covers or writes
  pub op_text : (c w p d g : Bool) (n : ℕ) (b l o : List ℕ) → (w ≡ true → p ≡ false → g ≡ true → o ≡ l)
      → (if c then z else if w then f (if p then b else of g n l) else if p then b else of g n l)
      ≡ (if p then if c then z else if w && p then f b else b
      else of (if c then false else if w && not p then true else g) (if w && not p then n + 1 else n) (if w && not p then x.seal s (n + 1) (f (of g n o)) else l))
  op_text true w true d g n b l o same = refl
  op_text true w false d g n b l o same = refl
  op_text false true true d g n b l o same = refl
  op_text false true false d true n b l o same = ap (λ (y : List ℕ). f (x.unseal s n y)) (sym (same refl refl refl)) ∙ sym (opens.unseals s (n + 1) (f (x.unseal s n o)))
  op_text false true false d false n b l o same = sym (opens.unseals s (n + 1) (f z))
  op_text false false true d g n b l o same = refl
  op_text false false false d g n b l o same = refl

  -- a clean sub-page in a frame is as it was sealed
  pub op_clean : (c w p d g : Bool) (n : ℕ) (b l t : List ℕ) → (d ≡ false → p ≡ true → b ≡ of g n l)
      → (if c || false then false else if w then p else d) ≡ false → p ≡ true
      → (if c then z else if w && p then f b else b) ≡ of (if c then false else if w && not p then true else g) (if w && not p then n + 1 else n) (if w && not p then x.seal s (n + 1) t else l)
  op_clean true w p d g n b l t clean e q = refl
  op_clean false true true d g n b l t clean e q = cc
  op_clean false true false d g n b l t clean e q = cc
  op_clean false false p d g n b l t clean e q = clean e q

  -- v: the evict takes the sub-page's page; u: its frame
  pub evict_text : (v d g : Bool) (u : Option ℕ) (n : ℕ) (b l t : List ℕ) → (v ≡ true → is_some u ≡ true) → (d ≡ false → is_some u ≡ true → b ≡ of g n l)
      → (if is_some u then b else of g n l)
      ≡ (if is_some (if v then None else u) then b
      else of (if (v && d) || false then true else g) (if (v && d) || false then n + 1 else n) (if (v && d) || false then x.seal s (n + 1) (if v then b else t) else l))
  evict_text true true g u n b l t there clean = ap (λ (q : Bool). if q then b else of g n l) (there refl) ∙ sym (opens.unseals s (n + 1) b)
  evict_text true false g u n b l t there clean = ap (λ (q : Bool). if q then b else of g n l) (there refl) ∙ clean refl (there refl)
  evict_text false d g u n b l t there clean = refl

  -- after an evict a clean sub-page in a frame is as it was sealed
  pub evict_clean : (v d g : Bool) (u : Option ℕ) (n : ℕ) (b l t : List ℕ) → (d ≡ false → is_some u ≡ true → b ≡ of g n l)
      → (if false || v then false else d) ≡ false → is_some (if v then None else u) ≡ true
      → b ≡ of (if (v && d) || false then true else g) (if (v && d) || false then n + 1 else n) (if (v && d) || false then x.seal s (n + 1) (if v then b else t) else l)
  evict_clean true d g u n b l t clean e q = cc
  evict_clean false d g u n b l t clean e q = clean e q

  -- v: the fill brings the sub-page's page into the frame h
  pub fill_text : (v g : Bool) (h : ℕ) (u : Option ℕ) (n : ℕ) (b l o : List ℕ) → (v ≡ true → u ≡ None) → (v ≡ true → g ≡ true → o ≡ l)
      → (if is_some u then b else of g n l) ≡ (if is_some (if v then Some h else u) then if v then of g n o else b else of g n l)
  fill_text true true h u n b l o away same = ap (λ (q : Option ℕ). if is_some q then b else x.unseal s n l) (away refl) ∙ ap (x.unseal s n) (sym (same refl refl))
  fill_text true false h u n b l o away same = ap (λ (q : Option ℕ). if is_some q then b else z) (away refl)
  fill_text false g h u n b l o away same = refl

  -- and so it is after a fill, where the block that came is the one last sealed
  pub fill_clean : (v d g : Bool) (h : ℕ) (u : Option ℕ) (n : ℕ) (b l o : List ℕ) → (v ≡ true → g ≡ true → o ≡ l) → (d ≡ false → is_some u ≡ true → b ≡ of g n l)
      → d ≡ false → is_some (if v then Some h else u) ≡ true → (if v then of g n o else b) ≡ of g n l
  fill_clean true d true h u n b l o same clean e q = ap (x.unseal s n) (same refl refl)
  fill_clean true d false h u n b l o same clean e q = refl
  fill_clean false d g h u n b l o same clean e q = clean e q
