-- Look-ups in a table of keys, by the bytes of a key.
use Rattle.std.proofs.Common.{◌≡◌, ◌≢◌, ◌⊎◌, inl, inr, ℕ, List, [], ◌∷◌, length, Bool, true, false, cond, Option, Some, None, Vec, Global, refl, sym, ap, ◌∙◌, subst}
use Rattle.std.proofs.lemmas.List.{length-map}
use Rattle.std.proofs.lemmas.Slice.Eq.{bytes_eq-Decides}
use Rattle.std.specs.Map.{KeepsOthers, lookup, update}
use Rattle.std.specs.Str.{bytes_eq}
use Rattle.eleos_sslab.specs.declared.slab.ObjId.{ObjId}
use Rattle.eleos_shard.specs.Keys.{id_of, named}

-- texts that pass the test are one
pub same_of : (a b : List ℕ) → bytes_eq a b ≡ true → a ≡ b
same_of a b is = (bytes_eq-Decides a b).0 is

pub same_self : (a : List ℕ) → bytes_eq a a ≡ true
same_self a = (bytes_eq-Decides a a).1 refl

not_true : (b : Bool) → (b ≡ true → ⊥) → b ≡ false
not_true true never = absurd (never refl)
not_true false never = refl

pub not_same : (a b : List ℕ) → a ≢ b → bytes_eq a b ≡ false
not_same a b ne = not_true (bytes_eq a b) (λ is. ne (same_of a b is))

-- the entries of a table
abbrev pub Entries : Type 0
Entries = List (Vec ℕ Global × ObjId)

-- the key has these bytes
abbrev pub is_text : List ℕ → Vec ℕ Global → Bool
is_text q key = bytes_eq q key.items

abbrev pub keys_eq : Vec ℕ Global → Vec ℕ Global → Bool
keys_eq x y = bytes_eq x.items y.items

pub id-named : (q : List ℕ) (es : Entries) → id_of (named es) q ≡ lookup (is_text q) es
id-named q [] = refl
id-named q (e ∷ es) = ap (λ (z : Option ObjId). cond (bytes_eq q e.0.items) (Some e.1) z) (id-named q es)

pub length-named : (es : Entries) → length (named es) ≡ length es
length-named es = length-map es (λ (e : Vec ℕ Global × ObjId). (e.0.items, e.1))

-- a text is found nowhere, or some key has it
found : (q : List ℕ) (es : Entries) → (lookup (is_text q) es ≡ None) ⊎ ((k : Vec ℕ Global) × (k.items ≡ q))
found q [] = inl refl
found q (e ∷ es) = by (bytes_eq q e.0.items) refl (found q es) where
  by : (b : Bool) → bytes_eq q e.0.items ≡ b → (lookup (is_text q) es ≡ None) ⊎ ((k : Vec ℕ Global) × (k.items ≡ q)) → (cond b (Some e.1) (lookup (is_text q) es) ≡ None) ⊎ ((k : Vec ℕ Global) × (k.items ≡ q))
  by true is rest = inr (e.0, sym (same_of q e.0.items is))
  by false is rest = rest

-- tables that answer the same to each key answer the same to each text
pub same_by_text : (m n : Entries) → ((k : Vec ℕ Global) → lookup (keys_eq k) n ≡ lookup (keys_eq k) m) → (q : List ℕ) → lookup (is_text q) n ≡ lookup (is_text q) m
same_by_text m n same q = by (found q m) (found q n) where
  there : (k : Vec ℕ Global) → k.items ≡ q → lookup (is_text q) n ≡ lookup (is_text q) m
  there k e = subst (λ (z : List ℕ). lookup (is_text z) n ≡ lookup (is_text z) m) e (same k)

  by : (lookup (is_text q) m ≡ None) ⊎ ((k : Vec ℕ Global) × (k.items ≡ q)) → (lookup (is_text q) n ≡ None) ⊎ ((k : Vec ℕ Global) × (k.items ≡ q)) → lookup (is_text q) n ≡ lookup (is_text q) m
  by (inr f) g = there f.0 f.1
  by (inl none) (inr g) = there g.0 g.1
  by (inl none) (inl none') = none' ∙ sym none

-- a key that has another text is apart
apart_texts : (bs q : List ℕ) → bytes_eq bs q ≡ false → (k : Vec ℕ Global) → bytes_eq bs k.items ≡ true → bytes_eq q k.items ≡ false
apart_texts bs q differ k is = not_true (bytes_eq q k.items) (λ same. let e : bs ≡ q = same_of bs k.items is ∙ sym (same_of q k.items same) in
    let clash : true ≡ false = sym (same_self bs) ∙ (ap (bytes_eq bs) e ∙ differ) in cc)

-- a table that answers w at one text and the same at the others
pub updated : (bs : List ℕ) (m n : Entries) (w : Option ObjId) → lookup (is_text bs) n ≡ w → KeepsOthers keys_eq (is_text bs) m n → (q : List ℕ) → lookup (is_text q) n ≡ update bytes_eq (λ (z : List ℕ). lookup (is_text z) m) bs w q
unfolding KeepsOthers
updated bs m n w here others q = by (bytes_eq bs q) refl where
  by : (b : Bool) → bytes_eq bs q ≡ b → lookup (is_text q) n ≡ cond b w (lookup (is_text q) m)
  by true is = ap (λ (z : List ℕ). lookup (is_text z) n) (sym (same_of bs q is)) ∙ here
  by false is = others (is_text q) (λ x y passes. ap (λ (z : List ℕ). bytes_eq z y.items) (same_of q x.items passes)) (apart_texts bs q is)

-- so it is of the keys by their names
pub ids_updated : (bs : List ℕ) (m n : Entries) (w : Option ObjId) → lookup (is_text bs) n ≡ w → KeepsOthers keys_eq (is_text bs) m n → (q : List ℕ) → id_of (named n) q ≡ update bytes_eq (id_of (named m)) bs w q
ids_updated bs m n w here others q = id-named q n ∙ (updated bs m n w here others q ∙ ap (λ (z : Option ObjId). cond (bytes_eq bs q) w z) (sym (id-named q m)))

pub ids_same : (m n : Entries) → ((k : Vec ℕ Global) → lookup (keys_eq k) n ≡ lookup (keys_eq k) m) → (q : List ℕ) → id_of (named n) q ≡ id_of (named m) q
ids_same m n same q = id-named q n ∙ (same_by_text m n same q ∙ sym (id-named q m))

-- the answer at the text itself, and at another one
pub update_here : {X : Type 0} (f : List ℕ → Option X) (key : List ℕ) (w : Option X) → update bytes_eq f key w key ≡ w
update_here f key w = ap (λ (b : Bool). cond b w (f key)) (same_self key)

pub update_else : {X : Type 0} (f : List ℕ → Option X) (key : List ℕ) (w : Option X) (q : List ℕ) → key ≢ q → update bytes_eq f key w q ≡ f q
update_else f key w q ne = ap (λ (b : Bool). cond b w (f q)) (not_same key q ne)

-- two texts are one or not
pub cases_text : (a b : List ℕ) → (a ≡ b) ⊎ (a ≢ b)
cases_text a b = by (bytes_eq a b) refl where
  by : (t : Bool) → bytes_eq a b ≡ t → (a ≡ b) ⊎ (a ≢ b)
  by true is = inl (same_of a b is)
  by false is = inr (λ e. let clash : true ≡ false = sym (same_self a) ∙ (ap (bytes_eq a) e ∙ is) in cc)
