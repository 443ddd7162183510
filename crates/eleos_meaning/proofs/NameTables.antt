-- A table of names with one more name, or one more address.
use Rattle.std.proofs.Common.{◌≡◌, ℕ, List, [], ◌∷◌, Bool, true, false, Option, Some, None, IsTrue, is_some, Vec, Global, refl, sym, ◌∙◌, ap, cond, arith}
use Rattle.std.specs.Ordering.{nat_cmp, is_eq, match_ordering}
use Rattle.std.specs.Cmp.Lexicographic.{slice_cmp}
use Rattle.std.specs.declared.cmp.Ordering.{Ordering}
use Rattle.std.specs.declared.cmp.Ordering.TheVariants.{Less, Equal, Greater}
use Rattle.std.specs.FinSet as set
use Rattle.std.specs.Str.{bytes_eq}
use Rattle.std.proofs.lemmas.Slice.Eq.{bytes_eq-Decides}
use Rattle.std.proofs.lemmas.Map.Text.{is_eq-slice_cmp}
use Rattle.std.specs.BTreeMap.{insert_entry}
use Rattle.std.specs.Map.{set_value}
use Rattle.eleos_base.specs.declared.memory.Addr.{Addr}
use Rattle.eleos_meaning.specs.NameTable.{Rooms, is_room, known, known_in, room_of}
use Rattle.eleos_meaning.specs.Names.{is_same, with_name}

same_texts : set.IsAntisymmetric (slice_cmp nat_cmp)
same_texts = set.slice_cmp-IsAntisymmetric set.nat_cmp-IsAntisymmetric

equal_of : (o : Ordering) → is_eq o ≡ true → o ≡ Equal
equal_of Less is = cc
equal_of Equal is = refl
equal_of Greater is = cc

same_of : (a b : List ℕ) → is_same a b ≡ true → a ≡ b
same_of a b is = same_texts a b (equal_of (slice_cmp nat_cmp a b) is)

twice : {A : Type 0} (b : Bool) (x y z : A) → cond b x y ≡ cond b x (cond b z y)
twice true x y z = refl
twice false x y z = refl

swapped : {A : Type 0} (a b : Bool) (x y z : A) → (a ≡ true → b ≡ true → ⊥) → cond a x (cond b y z) ≡ cond b y (cond a x z)
swapped true true x y z apart = absurd (apart refl refl)
swapped true false x y z apart = refl
swapped false b x y z apart = refl

-- two keys that one text is equal to are not apart
not_apart : (q k e : List ℕ) → slice_cmp nat_cmp k e ≡ Greater → is_same q e ≡ true → is_same q k ≡ true → ⊥
not_apart q k e apart first second =
    let same : q ≡ k = same_of q k second in
    let tie : slice_cmp nat_cmp q e ≡ Equal = equal_of (slice_cmp nat_cmp q e) first in
    let wrong : Equal ≡ Greater = sym tie ∙ ap (λ x. slice_cmp nat_cmp x e) same ∙ apart in cc

abbrev texts_cmp : Vec ℕ Global → Vec ℕ Global → Ordering
texts_cmp x y = slice_cmp nat_cmp x.items y.items

-- with one more entry its name has its value, and the others keep theirs
pub room-insert : (es : Rooms) (k : Vec ℕ Global) (v : Option Addr) (q : List ℕ) → room_of (insert_entry texts_cmp es k v) q ≡ cond (is_same q k.items) (Some v) (room_of es q)
room-insert [] k v q = refl
room-insert (e ∷ es) k v q = by (slice_cmp nat_cmp k.items e.0.items) refl (room-insert es k v q) where
  new : Rooms
  new = insert_entry texts_cmp es k v

  by : (o : Ordering) → slice_cmp nat_cmp k.items e.0.items ≡ o → room_of new q ≡ cond (is_same q k.items) (Some v) (room_of es q)
      → room_of (match_ordering o ((k, v) ∷ e ∷ es) ((e.0, v) ∷ es) (e ∷ insert_entry texts_cmp es k v)) q ≡ cond (is_same q k.items) (Some v) (cond (is_same q e.0.items) (Some e.1) (room_of es q))
  by Less is inner = refl
  by Equal is inner = rw (same_texts k.items e.0.items is) (twice (is_same q e.0.items) (Some v) _ (Some e.1))
  by Greater is inner = ap (λ found. cond (is_same q e.0.items) (Some e.1) found) inner
      ∙ swapped (is_same q e.0.items) (is_same q k.items) (Some e.1) (Some v) _ (not_apart q k.items e.0.items is)

-- with another value at a name that has room
pub room-set : (es : Rooms) (k : List ℕ) (w : Option Addr) (q : List ℕ) → IsTrue (is_room es k) → room_of (set_value (λ name. is_same k name.items) es w) q ≡ cond (is_same q k) (Some w) (room_of es q)
room-set [] k w q has = absurd (clash has) where
  clash : false ≡ true → ⊥
  clash e = cc
room-set (e ∷ es) k w q has = by (is_same k e.0.items) refl (is_same q k) refl has (room-set es k w q) where
  by : (b : Bool) → is_same k e.0.items ≡ b → (c : Bool) → is_same q k ≡ c → is_some (cond b (Some e.1) (room_of es k)) ≡ true
      → (is_some (room_of es k) ≡ true → room_of (set_value (λ name. is_same k name.items) es w) q ≡ cond (is_same q k) (Some w) (room_of es q))
      → room_of (cond b ((e.0, w) ∷ es) (e ∷ set_value (λ name. is_same k name.items) es w)) q ≡ cond c (Some w) (cond (is_same q e.0.items) (Some e.1) (room_of es q))
  by true is c same has inner =
      let at : is_same q e.0.items ≡ c = ap (is_same q) (sym (same_of k e.0.items is)) ∙ same in
      ap (λ b. cond b (Some w) (room_of es q)) at ∙ (twice c (Some w) (room_of es q) (Some e.1) ∙ sym (ap (λ b. cond c (Some w) (cond b (Some e.1) (room_of es q))) at))
  by false apart c is has inner = ap (λ found. cond (is_same q e.0.items) (Some e.1) found) (inner has ∙ ap (λ b. cond b (Some w) (room_of es q)) is)
      ∙ swapped (is_same q e.0.items) c (Some e.1) (Some w) (room_of es q) (λ first second. let same : q ≡ k = same_of q k (is ∙ second) in
      let wrong : true ≡ false = sym first ∙ (ap (λ x. is_same x e.0.items) same ∙ apart) in cc)

cond_known : (b : Bool) (v : Option Addr) (x : Option (Option Addr)) → known (cond b (Some v) x) ≡ cond b v (known x)
cond_known true v x = refl
cond_known false v x = refl

cond_some : (b : Bool) (v : Option Addr) (x : Option (Option Addr)) → is_some x ≡ true → is_some (cond b (Some v) x) ≡ true
cond_some true v x some = refl
cond_some false v x some = some

cond_none : (b : Bool) (x : Option (Option Addr)) → (b ≡ true → x ≡ None) → known (cond b (Some None) x) ≡ known x
cond_none true x none = sym (ap known (none refl))
cond_none false x none = refl

cond_same : (b : Bool) (v : Option Addr) (x : Option (Option Addr)) → (b ≡ true → is_some x ≡ true) → is_some (cond b (Some v) x) ≡ is_some x
cond_same true v x some = sym (some refl)
cond_same false v x some = refl

-- a name that has its address from the start on
pub names-insert : (es : Rooms) (k : Vec ℕ Global) (at : Addr) → known_in (insert_entry texts_cmp es k (Some at)) ≡ with_name k.items at (known_in es)
names-insert es k at i q = (ap known (room-insert es k (Some at) q) ∙ cond_known (is_same q k.items) (Some at) (room_of es q)) i

-- a name that gets room
pub names-reserve : (es : Rooms) (k : Vec ℕ Global) → room_of es k.items ≡ None → known_in (insert_entry texts_cmp es k None) ≡ known_in es
names-reserve es k none i q = (ap known (room-insert es k None q) ∙ cond_none (is_same q k.items) (room_of es q) (λ is. ap (room_of es) (same_of q k.items is) ∙ none)) i

-- a name that has room keeps it when another gets room
pub room-kept : (es : Rooms) (k : Vec ℕ Global) (v : Option Addr) (q : List ℕ) → IsTrue (is_room es q) → IsTrue (is_room (insert_entry texts_cmp es k v) q)
room-kept es k v q has = ap is_some (room-insert es k v q) ∙ cond_some (is_same q k.items) v (room_of es q) has

-- a name with room that gets an address
pub names-set : (es : Rooms) (k : List ℕ) (at : Addr) → IsTrue (is_room es k) → known_in (set_value (λ name. is_same k name.items) es (Some at)) ≡ with_name k at (known_in es)
names-set es k at has i q = (ap known (room-set es k (Some at) q has) ∙ cond_known (is_same q k) (Some at) (room_of es q)) i

-- an address that is set changes nothing in which names have room
pub rooms-set : (es : Rooms) (k : List ℕ) (v : Option Addr) (q : List ℕ) → IsTrue (is_room es k) → is_room (set_value (λ name. is_same k name.items) es v) q ≡ is_room es q
rooms-set es k v q has = ap is_some (room-set es k v q has) ∙ cond_same (is_same q k) v (room_of es q) (λ is. ap (λ x. is_some (room_of es x)) (same_of q k is) ∙ has)

-- a text is the same as itself
pub is_same-refl : (a : List ℕ) → is_same a a ≡ true
is_same-refl a = is_eq-slice_cmp a a ∙ eq_self a where
  eq_self : (xs : List ℕ) → bytes_eq xs xs ≡ true
  eq_self xs = grind (arith, bytes_eq-Decides xs xs)
