-- A shard's slab is never full: it may have more blocks than the shard may have keys, and a block has an object of some key.
use Rattle.std.proofs.Common.{◌≡◌, ◌≢◌, ◌⊎◌, inl, inr, ⊎_elim, ℕ, zero, suc, ◌+◌, ◌<◌, ◌≤◌, List, [], ◌∷◌, length, map, get_or, Bool, true, false, cond, ◌||◌, nat_eq, eqb, Option, Some, None, refl, sym, ap, ◌∙◌, subst, arith, eq-eqb, eqb-true, ne_eqb}
use Rattle.std.specs.List.{IsDistinct, range_with_len}
use Rattle.std.specs.Map.{lookup}
use Rattle.std.specs.Set.{is_member}
use Rattle.std.specs.Str.{bytes_eq}
use Rattle.std.proofs.lemmas.Cmp.{nat_eq_equiv}
use Rattle.std.proofs.lemmas.List.{length-map}
use Rattle.std.proofs.lemmas.List.FromFn.{get_or-range_with_len, length-range_with_len}
use Rattle.std.proofs.lemmas.Map.Keys.{IsDistinct-from_apart}
use Rattle.std.proofs.lemmas.Map.Made.{length-le_from_is_member}
use Rattle.eleos_base.specs.Own.{Private}
use Rattle.eleos_sslab.specs.declared.slab.ObjId.{ObjId}
use Rattle.eleos_sslab.specs.declared.size.SlotSize.{SlotSize}
use Rattle.eleos_sslab.specs.Slabs.{IsFull, IsFullFor, block_at}
use Rattle.eleos_shard.specs.Keys.{Keys, id_of}
use Rattle.eleos_shard.specs.Shards.{IsShard, ShardState}
use Rattle.eleos_shard.proofs.Keyed.{some_id}

-- numbers in a row are distinct
apart_range : (a n i j d : ℕ) → i < j → j < length (range_with_len a n) → nat_eq (get_or (range_with_len a n) i d) (get_or (range_with_len a n) j d) ≡ false
apart_range a n i j d lt below =
    let long = length-range_with_len a n in
    let at_i = get_or-range_with_len a n i d (omega (arith, lt, below, long)) in
    let at_j = get_or-range_with_len a n j d (omega (arith, below, long)) in
    ne_eqb (get_or (range_with_len a n) i d) (get_or (range_with_len a n) j d) (λ e. absurd (omega (arith, e, at_i, at_j, lt)))

-- a number that is found in a row is one of it
true_of_eq : (a b : ℕ) → nat_eq a b ≡ true → a ≡ b
true_of_eq a b is = eqb-true a b is

in_range : (q a n : ℕ) → is_member nat_eq (range_with_len a n) q ≡ true → q < a + n
in_range q a zero is = cc
in_range q a (suc n) is = by (nat_eq q a) refl (in_range q (a + 1) n) is where
  by : (b : Bool) → nat_eq q a ≡ b → (is_member nat_eq (range_with_len (a + 1) n) q ≡ true → q < a + 1 + n) → (b || is_member nat_eq (range_with_len (a + 1) n) q) ≡ true → q < a + suc n
  by true e rest h = let same = true_of_eq q a e in omega (arith, same)
  by false e rest h = let below = rest h in omega (arith, below)

-- the block of each key's object
abbrev places : Keys → List ℕ
places keys = map (λ (e : List ℕ × ObjId). e.1.block) keys

-- that of a key which is found is among them
member : (keys : Keys) (key : List ℕ) (id : ObjId) → id_of keys key ≡ Some id → is_member nat_eq (places keys) id.block ≡ true
member [] key id e = cc
member (x ∷ xs) key id e = by (bytes_eq key x.0) e (member xs key id) where
  first : (a b : ObjId) → ◌≡◌ {A = Option ObjId} (Some a) (Some b) → nat_eq b.block a.block ≡ true
  first a b e = eq-eqb b.block a.block (sym (ap (λ (z : ObjId). z.block) (some_id a b e)))

  or_true : (t : Bool) → (t || true) ≡ true
  or_true true = refl
  or_true false = refl

  by : (t : Bool) → cond t (Some x.1) (id_of xs key) ≡ Some id → (id_of xs key ≡ Some id → is_member nat_eq (places xs) id.block ≡ true) → (nat_eq id.block x.1.block || is_member nat_eq (places xs) id.block) ≡ true
  by true e rest = ap (λ (t : Bool). t || is_member nat_eq (places xs) id.block) (first x.1 id e)
  by false e rest = ap (λ (t : Bool). nat_eq id.block x.1.block || t) (rest e) ∙ or_true (nat_eq id.block x.1.block)

module _ (p : Private) (s : ShardState) (is : IsShard p s) where
  -- the place of an object is that of a block with one
  used : (size : SlotSize) → IsFull s.blocks size → (q : ℕ) → is_member nat_eq (range_with_len 0 (length s.blocks)) q ≡ true → is_member nat_eq (places s.keys) q ≡ true
  used size full q found = let object = full.all_used q (let below = in_range q 0 (length s.blocks) found in omega (arith, below)) in let named = is.keyed.all (record { block = q; slot = object.0 }) object.1 in
      member s.keys named.0 (record { block = q; slot = object.0 }) named.1

  -- with an object in each block there would be as many keys as blocks
  pub never_full : (size : SlotSize) → IsFull s.blocks size → ⊥
  never_full size full =
      let distinct = IsDistinct-from_apart nat_eq (range_with_len 0 (length s.blocks)) (λ i j d lt below. apart_range 0 (length s.blocks) i j d lt below) in
      let most = length-le_from_is_member nat_eq_equiv (range_with_len 0 (length s.blocks)) (places s.keys) distinct (used size full) in
      let a = length-range_with_len 0 (length s.blocks) in let b = length-map s.keys (λ (e : List ℕ × ObjId). e.1.block) in let few = is.few in let many = is.many in
      absurd (omega (arith, most, a, b, few, many))

  pub never_full_for : (size : Option SlotSize) → IsFullFor s.blocks size → ⊥
  never_full_for None full = full
  never_full_for (Some size) full = never_full size full
