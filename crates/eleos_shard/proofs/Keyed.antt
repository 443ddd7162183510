-- Each key has an object of its own, whatever is added, replaced or removed.
use Rattle.std.proofs.Common.{◌≡◌, ◌≢◌, ◌⊎◌, inl, inr, ⊎_elim, ℕ, ◌≤◌, List, Option, Some, None, refl, sym, ap, ◌∙◌, subst, arith}
use Rattle.std.specs.Map.{update}
use Rattle.std.specs.Str.{bytes_eq}
use Rattle.std.proofs.lemmas.Bool.{cases_eq}
use Rattle.eleos_sslab.specs.declared.block.SlabBlock.{SlabBlock}
use Rattle.eleos_sslab.specs.declared.slab.ObjId.{ObjId}
use Rattle.eleos_sslab.specs.Slabs.{IsHeld, len_of}
use Rattle.eleos_sslab.proofs.Lengths.{same_id}
use Rattle.eleos_shard.specs.Keys.{IsKeyed, Keys, id_of}
use Rattle.eleos_shard.proofs.Texts.{cases_text, update_else, update_here}

-- two ids are one or not
pub cases_id : (a b : ObjId) → (a ≡ b) ⊎ (a ≢ b)
cases_id a b = ⊎_elim
    (λ (e : a.block ≡ b.block). ⊎_elim
    (λ (f : a.slot ≡ b.slot). inl (same_id a b e f))
    (λ (d : a.slot ≢ b.slot). inr (λ (s : a ≡ b). d (ap (λ (x : ObjId). x.slot) s)))
    (cases_eq a.slot b.slot))
    (λ (d : a.block ≢ b.block). inr (λ (s : a ≡ b). d (ap (λ (x : ObjId). x.block) s)))
    (cases_eq a.block b.block)

-- some id is one
abbrev id_or : ObjId → Option ObjId → ObjId
id_or other None = other
id_or other (Some id) = id

pub some_id : (a b : ObjId) → ◌≡◌ {A = Option ObjId} (Some a) (Some b) → a ≡ b
some_id a b e = ap (id_or a) e

none_is_none : (a : ObjId) → ◌≡◌ {A = Option ObjId} None (Some a) → ⊥
none_is_none a e = cc

-- an object that is not there
not_held : (blocks : List SlabBlock) (id : ObjId) → len_of blocks id ≡ 0 → IsHeld blocks id → ⊥
not_held blocks id none held = absurd (omega (arith, none, held))

held_by : (blocks blocks' : List SlabBlock) (id : ObjId) → len_of blocks' id ≡ len_of blocks id → IsHeld blocks id → IsHeld blocks' id
held_by blocks blocks' id e held = omega (arith, e, held)

held_before : (blocks blocks' : List SlabBlock) (id : ObjId) → len_of blocks' id ≡ len_of blocks id → IsHeld blocks' id → IsHeld blocks id
held_before blocks blocks' id e held = omega (arith, e, held)

-- the same keys over the same objects
pub keyed_same : (keys keys' : Keys) (blocks : List SlabBlock) → ((q : List ℕ) → id_of keys' q ≡ id_of keys q) → IsKeyed keys blocks → IsKeyed keys' blocks
keyed_same keys keys' blocks same k = record {
  held = λ key id e. k.held key id (sym (same key) ∙ e);
  own = λ key other id e f. k.own key other id (sym (same key) ∙ e) (sym (same other) ∙ f);
  all = λ id held. let a = k.all id held in (a.0, same a.0 ∙ a.1);
}

module _ (keys keys' : Keys) (blocks blocks' : List SlabBlock) (key : List ℕ) (k : IsKeyed keys blocks) where
  module _ (w : Option ObjId) (new : (q : List ℕ) → id_of keys' q ≡ update bytes_eq (id_of keys) key w q) where
    at_key : id_of keys' key ≡ w
    at_key = new key ∙ update_here (id_of keys) key w

    at_else : (q : List ℕ) → key ≢ q → id_of keys' q ≡ id_of keys q
    at_else q ne = new q ∙ update_else (id_of keys) key w q ne

  -- a key that had no object has one now
  module _ (id : ObjId) (none : id_of keys key ≡ None) (new : (q : List ℕ) → id_of keys' q ≡ update bytes_eq (id_of keys) key (Some id) q) (free : len_of blocks id ≡ 0) (there : IsHeld blocks' id) (lens : (o : ObjId) → o ≢ id → len_of blocks' o ≡ len_of blocks o) where
    old_held : (o : ObjId) → IsHeld blocks o → o ≢ id
    old_held o held e = not_held blocks id free (subst (IsHeld blocks) e held)

    held_here : (q : List ℕ) (o : ObjId) → id_of keys' q ≡ Some o → (key ≡ q) ⊎ (key ≢ q) → IsHeld blocks' o
    held_here q o e (inl same) = subst (IsHeld blocks') (some_id id o (sym (at_key (Some id) new) ∙ (ap (id_of keys') same ∙ e))) there
    held_here q o e (inr ne) = let before = k.held q o (sym (at_else (Some id) new q ne) ∙ e) in held_by blocks blocks' o (lens o (old_held o before)) before

    -- another key's object is another one
    other_one : (q : List ℕ) (o : ObjId) → key ≢ q → id_of keys' q ≡ Some o → id_of keys' key ≡ Some o → ⊥
    other_one q o ne e f = let before = k.held q o (sym (at_else (Some id) new q ne) ∙ e) in old_held o before (sym (some_id id o (sym (at_key (Some id) new) ∙ f)))

    own_here : (q r : List ℕ) (o : ObjId) → id_of keys' q ≡ Some o → id_of keys' r ≡ Some o → (key ≡ q) ⊎ (key ≢ q) → (key ≡ r) ⊎ (key ≢ r) → q ≡ r
    own_here q r o e f (inl a) (inl b) = sym a ∙ b
    own_here q r o e f (inl a) (inr b) = absurd (other_one r o b f (ap (id_of keys') a ∙ e))
    own_here q r o e f (inr a) (inl b) = absurd (other_one q o a e (ap (id_of keys') b ∙ f))
    own_here q r o e f (inr a) (inr b) = k.own q r o (sym (at_else (Some id) new q a) ∙ e) (sym (at_else (Some id) new r b) ∙ f)

    key_of_old : (o : ObjId) → IsHeld blocks o → (q : List ℕ) × (id_of keys' q ≡ Some o)
    key_of_old o held = let a = k.all o held in (a.0, at_else (Some id) new a.0 (λ (same : key ≡ a.0). none_is_none o (sym none ∙ (ap (id_of keys) same ∙ a.1))) ∙ a.1)

    all_here : (o : ObjId) → IsHeld blocks' o → (o ≡ id) ⊎ (o ≢ id) → (q : List ℕ) × (id_of keys' q ≡ Some o)
    all_here o held (inl e) = (key, at_key (Some id) new ∙ ap (λ (x : ObjId). Some x) (sym e))
    all_here o held (inr ne) = key_of_old o (held_before blocks blocks' o (lens o ne) held)

    pub keyed_added : IsKeyed keys' blocks'
    keyed_added = record {
      held = λ q o e. held_here q o e (cases_text key q);
      own = λ q r o e f. own_here q r o e f (cases_text key q) (cases_text key r);
      all = λ o held. all_here o held (cases_id o id);
    }

  -- a key has another object, or the same one with other bytes
  module _ (was id : ObjId) (before : id_of keys key ≡ Some was) (new : (q : List ℕ) → id_of keys' q ≡ update bytes_eq (id_of keys) key (Some id) q) (fresh : id ≢ was → len_of blocks id ≡ 0) (there : IsHeld blocks' id)
      (gone : id ≢ was → len_of blocks' was ≡ 0) (lens : (o : ObjId) → o ≢ was → o ≢ id → len_of blocks' o ≡ len_of blocks o) where
    -- another key's object is neither of the two
    not_was : (q : List ℕ) (o : ObjId) → key ≢ q → id_of keys q ≡ Some o → o ≢ was
    not_was q o ne e same = ne (k.own key q was before (e ∙ ap (λ (x : ObjId). Some x) same))

    not_id : (q : List ℕ) (o : ObjId) → key ≢ q → id_of keys q ≡ Some o → o ≢ id
    not_id q o ne e same = ⊎_elim
        (λ (s : id ≡ was). not_was q o ne e (same ∙ s))
        (λ (d : id ≢ was). not_held blocks id (fresh d) (subst (IsHeld blocks) same (k.held q o e)))
        (cases_id id was)

    held_still : (q : List ℕ) (o : ObjId) → id_of keys' q ≡ Some o → (key ≡ q) ⊎ (key ≢ q) → IsHeld blocks' o
    held_still q o e (inl same) = subst (IsHeld blocks') (some_id id o (sym (at_key (Some id) new) ∙ (ap (id_of keys') same ∙ e))) there
    held_still q o e (inr ne) = let old : id_of keys q ≡ Some o = sym (at_else (Some id) new q ne) ∙ e in held_by blocks blocks' o (lens o (not_was q o ne old) (not_id q o ne old)) (k.held q o old)

    other_still : (q : List ℕ) (o : ObjId) → key ≢ q → id_of keys' q ≡ Some o → id_of keys' key ≡ Some o → ⊥
    other_still q o ne e f = not_id q o ne (sym (at_else (Some id) new q ne) ∙ e) (sym (some_id id o (sym (at_key (Some id) new) ∙ f)))

    own_still : (q r : List ℕ) (o : ObjId) → id_of keys' q ≡ Some o → id_of keys' r ≡ Some o → (key ≡ q) ⊎ (key ≢ q) → (key ≡ r) ⊎ (key ≢ r) → q ≡ r
    own_still q r o e f (inl a) (inl b) = sym a ∙ b
    own_still q r o e f (inl a) (inr b) = absurd (other_still r o b f (ap (id_of keys') a ∙ e))
    own_still q r o e f (inr a) (inl b) = absurd (other_still q o a e (ap (id_of keys') b ∙ f))
    own_still q r o e f (inr a) (inr b) = k.own q r o (sym (at_else (Some id) new q a) ∙ e) (sym (at_else (Some id) new r b) ∙ f)

    old_still : (o : ObjId) → o ≢ was → IsHeld blocks o → (q : List ℕ) × (id_of keys' q ≡ Some o)
    old_still o ne held = let a = k.all o held in
        (a.0, at_else (Some id) new a.0 (λ (same : key ≡ a.0). ne (sym (some_id was o (sym before ∙ (ap (id_of keys) same ∙ a.1))))) ∙ a.1)

    all_still : (o : ObjId) → IsHeld blocks' o → (o ≡ id) ⊎ (o ≢ id) → (o ≡ was) ⊎ (o ≢ was) → (q : List ℕ) × (id_of keys' q ≡ Some o)
    all_still o held (inl e) w = (key, at_key (Some id) new ∙ ap (λ (x : ObjId). Some x) (sym e))
    all_still o held (inr ne) (inl e) = absurd (not_held blocks' was (gone (λ (s : id ≡ was). ne (e ∙ sym s))) (subst (IsHeld blocks') e held))
    all_still o held (inr ne) (inr nw) = old_still o nw (held_before blocks blocks' o (lens o nw ne) held)

    pub keyed_set : IsKeyed keys' blocks'
    keyed_set = record {
      held = λ q o e. held_still q o e (cases_text key q);
      own = λ q r o e f. own_still q r o e f (cases_text key q) (cases_text key r);
      all = λ o held. all_still o held (cases_id o id) (cases_id o was);
    }

    -- the objects of the other keys, for what is said of their bytes
    pub others_set : (q : List ℕ) (o : ObjId) → key ≢ q → id_of keys q ≡ Some o → (o ≢ was) × (o ≢ id)
    others_set q o ne e = (not_was q o ne e, not_id q o ne e)

  -- a key has no object any more
  module _ (was : ObjId) (before : id_of keys key ≡ Some was) (new : (q : List ℕ) → id_of keys' q ≡ update bytes_eq (id_of keys) key None q) (gone : len_of blocks' was ≡ 0) (lens : (o : ObjId) → o ≢ was → len_of blocks' o ≡ len_of blocks o) where
    pub others_removed : (q : List ℕ) (o : ObjId) → key ≢ q → id_of keys q ≡ Some o → o ≢ was
    others_removed q o ne e same = ne (k.own key q was before (e ∙ ap (λ (x : ObjId). Some x) same))

    -- a key that has one is another key
    other_key : (q : List ℕ) (o : ObjId) → id_of keys' q ≡ Some o → key ≢ q
    other_key q o e same = none_is_none o (sym (at_key None new) ∙ (ap (id_of keys') same ∙ e))

    old_key : (q : List ℕ) (o : ObjId) → id_of keys' q ≡ Some o → id_of keys q ≡ Some o
    old_key q o e = sym (at_else None new q (other_key q o e)) ∙ e

    held_left : (q : List ℕ) (o : ObjId) → id_of keys' q ≡ Some o → IsHeld blocks' o
    held_left q o e = let old = old_key q o e in held_by blocks blocks' o (lens o (others_removed q o (other_key q o e) old)) (k.held q o old)

    all_left : (o : ObjId) → IsHeld blocks' o → (o ≡ was) ⊎ (o ≢ was) → (q : List ℕ) × (id_of keys' q ≡ Some o)
    all_left o held (inl e) = absurd (not_held blocks' was gone (subst (IsHeld blocks') e held))
    all_left o held (inr ne) = let a = k.all o (held_before blocks blocks' o (lens o ne) held) in
        (a.0, at_else None new a.0 (λ (same : key ≡ a.0). ne (sym (some_id was o (sym before ∙ (ap (id_of keys) same ∙ a.1))))) ∙ a.1)

    pub keyed_removed : IsKeyed keys' blocks'
    keyed_removed = record {
      held = held_left;
      own = λ q r o e f. k.own q r o (old_key q o e) (old_key r o f);
      all = λ o held. all_left o held (cases_id o was);
    }
