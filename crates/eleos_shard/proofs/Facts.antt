-- The values and places of a shard, by its keys and objects.
use Rattle.std.proofs.Common.{◌≡◌, ◌≢◌, ◌⊎◌, inl, inr, ⊎_elim, ℕ, ◌≤◌, List, length, Bool, true, false, cond, Option, Some, None, option_map, refl, sym, ap, ◌∙◌, subst, arith}
use Rattle.std.proofs.lemmas.List.{length-map}
use Rattle.std.proofs.lemmas.Map.Made.{lookup-map_values}
use Rattle.std.specs.Map.{update}
use Rattle.std.specs.Str.{bytes_eq}
use Rattle.eleos_base.specs.Own.{Private}
use Rattle.eleos_base.specs.SubMemory.{MemoryState, owned}
use Rattle.eleos_sslab.specs.declared.block.SlabBlock.{SlabBlock}
use Rattle.eleos_sslab.specs.declared.slab.ObjId.{ObjId}
use Rattle.eleos_sslab.specs.Slabs.{IsHeld, address_of, len_of, object}
use Rattle.eleos_shard.specs.Keys.{Keys, id_of}
use Rattle.eleos_shard.specs.Maps.{Values}
use Rattle.eleos_shard.specs.Shards.{Place, ShardState, count_of, facts_of, place_at, place_of, places_of, text_in, values_of}
use Rattle.eleos_shard.proofs.Texts.{same_of, same_self}

-- the place of a key's value is that of its object
pub place_known : (s : ShardState) (q : List ℕ) → place_at (places_of s) q ≡ option_map (place_of s.blocks) (id_of s.keys q)
place_known s q = lookup-map_values (place_of s.blocks) (bytes_eq q) s.keys

pub count_known : (s : ShardState) → length (places_of s) ≡ length s.keys
count_known s = length-map s.keys (λ (e : List ℕ × ObjId). (e.0, place_of s.blocks e.1))

module _ {O : Type 0} where
  -- the value of a key is what its object has
  pub value_known : (m : MemoryState O) (s : ShardState) (q : List ℕ) → values_of (facts_of m s) q ≡ option_map (object (owned m) s.blocks) (id_of s.keys q)
  value_known m s q = ap (option_map (text_in m.calls)) (place_known s q) ∙ twice (id_of s.keys q) where
    twice : (o : Option ObjId) → option_map (text_in m.calls) (option_map (place_of s.blocks) o) ≡ option_map (object (owned m) s.blocks) o
    twice None = refl
    twice (Some id) = refl

-- what is so of the objects of some keys is so of the keys
mapped : {A B : Type 0} (f g : A → B) (o : Option A) → ((x : A) → o ≡ Some x → f x ≡ g x) → option_map f o ≡ option_map g o
mapped f g None same = refl
mapped f g (Some x) same = ap (λ y. Some y) (same x refl)

-- places are one where their parts are
same_place : (blocks blocks' : List SlabBlock) (id : ObjId) → address_of blocks' id ≡ address_of blocks id → len_of blocks' id ≡ len_of blocks id → place_of blocks' id ≡ place_of blocks id
same_place blocks blocks' id a l i = record { at = a i; len = l i }

-- keys by which nothing changed
module _ {O : Type 0} (m m' : MemoryState O) (s s' : ShardState) where
  -- the key has the object that it had, with its bytes and where it lay
  pub value_same : (q : List ℕ) → id_of s'.keys q ≡ id_of s.keys q → ((o : ObjId) → id_of s.keys q ≡ Some o → object (owned m') s'.blocks o ≡ object (owned m) s.blocks o) → values_of (facts_of m' s') q ≡ values_of (facts_of m s) q
  value_same q ids same = value_known m' s' q ∙ (ap (option_map (object (owned m') s'.blocks)) ids
      ∙ (mapped (object (owned m') s'.blocks) (object (owned m) s.blocks) (id_of s.keys q) same ∙ sym (value_known m s q)))

  pub place_same : (q : List ℕ) → id_of s'.keys q ≡ id_of s.keys q → ((o : ObjId) → id_of s.keys q ≡ Some o → address_of s'.blocks o ≡ address_of s.blocks o) → ((o : ObjId) → id_of s.keys q ≡ Some o → len_of s'.blocks o ≡ len_of s.blocks o)
      → place_at (places_of s') q ≡ place_at (places_of s) q
  place_same q ids ats lens = place_known s' q ∙ (ap (option_map (place_of s'.blocks)) ids
      ∙ (mapped (place_of s'.blocks) (place_of s.blocks) (id_of s.keys q) (λ o e. same_place s.blocks s'.blocks o (ats o e) (lens o e)) ∙ sym (place_known s q)))

  -- where one key was changed, and the others were not, the values are those of an update
  pub values_updated : (key : List ℕ) (w : Option (List ℕ)) → values_of (facts_of m' s') key ≡ w → ((q : List ℕ) → key ≢ q → values_of (facts_of m' s') q ≡ values_of (facts_of m s) q)
      → (q : List ℕ) → values_of (facts_of m' s') q ≡ update bytes_eq (values_of (facts_of m s)) key w q
  values_updated key w here others q = by (bytes_eq key q) refl where
    by : (b : Bool) → bytes_eq key q ≡ b → values_of (facts_of m' s') q ≡ cond b w (values_of (facts_of m s) q)
    by true is = ap (values_of (facts_of m' s')) (sym (same_of key q is)) ∙ here
    by false is = others q (λ (e : key ≡ q). let clash : false ≡ true = sym is ∙ (ap (bytes_eq key) (sym e) ∙ same_self key) in cc)
