-- A command is served: what it leaves of its shard.
use Rattle.std.proofs.Common.{◌≡◌, ◌≢◌, ◌⊎◌, inl, inr, ⊎_elim, ℕ, ◌+◌, ◌-◌, ◌<◌, ◌≤◌, List, [], ◌∷◌, ◌++◌, length, Bool, true, false, Option, Some, None, IsSome, is_some, option_map, Result, Ok, Err, refl, sym, ap, ◌∙◌, subst, arith, append-nil}
use Rattle.std.specs.Map.{update}
use Rattle.std.specs.Str.{bytes_eq}
use Rattle.eleos_base.specs.declared.memory.Addr.{Addr}
use Rattle.eleos_base.specs.declared.memory.Op.TheVariants as ops
use Rattle.eleos_base.specs.declared.memory.Reply.{Reply}
use Rattle.eleos_base.specs.declared.memory.Reply.TheVariants as replies
use Rattle.eleos_base.specs.declared.refusals.AccessRefused.{AccessRefused}
use Rattle.eleos_base.specs.declared.refusals.AccessRefused.TheVariants as accesses
use Rattle.eleos_base.specs.Answers.{access_refusal_reply}
use Rattle.eleos_base.specs.Own.{Said}
use Rattle.eleos_base.specs.SubMemory.{HasMade, IsReadFault, MemoryState, owned}
use Rattle.eleos_kvwire.specs.declared.trace.KvAct.{KvAct}
use Rattle.eleos_kvwire.specs.declared.trace.KvAct.TheVariants.{Set, Get, Delete, Stat}
use Rattle.eleos_kvwire.specs.Sessions.{key_of}
use Rattle.eleos_sslab.specs.declared.block.SlabBlock.{SlabBlock}
use Rattle.eleos_sslab.specs.declared.slab.ObjId.{ObjId}
use Rattle.eleos_sslab.specs.declared.slab.SlabRefused.{SlabRefused}
use Rattle.eleos_sslab.specs.declared.slab.SlabRefused.TheVariants as slabs
use Rattle.eleos_sslab.specs.Blocks.{HasObject}
use Rattle.eleos_sslab.specs.Calls.{FreesEmpty, HasReplaced, HasStored, KeepsObjects, free_of}
use Rattle.eleos_sslab.specs.Slabs.{IsHeld, IsSlab, KeepsOthers, address_of, block_at, len_of, object}
use Rattle.eleos_sslab.proofs.Calling.{range_as}
use Rattle.eleos_base.proofs.OwnMemory.{length-text_at}
use Rattle.eleos_shard.specs.declared.reply.KvReply.{KvReply}
use Rattle.eleos_shard.specs.declared.reply.KvReply.TheVariants.{Stored, Full, NoSpace, Worn, Tampered, Value, Missing, Deleted, Size}
use Rattle.eleos_shard.specs.Keys.{IsKeyed, Keys, id_of}
use Rattle.eleos_shard.specs.Maps.{IsFull, MayAnswer, MaySet, Values, after_act, count_after, count_stored, moves}
use Rattle.eleos_shard.specs.Shards.{IsShard, Place, ShardState, count_of, facts_of, place_at, place_of, places_of, values_of}
use Rattle.eleos_shard.specs.Steps.{HasServed, IsPiece, IsRead, IsSetRefusal, Tell, get_refusal, set_refusal, size_of}
use Rattle.eleos_shard.proofs.Facts.{count_known, place_known, place_same, value_known, value_same, values_updated}
use Rattle.eleos_shard.proofs.Keyed.{keyed_added, keyed_removed, keyed_same, keyed_set, others_removed, others_set}
use Rattle.eleos_shard.proofs.Pieces.{RefusedBy, StoredBy, free_piece, no_piece, read_piece}
use Rattle.eleos_shard.proofs.Texts.{same_self, update_else, update_here}

-- a shard with these blocks and keys
abbrev pub shard_with : List SlabBlock → Keys → ShardState
shard_with blocks keys = record { blocks = blocks; keys = keys }

-- nothing was called
pub made_nothing : {O : Type 0} (m : MemoryState O) → HasMade m [] m
made_nothing m = record { origin = refl; calls = sym (append-nil m.calls); left = omega arith }

-- a command with this reply leaves all values, and where they lie
pub record KeepsAll (act : KvAct) (reply : KvReply) : Type 0 where
  pub values : (v : Values) (q : List ℕ) → after_act act reply v q ≡ v q
  pub count : (here : Option (List ℕ)) (n : ℕ) → count_after act reply here n ≡ n

module _ {O : Type 0} (m m' : MemoryState O) (s : ShardState) (is : IsShard (owned m) s) where
  -- the shard keeps its blocks, its keys and the bytes of its objects
  module _ (keys' : Keys) (ids : (q : List ℕ) → id_of keys' q ≡ id_of s.keys q) (count : length keys' ≡ length s.keys) (kept : KeepsObjects (owned m) s.blocks (owned m')) (slab : IsSlab (owned m') s.blocks) where
    after : ShardState
    after = shard_with s.blocks keys'

    values_kept : (q : List ℕ) → values_of (facts_of m' (shard_with s.blocks keys')) q ≡ values_of (facts_of m s) q
    values_kept q = value_same m m' s (shard_with s.blocks keys') q (ids q) (λ o e. kept o)

    places_kept : (q : List ℕ) → place_at (places_of (shard_with s.blocks keys')) q ≡ place_at (places_of s) q
    places_kept q = place_same m m' s (shard_with s.blocks keys') q (ids q) (λ o e. refl) (λ o e. refl)

    shard_kept : IsShard (owned m') (shard_with s.blocks keys')
    shard_kept = record { slab = slab; many = is.many; keyed = keyed_same s.keys keys' s.blocks ids is.keyed; few = (let a = is.few in omega (arith, a, count)) }

    pub served_kept : (act : KvAct) (reply : KvReply) (piece : List Said) → HasMade m piece m' → IsPiece piece → KeepsAll act reply → MayAnswer act reply (values_of (facts_of m s) (key_of act)) (count_of (facts_of m s))
        → Tell act reply (facts_of m s) (facts_of m' (shard_with s.blocks keys')) piece → HasServed m s act reply m' (shard_with s.blocks keys')
    served_kept act reply piece made shape keeps may tells = record {
      serves = record {
        piece = piece;
        calls = made.calls;
        left = made.left;
        shape = shape;
        tells = tells;
        may = may;
        values = λ q. values_kept q ∙ sym (keeps.values (values_of (facts_of m s)) q);
        count = count_known (shard_with s.blocks keys') ∙ (count ∙ (sym (count_known s) ∙ sym (keeps.count (values_of (facts_of m s) (key_of act)) (count_of (facts_of m s)))));
        places = λ q e. places_kept q;
      };
      origin = made.origin;
      shard = shard_kept;
    }

-- what a set that was refused leaves
set_keeps : (key value : List ℕ) (why : SlabRefused) → IsSetRefusal why → KeepsAll (Set key value) (set_refusal why)
set_keeps key value slabs.NoSpace may = record { values = λ v q. refl; count = λ here n. refl }
set_keeps key value (slabs.Access (accesses.Worn sub)) may = record { values = λ v q. refl; count = λ here n. refl }
set_keeps key value (slabs.Access (accesses.Tampered sub)) may = record { values = λ v q. refl; count = λ here n. refl }
set_keeps key value (slabs.Access accesses.BadRange) may = absurd may
set_keeps key value (slabs.Access accesses.Unallocated) may = absurd may
set_keeps key value (slabs.Access (accesses.NotYours owner)) may = absurd may
set_keeps key value slabs.BadSize may = absurd may
set_keeps key value slabs.Full may = absurd may

-- such a set had room for its key
set_may : (here : Option (List ℕ)) (count : ℕ) (why : SlabRefused) → IsSetRefusal why → (IsFull here count → ⊥) → MaySet here count (set_refusal why)
set_may here count slabs.NoSpace may room = room
set_may here count (slabs.Access (accesses.Worn sub)) may room = room
set_may here count (slabs.Access (accesses.Tampered sub)) may room = room
set_may here count (slabs.Access accesses.BadRange) may room = absurd may
set_may here count (slabs.Access accesses.Unallocated) may room = absurd may
set_may here count (slabs.Access (accesses.NotYours owner)) may room = absurd may
set_may here count slabs.BadSize may room = absurd may
set_may here count slabs.Full may room = absurd may

-- what a get whose read was refused leaves
get_keeps : (key : List ℕ) (why : AccessRefused) → KeepsAll (Get key) (get_refusal why)
get_keeps key why = record { values = λ v q. refl; count = λ here n. refl }

some_is : {A B : Type 0} (f : A → B) (o : Option A) (x : A) → o ≡ Some x → option_map f o ≡ Some (f x)
some_is f o x e = ap (option_map f) e

is_some_of : {A : Type 0} (o : Option A) (x : A) → o ≡ Some x → IsSome o
is_some_of o x e = ap is_some e

none_not_some : {A : Type 0} (o : Option A) (x : A) → o ≡ Some x → o ≡ None → ⊥
none_not_some o x e f = let clash : true ≡ false = sym (ap is_some e) ∙ ap is_some f in cc

module _ {O : Type 0} (m m' : MemoryState O) (s : ShardState) (is : IsShard (owned m) s) (key : List ℕ) where
  -- a key's value where it has an object, and where it has none
  value_here : (id : ObjId) → id_of s.keys key ≡ Some id → values_of (facts_of m s) key ≡ Some (object (owned m) s.blocks id)
  value_here id e = value_known m s key ∙ some_is (object (owned m) s.blocks) (id_of s.keys key) id e

  value_none : id_of s.keys key ≡ None → values_of (facts_of m s) key ≡ None
  value_none e = value_known m s key ∙ ap (option_map (object (owned m) s.blocks)) e

  -- where the key has a value, or the shard fewer keys than it may, there is room
  room_here : (id : ObjId) → id_of s.keys key ≡ Some id → IsFull (values_of (facts_of m s) key) (count_of (facts_of m s)) → ⊥
  room_here id e full = none_not_some (values_of (facts_of m s) key) (object (owned m) s.blocks id) (value_here id e) full.is_new

  room_few : length s.keys < 1024 → IsFull (values_of (facts_of m s) key) (count_of (facts_of m s)) → ⊥
  room_few few full = let a = full.all in let b = count_known s in absurd (omega (arith, a, b, few))

  -- a set that the slab refused
  pub served_refused : (value : List ℕ) (why : SlabRefused) (keys' : Keys) → ((q : List ℕ) → id_of keys' q ≡ id_of s.keys q) → length keys' ≡ length s.keys → KeepsObjects (owned m) s.blocks (owned m') → IsSlab (owned m') s.blocks
      → RefusedBy m key value why m' → (IsFull (values_of (facts_of m s) key) (count_of (facts_of m s)) → ⊥) → HasServed m s (Set key value) (set_refusal why) m' (shard_with s.blocks keys')
  served_refused value why keys' ids count kept slab refused room = served_kept m m' s is keys' ids count kept slab (Set key value) (set_refusal why) refused.piece refused.made refused.shape
      (set_keeps key value why refused.may) (set_may (values_of (facts_of m s) key) (count_of (facts_of m s)) why refused.may room) (refused.told (facts_of m' (shard_with s.blocks keys')))

  pub refused_here : (value : List ℕ) (why : SlabRefused) (id : ObjId) → id_of s.keys key ≡ Some id → KeepsObjects (owned m) s.blocks (owned m') → IsSlab (owned m') s.blocks → RefusedBy m key value why m' → HasServed m s (Set key value) (set_refusal why) m' s
  refused_here value why id e kept slab refused = served_refused value why s.keys (λ q. refl) refl kept slab refused (room_here id e)

  pub refused_new : (value : List ℕ) (why : SlabRefused) (keys' : Keys) → ((q : List ℕ) → id_of keys' q ≡ id_of s.keys q) → length keys' ≡ length s.keys → KeepsObjects (owned m) s.blocks (owned m') → IsSlab (owned m') s.blocks
      → RefusedBy m key value why m' → length s.keys < 1024 → HasServed m s (Set key value) (set_refusal why) m' (shard_with s.blocks keys')
  refused_new value why keys' ids count kept slab refused few = served_refused value why keys' ids count kept slab refused (room_few few)

  -- a value that was stored, for a new key or in place of another one
  module _ (value : List ℕ) (blocks' : List SlabBlock) (keys' : Keys) (id : ObjId) (ids : (q : List ℕ) → id_of keys' q ≡ update bytes_eq (id_of s.keys) key (Some id) q) (len : len_of blocks' id ≡ length value) (text : object (owned m') blocks' id ≡ value)
      (stored : StoredBy m value (address_of blocks' id) m') where
    id_here : id_of keys' key ≡ Some id
    id_here = ids key ∙ update_here (id_of s.keys) key (Some id)

    pub id_else : (q : List ℕ) → key ≢ q → id_of keys' q ≡ id_of s.keys q
    id_else q ne = ids q ∙ update_else (id_of s.keys) key (Some id) q ne

    value_stored : values_of (facts_of m' (shard_with blocks' keys')) key ≡ Some value
    value_stored = value_known m' (shard_with blocks' keys') key ∙ (some_is (object (owned m') blocks') (id_of keys' key) id id_here ∙ ap (λ (z : List ℕ). Some z) text)

    place_stored : place_at (places_of (shard_with blocks' keys')) key ≡ Some (place_of blocks' id)
    place_stored = place_known (shard_with blocks' keys') key ∙ some_is (place_of blocks') (id_of keys' key) id id_here

    module _ (objects : (q : List ℕ) (o : ObjId) → key ≢ q → id_of s.keys q ≡ Some o → object (owned m') blocks' o ≡ object (owned m) s.blocks o)
        (ats : (q : List ℕ) (o : ObjId) → key ≢ q → id_of s.keys q ≡ Some o → address_of blocks' o ≡ address_of s.blocks o)
        (lens : (q : List ℕ) (o : ObjId) → key ≢ q → id_of s.keys q ≡ Some o → len_of blocks' o ≡ len_of s.blocks o)
        (room : IsFull (values_of (facts_of m s) key) (count_of (facts_of m s)) → ⊥)
        (count : length keys' ≡ count_stored (values_of (facts_of m s) key) (length s.keys))
        (shard : IsShard (owned m') (shard_with blocks' keys')) where
      values_else : (q : List ℕ) → key ≢ q → values_of (facts_of m' (shard_with blocks' keys')) q ≡ values_of (facts_of m s) q
      values_else q ne = value_same m m' s (shard_with blocks' keys') q (id_else q ne) (λ o e. objects q o ne e)

      places_else : (q : List ℕ) → bytes_eq key q ≡ false → place_at (places_of (shard_with blocks' keys')) q ≡ place_at (places_of s) q
      places_else q d = let ne : key ≢ q = λ e. differs q d e in place_same m m' s (shard_with blocks' keys') q (id_else q ne) (λ o e. ats q o ne e) (λ o e. lens q o ne e)
        where
          differs : (r : List ℕ) → bytes_eq key r ≡ false → key ≡ r → ⊥
          differs r d e = let clash : true ≡ false = sym (same_self key) ∙ (ap (bytes_eq key) e ∙ d) in cc

      pub served_stored : HasServed m s (Set key value) Stored m' (shard_with blocks' keys')
      served_stored = record {
        serves = record {
          piece = stored.piece;
          calls = stored.made.calls;
          left = stored.made.left;
          shape = stored.shape;
          tells = record { at = place_of blocks' id; here = place_stored; whole = len; stands = stored.stands };
          may = room;
          values = values_updated m m' s (shard_with blocks' keys') key (Some value) value_stored values_else;
          count = count_known (shard_with blocks' keys') ∙ (count ∙ ap (count_stored (values_of (facts_of m s) key)) (sym (count_known s)));
          places = places_else;
        };
        origin = stored.made.origin;
        shard = shard;
      }

  -- the value of a key that had none was put
  pub served_put : (value : List ℕ) (blocks' : List SlabBlock) (keys' : Keys) (id : ObjId) → 1 ≤ length value → id_of s.keys key ≡ None → length s.keys < 1024 → ((q : List ℕ) → id_of keys' q ≡ update bytes_eq (id_of s.keys) key (Some id) q)
      → length keys' ≡ length s.keys + 1 → len_of s.blocks id ≡ 0 → HasStored m s.blocks value id m' blocks' → IsSlab (owned m') blocks' → StoredBy m value (address_of blocks' id) m' → HasServed m s (Set key value) Stored m' (shard_with blocks' keys')
  served_put value blocks' keys' id some none few ids count free h slab stored =
      served_stored value blocks' keys' id ids h.len h.text stored
      (λ q o ne e. h.others.objects o (other o (is.keyed.held q o e)))
      (λ q o ne e. h.others.places o (other o (is.keyed.held q o e)) (is.keyed.held q o e))
      (λ q o ne e. h.others.lens o (other o (is.keyed.held q o e)))
      (room_few few)
      (count ∙ sym (ap (λ (z : Option (List ℕ)). count_stored z (length s.keys)) (value_none none)))
      (record {
        slab = slab;
        many = h.others.many ∙ is.many;
        keyed = keyed_added s.keys keys' s.blocks blocks' key is.keyed id none ids free there h.others.lens;
        few = omega (arith, count, few);
      })
    where
      there : IsHeld blocks' id
      there = let l = h.len in omega (arith, l, some)

      other : (o : ObjId) → IsHeld s.blocks o → o ≢ id
      other o held e = let x : len_of s.blocks o ≡ 0 = ap (len_of s.blocks) e ∙ free in absurd (omega (arith, x, held))

  -- a value was stored in place of another one
  pub served_replaced : (value : List ℕ) (blocks' : List SlabBlock) (keys' : Keys) (was id : ObjId) → 1 ≤ length value → id_of s.keys key ≡ Some was → ((q : List ℕ) → id_of keys' q ≡ update bytes_eq (id_of s.keys) key (Some id) q)
      → length keys' ≡ length s.keys → HasReplaced m s.blocks value was id m' blocks' → IsSlab (owned m') blocks' → StoredBy m value (address_of blocks' id) m' → HasServed m s (Set key value) Stored m' (shard_with blocks' keys')
  served_replaced value blocks' keys' was id some before ids count h slab stored =
      served_stored value blocks' keys' id ids h.len h.text stored
      (λ q o ne e. let d = apart q o ne e in h.objects o d.0 d.1)
      (λ q o ne e. let d = apart q o ne e in h.places o d.0 d.1 (is.keyed.held q o e))
      (λ q o ne e. let d = apart q o ne e in h.lens o d.0 d.1)
      (room_here was before)
      (count ∙ sym (ap (λ (z : Option (List ℕ)). count_stored z (length s.keys)) (value_here was before)))
      (record {
        slab = slab;
        many = h.many ∙ is.many;
        keyed = keyed_set s.keys keys' s.blocks blocks' key is.keyed was id before ids h.fresh there h.gone h.lens;
        few = (let few = is.few in omega (arith, count, few));
      })
    where
      there : IsHeld blocks' id
      there = let l = h.len in omega (arith, l, some)

      apart : (q : List ℕ) (o : ObjId) → key ≢ q → id_of s.keys q ≡ Some o → (o ≢ was) × (o ≢ id)
      apart = others_set s.keys keys' s.blocks blocks' key is.keyed was id before ids h.fresh there h.gone h.lens

  -- a value was deleted
  module _ (blocks' : List SlabBlock) (keys' : Keys) (was : ObjId) (before : id_of s.keys key ≡ Some was) (ids : (q : List ℕ) → id_of keys' q ≡ update bytes_eq (id_of s.keys) key None q) (count : length keys' + 1 ≡ length s.keys)
      (gone : len_of blocks' was ≡ 0) (others : KeepsOthers (owned m) s.blocks was (owned m') blocks') (slab : IsSlab (owned m') blocks') where
    rest : ShardState
    rest = shard_with blocks' keys'

    other_was : (q : List ℕ) (o : ObjId) → key ≢ q → id_of s.keys q ≡ Some o → o ≢ was
    other_was = others_removed s.keys keys' s.blocks blocks' key is.keyed was before ids gone others.lens

    ids_left : (q : List ℕ) → key ≢ q → id_of keys' q ≡ id_of s.keys q
    ids_left q ne = ids q ∙ update_else (id_of s.keys) key None q ne

    none_left : values_of (facts_of m' (shard_with blocks' keys')) key ≡ None
    none_left = value_known m' (shard_with blocks' keys') key ∙ ap (option_map (object (owned m') blocks')) (ids key ∙ update_here (id_of s.keys) key None)

    values_left : (q : List ℕ) → key ≢ q → values_of (facts_of m' (shard_with blocks' keys')) q ≡ values_of (facts_of m s) q
    values_left q ne = value_same m m' s (shard_with blocks' keys') q (ids_left q ne) (λ o e. others.objects o (other_was q o ne e))

    places_left : (q : List ℕ) → bytes_eq key q ≡ false → place_at (places_of (shard_with blocks' keys')) q ≡ place_at (places_of s) q
    places_left q d = let ne : key ≢ q = λ e. differs q d e in
        place_same m m' s (shard_with blocks' keys') q (ids_left q ne) (λ o e. others.places o (other_was q o ne e) (is.keyed.held q o e)) (λ o e. others.lens o (other_was q o ne e))
      where
        differs : (r : List ℕ) → bytes_eq key r ≡ false → key ≡ r → ⊥
        differs r d e = let clash : true ≡ false = sym (same_self key) ∙ (ap (bytes_eq key) e ∙ d) in cc

    shard_left : IsShard (owned m') (shard_with blocks' keys')
    shard_left = record {
      slab = slab;
      many = others.many ∙ is.many;
      keyed = keyed_removed s.keys keys' s.blocks blocks' key is.keyed was before ids gone others.lens;
      few = (let few = is.few in omega (arith, count, few));
    }

    by_piece : (piece : List Said) → HasMade m piece m' → IsPiece piece → Tell (Delete key) Deleted (facts_of m s) (facts_of m' (shard_with blocks' keys')) piece → HasServed m s (Delete key) Deleted m' (shard_with blocks' keys')
    by_piece piece made shape tells = record {
      serves = record {
        piece = piece;
        calls = made.calls;
        left = made.left;
        shape = shape;
        tells = tells;
        may = is_some_of (values_of (facts_of m s) key) (object (owned m) s.blocks was) (value_here was before);
        values = values_updated m m' s (shard_with blocks' keys') key None none_left values_left;
        count = (let a = count_known (shard_with blocks' keys') in let b = count_known s in omega (arith, a, b, count));
        places = places_left;
      };
      origin = made.origin;
      shard = shard_left;
    }

    pub served_deleted : FreesEmpty m blocks' was.block m' → HasServed m s (Delete key) Deleted m' (shard_with blocks' keys')
    served_deleted frees = ⊎_elim
        (λ (kept : HasObject (block_at blocks' was.block) × (m' ≡ m)). by_piece [] (subst (HasMade m []) (sym kept.1) (made_nothing m)) no_piece refl)
        (λ (freed : (HasObject (block_at blocks' was.block) → ⊥) × HasMade m (free_of (block_at blocks' was.block).at ∷ []) m'). by_piece _ freed.1 (free_piece (block_at blocks' was.block).at) refl)
        frees

  -- a value was read
  module _ (id : ObjId) (before : id_of s.keys key ≡ Some id) (same : owned m' ≡ owned m) (slab : IsSlab (owned m') s.blocks) (reply : Reply) (called : HasMade m ((ops.Read (address_of s.blocks id) (len_of s.blocks id), reply) ∷ []) m') where
    kept_by : KeepsObjects (owned m) s.blocks (owned m')
    kept_by o = ap (λ p. object p s.blocks o) same

    is_read : IsRead key (facts_of m s) reply ((ops.Read (address_of s.blocks id) (len_of s.blocks id), reply) ∷ [])
    is_read = let held = is.keyed.held key id before in record {
      at = place_of s.blocks id;
      here = place_known s key ∙ some_is (place_of s.blocks) (id_of s.keys key) id before;
      range = range_as m s.blocks id (len_of s.blocks id) (address_of s.blocks id) is.slab (id.slot, held) (is.slab.slots id held) held refl;
      one = refl;
    }

    here_some : IsSome (values_of (facts_of m s) key)
    here_some = is_some_of (values_of (facts_of m s) key) (object (owned m) s.blocks id) (value_here id before)

    by_read : (told : KvReply) → MayAnswer (Get key) told (values_of (facts_of m s) key) (count_of (facts_of m s)) → Tell (Get key) told (facts_of m s) (facts_of m' s) ((ops.Read (address_of s.blocks id) (len_of s.blocks id), reply) ∷ []) → HasServed m s (Get key) told m' s
    by_read told may tells = served_kept m m' s is s.keys (λ q. refl) refl kept_by slab (Get key) told _ called (read_piece (address_of s.blocks id) (len_of s.blocks id) reply) (record { values = λ v q. refl; count = λ here n. refl }) may tells

    pub served_value : (text : List ℕ) → reply ≡ replies.Text text → HasServed m s (Get key) (Value text) m' s
    served_value text e = by_read (Value text) here_some (subst (λ (z : Reply). IsRead key (facts_of m s) z ((ops.Read (address_of s.blocks id) (len_of s.blocks id), reply) ∷ [])) e is_read)

    pub served_fault : (why : AccessRefused) → IsReadFault why → reply ≡ access_refusal_reply why → HasServed m s (Get key) (get_refusal why) m' s
    served_fault (accesses.Tampered sub) fault e = by_read (Tampered sub) here_some (subst (λ (z : Reply). IsRead key (facts_of m s) z ((ops.Read (address_of s.blocks id) (len_of s.blocks id), reply) ∷ [])) e is_read)
    served_fault accesses.BadRange fault e = absurd fault
    served_fault accesses.Unallocated fault e = absurd fault
    served_fault (accesses.NotYours owner) fault e = absurd fault
    served_fault (accesses.Worn sub) fault e = absurd fault

-- commands that call nothing
module _ {O : Type 0} (m : MemoryState O) (s : ShardState) (is : IsShard (owned m) s) (key : List ℕ) where
  quiet : (act : KvAct) (reply : KvReply) (keys' : Keys) → ((q : List ℕ) → id_of keys' q ≡ id_of s.keys q) → length keys' ≡ length s.keys → KeepsAll act reply → MayAnswer act reply (values_of (facts_of m s) (key_of act)) (count_of (facts_of m s))
      → Tell act reply (facts_of m s) (facts_of m (shard_with s.blocks keys')) [] → HasServed m s act reply m (shard_with s.blocks keys')
  quiet act reply keys' ids count keeps may tells = served_kept m m s is keys' ids count (λ o. refl) is.slab act reply [] (made_nothing m) no_piece keeps may tells

  pub served_full : (value : List ℕ) → id_of s.keys key ≡ None → 1024 ≤ length s.keys → HasServed m s (Set key value) Full m s
  served_full value none many = quiet (Set key value) Full s.keys (λ q. refl) refl (record { values = λ v q. refl; count = λ here n. refl })
      (record { is_new = value_none m m s is key none; all = (let a = count_known s in let few = is.few in omega (arith, a, few, many)) }) refl

  pub served_no_get : id_of s.keys key ≡ None → HasServed m s (Get key) Missing m s
  served_no_get none = quiet (Get key) Missing s.keys (λ q. refl) refl (record { values = λ v q. refl; count = λ here n. refl }) (value_none m m s is key none) refl

  pub served_no_delete : (keys' : Keys) → keys' ≡ s.keys → id_of s.keys key ≡ None → HasServed m s (Delete key) Missing m (shard_with s.blocks keys')
  served_no_delete keys' same none = quiet (Delete key) Missing keys' (λ q. ap (λ (z : Keys). id_of z q) same) (ap length same) (record { values = λ v q. refl; count = λ here n. refl }) (value_none m m s is key none) refl

  pub served_stat : HasServed m s (Stat key) (size_of s (id_of s.keys key)) m s
  served_stat = by (id_of s.keys key) refl where
    by : (o : Option ObjId) → id_of s.keys key ≡ o → HasServed m s (Stat key) (size_of s o) m s
    by None none = quiet (Stat key) Missing s.keys (λ q. refl) refl (record { values = λ v q. refl; count = λ here n. refl }) (value_none m m s is key none) refl
    by (Some id) e = quiet (Stat key) (Size (len_of s.blocks id)) s.keys (λ q. refl) refl (record { values = λ v q. refl; count = λ here n. refl })
        (record { value = object (owned m) s.blocks id; is_here = value_here m m s is key id e; long = sym (length-text_at (owned m) (address_of s.blocks id).at (len_of s.blocks id)) }) refl
