-- One call on an array.
use Rattle.std.proofs.Common.{◌≡◌, ℕ, ◌+◌, ◌*◌, ◌<◌, ◌≤◌, ◌^◌, List, [], ◌∷◌, set, Result, Ok, Err, OnOk, OnErr, inl, refl, sym, ap, ◌∙◌, subst, arith}
use Rattle.std.proofs.lemmas.Grind.{div_ceil_times, same_number_lists}
use Rattle.std.proofs.lemmas.List.{get_or-replicate, length-replicate}
use Rattle.eleos_base.specs.declared.memory.Addr.{Addr}
use Rattle.eleos_base.specs.declared.memory.Op.{Op}
use Rattle.eleos_base.specs.declared.memory.Op.TheVariants as ops
use Rattle.eleos_base.specs.declared.memory.Reply.{Reply}
use Rattle.eleos_base.specs.declared.memory.Reply.TheVariants as replies
use Rattle.eleos_base.specs.declared.refusals.AccessRefused.{AccessRefused}
use Rattle.eleos_base.specs.declared.refusals.AccessRefused.TheVariants as accesses
use Rattle.eleos_base.specs.Answers.{access_refusal_reply, write_reply}
use Rattle.eleos_base.specs.Own.{AreTrue, IsNew, IsOwnRange, Private, after_alloc, after_write, block_of}
use Rattle.eleos_base.specs.SubMemory.{HasCalled, MemoryState, owned}
use Rattle.eleos_base.proofs.OwnMemory.{blocks-after_write, owned-made, same_text, zeroed-here}
use Rattle.eleos_sarray.specs.declared.array.SArray.{SArray}
use Rattle.eleos_sarray.specs.Arrays.{IsArray, bytes_of, item, item_at, items, number_of}
use Rattle.eleos_sarray.specs.Calls.{IsMade}
use Rattle.eleos_sarray.proofs.Items.{array_by, get_or-items, item_range, items_set, length-items}
use Rattle.eleos_sarray.proofs.Numbers.{number_zero}
use Rattle.eleos_sarray.proofs.Summing.{owned-read, true_read}

-- a refused write changes nothing
pub not_written : (at : Addr) (bytes : List ℕ) (why : AccessRefused) (p : Private) → after_write at bytes (access_refusal_reply why) p ≡ p
not_written at bytes accesses.BadRange p = refl
not_written at bytes accesses.Unallocated p = refl
not_written at bytes (accesses.NotYours owner) p = refl
not_written at bytes (accesses.Worn s) p = refl
not_written at bytes (accesses.Tampered s) p = refl

-- the item's range, at an address and a length that are its
pub range_as : (p : Private) (a : SArray) (i : ℕ) (at : Addr) (n : ℕ) → at ≡ item_at a i → n ≡ 8 → IsArray p a → i < a.len → IsOwnRange 1024 p at n
range_as p a i at n e e' h below = subst (λ (z : Addr). IsOwnRange 1024 p z n) (sym e) (subst (λ (z : ℕ). IsOwnRange 1024 p (item_at a i) z) (sym e') (item_range p a i h below))

module _ {O : Type 0} where
  -- the call that was made, with the operation and the reply written in another way
  pub called_as : (m m' : MemoryState O) (op op' : Op) (reply reply' : Reply) → op ≡ op' → reply ≡ reply' → HasCalled m op reply m' → HasCalled m op' reply' m'
  called_as m m' op op' reply reply' e e' h = subst (λ (z : Op). HasCalled m z reply' m') e (subst (λ (z : Reply). HasCalled m op z m') e' h)

  -- the item's value, where the memory's reads are true
  pub read_value : (m m' : MemoryState O) (a : SArray) (i v : ℕ) (bytes : List ℕ) → IsArray (owned m) a → i < a.len → v ≡ number_of bytes → HasCalled m (ops.Read (item_at a i) 8) (replies.Text bytes) m' → AreTrue 1024 m'.calls → v ≡ item (owned m) a i
  read_value m m' a i v bytes h below num called true = num ∙ ap number_of (true_read m m' (item_at a i) 8 bytes called (item_range (owned m) a i h below) true)

  -- a read, whatever the reply, leaves the array its block
  pub read_array : (m m' : MemoryState O) (a : SArray) (at : Addr) (n : ℕ) (reply : Reply) → IsArray (owned m) a → HasCalled m (ops.Read at n) reply m' → IsArray (owned m') a
  read_array m m' a at n reply h called = subst (λ (p : Private). IsArray p a) (sym (owned-read m m' at n reply called)) h

  pub owned-write : (m m' : MemoryState O) (at : Addr) (bytes : List ℕ) (reply : Reply) → HasCalled m (ops.Write at bytes) reply m' → owned m' ≡ after_write at bytes reply (owned m)
  owned-write m m' at bytes reply called = owned-made m m' ((ops.Write at bytes, reply) ∷ []) called

  -- so does a write
  pub write_array : (m m' : MemoryState O) (a : SArray) (at : Addr) (bytes : List ℕ) (reply : Reply) → IsArray (owned m) a → HasCalled m (ops.Write at bytes) reply m' → IsArray (owned m') a
  write_array m m' a at bytes reply h called = subst (λ (p : Private). IsArray p a) (sym (owned-write m m' at bytes reply called)) (array_by (owned m) _ a (blocks-after_write at bytes reply (owned m)) h)

  -- what the answer says of the items
  pub write_ok : (m m' : MemoryState O) (a : SArray) (i v : ℕ) (r : Result (Unit {0}) AccessRefused) → i < a.len → v < 2 ^ 64 → HasCalled m (ops.Write (item_at a i) (bytes_of v)) (write_reply r) m' → OnOk r (items (owned m') a ≡ set (items (owned m) a) i v)
  write_ok m m' a i v (Ok done) below fits called = ap (λ (p : Private). items p a) (owned-write m m' _ _ _ called) ∙ items_set (owned m) a i v below fits
  write_ok m m' a i v (Err why) below fits called = tt

  -- and a write that was refused leaves all as they were
  pub write_err : (m m' : MemoryState O) (a : SArray) (i v : ℕ) (r : Result (Unit {0}) AccessRefused) → HasCalled m (ops.Write (item_at a i) (bytes_of v)) (write_reply r) m' → OnErr r (items (owned m') a ≡ items (owned m) a)
  write_err m m' a i v (Ok done) called = tt
  write_err m m' a i v (Err why) called = ap (λ (p : Private). items p a) (owned-write m m' _ _ _ called ∙ not_written (item_at a i) (bytes_of v) why (owned m))

  -- a new array is one of zeros
  pub new_array : (m m' : MemoryState O) (at : Addr) (len : ℕ) → 1 ≤ len → len ≤ 8192 → IsNew 1024 (owned m) (block_of 1024 at (8 * len)) → HasCalled m (ops.Alloc (8 * len)) (replies.Got at) m' → IsMade m len (record { at = at; len = len }) m'
  new_array m m' at len some most new called = let a : SArray = record { at = at; len = len } in let e = owned-made m m' ((ops.Alloc (8 * len), replies.Got at) ∷ []) called in
      let c : 8 * len ≤ (block_of 1024 at (8 * len)).size = omega (arith, (div_ceil_times (8 * len) 1024 (omega arith)).0) in let f = new.fits in record {
        many = refl;
        new = new;
        array = subst (λ (p : Private). IsArray p a) (sym e) (record { some = some; most = most; among = inl refl; whole = new.whole; fits = omega (arith, c, f) });
        zeros = ap (λ (p : Private). items p a) e ∙ same_number_lists _ _ (length-items _ a ∙ sym (length-replicate len 0))
            (λ k inside. let below : k < len = omega (arith, inside, length-items (after_alloc 1024 (8 * len) (replies.Got at) (owned m)) a) in
            get_or-items _ a k 0 below ∙ (zero_item (owned m) at len k below c ∙ sym (get_or-replicate len k 0 0 below)));
      }
    where
      zero_item : (p : Private) (at : Addr) (len k : ℕ) → k < len → 8 * len ≤ (block_of 1024 at (8 * len)).size → item (after_alloc 1024 (8 * len) (replies.Got at) p) (record { at = at; len = len }) k ≡ 0
      zero_item p at len k below c = ap number_of (same_text (after_alloc 1024 (8 * len) (replies.Got at) p) (record { blocks = []; byte = λ _. 0 }) (at.at + 8 * k) 8
          (λ x from under. zeroed-here at.at _ x p.byte (omega arith) (omega (arith, below, c, under)))) ∙ number_zero (at.at + 8 * k)
