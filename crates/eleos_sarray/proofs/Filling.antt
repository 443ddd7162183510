-- A run of writes over the items, and calls in a row.
use Rattle.std.proofs.Common.{◌≡◌, ℕ, ◌+◌, ◌<◌, ◌≤◌, List, [], ◌∷◌, ◌++◌, length, replicate, drop, get_or, set, Err, refl, sym, ap, ◌∙◌, subst, arith, append_assoc, length-append, drop-cons, add-one}
use Rattle.std.proofs.lemmas.List.FromFn.{length-map-range_with_len, map-range_with_len_more}
use Rattle.std.proofs.lemmas.List.{append-nil, drop_all, length-replicate, replicate-append-replicate}
use Rattle.eleos_base.specs.declared.memory.Op.TheVariants as ops
use Rattle.eleos_base.specs.declared.memory.Reply.TheVariants.{Done}
use Rattle.eleos_base.specs.declared.refusals.AccessRefused.{AccessRefused}
use Rattle.eleos_base.specs.Answers.{access_refusal_reply}
use Rattle.eleos_base.specs.Own.{Said}
use Rattle.eleos_base.specs.SubMemory.{HasCalled, HasMade, MemoryState, owned}
use Rattle.eleos_sarray.specs.declared.array.SArray.{SArray}
use Rattle.eleos_sarray.specs.Arrays.{IsArray, bytes_of, item_at, items}
use Rattle.eleos_sarray.specs.Calls.{fill_writes, front_writes, item_write}
use Rattle.eleos_sarray.proofs.Items.{length-items}

-- the first of the rest is changed
set_seam : (ys zs : List ℕ) (z v : ℕ) → set (ys ++ z ∷ zs) (length ys) v ≡ ys ++ v ∷ zs
set_seam [] zs z v = refl
set_seam (y ∷ ys) zs z v = ap (λ (l : List ℕ). y ∷ l) (set_seam ys zs z v)

-- with one item more, one more is the number
next_filled : (n v : ℕ) (xs : List ℕ) → n < length xs → set (replicate n v ++ drop n xs) n v ≡ replicate (n + 1) v ++ drop (n + 1) xs
next_filled n v xs below = ap (λ (z : List ℕ). set (replicate n v ++ z) n v) (drop-cons xs n 0 below ∙ ap (λ (k : ℕ). get_or xs n 0 ∷ drop k xs) (sym (add-one n)))
    ∙ (ap (λ (k : ℕ). set (replicate n v ++ get_or xs n 0 ∷ drop (n + 1) xs) k v) (sym (length-replicate n v))
    ∙ (set_seam (replicate n v) (drop (n + 1) xs) (get_or xs n 0) v
    ∙ (sym (append_assoc (replicate n v) (v ∷ []) (drop (n + 1) xs)) ∙ ap (λ (z : List ℕ). z ++ drop (n + 1) xs) (replicate-append-replicate n 1 v))))

module _ {O : Type 0} where
  -- no call, and calls in a row
  pub made_none : (m : MemoryState O) → HasMade m [] m
  made_none m = record { origin = refl; calls = sym (append-nil m.calls); left = omega arith }

  -- calls made after others make one run with them
  pub made-append : (m m' m'' : MemoryState O) (cs ds : List Said) → HasMade m cs m' → HasMade m' ds m'' → HasMade m (cs ++ ds) m''
  made-append m m' m'' cs ds a b = record {
    origin = b.origin ∙ a.origin;
    calls = b.calls ∙ (ap (λ (z : List Said). z ++ ds) a.calls ∙ append_assoc m.calls cs ds);
    left = let x = a.left in let y = b.left in omega (arith, x, y, length-append cs ds);
  }

  -- the first n items were written
  pub record IsFilledTo (m : MemoryState O) (a : SArray) (v n : ℕ) (m' : MemoryState O) : Type 0 where
    pub array : IsArray (owned m') a
    pub made : HasMade m (front_writes a v n) m'
    pub left : items (owned m') a ≡ replicate n v ++ drop n (items (owned m) a)

  -- before the first write none of the items was written
  pub fill_start : (m : MemoryState O) (a : SArray) (v : ℕ) → IsArray (owned m) a → IsFilledTo m a v 0 m
  fill_start m a v h = record { array = h; made = made_none m; left = refl }

  -- a memory that had a call left for each item has one left while an item is still to be written
  pub fill_room : (m : MemoryState O) (a : SArray) (v n : ℕ) (m' : MemoryState O) → IsFilledTo m a v n m' → a.len ≤ m.left → n < a.len → 1 ≤ m'.left
  fill_room m a v n m' h room below = let x = h.made.left in omega (arith, x, room, below, length-map-range_with_len (λ i. item_write a i v Done) 0 n)

  -- one write more that was done: one item more is the number
  pub fill_next : (m : MemoryState O) (a : SArray) (v n : ℕ) (m' m'' : MemoryState O) → IsFilledTo m a v n m' → n < a.len
      → HasCalled m' (ops.Write (item_at a n) (bytes_of v)) Done m'' → items (owned m'') a ≡ set (items (owned m') a) n v → IsArray (owned m'') a → IsFilledTo m a v (n + 1) m''
  fill_next m a v n m' m'' h below called here array = record {
    array = array;
    made = subst (λ (z : List Said). HasMade m z m'') (sym (map-range_with_len_more (λ i. item_write a i v Done) 0 n n (omega arith))) (made-append m m' m'' _ _ h.made called);
    left = here ∙ (ap (λ (z : List ℕ). set z n v) h.left ∙ next_filled n v (items (owned m) a) (omega (arith, below, length-items (owned m) a)));
  }

  -- all were, and the first n were before it stopped
  pub fill_end : (m : MemoryState O) (a : SArray) (v n : ℕ) (m' : MemoryState O) → IsFilledTo m a v n m' → n ≡ a.len
      → HasMade m (front_writes a v a.len) m' × (items (owned m') a ≡ replicate (length (items (owned m) a)) v)
  fill_end m a v n m' h all = (
    subst (λ (k : ℕ). HasMade m (front_writes a v k) m') all h.made,
    h.left ∙ (ap (λ (z : List ℕ). replicate n v ++ z) (drop_all n (items (owned m) a) (omega (arith, all, length-items (owned m) a)))
        ∙ (append-nil (replicate n v) ∙ ap (λ (k : ℕ). replicate k v) (all ∙ sym (length-items (owned m) a)))),
  )

  pub fill_stop : (m : MemoryState O) (a : SArray) (v n : ℕ) (m' m'' : MemoryState O) (why : AccessRefused) → IsFilledTo m a v n m'
      → HasCalled m' (ops.Write (item_at a n) (bytes_of v)) (access_refusal_reply why) m'' → HasMade m (fill_writes a v (Err (record { at = n; why = why }))) m''
  fill_stop m a v n m' m'' why h called = made-append m m' m'' _ _ h.made called
