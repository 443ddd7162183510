-- A run of reads over the items.
use Rattle.std.proofs.Common.{◌≡◌, ℕ, suc, ◌+◌, ◌-◌, ◌*◌, ◌<◌, ◌≤◌, ◌^◌, List, [], ◌∷◌, ◌++◌, length, take, sum, Ok, Err, refl, sym, ap, ◌∙◌, subst, arith, length-append}
use Rattle.std.proofs.lemmas.List.Sums.{sum_by-append}
use Rattle.std.proofs.lemmas.List.{take_all, take_more}
use Rattle.eleos_base.specs.declared.memory.Addr.{Addr}
use Rattle.eleos_base.specs.declared.memory.Op.TheVariants as ops
use Rattle.eleos_base.specs.declared.memory.Reply.{Reply}
use Rattle.eleos_base.specs.declared.memory.Reply.TheVariants.{Text}
use Rattle.eleos_base.specs.declared.refusals.AccessRefused.{AccessRefused}
use Rattle.eleos_base.specs.Answers.{access_refusal_reply}
use Rattle.eleos_base.specs.Lists.{map_from}
use Rattle.eleos_base.specs.Own.{AreTrue, IsOwnRange, Private, Said, nothing, text_at}
use Rattle.eleos_base.specs.SubMemory.{HasCalled, HasMade, MemoryState, owned}
use Rattle.eleos_base.proofs.OwnMemory.{owned-made}
use Rattle.eleos_sarray.specs.declared.array.SArray.{SArray}
use Rattle.eleos_sarray.specs.Arrays.{bytes_of, item, item_at, items}
use Rattle.eleos_sarray.specs.Calls.{HasSummed, front_reads, item_read}
use Rattle.eleos_sarray.proofs.Filling.{made_none, made-append}
use Rattle.eleos_sarray.proofs.Items.{get_or-items, length-items}
use Rattle.eleos_sarray.proofs.True.{true-back, true-front}

-- the reads with one more
more_reads : (f : ℕ → ℕ → Said) (s : ℕ) (values : List ℕ) (v : ℕ) → map_from f s (values ++ v ∷ []) ≡ map_from f s values ++ f (s + length values) v ∷ []
more_reads f s [] v = ap (λ (k : ℕ). f k v ∷ []) (let e : s ≡ s + 0 = omega arith in e)
more_reads f s (x ∷ values) v = ap (λ (z : List Said). f s x ∷ z) (more_reads f (s + 1) values v ∙ ap (λ (k : ℕ). map_from f (s + 1) values ++ f k v ∷ []) (let e : s + 1 + length values ≡ s + length (x ∷ values) = omega arith in e))

sum_more : (xs : List ℕ) (x : ℕ) → sum (xs ++ x ∷ []) ≡ sum xs + x
sum_more xs x = let e = sum_by-append (λ y. y) xs (x ∷ []) in omega (arith, e)

module _ {O : Type 0} where
  -- a true read has the bytes that lie there
  pub true_read : (m m' : MemoryState O) (at : Addr) (n : ℕ) (bytes : List ℕ) → HasCalled m (ops.Read at n) (Text bytes) m' → IsOwnRange 1024 (owned m) at n → AreTrue 1024 m'.calls → bytes ≡ text_at (owned m) at.at n
  true_read m m' at n bytes called range true = (true-back 1024 nothing m.calls ((ops.Read at n, Text bytes) ∷ []) (subst (AreTrue 1024) called.calls true)).0 range

  -- a read changes no private memory
  pub owned-read : (m m' : MemoryState O) (at : Addr) (n : ℕ) (reply : Reply) → HasCalled m (ops.Read at n) reply m' → owned m' ≡ owned m
  owned-read m m' at n reply called = owned-made m m' ((ops.Read at n, reply) ∷ []) called

  -- the first n items were read and added up
  pub record IsSummedTo (m : MemoryState O) (a : SArray) (n total : ℕ) (m' : MemoryState O) : Type 0 where
    pub values : List ℕ
    pub many : length values ≡ n
    pub adds : total ≡ sum values
    pub most : total ≤ n * (2 ^ 64 - 1)
    pub made : HasMade m (front_reads a values) m'
    pub same : owned m' ≡ owned m
    pub true : AreTrue 1024 m'.calls → values ≡ take n (items (owned m) a)

  -- before the first read the total is 0
  pub sum_start : (m : MemoryState O) (a : SArray) → IsSummedTo m a 0 0 m
  sum_start m a = record { values = []; many = refl; adds = refl; most = omega arith; made = made_none m; same = refl; true = λ h. refl }

  -- a memory that had a call left for each item has one left while an item is still to be read
  pub sum_room : (m : MemoryState O) (a : SArray) (n total : ℕ) (m' : MemoryState O) → IsSummedTo m a n total m' → a.len ≤ m.left → n < a.len → 1 ≤ m'.left
  sum_room m a n total m' h room below = let x = h.made.left in omega (arith, x, room, below, h.many, length_reads 0 h.values)
    where
      length_reads : (s : ℕ) (values : List ℕ) → length (map_from (item_read a) s values) ≡ length values
      length_reads s [] = refl
      length_reads s (x ∷ values) = ap suc (length_reads (s + 1) values)

  -- one read more: its number is added to the total
  pub sum_next : (m : MemoryState O) (a : SArray) (n total v : ℕ) (m' m'' : MemoryState O) → IsSummedTo m a n total m' → n < a.len → v < 2 ^ 64
      → HasCalled m' (ops.Read (item_at a n) 8) (Text (bytes_of v)) m'' → (AreTrue 1024 m''.calls → v ≡ item (owned m') a n) → IsSummedTo m a (n + 1) (total + v) m''
  sum_next m a n total v m' m'' h below fits called value = record {
    values = h.values ++ v ∷ [];
    many = omega (arith, h.many, length-append h.values (v ∷ []));
    adds = ap (λ (k : ℕ). k + v) h.adds ∙ sym (sum_more h.values v);
    most = let b = h.most in omega (arith, b, fits);
    made = subst (λ (z : List Said). HasMade m z m'') (sym (more_reads (item_read a) 0 h.values v ∙ ap (λ (k : ℕ). front_reads a h.values ++ item_read a k v ∷ []) (let e = h.many in let e' : 0 + length h.values ≡ n = omega (arith, e) in e'))) (made-append m m' m'' _ _ h.made called);
    same = owned-read m' m'' _ _ _ called ∙ h.same;
    true = λ t. ap (λ (z : List ℕ). z ++ v ∷ []) (h.true (true-front 1024 nothing m'.calls _ (subst (AreTrue 1024) called.calls t)))
        ∙ (ap (λ (k : ℕ). take n (items (owned m) a) ++ k ∷ []) (value t ∙ (ap (λ (p : Private). item p a n) h.same ∙ sym (get_or-items (owned m) a n 0 below)))
        ∙ sym (take_more (items (owned m) a) n 0 (omega (arith, below, length-items (owned m) a))));
  }

  -- all were, and the first n were before it stopped
  pub sum_end : (m : MemoryState O) (a : SArray) (n total : ℕ) (m' : MemoryState O) → IsSummedTo m a n total m' → n ≡ a.len → HasSummed m a (Ok total) m'
  sum_end m a n total m' h all = record { values = h.values; sums = (h.many ∙ all, h.adds); made = h.made }

  -- where all reads were true, the total is the sum of the array's items
  pub sum_value : (m : MemoryState O) (a : SArray) (n total : ℕ) (m' : MemoryState O) → IsSummedTo m a n total m' → n ≡ a.len → AreTrue 1024 m'.calls → total ≡ sum (items (owned m) a)
  sum_value m a n total m' h all t = h.adds ∙ ap sum (h.true t ∙ take_all n (items (owned m) a) (omega (arith, all, length-items (owned m) a)))

  pub sum_stop : (m : MemoryState O) (a : SArray) (n total : ℕ) (m' m'' : MemoryState O) (why : AccessRefused) → IsSummedTo m a n total m' → n < a.len
      → HasCalled m' (ops.Read (item_at a n) 8) (access_refusal_reply why) m'' → HasSummed m a (Err (record { at = n; why = why })) m''
  sum_stop m a n total m' m'' why h below called = record { values = h.values; sums = (h.many, below); made = made-append m m' m'' _ _ h.made called }
