-- What a write to an item leaves of the others.
use Rattle.std.proofs.Common.{◌≡◌, ◌≢◌, ◌⊎◌, ⊎_elim, inl, inr, ℕ, ◌+◌, ◌*◌, ◌<◌, ◌≤◌, ◌^◌, length, get_or, set, refl, sym, ap, ◌∙◌, subst, arith}
use Rattle.std.proofs.lemmas.Grind.{div_ceil_times}
use Rattle.std.proofs.lemmas.List.FromFn.{get_or-map-range_with_len, length-map-range_with_len}
use Rattle.std.proofs.lemmas.Bool.{cases_eq}
use Rattle.std.proofs.lemmas.Grind.{same_number_lists}
use Rattle.std.proofs.lemmas.List.{get_or-set_same, get_or-set_other, length-set}
use Rattle.eleos_base.specs.declared.memory.Reply.TheVariants.{Done}
use Rattle.eleos_base.specs.Own.{IsAmong, IsOwnRange, Private, after_write, block_of, text_at}
use Rattle.eleos_base.proofs.OwnMemory.{same_text, written-else, written_text}
use Rattle.eleos_sarray.specs.declared.array.SArray.{SArray}
use Rattle.eleos_sarray.specs.Arrays.{IsArray, bytes_of, item, item_at, items, number_of}
use Rattle.eleos_sarray.proofs.Numbers.{length-bytes_of, number_back}

-- an item lies within one sub-page of the array's block
pub item_range : (p : Private) (a : SArray) (i : ℕ) → IsArray p a → i < a.len → IsOwnRange 1024 p (item_at a i) 8
item_range p a i h below = let w = h.whole in let c = (div_ceil_times (8 * a.len) 1024 (omega arith)).0 in record {
  block = block_of 1024 a.at (8 * a.len);
  among = h.among;
  home = refl;
  some = omega arith;
  from = omega arith;
  within = omega (arith, below, c);
  in_sub = omega (arith, w);
}

-- the array needs of the memory its block alone
pub array_by : (p q : Private) (a : SArray) → q.blocks ≡ p.blocks → IsArray p a → IsArray q a
array_by p q a e h = record { some = h.some; most = h.most; among = subst (IsAmong (block_of 1024 a.at (8 * a.len))) (sym e) h.among; whole = h.whole; fits = h.fits }

-- the item that is written is the number, and the others stay
pub item_here : (p : Private) (a : SArray) (i v : ℕ) → v < 2 ^ 64 → item (after_write (item_at a i) (bytes_of v) Done p) a i ≡ v
item_here p a i v fits = ap number_of (ap (λ (n : ℕ). text_at (after_write (item_at a i) (bytes_of v) Done p) (a.at.at + 8 * i) n) (sym (length-bytes_of v)) ∙ written_text p (a.at.at + 8 * i) (bytes_of v)) ∙ number_back v fits

pub item_else : (p : Private) (a : SArray) (i j v : ℕ) → j ≢ i → item (after_write (item_at a i) (bytes_of v) Done p) a j ≡ item p a j
item_else p a i j v ne = ap number_of (same_text (after_write (item_at a i) (bytes_of v) Done p) p (a.at.at + 8 * j) 8
    (λ x from below. written-else (a.at.at + 8 * i) x (bytes_of v) p.byte (let e = length-bytes_of v in
    ⊎_elim (λ (q : x < a.at.at + 8 * i). inl q) (λ (q : a.at.at + 8 * i + 8 ≤ x). inr (omega (arith, q, e))) (apart a.at.at i j x ne from below))))
  where
    apart : (s i j x : ℕ) → j ≢ i → s + 8 * j ≤ x → x < s + 8 * j + 8 → (x < s + 8 * i) ⊎ (s + 8 * i + 8 ≤ x)
    apart s i j x ne from below = grind arith

-- there are as many items as the array is long
pub length-items : (p : Private) (a : SArray) → length (items p a) ≡ a.len
length-items p a = length-map-range_with_len (item p a) 0 a.len

-- the item i stands at place i among them
pub get_or-items : (p : Private) (a : SArray) (i d : ℕ) → i < a.len → get_or (items p a) i d ≡ item p a i
get_or-items p a i d below = get_or-map-range_with_len (item p a) 0 a.len i i d below (omega arith)

-- so one item of all is changed
pub items_set : (p : Private) (a : SArray) (i v : ℕ) → i < a.len → v < 2 ^ 64 → items (after_write (item_at a i) (bytes_of v) Done p) a ≡ set (items p a) i v
items_set p a i v below fits = let q = after_write (item_at a i) (bytes_of v) Done p in same_number_lists _ _
    (length-items q a ∙ (sym (length-items p a) ∙ sym (length-set (items p a) i v)))
    (λ k inside. let lt : k < a.len = omega (arith, length-items q a, inside) in get_or-items q a k 0 lt ∙ ⊎_elim
    (λ (e : k ≡ i). subst (λ (j : ℕ). item q a j ≡ get_or (set (items p a) i v) j 0) (sym e) (item_here p a i v fits ∙ sym (get_or-set_same (items p a) i v 0 (omega (arith, below, length-items p a)))))
    (λ (ne : k ≢ i). item_else p a i k v ne ∙ sym (get_or-set_other (items p a) i k v 0 ne ∙ get_or-items p a k 0 lt))
    (cases_eq k i))
