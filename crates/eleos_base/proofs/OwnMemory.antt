-- What calls leave of private memory, for those who keep things there.
use Rattle.std.proofs.Common.{◌≡◌, ◌⊎◌, inl, inr, ℕ, ◌+◌, ◌-◌, ◌*◌, ◌%◌, ◌<◌, ◌≤◌, List, [], ◌∷◌, ◌++◌, length, replicate, get_or, Bool, true, false, cond, Result, Ok, Err, IsOk, refl, sym, ap, ◌∙◌, subst, arith}
use Rattle.std.proofs.lemmas.Bool.{false≢true}
use Rattle.std.proofs.lemmas.Bool.Decides.{nat_tests}
use Rattle.std.proofs.lemmas.List.FromFn.{get_or-map-range_with_len, length-map-range_with_len}
use Rattle.std.proofs.lemmas.List.{same_lists, get_or_default}
use Rattle.eleos_base.specs.declared.memory.Addr.{Addr}
use Rattle.eleos_base.specs.declared.memory.Op.{Op}
use Rattle.eleos_base.specs.declared.memory.Reply.{Reply}
use Rattle.eleos_base.specs.declared.memory.Reply.TheVariants.{Done}
use Rattle.eleos_base.specs.declared.refusals.BlockRefused.{BlockRefused}
use Rattle.eleos_base.specs.Answers.{block_reply}
use Rattle.eleos_base.specs.Plain.{is_in_run}
use Rattle.eleos_base.specs.Own.{IsAmong, IsOwnRange, IsOwnStart, Keeps, OwnBlock, Private, Said, after_call, after_calls, after_write, own, text_at, written, zeroed}
use Rattle.eleos_base.specs.SubMemory.{HasMade, MemoryState, owned}

-- calls in two parts
pub after_calls-append : (sub : ℕ) (p : Private) (cs ds : List Said) → after_calls sub p (cs ++ ds) ≡ after_calls sub (after_calls sub p cs) ds
after_calls-append sub p [] ds = refl
after_calls-append sub p (c ∷ cs) ds = after_calls-append sub (after_call sub c.0 c.1 p) cs ds

-- the private memory after calls that were made is what they make of the one before
pub owned-made : {O : Type 0} (m m' : MemoryState O) (made : List Said) → HasMade m made m' → owned m' ≡ after_calls 1024 (owned m) made
owned-made m m' made h = ap (own 1024) h.calls ∙ after_calls-append 1024 _ m.calls made

-- an offset outside of a run, and one within
pub outside_run : (start n a : ℕ) → (a < start) ⊎ (start + n ≤ a) → is_in_run start n a ≡ false
outside_run start n a h = grind (arith, nat_tests)

pub inside_run : (start n a : ℕ) → start ≤ a → a < start + n → is_in_run start n a ≡ true
inside_run start n a h k = grind (arith, nat_tests)

-- zeros change no byte outside of their run
pub zeroed-else : (start n a : ℕ) (f : ℕ → ℕ) → (a < start) ⊎ (start + n ≤ a) → zeroed start n f a ≡ f a
zeroed-else start n a f h = ap (λ (t : Bool). cond t 0 (f a)) (outside_run start n a h)

pub zeroed-here : (start n a : ℕ) (f : ℕ → ℕ) → start ≤ a → a < start + n → zeroed start n f a ≡ 0
zeroed-here start n a f h k = ap (λ (t : Bool). cond t 0 (f a)) (inside_run start n a h k)

-- bytes that are written change no byte outside of their run
pub written-else : (start a : ℕ) (bytes : List ℕ) (f : ℕ → ℕ) → (a < start) ⊎ (start + length bytes ≤ a) → written start bytes f a ≡ f a
written-else start a bytes f h = ap (λ (t : Bool). cond t (get_or bytes (a - start) 0) (f a)) (outside_run start (length bytes) a h)

pub written-here : (start a : ℕ) (bytes : List ℕ) (f : ℕ → ℕ) → start ≤ a → a < start + length bytes → written start bytes f a ≡ get_or bytes (a - start) 0
written-here start a bytes f h k = ap (λ (t : Bool). cond t (get_or bytes (a - start) 0) (f a)) (inside_run start (length bytes) a h k)

-- where two memories agree on the bytes of a range, its text is one
pub same_text : (p q : Private) (start n : ℕ) → ((a : ℕ) → start ≤ a → a < start + n → p.byte a ≡ q.byte a) → text_at p start n ≡ text_at q start n
unfolding text_at
same_text p q start n same = same_lists _ _ (length-map-range_with_len p.byte start n ∙ sym (length-map-range_with_len q.byte start n))
    (λ k d below. let lt : k < n = omega (arith, length-map-range_with_len p.byte start n, below) in
    get_or-map-range_with_len p.byte start n k (start + k) d lt refl ∙ (same (start + k) (omega arith) (omega arith) ∙ sym (get_or-map-range_with_len q.byte start n k (start + k) d lt refl)))

pub length-text_at : (p : Private) (start n : ℕ) → length (text_at p start n) ≡ n
unfolding text_at
length-text_at p start n = length-map-range_with_len p.byte start n

-- what was written is there
pub written_text : (p : Private) (start : ℕ) (bytes : List ℕ) → text_at (record p { byte = written start bytes p.byte }) start (length bytes) ≡ bytes
unfolding text_at
written_text p start bytes = same_lists _ _ (length-map-range_with_len _ start (length bytes))
    (λ k d below. let lt : k < length bytes = omega (arith, length-map-range_with_len (written start bytes p.byte) start (length bytes), below) in
    get_or-map-range_with_len (written start bytes p.byte) start (length bytes) k (start + k) d lt refl
    ∙ (written-here start (start + k) bytes p.byte (omega arith) (omega arith) ∙ read bytes k d (start + k - start) lt (omega arith)))
  where
    read : (xs : List ℕ) (k d j : ℕ) → k < length xs → j ≡ k → get_or xs j 0 ≡ get_or xs k d
    read xs k d j below e = ap (λ (i : ℕ). get_or xs i 0) e ∙ get_or_default xs k 0 d below

-- a range and a start need of the memory their block alone
pub start_by : (p q : Private) (at : Addr) → ((b : OwnBlock) → IsAmong b p.blocks → IsAmong b q.blocks) → IsOwnStart p at → IsOwnStart q at
start_by p q at keeps s = record { block = s.block; among = keeps s.block s.among; home = s.home; starts = s.starts }

pub range_by : (sub : ℕ) (p q : Private) (at : Addr) (n : ℕ) → ((b : OwnBlock) → IsAmong b p.blocks → IsAmong b q.blocks) → IsOwnRange sub p at n → IsOwnRange sub q at n
range_by sub p q at n keeps r = record { block = r.block; among = keeps r.block r.among; home = r.home; some = r.some; from = r.from; within = r.within; in_sub = r.in_sub }

-- a write changes no block
pub blocks-after_write : (at : Addr) (bytes : List ℕ) (reply : Reply) (p : Private) → (after_write at bytes reply p).blocks ≡ p.blocks
blocks-after_write at bytes Done p = refl
blocks-after_write at bytes _ p = refl

-- a free that is not refused is done
pub ok_is_done : {A : Type 0} (r : Result A BlockRefused) → IsOk r → block_reply r ≡ Done
ok_is_done (Ok x) h = refl
ok_is_done (Err e) h = absurd (false≢true h)
