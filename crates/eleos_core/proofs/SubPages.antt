-- Numbers of pages, of sub-pages and of their bytes.
use Rattle.std.proofs.Common.{◌≡◌, ◌≢◌, ℕ, zero, suc, ◌+◌, ◌-◌, ◌*◌, ◌/◌, ◌<◌, ◌≤◌, List, ◌++◌, length, map, take, drop, replicate, get_or, sum, true, false, nat_lt, sym, ◌∙◌, ap, arith, append_assoc, inl, inr, length-append, length-take, length-drop}
use Rattle.std.specs.List.{range_with_len, splice, sum_by}
use borrow.Rule.Slice.PartMut.{put_mid}
use Rattle.std.proofs.lemmas.Bool.Decides.{nat_tests}
use Rattle.std.proofs.lemmas.List.{drop-append-le, drop-drop, drop-take, drop_at, length-map, length-replicate, take-append-le, take-map, take-take, take_at}
use Rattle.std.proofs.lemmas.List.Sums.{sum-map, sum_by_more_le}
use Rattle.eleos_base.specs.declared.memory.Addr.{Addr}
use Rattle.eleos_base.specs.declared.memory.Live.{Live}
use Rattle.eleos_base.specs.declared.plan.EnclavePlan.{EnclavePlan}
use Rattle.eleos_base.specs.declared.plan.Plan.{Plan}
use Rattle.eleos_base.specs.Plain.{is_good_size, is_in_run, starts_at, zeros}
use Rattle.eleos_base.specs.Plans.{IsCaller, IsGood, enclave_of}
use Rattle.eleos_base.specs.Ties.{Has}
use Rattle.eleos_core.specs.Cells.{piece}
use Rattle.eleos_core.specs.Parts.{page_cell, pages_of_run}
use Rattle.eleos_base.specs.Places.{all_pages, first_sub, page_counts, subs}
use Rattle.eleos_base.specs.Runs.{first_of_run}
use Rattle.eleos_core.proofs.FreeRuns.{by_test, nat_ge_of, nat_lt_of}

-- the first page of an enclave is behind those of the enclaves before
pub first_of_run-is : (k : Plan) (e : ℕ) → first_of_run (page_counts k) e ≡ sum_by (λ (made : EnclavePlan). made.pages) (take e k.enclaves)
first_of_run-is k e = ap sum (take-map (λ (made : EnclavePlan). made.pages) e k.enclaves) ∙ sum-map (λ (made : EnclavePlan). made.pages) (take e k.enclaves)

-- the enclave's sub-pages lie among those of the machine
pub home_within : (k : Plan) (e : ℕ) → e < length k.enclaves → first_sub k e + subs k e ≤ 4 * all_pages k
home_within k e inside =
    let counts : List ℕ = page_counts k in
    let short : e < length counts = (let same = length-map k.enclaves (λ (made : EnclavePlan). made.pages) in omega arith) in
    let most : sum_by (λ n. n) (take e counts) + get_or counts e 0 ≤ sum_by (λ n. n) counts = sum_by_more_le (λ n. n) counts e 0 short in
    let mine : 4096 * get_or counts e 0 / 1024 ≡ 4 * get_or counts e 0 = omega arith in
    omega arith

-- the pages of a good plan are few
pub few_pages : (k : Plan) → IsGood k → all_pages k ≤ 4096
few_pages k good = let same = sum-map (λ (made : EnclavePlan). made.pages) k.enclaves in let few = good.all_pages in omega arith

-- a caller's enclave is one of the plan's
pub is_home : (k : Plan) (who : ℕ) → IsGood k → IsCaller k who → enclave_of k who < length k.enclaves
is_home k who good caller = good.at_home (who - 1) 0 (let low = caller.from_one in let high = caller.within in omega arith)

-- the bytes of a good block
pub good_size : (n : ℕ) → n ≢ 0 → n ≤ 65536 → is_good_size n ≡ true
good_size n some most = grind (arith, nat_tests)

-- the block that starts at an address
pub found_start : (e : ℕ) (at : Addr) (block : Live) → starts_at 1024 e at block ≡ true → at.at / 1024 ≡ block.start
found_start e at block starts =
    let is : at.at ≡ 1024 * block.start = grind (arith, nat_tests) in
    omega arith

-- sub-pages of a run
pub in_run_more : (start n s : ℕ) → s ≢ start + n → is_in_run start n s ≡ is_in_run start (n + 1) s
in_run_more start n s differ = grind (arith, nat_tests)

-- a run that is one longer has the sub-page that follows it
pub in_run_last : (start n s : ℕ) → s ≡ start + n → is_in_run start (n + 1) s ≡ true
in_run_last start n s is = grind (arith, nat_tests)

-- and the run itself has it not
pub past_run : (start n s : ℕ) → s ≡ start + n → is_in_run start n s ≡ false
past_run start n s is = grind (arith, nat_tests)

-- an empty run has none
pub in_no_run : (start s : ℕ) → is_in_run start 0 s ≡ false
in_no_run start s = grind (arith, nat_tests)

-- a page with a sub-page of the run is one that the run touches
in_run_of : (start n s : ℕ) → is_in_run start n s ≡ true → (start ≤ s) × (s < start + n)
in_run_of start n s is = (low, high) where
  low : start ≤ s
  low = grind (arith, nat_tests)

  high : s < start + n
  high = grind (arith, nat_tests)

has_page : (k : Plan) (a n p : ℕ) → a ≤ p → p < a + n → Has (page_cell k p) (map (page_cell k) (range_with_len a n))
has_page k a zero p low high = absurd (omega arith)
has_page k a (suc n) p low high = by_test (nat_lt a p)
    (λ above. let lt : a < p = nat_lt_of a p above in inr (has_page k (a + 1) n p (omega arith) (omega arith)))
    (λ here. let ge : p ≤ a = nat_ge_of a p here in let same : p ≡ a = omega arith in inl (ap (page_cell k) same))

-- so its cell is among those that an alloc, free or share of the run touches
pub run_has : (k : Plan) (start n s p : ℕ) → is_in_run start n s ≡ true → p * 4 ≤ s → s < p * 4 + 4 → Has (page_cell k p) (map (page_cell k) (pages_of_run k start n))
run_has k start zero s p is low high = absurd (let wrong : true ≡ false = sym is ∙ in_no_run start s in cc)
run_has k start (suc n) s p is low high =
    let within = in_run_of start (suc n) s is in
    let from : start ≤ s = within.0 in
    let to : s < start + suc n = within.1 in
    let first : start / 4 ≤ p = omega arith in
    let last : p ≤ (start + n) / 4 = omega arith in
    has_page k (start / 4) ((start + n) / 4 - start / 4 + 1) p first (omega arith)

-- the bytes of a page of which one sub-page is cleared
length-zeros : (n : ℕ) → length (zeros n) ≡ n
unfolding zeros
length-zeros n = length-replicate n 0

-- they are as many as before
pub length-cleared : (bytes : List ℕ) (i : ℕ) → 1024 * i + 1024 ≤ length bytes → length (splice bytes (1024 * i) (1024 * i + 1024) (zeros 1024)) ≡ length bytes
length-cleared bytes i inside = simp (length-append, length-take, length-drop, length-zeros) (omega arith)

-- the piece of that sub-page is zeros
pub piece_cleared : (bytes : List ℕ) (i : ℕ) → 1024 * i + 1024 ≤ length bytes → piece i (splice bytes (1024 * i) (1024 * i + 1024) (zeros 1024)) ≡ zeros 1024
piece_cleared bytes i inside =
    let before : length (take (1024 * i) bytes) ≡ 1024 * i = simp length-take (omega arith) in
    ap (take 1024) (drop_at (take (1024 * i) bytes) (zeros 1024 ++ drop (1024 * i + 1024) bytes) (1024 * i) before)
    ∙ take_at (zeros 1024) (drop (1024 * i + 1024) bytes) 1024 (length-zeros 1024)

-- what a fill of its bytes leaves
pub filled : (bytes new : List ℕ) (a : ℕ) → a + 1024 ≤ length bytes → new ≡ replicate (length (take (a + 1024 - a) (drop a bytes))) 0 → put_mid a (a + 1024 - a) bytes new ≡ splice bytes a (a + 1024) (zeros 1024)
unfolding zeros
filled bytes new a inside are =
    let count : length (take (a + 1024 - a) (drop a bytes)) ≡ 1024 = simp (length-take, length-drop) (omega arith) in
    let all : new ≡ replicate 1024 0 = are ∙ ap (λ n. replicate n 0) count in
    let on : a + (a + 1024 - a) ≡ a + 1024 = omega arith in
    let rest : drop (a + 1024 - a) (drop a bytes) ≡ drop (a + 1024) bytes = drop-drop (a + 1024 - a) a bytes ∙ ap (λ n. drop n bytes) on in
    λ t. take a bytes ++ (all t ++ rest t)

-- and the other pieces are as they were
pub piece_kept : (bytes : List ℕ) (i j : ℕ) → 1024 * i + 1024 ≤ length bytes → j ≢ i → piece j (splice bytes (1024 * i) (1024 * i + 1024) (zeros 1024)) ≡ piece j bytes
piece_kept bytes i j inside differ = by_test (nat_lt j i)
    (λ yes_is. let below : j < i = nat_lt_of j i yes_is in
    let whole : length (take (1024 * i) bytes) ≡ 1024 * i = simp length-take (omega arith) in
    let split : 1024 * j + (1024 * i - 1024 * j) ≡ 1024 * i = omega arith in
    let rest : drop (1024 * j) (take (1024 * i) bytes) ≡ take (1024 * i - 1024 * j) (drop (1024 * j) bytes) = ap (λ n. drop (1024 * j) (take n bytes)) (sym split) ∙ drop-take (1024 * j) (1024 * i - 1024 * j) bytes in
    let long : 1024 ≤ length (drop (1024 * j) (take (1024 * i) bytes)) = simp length-drop (omega (arith, whole)) in
    ap (take 1024) (drop-append-le (1024 * j) (take (1024 * i) bytes) (zeros 1024 ++ drop (1024 * i + 1024) bytes) (omega (arith, whole)))
    ∙ (take-append-le 1024 (drop (1024 * j) (take (1024 * i) bytes)) (zeros 1024 ++ drop (1024 * i + 1024) bytes) long
    ∙ (ap (take 1024) rest ∙ take-take 1024 (1024 * i - 1024 * j) (drop (1024 * j) bytes) (omega arith))))
    (λ no_is. let from : i ≤ j = nat_ge_of j i no_is in
    let above : i + 1 ≤ j = omega arith in
    let c : ℕ = 1024 * i + 1024 in
    let past : c + (1024 * j - c) ≡ 1024 * j = omega arith in
    let head : length (take (1024 * i) bytes ++ zeros 1024) ≡ c = simp (length-append, length-take, length-zeros) (omega arith) in
    let behind : drop c (take (1024 * i) bytes ++ (zeros 1024 ++ drop c bytes)) ≡ drop c bytes
    = ap (drop c) (sym (append_assoc (take (1024 * i) bytes) (zeros 1024) (drop c bytes))) ∙ drop_at (take (1024 * i) bytes ++ zeros 1024) (drop c bytes) c head in
    ap (λ n. take 1024 (drop n (take (1024 * i) bytes ++ (zeros 1024 ++ drop c bytes)))) (sym past)
    ∙ (ap (take 1024) (sym (drop-drop (1024 * j - c) c (take (1024 * i) bytes ++ (zeros 1024 ++ drop c bytes))) ∙ (ap (drop (1024 * j - c)) behind ∙ drop-drop (1024 * j - c) c bytes))
    ∙ ap (λ n. take 1024 (drop n bytes)) past))
