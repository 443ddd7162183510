-- Numbers of pages and sub-pages: where an address that is in range lies.
use Rattle.std.proofs.Common.{◌≡◌, ◌≢◌, ℕ, ◌+◌, ◌-◌, ◌*◌, ◌/◌, ◌%◌, ◌<◌, ◌≤◌, List, length, Bool, true, false, ◌==◌, ◌&&◌, nat_le, nat_lt, slice_index, refl, sym, ◌∙◌, ap, subst, arith}
use Rattle.std.proofs.lemmas.Bool.{eqb-true, leb-true, eq-eqb, ne_eqb}
use Rattle.std.proofs.lemmas.Bool.Decides.{nat_tests}
use Rattle.std.proofs.lemmas.List.{length-map}
use Rattle.std.proofs.lemmas.List.Sums.{sum_by_more_le}
use Rattle.eleos_base.specs.declared.memory.Addr.{Addr}
use Rattle.eleos_base.specs.declared.memory.Op.TheVariants.{Write}
use Rattle.eleos_base.specs.declared.memory.Reply.{Reply}
use Rattle.eleos_base.specs.declared.plan.Plan.{Plan}
use Rattle.eleos_base.specs.declared.plan.EnclavePlan.{EnclavePlan}
use Rattle.eleos_base.specs.Plain.{is_accepted, is_in_range, is_in_run}
use Rattle.eleos_base.specs.Plans.{IsCaller, IsGood, enclave_of, sub_bytes}
use Rattle.eleos_core.specs.declared.accesses.spots.Spot.{Spot}
use Rattle.eleos_core.specs.declared.event.Event.TheVariants.{Op}
use Rattle.eleos_core.specs.Accesses.{IsSpot}
use Rattle.eleos_base.specs.Places.{all_pages, first_sub, page_counts, page_of, per_page, sub_of, subs}
use Rattle.eleos_base.specs.Runs.{first_of_run}
use Rattle.eleos_core.specs.State.{writes}
use Rattle.eleos_core.proofs.Tests.{by_test, first_of, second_of}

-- what is said of an access that is in range
pub record IsInRange (k : Plan) (who : ℕ) (at : Addr) (n : ℕ) : Type 0 where
  pub enclave : at.enclave ≡ enclave_of k who
  pub some : 1 ≤ n
  pub in_one : at.at % 1024 + n ≤ 1024
  pub in_all : at.at + n ≤ 1024 * subs k (enclave_of k who)

-- the access is in range for its caller
abbrev pub in_range : Plan → ℕ → Addr → ℕ → Bool
in_range k who at n = is_in_range (sub_bytes k (enclave_of k who)) (enclave_of k who) (subs k (enclave_of k who)) at n

-- an access that passes the test is one in range
pub range_is : (k : Plan) (who : ℕ) (at : Addr) (n : ℕ) → in_range k who at n ≡ true → IsInRange k who at n
range_is k who at n holds =
    let e : ℕ = enclave_of k who in
    let a : Bool = at.enclave == e in
    let b : Bool = nat_le 1 n in
    let c : Bool = nat_le (at.at % 1024 + n) 1024 in
    let d : Bool = nat_le (at.at + n) (1024 * subs k e) in
    let abc : a && b && c ≡ true = first_of (a && b && c) d holds in
    let ab : a && b ≡ true = first_of (a && b) c abc in record {
      enclave = eqb-true at.enclave e (first_of a b ab);
      some = leb-true 1 n (second_of a b ab);
      in_one = leb-true (at.at % 1024 + n) 1024 (second_of (a && b) c abc);
      in_all = leb-true (at.at + n) (1024 * subs k e) (second_of (a && b && c) d holds);
    }

-- a caller's enclave is one of the plan's
pub at_home : (k : Plan) (who : ℕ) → IsGood k → IsCaller k who → enclave_of k who < length k.enclaves
at_home k who good caller = let small : who - 1 < length k.callers = (let from = caller.from_one in let to = caller.within in omega arith) in good.at_home (who - 1) 0 small

-- a page below the last of its run
page_below : (first count all t n : ℕ) → first + count ≤ all → 1 ≤ n → t + n ≤ 1024 * (4096 * count / 1024) → (first * 4 + t / 1024) / 4 < all
page_below first count all t n within some inside = omega arith

-- the page of an address in range is one of the machine's
pub page_inside : (k : Plan) (who : ℕ) (at : Addr) (n : ℕ) → IsGood k → IsCaller k who → IsInRange k who at n → page_of k (sub_of k at) < all_pages k
page_inside k who at n good caller range =
    let e : ℕ = enclave_of k who in
    let counts : List ℕ = page_counts k in
    let small : e < length counts = (let home = at_home k who good caller in omega (arith, length-map k.enclaves (λ (made : EnclavePlan). made.pages))) in
    let within : first_of_run counts e + slice_index counts e ≤ all_pages k = sum_by_more_le (λ (n : ℕ). n) counts e 0 small in
    subst (λ home. (first_of_run counts home * 4 + at.at / 1024) / 4 < all_pages k) (sym range.enclave)
    (page_below (first_of_run counts e) (slice_index counts e) (all_pages k) at.at n within range.some range.in_all)

-- the address's sub-page among those of its page
pub index_is : (k : Plan) (at : Addr) (spot : Spot) → IsSpot k at spot → sub_of k at - page_of k (sub_of k at) * per_page k ≡ spot.index
index_is k at spot is = let page = is.page in let place = is.place in let index = is.index in omega arith

-- counted from the page's first sub-page, its index leads to the sub-page of the address
pub place_is : (k : Plan) (at : Addr) (spot : Spot) → IsSpot k at spot → page_of k (sub_of k at) * per_page k + spot.index ≡ sub_of k at
place_is k at spot is = let page = is.page in let place = is.place in let index = is.index in omega arith

-- nothing lies in an empty run
pub no_run : (s : ℕ) → is_in_run 0 0 s ≡ false
no_run s = grind (arith, nat_tests)

in_here : (first count t s : ℕ) (a : Bool) → t < count → (is_in_run first count s && (a && (t == s - first))) ≡ (a && (s == first + t))
in_here first count t s a inside = by_test (s == first + t) (λ v. (is_in_run first count s && (a && (t == s - first))) ≡ (a && v))
    (λ yes_is. let same : s ≡ first + t = eqb-true s (first + t) yes_is in
    let run : is_in_run first count s ≡ true = grind (arith, nat_tests) in
    let equal : (t == s - first) ≡ true = eq-eqb t (s - first) (omega arith) in rw (run, equal) refl)
    (λ no_is. by_test (is_in_run first count s) (λ v. (v && (a && (t == s - first))) ≡ (a && false))
    (λ run. let differ : t ≢ s - first = (λ same. outside same run no_is) in ap (λ v. a && v) (ne_eqb t (s - first) differ))
    (λ run. sym (none a)))
  where
    none : (b : Bool) → b && false ≡ false
    none true = refl
    none false = refl

    outside : t ≡ s - first → is_in_run first count s ≡ true → (s == first + t) ≡ false → ⊥
    outside same run no_is =
        let from : first ≤ s = leb-true first s (first_of (nat_le first s) (nat_lt s (first + count)) run) in
        let here : (s == first + t) ≡ true = eq-eqb s (first + t) (omega arith) in cc

-- an accepted write writes the sub-page of its address, and no other
pub writes_at : (k : Plan) (who : ℕ) (at : Addr) (new : List ℕ) (reply : Reply) (s : ℕ) → IsInRange k who at (length new)
    → writes k who (Op (Write at new)) reply s ≡ (is_accepted reply && (s == sub_of k at))
writes_at k who at new reply s range =
    let e : ℕ = enclave_of k who in
    let inside : at.at / 1024 < subs k e = (let some = range.some in let all = range.in_all in omega arith) in
    in_here (first_sub k e) (subs k e) (at.at / 1024) s (is_accepted reply) inside
    ∙ ap (λ home. is_accepted reply && (s == first_sub k home + at.at / 1024)) (sym range.enclave)

-- nothing and something is nothing
pub and_false : (a : Bool) → a && false ≡ false
and_false true = refl
and_false false = refl
