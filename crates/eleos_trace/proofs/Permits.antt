-- What single tests of a command say.
use Rattle.std.proofs.Common.{◌≡◌, ℕ, ◌<◌, ◌≤◌, ◌==◌, List, Bool, true, false, length, nat_le, ◌⊎◌, ◌&&◌, ◌||◌, refl, inl, inr, codes, arith}
use Rattle.std.proofs.lemmas.Bool.Decides.{nat_tests}
use Rattle.std.proofs.lemmas.Slice.Eq.{bytes_eq-Decides}
use Rattle.eleos_base.specs.declared.plan.EnclavePlan.{EnclavePlan}
use Rattle.eleos_base.specs.Plans.{enclave_of}
use Rattle.eleos_trace.specs.declared.header.Header.{Header}
use Rattle.eleos_trace.specs.declared.seen.Seen.{Seen}
use Rattle.eleos_trace.specs.declared.word.Actor as actors
use Rattle.eleos_trace.specs.declared.word.Actor.TheVariants.{Caller, Swapper, Balloon, Host}
use Rattle.eleos_texts.specs.Fields.{is_numeral, number, is_up_to, is_below}
use Rattle.eleos_trace.specs.Machines.{is_enclave, is_caller}
use Rattle.eleos_trace.specs.Actors.{is_swapper, is_balloon, is_host}
use Rattle.eleos_trace.specs.Seen.{has_room}
use Rattle.eleos_trace.specs.Frames.{is_pool, is_move, is_owner, owner}
use Rattle.eleos_trace.specs.Host.{last_bit}
use Rattle.eleos_trace.specs.Kinds.{IsOfEnclave}
use Rattle.eleos_trace.specs.Rounds.{is_own}
use Rattle.eleos_trace.specs.WholeHeader.{plan_of}
use Rattle.eleos_trace.specs.Replays.{IsCallerOf, IsMove}

-- where there is room for one more command, there are fewer than 100000
pub room_of : (seen : Seen) → has_room seen ≡ true → seen.commands < 100000
room_of seen has = grind (arith, nat_tests)

-- ---- actors

-- where two tests hold together, what each of them tells
pub both : {P Q : Type 0} (p q : Bool) → (p ≡ true → P) → (q ≡ true → Q) → (p && q) ≡ true → P × Q
both true true left right test = (left refl, right refl)
both true false left right test = absurd cc
both false q left right test = absurd cc

-- a number that the test finds to be at most another is at most that
pub le_of : (a b : ℕ) → nat_le a b ≡ true → a ≤ b
le_of a b test = grind (arith, nat_tests)

-- an actor that the test finds to be a caller is one of the plan's
pub caller_of : (header : Header) (who : actors.Actor) → is_caller header.plan who ≡ true → IsCallerOf (plan_of header) who
caller_of header (Caller n) test =
    let limits : (1 ≤ n) × (n ≤ length header.plan.callers) = both (nat_le 1 n) (nat_le n (length header.plan.callers)) (le_of _ _) (le_of _ _) test in
    record { from_one = limits.0; within = limits.1 }
caller_of header Swapper test = absurd cc
caller_of header Balloon test = absurd cc
caller_of header Host test = absurd cc

-- an actor that the test finds to be the swapper is the swapper
pub swapper_of : (who : actors.Actor) → is_swapper who ≡ true → who ≡ Swapper
swapper_of (Caller n) test = absurd cc
swapper_of Swapper test = refl
swapper_of Balloon test = absurd cc
swapper_of Host test = absurd cc

-- the same of the balloon
pub balloon_actor : (who : actors.Actor) → is_balloon who ≡ true → who ≡ Balloon
balloon_actor (Caller n) test = absurd cc
balloon_actor Swapper test = absurd cc
balloon_actor Balloon test = refl
balloon_actor Host test = absurd cc

-- the same of the host
pub host_of : (who : actors.Actor) → is_host who ≡ true → who ≡ Host
host_of (Caller n) test = absurd cc
host_of Swapper test = absurd cc
host_of Balloon test = absurd cc
host_of Host test = refl

-- ---- numbers

-- a number that is read as one below a limit is below it
pub below_of : (limit : ℕ) (text : List ℕ) → is_below limit text ≡ true → number text < limit
below_of limit text test = grind (arith, nat_tests)

-- a number that is read as one up to a limit is at most that
pub up_to_of : (limit : ℕ) (text : List ℕ) → is_up_to limit text ≡ true → number text ≤ limit
up_to_of limit text test = grind (arith, nat_tests)

pub bit_of : (text : List ℕ) → is_up_to last_bit text ≡ true → number text < 8192
bit_of text test = grind (arith, nat_tests)

-- the same of two numbers, each with its limit
pub two_below : (limit other : ℕ) (a b : List ℕ) → (is_below limit a && is_below other b) ≡ true → (number a < limit) × (number b < other)
two_below limit other a b test = both (is_below limit a) (is_below other b) (below_of limit a) (below_of other b) test

-- the same of a place below its limit and of a bit below 8192
pub place_and_bit : (limit : ℕ) (a b : List ℕ) → (is_below limit a && is_up_to last_bit b) ≡ true → (number a < limit) × (number b < 8192)
place_and_bit limit a b test = both (is_below limit a) (is_up_to last_bit b) (below_of limit a) (bit_of b) test

-- the one that is no pool is an enclave
pub enclave_of_owner : (enclaves : List EnclavePlan) (text : List ℕ) (pool : Bool) → pool ≡ false → (pool || is_enclave enclaves text) ≡ true → number text < length enclaves
enclave_of_owner enclaves text true other test = absurd cc
enclave_of_owner enclaves text false other test = (both (is_numeral text) (is_below (length enclaves) text) (λ numeral. numeral) (below_of (length enclaves) text) test).1

-- a dash is no numeral
pub dash_no_numeral : (text : List ℕ) → is_pool text ≡ true → is_numeral text ≡ true → ⊥
dash_no_numeral text pool numeral = not_dash text ((bytes_eq-Decides text (codes "-")).0 pool) numeral where
  not_dash : (text : List ℕ) → text ≡ codes "-" → is_numeral text ≡ true → ⊥
  not_dash text dash numeral = let no : is_numeral (codes "-") ≡ true = rw dash at numeral in cc

-- one of both is the pool and the other is not
pub one_pool : (pool_from numeral_to numeral_from pool_to : Bool) → (pool_from ≡ true → numeral_from ≡ true → ⊥) → (pool_to ≡ true → numeral_to ≡ true → ⊥)
    → (pool_from && numeral_to || numeral_from && pool_to) ≡ true → ((pool_from ≡ true) × (pool_to ≡ false)) ⊎ ((pool_from ≡ false) × (pool_to ≡ true))
one_pool true true nf true first second test = absurd (second refl refl)
one_pool true true nf false first second test = inl (refl, refl)
one_pool true false true pt first second test = absurd (first refl refl)
one_pool true false false pt first second test = absurd cc
one_pool false nt true true first second test = inr (refl, refl)
one_pool false nt true false first second test = absurd cc
one_pool false nt false pt first second test = absurd cc

-- the owners of a move
pub move_ok_owners : (header : Header) (from to : List ℕ) → is_move from to ≡ true → (is_owner header.plan.enclaves from && is_owner header.plan.enclaves to) ≡ true → IsMove (plan_of header) (owner from) (owner to)
move_ok_owners header from to move owners =
    let each : (is_owner header.plan.enclaves from ≡ true) × (is_owner header.plan.enclaves to ≡ true) = both (is_owner header.plan.enclaves from) (is_owner header.plan.enclaves to) (λ test. test) (λ test. test) owners in
    elim (one_pool (is_pool from) (is_numeral to) (is_numeral from) (is_pool to) (dash_no_numeral from) (dash_no_numeral to) move) [
      | inl pools ↦ rw (pools.0, pools.1) (enclave_of_owner header.plan.enclaves to (is_pool to) pools.1 each.1)
      | inr pools ↦ rw (pools.0, pools.1) (enclave_of_owner header.plan.enclaves from (is_pool from) pools.0 each.0)
    ]

-- ---- rounds of the swapper and changes of shares

-- of two tests of which one holds and the second does not, the first does
first_holds : (p q : Bool) → q ≡ false → (p || q) ≡ true → p ≡ true
first_holds true q fails test = refl
first_holds false true fails test = absurd cc
first_holds false false fails test = absurd cc

same_number : (a b : ℕ) → (a == b) ≡ true → a ≡ b
same_number a b test = grind (arith, nat_tests)

-- an enclave that is declared
declared : (header : Header) (text : List ℕ) → is_enclave header.plan.enclaves text ≡ true → number text < length header.plan.enclaves
declared header text test = (both (is_numeral text) (is_below (length header.plan.enclaves) text) (λ numeral. numeral) (below_of (length header.plan.enclaves) text) test).1

module _ (header : Header) (other : actors.Actor) (is_other : actors.Actor → Bool) (no_caller : (n : ℕ) → is_other (Caller n) ≡ false) (is_it : (who : actors.Actor) → is_other who ≡ true → who ≡ other) (text : List ℕ) where
  -- a caller gives it in its own enclave, or that other actor in one that is declared
  pub of_enclave : (who : actors.Actor) → (is_caller header.plan who || is_other who) ≡ true → is_own header.plan who text ≡ true → IsOfEnclave (plan_of header) other who (number text)
  of_enclave (Caller n) may own =
      let home : number text ≡ enclave_of header.plan n = (both (is_numeral text) (number text == enclave_of header.plan n) (λ numeral. numeral) (same_number (number text) (enclave_of header.plan n)) own).1 in
      (caller_of header (Caller n) (first_holds (is_caller header.plan (Caller n)) (is_other (Caller n)) (no_caller n) may), home)
  of_enclave Swapper may own = (is_it Swapper may, declared header text own)
  of_enclave Balloon may own = (is_it Balloon may, declared header text own)
  of_enclave Host may own = (is_it Host may, declared header text own)
