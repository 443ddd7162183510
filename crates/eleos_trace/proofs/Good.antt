-- What the tests of a header's lines leave of enclaves, callers and blocks.
use Rattle.std.proofs.Common.{◌≡◌, ℕ, zero, suc, Some, ◌+◌, ◌<◌, ◌≤◌, ◌⊎◌, List, [], ◌∷◌, ◌++◌, length, Bool, true, false, nat_le, nat_lt, ◌==◌, ◌&&◌, ◌||◌, Ok, subst, sym, ◌∙◌, map, inl, inr, refl, arith}
use Rattle.std.specs.Prelude.{All, slice_get}
use Rattle.std.specs.List.{AllByRecursion, sum_by}
use Rattle.std.proofs.lemmas.Bool.Decides.{nat_tests}
use Rattle.std.proofs.lemmas.List.{length-map, length_push, map-append, take-append-le}
use Rattle.std.proofs.lemmas.Option.{slice_get_within}
use Rattle.std.proofs.Math.Seq.{take-append_seam}
use Rattle.std.proofs.lemmas.List.Sums.{sum_by-append}
use Rattle.std.proofs.lemmas.List.Elements.{All-append, All-from_recursion, All-head, All-tail}
use Rattle.eleos_base.specs.declared.plan.Plan.{Plan}
use Rattle.eleos_base.specs.declared.plan.BlockPlan.{BlockPlan}
use Rattle.eleos_base.specs.declared.plan.EnclavePlan.{EnclavePlan}
use Rattle.eleos_base.specs.Plans.{IsCaller, IsGood, IsGoodBlock, enclave_of}
use Rattle.eleos_base.specs.Plain.{is_good_size}
use Rattle.eleos_trace.specs.declared.header.Header.{Header}
use Rattle.eleos_trace.specs.declared.header.NamedBlock.{NamedBlock}
use Rattle.eleos_trace.specs.declared.trace.Line.{Line}
use Rattle.eleos_texts.specs.declared.why.Why.TheVariants.{Form, Range, Name, Enclave, BadSize, NoSpace, Owner}
use Rattle.eleos_texts.specs.Fields.{number, is_up_to}
use Rattle.eleos_texts.specs.Reasons.{four, six, eight}
use Rattle.eleos_trace.specs.Machines.{pages_of, is_enclave}
use Rattle.eleos_base.specs.Limits.{most_pages}
use Rattle.eleos_trace.specs.Homes.{enclave_line, caller_line, AreGoodEnclaves, AreGoodCallers}
use Rattle.eleos_base.specs.Rooms.{has_space}
use Rattle.eleos_trace.specs.Blocks.{may_own, block_line, EachFindsRoom, AreGoodBlocks}
use Rattle.eleos_trace.specs.WholeHeader.{plan_of, IsGoodHeader}
use Rattle.eleos_trace.specs.Reading.{trace_with}
use Rattle.eleos_trace.specs.declared.trace.Kind.{Kind}
use Rattle.eleos_trace.specs.Kinds.{AreGiven, IsTrace}
use Rattle.eleos_texts.proofs.Inversion.{bind_ok, guard_ok, ok_is}

-- one more
pub All-push : {A : Type 0} (P : A → Type 0) (xs : List A) (x : A) → All P xs → P x → All P (xs ++ x ∷ [])
All-push P xs x all here = All-append P xs (x ∷ []) all (All-from_recursion P (x ∷ []) (here, tt))

few_more : {A : Type 0} (xs : List A) (x : A) (most : ℕ) → nat_lt (length xs) most ≡ true → length (xs ++ x ∷ []) ≤ most
few_more xs x most test = let lt : length xs < most = grind (arith, nat_tests) in rw (length_push xs x) (omega arith)

sum_more : {A : Type 0} (f : A → ℕ) (xs : List A) (x : A) (most : ℕ) → sum_by f xs + f x ≤ most → sum_by f (xs ++ x ∷ []) ≤ most
sum_more f xs x most le = rw (sum_by-append f xs (x ∷ [])) (omega arith)

-- what the tests of numbers say
page_limits : (pages : List ℕ) (before : ℕ) → (nat_le 1 (number pages) && is_up_to most_pages pages && nat_le (before + number pages) 4096) ≡ true → (1 ≤ number pages) × (number pages ≤ 1024) × (before + number pages ≤ 4096)
page_limits pages before test = (grind (arith, nat_tests), grind (arith, nat_tests), grind (arith, nat_tests))

le_of : (a b : ℕ) → nat_le a b ≡ true → a ≤ b
le_of a b test = grind (arith, nat_tests)

-- one more enclave
pub enclave_ok : (before : List EnclavePlan) (words : List (List ℕ)) (made : EnclavePlan) → enclave_line before words ≡ Ok made → AreGoodEnclaves before → AreGoodEnclaves (before ++ made ∷ [])
enclave_ok before words made e good =
    let a = bind_ok (six words) _ made e in
    let few = guard_ok _ _ Range made (guard_ok _ _ Form made a.2).1 in
    let pages = guard_ok _ _ Range made few.1 in
    let frames = guard_ok _ _ Range made pages.1 in
    let limits = page_limits a.0.3 (pages_of before) pages.0 in
    let here : EnclavePlan = record { pages = number a.0.3; frames = number a.0.5 } in
    subst (λ (p : EnclavePlan). AreGoodEnclaves (before ++ p ∷ [])) (ok_is here made frames.1) (record {
      few = few_more before here 8 few.0;
      pages = All-push (λ enclave. (1 ≤ enclave.pages) × (enclave.pages ≤ 1024)) before here good.pages (limits.0, limits.1);
      all_pages = sum_more (λ (enclave : EnclavePlan). enclave.pages) before here 4096 limits.2;
      frames = sum_more (λ (enclave : EnclavePlan). enclave.frames) before here 512 (le_of _ _ frames.0);
    })

below_of : (enclaves : List EnclavePlan) (text : List ℕ) → is_enclave enclaves text ≡ true → number text < length enclaves
below_of enclaves text test = grind (arith, nat_tests)

-- one more caller
pub caller_ok : (enclaves : List EnclavePlan) (before : List ℕ) (words : List (List ℕ)) (home : ℕ) → caller_line enclaves before words ≡ Ok home → AreGoodCallers enclaves before → AreGoodCallers enclaves (before ++ home ∷ [])
caller_ok enclaves before words home e good =
    let a = bind_ok (four words) _ home e in
    let few = guard_ok _ _ Range home (guard_ok _ _ Form home a.2).1 in
    let declared = guard_ok _ _ Enclave home few.1 in
    subst (λ (n : ℕ). AreGoodCallers enclaves (before ++ n ∷ [])) (ok_is (number a.0.3) home declared.1) (record {
      few = few_more before (number a.0.3) 8 few.0;
      at_home = All-push (λ enclave. enclave < length enclaves) before (number a.0.3) good.at_home (below_of enclaves a.0.3 declared.0);
    })

size_limits : (n : ℕ) → is_good_size n ≡ true → (1 ≤ n) × (n ≤ 65536)
size_limits n test = (grind (arith, nat_tests), grind (arith, nat_tests))

is_of : (a b : ℕ) → (a == b) ≡ true → a ≡ b
is_of a b test = grind (arith, nat_tests)

owner_ok : (plan : Plan) (enclave owner : ℕ) → may_own plan enclave owner ≡ true → (owner ≡ 0) ⊎ (IsCaller plan owner × (enclave_of plan owner ≡ enclave))
owner_ok plan enclave owner test = by (owner == 0) (is_of owner 0) (λ other. not_zero owner other) test where
  not_zero : (n : ℕ) → (n == 0) ≡ false → 1 ≤ n
  not_zero n other = grind (arith, nat_tests)

  by : (b : Bool) → (b ≡ true → owner ≡ 0) → (b ≡ false → 1 ≤ owner) → (b || nat_le owner (length plan.callers) && enclave_of plan owner == enclave) ≡ true → (owner ≡ 0) ⊎ (IsCaller plan owner × (enclave_of plan owner ≡ enclave))
  by true nobody some test = inl (nobody refl)
  by false nobody some test =
      let both : (owner ≤ length plan.callers) × (enclave_of plan owner ≡ enclave) = two_tests (nat_le owner (length plan.callers)) (enclave_of plan owner == enclave) (le_of _ _) (is_of _ _) test in
      inr (record { from_one = some refl; within = both.0 }, both.1) where
        two_tests : {P Q : Type 0} (p q : Bool) → (p ≡ true → P) → (q ≡ true → Q) → (p && q) ≡ true → P × Q
        two_tests true true left right test = (left refl, right refl)
        two_tests true false left right test = absurd cc
        two_tests false q left right test = absurd cc

-- ---- room for blocks

by_test : {A : Type 0} (b : Bool) → (b ≡ true → A) → (b ≡ false → A) → A
by_test true holds fails = holds refl
by_test false holds fails = fails refl

slice_get-front : {A : Type 0} (xs : List A) (x : A) (k : ℕ) → k < length xs → slice_get (xs ++ x ∷ []) k ≡ slice_get xs k
slice_get-front [] x k lt = absurd (omega arith)
slice_get-front (y ∷ ys) x zero lt = refl
slice_get-front (y ∷ ys) x (suc k) lt = slice_get-front ys x k (omega arith)

slice_get-last : {A : Type 0} (xs : List A) (x : A) → slice_get (xs ++ x ∷ []) (length xs) ≡ Some x
slice_get-last [] x = refl
slice_get-last (y ∷ ys) x = slice_get-last ys x

-- one more block with room behind the others
room_more : (plan : Plan) (blocks : List BlockPlan) (more : BlockPlan) → EachFindsRoom (record plan { blocks = blocks }) → has_space (record plan { blocks = blocks }) more.enclave more.bytes ≡ true
    → EachFindsRoom (record plan { blocks = blocks ++ more ∷ [] })
room_more plan blocks more room here k block found =
    let within : k < length (blocks ++ more ∷ []) = slice_get_within (blocks ++ more ∷ []) k block found in
    let count = length_push blocks more in
    by_test (nat_lt k (length blocks))
    (λ front. let lt : k < length blocks = grind (arith, nat_tests) in
    rw (take-append-le k blocks (more ∷ []) (omega arith)) (room k block (sym (slice_get-front blocks more k lt) ∙ found)))
    (λ last. let is : k ≡ length blocks = grind (arith, nat_tests) in
    let same : more ≡ block = some_is more block (sym (slice_get-last blocks more) ∙ (rw is at found)) in
    rw (is, take-append_seam blocks (more ∷ []), ← same) here) where
      some_is : (a b : BlockPlan) → Some a ≡ Some b → a ≡ b
      some_is a b e = cc

-- one more block
pub block_ok : (plan : Plan) (before : List NamedBlock) (words : List (List ℕ)) (named : NamedBlock) → block_line plan before words ≡ Ok named → AreGoodBlocks plan before → AreGoodBlocks plan (before ++ named ∷ [])
block_ok plan before words named e good =
    let a = bind_ok (eight words) _ named e in
    let few = guard_ok _ _ Range named (guard_ok _ _ Form named (guard_ok _ _ Form named a.2).1).1 in
    let declared = guard_ok _ _ Enclave named (guard_ok _ _ Name named few.1).1 in
    let size = guard_ok _ _ BadSize named declared.1 in
    let space = guard_ok _ _ NoSpace named size.1 in
    let owner = guard_ok _ _ Owner named space.1 in
    let limits = size_limits (number a.0.5) size.0 in
    let here : NamedBlock = record { name = a.0.1; block = record { enclave = number a.0.3; bytes = number a.0.5; owner = number a.0.7 } } in
    subst (λ (n : NamedBlock). AreGoodBlocks plan (before ++ n ∷ [])) (ok_is here named owner.1) (record {
      few = few_more before here 256 few.0;
      each = All-push (λ n. IsGoodBlock plan n.block) before here good.each (record {
        some_bytes = limits.0;
        bytes = limits.1;
        home = below_of plan.enclaves a.0.3 declared.0;
        owner = owner_ok plan (number a.0.3) (number a.0.7) owner.0;
      });
      room = rw (map-append (λ (n : NamedBlock). n.block) before (here ∷ [])) (room_more plan (map (λ n. n.block) before) here.block good.room space.0);
    })

-- ---- the trace

-- whose blocks a machine has is nothing to a good block
block_beside : (plan : Plan) (blocks : List BlockPlan) (block : BlockPlan) → IsGoodBlock plan block → IsGoodBlock (record plan { blocks = blocks }) block
block_beside plan blocks block good = record {
  some_bytes = good.some_bytes;
  bytes = good.bytes;
  home = good.home;
  owner = elim good.owner [
    | inl nobody ↦ inl nobody
    | inr caller ↦ inr (record { from_one = caller.0.from_one; within = caller.0.within }, caller.1)
  ];
}

blocks_beside : (plan : Plan) (blocks : List BlockPlan) (all : List NamedBlock) → All (λ named. IsGoodBlock plan named.block) all → AllByRecursion (IsGoodBlock (record plan { blocks = blocks })) (map (λ named. named.block) all)
blocks_beside plan blocks [] good = tt
blocks_beside plan blocks (named ∷ others) good =
    (block_beside plan blocks named.block (All-head (λ n. IsGoodBlock plan n.block) named others good), blocks_beside plan blocks others (All-tail (λ n. IsGoodBlock plan n.block) named others good))

-- the plan of a good header is good
plan_ok : (header : Header) → IsGoodHeader header → IsGood (plan_of header)
plan_ok header good = record {
  some_enclave = good.plan.some_enclave;
  enclaves = good.plan.enclaves;
  pages = good.plan.pages;
  all_pages = good.plan.all_pages;
  frames = good.plan.frames;
  some_caller = good.plan.some_caller;
  callers = good.plan.callers;
  at_home = good.plan.at_home;
  some_wear = good.plan.some_wear;
  wear = good.plan.wear;
  blocks = blocks_beside header.plan (map (λ named. named.block) header.blocks) header.blocks good.blocks.each;
}

trace_here : (header : Header) (lines : List Line) → IsGoodHeader header → AreGiven header.kind (plan_of header) lines → IsTrace header.kind (trace_with header lines)
trace_here header lines good given = record {
  kind_is = refl;
  good = plan_ok header good;
  few_blocks = subst (λ (n : ℕ). n ≤ 256) (sym (length-map header.blocks (λ named. named.block))) good.blocks.few;
  room = good.blocks.room;
  key = good.key;
  names = length-map header.blocks (λ named. named.name) ∙ sym (length-map header.blocks (λ named. named.block));
  lines = given;
}

-- a trace of a good header and good commands is good
pub trace_ok : (kind : Kind) (header : Header) (lines : List Line) → header.kind ≡ kind → IsGoodHeader header → AreGiven header.kind (plan_of header) lines → IsTrace kind (trace_with header lines)
trace_ok kind header lines is good given = subst (λ (k : Kind). IsTrace k (trace_with header lines)) is (trace_here header lines good given)
