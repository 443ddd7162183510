-- A plan has no bad field exactly where a machine can be made of it.
use Rattle.std.proofs.Common.{◌≡◌, ◌⊎◌, ⊎_elim, inl, inr, ℕ, ◌+◌, ◌<◌, ◌≤◌, List, [], ◌∷◌, ◌++◌, length, take, drop, Bool, true, false, ◌==◌, ◌&&◌, ◌||◌, ◌↔◌, All, nat_le, nat_lt, Option, Some, None, IsNone, is_some, refl, sym, ◌∙◌, ap, arith, get_or, if◌then◌else◌}
use Rattle.std.specs.List.{AllByRecursion, list_all}
use Rattle.std.proofs.lemmas.Bool.Decides.{nat_tests}
use Rattle.std.proofs.lemmas.List.{drop_more, take_more}
use Rattle.std.proofs.lemmas.List.Elements.{All-cons, All-head, All-more, All-tail}
use Rattle.eleos_base.specs.declared.plan.BlockPlan.{BlockPlan}
use Rattle.eleos_base.specs.declared.plan.EnclavePlan.{EnclavePlan}
use Rattle.eleos_base.specs.declared.plan.Plan.{Plan}
use Rattle.eleos_base.specs.Plans.{AreGoodPages, IsCaller, IsGoodBlock, enclave_of}
use Rattle.eleos_core.proofs.Tests.{by_test}
use Rattle.eleos_machine.specs.declared.judging.PlanField.{PlanField}
use Rattle.eleos_machine.specs.declared.judging.PlanField.TheVariants.{Enclaves, Pages, Frames, Callers, Wear, Blocks}
use Rattle.eleos_machine.specs.Judging.{AllFindRoom, CanBeMade, are_blocks_good, are_callers_good, are_enclaves_good, are_frames_good, are_good_behind, are_pages_good, finds_room, is_block_good, is_wear_good, may_own, plan_fault}

-- both hold
left_of : (a b : Bool) → (a && b) ≡ true → a ≡ true
left_of true b e = refl
left_of false b e = cc

right_of : (a b : Bool) → (a && b) ≡ true → b ≡ true
right_of true b e = e
right_of false b e = cc

both : (a b : Bool) → a ≡ true → b ≡ true → (a && b) ≡ true
both true b e f = f
both false b e f = cc

either : (a b : Bool) → b ≡ true → (a || b) ≡ true
either true b e = refl
either false b e = e

eq_of : (a b : ℕ) → (a == b) ≡ true → a ≡ b
eq_of a b e = grind (arith, nat_tests)

is_eq : (a b : ℕ) → a ≡ b → (a == b) ≡ true
is_eq a b e = grind (arith, nat_tests)

le_of : (a b : ℕ) → nat_le a b ≡ true → a ≤ b
le_of a b e = grind (arith, nat_tests)

is_le : (a b : ℕ) → a ≤ b → nat_le a b ≡ true
is_le a b le = grind (arith, nat_tests)

lt_of : (a b : ℕ) → nat_lt a b ≡ true → a < b
lt_of a b e = grind (arith, nat_tests)

is_lt : (a b : ℕ) → a < b → nat_lt a b ≡ true
is_lt a b lt = grind (arith, nat_tests)

-- what a test on each item says, and where it holds
all_of : {A : Type 0} (test : A → Bool) (P : A → Type 0) → ((a : A) → test a ≡ true → P a) → (xs : List A) → list_all test xs ≡ true → All P xs
all_of test P says [] e = λ k d below. absurd (omega arith)
all_of test P says (x ∷ xs) e = All-cons P x xs (says x (left_of _ _ e)) (all_of test P says xs (right_of _ _ e))

of_all : {A : Type 0} (test : A → Bool) (P : A → Type 0) → ((a : A) → P a → test a ≡ true) → (xs : List A) → All P xs → list_all test xs ≡ true
of_all test P says [] each = refl
of_all test P says (x ∷ xs) each = both _ _ (says x (All-head P x xs each)) (of_all test P says xs (All-tail P x xs each))

-- a test that is passed leaves the others
passed : (b : Bool) (rest : Option PlanField) (field : PlanField) → (if b then rest else Some field) ≡ None → (b ≡ true) × (rest ≡ None)
passed true rest field e = (refl, e)
passed false rest field e = absurd (some_none field e) where
  some_none : (field : PlanField) → Some field ≡ None → ⊥
  some_none field e = cc

passes_on : (b : Bool) (rest : Option PlanField) (field : PlanField) → b ≡ true → rest ≡ None → (if b then rest else Some field) ≡ None
passes_on true rest field e none = none
passes_on false rest field e none = cc

none_of : (o : Option PlanField) → is_some o ≡ false → o ≡ None
none_of None e = refl
none_of (Some field) e = cc

module _ (k : Plan) where
  -- who may own a block
  owner_of : (block : BlockPlan) → may_own k block ≡ true → (block.owner ≡ 0) ⊎ (IsCaller k block.owner × (enclave_of k block.owner ≡ block.enclave))
  owner_of block = by_test (block.owner == 0) (λ v. (block.owner == 0) ≡ v → (v || (nat_le block.owner (length k.callers) && enclave_of k block.owner == block.enclave)) ≡ true → (block.owner ≡ 0) ⊎ (IsCaller k block.owner × (enclave_of k block.owner ≡ block.enclave)))
      (λ _ is e. inl (grind (arith, nat_tests)))
      (λ _ is e. inr (record { from_one = grind (arith, nat_tests); within = le_of _ _ (left_of _ _ e) }, eq_of _ _ (right_of _ _ e))) refl

  may_of : (block : BlockPlan) → (block.owner ≡ 0) ⊎ (IsCaller k block.owner × (enclave_of k block.owner ≡ block.enclave)) → may_own k block ≡ true
  may_of block = ⊎_elim
      (λ (none : block.owner ≡ 0). ap (λ v. v || (nat_le block.owner (length k.callers) && enclave_of k block.owner == block.enclave)) (is_eq _ _ none))
      (λ (who : IsCaller k block.owner × (enclave_of k block.owner ≡ block.enclave)). either (block.owner == 0) _ (both _ _ (is_le _ _ who.0.within) (is_eq _ _ who.1)))

  -- a block is good by its tests
  good_block : (before : List BlockPlan) (block : BlockPlan) → is_block_good k before block ≡ true → IsGoodBlock k block × (finds_room k before block ≡ true)
  good_block before block e =
      let size = left_of _ _ (left_of _ _ (left_of _ _ e)) in (
        record {
          some_bytes = le_of _ _ (left_of _ _ size);
          bytes = le_of _ _ (right_of _ _ size);
          home = lt_of _ _ (right_of _ _ (left_of _ _ (left_of _ _ e)));
          owner = owner_of block (right_of _ _ (left_of _ _ e));
        },
        right_of _ _ e,
      )

  block_tests : (before : List BlockPlan) (block : BlockPlan) → IsGoodBlock k block → finds_room k before block ≡ true → is_block_good k before block ≡ true
  block_tests before block good room = both _ _ (both _ _ (both _ _ (both _ _ (is_le _ _ good.some_bytes) (is_le _ _ good.bytes)) (is_lt _ _ good.home)) (may_of block good.owner)) room

  -- so are all
  good_behind : (before blocks : List BlockPlan) → are_good_behind k before blocks ≡ true → AllByRecursion (IsGoodBlock k) blocks × AllFindRoom k before blocks
  good_behind before [] e = (tt, tt)
  good_behind before (block ∷ blocks) e =
      let first = good_block before block (left_of _ _ e) in
      let others = good_behind (before ++ block ∷ []) blocks (right_of _ _ e) in
      ((first.0, others.0), (first.1, others.1))

  tests_behind : (before blocks : List BlockPlan) → AllByRecursion (IsGoodBlock k) blocks → AllFindRoom k before blocks → are_good_behind k before blocks ≡ true
  tests_behind before [] good room = refl
  tests_behind before (block ∷ blocks) good room = both _ _ (block_tests before block good.0 room.0) (tests_behind (before ++ block ∷ []) blocks good.1 room.1)

  -- the pages of each enclave
  pages_of : (made : EnclavePlan) → (nat_le 1 made.pages && nat_le made.pages 1024) ≡ true → (1 ≤ made.pages) × (made.pages ≤ 1024)
  pages_of made e = (le_of _ _ (left_of _ _ e), le_of _ _ (right_of _ _ e))

  of_pages : (made : EnclavePlan) → (1 ≤ made.pages) × (made.pages ≤ 1024) → (nat_le 1 made.pages && nat_le made.pages 1024) ≡ true
  of_pages made good = both _ _ (is_le _ _ good.0) (is_le _ _ good.1)

  pub good_pages : are_pages_good k ≡ true → AreGoodPages k.enclaves
  good_pages e = all_of (λ (made : EnclavePlan). nat_le 1 made.pages && nat_le made.pages 1024) (λ (made : EnclavePlan). (1 ≤ made.pages) × (made.pages ≤ 1024)) pages_of k.enclaves (left_of _ _ e)

  -- all tests
  pub record Passes : Type 0 where
    pub enclaves : are_enclaves_good k ≡ true
    pub pages : are_pages_good k ≡ true
    pub frames : are_frames_good k ≡ true
    pub callers : are_callers_good k ≡ true
    pub wear : is_wear_good k ≡ true
    pub blocks : are_blocks_good k ≡ true

  pub can_be_made : Passes → CanBeMade k
  can_be_made p =
      let blocks : AllByRecursion (IsGoodBlock k) k.blocks × AllFindRoom k [] k.blocks = good_behind [] k.blocks (right_of (nat_le (length k.blocks) 256) (are_good_behind k [] k.blocks) p.blocks) in
      record {
        good = record {
          some_enclave = le_of _ _ (left_of _ _ p.enclaves);
          enclaves = le_of _ _ (right_of _ _ p.enclaves);
          pages = good_pages p.pages;
          all_pages = le_of _ _ (right_of _ _ p.pages);
          frames = (let few = le_of _ _ p.frames in omega (arith, few));
          some_caller = le_of _ _ (left_of _ _ (left_of _ _ p.callers));
          callers = le_of _ _ (right_of _ _ (left_of _ _ p.callers));
          at_home = all_of (λ enclave. nat_lt enclave (length k.enclaves)) (λ enclave. enclave < length k.enclaves) (λ enclave is. lt_of _ _ is) k.callers (right_of _ _ p.callers);
          some_wear = le_of _ _ (left_of _ _ p.wear);
          wear = le_of _ _ (right_of _ _ p.wear);
          blocks = blocks.0;
        };
        few_blocks = le_of _ _ (left_of _ _ p.blocks);
        room = blocks.1;
      }

  pub passes : CanBeMade k → Passes
  passes can =
      let good = can.good in
      record {
        enclaves = both _ _ (is_le _ _ good.some_enclave) (is_le _ _ good.enclaves);
        pages = both _ _ (of_all (λ (made : EnclavePlan). nat_le 1 made.pages && nat_le made.pages 1024) (λ (made : EnclavePlan). (1 ≤ made.pages) × (made.pages ≤ 1024)) of_pages k.enclaves good.pages) (is_le _ _ good.all_pages);
        frames = is_le _ _ (let few = good.frames in omega (arith, few));
        callers = both _ _ (both _ _ (is_le _ _ good.some_caller) (is_le _ _ good.callers)) (of_all (λ enclave. nat_lt enclave (length k.enclaves)) (λ enclave. enclave < length k.enclaves) (λ enclave lt. is_lt _ _ lt) k.callers good.at_home);
        wear = both _ _ (is_le _ _ good.some_wear) (is_le _ _ good.wear);
        blocks = both _ _ (is_le _ _ can.few_blocks) (tests_behind [] k.blocks good.blocks can.room);
      }

  -- no test fails where nothing is found
  fault_passes : plan_fault k ≡ None → Passes
  fault_passes none =
      let a = passed (are_enclaves_good k) _ Enclaves none in
      let b = passed (are_pages_good k) _ Pages a.1 in
      let c = passed (are_frames_good k) _ Frames b.1 in
      let d = passed (are_callers_good k) _ Callers c.1 in
      let e = passed (is_wear_good k) _ Wear d.1 in
      let f = passed (are_blocks_good k) None Blocks e.1 in
      record { enclaves = a.0; pages = b.0; frames = c.0; callers = d.0; wear = e.0; blocks = f.0 }

  passes_none : Passes → plan_fault k ≡ None
  passes_none p = passes_on _ _ Enclaves p.enclaves (passes_on _ _ Pages p.pages (passes_on _ _ Frames p.frames (passes_on _ _ Callers p.callers (passes_on _ _ Wear p.wear (passes_on _ None Blocks p.blocks refl)))))

  -- no fault is found in a plan exactly where its machine can be made
  pub none_bad : IsNone (plan_fault k) ↔ CanBeMade k
  none_bad = ((λ none. can_be_made (fault_passes (none_of (plan_fault k) none))), (λ can. ap is_some (passes_none (passes can))))

-- one block more is judged
pub judged_more : (k : Plan) (blocks : List BlockPlan) (i : ℕ) (d : BlockPlan) → i < length blocks
    → are_good_behind k (take i blocks) (drop i blocks) ≡ (is_block_good k (take i blocks) (get_or blocks i d) && are_good_behind k (take (i + 1) blocks) (drop (i + 1) blocks))
judged_more k blocks i d below =
    (λ j. are_good_behind k (take i blocks) (drop_more blocks i d below j))
    ∙ (λ j. is_block_good k (take i blocks) (get_or blocks i d) && are_good_behind k (sym (take_more blocks i d below) j) (drop (i + 1) blocks))

-- a block that is good goes on to the others
pub good_more : (k : Plan) (blocks : List BlockPlan) (i : ℕ) (d : BlockPlan) (all : Bool) → i < length blocks → is_block_good k (take i blocks) (get_or blocks i d) ≡ true
    → (are_good_behind k (take i blocks) (drop i blocks) ≡ all) × All (λ (earlier : BlockPlan). 1 ≤ earlier.bytes) (take i blocks)
    → (are_good_behind k (take (i + 1) blocks) (drop (i + 1) blocks) ≡ all) × All (λ (earlier : BlockPlan). 1 ≤ earlier.bytes) (take (i + 1) blocks)
good_more k blocks i d all below good so_far = (
  sym (judged_more k blocks i d below ∙ ap (λ v. v && are_good_behind k (take (i + 1) blocks) (drop (i + 1) blocks)) good) ∙ so_far.0,
  All-more (λ (earlier : BlockPlan). 1 ≤ earlier.bytes) blocks i d below so_far.1 (good_block k (take i blocks) (get_or blocks i d) good).0.some_bytes,
)

-- one that is not good ends it
pub bad_more : (k : Plan) (blocks : List BlockPlan) (i : ℕ) (d : BlockPlan) → i < length blocks → is_block_good k (take i blocks) (get_or blocks i d) ≡ false → are_good_behind k (take i blocks) (drop i blocks) ≡ false
bad_more k blocks i d below bad = judged_more k blocks i d below ∙ ap (λ v. v && are_good_behind k (take (i + 1) blocks) (drop (i + 1) blocks)) bad
