-- Which plans a machine can be made of, and which field is the first bad one of any other plan.
use Rattle.std.specs.Prelude.{◌≡◌, ℕ, ◌+◌, ◌^◌, ◌≤◌, List, [], ◌∷◌, ◌++◌, length, Bool, true, ◌==◌, ◌&&◌, ◌||◌, nat_le, nat_lt, Option, Some, None, sum_by, if◌then◌else◌}
use Rattle.std.specs.List.{list_all}
use Rattle.eleos_base.specs.declared.plan.BlockPlan.{BlockPlan}
use Rattle.eleos_base.specs.declared.plan.EnclavePlan.{EnclavePlan}
use Rattle.eleos_base.specs.declared.plan.Plan.{Plan}
use Rattle.eleos_base.specs.Plain.{is_good_size}
use Rattle.eleos_base.specs.Plans.{IsGood, enclave_of}
use Rattle.eleos_base.specs.Rooms.{has_space}
use Rattle.eleos_machine.specs.declared.judging.PlanField.{PlanField}
use Rattle.eleos_machine.specs.declared.judging.PlanField.TheVariants.{Enclaves, Pages, Frames, Callers, Wear, Blocks}

-- each of these enclaves has 1 to 1,024 pages
abbrev pub have_some_pages : List EnclavePlan → Bool
have_some_pages enclaves = list_all (λ (made : EnclavePlan). nat_le 1 made.pages && nat_le made.pages 1024) enclaves

-- each of these is one of so many enclaves
abbrev pub are_at_home : ℕ → List ℕ → Bool
are_at_home enclaves callers = list_all (λ enclave. nat_lt enclave enclaves) callers

module _ (k : Plan) where
  -- 1 to 8 enclaves
  abbrev pub are_enclaves_good : Bool
  are_enclaves_good = nat_le 1 (length k.enclaves) && nat_le (length k.enclaves) 8

  -- the pages of all enclaves
  abbrev pub all_pages_of : ℕ
  all_pages_of = sum_by (λ (made : EnclavePlan). made.pages) k.enclaves

  -- 1 to 1,024 pages of each enclave, and at most 4,096 of all
  abbrev pub are_pages_good : Bool
  are_pages_good = have_some_pages k.enclaves && nat_le all_pages_of 4096

  -- the frames of all enclaves and of the pool
  abbrev pub all_frames_of : ℕ
  all_frames_of = k.spare + sum_by (λ (made : EnclavePlan). made.frames) k.enclaves

  -- at most 512 frames
  abbrev pub are_frames_good : Bool
  are_frames_good = nat_le all_frames_of 512

  -- 1 to 8 callers, each of an enclave of the plan
  abbrev pub are_callers_good : Bool
  are_callers_good = nat_le 1 (length k.callers) && nat_le (length k.callers) 8 && are_at_home (length k.enclaves) k.callers

  -- a wear limit of 1 to 2^63
  abbrev pub is_wear_good : Bool
  is_wear_good = nat_le 1 k.wear && nat_le k.wear (2 ^ 63)

  -- the block is nobody's, or a caller's of its enclave
  abbrev pub may_own : BlockPlan → Bool
  may_own block = block.owner == 0 || (nat_le block.owner (length k.callers) && enclave_of k block.owner == block.enclave)

  -- behind these header blocks the block finds a free run in its enclave
  abbrev pub finds_room : List BlockPlan → BlockPlan → Bool
  finds_room before block = has_space (record k { blocks = before }) block.enclave block.bytes

  -- the block has a good size, an enclave of the plan, an owner who may have it, and room behind these
  abbrev pub is_block_good : List BlockPlan → BlockPlan → Bool
  is_block_good before block = is_good_size block.bytes && nat_lt block.enclave (length k.enclaves) && may_own block && finds_room before block

  -- so are all of these, one behind the other
  abbrev pub are_good_behind : List BlockPlan → List BlockPlan → Bool
  are_good_behind before [] = true
  are_good_behind before (block ∷ blocks) = is_block_good before block && are_good_behind (before ++ block ∷ []) blocks

  -- at most 256 header blocks, all good
  abbrev pub are_blocks_good : Bool
  are_blocks_good = nat_le (length k.blocks) 256 && are_good_behind [] k.blocks

  -- the first field that is bad
  abbrev pub plan_fault : Option PlanField
  plan_fault =
      if are_enclaves_good then
      (if are_pages_good then
      (if are_frames_good then
      (if are_callers_good then
      (if is_wear_good then
      (if are_blocks_good then None else Some Blocks)
      else Some Wear)
      else Some Callers)
      else Some Frames)
      else Some Pages)
      else Some Enclaves

  -- each of these header blocks finds room behind those before it
  abbrev pub AllFindRoom : List BlockPlan → List BlockPlan → Type 0
  AllFindRoom before [] = Unit {0}
  AllFindRoom before (block ∷ blocks) = (finds_room before block ≡ true) × AllFindRoom (before ++ block ∷ []) blocks

  -- a machine can be made of the plan
  pub record CanBeMade : Type 0 where
    pub good : IsGood k
    pub few_blocks : length k.blocks ≤ 256
    pub room : AllFindRoom [] k.blocks
