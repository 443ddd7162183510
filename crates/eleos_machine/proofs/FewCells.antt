-- A machine has few pages and frames.
use Rattle.std.proofs.Common.{◌≤◌, arith}
use Rattle.std.proofs.lemmas.List.Sums.{sum-map}
use Rattle.eleos_base.specs.declared.plan.EnclavePlan.{EnclavePlan}
use Rattle.eleos_base.specs.declared.plan.Plan.{Plan}
use Rattle.eleos_base.specs.Plans.{IsGood}
use Rattle.eleos_base.specs.Places.{all_frames, all_pages}

-- a good plan has at most 4096 pages in all enclaves together
pub few_pages : (k : Plan) → IsGood k → all_pages k ≤ 4096
few_pages k good = let same = sum-map (λ (made : EnclavePlan). made.pages) k.enclaves in let few = good.all_pages in omega (arith, same, few)

-- a good plan has at most 512 frames, those of the pool among them
pub few_frames : (k : Plan) → IsGood k → all_frames k ≤ 512
few_frames k good = let same = sum-map (λ (made : EnclavePlan). made.frames) k.enclaves in let few = good.frames in omega (arith, same, few)
