-- Pages and frames of a machine, by its enclaves.
use Rattle.std.proofs.Common.{◌≡◌, ◌+◌, ap}
use Rattle.std.proofs.lemmas.List.Sums.{sum-map}
use Rattle.eleos_base.specs.declared.plan.Plan.{Plan}
use Rattle.eleos_base.specs.declared.plan.EnclavePlan.{EnclavePlan}
use Rattle.eleos_base.specs.Places.{all_frames, all_pages}
use Rattle.eleos_trace.specs.Machines.{frames_of, pages_of}

-- the pages of a machine are those of its enclaves
pub pages_are : (plan : Plan) → all_pages plan ≡ pages_of plan.enclaves
pages_are plan = sum-map (λ (made : EnclavePlan). made.pages) plan.enclaves

-- the frames of a machine are those of its enclaves and of the pool
pub frames_are : (plan : Plan) → all_frames plan ≡ frames_of plan.enclaves + plan.spare
frames_are plan = ap (λ n. n + plan.spare) (sum-map (λ (made : EnclavePlan). made.frames) plan.enclaves)
