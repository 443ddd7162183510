-- Numbers of pages, frames and the sub-pages of a page.
use Rattle.std.proofs.Common.{◌≡◌, ℕ, ◌+◌, ◌-◌, ◌*◌, ◌<◌, ◌≤◌, arith}
use Rattle.std.proofs.lemmas.List.Sums.{sum-map}
use Rattle.eleos_base.specs.declared.plan.Plan.{Plan}
use Rattle.eleos_base.specs.declared.plan.EnclavePlan.{EnclavePlan}
use Rattle.eleos_base.specs.Plans.{IsGood}
use Rattle.eleos_base.specs.Places.{all_frames, all_pages, page_of, per_page}

module _ (k : Plan) where
  -- no machine has more pages, nor more frames
  pub most_pages : IsGood k → all_pages k ≤ 4096
  most_pages good = let all = good.all_pages in let same = sum-map (λ (made : EnclavePlan). made.pages) k.enclaves in omega arith

  -- no machine has more than 512 frames
  pub most_frames : IsGood k → all_frames k ≤ 512
  most_frames good = let all = good.frames in let same = sum-map (λ (made : EnclavePlan). made.frames) k.enclaves in omega arith

  -- the page of each of its sub-pages
  pub page_has : (p s : ℕ) → p * per_page k ≤ s → s < p * per_page k + per_page k → page_of k s ≡ p
  page_has p s low high = omega arith

  -- and the place of such a one among them
  pub index_in : (p i : ℕ) → i < per_page k → p * per_page k + i - page_of k (p * per_page k + i) * per_page k ≡ i
  index_in p i inside = omega arith
