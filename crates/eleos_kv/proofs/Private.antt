-- What each shard's pass read is what its own calls wrote, where no altered block passed on the machine.
use Rattle.std.proofs.Common.{◌≡◌, ℕ, ◌+◌, ◌<◌, List, [], length, sym, ap, ◌∙◌, subst, arith}
use Rattle.eleos_base.specs.declared.plot.Base.{Base}
use Rattle.eleos_base.specs.Histories.{made, opened}
use Rattle.eleos_base.specs.Own.{AreTrue, Said}
use Rattle.eleos_base.specs.Plans.{IsCaller}
use Rattle.eleos_core.specs.Laws.{OfEveryRun}
use Rattle.eleos_core.specs.Legal.{Sound}
use Rattle.eleos_core.specs.OwnLaws.{ReadsPrivate}
use Rattle.eleos_direct.proofs.OwnCalls.{own_calls}
use Rattle.eleos_machine.specs.Machines.{Site, plan_at, seals_at}
use Rattle.eleos_machine.specs.Passes.{PassState, seen}
use Rattle.eleos_kv.specs.Cells.{ShardPart}
use Rattle.eleos_kv.specs.Ends.{HasEnded, IsOneMapOf}
use Rattle.eleos_kv.specs.Runs.{KvRun, OpensEmpty, ReadsTrue, commands_in}
use Rattle.eleos_kv.specs.Serving.{Counter, IsKv, KvHandState, KvState}
use Rattle.eleos_kv.specs.Terms.{kv_terms}
use Rattle.eleos_kv.proofs.OneRun.{one_map}

module _ (law : OfEveryRun ReadsPrivate) (gave took : ℕ → List ℕ → Type 0) (s : KvState) (hands : List KvHandState) (pass : PassState) (hand : KvHandState) (kv : IsKv s) (ended : HasEnded gave took s hands pass hand) (passes : s.machine.base.hands ≡ length s.all.base.opening + 2) where
  ground : hand.home.base.grounds ≡ s.all.base.grounds
  ground = ap (λ (z : Counter). z.base.grounds) ended.home

  low : (i : ℕ) → i < hand.home.base.grounds → i < length s.all.base.opening
  low i below = let g = ground in let all = kv.shards in omega (arith, below, g, all)

  -- shard i has a caller of the machine
  caller : (i : ℕ) → i < length s.all.base.opening → IsCaller (plan_at pass.hand.home) (i + 1)
  caller i below = let a = ended.lawful.machine.passes in let b = ap (λ (z : Site). z.base.hands) ended.machine in record { from_one = omega arith; within = omega (arith, below, a, b, passes) }

  empty : OpensEmpty hand.home.base
  empty = record {
    some = (let some = kv.some in let g = ground in let all = kv.shards in omega (arith, some, g, all));
    none = λ i below. ap (λ (z : Counter). (opened kv_terms z.base i).facts.places) ended.home ∙ (kv.new i (low i below)).places;
  }

  reads : Sound (plan_at pass.hand.home) (seals_at pass.hand.home) (seen pass) → ReadsTrue hand.home.base hand.seen
  reads sound i below =
      let at = low i below in let home = pass.hand.home in
      let private = (law (plan_at home) home.base.grounds.key (seen pass) (record { good = ended.lawful.machine.made.good; legal = ended.lawful.run.legal }) sound (i + 1) (caller i at)).allotted in
      subst (AreTrue 1024) (own_calls (plan_at home) (i + 1) 0 [] pass.hand.seen ∙ ended.calls i at) private

  -- all commands are a run of one map
  pub ended_one_map : IsOneMapOf s pass hand
  ended_one_map sound = subst (λ (n : ℕ). KvRun n (commands_in hand.seen)) ground
      (one_map hand.home.base hand.seen ended.sound.legal empty (reads (subst (λ (z : Site). Sound (plan_at z) (seals_at z) (seen pass)) (sym ended.machine) sound)))
