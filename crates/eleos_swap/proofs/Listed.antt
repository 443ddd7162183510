-- The frames in a clock's list, where the pass has its turn.
use Rattle.std.proofs.Common.{ℕ, ◌≤◌, length, nat_eq, Some, sym, arith}
use Rattle.std.specs.List.{IsDistinct}
use Rattle.std.proofs.lemmas.List.Sums.{sum-map}
use Rattle.eleos_base.specs.declared.plan.EnclavePlan.{EnclavePlan}
use Rattle.eleos_base.specs.Places.{all_frames}
use Rattle.eleos_turn.proofs.Numbers.{pigeons}
use Rattle.eleos_machine.specs.declared.holding.ClockTurn.{ClockTurn}
use Rattle.eleos_machine.specs.Holding.{HasClock}
use Rattle.eleos_machine.specs.Passes.{IsLawful, PassState, plan_of}
use Rattle.eleos_clock.proofs.Lists.{has_into, place_of}
use Rattle.eleos_clock.proofs.Once.{once_in}
use Rattle.eleos_clock.proofs.Seen.{list_distinct, list_within}

module _ (s : PassState) (law : IsLawful s) (e : ℕ) (clock : ClockTurn) (has : HasClock s (Some e) clock) where
  -- no frame is in the list twice
  pub distinct : IsDistinct nat_eq clock.clock
  distinct = list_distinct s law e clock has

  -- there are no more of them than frames of the machine
  pub few_of_machine : length clock.clock ≤ all_frames (plan_of s)
  few_of_machine = pigeons (all_frames (plan_of s)) clock.clock (λ g. once_in g clock.clock distinct)
      (λ f in_it. let at = place_of f clock.clock (has_into f clock.clock in_it) in list_within s law e clock has f (at.0, at.1, sym at.2))

  -- so there are few
  pub few_listed : length clock.clock ≤ 512
  few_listed =
      let good = law.machine.made.good in let all = few_of_machine in
      let same = sum-map (λ (made : EnclavePlan). made.frames) (plan_of s).enclaves in let most = good.frames in omega (arith, all, same, most)
