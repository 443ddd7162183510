-- The frames and the hand of an owner's clock.
use Rattle.std.proofs.Common.{◌≡◌, ◌≢◌, ◌⊎◌, inl, inr, ⊎_elim, ℕ, zero, suc, ◌+◌, ◌-◌, ◌<◌, ◌≤◌, ◌==◌, ◌||◌, List, [], ◌∷◌, ◌++◌, length, Bool, true, false, Some, None, cond, nat_eq, nat_lt, get_or, slice_index, if◌then◌else◌, refl, sym, ◌∙◌, ap, subst, arith, length-append}
use Rattle.std.specs.List.{IsDistinct}
use Rattle.std.proofs.lemmas.Bool.{eq-eqb, ne_eqb, or_right}
use Rattle.std.proofs.lemmas.Bool.Decides.{nat_tests}
use Rattle.std.proofs.lemmas.List.Sums.{sum-map}
use Rattle.eleos_base.specs.declared.plan.EnclavePlan.{EnclavePlan}
use Rattle.eleos_base.specs.declared.plan.Plan.{Plan}
use Rattle.eleos_base.specs.Places.{Owner, all_frames}
use Rattle.eleos_base.specs.Ties.{Has}
use Rattle.eleos_core.specs.Legal.{CoreRun, IsOwner, OneIsPool}
use Rattle.eleos_core.specs.Parts.{Cell as Numbered, cell_of, clock_cell, frame_cell, holder_in, list_in, owner_in, part_of, the_clock}
use Rattle.eleos_core.specs.State.{frames_of, owner}
use Rattle.eleos_core.proofs.AtHome.{pool_free}
use Rattle.eleos_core.proofs.CellNumbers.{enclave_clock_is, frame_is, pool_clock_is}
use Rattle.eleos_core.proofs.Owners.{frames_distinct, listed_is_owned}
use Rattle.eleos_core.proofs.Tests.{by_test}
use Rattle.eleos_plot.specs.Cells.{is_hand_within}
use Rattle.eleos_turn.specs.Numbers.{times}
use Rattle.eleos_turn.proofs.Numbers.{has_none, pigeons}
use Rattle.eleos_machine.specs.declared.holding.ClockTurn.{ClockTurn}
use Rattle.eleos_machine.specs.Holding.{HasClock}
use Rattle.eleos_machine.specs.Passes.{IsLawful, PassState, part_seen, plan_of, seals_of, seen}
use Rattle.eleos_clock.proofs.Lists.{place_of as listed_at}
use Rattle.eleos_clock.proofs.Once.{once_in}
use Rattle.eleos_balloon.specs.Lists.{joined, left_by, place_of, without_frame}

-- the number of an owner's clock cell is that cell's
pub owner_clock_is : (k : Plan) (o : Owner) → IsOwner k o → cell_of k (clock_cell k o) ≡ the_clock o
owner_clock_is k None known = pool_clock_is k
owner_clock_is k (Some e) known = enclave_clock_is k e known

-- the frame is at none of the first places
abbrev pub IsAfter : ℕ → List ℕ → ℕ → Type 0
IsAfter f list i = (j : ℕ) → j < i → get_or list j 0 ≢ f

-- so its place is where it is found
pub place_is : (f : ℕ) (list : List ℕ) (i : ℕ) → i < length list → IsAfter f list i → get_or list i 0 ≡ f → place_of f list ≡ i
place_is f [] i inside after at = absurd (omega (arith, inside))
place_is f (g ∷ list) zero inside after at = ap (λ b. if b then 0 else place_of f list + 1) (eq-eqb g f at)
place_is f (g ∷ list) (suc i) inside after at = ap (λ b. if b then 0 else place_of f list + 1) (ne_eqb g f (after 0 (omega arith)))
    ∙ (let rest = place_is f list i (omega (arith, inside)) (λ j lt. after (suc j) (omega (arith, lt))) at in omega (arith, rest))

-- or it is not there
pub place_none : (f : ℕ) (list : List ℕ) → IsAfter f list (length list) → place_of f list ≡ length list
place_none f [] after = refl
place_none f (g ∷ list) after = ap (λ b. if b then 0 else place_of f list + 1) (ne_eqb g f (after 0 (omega arith)))
    ∙ (let rest = place_none f list (λ j lt. after (suc j) (omega (arith, lt))) in omega (arith, rest))

-- one place more was looked at
pub after_more : (f : ℕ) (list : List ℕ) (i : ℕ) → IsAfter f list i → get_or list i 0 ≢ f → IsAfter f list (i + 1)
after_more f list i after ne j lt is = by_test (j == i) (λ v. j == i ≡ v → ⊥)
    (λ _ same. ne (ap (λ n. get_or list n 0) (sym (Rattle.std.proofs.lemmas.Bool.eqb-true j i same)) ∙ is))
    (λ _ other. after j (let apart = Rattle.std.proofs.lemmas.Bool.eqb-false j i other in omega (arith, lt, apart)) is) refl

-- the hand stays within a list that a frame left
pub leave_within : (f : ℕ) (clock : ClockTurn) → is_hand_within (left_by f clock).clock (left_by f clock).hand ≡ true
leave_within f clock = within (if nat_lt (place_of f clock.clock) clock.hand then clock.hand - 1 else clock.hand) where
  list : List ℕ
  list = without_frame f clock.clock

  within : (at : ℕ) → is_hand_within (without_frame f clock.clock) (if nat_lt at (length (without_frame f clock.clock)) then at else 0) ≡ true
  within at = by_test (nat_lt at (length (without_frame f clock.clock))) (λ b. nat_lt at (length (without_frame f clock.clock)) ≡ b → is_hand_within (without_frame f clock.clock) (if b then at else 0) ≡ true)
      (λ _ is. or_right (at == 0) (nat_lt at (length (without_frame f clock.clock))) is) (λ _ is. refl) refl

-- and within one that a frame joined
pub join_within : (f : ℕ) (clock : ClockTurn) → is_hand_within clock.clock clock.hand ≡ true → is_hand_within (joined f clock).clock (joined f clock).hand ≡ true
join_within f clock within = by_test (clock.hand == 0) (λ b. (b || nat_lt clock.hand (length clock.clock)) ≡ true → (b || nat_lt clock.hand (length (clock.clock ++ f ∷ []))) ≡ true)
    (λ _ is. refl)
    (λ _ is. let more = length-append clock.clock (f ∷ []) in grind (arith, nat_tests)) within

differ : (from to : Owner) → OneIsPool from to → from ≢ to
differ (Some e) None one is = cc
differ None (Some e) one is = cc
differ (Some e) (Some o) one is = absurd one
differ None None one is = absurd one

module _ (s : PassState) (law : IsLawful s) (o : Owner) (clock : ClockTurn) (has : HasClock s o clock) where
  run : CoreRun (plan_of s) (seals_of s) (seen s)
  run = law.run.legal

  -- the frames of an owner's clock are those that it owns
  pub list_is : clock.clock ≡ frames_of (plan_of s) (seen s) o
  list_is = ap list_in (has.value ∙ (ap (part_seen s) has.number ∙ ap (λ (cell : Numbered). part_of (plan_of s) (seals_of s) (seen s) cell) (owner_clock_is (plan_of s) o has.known)))

  -- none twice
  pub distinct : IsDistinct nat_eq clock.clock
  distinct = subst (IsDistinct nat_eq) (sym list_is) (frames_distinct (plan_of s) (seals_of s) (seen s) run o)

  -- each is one of the machine
  pub owned : (f : ℕ) → Has f clock.clock → (f < all_frames (plan_of s)) × (owner (plan_of s) (seen s) f ≡ o)
  owned f in_it = let at = listed_at f clock.clock (Rattle.eleos_clock.proofs.Lists.has_into f clock.clock in_it) in
      listed_is_owned (plan_of s) (seals_of s) (seen s) run o f (subst (λ (xs : List ℕ). Rattle.std.proofs.Common.Contains xs f) list_is (at.0, at.1, sym at.2))

  -- as its cell has it
  pub owned_seen : (f : ℕ) → Has f clock.clock → owner_in (part_seen s (frame_cell (plan_of s) f)) ≡ o
  owned_seen f in_it = let own = owned f in_it in ap (λ (cell : Numbered). owner_in (part_of (plan_of s) (seals_of s) (seen s) cell)) (frame_is (plan_of s) f own.0) ∙ own.1

  -- a frame of the pool holds no page
  pub none_held : o ≡ None → (f : ℕ) → Has f clock.clock → holder_in (part_seen s (frame_cell (plan_of s) f)) ≡ None
  none_held pool f in_it = let own = owned f in_it in ap (λ (cell : Numbered). holder_in (part_of (plan_of s) (seals_of s) (seen s) cell)) (frame_is (plan_of s) f own.0)
      ∙ pool_free (plan_of s) (seals_of s) (seen s) run f (own.1 ∙ pool)

  -- there are no more of them than frames of the machine
  pub few_of_machine : length clock.clock ≤ all_frames (plan_of s)
  few_of_machine = pigeons (all_frames (plan_of s)) clock.clock (λ g. once_in g clock.clock distinct) (λ f in_it. (owned f in_it).0)

  -- so there are few
  pub few_listed : length clock.clock ≤ 512
  few_listed =
      let good = law.machine.made.good in let all = few_of_machine in
      let same = sum-map (λ (made : EnclavePlan). made.frames) (plan_of s).enclaves in let most = good.frames in omega (arith, all, same, most)

  -- there is room for a frame of another owner
  pub room : (f : ℕ) (from : Owner) → f < all_frames (plan_of s) → owner_in (part_seen s (frame_cell (plan_of s) f)) ≡ from → OneIsPool from o → length clock.clock < 512
  room f from lt its one = let most = pigeons (all_frames (plan_of s)) (f ∷ clock.clock) once within in
      let good = law.machine.made.good in let same = sum-map (λ (made : EnclavePlan). made.frames) (plan_of s).enclaves in let few = good.frames in omega (arith, most, same, few)
    where
      other : Has f clock.clock → ⊥
      other in_it = differ from o one (sym its ∙ (ap (λ (cell : Numbered). owner_in (part_of (plan_of s) (seals_of s) (seen s) cell)) (frame_is (plan_of s) f lt) ∙ (owned f in_it).1))

      once : (g : ℕ) → times g (f ∷ clock.clock) ≤ 1
      once g = by_test (g == f) (λ v. g == f ≡ v → cond v 1 0 + times g clock.clock ≤ 1)
          (λ _ is. let none = has_none f clock.clock other in let at = ap (λ h. times h clock.clock) (Rattle.std.proofs.lemmas.Bool.eqb-true g f is) in omega (arith, none, at))
          (λ _ is. let at_most = once_in g clock.clock distinct in omega (arith, at_most)) refl

      within : (g : ℕ) → Has g (f ∷ clock.clock) → g < all_frames (plan_of s)
      within g (inl is) = subst (λ h. h < all_frames (plan_of s)) (sym is) lt
      within g (inr in_it) = (owned g in_it).0
