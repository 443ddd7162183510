-- The shares of all enclaves and the pool are the machine's frames: each frame stands once in its owner's list, and in no other.
use Rattle.std.proofs.Common.{◌≡◌, ◌≢◌, inl, inr, ℕ, ◌+◌, ◌<◌, ◌≤◌, ◌==◌, List, [], ◌∷◌, ◌++◌, length, filter, Bool, true, false, not, ◌&&◌, Some, None, sum, sum_by, slice_index, nat_lt, if◌then◌else◌, refl, sym, ◌∙◌, ap, arith, length-append}
use Rattle.std.specs.List.{range_with_len}
use Rattle.std.proofs.lemmas.Bool.{eq-eqb, ne_eqb, eqb-true, eqb-false}
use Rattle.std.proofs.lemmas.Bool.Decides.{nat_tests}
use Rattle.std.proofs.lemmas.List.{length-map}
use Rattle.std.proofs.lemmas.List.FromFn.{length-range_with_len}
use Rattle.std.proofs.lemmas.List.Sums.{sum_by-cons}
use Rattle.eleos_base.specs.declared.memory.Reply.{Reply}
use Rattle.eleos_base.specs.declared.plan.Plan.{Plan}
use Rattle.eleos_base.specs.declared.plan.EnclavePlan.{EnclavePlan}
use Rattle.eleos_core.specs.declared.event.Event.{Event}
use Rattle.eleos_core.specs.declared.event.Event.TheVariants.{Op, Link, Unlink, Fill, Evict, Move, Starved, Spoiled, Survey}
use Rattle.eleos_base.specs.Runs.{first_of_run, run_with}
use Rattle.eleos_base.specs.Places.{Owner, frame_counts, all_frames}
use Rattle.eleos_core.specs.Seals.{Seals}
use Rattle.eleos_core.specs.State.{History, entry, is_owner, owner, frames_of, opening_frames}
use Rattle.eleos_core.specs.Legal.{CoreStep, CoreRun, OneIsPool, IsOwner}
use Rattle.eleos_core.specs.Laws.{share}
use Rattle.eleos_core.proofs.Tests.{by_test}
use Rattle.eleos_core.proofs.Times.{times, one_if, times_one_more, times_more_other, times_less, none_left, length_less, times_in, times_out, sum-times}
use Rattle.eleos_core.proofs.RunNumbers.{run_times, run_past, run_is, IsBelow, run_below, first_behind, sum_of_runs}

owner_sym : (o p : Owner) → is_owner o p ≡ is_owner p o
owner_sym None None = refl
owner_sym None (Some e) = refl
owner_sym (Some d) None = refl
owner_sym (Some d) (Some e) = by_test (d == e) (λ v. d == e ≡ v → v ≡ (e == d))
    (λ _ is. sym (eq-eqb e d (sym (eqb-true d e is))))
    (λ _ is. sym (ne_eqb e d (λ same. eqb-false d e is (sym same)))) refl

-- an owner is the same as itself
pub same_owner : (o : Owner) → is_owner o o ≡ true
same_owner None = refl
same_owner (Some e) = eq-eqb e e refl

-- and owners that the test finds one are one
pub owner_is : (o p : Owner) → is_owner o p ≡ true → o ≡ p
owner_is None None is = refl
owner_is None (Some e) is = cc
owner_is (Some d) None is = cc
owner_is (Some d) (Some e) is = ap Some (eqb-true d e is)

-- nobody is both ends of a move
not_both : (o from to : Owner) → OneIsPool from to → is_owner o from && is_owner o to ≡ false
not_both None (Some e) None one = refl
not_both (Some d) (Some e) None one = by_test (d == e) (λ v. v && false ≡ false) (λ _. refl) (λ _. refl)
not_both None None (Some e) one = refl
not_both (Some d) None (Some e) one = refl
not_both o None None one = absurd one
not_both o (Some d) (Some e) one = absurd one

-- a list after a move of a frame: it leaves, or joins, or neither
abbrev moved : Bool → Bool → ℕ → List ℕ → List ℕ
moved leaves joins f fs = if leaves then filter (λ h. not (h == f)) fs else if joins then fs ++ f ∷ [] else fs

once_here : (leaves joins : Bool) (f : ℕ) (fs : List ℕ) → leaves && joins ≡ false → times f fs ≡ one_if leaves → times f (moved leaves joins f fs) ≡ one_if joins
once_here true true f fs apart once = cc
once_here true false f fs apart once = none_left f fs
once_here false true f fs apart once = times_one_more f fs ∙ ap (λ n. n + 1) once
once_here false false f fs apart once = once

once_there : (leaves joins : Bool) (g f : ℕ) (fs : List ℕ) → g ≢ f → times g (moved leaves joins f fs) ≡ times g fs
once_there true joins g f fs ne = times_less g f fs ne
once_there false true g f fs ne = times_more_other g f fs ne
once_there false false g f fs ne = refl

moved_length : (leaves joins : Bool) (f : ℕ) (fs : List ℕ) → leaves && joins ≡ false → times f fs ≡ one_if leaves → length (moved leaves joins f fs) + one_if leaves ≡ length fs + one_if joins
moved_length true true f fs apart once = cc
moved_length true false f fs apart once = let less = length_less f fs in omega arith
moved_length false true f fs apart once = let more = length-append fs (f ∷ []) in omega arith
moved_length false false f fs apart once = refl

-- sums over one list
sum_by_both : (f g h j : ℕ → ℕ) → ((e : ℕ) → f e + g e ≡ h e + j e) → (es : List ℕ) → sum_by f es + sum_by g es ≡ sum_by h es + sum_by j es
sum_by_both f g h j same [] = refl
sum_by_both f g h j same (e ∷ es) =
    let a = sum_by-cons f e es in let b = sum_by-cons g e es in let c = sum_by-cons h e es in let d = sum_by-cons j e es in
    let rest = sum_by_both f g h j same es in let first = same e in omega arith

sum_by-zero : (es : List ℕ) → sum_by (λ e. 0) es ≡ 0
sum_by-zero [] = refl
sum_by-zero (e ∷ es) = let first = sum_by-cons (λ e. 0) e es in let rest = sum_by-zero es in omega arith

module _ (k : Plan) where
  -- how often a frame stands in each list
  pub record StandsOnce (past : History) (g : ℕ) : Type 0 where
    pub within : g < all_frames k → (o : Owner) → times g (frames_of k past o) ≡ one_if (is_owner (owner k past g) o)
    pub past_all : all_frames k ≤ g → (o : Owner) → times g (frames_of k past o) ≡ 0

  once_in_pool : (g : ℕ) → g < all_frames k → times g (range_with_len (first_of_run (frame_counts k) (length (frame_counts k))) k.spare) ≡ one_if (is_owner (run_with (frame_counts k) g) None)
  once_in_pool g lt = let at = first_behind (frame_counts k) in by_test (nat_lt g (sum (frame_counts k))) (λ v. nat_lt g (sum (frame_counts k)) ≡ v → times g (range_with_len (first_of_run (frame_counts k) (length (frame_counts k))) k.spare) ≡ one_if (is_owner (run_with (frame_counts k) g) None))
      (λ _ is. let low : g < sum (frame_counts k) = grind (arith, nat_tests) in
      times_out g (first_of_run (frame_counts k) (length (frame_counts k))) k.spare (inl (omega arith)) ∙ sym (ap one_if (run_is (frame_counts k) g low)))
      (λ _ is. let high : sum (frame_counts k) ≤ g = grind (arith, nat_tests) in
      times_in g (first_of_run (frame_counts k) (length (frame_counts k))) k.spare (omega arith) (omega arith) ∙ sym (ap (λ o. one_if (is_owner o None)) (run_past (frame_counts k) g high))) refl

  once_start : (g : ℕ) → g < all_frames k → (o : Owner) → times g (opening_frames k o) ≡ one_if (is_owner (run_with (frame_counts k) g) o)
  once_start g lt None = once_in_pool g lt
  once_start g lt (Some e) = (let from_zero : 0 + first_of_run (frame_counts k) e ≡ first_of_run (frame_counts k) e = omega arith in let number : 0 + g ≡ g = omega arith in
      sym (λ t. times (number t) (range_with_len (from_zero t) (slice_index (frame_counts k) e)))) ∙ run_times (frame_counts k) 0 e g

  none_start : (g : ℕ) → all_frames k ≤ g → (o : Owner) → times g (opening_frames k o) ≡ 0
  none_start g le None = let at = first_behind (frame_counts k) in times_out g (first_of_run (frame_counts k) (length (frame_counts k))) k.spare (inr (omega arith))
  none_start g le (Some e) = (let from_zero : 0 + first_of_run (frame_counts k) e ≡ first_of_run (frame_counts k) e = omega arith in let number : 0 + g ≡ g = omega arith in
      sym (λ t. times (number t) (range_with_len (from_zero t) (slice_index (frame_counts k) e)))) ∙ (run_times (frame_counts k) 0 e g ∙ ap (λ o. one_if (is_owner o (Some e))) (run_past (frame_counts k) g (omega arith)))

  module _ (x : Seals) where
    once_move : (past : History) (f : ℕ) (from to : Owner) → f < all_frames k → OneIsPool from to → owner k past f ≡ from → ((g : ℕ) → StandsOnce past g)
        → (g : ℕ) → g < all_frames k → (o : Owner) → times g (moved (is_owner o from) (is_owner o to) f (frames_of k past o)) ≡ one_if (is_owner (if g == f then to else owner k past g) o)
    once_move past f from to lt one owned once g less o = by_test (g == f) (λ v. g == f ≡ v → times g (moved (is_owner o from) (is_owner o to) f (frames_of k past o)) ≡ one_if (is_owner (if v then to else owner k past g) o))
        (λ _ is. let here : times f (frames_of k past o) ≡ one_if (is_owner o from) = (once f).within lt o ∙ ap one_if (ap (λ p. is_owner p o) owned ∙ owner_sym from o) in
        ap (λ i. times i (moved (is_owner o from) (is_owner o to) f (frames_of k past o))) (eqb-true g f is)
        ∙ (once_here (is_owner o from) (is_owner o to) f (frames_of k past o) (not_both o from to one) here ∙ ap one_if (owner_sym o to)))
        (λ _ is. once_there (is_owner o from) (is_owner o to) g f (frames_of k past o) (eqb-false g f is) ∙ (once g).within less o) refl

    once_step : (past : History) (who : ℕ) (event : Event) (blocks : List (List ℕ)) (reply : Reply) → CoreStep k x past (entry who event blocks reply)
        → ((g : ℕ) → StandsOnce past g) → (g : ℕ) → StandsOnce (entry who event blocks reply ∷ past) g
    once_step past who (Move f from to) blocks reply step once g = record {
      within = once_move past f from to step.within.1 step.within.2 step.step.0.owned once g;
      past_all = λ le o. once_there (is_owner o from) (is_owner o to) g f (frames_of k past o) (let lt = step.within.1 in λ same. omega arith) ∙ (once g).past_all le o;
    }
    once_step past who (Op op) blocks reply step once g = record { within = (once g).within; past_all = (once g).past_all }
    once_step past who (Link at) blocks reply step once g = record { within = (once g).within; past_all = (once g).past_all }
    once_step past who (Unlink p) blocks reply step once g = record { within = (once g).within; past_all = (once g).past_all }
    once_step past who (Fill p f) blocks reply step once g = record { within = (once g).within; past_all = (once g).past_all }
    once_step past who (Evict p f) blocks reply step once g = record { within = (once g).within; past_all = (once g).past_all }
    once_step past who (Starved wanted sweep) blocks reply step once g = record { within = (once g).within; past_all = (once g).past_all }
    once_step past who (Spoiled wanted) blocks reply step once g = record { within = (once g).within; past_all = (once g).past_all }
    once_step past who (Survey e goal sweep) blocks reply step once g = record { within = (once g).within; past_all = (once g).past_all }

    -- after every legal history
    pub stands_once : (h : History) → CoreRun k x h → (g : ℕ) → StandsOnce h g
    stands_once [] run g = record { within = once_start g; past_all = none_start g }
    stands_once (e ∷ past) run g = once_step past e.who e.event e.blocks e.reply run.0 (stands_once past run.1) g

    -- a frame stands once in the list of its owner
    pub once_at_owner : (h : History) → CoreRun k x h → (g : ℕ) → g < all_frames k → times g (frames_of k h (owner k h g)) ≡ 1
    once_at_owner h run g lt = (stands_once h run g).within lt (owner k h g) ∙ ap one_if (same_owner (owner k h g))

    -- and in no other
    pub at_owner_only : (h : History) → CoreRun k x h → (g : ℕ) → g < all_frames k → (o : Owner) → owner k h g ≢ o → times g (frames_of k h o) ≡ 0
    at_owner_only h run g lt o ne = (stands_once h run g).within lt o ∙ by_test (is_owner (owner k h g) o) (λ v. is_owner (owner k h g) o ≡ v → one_if v ≡ 0)
        (λ _ is. absurd (ne (owner_is (owner k h g) o is))) (λ _ is. refl) refl

    -- the owner of a frame is one of the plan
    owner_at_start : (o : Owner) → IsBelow (length (frame_counts k)) o → IsOwner k o
    owner_at_start None below = tt
    owner_at_start (Some e) below = let same = length-map k.enclaves (λ (made : EnclavePlan). made.frames) in omega arith

    owner_step : (past : History) (who : ℕ) (event : Event) (blocks : List (List ℕ)) (reply : Reply) → CoreStep k x past (entry who event blocks reply)
        → (f : ℕ) → IsOwner k (owner k past f) → IsOwner k (owner k (entry who event blocks reply ∷ past) f)
    owner_step past who (Move g from to) blocks reply step f is = by_test (f == g) (λ v. IsOwner k (if v then to else owner k past f)) (λ _. step.within.4) (λ _. is)
    owner_step past who (Op op) blocks reply step f is = is
    owner_step past who (Link at) blocks reply step f is = is
    owner_step past who (Unlink p) blocks reply step f is = is
    owner_step past who (Fill p g) blocks reply step f is = is
    owner_step past who (Evict p g) blocks reply step f is = is
    owner_step past who (Starved wanted sweep) blocks reply step f is = is
    owner_step past who (Spoiled wanted) blocks reply step f is = is
    owner_step past who (Survey e goal sweep) blocks reply step f is = is

    -- after every legal history a frame belongs to the pool or to an enclave of the plan
    pub owner_of_plan : (h : History) → CoreRun k x h → (f : ℕ) → IsOwner k (owner k h f)
    owner_of_plan [] run f = owner_at_start (run_with (frame_counts k) f) (run_below (frame_counts k) f)
    owner_of_plan (e ∷ past) run f = owner_step past e.who e.event e.blocks e.reply run.0 f (owner_of_plan past run.1 f)

  -- just one of the enclaves and the pool is the owner
  one_owner : (o : Owner) → IsOwner k o → sum_by (λ e. one_if (is_owner (Some e) o)) (range_with_len 0 (length k.enclaves)) + one_if (is_owner None o) ≡ 1
  one_owner None is = let none = sum_by-zero (range_with_len 0 (length k.enclaves)) in omega arith
  one_owner (Some a) is = let one = sum-times a (range_with_len 0 (length k.enclaves)) ∙ times_in a 0 (length k.enclaves) (omega arith) (omega arith) in omega arith

  -- the shares of all enclaves and the pool
  abbrev all_shares : History → ℕ
  all_shares h = sum_by (λ e. share k h (Some e)) (range_with_len 0 (length k.enclaves)) + share k h None

  shares_start : all_shares [] ≡ all_frames k
  shares_start =
      let own : sum_by (λ e. share k [] (Some e)) (range_with_len 0 (length k.enclaves)) ≡ sum_by (λ e. slice_index (frame_counts k) e) (range_with_len 0 (length k.enclaves)) = λ t. sum_by (λ e. length-range_with_len (first_of_run (frame_counts k) e) (slice_index (frame_counts k) e) t) (range_with_len 0 (length k.enclaves)) in
      let many : sum_by (λ e. slice_index (frame_counts k) e) (range_with_len 0 (length k.enclaves)) ≡ sum_by (λ e. slice_index (frame_counts k) e) (range_with_len 0 (length (frame_counts k))) = ap (λ n. sum_by (λ e. slice_index (frame_counts k) e) (range_with_len 0 n)) (sym (length-map k.enclaves (λ (made : EnclavePlan). made.frames))) in
      let all = sum_of_runs (frame_counts k) in
      let pool = length-range_with_len (first_of_run (frame_counts k) (length (frame_counts k))) k.spare in
      ap (λ n. n + share k [] None) (own ∙ (many ∙ all)) ∙ ap (λ n. sum (frame_counts k) + n) pool

  module _ (x : Seals) where
    shares_step : (past : History) (who : ℕ) (event : Event) (blocks : List (List ℕ)) (reply : Reply) → CoreStep k x past (entry who event blocks reply)
        → ((g : ℕ) → StandsOnce past g) → all_shares past ≡ all_frames k → all_shares (entry who event blocks reply ∷ past) ≡ all_frames k
    shares_step past who (Move f from to) blocks reply step once all =
        let after : (o : Owner) → share k (entry who (Move f from to) blocks reply ∷ past) o + one_if (is_owner o from) ≡ share k past o + one_if (is_owner o to) = λ o.
        moved_length (is_owner o from) (is_owner o to) f (frames_of k past o) (not_both o from to step.within.2) ((once f).within step.within.1 o ∙ ap one_if (ap (λ p. is_owner p o) step.step.0.owned ∙ owner_sym from o)) in
        let sums = sum_by_both (λ e. share k (entry who (Move f from to) blocks reply ∷ past) (Some e)) (λ e. one_if (is_owner (Some e) from)) (λ e. share k past (Some e)) (λ e. one_if (is_owner (Some e) to))
        (λ e. after (Some e)) (range_with_len 0 (length k.enclaves)) in
        let pool = after None in let a = one_owner from step.within.3 in let b = one_owner to step.within.4 in omega arith
    shares_step past who (Op op) blocks reply step once all = all
    shares_step past who (Link at) blocks reply step once all = all
    shares_step past who (Unlink p) blocks reply step once all = all
    shares_step past who (Fill p f) blocks reply step once all = all
    shares_step past who (Evict p f) blocks reply step once all = all
    shares_step past who (Starved wanted sweep) blocks reply step once all = all
    shares_step past who (Spoiled wanted) blocks reply step once all = all
    shares_step past who (Survey e goal sweep) blocks reply step once all = all

    -- after every legal history the shares of all enclaves and the pool are as many as the machine has frames
    pub shares_sum : (h : History) → CoreRun k x h → all_shares h ≡ all_frames k
    shares_sum [] run = shares_start
    shares_sum (e ∷ past) run = shares_step past e.who e.event e.blocks e.reply run.0 (stands_once x past run.1) (shares_sum past run.1)
