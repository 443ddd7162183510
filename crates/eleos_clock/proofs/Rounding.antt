-- A round, step by step.
use Rattle.std.proofs.Common.{◌≡◌, ⊎_elim, ℕ, ◌+◌, ◌<◌, ◌≤◌, List, [], ◌∷◌, length, Bool, false, Some, None, refl, sym, ◌∙◌, ap, subst, arith, get_or}
use Rattle.eleos_base.specs.Ties.{Has}
use Rattle.eleos_core.specs.Parts.{frame_cell, frame_in, page_cell}
use Rattle.eleos_base.specs.Places.{all_frames, all_pages}
use Rattle.eleos_turn.specs.Numbers.{times}
use Rattle.eleos_machine.specs.declared.holding.ClockTurn.{ClockTurn}
use Rattle.eleos_machine.specs.Holding.{HasClock}
use Rattle.eleos_machine.specs.Machines.{Site, plan_at}
use Rattle.eleos_machine.specs.Notes.{cleared, free_notes, is_noted_free}
use Rattle.eleos_machine.specs.Passes.{IsLawful, PassState, part_seen, plan_of}
use Rattle.eleos_clock.specs.declared.found.Found.{Found}
use Rattle.eleos_clock.specs.declared.found.Found.TheVariants.{Free, Sole}
use Rattle.eleos_clock.specs.Lists.{AreNotes, frame_at, place_at}
use Rattle.eleos_clock.specs.Going.{GoesRound}
use Rattle.eleos_clock.specs.Searches.{MaySearch, Searches}
use Rattle.eleos_clock.specs.Answered.{FoundIn, Passed, RoundPassed}
use Rattle.eleos_clock.proofs.Lists.{has_into, permutes, place_inside, place_of}
use Rattle.std.proofs.lemmas.List.Sums.{sum-map}
use Rattle.eleos_base.specs.declared.plan.EnclavePlan.{EnclavePlan}
use Rattle.eleos_turn.proofs.Numbers.{pigeons}
use Rattle.eleos_clock.proofs.Once.{once_in}
use Rattle.eleos_clock.proofs.Noted.{begins, ends, has_room, keeps_kept, keeps_more, keeps_on, steps}
use Rattle.eleos_clock.proofs.Seen.{list_distinct, list_within}
use Rattle.eleos_clock.proofs.Steps.{clock_kept, searches_other, searches_then}

-- a search may go on after a part of it that gave all turns back
pub may_on : (z : Site) (s s' : PassState) (clock : ClockTurn) → MaySearch z s clock → Searches s s' → s'.hand.turns ≡ s.hand.turns → MaySearch z s' clock
may_on z s s' clock may did turns = record {
  look = record {
    own = home ∙ may.look.own;
    made = subst (λ n. 0 < n) (sym did.goes.number) may.look.made;
    covered = λ c. let a = may.look.covered c in let b = did.links c in let e = ap (times c) did.pins in omega (arith, a, b, e);
    absent = subst (λ (y : Site). (p : ℕ) → p < all_pages (plan_at y) → Has (page_cell (plan_at y) p) s'.hand.turns → frame_in (part_seen s' (page_cell (plan_at y) p)) ≡ None) (sym home)
        (λ p lt turn. let had = subst (Has (page_cell (plan_of s) p)) turns turn in ap frame_in (did.parts (page_cell (plan_of s) p) had) ∙ may.look.absent p lt had);
  };
  no_frame = subst (λ (y : Site). (f : ℕ) → f < all_frames (plan_at y) → Has (frame_cell (plan_at y) f) s'.hand.turns → ⊥) (sym home)
      (λ f lt turn. may.no_frame f lt (subst (Has (frame_cell (plan_of s) f)) turns turn));
  enclave = may.enclave;
  turn = clock_kept s s' (Some may.enclave) clock did (subst (Has clock.number) (sym turns) may.turn.turn) may.turn;
} where
  home : s'.hand.home ≡ s.hand.home
  home = did.goes.home

-- what was found after such a part was found in the whole
pub found_on : (s s' s'' : PassState) (f : ℕ) (free : Bool) (found : Found) → IsLawful s → Searches s s' → s'.hand.turns ≡ s.hand.turns → FoundIn s' f free found s'' → FoundIn s f free found s''
found_on s s' s'' f free (Free found) law did turns h = (
  h.0,
  h.1,
  record {
    searches = searches_then s s' s'' law (λ d had. subst (Has d) (sym turns) had) did h.2.searches;
    has = h.2.has;
    turns = h.2.turns ∙ (λ i. frame_cell (plan_at (did.goes.home i)) found.frame ∷ turns i);
  },
)
found_on s s' s'' f free (Sole found) law did turns h = (
  h.0,
  record {
    searches = searches_then s s' s'' law (λ d had. subst (Has d) (sym turns) had) did h.1.searches;
    has = h.1.has;
    turns = h.1.turns ∙ (λ i. page_cell (plan_at (did.goes.home i)) found.page ∷ frame_cell (plan_at (did.goes.home i)) found.frame ∷ turns i);
  },
)

-- an enclave has few frames
pub few_at : (s : PassState) → IsLawful s → (e : ℕ) (clock : ClockTurn) → HasClock s (Some e) clock → length clock.clock ≤ 512
few_at s law e clock has =
    let good = law.machine.made.good in
    let all = pigeons (all_frames (plan_of s)) clock.clock (λ g. once_in g clock.clock (list_distinct s law e clock has))
    (λ f h. let at = place_of f clock.clock (has_into f clock.clock h) in list_within s law e clock has f (at.0, at.1, sym at.2)) in
    let same = sum-map (λ (made : EnclavePlan). made.frames) (plan_of s).enclaves in let most = good.frames in omega (arith, all, same, most)

module _ (z : Site) (s : PassState) (clock : ClockTurn) (free all : Bool) (may : MaySearch z s clock) (law : IsLawful s) where
  -- a round begins
  pub starts : (start : ℕ) (s' : PassState) → AreNotes clock.clock free (free_notes s.sweep.words) → s' ≡ record s { sweep = cleared false s.sweep } → GoesRound s clock start 0 free all s'
  starts start s' notes is = subst (GoesRound s clock start 0 free all) (sym is) (record {
    searches = searches_other s (free_notes s.sweep.words) s.hand;
    turns = refl;
    far = begins clock.clock start free all s.sweep.words notes;
    keeps = keeps_kept s.sweep.words;
  })

  module _ (start : ℕ) (within : start < length clock.clock) where
    -- a frame of the list is one of the machine
    pub in_machine : (i : ℕ) → i < length clock.clock → frame_at clock.clock start i < all_frames (plan_of s)
    in_machine i lt = list_within s law may.enclave clock may.turn (frame_at clock.clock start i) (listed (place_at start i (length clock.clock)) (place_inside start i (length clock.clock) within lt)) where
      listed : (p : ℕ) → p < length clock.clock → Rattle.std.specs.Prelude.Contains clock.clock (get_or clock.clock p 0)
      listed p inside = (p, inside, Rattle.eleos_clock.proofs.Once.same_default clock.clock p (get_or clock.clock p 0) 0 inside)

    module _ (i : ℕ) (lt : i < length clock.clock) (s' : PassState) (goes : GoesRound s clock start i free all s') where
      -- there is room for a note of the frame, if it is not noted
      pub room : is_noted_free (frame_at clock.clock start i) s'.sweep.words ≡ false → length s'.sweep.words < all_frames (plan_of s)
      room unnoted = has_room clock.clock start free all (list_distinct s law may.enclave clock may.turn) within i (all_frames (plan_of s)) s'.sweep.words lt
          (λ f has. let at = place_of f clock.clock (has_into f clock.clock has) in list_within s law may.enclave clock may.turn f (at.0, at.1, sym at.2)) goes.far unnoted

      -- the frame of the next step, if it is not noted as free, has no note at all
      pub once : is_noted_free (frame_at clock.clock start i) s'.sweep.words ≡ false → times (frame_at clock.clock start i) (Rattle.eleos_core.specs.Sweeps.frames_in s'.sweep.words) ≡ 0
      once unnoted = goes.far.later i (omega arith) lt unnoted

      -- one step more
      pub goes_on : (s'' : PassState) → Passed s' (frame_at clock.clock start i) free all s'' → GoesRound s clock start (i + 1) free all s''
      goes_on s'' passed = record {
        searches = searches_then s s' s'' law (λ d had. subst (Has d) (sym goes.turns) had) goes.searches passed.searches;
        turns = passed.turns ∙ goes.turns;
        far = steps clock.clock start free all (list_distinct s law may.enclave clock may.turn) within i s'.sweep.words s''.sweep.words lt goes.far passed.notes;
        keeps = keeps_on s.sweep.words s'.sweep.words s''.sweep.words goes.keeps (keeps_more free all (frame_at clock.clock start i) s'.sweep.words s''.sweep.words passed.notes);
      }

    -- the end of a round
    pub round_ends : (s' : PassState) → GoesRound s clock start (length clock.clock) free all s' → RoundPassed s clock free all s'
    round_ends s' goes = record {
      searches = goes.searches;
      turns = goes.turns;
      notes = goes.far.notes;
      keeps = goes.keeps;
      noted = λ is. ends clock.clock start free all (list_distinct s law may.enclave clock may.turn) within s'.sweep.words goes.far is;
    }

  -- the same where there may be no frame
  none_in : (g : ℕ) (xs : List ℕ) → length xs ≤ 0 → times g xs ≡ 0
  none_in g [] few = refl
  none_in g (x ∷ xs) few = absurd (omega (arith, few))

  -- the end of a round, in a list that may have no frame
  pub round_ends_at : (start : ℕ) (s' : PassState) → (0 < length clock.clock → start < length clock.clock) → GoesRound s clock start (length clock.clock) free all s' → RoundPassed s clock free all s'
  round_ends_at start s' within goes = ⊎_elim
      (λ (some : 0 < length clock.clock). round_ends start (within some) s' goes)
      (λ (few : length clock.clock ≤ 0). record {
        searches = goes.searches;
        turns = goes.turns;
        notes = goes.far.notes;
        keeps = goes.keeps;
        noted = λ is. record {
          all = permutes (Rattle.eleos_core.specs.Sweeps.frames_in s'.sweep.words) clock.clock (λ g. let none = none_in g clock.clock few in let high = goes.far.notes.once g in omega (arith, none, high));
          notes = goes.far.notes.notes;
          taken = goes.far.notes.taken;
        };
      })
      (Rattle.std.proofs.lemmas.Bool.cases_lt 0 (length clock.clock))

  -- the list has few frames
  pub few : length clock.clock ≤ 512
  few = few_at s law may.enclave clock may.turn
