-- The begin of a round.
use Rattle.std.proofs.Common.{◌≡◌, ⊎_elim, ℕ, ◌<◌, [], ◌∷◌, true, Some, sym, ◌∙◌, ap, subst, arith}
use Rattle.eleos_base.specs.Ties.{Has}
use Rattle.eleos_core.specs.Parts.{clock_cell, frame_cell, page_cell}
use Rattle.eleos_plot.specs.Terms.{core_terms}
use Rattle.eleos_turn.specs.Numbers.{times}
use Rattle.eleos_turn.proofs.Clients.{goes_trans}
use Rattle.eleos_machine.specs.declared.holding.ClockTurn.{ClockTurn}
use Rattle.eleos_machine.specs.Machines.{Site}
use Rattle.eleos_machine.specs.Notes.{cleared}
use Rattle.eleos_machine.specs.Passes.{PassState, plan_of}
use Rattle.eleos_clock.specs.Frees.{NotesFree}
use Rattle.eleos_clock.specs.Turns.{TookClock}
use Rattle.eleos_clock.specs.Searches.{MaySearch}
use Rattle.eleos_clock.proofs.Rounding.{may_on}
use Rattle.eleos_clock.proofs.Steps.{clock_kept}
use Rattle.eleos_swap.specs.Rounds.{Begins, CanSwap}

module _ (z : Site) (e : ℕ) (s : PassState) (can : CanSwap z e s) where
  -- the pass with its sweep emptied
  abbrev s₀ : PassState
  s₀ = record s { sweep = cleared true s.sweep }

  -- it has a number
  pub made : 0 < s.hand.number
  made = let one = can.actor.from_one in omega (arith, one)

  module _ (clock : ClockTurn) (s₁ : PassState) (took : TookClock s₀ e clock s₁) where
    turns : s₁.hand.turns ≡ clock.number ∷ []
    turns = took.turns ∙ ap (λ ts. clock.number ∷ ts) can.no_turn

    only : (c : ℕ) → Has c s₁.hand.turns → c ≡ clock_cell (plan_of s₁) (Some e)
    only c turn = ⊎_elim (λ (is : c ≡ clock.number). is ∙ took.has.number) (λ (none : ⊥). absurd none) (subst (Has c) turns turn)

    -- the search may begin
    pub may : MaySearch z s₁ clock
    may = record {
      look = record {
        own = took.searches.goes.home ∙ can.own;
        made = subst (λ n. 0 < n) (sym took.searches.goes.number) made;
        covered = λ c. let a = can.covered c in let b = took.searches.links c in let d = ap (times c) took.searches.pins in omega (arith, a, b, d);
        absent = λ p lt turn. absurd (let is = only (page_cell (plan_of s₁) p) turn in let known = took.has.known in omega (arith, is, known));
      };
      no_frame = λ f lt turn. let is = only (frame_cell (plan_of s₁) f) turn in let known = took.has.known in omega (arith, is, known);
      enclave = e;
      turn = took.has;
    }

    -- and the free frames are noted
    pub begun : (s₂ : PassState) → NotesFree s₁ clock s₂ → Begins z s e clock s₂
    begun s₂ notes = record {
      goes = goes_trans core_terms s.hand s₁.hand s₂.hand [] [] took.searches.goes notes.searches.goes;
      turns = notes.turns ∙ turns;
      has = clock_kept s₁ s₂ (Some e) clock notes.searches (subst (Has clock.number) (sym notes.turns) took.has.turn) took.has;
      may = may_on z s₁ s₂ clock may notes.searches notes.turns;
      free = notes.free;
      since_survey = notes.searches.since_survey ∙ took.searches.since_survey;
      pins = notes.searches.pins ∙ took.searches.pins;
      links = λ c. notes.searches.links c ∙ took.searches.links c;
      pointers = notes.searches.pointers ∙ took.searches.pointers;
    }
