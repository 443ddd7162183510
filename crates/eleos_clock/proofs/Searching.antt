-- Tries of frames one after another, and a whole search.
use Rattle.std.proofs.Common.{◌≡◌, inl, inr, ℕ, ◌<◌, ◌≤◌, ◌∷◌, Bool, true, false, Option, Some, None, cond, refl, sym, ◌∙◌, ap, subst, slice_index}
use Rattle.std.proofs.lemmas.Bool.{eq-eqb}
use Rattle.eleos_base.specs.Ties.{Has}
use Rattle.eleos_core.specs.Parts.{frame_cell}
use Rattle.eleos_base.specs.Places.{all_frames}
use Rattle.eleos_plot.specs.declared.cell.Cell.{Cell}
use Rattle.eleos_plot.specs.declared.cell.Cell.TheVariants.{Frame}
use Rattle.eleos_plot.specs.Cells.{part_of_cell}
use Rattle.eleos_turn.specs.Hands.{refused_at}
use Rattle.eleos_turn.specs.Numbers.{less_one}
use Rattle.eleos_machine.specs.declared.holding.ClockTurn.{ClockTurn}
use Rattle.eleos_machine.specs.declared.holding.FreeFrame.{FreeFrame}
use Rattle.eleos_machine.specs.Holding.{HasFrame, holder_seen}
use Rattle.eleos_machine.specs.Machines.{Site, plan_at}
use Rattle.eleos_machine.specs.Notes.{Sweep}
use Rattle.eleos_machine.specs.Passes.{IsLawful, PassState, TookTurn, gave, part_seen, plan_of}
use Rattle.eleos_clock.specs.Answered.{FirstFree, FoundFree, KeepsFree, Rounds, IsFreeCell, TriedFree}
use Rattle.eleos_clock.specs.Searches.{MaySearch, Searches}
use Rattle.eleos_clock.specs.declared.rounds.FoundAt.{FoundAt}
use Rattle.eleos_clock.proofs.Noted.{keeps_on, keeps_same}
use Rattle.eleos_clock.proofs.Rounding.{found_on}
use Rattle.eleos_clock.proofs.Seen.{fits_frame, holder_by_cell}
use Rattle.eleos_clock.proofs.Steps.{is_taken as taken_is, other, searches_gave, searches_other, searches_then, searches_took, taken}

-- the pass made a part of a search, which left its turns and its notes as they were
pub record Idles (s s' : PassState) : Type 0 where
  pub searches : Searches s s'
  pub turns : s'.hand.turns ≡ s.hand.turns
  pub sweep : s'.sweep ≡ s.sweep

module _ (z : Site) (s : PassState) (clock : ClockTurn) (f : ℕ) (may : MaySearch z s clock) (law : IsLawful s) (lt : f < all_frames (plan_of s)) (fn : ℕ) (e : fn ≡ frame_cell (plan_of s) f) where
  abbrev fc : ℕ
  fc = frame_cell (plan_of s) f

  -- before the try the pass does not have the turn of the frame's cell
  pub not_had : Has fn s.hand.turns → ⊥
  not_had turn = may.no_frame f lt (subst (λ n. Has n s.hand.turns) e turn)

  -- the frame was busy
  pub tried_busy : (word : ℕ) (s' : PassState) → s' ≡ record s { hand = refused_at s.hand fn word } → TriedFree s f None s'
  tried_busy word s' is = subst (TriedFree s f None) (sym (is ∙ (λ i. record s { hand = refused_at s.hand (e i) word })))
      (searches_other s s.sweep.words (refused_at s.hand fc word), refl, refl)

  module _ (word : ℕ) (x : Cell) (s₁ : PassState) (took : TookTurn fn word s x s₁) (law₁ : IsLawful s₁) where
    took' : TookTurn fc word s x s₁
    took' = subst (λ n. TookTurn n word s x s₁) e took

    abbrev t : PassState
    t = taken s took'.took.more fc word

    is : s₁ ≡ t
    is = taken_is fc word s x s₁ took'

    has : HasFrame s₁ f x
    has = subst (λ (y : PassState). HasFrame y f x) (sym is) (record {
      number = lt;
      turn = inl refl;
      value = subst (λ (y : PassState). part_of_cell x ≡ part_seen y fc) is took'.value;
      fits = fits_frame (plan_of s) f x lt took'.fits;
    })

    -- a page is in it
    pub tried_lent : (s' : PassState) → s' ≡ gave s₁ fn → TriedFree s f None s'
    tried_lent s' given = subst (TriedFree s f None) (sym (given ∙ (λ i. gave (is i) (e i)))) (
      searches_then s t (gave t fc) law (λ d had. inr had) (subst (Searches s) is (searches_took fc word s x s₁ may.look.made took')) (searches_gave t fc (subst (λ (y : PassState). Rattle.eleos_turn.specs.Numbers.times fc y.hand.turns ≤ 1) is (law₁.hand.once fc))),
      ap (λ v. cond v s.hand.turns (fc ∷ less_one fc s.hand.turns)) (eq-eqb fc fc refl),
      refl,
    )

    -- it is free
    pub tried_free : IsFreeCell x → TriedFree s f (Some (record { frame = f; cell = x })) s₁
    tried_free empty = (
      refl,
      record {
        searches = searches_took fc word s x s₁ may.look.made took';
        has = record { held = has; empty = by_cell x has empty };
        turns = ap (λ (y : PassState). y.hand.turns) is;
      },
      ap (λ (y : PassState). y.sweep.words) is,
    ) where
      by_cell : (y : Cell) → HasFrame s₁ f y → IsFreeCell y → holder_seen s₁ f ≡ None
      by_cell (Frame held) h none = holder_by_cell s₁ law₁ f held h.fits h.value ∙ none
      by_cell _ h none = absurd none

-- one part after another
pub idles_same : (s : PassState) → Idles s s
idles_same s = record { searches = Rattle.eleos_clock.proofs.Steps.searches_same s; turns = refl; sweep = refl }

-- two such parts one after the other are one
pub idles_on : (s s' s'' : PassState) → IsLawful s → Idles s s' → Idles s' s'' → Idles s s''
idles_on s s' s'' law a b = record {
  searches = searches_then s s' s'' law (λ d had. subst (Has d) (sym a.turns) had) a.searches b.searches;
  turns = b.turns ∙ a.turns;
  sweep = b.sweep ∙ a.sweep;
}

-- a frame found free after a part that left the turns as they were was found so by the whole
pub free_on : (s s' s'' : PassState) (found : FreeFrame) → IsLawful s → Searches s s' → s'.hand.turns ≡ s.hand.turns → FoundFree s' found s'' → FoundFree s found s''
free_on s s' s'' found law did turns h = record {
  searches = searches_then s s' s'' law (λ d had. subst (Has d) (sym turns) had) did h.searches;
  has = h.has;
  turns = h.turns ∙ (λ i. frame_cell (plan_at (did.goes.home i)) found.frame ∷ turns i);
}

-- a round after a part that left the turns as they were
pub round_on : (s s' s'' : PassState) (clock : ClockTurn) (free all : Bool) (at : Option FoundAt) → IsLawful s → Searches s s' → s'.hand.turns ≡ s.hand.turns → KeepsFree s.sweep.words s'.sweep.words → Rounds s' clock free all at s'' → Rounds s clock free all at s''
round_on s s' s'' clock free all None law did turns kept h = record {
  searches = searches_then s s' s'' law (λ d had. subst (Has d) (sym turns) had) did h.searches;
  turns = h.turns ∙ turns;
  notes = h.notes;
  keeps = keeps_on s.sweep.words s'.sweep.words s''.sweep.words kept h.keeps;
  noted = h.noted;
}
round_on s s' s'' clock free all (Some at) law did turns kept h = record {
  inside = h.inside;
  found = found_on s s' s'' (slice_index clock.clock at.place) free at.found law did turns h.found;
  notes = h.notes;
  keeps = keeps_on s.sweep.words s'.sweep.words s''.sweep.words kept h.keeps;
  fresh = h.fresh;
}

-- a round after tries that found nothing
pub idles_round : (s s' s'' : PassState) (clock : ClockTurn) (free all : Bool) (at : Option FoundAt) → IsLawful s → FirstFree s clock free None s' → Rounds s' clock free all at s'' → Rounds s clock free all at s''
idles_round s s' s'' clock free all at law none h =
    round_on s s' s'' clock free all at law none.0 none.1 (subst (λ (w : Sweep). KeepsFree s.sweep.words w.words) (sym none.2) (keeps_same s.sweep.words)) h

-- two rounds after such tries, of which the first found nothing
pub idles_rounds : (s s' s'' t : PassState) (clock : ClockTurn) (free : Bool) (at : Option FoundAt) → IsLawful s → FirstFree s clock free None s' → Rounds s' clock free false None s'' → Rounds s'' clock free true at t → Rounds s clock free true at t
idles_rounds s s' s'' t clock free at law none first h =
    let p : Rounds s clock free false None s'' = idles_round s s' s'' clock free false None law none first in
    round_on s s'' t clock free true at law p.searches p.turns p.keeps h
