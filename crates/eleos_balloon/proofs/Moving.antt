-- A free frame goes to another owner.
use Rattle.std.proofs.Common.{◌≡◌, ◌≢◌, inl, inr, ⊎_elim, ℕ, ◌<◌, [], ◌∷◌, ◌++◌, length, true, false, Some, None, if◌then◌else◌, refl, sym, ◌∙◌, ap, subst, arith}
use Rattle.std.proofs.lemmas.Bool.{eq-eqb}
use Rattle.eleos_base.specs.declared.plan.Plan.{Plan}
use Rattle.eleos_base.specs.Ties.{Has}
use Rattle.eleos_base.specs.Histories.{no_link}
use Rattle.eleos_core.specs.Legal.{IsOwner, OneIsPool}
use Rattle.eleos_core.specs.Moves.{move_stamp}
use Rattle.eleos_core.specs.Parts.{Cell as Numbered, Part, Stamp, clock_cell, clock_part, frame_cell, frame_part, holder_in, list_in, owner_in, part_after}
use Rattle.eleos_base.specs.Places.{Owner}
use Rattle.eleos_core.specs.State.{is_owner}
use Rattle.eleos_core.proofs.CellNumbers.{frame_is}
use Rattle.eleos_core.proofs.Shares.{same_owner}
use Rattle.eleos_plot.specs.declared.plot.Ground.{Ground}
use Rattle.eleos_plot.specs.Cells.{is_hand_within, part_of_cell}
use Rattle.eleos_plot.specs.Terms.{core_terms}
use Rattle.eleos_turn.specs.Hands.{Goes, HandState, links_on}
use Rattle.eleos_turn.specs.Numbers.{less_one}
use Rattle.eleos_turn.proofs.Clients.{goes_given, goes_trans}
use Rattle.eleos_turn.proofs.Histories.{linked_append}
use Rattle.eleos_turn.proofs.Numbers.{has_less}
use Rattle.eleos_turn.proofs.Sound.{links_more}
use Rattle.eleos_machine.specs.declared.holding.ClockTurn.{ClockTurn}
use Rattle.eleos_machine.specs.declared.holding.FreeFrame.{FreeFrame}
use Rattle.eleos_machine.specs.Holding.{HasClock}
use Rattle.eleos_machine.specs.Machines.{Site, plan_at}
use Rattle.eleos_machine.specs.Passes.{PassState, gave, part_seen, plan_of, seals_of}
use Rattle.eleos_machine.specs.Stamping.{HasStamped, MayStamp, kept}
use Rattle.eleos_balloon.specs.Lists.{joined, left_by, without_frame}
use Rattle.eleos_balloon.specs.Moves.{HasMoved, MayMove}
use Rattle.eleos_balloon.proofs.Clocks.{join_within, leave_within, owner_clock_is}

-- a clock cell is no frame's
clock_no_frame : (k : Plan) (o : Owner) (f : ℕ) → IsOwner k o → clock_cell k o ≢ frame_cell k f
clock_no_frame k None f known same = omega (arith, same)
clock_no_frame k (Some e) f known same = omega (arith, same, known)

not_owner : (from to : Owner) → OneIsPool from to → is_owner to from ≡ false
not_owner (Some e) None one = refl
not_owner None (Some e) one = refl
not_owner (Some e) (Some o) one = absurd one
not_owner None None one = absurd one

module _ (s : PassState) (free : FreeFrame) (from : Owner) (from_clock : ClockTurn) (to : Owner) (to_clock : ClockTurn) (may : MayMove s free from from_clock to to_clock) where
  abbrev k : Plan
  k = plan_of s

  abbrev f : ℕ
  f = free.frame

  abbrev fc : ℕ
  fc = frame_cell k f

  abbrev d : Stamp
  d = move_stamp s.hand.number f from to

  abbrev drafted : PassState
  drafted = record s { draft = d }

  pub may_stamp : MayStamp drafted
  may_stamp = record {
    own = refl;
    left = may.left;
    turns = λ c touched. ⊎_elim (λ (e : c ≡ fc). subst (λ n. Has n s.hand.turns) (sym e) may.free_is.held.turn)
        (λ (more : Has c (clock_cell k from ∷ clock_cell k to ∷ [])). ⊎_elim (λ (e : c ≡ clock_cell k from). subst (λ n. Has n s.hand.turns) (may.from_has.number ∙ sym e) may.from_has.turn)
        (λ (last : Has c (clock_cell k to ∷ [])). ⊎_elim (λ (e : c ≡ clock_cell k to). subst (λ n. Has n s.hand.turns) (may.to_has.number ∙ sym e) may.to_has.turn) (λ (none : ⊥). absurd none) last) more) touched;
    legal = record { within = (may.actor, may.free_is.held.number, may.one_is_pool, may.from_has.known, may.to_has.known); on_parts = (may.owned, may.free_is.empty, record { reply_is = refl; no_block = refl }) };
    sweep = tt;
    bare = λ c bare. absurd bare;
    covered = λ c is. absurd (cc);
    there = λ c is. absurd (cc);
  }

  module _ (n : ℕ) (s₁ : PassState) (h : HasStamped drafted n s₁) where
    turns : s₁.hand.turns ≡ s.hand.turns
    turns = ap (λ (y : HandState Stamp Part Ground). y.turns) h.stamped.now

    home : s₁.hand.home ≡ s.hand.home
    home = h.goes.home

    -- the frame's part, with its new owner
    pub frame_then : part_seen s₁ fc ≡ frame_part to (holder_in (part_seen s fc))
    frame_then = h.touched fc (inl refl)
        ∙ (ap (λ (cell : Numbered). part_after k (seals_of s) d cell (part_seen s fc)) (frame_is k f may.free_is.held.number)
        ∙ ap (λ b. frame_part (if b then to else owner_in (part_seen s fc)) (holder_in (part_seen s fc))) (eq-eqb f f refl))

    pub right : (q : Part) → q ≡ frame_part to (holder_in (part_of_cell free.cell)) → q ≡ part_seen s₁ fc
    right q is = is ∙ (ap (λ (p : Part). frame_part to (holder_in p)) may.free_is.held.value ∙ sym frame_then)

    listed : (o : Owner) (clock : ClockTurn) → HasClock s o clock → list_in (part_seen s (clock_cell k o)) ≡ clock.clock
    listed o clock has = sym (ap list_in (has.value ∙ ap (part_seen s) has.number))

    from_then : part_seen s₁ (clock_cell k from) ≡ clock_part (without_frame f from_clock.clock)
    from_then = h.touched (clock_cell k from) (inr (inl refl))
        ∙ (ap (λ (cell : Numbered). part_after k (seals_of s) d cell (part_seen s (clock_cell k from))) (owner_clock_is k from may.from_has.known)
        ∙ (ap (λ b. clock_part (if b then without_frame f (list_in (part_seen s (clock_cell k from))) else if is_owner from to then list_in (part_seen s (clock_cell k from)) ++ f ∷ [] else list_in (part_seen s (clock_cell k from)))) (same_owner from)
        ∙ ap (λ list. clock_part (without_frame f list)) (listed from from_clock may.from_has)))

    to_then : part_seen s₁ (clock_cell k to) ≡ clock_part (to_clock.clock ++ f ∷ [])
    to_then = h.touched (clock_cell k to) (inr (inr (inl refl)))
        ∙ (ap (λ (cell : Numbered). part_after k (seals_of s) d cell (part_seen s (clock_cell k to))) (owner_clock_is k to may.to_has.known)
        ∙ (ap (λ b. clock_part (if b then without_frame f (list_in (part_seen s (clock_cell k to))) else if is_owner to to then list_in (part_seen s (clock_cell k to)) ++ f ∷ [] else list_in (part_seen s (clock_cell k to)))) (not_owner from to may.one_is_pool)
        ∙ (ap (λ b. clock_part (if b then list_in (part_seen s (clock_cell k to)) ++ f ∷ [] else list_in (part_seen s (clock_cell k to)))) (same_owner to)
        ∙ ap (λ list. clock_part (list ++ f ∷ [])) (listed to to_clock may.to_has))))

    -- a clock cell whose turn is held still, with its list
    still : (o : Owner) (clock clock' : ClockTurn) → HasClock s o clock → clock'.number ≡ clock.number → part_seen s₁ (clock_cell k o) ≡ clock_part clock'.clock → is_hand_within clock'.clock clock'.hand ≡ true → HasClock (gave s₁ fc) o clock'
    still o clock clock' has same value within = record {
      known = subst (λ (y : Site). IsOwner (plan_at y) o) (sym home) has.known;
      number = subst (λ (y : Site). clock'.number ≡ clock_cell (plan_at y) o) (sym home) (same ∙ has.number);
      turn = subst (λ ts. Has clock'.number (less_one fc ts)) (sym turns)
          (has_less fc clock'.number s.hand.turns (subst (λ m. Has m s.hand.turns) (sym same) has.turn) (λ at. clock_no_frame k o f has.known (sym (same ∙ has.number) ∙ at)));
      value = sym (ap (part_seen s₁) (same ∙ has.number) ∙ value);
      hand_within = within;
    }

    pub moved : (cn : ℕ) (s' : PassState) (from_clock' to_clock' : ClockTurn) → 0 < s.hand.number → cn ≡ fc → s' ≡ gave s₁ cn → from_clock' ≡ left_by f from_clock → to_clock' ≡ joined f to_clock → HasMoved s f from from_clock to to_clock s' from_clock' to_clock'
    moved cn s' from_clock' to_clock' made at given from_is to_is = subst (λ (y : PassState). HasMoved s f from from_clock to to_clock y from_clock' to_clock') (sym (given ∙ ap (gave s₁) at)) (record {
      past = h.past;
      goes = goes_trans core_terms s.hand s₁.hand (gave s₁ fc).hand ((length h.past, d) ∷ []) [] (subst (λ m. Goes core_terms s.hand s₁.hand ((m, d) ∷ [])) h.place h.goes) (goes_given core_terms fc s₁.hand (gave s₁ fc).hand refl);
      sees = h.sees;
      legal = h.legal;
      from_is = from_is;
      to_is = to_is;
      from_has = subst (HasClock (gave s₁ fc) from) (sym from_is) (still from from_clock (left_by f from_clock) may.from_has refl from_then (leave_within f from_clock));
      to_has = subst (HasClock (gave s₁ fc) to) (sym to_is) (still to to_clock (joined f to_clock) may.to_has refl to_then (join_within f to_clock may.to_has.hand_within));
      turns = ap (less_one fc) turns;
      pins = ap (λ (y : HandState Stamp Part Ground). y.pins) h.stamped.now;
      links = λ c. ap (λ (y : HandState Stamp Part Ground). links_on core_terms y c) h.stamped.now
          ∙ (ap (λ (l : ℕ → ℕ → ℕ). l s.hand.number c) (linked_append core_terms s.hand.home.base.grounds no_link (s.hand.seen ++ h.stamped.more) (record { entry = d; kept = kept drafted } ∷ []))
          ∙ links_more core_terms s.hand h.stamped.more s.hand.turns made h.stamped.others c);
      words = ap (λ (y : PassState). y.sweep.words) h.rest;
      since_survey = ap (λ (y : PassState). y.sweep.since_survey) h.rest;
    })
