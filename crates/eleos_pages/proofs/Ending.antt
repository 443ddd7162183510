-- What a stamp and the giving of the page's turn leave.
use Rattle.std.proofs.Common.{◌≡◌, ℕ, List, [], ◌∷◌, ◌++◌, cond, length, refl, sym, ◌∙◌, ap, subst, ⊎_elim, inl}
use Rattle.std.proofs.lemmas.Bool.{eq-eqb}
use Rattle.eleos_base.specs.declared.plot.Event.{Event}
use Rattle.eleos_base.specs.Histories.{Legal, linked, made, no_link, opened}
use Rattle.eleos_base.specs.Ties.{Has, neither}
use Rattle.eleos_core.specs.Parts.{Part, Stamp, after_at}
use Rattle.eleos_core.specs.State.{History}
use Rattle.eleos_plot.specs.declared.plot.Ground.{Ground}
use Rattle.eleos_plot.specs.Histories.{history_after, history_of, part_after}
use Rattle.eleos_plot.specs.Terms.{bare_of, core_terms, tie_of}
use Rattle.eleos_plot.proofs.Stamping.{plot_agrees}
use Rattle.eleos_turn.specs.Hands.{Goes, HandState, without_turn}
use Rattle.eleos_turn.specs.Numbers.{less_one, numbers_of}
use Rattle.eleos_turn.proofs.Clients.{goes_given, goes_links, goes_trans}
use Rattle.eleos_turn.proofs.Sound.{sound_given}
use Rattle.eleos_turn.proofs.Histories.{legal_back, legal_front, made_append, made_apart}
use Rattle.eleos_machine.specs.Machines.{IsMachine, Site}
use Rattle.eleos_machine.specs.Notes.{Sweep, after_entry}
use Rattle.eleos_machine.specs.Passes.{IsLawful, PassState, gave, part_seen, plan_of, seals_of}
use Rattle.eleos_machine.specs.Stamping.{HasStamped, IsOwnSweep, MayStamp, kept}
use Rattle.eleos_pages.specs.Entered.{Enters}
use Rattle.eleos_pages.specs.Held.{EntersHeld, MayEnter}

-- the last entry comes first
history_last : (past : History) (es : List (Event Stamp Part)) (e : Event Stamp Part) → history_after past (es ++ e ∷ []) ≡ e.entry.entry ∷ history_after past es
history_last past [] e = refl
history_last past (d ∷ es) e = history_last (d.entry.entry ∷ past) es e

-- all but the last entry
abbrev earlier : History → History
earlier [] = []
earlier (e ∷ past) = past

-- what the history before a stamp made of a cell whose turn was held is what the pass had seen of it
pub before_stamp : (s s' : PassState) (n : ℕ) (h : HasStamped s n s') → IsLawful s' → (c : ℕ) → Has c s.hand.turns → part_after s.hand.home.base.grounds h.past c ≡ part_seen s c
before_stamp s s' n h law c held =
    let z : Site = s.hand.home in
    let g : Ground = z.base.grounds in
    let more = h.stamped.more in
    let e : Event Stamp Part = record { entry = s.draft; kept = kept s } in
    let home : s'.hand.home ≡ z = ap (λ (y : HandState Stamp Part Ground). y.home) h.stamped.now in
    let machine : IsMachine z = subst IsMachine home law.machine in
    let past : h.past ≡ history_of (s.hand.seen ++ more)
    = ap earlier (sym h.sees ∙ (ap (λ (y : HandState Stamp Part Ground). history_of y.seen) h.stamped.now ∙ history_last [] (s.hand.seen ++ more) e)) in
    let all : Legal core_terms z.base ((s.hand.seen ++ more) ++ e ∷ []) = subst (λ (y : HandState Stamp Part Ground). Legal core_terms y.home.base y.seen) h.stamped.now law.hand.legal in
    let front : Legal core_terms z.base (s.hand.seen ++ more) = legal_front core_terms g (opened core_terms z.base) no_link (s.hand.seen ++ more) (e ∷ []) all in
    let seen_is : Legal core_terms z.base s.hand.seen = legal_front core_terms g (opened core_terms z.base) no_link s.hand.seen more front in
    ap (λ (p : History). part_after g p c) past
    ∙ (sym ((plot_agrees z.base (s.hand.seen ++ more) machine.opening front).parts c)
    ∙ (ap (λ (f : ℕ → Part). f c) (made_append (opened core_terms z.base) s.hand.seen more)
    ∙ (made_apart core_terms g (made core_terms z.base s.hand.seen) (linked core_terms g s.hand.seen) (numbers_of s.hand.number) s.hand.turns more (legal_back core_terms g (opened core_terms z.base) no_link s.hand.seen more front) h.stamped.others c held
    ∙ (plot_agrees z.base s.hand.seen machine.opening seen_is).parts c)))

-- the only turn is given back
pub only_turn : (c : ℕ) (turns : List ℕ) → turns ≡ c ∷ [] → less_one c turns ≡ []
only_turn c turns is = ap (less_one c) is ∙ ap (λ b. cond b [] (c ∷ [])) (eq-eqb c c refl)

-- the one number of a list that is in another
only_that : (c cell : ℕ) (turns : List ℕ) → Has cell turns → Has c (cell ∷ []) → Has c turns
only_that c cell turns turn one = ⊎_elim (λ (e : c ≡ cell). subst (λ d. Has d turns) (sym e) turn) (λ (none : ⊥). absurd none) one

-- a call may be stamped as any entry
pub may_stamp : (s : PassState) (cell : ℕ) → MayEnter s cell → MayStamp s
may_stamp s cell may = record {
  own = may.own;
  left = may.left;
  turns = λ c touched. only_that c cell s.hand.turns may.turn (subst (Has c) may.touches touched);
  legal = may.legal;
  sweep = subst (IsOwnSweep s) (sym may.event) tt;
  bare = λ c bare. absurd (subst (λ e. Has c (bare_of (plan_of s) e)) may.event bare);
  covered = λ c adding. let none = sym (ap (λ e. tie_of (plan_of s) e s.draft.entry.reply) may.event) ∙ adding in cc;
  there = λ c taking. let none = sym (ap (λ e. tie_of (plan_of s) e s.draft.entry.reply) may.event) ∙ taking in cc;
}

-- where the draft stays, it is that of the pass then
pub and_draft : (s s' : PassState) (sweep : Sweep) → s' ≡ record s { hand = s'.hand; sweep = sweep } → s' ≡ record s { hand = s'.hand; draft = s'.draft; sweep = sweep }
and_draft s s' sweep rest = rest ∙ ap (λ d. record s { hand = s'.hand; draft = d; sweep = sweep }) (sym (ap (λ (y : PassState). y.draft) rest))

-- the draft was stamped, which ties nothing
abbrev pub entered : (s s' : PassState) (n : ℕ) → tie_of (plan_of s) s.draft.entry.event s.draft.entry.reply ≡ neither → HasStamped s n s' → Enters s s.draft s.hand.turns s'
entered s s' n untied h = record {
  past = h.past;
  goes = subst (λ (m : ℕ). Goes core_terms s.hand s'.hand ((m, s.draft) ∷ [])) h.place h.goes;
  sees = h.sees;
  legal = h.legal;
  turns = ap (λ (y : HandState Stamp Part Ground). y.turns) h.stamped.now;
  pins = ap (λ (y : HandState Stamp Part Ground). y.pins) h.stamped.now;
  links = goes_links core_terms s.hand s'.hand ((n, s.draft) ∷ []) h.goes (untied, tt);
  refused = ap (λ (y : HandState Stamp Part Ground). y.refused) h.stamped.now;
  rest = and_draft s s' (after_entry s.draft.entry.event s.sweep) h.rest;
}

-- then a turn was given back
abbrev pub entered_gave : (s s' : PassState) (d : Stamp) (held : List ℕ) (c : ℕ) → Enters s d held s' → Enters s d (less_one c held) (gave s' c)
entered_gave s s' d held c e = record {
  past = e.past;
  goes = goes_trans core_terms s.hand s'.hand (without_turn s'.hand c) ((length e.past, d) ∷ []) [] e.goes (goes_given core_terms c s'.hand (without_turn s'.hand c) refl);
  sees = e.sees;
  legal = e.legal;
  turns = ap (less_one c) e.turns;
  pins = e.pins;
  links = e.links;
  refused = e.refused;
  rest = ap (λ (y : PassState). gave y c) e.rest;
}

-- a lawful pass that gives back a turn that it has is lawful still
pub lawful_gave : (s : PassState) (c : ℕ) → IsLawful s → Has c s.hand.turns → IsLawful (gave s c)
lawful_gave s c law has = record { machine = law.machine; hand = sound_given core_terms s.hand c law.hand has; run = law.run }

-- a turn that was held is held still
pub turn_stays : (s s' : PassState) (n c : ℕ) → HasStamped s n s' → Has c s.hand.turns → Has c s'.hand.turns
turn_stays s s' n c h has = subst (Has c) (sym (ap (λ (y : HandState Stamp Part Ground). y.turns) h.stamped.now)) has

-- the draft was stamped, and the turn given back
pub ends : (s s' : PassState) (cell n : ℕ) → MayEnter s cell → HasStamped s n s' → IsLawful s' → EntersHeld s cell s.draft (gave s' cell)
ends s s' cell n may h law = record {
  entered = entered_gave s s' s.draft s.hand.turns cell (entered s s' n (ap (λ e. tie_of (plan_of s) e s.draft.entry.reply) may.event) h);
  before = before_stamp s s' n h law cell may.turn;
}

-- the page that is given back has the part that the entry made of it
pub made_of : (s s' : PassState) (cell n : ℕ) → MayEnter s cell → HasStamped s n s' → part_seen s' cell ≡ after_at (plan_of s) (seals_of s) s.draft (part_seen s) cell
made_of s s' cell n may h = h.touched cell (subst (Has cell) (sym may.touches) (inl refl))
