-- What a pass has seen is a legal history of its machine, so its calls can be told in the machine's words.
use Rattle.std.proofs.Common.{◌≡◌, Result, Ok, Err, IfOk, IfErr, ℕ, zero, suc, ◌+◌, ◌<◌, List, [], ◌∷◌, ◌++◌, length, refl, sym, ◌∙◌, ap, subst, arith}
use Rattle.eleos_base.specs.declared.plot.Event.{Event}
use Rattle.eleos_base.specs.Ties.{Has}
use Rattle.eleos_core.specs.Legal.{CoreRun, CoreStep}
use Rattle.eleos_core.specs.Parts.{MayStep, Part, Stamp, after_at, cell_of}
use Rattle.eleos_core.specs.State.{History}
use Rattle.eleos_plot.specs.declared.cell.Cell.{Cell}
use Rattle.eleos_plot.specs.declared.plot.Ground.{Ground}
use Rattle.eleos_plot.specs.Histories.{IsKept, history_after, history_of, kept_by}
use Rattle.eleos_plot.specs.Terms.{core_terms}
use Rattle.eleos_plot.specs.Fits.{Fits}
use Rattle.eleos_plot.proofs.Fitting.{cells_fit}
use Rattle.eleos_plot.proofs.Stamping.{kept_is_made, plot_agrees}
use Rattle.eleos_turn.specs.declared.answers.Busy.{Busy}
use Rattle.eleos_turn.specs.declared.answers.Taken.{Taken}
use Rattle.eleos_turn.specs.Hands.{CanStamp, HandState, IsSound, Stamped, Took, part_of, refused_at}
use Rattle.eleos_turn.proofs.Clients.{goes_stamped, goes_took, stamped_else, stamped_part, took_part}
use Rattle.eleos_machine.specs.Machines.{IsMachine, Site}
use Rattle.eleos_machine.specs.Notes.{after_entry}
use Rattle.eleos_machine.specs.Passes.{IsLawful, PassState, TookTurn, part_seen, plan_of, seals_of, seen}
use Rattle.eleos_machine.specs.Stamping.{HasStamped, MayStamp, kept_of}

-- what holds of each pass
pub lawful : (s : PassState) → IsMachine s.hand.home → IsSound core_terms s.hand → IsLawful s
lawful s machine sound = record { machine = machine; hand = sound; run = plot_agrees s.hand.home.base s.hand.seen machine.opening sound.legal }

-- the parts that the hand keeps are those that the history made
pub parts_are : (s : PassState) → IsLawful s → part_of core_terms s.hand ≡ part_seen s
parts_are s law = λ i c. law.run.parts c i

-- a take, in the machine's words
pub took_turn : (c n : ℕ) (s s' : PassState) (x : Cell) → 0 < s.hand.number → IsLawful s → IsLawful s' → s' ≡ record s { hand = s'.hand } → Took core_terms c n s.hand x s'.hand → TookTurn c n s x s'
took_turn c n s s' x made law law' rest took = record {
  took = took;
  rest = rest;
  value = took.part ∙ law'.run.parts c;
  fits =
      let g : Ground = s'.hand.home.base.grounds in
      let home : s'.hand.home ≡ s.hand.home = ap (λ (y : HandState Stamp Part Ground). y.home) took.now in
      subst (λ (z : Site). Fits z.base.grounds.plan (cell_of z.base.grounds.plan c) x) home (cells_fit g.plan g.key (seen s') c x (record { good = law'.machine.made.good; legal = law'.run.legal }) (took.part ∙ law'.run.parts c));
  held = λ d has. sym (law'.run.parts d) ∙ (took_part core_terms c n s.hand s'.hand x took law'.hand d has ∙ law.run.parts d);
  goes = goes_took core_terms c n s.hand s'.hand x made took;
}

-- the last entry comes first
history_last : (past : History) (es : List (Event Stamp Part)) (e : Event Stamp Part) → history_after past (es ++ e ∷ []) ≡ e.entry.entry ∷ history_after past es
history_last past [] e = refl
history_last past (d ∷ es) e = history_last (d.entry.entry ∷ past) es e

history_length : (past : History) (es : List (Event Stamp Part)) → length (history_after past es) ≡ length past + length es
history_length past [] = omega arith
history_length past (e ∷ es) = let rest = history_length (e.entry.entry ∷ past) es in omega (arith, rest)

-- the first of a legal history's entries is legal after the others
last_legal : (s : PassState) (e : _) (past : History) → CoreRun (plan_of s) (seals_of s) (e ∷ past) → CoreStep (plan_of s) (seals_of s) past e
last_legal s e past run = run.0

-- a hand that has stamps left was made
some_number : (s : HandState Stamp Part Ground) → IsSound core_terms s → 0 < s.left → 0 < s.number
some_number s sound left = by_number s.number refl where
  by_number : (n : ℕ) → s.number ≡ n → 0 < s.number
  by_number zero is = let none = (sound.idle is).2 in absurd (omega (arith, none, left))
  by_number (suc n) is = omega (arith, is)

-- what the turnstile asks of a stamp
pub can_stamp : (s : PassState) → IsLawful s → MayStamp s → CanStamp core_terms s.hand s.draft (kept_of s.hand s.draft)
can_stamp s law may =
    let made = kept_is_made s.hand.home.base.grounds (part_of core_terms s.hand) s.draft (subst (λ (f : ℕ → Part). MayStep (plan_of s) (seals_of s) s.draft f) (sym (parts_are s law)) may.legal) in
    record {
      own = may.own;
      left = may.left;
      held = may.turns;
      cells = made.cells;
      steps = made.steps;
      bare = may.bare;
      adds_link = may.covered;
      takes_link = may.there;
    }

-- a stamp, in the machine's words
pub has_stamped : (s s' : PassState) (n : ℕ) → IsLawful s → IsLawful s' → MayStamp s → s' ≡ record s { hand = s'.hand; sweep = after_entry s.draft.entry.event s.sweep } → Stamped core_terms s.draft (kept_of s.hand s.draft) s.hand n s'.hand → HasStamped s n s'
has_stamped s s' n law law' may rest stamped =
    let g : Ground = s.hand.home.base.grounds in
    let d : Stamp = s.draft in
    let f : ℕ → Part = part_of core_terms s.hand in
    let parts = parts_are s law in
    let can = can_stamp s law may in
    let made : IsKept g f d (kept_by g f d) = kept_is_made g f d (subst (λ (f : ℕ → Part). MayStep (plan_of s) (seals_of s) d f) (sym parts) may.legal) in
    let e : Event Stamp Part = record { entry = d; kept = kept_by g f d } in
    let past : History = history_of (s.hand.seen ++ stamped.more) in
    let home : s'.hand.home ≡ s.hand.home = ap (λ (y : HandState Stamp Part Ground). y.home) stamped.now in
    let sees : seen s' ≡ d.entry ∷ past = ap (λ (y : HandState Stamp Part Ground). history_of y.seen) stamped.now ∙ history_last [] (s.hand.seen ++ stamped.more) e in
    record {
      rest = rest;
      stamped = subst (λ (f : ℕ → Part). Stamped core_terms d (kept_by g f d) s.hand n s'.hand) parts stamped;
      goes = goes_stamped core_terms d (kept_by g f d) s.hand s'.hand n (some_number s.hand law.hand may.left) can stamped;
      past = past;
      sees = sees;
      place = stamped.stamp ∙ sym (history_length [] (s.hand.seen ++ stamped.more) ∙ omega arith);
      legal = last_legal s d.entry past (subst (λ (h : History). CoreRun (plan_of s) (seals_of s) h) sees (subst (λ (z : Site). CoreRun z.base.grounds.plan (Rattle.eleos_core.specs.Seals.seals_by z.base.grounds.key) (seen s')) home law'.run.legal));
      touched = λ c in_foot. sym (law'.run.parts c) ∙ (stamped_part core_terms d (kept_by g f d) s.hand s'.hand n stamped c (subst (Has c) (sym made.cells) in_foot) ∙ (made.steps.made c in_foot ∙ ap (λ (f : ℕ → Part). after_at (plan_of s) (seals_of s) d f c) parts));
      others = λ c has away. sym (law'.run.parts c) ∙ (stamped_else core_terms d (kept_by g f d) s.hand s'.hand n stamped law'.hand c has (λ in_kept. away (subst (Has c) made.cells in_kept)) ∙ law.run.parts c);
    }

-- the machine of a hand stays
home_kept : (z z' : Site) → z' ≡ z → IsMachine z → IsMachine z'
home_kept z z' is machine = subst IsMachine (sym is) machine

-- what a take leaves of a pass
pub after_take : (c n : ℕ) (v s : PassState) (hand' : HandState Stamp Part Ground) (x : Cell) → v ≡ s → 0 < s.hand.number → IsLawful s → IsSound core_terms hand' → Took core_terms c n v.hand x hand'
    → let s' : PassState = record { hand = hand'; draft = v.draft; sweep = v.sweep; pointers = v.pointers } in TookTurn c n s x s' × IsLawful s'
after_take c n v s hand' x is made law sound took =
    subst (λ (y : PassState). Took core_terms c n y.hand x hand' → let s' : PassState = record { hand = hand'; draft = y.draft; sweep = y.sweep; pointers = y.pointers } in TookTurn c n s x s' × IsLawful s') (sym is)
    (λ took.
    let s' : PassState = record { hand = hand'; draft = s.draft; sweep = s.sweep; pointers = s.pointers } in
    let law' = lawful s' (home_kept s.hand.home hand'.home (ap (λ (y : HandState Stamp Part Ground). y.home) took.now) law.machine) sound in
    (took_turn c n s s' x made law law' refl took, law'))
    took

-- what a try leaves of a pass, whether it took the turn or not
pub after_try : (c : ℕ) (v s : PassState) (hand' : HandState Stamp Part Ground) (r : Result (Taken Cell) Busy) → v ≡ s → 0 < s.hand.number → IsLawful s → IsSound core_terms hand'
    → IfOk r (λ t. Took core_terms c t.word v.hand t.value hand') → IfErr r (λ b. hand' ≡ refused_at v.hand c b.word)
    → let s' : PassState = record { hand = hand'; draft = v.draft; sweep = v.sweep; pointers = v.pointers } in IfOk r (λ t. TookTurn c t.word s t.value s') × IsLawful s'
after_try c v s hand' (Ok t) is made law sound took refused = after_take c t.word v s hand' t.value is made law sound took
after_try c v s hand' (Err b) is made law sound took refused =
    subst (λ (y : PassState). hand' ≡ refused_at y.hand c b.word → let s' : PassState = record { hand = hand'; draft = y.draft; sweep = y.sweep; pointers = y.pointers } in (Unit {0}) × IsLawful s') (sym is)
    (λ refused. (tt, lawful (record { hand = hand'; draft = s.draft; sweep = s.sweep; pointers = s.pointers }) (home_kept s.hand.home hand'.home (ap (λ (y : HandState Stamp Part Ground). y.home) refused) law.machine) sound))
    refused

-- what a stamp leaves of a pass
pub after_stamp : (n : ℕ) (v s : PassState) (hand' : HandState Stamp Part Ground) → v ≡ s → IsLawful s → MayStamp s → IsSound core_terms hand' → Stamped core_terms v.draft (kept_of v.hand v.draft) v.hand n hand'
    → let s' : PassState = record { hand = hand'; draft = v.draft; sweep = after_entry v.draft.entry.event v.sweep; pointers = v.pointers } in HasStamped s n s' × IsLawful s'
after_stamp n v s hand' is law may sound stamped =
    subst (λ (y : PassState). Stamped core_terms y.draft (kept_of y.hand y.draft) y.hand n hand' → let s' : PassState = record { hand = hand'; draft = y.draft; sweep = after_entry y.draft.entry.event y.sweep; pointers = y.pointers } in HasStamped s n s' × IsLawful s') (sym is)
    (λ stamped.
    let s' : PassState = record { hand = hand'; draft = s.draft; sweep = after_entry s.draft.entry.event s.sweep; pointers = s.pointers } in
    let law' = lawful s' (home_kept s.hand.home hand'.home (ap (λ (y : HandState Stamp Part Ground). y.home) stamped.now) law.machine) sound in
    (has_stamped s s' n law law' may refl stamped, law'))
    stamped
