-- What holds of the fields of a pass: the last of its hand's entries, and its room.
use Rattle.std.proofs.Common.{◌≡◌, ℕ, zero, suc, ◌+◌, ◌<◌, ◌≤◌, List, [], ◌∷◌, ◌++◌, Result, Ok, Err, IfOk, IfErr, refl, sym, ◌∙◌, ap, subst, arith, length, append_assoc, append-nil, length-append}
use Rattle.std.specs.List.{AllByRecursion}
use Rattle.eleos_base.specs.declared.plot.Event.{Event}
use Rattle.eleos_base.specs.Histories.{Signed}
use Rattle.eleos_core.specs.Parts.{Part, Stamp}
use Rattle.eleos_plot.specs.declared.cell.Cell.{Cell}
use Rattle.eleos_plot.specs.declared.plot.Ground.{Ground}
use Rattle.eleos_plot.specs.Terms.{core_terms}
use Rattle.eleos_turn.specs.declared.answers.Busy.{Busy}
use Rattle.eleos_turn.specs.declared.answers.Taken.{Taken}
use Rattle.eleos_turn.specs.Hands.{Goes, HandState, Home, IsSound, Took, dealt, entries, own, refused_at}
use Rattle.eleos_turn.proofs.Clients.{goes_took}
use Rattle.eleos_turn.proofs.Numbers.{else}
use Rattle.eleos_machine.specs.Closing.{AllOfMachine}
use Rattle.eleos_machine.specs.Machines.{IsMachine, Site, all_passes, plan_at}
use Rattle.eleos_machine.specs.Passes.{PassState, last_stamp}

-- one more is the last
last_of : (es : List (ℕ × Stamp)) (e : ℕ × Stamp) → last_stamp (es ++ e ∷ []) ≡ e.0
last_of [] e = refl
last_of (d ∷ []) e = refl
last_of (d ∷ c ∷ es) e = last_of (c ∷ es) e

-- no entry is signed by 0
own_none : (count n : ℕ) (es : List (Event Stamp Part)) → Signed core_terms count es → own core_terms 0 n es ≡ []
own_none count n [] signed = refl
own_none count n (e ∷ es) signed = let some = signed.0.0 in else (e.entry.entry.who) 0 _ _ (λ is. omega (arith, is, some)) ∙ own_none count (n + 1) es signed.1

-- a hand of no number made none
pub last_none : (s : HandState Stamp Part Ground) → s.number ≡ 0 → IsSound core_terms s → 0 ≡ last_stamp (entries core_terms s)
last_none s is sound = sym (ap (λ k. last_stamp (own core_terms k 0 s.seen)) is ∙ ap last_stamp (own_none s.home.base.hands 0 s.seen sound.signed))

-- what holds of a pass with this hand, whose last stamp is this, and whose room is empty and has this capacity
abbrev pub AreFields : HandState Stamp Part Ground → ℕ → Type 0 → ℕ → Type 0
AreFields s last Empty capacity = IsMachine s.home × (last ≡ last_stamp (entries core_terms s)) × Empty × (all_passes (plan_at s.home) ≤ capacity)

-- the same holds after the hand made no entry
pub fields_kept : (s s' : HandState Stamp Part Ground) (last : ℕ) (Empty : Type 0) (capacity : ℕ) → Goes core_terms s s' [] → AreFields s last Empty capacity → AreFields s' last Empty capacity
fields_kept s s' last Empty capacity goes fields = (
  subst IsMachine (sym goes.home) fields.0,
  fields.1 ∙ sym (ap last_stamp (goes.own ∙ append-nil (entries core_terms s))),
  fields.2,
  subst (λ (z : Site). all_passes (plan_at z) ≤ capacity) (sym goes.home) fields.3,
)

-- and after it made one, which is its last
pub fields_stamped : (s s' : HandState Stamp Part Ground) (last n : ℕ) (d : Stamp) (Empty : Type 0) (capacity : ℕ) → Goes core_terms s s' ((n, d) ∷ []) → AreFields s last Empty capacity → AreFields s' n Empty capacity
fields_stamped s s' last n d Empty capacity goes fields = (
  subst IsMachine (sym goes.home) fields.0,
  sym (ap last_stamp goes.own ∙ last_of (entries core_terms s) (n, d)),
  fields.2,
  subst (λ (z : Site). all_passes (plan_at z) ≤ capacity) (sym goes.home) fields.3,
)

-- a try that found the cell busy, or not, makes no entry
pub goes_tried : (cell : ℕ) (r : Result (Taken Cell) Busy) (s s' : HandState Stamp Part Ground) → 0 < s.number
    → IfOk r (λ t. Took core_terms cell t.word s t.value s') → IfErr r (λ b. s' ≡ refused_at s cell b.word) → Goes core_terms s s' []
goes_tried cell (Ok t) s s' made took refused = goes_took core_terms cell t.word s s' t.value made took
goes_tried cell (Err b) s s' made took refused =
    subst (λ (y : HandState Stamp Part Ground). Goes core_terms s y []) (sym refused)
    (record { home = refl; number = refl; left = omega arith; own = sym (append-nil (entries core_terms s)); more = []; sees = sym (append-nil s.seen) })

-- the hand is of this turnstile, and has seen nothing
abbrev pub IsNew : Home Part Ground → HandState Stamp Part Ground → Type 0
IsNew z s = (s.home ≡ z) × (s.seen ≡ [])

-- the hands that a turnstile deals are such
pub all_new : (z : Home Part Ground) (a n : ℕ) → AllByRecursion (IsNew z) (dealt z a n)
all_new z a zero = tt
all_new z a (suc n) = ((refl, refl), all_new z (a + 1) n)

-- what holds of the pass of such a hand
pub new_fields : (z : Home Part Ground) (s : HandState Stamp Part Ground) (Empty : Type 0) (capacity count : ℕ) → IsNew z s → IsMachine z → Empty → count ≡ all_passes (plan_at z) → capacity ≡ count → AreFields s 0 Empty capacity
new_fields z s Empty capacity count new machine empty all exact = (
  subst IsMachine (sym new.0) machine,
  sym (ap (λ es. last_stamp (own core_terms s.number 0 es)) new.1),
  empty,
  subst (λ (y : Site). all_passes (plan_at y) ≤ capacity) (sym new.0) (omega (arith, all, exact)),
)

-- a pass of a machine's is of that machine
pub pass_home : (z : Site) (before : List PassState) (s : PassState) (rest : List PassState) → AllOfMachine z (before ++ s ∷ rest) → s.hand.home ≡ z
pass_home z [] s rest all = all.0
pass_home z (t ∷ before) s rest all = pass_home z before s rest all.1

pub home_in : (z : Site) (all before : List PassState) (s : PassState) (rest : List PassState) → all ≡ before ++ s ∷ rest → AllOfMachine z all → s.hand.home ≡ z
home_in z all before s rest is each = pass_home z before s rest (subst (AllOfMachine z) is each)

-- the room of one of them is for all passes of the machine
pub room_is : (z : Site) (all before : List PassState) (s : PassState) (rest : List PassState) (v : PassState) (capacity : ℕ) → all ≡ before ++ s ∷ rest → AllOfMachine z all → v ≡ s
    → all_passes (plan_at v.hand.home) ≤ capacity → all_passes (plan_at z) ≤ capacity
room_is z all before s rest v capacity is each view room = subst (λ (y : Site). all_passes (plan_at y) ≤ capacity) (ap (λ (y : PassState). y.hand.home) view ∙ home_in z all before s rest is each) room

-- a list whose last two items were taken off
pub two_last : {A : Type 0} (all some less : List A) (last other : A) → all ≡ some ++ last ∷ [] → some ≡ less ++ other ∷ [] → all ≡ less ++ other ∷ last ∷ []
two_last all some less last other is other_is = is ∙ (ap (λ xs. xs ++ last ∷ []) other_is ∙ append_assoc less (other ∷ []) (last ∷ []))

-- a list is longer by two than what is left of it without its last two items
pub two_less : {A : Type 0} (all some less : List A) (last other : A) → all ≡ some ++ last ∷ [] → some ≡ less ++ other ∷ [] → length all ≡ length less + 2
two_less all some less last other is other_is = ap length (two_last all some less last other is other_is) ∙ length-append less (other ∷ last ∷ [])
