-- Entries where they stand in a history: what was exchanged for them, and how many blocks they put.
use Rattle.std.proofs.Common.{◌≡◌, ℕ, ◌+◌, ◌≤◌, List, [], ◌∷◌, ◌++◌, length, take, drop, refl, sym, ap, ◌∙◌, subst, arith, append_assoc, length-append}
use Rattle.std.specs.List.{AllByRecursion}
use lib.Seq.{drop-append_seam}
use Rattle.std.proofs.lemmas.List.{take-append-drop, length-take-le}
use Rattle.eleos_base.specs.declared.memory.Reply.TheVariants.{Done}
use Rattle.eleos_base.specs.declared.plan.Plan.{Plan}
use Rattle.eleos_core.specs.declared.event.Entry.{Entry}
use Rattle.eleos_core.specs.declared.event.Event.TheVariants.{Evict, Move, Survey}
use Rattle.eleos_core.specs.Applying.{puts_of}
use Rattle.eleos_core.specs.Evicts.{evict_stamp}
use Rattle.eleos_core.specs.Legal.{CoreStep}
use Rattle.eleos_core.specs.Moves.{move_stamp}
use Rattle.eleos_core.specs.Parts.{Entries}
use Rattle.eleos_core.specs.Quiet.{survey_stamp}
use Rattle.eleos_core.specs.Seals.{Seals}
use Rattle.eleos_core.specs.State.{History, places}
use Rattle.eleos_core.specs.declared.event.Goal.{Goal}
use Rattle.eleos_core.proofs.SealedPuts.{puts_are}
use Rattle.eleos_base.specs.declared.memory.Looked.{Looked}
use Rattle.eleos_base.specs.declared.memory.Reply.{Reply}
use Rattle.eleos_base.specs.Places.{Owner}
use Rattle.eleos_machine.specs.Machines.{Site, plan_at, seals_at}
use Rattle.eleos_plot.specs.Histories.{history_after, history_of}
use Rattle.eleos_swap.specs.Making.{StandsIn}
use Rattle.eleos_pages.specs.Exchanges.{AreExchanged, HasExchanged}
use Rattle.eleos_pages.proofs.Crossing.{none_given}
use Rattle.eleos_meaning.specs.Told.{Entered}
use Rattle.eleos_run.specs.Counts.{IsCounted}

history_append : (past : History) (xs ys : Entries) → history_after past (xs ++ ys) ≡ history_after (history_after past xs) ys
history_append past [] ys = refl
history_append past (x ∷ xs) ys = history_append (x.entry.entry ∷ past) xs ys

history_more : (past : History) (es : Entries) → (more : History) × (history_after past es ≡ more ++ past)
history_more past [] = ([], refl)
history_more past (e ∷ es) = let rest = history_more (e.entry.entry ∷ past) es in (rest.0 ++ e.entry.entry ∷ [], rest.1 ∙ sym (append_assoc rest.0 (e.entry.entry ∷ []) past))

history_long : (past : History) (es : Entries) → length (history_after past es) ≡ length es + length past
history_long past [] = omega arith
history_long past (e ∷ es) = let rest = history_long (e.entry.entry ∷ past) es in omega (arith, rest)

-- two lists of one length that end one list are one
ends_alike : (a b c d : History) → a ++ b ≡ c ++ d → length b ≡ length d → b ≡ d
ends_alike a b c d same long =
    let left = length-append a b in let right = length-append c d in let whole = ap length same in
    let front : length a ≡ length c = omega (arith, left, right, whole, long) in
    sym (drop-append_seam a b) ∙ ((λ i. drop (front i) (same i)) ∙ drop-append_seam c d)

-- what stood before an entry
pub stands_before : (h : Entries) (past : History) (e : Entry) → StandsIn (history_of h) past e → history_of (take (length past) h) ≡ past
stands_before h past e stands =
    let n : ℕ = length past in
    let front : Entries = take n h in
    let rest = history_more (history_of front) (drop n h) in
    let whole : history_of h ≡ rest.0 ++ history_of front = ap history_of (sym (take-append-drop n h)) ∙ (history_append [] front (drop n h) ∙ rest.1) in
    let same : rest.0 ++ history_of front ≡ (stands.0 ++ e ∷ []) ++ past = sym whole ∙ (stands.1 ∙ sym (append_assoc stands.0 (e ∷ []) past)) in
    let all = history_long [] h in let parts = ap length stands.1 in let both = length-append stands.0 (e ∷ past) in
    let within : n ≤ length h = omega (arith, all, parts, both) in
    let some = length-take-le n h within in
    let long = history_long [] front in
    let fit : length (history_of front) ≡ length past = omega (arith, some, long) in
    ends_alike rest.0 (history_of front) (stands.0 ++ e ∷ []) past same fit

module _ (gave took : ℕ → List ℕ → Type 0) (z : Site) (h : Entries) where
  -- an evict takes no block, and the host took those that it seals
  pub evict_exchanged : (past : History) (stamp number page frame : ℕ) → stamp ≡ length past → StandsIn (history_of h) past (evict_stamp number page frame).entry
      → AllByRecursion (λ (q : ℕ × List ℕ). took q.0 q.1) (puts_of (plan_at z) (seals_at z) (evict_stamp number page frame).entry past)
      → HasExchanged gave took (plan_at z) (seals_at z) (history_of (take stamp h)) (evict_stamp number page frame).entry
  evict_exchanged past stamp number page frame place stands taken =
      subst (λ (p : History). HasExchanged gave took (plan_at z) (seals_at z) p (evict_stamp number page frame).entry) (sym (ap (λ (n : ℕ). history_of (take n h)) place ∙ stands_before h past (evict_stamp number page frame).entry stands))
      (record { given = none_given gave took (places (plan_at z) (Evict page frame) past); taken = taken })

  -- and tells how many they are
  pub evict_counted : (past : History) (stamp number page frame puts : ℕ) → stamp ≡ length past → StandsIn (history_of h) past (evict_stamp number page frame).entry
      → puts ≡ length (puts_of (plan_at z) (seals_at z) (evict_stamp number page frame).entry past) → IsCounted (plan_at z) (seals_at z) h (Entered (stamp, evict_stamp number page frame) puts)
  evict_counted past stamp number page frame puts place stands count = λ p f is.
      subst (λ (q : History). puts ≡ length (puts_of (plan_at z) (seals_at z) (evict_stamp number page frame).entry q)) (sym (ap (λ (n : ℕ). history_of (take n h)) place ∙ stands_before h past (evict_stamp number page frame).entry stands)) count

  -- a move exchanges nothing
  pub move_exchanged : (past : History) (stamp number frame : ℕ) (from to : Owner) → stamp ≡ length past → StandsIn (history_of h) past (move_stamp number frame from to).entry
      → CoreStep (plan_at z) (seals_at z) past (move_stamp number frame from to).entry → HasExchanged gave took (plan_at z) (seals_at z) (history_of (take stamp h)) (move_stamp number frame from to).entry
  move_exchanged past stamp number frame from to place stands legal =
      subst (λ (p : History). HasExchanged gave took (plan_at z) (seals_at z) p (move_stamp number frame from to).entry) (sym (ap (λ (n : ℕ). history_of (take n h)) place ∙ stands_before h past (move_stamp number frame from to).entry stands))
      (record {
        given = none_given gave took (places (plan_at z) (Move frame from to) past);
        taken = subst (AllByRecursion (λ (q : ℕ × List ℕ). took q.0 q.1)) (puts_are (plan_at z) (seals_at z) past number (Move frame from to) [] Done 0 legal) tt;
      })

  -- nor does a survey
  pub survey_exchanged : (past : History) (number e : ℕ) (goal : Goal) (sweep : List Looked) (reply : Reply) → history_of h ≡ (survey_stamp number e goal sweep reply).entry ∷ past
      → CoreStep (plan_at z) (seals_at z) past (survey_stamp number e goal sweep reply).entry → AreExchanged gave took z h ((length past, survey_stamp number e goal sweep reply) ∷ [])
  survey_exchanged past number e goal sweep reply sees legal = (
    subst (λ (p : History). HasExchanged gave took (plan_at z) (seals_at z) p (survey_stamp number e goal sweep reply).entry) (sym (stands_before h past (survey_stamp number e goal sweep reply).entry ([], sees)))
        (record {
          given = none_given gave took (places (plan_at z) (Survey e goal sweep) past);
          taken = subst (AllByRecursion (λ (q : ℕ × List ℕ). took q.0 q.1)) (puts_are (plan_at z) (seals_at z) past number (Survey e goal sweep) [] reply 0 legal) tt;
        }),
    tt,
  )

move_no_evict : (frame page f : ℕ) (from to : Owner) → Move frame from to ≡ Evict page f → ⊥
move_no_evict frame page f from to is = cc

-- a move counts nothing
pub move_counted : (k : Plan) (x : Seals) (h : Entries) (stamp number frame : ℕ) (from to : Owner) → IsCounted k x h (Entered (stamp, move_stamp number frame from to) 0)
move_counted k x h stamp number frame from to page f is = absurd (move_no_evict frame page f from to is)

survey_no_evict : (e page f : ℕ) (goal : Goal) (sweep : List Looked) → Survey e goal sweep ≡ Evict page f → ⊥
survey_no_evict e page f goal sweep is = cc

-- nor does a survey
pub survey_counted : (k : Plan) (x : Seals) (h : Entries) (stamp number e : ℕ) (goal : Goal) (sweep : List Looked) (reply : Reply) → IsCounted k x h (Entered (stamp, survey_stamp number e goal sweep reply) 0)
survey_counted k x h stamp number e goal sweep reply page f is = absurd (survey_no_evict e page f goal sweep is)
