-- What was exchanged with the host for entries of the history.
use Rattle.std.proofs.Common.{◌≡◌, ℕ, ◌+◌, ◌<◌, ◌≤◌, List, [], ◌∷◌, ◌++◌, length, take, refl, sym, ap, ◌∙◌, subst, arith, append_assoc, append-nil, length-append}
use Rattle.std.proofs.lemmas.List.{append_cancel_left, take-append-le}
use Rattle.std.proofs.Math.Seq.{take-append_seam}
use Rattle.eleos_base.specs.declared.plot.Event.{Event}
use Rattle.eleos_base.specs.Histories.{Signed}
use Rattle.eleos_core.specs.declared.event.Entry.{Entry}
use Rattle.eleos_core.specs.Parts.{Part, Stamp, Made, Entries}
use Rattle.eleos_core.specs.State.{History}
use Rattle.eleos_machine.specs.Machines.{Site, plan_at, seals_at}
use Rattle.eleos_machine.specs.Passes.{PassState}
use Rattle.eleos_plot.specs.Histories.{history_after, history_of}
use Rattle.eleos_plot.specs.Terms.{core_terms}
use Rattle.eleos_turn.specs.Hands.{Goes, entries, own}
use Rattle.eleos_turn.proofs.Numbers.{here, tested}
use Rattle.eleos_pages.specs.Exchanges.{AllExchanged, AreExchanged, Exchanges, HasExchanged}

-- ---- histories

-- the last entry stands first
history_snoc : (past : History) (es : Entries) (e : Event Stamp Part) → history_after past (es ++ e ∷ []) ≡ e.entry.entry ∷ history_after past es
history_snoc past [] e = refl
history_snoc past (x ∷ es) e = history_snoc (x.entry.entry ∷ past) es e

history_long : (past : History) (es : Entries) → length (history_after past es) ≡ length es + length past
history_long past [] = omega arith
history_long past (e ∷ es) = let rest = history_long (e.entry.entry ∷ past) es in omega (arith, rest)

abbrev before_last : History → History
before_last [] = []
before_last (e ∷ past) = past

-- without its last entry
history_less : (past : History) (e : Event Stamp Part) (es : Entries) → history_after past (take (length es) (e ∷ es)) ≡ before_last (history_after past (e ∷ es))
history_less past e [] = refl
history_less past e (x ∷ es) = history_less (e.entry.entry ∷ past) x es

history_before : (h : Entries) (e : Entry) (past : History) → history_of h ≡ e ∷ past → history_of (take (length past) h) ≡ past
history_before [] e past is = absurd (let none = ap length is in omega (arith, none))
history_before (x ∷ es) e past is =
    let long = history_long [] (x ∷ es) in let both = ap length is in
    let same : length past ≡ length es = omega (arith, long, both) in
    ap (λ (n : ℕ). history_of (take n (x ∷ es))) same ∙ (history_less [] x es ∙ ap before_last is)

-- ---- the stamps of own entries

abbrev AreWithin : ℕ → List Made → Type 0
AreWithin n [] = Unit {0}
AreWithin n (one ∷ made) = (one.0 ≤ n) × AreWithin n made

own_within : (k n m : ℕ) (es : Entries) → n + length es ≡ m → AreWithin m (own core_terms k n es)
own_within k n m [] is = tt
own_within k n m (e ∷ es) is = let rest = own_within k (n + 1) m es (omega (arith, is)) in
    tested (AreWithin m) e.entry.entry.who k ((n, e.entry) ∷ own core_terms k (n + 1) es) (own core_terms k (n + 1) es) (λ mine. (omega (arith, is), rest)) (λ other. rest)

behind : (n : ℕ) (xs ys : List Made) → AreWithin n (xs ++ ys) → AreWithin n ys
behind n [] ys within = within
behind n (x ∷ xs) ys within = behind n xs ys within.1

module _ (gave took : ℕ → List ℕ → Type 0) where
  -- ---- more entries

  module _ (z : Site) where
    -- blocks that were given and taken for some entries, and for others, were so for all of them
    pub exchanged_append : (h : Entries) (xs ys : List Made) → AreExchanged gave took z h xs → AreExchanged gave took z h ys → AreExchanged gave took z h (xs ++ ys)
    exchanged_append h [] ys a b = b
    exchanged_append h (x ∷ xs) ys a b = (a.0, exchanged_append h xs ys a.1 b)

    exchanged_on : (h more : Entries) (made : List Made) → AreWithin (length h) made → AreExchanged gave took z h made → AreExchanged gave took z (h ++ more) made
    exchanged_on h more [] within all = tt
    exchanged_on h more (one ∷ made) within all =
        let same : take one.0 (h ++ more) ≡ take one.0 h = take-append-le one.0 h more within.0 in
        (subst (λ (es : Entries). HasExchanged gave took (plan_at z) (seals_at z) (history_of es) one.1.entry) (sym same) all.0, exchanged_on h more made within.1 all.1)

    -- the entries of a pass, where it or another one has seen more
    pub exchanged_later : (s : PassState) (h : Entries) (xs made : List Made) → entries core_terms s.hand ≡ xs ++ made → (more : Entries) → h ≡ s.hand.seen ++ more → AreExchanged gave took z s.hand.seen made → AreExchanged gave took z h made
    exchanged_later s h xs made own_is more sees all =
        let within = behind (length s.hand.seen) xs made (subst (AreWithin (length s.hand.seen)) own_is (own_within s.hand.number 0 (length s.hand.seen) s.hand.seen (omega arith))) in
        subst (λ (es : Entries). AreExchanged gave took z es made) (sym sees) (exchanged_on s.hand.seen more made within all)

    -- the pass made no entry, or entries of which this is known
    pub exchanges_these : (s s' : PassState) (made : List Made) → Goes core_terms s.hand s'.hand made → AreExchanged gave took z s'.hand.seen made → Exchanges gave took z s s'
    exchanges_these s s' made goes all other is =
        subst (AreExchanged gave took z s'.hand.seen) (append_cancel_left (entries core_terms s.hand) made other (sym goes.own ∙ is)) all

    -- the last entry that the pass has seen
    pub exchanged_last : (h : Entries) (d : Stamp) (past : History) → history_of h ≡ d.entry ∷ past → HasExchanged gave took (plan_at z) (seals_at z) past d.entry → AreExchanged gave took z h ((length past, d) ∷ [])
    exchanged_last h d past sees one = (subst (λ (p : History). HasExchanged gave took (plan_at z) (seals_at z) p d.entry) (sym (history_before h d.entry past sees)) one, tt)

  -- ---- from own entries to the whole history

  module _ (z : Site) (n : ℕ) (h : Entries) where
    others_too : (who m : ℕ) (e : Event Stamp Part) (es : Entries) → AreExchanged gave took z h (own core_terms who m (e ∷ es)) → AreExchanged gave took z h (own core_terms who (m + 1) es)
    others_too who m e es = tested (λ (made : List Made). AreExchanged gave took z h made → AreExchanged gave took z h (own core_terms who (m + 1) es)) e.entry.entry.who who
        ((m, e.entry) ∷ own core_terms who (m + 1) es) (own core_terms who (m + 1) es) (λ mine all. all.1) (λ other all. all)

    gathered : (before es : Entries) → h ≡ before ++ es → Signed core_terms n es → ((who : ℕ) → 0 < who → who ≤ n → AreExchanged gave took z h (own core_terms who (length before) es))
        → AllExchanged gave took (plan_at z) (seals_at z) (history_of before) → AllExchanged gave took (plan_at z) (seals_at z) (history_of h)
    gathered before [] is sign each all = subst (λ (es : Entries). AllExchanged gave took (plan_at z) (seals_at z) (history_of es)) (sym (is ∙ append-nil before)) all
    gathered before (e ∷ es) is sign each all =
        let who : ℕ = e.entry.entry.who in let m : ℕ = length before in
        let mine = subst (AreExchanged gave took z h) (here who who ((m, e.entry) ∷ own core_terms who (m + 1) es) (own core_terms who (m + 1) es) refl) (each who sign.0.0 sign.0.1) in
        let front : take m h ≡ before = ap (take m) is ∙ take-append_seam before (e ∷ es) in
        let one = subst (λ (bs : Entries). HasExchanged gave took (plan_at z) (seals_at z) (history_of bs) e.entry.entry) front mine.0 in
        let long : length (before ++ e ∷ []) ≡ m + 1 = length-append before (e ∷ []) in
        gathered (before ++ e ∷ []) es (is ∙ sym (append_assoc before (e ∷ []) es)) sign.1
        (λ k from to. subst (λ (q : ℕ). AreExchanged gave took z h (own core_terms k q es)) (sym long) (others_too k m e es (each k from to)))
        (subst (AllExchanged gave took (plan_at z) (seals_at z)) (sym (history_snoc [] before e)) (one, all))

    -- where blocks were given and taken for each actor's own entries, they were so for the whole history
    pub all_exchanged : Signed core_terms n h → ((who : ℕ) → 0 < who → who ≤ n → AreExchanged gave took z h (own core_terms who 0 h)) → AllExchanged gave took (plan_at z) (seals_at z) (history_of h)
    all_exchanged sign each = gathered [] h refl sign each tt
