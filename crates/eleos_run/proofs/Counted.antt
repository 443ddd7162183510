-- How many blocks evicts tell of, where more is told and more is seen.
use Rattle.std.proofs.Common.{◌≡◌, ℕ, ◌+◌, ◌≤◌, List, [], ◌∷◌, ◌++◌, length, sym, subst, arith}
use Rattle.std.proofs.lemmas.List.{take-append-le}
use Rattle.eleos_base.specs.declared.plan.Plan.{Plan}
use Rattle.eleos_core.specs.Applying.{puts_of}
use Rattle.eleos_core.specs.Parts.{Entries, Made}
use Rattle.eleos_core.specs.Seals.{Seals}
use Rattle.eleos_machine.specs.Passes.{PassState}
use Rattle.eleos_meaning.specs.Told.{Came, Entered, Replied, Told, made_in, made_of}
use Rattle.eleos_plot.specs.Histories.{history_of}
use Rattle.eleos_plot.specs.Terms.{core_terms}
use Rattle.eleos_turn.specs.Hands.{entries, own}
use Rattle.eleos_turn.proofs.Numbers.{tested}
use Rattle.eleos_run.specs.Counts.{AreCounted, IsCounted}

-- ---- the stamps of own entries

abbrev AreWithin : ℕ → List Made → Type 0
AreWithin n [] = Unit {0}
AreWithin n (one ∷ made) = (one.0 ≤ n) × AreWithin n made

own_within : (k n m : ℕ) (es : Entries) → n + length es ≡ m → AreWithin m (own core_terms k n es)
own_within k n m [] is = tt
own_within k n m (e ∷ es) is = let rest = own_within k (n + 1) m es (omega (arith, is)) in
    tested (AreWithin m) e.entry.entry.who k ((n, e.entry) ∷ own core_terms k (n + 1) es) (own core_terms k (n + 1) es) (λ mine. (omega (arith, is), rest)) (λ other. rest)

behind : (n : ℕ) (xs ys : List Made) → AreWithin n (xs ++ ys) → AreWithin n ys
behind n [] ys within = within
behind n (x ∷ xs) ys within = behind n xs ys within.1

module _ (k : Plan) (x : Seals) where
  -- what is counted in two lists is counted in both together
  pub counted_append : (h : Entries) (xs ys : List Told) → AreCounted k x h xs → AreCounted k x h ys → AreCounted k x h (xs ++ ys)
  counted_append h [] ys a b = b
  counted_append h (one ∷ xs) ys a b = (a.0, counted_append h xs ys a.1 b)

  one_on : (h more : Entries) (came : Came) (rest : List Made) → AreWithin (length h) (made_of came ++ rest) → IsCounted k x h came → IsCounted k x (h ++ more) came
  one_on h more (Replied reply) rest within counted = tt
  one_on h more (Entered one puts) rest within counted =
      λ page frame is. subst (λ (es : Entries). puts ≡ length (puts_of k x one.1.entry (history_of es))) (sym (take-append-le one.0 h more within.0)) (counted page frame is)

  counted_on : (h more : Entries) (told : List Told) → AreWithin (length h) (made_in told) → AreCounted k x h told → AreCounted k x (h ++ more) told
  counted_on h more [] within all = tt
  counted_on h more (one ∷ told) within all = (one_on h more one.came (made_in told) within all.0, counted_on h more told (behind (length h) (made_of one.came) (made_in told) within) all.1)

  -- lines of entries of a pass, where it or another one has seen more
  pub counted_later : (s : PassState) (h : Entries) (xs : List Made) (told : List Told) → entries core_terms s.hand ≡ xs ++ made_in told → (more : Entries) → h ≡ s.hand.seen ++ more → AreCounted k x s.hand.seen told → AreCounted k x h told
  counted_later s h xs told own_is more sees all =
      let within = behind (length s.hand.seen) xs (made_in told) (subst (AreWithin (length s.hand.seen)) own_is (own_within s.hand.number 0 (length s.hand.seen) s.hand.seen (omega arith))) in
      subst (λ (es : Entries). AreCounted k x es told) (sym sees) (counted_on s.hand.seen more told within all)
