-- What crossed in one call after another.
use Rattle.std.proofs.Common.{◌≡◌, ℕ, List, [], ◌∷◌, ◌++◌, length, true, false, Bool, Option, Some, None, option_map, if◌then◌else◌, refl, sym, ◌∙◌, ap, subst, arith}
use Rattle.std.proofs.lemmas.List.{append-nil}
use Rattle.eleos_core.specs.Accesses.{block_places}
use Rattle.eleos_core.specs.Parts.{SubPart}
use Rattle.eleos_core.specs.Texts.{came_for}
use Rattle.eleos_core.proofs.Differences.{all_append}
use Rattle.eleos_host.specs.declared.port.HostPort.{Ghosts}
use Rattle.eleos_host.specs.declared.port.HostStore as store
use Rattle.eleos_host.specs.Crossings.{Placed, with_crossing}
use Rattle.eleos_host.specs.Stores.{Store, put_to}
use Rattle.eleos_host.specs.Taps.{TapState}
use Rattle.eleos_pages.specs.Crossed.{Crosses, at_place, each_at, with_crossings, with_puts}

with_crossings-append : (told : Option (List Placed)) (xs ys : List (ℕ × List ℕ)) → with_crossings told (xs ++ ys) ≡ with_crossings (with_crossings told xs) ys
with_crossings-append told [] ys = refl
with_crossings-append told (q ∷ xs) ys = with_crossings-append (with_crossing told q.0 q.1) xs ys

with_puts-append : (s : Store) (xs ys : List (ℕ × List ℕ)) → with_puts s (xs ++ ys) ≡ with_puts (with_puts s xs) ys
with_puts-append s [] ys = refl
with_puts-append s (q ∷ xs) ys = with_puts-append (put_to s q.0 q.1) xs ys

stores-append : (o : Option Store) (xs ys : List (ℕ × List ℕ)) → option_map (λ s. with_puts s ys) (option_map (λ s. with_puts s xs) o) ≡ option_map (λ s. with_puts s (xs ++ ys)) o
stores-append None xs ys = refl
stores-append (Some s) xs ys = ap Some (sym (with_puts-append s xs ys))

-- a store that takes no block stays
pub stores-none : (o : Option Store) → o ≡ option_map (λ s. with_puts s []) o
stores-none None = refl
stores-none (Some s) = refl

module _ {P : Type 0} (port : Ghosts P) (host : store.Ghosts P) where
  -- nothing crossed
  pub crosses-nothing : (p : TapState P) → Crosses port host p p [] []
  crosses-nothing p = record { gave = tt; took = tt; all_given = refl; all_taken = refl; store = stores-none (host.store p.port); no_begin = refl }

  -- first the one, then the other
  pub crosses-then : (a b c : TapState P) (given given' taken taken' : List (ℕ × List ℕ)) → Crosses port host a b given taken → Crosses port host b c given' taken' → Crosses port host a c (given ++ given') (taken ++ taken')
  crosses-then a b c given given' taken taken' first later = record {
    gave = all_append (λ (q : ℕ × List ℕ). port.gave q.0 q.1) given given' first.gave later.gave;
    took = all_append (λ (q : ℕ × List ℕ). port.took q.0 q.1) taken taken' first.took later.took;
    all_given = later.all_given ∙ (ap (λ told. with_crossings told given') first.all_given ∙ sym (with_crossings-append (host.given a.port) given given'));
    all_taken = later.all_taken ∙ (ap (λ told. with_crossings told taken') first.all_taken ∙ sym (with_crossings-append (host.taken a.port) taken taken'));
    store = later.store ∙ (ap (option_map (λ s. with_puts s taken')) first.store ∙ stores-append (host.store a.port) taken taken');
    no_begin = later.no_begin ∙ first.no_begin;
  }

  -- the same lists
  pub crosses-same : (a b : TapState P) (given given' taken taken' : List (ℕ × List ℕ)) → given ≡ given' → taken ≡ taken' → Crosses port host a b given taken → Crosses port host a b given' taken'
  crosses-same a b given given' taken taken' same same' crossed = subst (λ g. Crosses port host a b g taken') same (subst (Crosses port host a b given) same' crossed)

-- blocks of one place after those of others
pub each_at-append : (ps qs : List ℕ) (cs ds : List (List ℕ)) → length cs ≡ length ps → each_at (ps ++ qs) (cs ++ ds) ≡ each_at ps cs ++ each_at qs ds
each_at-append [] qs [] ds same = refl
each_at-append [] qs (c ∷ cs) ds same = absurd (omega arith)
each_at-append (p ∷ ps) qs [] ds same = absurd (omega arith)
each_at-append (p ∷ ps) qs (c ∷ cs) ds same = ap (λ r. (p, c) ∷ r) (each_at-append ps qs cs ds (omega arith))

each_at-none : (ps : List ℕ) → each_at ps [] ≡ []
each_at-none [] = refl
each_at-none (p ∷ ps) = refl

-- no block for the places that are left
pub each_at-rest : (ps qs : List ℕ) (cs : List (List ℕ)) → length cs ≡ length ps → each_at (ps ++ qs) cs ≡ each_at ps cs
each_at-rest ps qs cs same = ap (each_at (ps ++ qs)) (sym (append-nil cs)) ∙ (each_at-append ps qs cs [] same ∙ (ap (λ r. each_at ps cs ++ r) (each_at-none qs) ∙ append-nil (each_at ps cs)))

-- the block of one sub-page
pub each_at-one : (s : ℕ) (u : SubPart) (block : List ℕ) → each_at (block_places s u) (came_for u block) ≡ at_place s (came_for u block)
each_at-one s u block = by_sealed u.is_sealed
  where
    by_sealed : (v : Bool) → each_at (if v then s ∷ [] else []) (if v then block ∷ [] else []) ≡ at_place s (if v then block ∷ [] else [])
    by_sealed true = refl
    by_sealed false = refl
