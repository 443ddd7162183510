-- Frames that go one after another.
use Rattle.std.proofs.Common.{◌≡◌, inl, inr, ⊎_elim, ℕ, ◌+◌, ◌-◌, ◌*◌, ◌<◌, ◌≤◌, List, [], ◌∷◌, ◌++◌, length, Bool, true, false, Option, Some, None, refl, sym, ◌∙◌, ap, subst, arith, append_assoc, append-nil, length-append}
use Rattle.std.specs.List.{AllByRecursion}
use Rattle.std.proofs.lemmas.Bool.{cases_lt}
use Rattle.std.proofs.lemmas.List.{length-map}
use Rattle.eleos_base.specs.declared.memory.Looked.{Looked}
use Rattle.eleos_core.specs.Parts.{Made}
use Rattle.eleos_core.specs.State.{History}
use Rattle.eleos_core.specs.Sweeps.{frames_in}
use Rattle.eleos_core.proofs.OpeningLists.{all_more}
use Rattle.eleos_host.specs.declared.port.HostPort.{Ghosts}
use Rattle.eleos_host.specs.declared.port.HostStore as store
use Rattle.eleos_host.specs.Taps.{TapState}
use Rattle.eleos_plot.specs.Terms.{core_terms}
use Rattle.eleos_turn.proofs.Clients.{goes_same}
use Rattle.eleos_machine.specs.declared.holding.ClockTurn.{ClockTurn}
use Rattle.eleos_machine.specs.Machines.{Site}
use Rattle.eleos_machine.specs.Passes.{PassState, seen}
use Rattle.eleos_clock.specs.Lists.{AllNoted}
use Rattle.eleos_swap.specs.declared.evicts.Evicted.{Evicted}
use Rattle.eleos_swap.specs.Evicts.{entry_of}
use Rattle.eleos_swap.proofs.Steps.{seen_on}
use Rattle.eleos_balloon.specs.declared.went.Went.{Went}
use Rattle.eleos_balloon.specs.Gathers.{Gathering, GatheredSo, GathersOne, GathersTo, left_count}
use Rattle.eleos_balloon.specs.Holds.{Holds, MakesAll}
use Rattle.eleos_balloon.specs.Releases.{ReleasedNone, ReleasedOne, ReleasedSo, ReleasesTo}
use Rattle.eleos_balloon.specs.Steps.{AreGone, HasGone, IsEntry, IsOneWay, LeftFirst, all_entries, evict_entries, move_entry, went_entries}
use Rattle.eleos_balloon.proofs.Held.{makes_then}

-- nothing was made
pub makes_same : (s : PassState) → MakesAll s [] s
makes_same s = record { goes = goes_same core_terms s.hand; pins = refl; links = λ c. refl }

-- the entries with one frame more
pub entries_more : (n : ℕ) (gets : Bool) (e : ℕ) (went : List Went) (one : Went) → all_entries n gets e (went ++ one ∷ []) ≡ all_entries n gets e went ++ went_entries n gets e one
entries_more n gets e [] one = append-nil (went_entries n gets e one)
entries_more n gets e (first ∷ went) one = ap (λ xs. went_entries n gets e first ++ xs) (entries_more n gets e went one) ∙ sym (append_assoc (went_entries n gets e first) (all_entries n gets e went) (went_entries n gets e one))

-- at most two for each frame
few_evicts : (n : ℕ) (o : Option Evicted) → length (evict_entries n o) ≤ 1
few_evicts n None = omega arith
few_evicts n (Some one) = omega arith

pub entries_few : (n : ℕ) (gets : Bool) (e : ℕ) (went : List Went) → length (all_entries n gets e went) ≤ 2 * length went
entries_few n gets e [] = omega arith
entries_few n gets e (one ∷ went) =
    let rest = entries_few n gets e went in let a = few_evicts n one.evicted in
    let b = length-append (evict_entries n one.evicted) (move_entry n gets e one ∷ []) in let d = length-append (went_entries n gets e one) (all_entries n gets e went) in omega (arith, rest, a, b, d)

-- and one where no page was evicted
pub entries_one_way : (X : Went → Type 0) (n e : ℕ) (went : List Went) → AllByRecursion (λ (one : Went). X one × IsOneWay true one) went → length (all_entries n true e went) ≡ length went
entries_one_way X n e [] all = refl
entries_one_way X n e (one ∷ went) all =
    let rest = entries_one_way X n e went all.1 in let none = ap (λ (o : Option Evicted). length (evict_entries n o)) all.0.1 in
    let b = length-append (evict_entries n one.evicted) (move_entry n true e one ∷ []) in let d = length-append (went_entries n true e one) (all_entries n true e went) in omega (arith, rest, none, b, d)

-- an entry stays one where more is seen
pub entry_on : (z : Site) (all all' : History) (one : Made) → (more : History) × (all' ≡ more ++ all) → IsEntry z all one → IsEntry z all' one
entry_on z all all' one more is = record {
  past = is.past;
  place = is.place;
  stands = (more.0 ++ is.stands.0, more.1 ∙ (ap (λ h. more.0 ++ h) is.stands.1 ∙ sym (append_assoc more.0 is.stands.0 (one.1.entry ∷ is.past))));
  legal = is.legal;
}

module _ {P : Type 0} (port : Ghosts P) (host : store.Ghosts P) where
  left_on : (z : Site) (all all' : History) (number f : ℕ) (o : Option Evicted) (before tap : TapState P) → (more : History) × (all' ≡ more ++ all) → LeftFirst port host z all number f o before tap → LeftFirst port host z all' number f o before tap
  unfolding entry_on
  left_on z all all' number f None before tap more same = same
  left_on z all all' number f (Some one) before tap more left = record { frame = left.frame; is = entry_on z all all' (entry_of number one) more left.is; crossed = left.crossed; count = left.count }

  -- so do frames that went
  pub gone_on : (z : Site) (all all' : History) (number : ℕ) (gets : Bool) (e : ℕ) (went : List Went) (before tap : TapState P) → (more : History) × (all' ≡ more ++ all)
      → AreGone port host z all number gets e went before tap → AreGone port host z all' number gets e went before tap
  gone_on z all all' number gets e [] before tap more same = same
  gone_on z all all' number gets e (one ∷ went) before tap more gone = (
    gone.0,
    record {
      left = left_on z all all' number one.frame one.evicted before gone.0 more gone.1.left;
      moved = entry_on z all all' (move_entry number gets e one) more gone.1.moved;
      one_way = gone.1.one_way;
    },
    gone_on z all all' number gets e went gone.0 tap more gone.2,
  )

  -- one more behind them
  pub gone_more : (z : Site) (all : History) (number : ℕ) (gets : Bool) (e : ℕ) (went : List Went) (one : Went) (before middle tap : TapState P) → AreGone port host z all number gets e went before middle → HasGone port host z all number gets e one middle tap
      → AreGone port host z all number gets e (went ++ one ∷ []) before tap
  gone_more z all number gets e [] one before middle tap same did = (tap, subst (λ (y : TapState P). HasGone port host z all number gets e one y tap) same did, refl)
  gone_more z all number gets e (first ∷ went) one before middle tap gone did = (gone.0, gone.1, gone_more z all number gets e went one gone.0 middle tap gone.2 did)

  -- frames of the pool, of which none had a page
  pub gone_over : (z : Site) (all : History) (number e : ℕ) (went : List Went) (tap : TapState P) → AllByRecursion (λ (one : Went). IsEntry z all (move_entry number true e one) × IsOneWay true one) went → AreGone port host z all number true e went tap tap
  gone_over z all number e [] tap moved = refl
  gone_over z all number e (one ∷ went) tap moved = (
    tap,
    record {
      left = subst (λ (o : Option Evicted). LeftFirst port host z all number one.frame o tap tap) (sym moved.0.1) refl;
      moved = moved.0.0;
      one_way = moved.0.1;
    },
    gone_over z all number e went tap moved.1,
  )

  module _ (s : PassState) (before : TapState P) (e : ℕ) (clock : ClockTurn) where
    -- none went yet
    pub release_begins : Holds e clock s → ReleasedSo port host s before e clock 0 s before clock
    release_begins h = record { went = []; made = makes_same s; gone = refl; holds = h; count = refl; fewer = omega arith }

    module _ (i : ℕ) (s' : PassState) (tap : TapState P) (clock' : ClockTurn) (far : ReleasedSo port host s before e clock i s' tap clock') (to : ℕ) where
      -- the pass has two stamps
      pub two_left : i < length clock.clock - to → 2 * (length clock.clock - to) ≤ s.hand.left → 2 ≤ s'.hand.left
      two_left more left = let a = far.made.goes.left in let b = entries_few s.hand.number false e far.went in let d = far.count in omega (arith, a, b, d, more, left)

      -- as many as are wanted are left
      pub release_done : i ≡ length clock.clock - to → to ≤ length clock.clock → ReleasesTo port host s before e clock to s' tap clock'
      release_done done some = record { went = far.went; made = far.made; gone = far.gone; holds = far.holds; fewer = (let a = far.count in let b = far.fewer in omega (arith, a, b)); end = inl (let b = far.fewer in omega (arith, b, done, some)) }

      module _ (s'' : PassState) (tap' : TapState P) (clock'' : ClockTurn) where
        -- one more went
        pub release_goes : (one : Went) → ReleasedOne port host s' tap e clock' one s'' tap' clock'' → ReleasedSo port host s before e clock (i + 1) s'' tap' clock''
        release_goes one did = record {
          went = far.went ++ one ∷ [];
          made = subst (λ xs. MakesAll s xs s'') (sym (entries_more s.hand.number false e far.went one))
              (makes_then s s' s'' (all_entries s.hand.number false e far.went) (went_entries s.hand.number false e one) far.made (subst (λ n. MakesAll s' (went_entries n false e one) s'') far.made.goes.number did.made));
          gone = gone_more s.hand.home (seen s'') s.hand.number false e far.went one before tap tap'
              (gone_on s.hand.home (seen s') (seen s'') s.hand.number false e far.went before tap (seen_on s' s'' (went_entries s'.hand.number false e one) did.made.goes) far.gone)
              (subst (λ (y : Site × ℕ). HasGone port host y.0 (seen s'') y.1 false e one tap tap') (λ j. (far.made.goes.home j, far.made.goes.number j)) did.gone);
          holds = did.holds;
          count = (let a = far.count in let b = length-append far.went (one ∷ []) in omega (arith, a, b));
          fewer = (let a = far.fewer in let b = did.fewer in omega (arith, a, b));
        }

        -- there was none to give
        pub release_stops : i < length clock.clock - to → ReleasedNone port host s' tap e clock' s'' tap' clock'' → ReleasesTo port host s before e clock to s'' tap' clock''
        release_stops more none = record {
          went = far.went;
          made = subst (λ xs. MakesAll s xs s'') (append-nil (all_entries s.hand.number false e far.went)) (makes_then s s' s'' (all_entries s.hand.number false e far.went) [] far.made none.made);
          gone = subst (λ (y : TapState P). AreGone port host s.hand.home (seen s'') s.hand.number false e far.went before y) (sym none.no_crossing)
              (gone_on s.hand.home (seen s') (seen s'') s.hand.number false e far.went before tap (seen_on s' s'' [] none.made.goes) far.gone);
          holds = none.holds;
          fewer = long ∙ (let a = far.count in let b = far.fewer in omega (arith, a, b));
          end = inr ((let b = far.fewer in let d = ap (λ (y : ClockTurn). length y.clock) none.same in omega (arith, b, d, more)), subst (λ (y : ClockTurn). AllNoted y.clock true s''.sweep.words) (sym none.same) none.noted);
        } where
          long : length clock''.clock + length far.went ≡ length clock'.clock + length far.went
          long = ap (λ (y : ClockTurn). length y.clock + length far.went) none.same

-- moves of frames by the pass, by what it has seen
abbrev pub AreMoved : Site → History → ℕ → ℕ → List Went → Type 0
AreMoved z all number e went = AllByRecursion (λ (one : Went). IsEntry z all (move_entry number true e one) × IsOneWay true one) went

-- they stay ones where more is seen
pub moved_on : (z : Site) (all all' : History) (number e : ℕ) (went : List Went) → (more : History) × (all' ≡ more ++ all) → AreMoved z all number e went → AreMoved z all' number e went
moved_on z all all' number e [] more moved = tt
moved_on z all all' number e (one ∷ went) more moved = ((entry_on z all all' (move_entry number true e one) more moved.0.0, moved.0.1), moved_on z all all' number e went more moved.1)

module _ (s : PassState) (e : ℕ) (clock pool : ClockTurn) (to : ℕ) where
  -- none was tried yet
  pub gather_begins : Gathering e clock pool s → length clock.clock ≤ to → GatheredSo s e clock pool to 0 s clock pool
  gather_begins h few = record { went = []; made = makes_same s; moved = tt; holds = h; count = omega arith; left = omega arith; grown = few }

  module _ (empty : s.sweep.words ≡ []) (i : ℕ) (s' : PassState) (clock' pool' : ClockTurn) (far : GatheredSo s e clock pool to i s' clock' pool') where
    none_yet : left_count pool s.sweep.words ≡ length pool.clock
    none_yet = let a = ap (λ (ws : List Looked). length ws) empty in omega (arith, a)

    -- there is one to try
    pub one_more : i < length pool.clock → length s'.sweep.words < length pool'.clock
    one_more more = let a = far.left in let b = none_yet in omega (arith, a, b, more)

    -- and a stamp
    pub one_left : i < length pool.clock → length pool.clock ≤ s.hand.left → 0 < s'.hand.left
    one_left more left = let a = far.made.goes.left in let b = entries_one_way (λ (one : Went). IsEntry s.hand.home (seen s') (move_entry s.hand.number true e one)) s.hand.number e far.went far.moved in let d = far.count in omega (arith, a, b, d, more, left)

    -- the enclave has enough
    pub gather_enough : i ≤ length pool.clock → to ≤ length clock'.clock → GathersTo s e clock pool to s' clock' pool'
    gather_enough few enough = record { went = far.went; made = far.made; moved = far.moved; holds = far.holds; count = (let a = far.count in omega (arith, a, few)); enough = inl (let a = far.grown in omega (arith, a, enough)) }

    -- none is left to be tried
    pub gather_done : i ≡ length pool.clock → GathersTo s e clock pool to s' clock' pool'
    gather_done done = record {
      went = far.went;
      made = far.made;
      moved = far.moved;
      holds = far.holds;
      count = (let a = far.count in omega (arith, a, done));
      enough = ⊎_elim (λ (fewer : length clock'.clock < to). inr (fewer, all far.holds.tried.first.0 far.holds.tried.first.1))
          (λ (le : to ≤ length clock'.clock). inl (let a = far.grown in omega (arith, a, le))) (cases_lt (length clock'.clock) to);
    } where
      all : (left : List ℕ) → pool'.clock ≡ frames_in s'.sweep.words ++ left → pool'.clock ≡ frames_in s'.sweep.words
      all [] is = is ∙ append-nil (frames_in s'.sweep.words)
      all (g ∷ left) is = absurd (let a = ap length is in let b = length-append (frames_in s'.sweep.words) (g ∷ left) in let d = length-map s'.sweep.words (λ (seen : Looked). seen.frame) in
          let f = far.left in let n = none_yet in omega (arith, a, b, d, f, n, done))

    -- one more was tried, while the enclave had too few
    pub gather_goes : (r : Option Went) (s'' : PassState) (clock'' pool'' : ClockTurn) → length clock'.clock < to → GathersOne s' e clock' pool' r s'' clock'' pool'' → GatheredSo s e clock pool to (i + 1) s'' clock'' pool''
    gather_goes None s'' clock'' pool'' few did = record {
      went = far.went;
      made = subst (λ xs. MakesAll s xs s'') (append-nil (all_entries s.hand.number true e far.went)) (makes_then s s' s'' (all_entries s.hand.number true e far.went) [] far.made did.made);
      moved = moved_on s.hand.home (seen s') (seen s'') s.hand.number e far.went (seen_on s' s'' [] did.made.goes) far.moved;
      holds = did.holds;
      count = (let a = far.count in omega (arith, a));
      left = (let a = far.left in let b = did.fewer in omega (arith, a, b));
      grown = (let a = far.grown in let b = ap (λ (y : ClockTurn). length y.clock) did.same in omega (arith, a, b));
    }
    gather_goes (Some one) s'' clock'' pool'' few did = record {
      went = far.went ++ one ∷ [];
      made = subst (λ xs. MakesAll s xs s'') (sym (entries_more s.hand.number true e far.went one))
          (makes_then s s' s'' (all_entries s.hand.number true e far.went) (went_entries s.hand.number true e one) far.made (subst (λ n. MakesAll s' (went_entries n true e one) s'') far.made.goes.number did.made));
      moved = all_more (λ (w : Went). IsEntry s.hand.home (seen s'') (move_entry s.hand.number true e w) × IsOneWay true w) far.went one
          (moved_on s.hand.home (seen s') (seen s'') s.hand.number e far.went (seen_on s' s'' (went_entries s'.hand.number true e one) did.made.goes) far.moved)
          (subst (λ (y : Site × ℕ). IsEntry y.0 (seen s'') (move_entry y.1 true e one)) (λ j. (far.made.goes.home j, far.made.goes.number j)) did.moved, did.one_way);
      holds = did.holds;
      count = (let a = far.count in let b = length-append far.went (one ∷ []) in omega (arith, a, b));
      left = (let a = far.left in let b = did.fewer in omega (arith, a, b));
      grown = (let a = ap length did.list in let b = length-append clock'.clock (one.frame ∷ []) in omega (arith, a, b, few));
    }
