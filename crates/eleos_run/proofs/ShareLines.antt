-- What a change of a share tells.
use Rattle.std.proofs.Common.{◌≡◌, inl, inr, ⊎_elim, ℕ, ◌+◌, ◌-◌, ◌*◌, ◌<◌, ◌≤◌, List, [], ◌∷◌, ◌++◌, length, map, Bool, true, false, not, ◌&&◌, Option, Some, None, option_map, Vec, vec_capacity, refl, sym, ap, ◌∙◌, subst, arith, append_assoc, append-nil, length-append}
use lib.ListN.{length-map}
use Rattle.std.specs.List.{AllByRecursion, flat_map, list_all}
use Rattle.std.specs.declared.alloc.Global.{Global}
use Rattle.std.proofs.lemmas.Bool.{cases_lt}
use Rattle.eleos_base.specs.declared.memory.Looked.{Looked}
use Rattle.eleos_base.specs.declared.plan.Plan.{Plan}
use Rattle.eleos_base.specs.Places.{all_frames}
use Rattle.eleos_core.specs.declared.event.Event.TheVariants as events
use Rattle.eleos_core.specs.declared.event.Goal.TheVariants.{To}
use Rattle.eleos_core.specs.Legal.{CoreRun, CoreStep}
use Rattle.eleos_core.specs.Parts.{Entries, Made, Stamp}
use Rattle.eleos_core.specs.State.{places}
use Rattle.eleos_core.specs.Sweeps.{SurveyReply, frames_in}
use Rattle.eleos_core.proofs.OpeningLists.{all_more}
use Rattle.eleos_host.specs.declared.port.HostPort.{Ghosts}
use Rattle.eleos_host.specs.declared.port.HostStore as store
use Rattle.eleos_host.specs.Taps.{TapState}
use Rattle.eleos_machine.specs.declared.holding.ClockTurn.{ClockTurn}
use Rattle.eleos_machine.specs.Machines.{Site, plan_at, seals_at}
use Rattle.eleos_machine.specs.Passes.{IsLawful, PassState, last_stamp, plan_of, seals_of, seen}
use Rattle.eleos_pages.specs.Exchanges.{AreExchanged, AreGiven}
use Rattle.eleos_pages.proofs.Exchanging.{exchanged_append, exchanged_later, exchanges_these}
use Rattle.eleos_plot.specs.Histories.{history_of}
use Rattle.eleos_plot.specs.Terms.{core_terms}
use Rattle.eleos_report.specs.declared.line.LogLine.{LogLine}
use Rattle.eleos_trace.specs.declared.word.Actor.{Actor}
use Rattle.eleos_trace.specs.declared.word.Word.TheVariants as words
use Rattle.eleos_turn.specs.Hands.{Goes, entries}
use Rattle.eleos_turn.proofs.Clients.{goes_trans}
use Rattle.eleos_swap.specs.declared.evicts.Evicted.{Evicted}
use Rattle.eleos_swap.proofs.Steps.{seen_on}
use Rattle.eleos_balloon.specs.declared.ends.BalloonEnd.{BalloonEnd}
use Rattle.eleos_balloon.specs.declared.ends.BalloonEnd.TheVariants.{Done, Short, Pinned}
use Rattle.eleos_balloon.specs.declared.went.Went.{Went}
use Rattle.eleos_balloon.specs.Ends.{end_reply, share_stamp}
use Rattle.eleos_balloon.specs.Gathers.{Gathering, GathersOne, left_count}
use Rattle.eleos_balloon.specs.Holds.{Holds, MakesAll}
use Rattle.eleos_balloon.specs.Releases.{ReleasedNone, ReleasedOne}
use Rattle.eleos_balloon.specs.Shares.{EndsShare, MayEndGather, MayEndRelease}
use Rattle.eleos_balloon.specs.Steps.{AreGone, HasGone, IsEntry, IsOneWay, LeftFirst, all_entries, evict_entries, move_entry, source, target, went_entries}
use Rattle.eleos_balloon.proofs.Clocks.{few_of_machine}
use Rattle.eleos_balloon.proofs.Going.{AreMoved, entries_few, entries_more, gone_more, gone_on, makes_same, moved_on}
use Rattle.eleos_balloon.proofs.Held.{makes_then}
use Rattle.eleos_clock.specs.Lists.{AllNoted}
use Rattle.eleos_meaning.specs.Names.{Names}
use Rattle.eleos_meaning.specs.Table.{AllMean, IsOneWay as LinesOneWay, Loss, Shown, evict_line, gain_line, is_frame_line, is_skipped, loss_lines, page_lines, share_event, shown, when}
use Rattle.eleos_meaning.specs.Told.{Entered, Told, line_of, made_in, survey_answer}
use Rattle.eleos_run.specs.declared.answers.Spoken.{Spoken}
use Rattle.eleos_run.specs.Counts.{AreCounted}
use Rattle.eleos_run.specs.Steps.{Speaks}
use Rattle.eleos_run.specs.Surveys.{GathersTold, IsGone, IsItsFrame, SpeaksAround, TellsShare, TellsWent, Writes, all_told, move_told, no_block, page_told, tried_told, went_told}
use Rattle.eleos_run.proofs.Counted.{counted_append, counted_later}
use Rattle.eleos_run.proofs.Speaking.{last_snoc}
use Rattle.eleos_run.proofs.Standing.{evict_counted, evict_exchanged, move_counted, move_exchanged, survey_exchanged}
use Rattle.eleos_run.proofs.Writing.{all_made, told_more, writes_more, writes_none}

-- ---- what frames that went are to those who read the lines

module _ (gave took : ℕ → List ℕ → Type 0) (z : Site) (h : Entries) (number : ℕ) (gets : Bool) (e : ℕ) where
  moved_exchanged : (one : Went) → IsEntry z (history_of h) (move_entry number gets e one) → AreExchanged gave took z h (move_entry number gets e one ∷ [])
  moved_exchanged one is = (move_exchanged gave took z h is.past one.stamp number one.frame (source gets e) (target gets e) is.place is.stands is.legal, tt)

  moved_counted : (one : Went) → AreCounted (plan_at z) (seals_at z) h (move_told number gets e one ∷ [])
  moved_counted one = (move_counted (plan_at z) (seals_at z) h one.stamp number one.frame (source gets e) (target gets e), tt)

module _ {P : Type 0} (port : Ghosts P) (host : store.Ghosts P) (z : Site) (h : Entries) (number : ℕ) where
  page_exchanged : (f : ℕ) (page : Option Evicted) (before tap : TapState P) → LeftFirst port host z (history_of h) number f page before tap → AreExchanged port.gave port.took z h (evict_entries number page)
  page_exchanged f None before tap left = tt
  page_exchanged f (Some one) before tap left = (evict_exchanged port.gave port.took z h left.is.past one.stamp number one.page one.frame left.is.place left.is.stands left.crossed.took, tt)

  page_counted : (f : ℕ) (page : Option Evicted) (before tap : TapState P) → LeftFirst port host z (history_of h) number f page before tap → AreCounted (plan_at z) (seals_at z) h (page_told number page)
  page_counted f None before tap left = tt
  page_counted f (Some one) before tap left = (evict_counted port.gave port.took z h left.is.past one.stamp number one.page one.frame one.puts left.is.place left.is.stands left.count, tt)

  its_frame : (f : ℕ) (page : Option Evicted) (before tap : TapState P) → LeftFirst port host z (history_of h) number f page before tap → IsItsFrame f page
  its_frame f None before tap left = tt
  its_frame f (Some one) before tap left = left.frame

  module _ (gets : Bool) (e : ℕ) where
    gone_exchanged : (went : List Went) (before tap : TapState P) → AreGone port host z (history_of h) number gets e went before tap → AreExchanged port.gave port.took z h (all_entries number gets e went)
    gone_exchanged [] before tap gone = tt
    gone_exchanged (one ∷ went) before tap gone = exchanged_append port.gave port.took z h (went_entries number gets e one) (all_entries number gets e went)
        (exchanged_append port.gave port.took z h (evict_entries number one.evicted) (move_entry number gets e one ∷ []) (page_exchanged one.frame one.evicted before gone.0 gone.1.left) (moved_exchanged port.gave port.took z h number gets e one gone.1.moved))
        (gone_exchanged went gone.0 tap gone.2)

    gone_counted : (went : List Went) (before tap : TapState P) → AreGone port host z (history_of h) number gets e went before tap → AreCounted (plan_at z) (seals_at z) h (all_told number gets e went)
    gone_counted [] before tap gone = tt
    gone_counted (one ∷ went) before tap gone = counted_append (plan_at z) (seals_at z) h (went_told number gets e one) (all_told number gets e went)
        (counted_append (plan_at z) (seals_at z) h (page_told number one.evicted) (move_told number gets e one ∷ []) (page_counted one.frame one.evicted before gone.0 gone.1.left) (moved_counted port.gave port.took z h number gets e one))
        (gone_counted went gone.0 tap gone.2)

    gone_each : (went : List Went) (before tap : TapState P) → AreGone port host z (history_of h) number gets e went before tap → AllByRecursion (IsGone gets) went
    gone_each [] before tap gone = tt
    gone_each (one ∷ went) before tap gone = (record { one_way = gone.1.one_way; its_frame = its_frame one.frame one.evicted before gone.0 gone.1.left }, gone_each went gone.0 tap gone.2)

module _ (z : Site) (h : Entries) (number e : ℕ) where
  got_exchanged : (went : List Went) → AreMoved z (history_of h) number e went → AreExchanged no_block no_block z h (all_entries number true e went)
  got_exchanged [] moved = tt
  got_exchanged (one ∷ went) moved = exchanged_append no_block no_block z h (went_entries number true e one) (all_entries number true e went)
      (exchanged_append no_block no_block z h (evict_entries number one.evicted) (move_entry number true e one ∷ []) (subst (λ (o : Option Evicted). AreExchanged no_block no_block z h (evict_entries number o)) (sym moved.0.1) tt)
      (moved_exchanged no_block no_block z h number true e one moved.0.0)) (got_exchanged went moved.1)

  got_counted : (went : List Went) → AreMoved z (history_of h) number e went → AreCounted (plan_at z) (seals_at z) h (all_told number true e went)
  got_counted [] moved = tt
  got_counted (one ∷ went) moved = counted_append (plan_at z) (seals_at z) h (went_told number true e one) (all_told number true e went)
      (counted_append (plan_at z) (seals_at z) h (page_told number one.evicted) (move_told number true e one ∷ []) (subst (λ (o : Option Evicted). AreCounted (plan_at z) (seals_at z) h (page_told number o)) (sym moved.0.1) tt)
      (moved_counted no_block no_block z h number true e one)) (got_counted went moved.1)

  got_each : (went : List Went) → AreMoved z (history_of h) number e went → AllByRecursion (IsGone true) went
  got_each [] moved = tt
  got_each (one ∷ went) moved = (record { one_way = moved.0.1; its_frame = subst (IsItsFrame one.frame) (sym moved.0.1) tt }, got_each went moved.1)

-- there are at most two lines for each frame
pub page_few : (number : ℕ) (page : Option Evicted) → length (page_told number page) ≤ 1
page_few number None = omega arith
page_few number (Some one) = omega arith

told_few : (number : ℕ) (gets : Bool) (e : ℕ) (went : List Went) → length (all_told number gets e went) ≤ 2 * length went
told_few number gets e [] = omega arith
told_few number gets e (one ∷ went) =
    let rest = told_few number gets e went in let a = page_few number one.evicted in
    let b = length-append (page_told number one.evicted) (move_told number gets e one ∷ []) in let d = length-append (went_told number gets e one) (all_told number gets e went) in omega (arith, rest, a, b, d)

-- so there is room for two more
room_more : (number : ℕ) (gets : Bool) (e : ℕ) (went : List Went) (most : ℕ) (actor : Actor) (old new : Vec LogLine Global) → Writes actor (all_told number gets e went) old new → length went < most → length old.items + 2 * most ≤ vec_capacity old → length new.items + 2 ≤ vec_capacity new
room_more number gets e went most actor old new writes fewer room =
    let a = told_few number gets e went in let b = ap length writes.lines in let d = length-append old.items (map (line_of actor) (all_told number gets e went)) in
    let f = length-map (all_told number gets e went) (line_of actor) in let g = writes.room in omega (arith, a, b, d, f, g, fewer, room)

-- ---- frames that an enclave gives

module _ {P : Type 0} (port : Ghosts P) (host : store.Ghosts P) where
  -- so many frames went, and lines were written for each
  pub record GivesWritten (s : PassState) (before : TapState P) (e : ℕ) (clock : ClockTurn) (actor : Actor) (old : Vec LogLine Global) (i : ℕ) (s' : PassState) (tap : TapState P) (clock' : ClockTurn) (new : Vec LogLine Global) : Type 0 where
    pub went : List Went
    pub made : MakesAll s (all_entries s.hand.number false e went) s'
    pub gone : AreGone port host s.hand.home (seen s') s.hand.number false e went before tap
    pub holds : Holds e clock' s'
    pub count : length went ≡ i
    pub fewer : length clock'.clock + i ≡ length clock.clock
    pub writes : Writes actor (all_told s.hand.number false e went) old new

  module _ (z : Site) (s : PassState) (own : s.hand.home ≡ z) (law : IsLawful s) (before : TapState P) (e : ℕ) (clock : ClockTurn) (holds : Holds e clock s) (to : ℕ) (more : to ≤ length clock.clock) (left : 2 * all_frames (plan_at z) + 1 ≤ s.hand.left) (actor : Actor) (old : Vec LogLine Global) where
    -- none went yet
    pub gives_none : GivesWritten s before e clock actor old 0 s before clock old
    gives_none = record { went = []; made = makes_same s; gone = refl; holds = holds; count = refl; fewer = omega arith; writes = writes_none actor old }

    few : length clock.clock ≤ all_frames (plan_at z)
    few = subst (λ (y : Site). length clock.clock ≤ all_frames (plan_at y)) own (few_of_machine s law (Some e) clock holds.has)

    module _ (i : ℕ) (s' : PassState) (tap : TapState P) (clock' : ClockTurn) (new : Vec LogLine Global) (w : GivesWritten s before e clock actor old i s' tap clock' new) where
      -- the pass has two stamps
      pub gives_left : i < length clock.clock - to → 2 ≤ s'.hand.left
      gives_left within = let a = w.made.goes.left in let b = entries_few s.hand.number false e w.went in let d = w.count in let f = few in omega (arith, a, b, d, f, within, left)

      -- the lines tell of the frames
      tells : (s'' : PassState) (tap' : TapState P) → MakesAll s (all_entries s.hand.number false e w.went) s'' → AreGone port host s.hand.home (seen s'') s.hand.number false e w.went before tap' → TellsWent port.gave port.took z s s'' false e actor old new
      tells s'' tap' made gone = subst (λ (y : Site). TellsWent port.gave port.took y s s'' false e actor old new) own (record {
        went = w.went;
        makes = made;
        gone = gone_each port host s.hand.home s''.hand.seen s.hand.number false e w.went before tap' gone;
        exchanged = gone_exchanged port host s.hand.home s''.hand.seen s.hand.number false e w.went before tap' gone;
        counted = gone_counted port host s.hand.home s''.hand.seen s.hand.number false e w.went before tap' gone;
        few = subst (λ (y : Site). length w.went ≤ all_frames (plan_at y)) (sym own) (let a = few in let b = w.fewer in let d = w.count in omega (arith, a, b, d));
        writes = w.writes;
      })

      -- as many as are wanted are left
      pub gives_tells : TellsWent port.gave port.took z s s' false e actor old new
      gives_tells = tells s' tap w.made w.gone

      some_left : (s'' : PassState) → s''.hand.left + length (all_entries s.hand.number false e w.went) ≡ s.hand.left → 0 < s''.hand.left
      some_left s'' a = let b = entries_few s.hand.number false e w.went in let d = w.count in let f = few in let g = w.fewer in omega (arith, a, b, d, f, g, left)

      pub gives_done : i ≡ length clock.clock - to → MayEndRelease s' e clock' to
      gives_done done = record { holds = w.holds; left = some_left s' w.made.goes.left; stop = inl (let b = w.fewer in omega (arith, b, done, more)) }

      module _ (s'' : PassState) (tap' : TapState P) (clock'' : ClockTurn) where
        module _ (none : ReleasedNone port host s' tap e clock' s'' tap' clock'') where
          made_still : MakesAll s (all_entries s.hand.number false e w.went) s''
          made_still = subst (λ (xs : List Made). MakesAll s xs s'') (append-nil (all_entries s.hand.number false e w.went)) (makes_then s s' s'' (all_entries s.hand.number false e w.went) [] w.made none.made)

          -- there was none to give
          pub gives_stopped : TellsWent port.gave port.took z s s'' false e actor old new
          gives_stopped = tells s'' tap (made_still) (gone_on port host s.hand.home (seen s') (seen s'') s.hand.number false e w.went before tap (seen_on s' s'' [] none.made.goes) w.gone)

          pub gives_may_stop : i < length clock.clock - to → MayEndRelease s'' e clock'' to
          gives_may_stop within = record {
            holds = none.holds;
            left = some_left s'' made_still.goes.left;
            stop = inr ((let b = w.fewer in let d = ap (λ (y : ClockTurn). length y.clock) none.same in omega (arith, b, d, within)), subst (λ (y : ClockTurn). AllNoted y.clock true s''.sweep.words) (sym none.same) none.noted);
          }

        -- there is room for the lines of one more
        pub gives_room : i < length clock.clock - to → length old.items + 2 * all_frames (plan_at z) ≤ vec_capacity old → length new.items + 2 ≤ vec_capacity new
        gives_room within room = room_more s.hand.number false e w.went (all_frames (plan_at z)) actor old new w.writes (let a = few in let b = w.count in omega (arith, a, b, within)) room

        -- one more went, and its lines were written
        pub gives_more : (one : Went) (new' : Vec LogLine Global) → ReleasedOne port host s' tap e clock' one s'' tap' clock'' → ((number : ℕ) → Writes actor (went_told number false e one) new new') → GivesWritten s before e clock actor old (i + 1) s'' tap' clock'' new'
        gives_more one new' did wrote = record {
          went = w.went ++ one ∷ [];
          made = subst (λ (xs : List Made). MakesAll s xs s'') (sym (entries_more s.hand.number false e w.went one))
              (makes_then s s' s'' (all_entries s.hand.number false e w.went) (went_entries s.hand.number false e one) w.made (subst (λ (n : ℕ). MakesAll s' (went_entries n false e one) s'') w.made.goes.number did.made));
          gone = gone_more port host s.hand.home (seen s'') s.hand.number false e w.went one before tap tap'
              (gone_on port host s.hand.home (seen s') (seen s'') s.hand.number false e w.went before tap (seen_on s' s'' (went_entries s'.hand.number false e one) did.made.goes) w.gone)
              (subst (λ (y : Site × ℕ). HasGone port host y.0 (seen s'') y.1 false e one tap tap') (λ j. (w.made.goes.home j, w.made.goes.number j)) did.gone);
          holds = did.holds;
          count = (let a = w.count in let b = length-append w.went (one ∷ []) in omega (arith, a, b));
          fewer = (let a = w.fewer in let b = did.fewer in omega (arith, a, b));
          writes = subst (λ (told : List Told). Writes actor told old new') (sym (told_more s.hand.number false e w.went one))
              (writes_more actor (all_told s.hand.number false e w.went) (went_told s.hand.number false e one) old new new' w.writes (wrote s.hand.number));
        }

-- ---- frames that an enclave gets

-- so many frames of the pool were tried, and a line was written for each that went
pub record GetsWritten (s : PassState) (e : ℕ) (clock pool : ClockTurn) (to : ℕ) (actor : Actor) (old : Vec LogLine Global) (i : ℕ) (s' : PassState) (clock' pool' : ClockTurn) (new : Vec LogLine Global) : Type 0 where
  pub went : List Went
  pub made : MakesAll s (all_entries s.hand.number true e went) s'
  pub moved : AreMoved s.hand.home (seen s') s.hand.number e went
  pub holds : Gathering e clock' pool' s'
  pub count : length went ≤ i
  pub left : left_count pool s.sweep.words ≡ left_count pool' s'.sweep.words + i
  pub grown : length clock'.clock ≤ to
  pub writes : Writes actor (all_told s.hand.number true e went) old new

module _ (z : Site) (s : PassState) (own : s.hand.home ≡ z) (law : IsLawful s) (e : ℕ) (clock pool : ClockTurn) (holds : Gathering e clock pool s) (empty : s.sweep.words ≡ []) (to : ℕ) (fewer : length clock.clock ≤ to) (left : 2 * all_frames (plan_at z) + 1 ≤ s.hand.left) (actor : Actor) (old : Vec LogLine Global) where
  -- none was tried yet
  pub gets_none : GetsWritten s e clock pool to actor old 0 s clock pool old
  gets_none = record { went = []; made = makes_same s; moved = tt; holds = holds; count = omega arith; left = omega arith; grown = fewer; writes = writes_none actor old }

  few_pool : length pool.clock ≤ all_frames (plan_at z)
  few_pool = subst (λ (y : Site). length pool.clock ≤ all_frames (plan_at y)) own (few_of_machine s law None pool holds.pool_has)

  none_yet : left_count pool s.sweep.words ≡ length pool.clock
  none_yet = let a = ap (λ (ws : List Looked). length ws) empty in omega (arith, a)

  module _ (i : ℕ) (s' : PassState) (clock' pool' : ClockTurn) (new : Vec LogLine Global) (w : GetsWritten s e clock pool to actor old i s' clock' pool' new) where
    -- there is one to try
    pub gets_one_more : i < length pool.clock → length s'.sweep.words < length pool'.clock
    gets_one_more within = let a = w.left in let b = none_yet in omega (arith, a, b, within)

    stamp_left : i ≤ length pool.clock → 0 < s'.hand.left
    stamp_left within = let a = w.made.goes.left in let b = entries_few s.hand.number true e w.went in let d = w.count in let f = few_pool in omega (arith, a, b, d, f, within, left)

    -- and a stamp
    pub gets_left : i < length pool.clock → 0 < s'.hand.left
    gets_left within = stamp_left (omega (arith, within))

    -- and room for its line
    pub gets_room : i < length pool.clock → length old.items + 2 * all_frames (plan_at z) ≤ vec_capacity old → length new.items + 2 ≤ vec_capacity new
    gets_room within room = room_more s.hand.number true e w.went (all_frames (plan_at z)) actor old new w.writes (let a = few_pool in let b = w.count in omega (arith, a, b, within)) room

    -- the lines tell of the frames
    pub gets_tells : i ≤ length pool.clock → TellsWent no_block no_block z s s' true e actor old new
    gets_tells within = subst (λ (y : Site). TellsWent no_block no_block y s s' true e actor old new) own (record {
      went = w.went;
      makes = w.made;
      gone = got_each s.hand.home s'.hand.seen s.hand.number e w.went w.moved;
      exchanged = got_exchanged s.hand.home s'.hand.seen s.hand.number e w.went w.moved;
      counted = got_counted s.hand.home s'.hand.seen s.hand.number e w.went w.moved;
      few = subst (λ (y : Site). length w.went ≤ all_frames (plan_at y)) (sym own) (let a = few_pool in let b = w.count in omega (arith, a, b, within));
      writes = w.writes;
    })

    -- the enclave has enough
    pub gets_enough : i ≤ length pool.clock → to ≤ length clock'.clock → MayEndGather s' e clock' pool' to
    gets_enough within enough = record { holds = w.holds; left = stamp_left within; stop = inl (let a = w.grown in omega (arith, a, enough)) }

    -- none is left to be tried
    pub gets_done : i ≡ length pool.clock → MayEndGather s' e clock' pool' to
    gets_done done = record {
      holds = w.holds;
      left = stamp_left (omega (arith, done));
      stop = ⊎_elim (λ (fewer : length clock'.clock < to). inr (fewer, all w.holds.tried.first.0 w.holds.tried.first.1))
          (λ (le : to ≤ length clock'.clock). inl (let a = w.grown in omega (arith, a, le))) (cases_lt (length clock'.clock) to);
    } where
      all : (rest : List ℕ) → pool'.clock ≡ frames_in s'.sweep.words ++ rest → pool'.clock ≡ frames_in s'.sweep.words
      all [] is = is ∙ append-nil (frames_in s'.sweep.words)
      all (g ∷ rest) is = absurd (let a = ap length is in let b = length-append (frames_in s'.sweep.words) (g ∷ rest) in let d = length-map s'.sweep.words (λ (seen : Looked). seen.frame) in
          let f = w.left in let n = none_yet in omega (arith, a, b, d, f, n, done))

    -- one more was tried, while the enclave had too few
    tried : (r : Option Went) (s'' : PassState) (clock'' pool'' : ClockTurn) (new' : Vec LogLine Global) → length clock'.clock < to → GathersOne s' e clock' pool' r s'' clock'' pool'' → ((number : ℕ) → Writes actor (tried_told number e r) new new') → GetsWritten s e clock pool to actor old (i + 1) s'' clock'' pool'' new'
    tried None s'' clock'' pool'' new' few did wrote = record {
      went = w.went;
      made = subst (λ (xs : List Made). MakesAll s xs s'') (append-nil (all_entries s.hand.number true e w.went)) (makes_then s s' s'' (all_entries s.hand.number true e w.went) [] w.made did.made);
      moved = moved_on s.hand.home (seen s') (seen s'') s.hand.number e w.went (seen_on s' s'' [] did.made.goes) w.moved;
      holds = did.holds;
      count = (let a = w.count in omega (arith, a));
      left = (let a = w.left in let b = did.fewer in omega (arith, a, b));
      grown = (let a = w.grown in let b = ap (λ (y : ClockTurn). length y.clock) did.same in omega (arith, a, b));
      writes = subst (λ (told : List Told). Writes actor told old new') (append-nil (all_told s.hand.number true e w.went)) (writes_more actor (all_told s.hand.number true e w.went) [] old new new' w.writes (wrote s.hand.number));
    }
    tried (Some one) s'' clock'' pool'' new' few did wrote = record {
      went = w.went ++ one ∷ [];
      made = subst (λ (xs : List Made). MakesAll s xs s'') (sym (entries_more s.hand.number true e w.went one))
          (makes_then s s' s'' (all_entries s.hand.number true e w.went) (went_entries s.hand.number true e one) w.made (subst (λ (n : ℕ). MakesAll s' (went_entries n true e one) s'') w.made.goes.number did.made));
      moved = all_more (λ (x : Went). IsEntry s.hand.home (seen s'') (move_entry s.hand.number true e x) × IsOneWay true x) w.went one
          (moved_on s.hand.home (seen s') (seen s'') s.hand.number e w.went (seen_on s' s'' (went_entries s'.hand.number true e one) did.made.goes) w.moved)
          (subst (λ (y : Site × ℕ). IsEntry y.0 (seen s'') (move_entry y.1 true e one)) (λ j. (w.made.goes.home j, w.made.goes.number j)) did.moved, did.one_way);
      holds = did.holds;
      count = (let a = w.count in let b = length-append w.went (one ∷ []) in omega (arith, a, b));
      left = (let a = w.left in let b = did.fewer in omega (arith, a, b));
      grown = (let a = ap length did.list in let b = length-append clock'.clock (one.frame ∷ []) in omega (arith, a, b, few));
      writes = subst (λ (told : List Told). Writes actor told old new') (sym (told_more s.hand.number true e w.went one))
          (writes_more actor (all_told s.hand.number true e w.went) (went_told s.hand.number true e one) old new new' w.writes (wrote s.hand.number));
    }

    pub gets_more : (s'' : PassState) (clock'' pool'' : ClockTurn) (new' : Vec LogLine Global) → length clock'.clock < to → GathersTold s' e clock' pool' s'' clock'' pool'' actor new new' → GetsWritten s e clock pool to actor old (i + 1) s'' clock'' pool'' new'
    gets_more s'' clock'' pool'' new' few did = tried did.went s'' clock'' pool'' new' few did.gathers did.writes

-- ---- the end

module _ (gave took : ℕ → List ℕ → Type 0) (z : Site) (e to : ℕ) (end : BalloonEnd) (actor : Actor) (old new : Vec LogLine Global) where
  -- frames went, and then the survey was stamped
  pub share_told : (s s₁ s₂ : PassState) (gets : Bool) → TellsWent gave took z s s₁ gets e actor old new → EndsShare s₁ e to gets end s₂ → TellsShare gave took z s s₂ e to end actor old new
  share_told s s₁ s₂ gets t en = record {
    gets = gets;
    went = t.went;
    past = en.past;
    goes = subst (λ (d : Stamp). Goes core_terms s.hand s₂.hand (all_entries s.hand.number gets e t.went ++ (length en.past, d) ∷ [])) stamp_is
        (goes_trans core_terms s.hand s₁.hand s₂.hand (all_entries s.hand.number gets e t.went) ((length en.past, share_stamp s₁.hand.number e to end s₂.sweep.words) ∷ []) t.makes.goes en.goes);
    sees = en.sees ∙ ap (λ (d : Stamp). d.entry ∷ en.past) stamp_is;
    no_turn = en.no_turn;
    pins = en.pins ∙ t.makes.pins;
    gone = t.gone;
    exchanged = exchanged_later gave took z s₁ s₂.hand.seen (entries core_terms s.hand) (all_entries s.hand.number gets e t.went) t.makes.goes.own en.goes.more en.goes.sees t.exchanged;
    counted = counted_later (plan_at z) (seals_at z) s₁ s₂.hand.seen (entries core_terms s.hand) (all_told s.hand.number gets e t.went)
        (t.makes.goes.own ∙ ap (λ (ms : List Made). entries core_terms s.hand ++ ms) (sym (all_made s.hand.number gets e t.went))) en.goes.more en.goes.sees t.counted;
    few = t.few;
    writes = t.writes;
  } where
    stamp_is : share_stamp s₁.hand.number e to end s₂.sweep.words ≡ share_stamp s.hand.number e to end s₂.sweep.words
    stamp_is = ap (λ n. share_stamp n e to end s₂.sweep.words) t.makes.goes.number

  -- nothing was made before
  pub share_begun : (s s₁ s₂ : PassState) → MakesAll s [] s₁ → TellsShare gave took z s₁ s₂ e to end actor old new → TellsShare gave took z s s₂ e to end actor old new
  share_begun s s₁ s₂ made t = record {
    gets = t.gets;
    went = t.went;
    past = t.past;
    goes = subst (λ (n : ℕ). Goes core_terms s.hand s₂.hand (all_entries n t.gets e t.went ++ (length t.past, share_stamp n e to end s₂.sweep.words) ∷ [])) number
        (goes_trans core_terms s.hand s₁.hand s₂.hand [] (all_entries s₁.hand.number t.gets e t.went ++ (length t.past, share_stamp s₁.hand.number e to end s₂.sweep.words) ∷ []) made.goes t.goes);
    sees = t.sees ∙ ap (λ (n : ℕ). (share_stamp n e to end s₂.sweep.words).entry ∷ t.past) number;
    no_turn = t.no_turn;
    pins = t.pins ∙ made.pins;
    gone = t.gone;
    exchanged = subst (λ (n : ℕ). AreExchanged gave took z s₂.hand.seen (all_entries n t.gets e t.went)) number t.exchanged;
    counted = subst (λ (n : ℕ). AreCounted (plan_at z) (seals_at z) s₂.hand.seen (all_told n t.gets e t.went)) number t.counted;
    few = t.few;
    writes = subst (λ (n : ℕ). Writes actor (all_told n t.gets e t.went) old new) number t.writes;
  } where
    number : s₁.hand.number ≡ s.hand.number
    number = made.goes.number

  none_given_too : (ps : List ℕ) (blocks : List (List ℕ)) → AreGiven no_block no_block ps blocks → AreGiven gave took ps blocks
  none_given_too [] blocks given = tt
  none_given_too (p ∷ ps) [] given = tt
  none_given_too (p ∷ ps) (block ∷ blocks) given = absurd given.0

  none_taken_too : (puts : List (ℕ × List ℕ)) → AllByRecursion (λ (q : ℕ × List ℕ). no_block q.0 q.1) puts → AllByRecursion (λ (q : ℕ × List ℕ). took q.0 q.1) puts
  none_taken_too [] taken = tt
  none_taken_too (q ∷ puts) taken = absurd taken.0

  none_exchanged : (h : Entries) (made : List Made) → AreExchanged no_block no_block z h made → AreExchanged gave took z h made
  none_exchanged h [] all = tt
  none_exchanged h (one ∷ made) all = (record { given = none_given_too (places (plan_at z) one.1.entry.event _) one.1.entry.blocks all.0.given; taken = none_taken_too _ all.0.taken }, none_exchanged h made all.1)

  -- where no block was exchanged, any host may have been there
  pub share_of_none : (s s' : PassState) → TellsShare no_block no_block z s s' e to end actor old new → TellsShare gave took z s s' e to end actor old new
  share_of_none s s' t = record {
    gets = t.gets;
    went = t.went;
    past = t.past;
    goes = t.goes;
    sees = t.sees;
    no_turn = t.no_turn;
    pins = t.pins;
    gone = t.gone;
    exchanged = none_exchanged s'.hand.seen (all_entries s.hand.number t.gets e t.went) t.exchanged;
    counted = t.counted;
    few = t.few;
    writes = t.writes;
  }

-- ---- a whole change

-- the lines on the way are of frames
page_lines_are : (number : ℕ) (page : Option Evicted) (rest : List Told) → list_all is_frame_line (map shown (page_told number page ++ rest)) ≡ list_all is_frame_line (map shown rest)
page_lines_are number None rest = refl
page_lines_are number (Some one) rest = refl

went_lines : (number : ℕ) (gets : Bool) (e : ℕ) (went : List Went) → list_all is_frame_line (map shown (all_told number gets e went)) ≡ true
went_lines number gets e [] = refl
went_lines number gets e (one ∷ went) =
    ap (λ (told : List Told). list_all is_frame_line (map shown told)) (append_assoc (page_told number one.evicted) (move_told number gets e one ∷ []) (all_told number gets e went))
    ∙ (page_lines_are number one.evicted (move_told number gets e one ∷ all_told number gets e went) ∙ went_lines number gets e went)

module _ (k : Plan) (names : Names) where
  mean_append : (xs ys : List Told) → AllMean k names xs → AllMean k names ys → AllMean k names (xs ++ ys)
  mean_append [] ys a b = b
  mean_append (x ∷ xs) ys a b = (a.0, mean_append xs ys a.1 b)

  page_means : (number : ℕ) (page : Option Evicted) → AllMean k names (page_told number page)
  page_means number None = tt
  page_means number (Some one) = (refl, tt)

  went_mean : (number : ℕ) (gets : Bool) (e : ℕ) (went : List Went) → AllMean k names (all_told number gets e went)
  went_mean number gets e [] = tt
  went_mean number gets e (one ∷ went) = mean_append (went_told number gets e one) (all_told number gets e went) (mean_append (page_told number one.evicted) (move_told number gets e one ∷ []) (page_means number one.evicted) (refl, tt)) (went_mean number gets e went)

-- a frame that the enclave gives
loss_of : Went → Loss
loss_of went = record { frame = went.frame; page = option_map (λ (one : Evicted). (one.page, one.puts)) went.evicted }

gained : (number e : ℕ) (went : List Went) → AllByRecursion (IsGone true) went → map shown (all_told number true e went) ≡ map (gain_line e) (map (λ (one : Went). one.frame) went)
gained number e [] gone = refl
gained number e (one ∷ went) gone =
    ap (λ (o : Option Evicted). map shown ((page_told number o ++ move_told number true e one ∷ []) ++ all_told number true e went)) gone.0.one_way ∙ ap (λ (ls : List Shown). gain_line e one.frame ∷ ls) (gained number e went gone.1)

page_lost : (number e frame : ℕ) (page : Option Evicted) (move : Told) (rest : List Told) → IsItsFrame frame page
    → map shown ((page_told number page ++ move ∷ []) ++ rest) ≡ (page_lines frame (option_map (λ (one : Evicted). (one.page, one.puts)) page) ++ shown move ∷ []) ++ map shown rest
page_lost number e frame None move rest its = refl
page_lost number e frame (Some one) move rest its = ap (λ (f : ℕ). evict_line one.page f one.puts ∷ shown move ∷ map shown rest) its

lost : (number e : ℕ) (went : List Went) → AllByRecursion (IsGone false) went → map shown (all_told number false e went) ≡ flat_map (loss_lines e) (map loss_of went)
unfolding loss_of
lost number e [] gone = refl
lost number e (one ∷ went) gone =
    page_lost number e one.frame one.evicted (move_told number false e one) (all_told number false e went) gone.0.its_frame ∙ ap (λ (ls : List Shown). loss_lines e (loss_of one) ++ ls) (lost number e went gone.1)

-- frames all go one way
went_one_way : (number : ℕ) (gets : Bool) (e : ℕ) (went : List Went) → AllByRecursion (IsGone gets) went → LinesOneWay e (map shown (all_told number gets e went))
went_one_way number true e went gone = inl (map (λ (one : Went). one.frame) went, gained number e went gone)
went_one_way number false e went gone = inr (map loss_of went, lost number e went gone)

share_not_skipped : (end : BalloonEnd) (sweep : List Looked) → is_skipped (survey_answer (end_reply end) sweep) ≡ false
share_not_skipped (Done share) sweep = refl
share_not_skipped (Short share) sweep = refl
share_not_skipped (Pinned share) sweep = refl

share_means : (own pool : List ℕ) (e to : ℕ) (end : BalloonEnd) (sweep : List Looked) → SurveyReply own pool (To to) sweep (end_reply end) → share_event e to (survey_answer (end_reply end) sweep) ≡ Some (events.Survey e (To to) sweep)
share_means own pool e to (Done share) sweep is = ap (λ (ws : List Looked). Some (events.Survey e (To to) ws)) (sym is.2)
share_means own pool e to (Short share) sweep is = refl
share_means own pool e to (Pinned share) sweep is = refl

module _ (gave took : ℕ → List ℕ → Type 0) (z : Site) (e to : ℕ) (s : PassState) (own : s.hand.home ≡ z) (end : BalloonEnd) (actor : Actor) (old new : Vec LogLine Global) (s' : PassState) (law : IsLawful s')
    (t : TellsShare gave took z s s' e to end actor old new) (said : Spoken) (names : Names) (stamp : said.stamp ≡ Some (last_stamp (entries core_terms s'.hand))) (reply : said.reply ≡ survey_answer (end_reply end) s'.sweep.words) where
  abbrev way : List Told
  way = all_told s.hand.number t.gets e t.went

  abbrev last : Made
  last = (length t.past, share_stamp s.hand.number e to end s'.sweep.words)

  made_is : made_in way ≡ all_entries s.hand.number t.gets e t.went
  made_is = all_made s.hand.number t.gets e t.went

  goes : Goes core_terms s.hand s'.hand (made_in way ++ last ∷ [])
  goes = subst (λ (ms : List Made). Goes core_terms s.hand s'.hand (ms ++ last ∷ [])) (sym made_is) t.goes

  legal : CoreStep (plan_of s') (seals_of s') t.past last.1.entry
  legal = (subst (CoreRun (plan_of s') (seals_of s')) t.sees law.run.legal).0

  home : s'.hand.home ≡ z
  home = t.goes.home ∙ own

  speaks : Speaks z (words.SetShare e to) way said s s' names names
  speaks = record {
    came = Entered last 0;
    has_made = record { goes = goes; turns = t.no_turn; pins = t.pins };
    stamp_is = stamp ∙ ap Some (ap last_stamp (goes.own ∙ sym (append_assoc (entries core_terms s.hand) (made_in way) (last ∷ []))) ∙ last_snoc (entries core_terms s.hand ++ made_in way) last);
    reply_is = reply;
    gives = (
      (λ i. when (went_lines s.hand.number t.gets e t.went i && not (share_not_skipped end s'.sweep.words i)) names),
      went_mean (plan_at z) names s.hand.number t.gets e t.went,
      share_means _ _ e to end s'.sweep.words legal.step.0,
      tt,
      went_one_way s.hand.number t.gets e t.went t.gone,
    );
    few = let a = t.few in let b = told_few s.hand.number t.gets e t.went in omega (arith, a, b);
  }

  last_exchanged : AreExchanged gave took z s'.hand.seen (last ∷ [])
  last_exchanged = subst (λ (y : Site). AreExchanged gave took y s'.hand.seen (last ∷ [])) home
      (survey_exchanged gave took s'.hand.home s'.hand.seen t.past s.hand.number e (To to) s'.sweep.words (end_reply end) t.sees legal)

  -- the change was spoken of
  pub share_around : SpeaksAround gave took z (words.SetShare e to) said s s' names names actor old new
  share_around = record {
    way = way;
    speaks = speaks;
    exchanged = exchanges_these gave took z s s' (made_in way ++ last ∷ []) goes
        (exchanged_append gave took z s'.hand.seen (made_in way) (last ∷ []) (subst (AreExchanged gave took z s'.hand.seen) (sym made_is) t.exchanged) last_exchanged);
    counted = t.counted;
    writes = t.writes;
  }
