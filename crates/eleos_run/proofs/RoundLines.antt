-- What a round of the swapper tells.
use Rattle.std.proofs.Common.{◌≡◌, ◌⊎◌, ℕ, ◌+◌, ◌<◌, ◌≤◌, List, [], ◌∷◌, ◌++◌, length, map, Bool, true, false, not, ◌&&◌, Some, Vec, vec_capacity, refl, sym, ap, ◌∙◌, subst, arith, append_assoc, length-append}
use lib.ListN.{length-map}
use Rattle.std.specs.List.{AllByRecursion, list_all}
use Rattle.std.specs.declared.alloc.Global.{Global}
use Rattle.std.proofs.lemmas.List.{map-append}
use Rattle.eleos_base.specs.declared.memory.Looked.{Looked}
use Rattle.eleos_base.specs.declared.plan.Plan.{Plan}
use Rattle.eleos_base.specs.Places.{all_frames}
use Rattle.eleos_clock.specs.Frees.{AreFree}
use Rattle.eleos_clock.specs.Searches.{MaySearch}
use Rattle.eleos_core.specs.declared.event.Event.{Event}
use Rattle.eleos_core.specs.declared.event.Event.TheVariants as events
use Rattle.eleos_core.specs.declared.event.Goal.TheVariants.{Low}
use Rattle.eleos_core.specs.Applying.{puts_of}
use Rattle.eleos_core.specs.Evicts.{evict_stamp}
use Rattle.eleos_core.specs.Legal.{IsActor}
use Rattle.eleos_core.specs.Parts.{Entries, Made, Stamp}
use Rattle.eleos_core.specs.State.{History}
use Rattle.eleos_core.specs.Sweeps.{frames_in}
use Rattle.eleos_core.proofs.OpeningLists.{all_more}
use Rattle.eleos_host.specs.declared.port.HostPort.{Ghosts}
use Rattle.eleos_host.specs.declared.port.HostStore as store
use Rattle.eleos_host.specs.Taps.{TapState}
use Rattle.eleos_machine.specs.declared.holding.ClockTurn.{ClockTurn}
use Rattle.eleos_machine.specs.Machines.{Site, plan_at, seals_at}
use Rattle.eleos_machine.specs.Notes.{is_noted_free}
use Rattle.eleos_machine.specs.Passes.{IsLawful, PassState, last_stamp, plan_of, seen}
use Rattle.eleos_pages.specs.Exchanges.{AreExchanged}
use Rattle.eleos_pages.proofs.Exchanging.{exchanged_append, exchanged_later, exchanges_these}
use Rattle.eleos_plot.specs.Histories.{history_of}
use Rattle.eleos_plot.specs.Terms.{core_terms}
use Rattle.eleos_report.specs.declared.line.LogLine.{LogLine}
use Rattle.eleos_trace.specs.declared.word.Actor.{Actor}
use Rattle.eleos_trace.specs.declared.word.Word.TheVariants as words
use Rattle.eleos_turn.specs.Hands.{Goes, entries}
use Rattle.eleos_turn.specs.Numbers.{less_one}
use Rattle.eleos_turn.proofs.Clients.{goes_trans}
use Rattle.eleos_swap.specs.declared.ends.RoundEnd.{RoundEnd}
use Rattle.eleos_swap.specs.declared.ends.RoundEnd.TheVariants.{Enough, Swept}
use Rattle.eleos_swap.specs.declared.evicts.Evicted.{Evicted}
use Rattle.eleos_swap.specs.Ends.{MayStop, end_reply}
use Rattle.eleos_swap.specs.Evicts.{EvictedNone, EvictedOne, GoesOn, entry_of}
use Rattle.eleos_swap.specs.Making.{HandMoves, IsEvict, Makes, StaysFree}
use Rattle.eleos_swap.specs.Rounds.{Begins, CanSwap}
use Rattle.eleos_swap.specs.Surveys.{EndsRound, MayEnd, round_stamp}
use Rattle.eleos_swap.proofs.Going.{begins, goes_on}
use Rattle.eleos_swap.proofs.Listed.{few_of_machine}
use Rattle.eleos_swap.proofs.Notes.{shorter}
use Rattle.eleos_swap.proofs.Steps.{clock_stays, makes_none, makes_on, seen_on}
use Rattle.eleos_clock.proofs.Steps.{searches_same}
use Rattle.eleos_meaning.specs.Names.{Names}
use Rattle.eleos_meaning.specs.Table.{AllMean, IsEvictLine, is_frame_line, is_skipped, round_event, shown, sweep_in, when}
use Rattle.eleos_meaning.specs.Told.{Entered, Told, answer_in, made_in, survey_answer}
use Rattle.eleos_run.specs.declared.answers.Spoken.{Spoken}
use Rattle.eleos_run.specs.Counts.{AreCounted}
use Rattle.eleos_run.specs.Steps.{Speaks}
use Rattle.eleos_run.specs.Surveys.{SpeaksAround, TellsEvicts, Writes, evict_told}
use Rattle.eleos_run.proofs.Counted.{counted_later}
use Rattle.eleos_run.proofs.Speaking.{last_snoc}
use Rattle.eleos_run.proofs.Standing.{evict_counted, evict_exchanged, survey_exchanged}
use Rattle.eleos_run.proofs.Writing.{evicts_made, writes_more, writes_none}

-- an evict that is told: where it stands, what the host took for it, and how many blocks it tells of
pub record IsTold (took : ℕ → List ℕ → Type 0) (z : Site) (all : History) (ws : List Looked) (number : ℕ) (one : Evicted) : Type 0 where
  pub is : IsEvict z all ws number (entry_of number one)
  pub taken : AllByRecursion (λ (q : ℕ × List ℕ). took q.0 q.1) (puts_of (plan_at z) (seals_at z) (entry_of number one).1.entry is.past)
  pub count : one.puts ≡ length (puts_of (plan_at z) (seals_at z) (entry_of number one).1.entry is.past)

module _ (took : ℕ → List ℕ → Type 0) where
  -- it stays one where more is seen and more is noted
  told_on : (z : Site) (all all' : History) (ws ws' : List Looked) (number : ℕ) (one : Evicted) → (more : History) × (all' ≡ more ++ all) → StaysFree ws ws' → IsTold took z all ws number one → IsTold took z all' ws' number one
  told_on z all all' ws ws' number one more keeps t = record {
    is = record {
      page = t.is.page;
      frame = t.is.frame;
      is = t.is.is;
      noted = keeps t.is.frame t.is.noted;
      past = t.is.past;
      place = t.is.place;
      stands = (more.0 ++ t.is.stands.0, more.1 ∙ (ap (λ h. more.0 ++ h) t.is.stands.1 ∙ sym (append_assoc more.0 t.is.stands.0 ((entry_of number one).1.entry ∷ t.is.past))));
      legal = t.is.legal;
    };
    taken = t.taken;
    count = t.count;
  }

  all_told_on : (z : Site) (all all' : History) (ws ws' : List Looked) (number : ℕ) (evicted : List Evicted) → (more : History) × (all' ≡ more ++ all) → StaysFree ws ws' → AllByRecursion (IsTold took z all ws number) evicted → AllByRecursion (IsTold took z all' ws' number) evicted
  all_told_on z all all' ws ws' number [] more keeps told = tt
  all_told_on z all all' ws ws' number (one ∷ evicted) more keeps told = (told_on z all all' ws ws' number one more keeps told.0, all_told_on z all all' ws ws' number evicted more keeps told.1)

frame_of : Event → ℕ
frame_of (events.Evict page frame) = frame
frame_of _ = 0

-- the frame of an evict is the one that is noted
frame_is : (number p f p' f' : ℕ) → evict_stamp number p f ≡ evict_stamp number p' f' → f ≡ f'
unfolding frame_of
frame_is number p f p' f' is = ap (λ (d : Stamp). frame_of d.entry.event) is

-- what such evicts are to those who read the lines
module _ (gave took : ℕ → List ℕ → Type 0) (z : Site) (h : Entries) (ws : List Looked) (number : ℕ) where
  told_free : (evicted : List Evicted) → AllByRecursion (IsTold took z (history_of h) ws number) evicted → AllByRecursion (λ (one : Evicted). is_noted_free one.frame ws ≡ true) evicted
  told_free [] told = tt
  told_free (one ∷ evicted) told = (
    ap (λ (f : ℕ). is_noted_free f ws) (frame_is number one.page one.frame told.0.is.page told.0.is.frame told.0.is.is) ∙ told.0.is.noted,
    told_free evicted told.1,
  )

  told_exchanged : (evicted : List Evicted) → AllByRecursion (IsTold took z (history_of h) ws number) evicted → AreExchanged gave took z h (map (entry_of number) evicted)
  told_exchanged [] told = tt
  told_exchanged (one ∷ evicted) told = (evict_exchanged gave took z h told.0.is.past one.stamp number one.page one.frame told.0.is.place told.0.is.stands told.0.taken, told_exchanged evicted told.1)

  told_counted : (evicted : List Evicted) → AllByRecursion (IsTold took z (history_of h) ws number) evicted → AreCounted (plan_at z) (seals_at z) h (map (evict_told number) evicted)
  told_counted [] told = tt
  told_counted (one ∷ evicted) told = (evict_counted gave took z h told.0.is.past one.stamp number one.page one.frame one.puts told.0.is.place told.0.is.stands told.0.count, told_counted evicted told.1)

module _ {P : Type 0} (port : Ghosts P) (host : store.Ghosts P) where
  -- so many pages left their frames, and a line was written for each
  pub record EvictsWritten (s : PassState) (before : TapState P) (clock : ClockTurn) (low : ℕ) (actor : Actor) (old : Vec LogLine Global) (i : ℕ) (s' : PassState) (tap : TapState P) (clock' : ClockTurn) (new : Vec LogLine Global) : Type 0 where
    pub far : GoesOn port host s before clock low i s' tap clock'
    pub evicted : List Evicted
    pub many : length evicted ≡ i
    pub makes : Makes s (map (entry_of s.hand.number) evicted) s'
    pub told : AllByRecursion (IsTold port.took s.hand.home (seen s') s'.sweep.words s.hand.number) evicted
    pub writes : Writes actor (map (evict_told s.hand.number) evicted) old new

  module _ (z : Site) (s : PassState) (clock : ClockTurn) (may : MaySearch z s clock) (law : IsLawful s) (low : ℕ) (before : TapState P) (actor : Actor) (old : Vec LogLine Global) where
    -- no line was written yet
    pub written_none : AreFree clock.clock s.sweep.words → EvictsWritten s before clock low actor old 0 s before clock old
    written_none free = record {
      far = begins z s clock may law low port host before free;
      evicted = [];
      many = refl;
      makes = makes_none s s (searches_same s) refl;
      told = tt;
      writes = writes_none actor old;
    }

    few_noted : (s' : PassState) → AreFree clock.clock s'.sweep.words → length s'.sweep.words ≤ all_frames (plan_of s)
    few_noted s' free = let a = shorter (frames_in s'.sweep.words) clock.clock free.once in let b = length-map s'.sweep.words (λ (seen : Looked). seen.frame) in
        let c = few_of_machine s law may.enclave clock may.turn in omega (arith, a, b, c)

    module _ (i : ℕ) (s' : PassState) (tap : TapState P) (clock' : ClockTurn) (new : Vec LogLine Global) (w : EvictsWritten s before clock low actor old i s' tap clock' new) where
      -- the lines tell of the evicts
      tells : (s'' : PassState) → Makes s (map (entry_of s.hand.number) w.evicted) s'' → AllByRecursion (IsTold port.took s.hand.home (seen s'') s''.sweep.words s.hand.number) w.evicted → length w.evicted ≤ all_frames (plan_of s)
          → TellsEvicts port.gave port.took z s s'' actor old new
      tells s'' makes told few = subst (λ (y : Site). TellsEvicts port.gave port.took y s s'' actor old new) may.look.own (record {
        evicted = w.evicted;
        makes = makes;
        free = told_free port.gave port.took s.hand.home s''.hand.seen s''.sweep.words s.hand.number w.evicted told;
        exchanged = told_exchanged port.gave port.took s.hand.home s''.hand.seen s''.sweep.words s.hand.number w.evicted told;
        counted = told_counted port.gave port.took s.hand.home s''.hand.seen s''.sweep.words s.hand.number w.evicted told;
        few = few;
        writes = w.writes;
      })

      few_evicted : length w.evicted ≤ all_frames (plan_of s)
      few_evicted = let a = few_noted s' w.far.free in let b = w.far.grown in let c = w.many in omega (arith, a, b, c)

      -- enough are noted as free
      pub written_enough : TellsEvicts port.gave port.took z s s' actor old new
      written_enough = tells s' w.makes w.told few_evicted

      -- no page was left to evict
      pub written_swept : (s'' : PassState) → EvictedNone s' clock'.clock s'' → TellsEvicts port.gave port.took z s s'' actor old new
      written_swept s'' none = tells s'' (subst (λ (made : List Made). Makes s made s'') (Rattle.std.proofs.Common.append-nil (map (entry_of s.hand.number) w.evicted)) (makes_on s s' s'' (map (entry_of s.hand.number) w.evicted) [] w.makes none.makes))
          (all_told_on port.took s.hand.home (seen s') (seen s'') s'.sweep.words s''.sweep.words s.hand.number w.evicted (seen_on s' s'' [] none.makes.goes) none.keeps w.told) few_evicted

      module _ (s'' : PassState) (tap' : TapState P) (clock'' : ClockTurn) (one : Evicted) (fewer : length s'.sweep.words < low) (did : EvictedOne port host s' tap clock'.clock one s'' tap') (moves : HandMoves clock' clock'') where
        next_far : GoesOn port host s before clock low (i + 1) s'' tap' clock''
        next_far = goes_on z s clock may law low port host before i s' tap clock' w.far s'' tap' one clock'' fewer did moves

        -- one more left its frame
        pub written_room : length old.items + all_frames (plan_at z) ≤ vec_capacity old → length new.items < vec_capacity new
        written_room room =
            let a = few_noted s'' next_far.free in let b = next_far.grown in let c = w.many in let d = ap length w.writes.lines in let e = length-append old.items (map (Rattle.eleos_meaning.specs.Told.line_of actor) (map (evict_told s.hand.number) w.evicted)) in
            let f = length-map (map (evict_told s.hand.number) w.evicted) (Rattle.eleos_meaning.specs.Told.line_of actor) in let g = length-map w.evicted (evict_told s.hand.number) in let k = w.writes.room in let same = ap (λ (y : Site). all_frames (plan_at y)) may.look.own in
            omega (arith, a, b, c, d, e, f, g, k, same, room)

        -- and its line was written
        pub written_more : (new' : Vec LogLine Global) → ((number : ℕ) → Writes actor (evict_told number one ∷ []) new new') → EvictsWritten s before clock low actor old (i + 1) s'' tap' clock'' new'
        written_more new' wrote = record {
          far = next_far;
          evicted = w.evicted ++ one ∷ [];
          many = let a = w.many in let b = length-append w.evicted (one ∷ []) in omega (arith, a, b);
          makes = subst (λ (made : List Made). Makes s made s'') (sym (map-append (entry_of s.hand.number) w.evicted (one ∷ [])))
              (makes_on s s' s'' (map (entry_of s.hand.number) w.evicted) (entry_of s.hand.number one ∷ []) w.makes (subst (λ (k : ℕ). Makes s' (entry_of k one ∷ []) s'') number did.makes));
          told = all_more (IsTold port.took s.hand.home (seen s'') s''.sweep.words s.hand.number) w.evicted one
              (all_told_on port.took s.hand.home (seen s') (seen s'') s'.sweep.words s''.sweep.words s.hand.number w.evicted (seen_on s' s'' (entry_of s'.hand.number one ∷ []) did.makes.goes) did.keeps w.told)
              (subst (λ (y : Site × ℕ). IsTold port.took y.0 (seen s'') s''.sweep.words y.1 one) (λ j. (w.far.makes.goes.home j, number j)) (record { is = did.is; taken = did.crossed.took; count = did.count }));
          writes = subst (λ (told : List Told). Writes actor told old new') (sym (map-append (evict_told s.hand.number) w.evicted (one ∷ [])))
              (writes_more actor (map (evict_told s.hand.number) w.evicted) (evict_told s.hand.number one ∷ []) old new new' w.writes (wrote s.hand.number));
        } where
          number : s'.hand.number ≡ s.hand.number
          number = w.far.makes.goes.number

-- ---- a whole round

-- the lines on the way are of frames
evict_lines : (number : ℕ) (evicted : List Evicted) → list_all is_frame_line (map shown (map (evict_told number) evicted)) ≡ true
evict_lines number [] = refl
evict_lines number (one ∷ evicted) = evict_lines number evicted

evicts_mean : (k : Plan) (names : Names) (number : ℕ) (evicted : List Evicted) → AllMean k names (map (evict_told number) evicted)
evicts_mean k names number [] = tt
evicts_mean k names number (one ∷ evicted) = (refl, evicts_mean k names number evicted)

-- they are of frames that the words have as free
evicts_surveyed : (number : ℕ) (sweep : List Looked) (evicted : List Evicted) → AllByRecursion (λ (one : Evicted). is_noted_free one.frame sweep ≡ true) evicted → AllByRecursion (IsEvictLine sweep) (map shown (map (evict_told number) evicted))
evicts_surveyed number sweep [] free = tt
evicts_surveyed number sweep (one ∷ evicted) free = (record { page = one.page; frame = one.frame; puts = one.puts; is = refl; free = free.0 }, evicts_surveyed number sweep evicted free.1)

all_free_on : (ws ws' : List Looked) (evicted : List Evicted) → StaysFree ws ws' → AllByRecursion (λ (one : Evicted). is_noted_free one.frame ws ≡ true) evicted → AllByRecursion (λ (one : Evicted). is_noted_free one.frame ws' ≡ true) evicted
all_free_on ws ws' [] keeps free = tt
all_free_on ws ws' (one ∷ evicted) keeps free = (keeps one.frame free.0, all_free_on ws ws' evicted keeps free.1)

round_not_skipped : (end : RoundEnd) (sweep : List Looked) → is_skipped (survey_answer (end_reply end) sweep) ≡ false
round_not_skipped (Enough free) sweep = refl
round_not_skipped (Swept free) sweep = refl

round_sweep : (end : RoundEnd) (sweep : List Looked) → sweep_in (survey_answer (end_reply end) sweep) ≡ sweep
round_sweep (Enough free) sweep = refl
round_sweep (Swept free) sweep = refl

round_means : (e low : ℕ) (end : RoundEnd) (sweep : List Looked) → round_event e low (survey_answer (end_reply end) sweep) ≡ Some (events.Survey e (Low low) sweep)
round_means e low (Enough free) sweep = refl
round_means e low (Swept free) sweep = refl

module _ (gave took : ℕ → List ℕ → Type 0) (z : Site) (e low : ℕ) (s : PassState) (can : CanSwap z e s) (clock : ClockTurn) (s₁ : PassState) (b : Begins z s e clock s₁) (actor : Actor) (old new : Vec LogLine Global)
    (s₂ : PassState) (t : TellsEvicts gave took z s₁ s₂ actor old new) (clock' : ClockTurn) (moves : HandMoves clock clock') where
  made : List Made
  made = map (entry_of s₁.hand.number) t.evicted

  -- the round may end
  pub round_may_end : MayStop clock.clock low s₂.sweep.words → MayEnd s₂ e clock' low
  round_may_end stop = record {
    actor = subst (λ (y : Site × ℕ). IsActor (plan_at y.0) y.1) (λ i. (sym (t.makes.goes.home ∙ (b.goes.home ∙ can.own)) i, sym (t.makes.goes.number ∙ b.goes.number) i)) can.actor;
    left = (let a = t.makes.goes.left in let c = b.goes.left in let d = t.few in let f = can.left in let g = length-map t.evicted (entry_of s₁.hand.number) in omega (arith, a, c, d, f, g));
    has = clock_stays s₁ s₂ (map (entry_of s₁.hand.number) t.evicted) (Some e) clock clock' t.makes moves b.has;
    since_survey = t.makes.since_survey ∙ b.since_survey;
    stop = subst (λ (y : ClockTurn). MayStop y.clock low s₂.sweep.words) (sym moves.same) stop;
  }

  module _ (end : RoundEnd) (s₃ : PassState) (en : EndsRound s₂ e clock' low end s₃) (said : Spoken) (names : Names)
      (stamp : said.stamp ≡ Some (last_stamp (entries core_terms s₃.hand))) (reply : said.reply ≡ survey_answer (end_reply end) s₃.sweep.words) where
    abbrev way : List Told
    way = map (evict_told s₁.hand.number) t.evicted

    -- the entry by the pass as it was
    abbrev last : Made
    last = (length en.past, round_stamp s₂ e low end s₃.sweep.words)

    made_is : made_in way ≡ map (entry_of s₁.hand.number) t.evicted
    made_is = evicts_made s₁.hand.number t.evicted

    goes : Goes core_terms s.hand s₃.hand (made_in way ++ last ∷ [])
    goes = subst (λ (ms : List Made). Goes core_terms s.hand s₃.hand (ms ++ last ∷ [])) (sym made_is)
        (goes_trans core_terms s.hand s₁.hand s₃.hand [] (map (entry_of s₁.hand.number) t.evicted ++ last ∷ []) b.goes (goes_trans core_terms s₁.hand s₂.hand s₃.hand (map (entry_of s₁.hand.number) t.evicted) (last ∷ []) t.makes.goes en.goes))

    no_turn : s₃.hand.turns ≡ []
    no_turn = en.turns ∙ ((λ i. less_one (moves.same i).number ((t.makes.turns ∙ b.turns) i)) ∙ less_first) where
      less_first : less_one clock.number (clock.number ∷ []) ≡ []
      less_first = ap {B = List ℕ} (λ v. Rattle.std.proofs.Common.cond v [] (clock.number ∷ [])) (Rattle.std.proofs.lemmas.Bool.eq-eqb clock.number clock.number refl)

    speaks : Speaks z (words.SwapRound e low) way said s s₃ names names
    speaks = record {
      came = Entered last 0;
      has_made = record { goes = goes; turns = no_turn; pins = en.pins ∙ (t.makes.pins ∙ b.pins) };
      stamp_is = stamp ∙ ap Some (ap last_stamp (goes.own ∙ sym (append_assoc (entries core_terms s.hand) (made_in way) (last ∷ []))) ∙ last_snoc (entries core_terms s.hand ++ made_in way) last);
      reply_is = reply;
      gives = (
        (λ i. when (evict_lines s₁.hand.number t.evicted i && not (round_not_skipped end s₃.sweep.words i)) names),
        evicts_mean (plan_at z) names s₁.hand.number t.evicted,
        round_means e low end s₃.sweep.words,
        tt,
        subst (λ (sweep : List Looked). AllByRecursion (IsEvictLine sweep) (map shown way)) (sym (round_sweep end s₃.sweep.words))
            (evicts_surveyed s₁.hand.number s₃.sweep.words t.evicted (all_free_on s₂.sweep.words s₃.sweep.words t.evicted en.keeps t.free)),
      );
      few = let a = t.few in let c = length-map t.evicted (evict_told s₁.hand.number) in omega (arith, a, c);
    }

    home₂ : s₂.hand.home ≡ z
    home₂ = t.makes.goes.home ∙ (b.goes.home ∙ can.own)

    last_exchanged : AreExchanged gave took z s₃.hand.seen (last ∷ [])
    last_exchanged = subst (λ (y : Site). AreExchanged gave took y s₃.hand.seen (last ∷ [])) home₂
        (survey_exchanged gave took s₂.hand.home s₃.hand.seen en.past s₂.hand.number e (Low low) s₃.sweep.words (end_reply end) en.sees en.legal)

    -- the round was spoken of
    pub round_around : SpeaksAround gave took z (words.SwapRound e low) said s s₃ names names actor old new
    round_around = record {
      way = way;
      speaks = speaks;
      exchanged = exchanges_these gave took z s s₃ (made_in way ++ last ∷ []) goes
          (exchanged_append gave took z s₃.hand.seen (made_in way) (last ∷ []) (subst (AreExchanged gave took z s₃.hand.seen) (sym made_is) (exchanged_later gave took z s₂ s₃.hand.seen (entries core_terms s₁.hand) (map (entry_of s₁.hand.number) t.evicted) t.makes.goes.own en.goes.more en.goes.sees t.exchanged)) last_exchanged);
      counted = counted_later (plan_at z) (seals_at z) s₂ s₃.hand.seen (entries core_terms s₁.hand) way (t.makes.goes.own ∙ ap (λ (ms : List Made). entries core_terms s₁.hand ++ ms) (sym made_is)) en.goes.more en.goes.sees t.counted;
      writes = t.writes;
    }
