-- The jobs of all actors, one after another.
use Rattle.std.proofs.Common.{◌≡◌, ℕ, zero, suc, ◌+◌, ◌-◌, ◌<◌, ◌≤◌, true, is_some, List, [], ◌∷◌, ◌++◌, length, map, get_or, vec_capacity, refl, sym, ap, ◌∙◌, subst, arith, append-nil, length-append}
use lib.ListN.{length-map}
use Rattle.eleos_base.specs.declared.plan.Plan.{Plan}
use Rattle.eleos_base.specs.Places.{all_frames}
use Rattle.eleos_core.specs.Legal.{IsActor}
use Rattle.eleos_machine.specs.Closing.{hands_of}
use Rattle.eleos_machine.specs.Passes.{PassState}
use Rattle.eleos_trace.specs.Kinds.{IsRun}
use Rattle.eleos_core.specs.Parts.{Entries, Part, Stamp, Made}
use Rattle.eleos_core.specs.Seals.{Seals}
use Rattle.eleos_machine.specs.Machines.{IsMachine, Site, plan_at, seals_at}
use Rattle.eleos_plot.specs.declared.plot.Ground.{Ground}
use Rattle.eleos_plot.specs.Terms.{core_terms}
use Rattle.eleos_trace.specs.declared.trace.Trace.{Trace}
use Rattle.eleos_turn.specs.Hands.{HandState, dealt, entries, fresh}
use Rattle.eleos_run.specs.declared.jobs.Job.{Job}
use Rattle.eleos_run.specs.Callers.{AreDoneJobs, AreNewJobs, IsDoneJob, IsNewJob, lines_of}
use Rattle.eleos_pages.specs.Exchanges.{AreExchanged}
use Rattle.eleos_ring.specs.Rings.{idle}
use Rattle.eleos_run.specs.Calls.{AreCalled, shown_in}
use Rattle.eleos_run.specs.Jobs.{AreReady, HasRun, commands_of, names_of}
use Rattle.eleos_run.specs.Counts.{AreCounted}
use Rattle.eleos_run.specs.Lines.{actor_at, actor_of, names_at, program_of}
use Rattle.eleos_trace.specs.Replays.{IsCallerOf}
use Rattle.eleos_meaning.specs.Programs.{Tells, TellsAll}
use Rattle.eleos_meaning.specs.Table.{AnySaid, Ends, Gives, lines_for}
use Rattle.eleos_base.specs.Plans.{enclave_of}
use Rattle.eleos_meaning.specs.Told.{line_of, made_in}
use Rattle.eleos_run.proofs.Actors.{caller_actor, is_caller}
use Rattle.eleos_run.proofs.LineCounts.{program_few}
use Rattle.eleos_run.proofs.PlanRooms.{frames_few}
use Rattle.eleos_run.proofs.TaskLists.{commands_few}
use Rattle.eleos_report.specs.declared.line.LogLine.{LogLine}
use Rattle.eleos_trace.specs.declared.word.Actor.{Actor}
use Rattle.eleos_trace.specs.declared.word.Actor.TheVariants.{Caller}
use Rattle.eleos_trace.specs.declared.word.Word.{Word}
use Rattle.eleos_run.specs.declared.tasks.Task.{Task}
use Rattle.eleos_run.specs.Tasks.{AllReady}
use Rattle.eleos_meaning.specs.Names.{Names}

module _ {P C : Type 0} where
  -- each is ready
  pub new_at : (trace : Trace) (z : Site) (who : ℕ) (js : List (Job P C)) → AreNewJobs trace z who js → AreReady z js
  new_at trace z who [] new k j inside = absurd (omega (arith, inside))
  new_at trace z who (i ∷ js) new zero j inside = new.0.ready
  new_at trace z who (i ∷ js) new (suc k) j inside = new_at trace z (who + 1) js new.1 k j (omega (arith, inside))

-- nothing stands behind the last command
ended : (k : Plan) (x : Seals) (h : Entries) {home : ℕ} {who : Actor} {st : Names} {words : List Word} {lines : List LogLine} {made : List Made} {after : Names} (t : Tells (Gives AnySaid k home) who st words lines made after) → AreCounted k x h t.told
    → (m : TellsAll (Gives AnySaid k home) Ends who st words lines made) × AreCounted k x h (m.told ++ m.last)
ended k x h {who = who} t counted = (
  record {
    told = t.told;
    last = [];
    after = _;
    follows = t.follows;
    ends = refl;
    lines_are = t.lines_are ∙ ap (map (line_of who)) (sym (append-nil t.told));
    made_are = t.made_are ∙ ap made_in (sym (append-nil t.told));
  },
  subst (AreCounted k x h) (sym (append-nil t.told)) counted,
)

module _ {P C : Type 0} (gave took : ℕ → List ℕ → Type 0) (shown written : ℕ → ℕ → Type 0) where
  -- a job that has run
  pub one_done : (trace : Trace) (z : Site) (who : ℕ) (i j : Job P C) → plan_at z ≡ trace.plan → IsNewJob trace z who i → HasRun gave took shown written z i j → IsDoneJob gave took shown written trace z who j
  one_done trace z who i j plan new run =
      let number = ap (λ (h : HandState Stamp Part Ground). h.number) new.unused in
      let none : entries core_terms i.pass.hand ≡ [] = ap (λ (h : HandState Stamp Part Ground). entries core_terms h) new.unused in
      let made : run.told.made ≡ entries core_terms j.pass.hand = sym (run.told.goes.own ∙ ap (λ (ms : List Made). ms ++ run.told.made) none) in
      let actor : i.actor ≡ actor_at trace who = new.ready.actor ∙ (λ t. actor_of (length (plan t).callers) (number t)) in
      let both : (m : TellsAll (Gives AnySaid (plan_at z) (enclave_of (plan_at z) who)) Ends (actor_at trace who) (names_at trace who) (program_of trace (actor_at trace who)) j.lines.items (entries core_terms j.pass.hand)) × AreCounted (plan_at z) (seals_at z) j.pass.hand.seen (m.told ++ m.last) =
      subst (λ (q : ((ℕ × Actor) × Names) × (List Word × List Made)). (m : TellsAll (Gives AnySaid (plan_at z) (enclave_of (plan_at z) q.0.0.0)) Ends q.0.0.1 q.0.1 q.1.0 j.lines.items q.1.1) × AreCounted (plan_at z) (seals_at z) j.pass.hand.seen (m.told ++ m.last))
      (λ t. (((number t, actor t), new.names t), (new.commands t, made t)))
      (ended (plan_at z) (seals_at z) j.pass.hand.seen run.told.tells run.told.counted) in
      record {
        home = run.idle.own;
        number = run.told.goes.number ∙ number;
        turns = run.idle.turns;
        pins = run.idle.pins;
        few = let few = run.few in let same : lines_for (all_frames (plan_at z)) (commands_of i.tasks.items) ≡ lines_for (all_frames trace.plan) (program_of trace (actor_at trace who)) = (λ t. lines_for (all_frames (plan t)) (new.commands t)) in omega (arith, few, same);
        mine = both.0;
        exchanged = subst (AreExchanged gave took z j.pass.hand.seen) made run.told.exchanged;
        counted = both.1;
        called = λ within. subst (λ (n : ℕ). AreCalled shown written n 0 (shown_in j.lines.items)) (new.client within) run.called.called;
      }

  -- all have run
  pub all_done : (trace : Trace) (z : Site) (who : ℕ) (is js : List (Job P C)) → plan_at z ≡ trace.plan → AreNewJobs trace z who is → length js ≡ length is
      → ((k : ℕ) (j : Job P C) → k < length is → HasRun gave took shown written z (get_or is k j) (get_or js k j)) → AreDoneJobs gave took shown written trace z who js
  all_done trace z who [] [] plan new same each = tt
  all_done trace z who [] (j ∷ js) plan new same each = absurd (omega (arith, same))
  all_done trace z who (i ∷ is) [] plan new same each = absurd (omega (arith, same))
  all_done trace z who (i ∷ is) (j ∷ js) plan new same each = (one_done trace z (who + 1) i j plan new.0 (each 0 j (omega arith)), all_done trace z (who + 1) is js plan new.1 (omega (arith, same)) (λ k x below. each (suc k) x (omega (arith, below))))

module _ {P C : Type 0} where
  -- a job with all that its actor needs
  pub new_job : (trace : Trace) (z : Site) (j : Job P C) → IsRun trace → IsMachine z → z.base.grounds.plan ≡ trace.plan → IsActor trace.plan j.pass.hand.number → j.pass.hand ≡ fresh z j.pass.hand.number
      → j.actor ≡ actor_at trace j.pass.hand.number → (j.pass.hand.number ≤ length trace.plan.callers → is_some j.client ≡ true)
      → AllReady trace.plan j.actor j.names j.tasks.items → commands_of j.tasks.items ≡ program_of trace j.actor → names_of j ≡ names_at trace j.pass.hand.number → j.lines.items ≡ []
      → vec_capacity j.lines ≡ lines_for (all_frames trace.plan) (program_of trace j.actor) → j.ring ≡ idle j.ring.client 0 → ((number : ℕ) → j.actor ≡ Caller number → j.ring.client ≡ number - 1) → IsNewJob trace z j.pass.hand.number j
  new_job trace z j run machine plan known unused actor reach ready commands names empty room ring client =
      let who : ℕ = j.pass.hand.number in
      let words : commands_of j.tasks.items ≡ program_of trace (actor_at trace who) = commands ∙ ap (program_of trace) actor in
      let long : length j.tasks.items ≡ length (commands_of j.tasks.items) = sym (length-map j.tasks.items (λ (t : Task). t.command)) in
      let same = ap length words in
      let few = commands_few (actor_at trace who) trace.lines in
      let most = run.lines.few in
      let left = ap (λ (h : HandState Stamp Part Ground). h.left) unused in
      let each = machine.each in
      let frames = frames_few trace run in
      let some = program_few trace who frames most in
      let its : lines_for (all_frames (plan_at z)) (commands_of j.tasks.items) ≡ lines_for (all_frames trace.plan) (program_of trace (actor_at trace who)) = (λ t. lines_for (all_frames (plan t)) (words t)) in
      let holds : vec_capacity j.lines ≡ lines_for (all_frames trace.plan) (program_of trace (actor_at trace who)) = room ∙ ap (λ (a : Actor). lines_for (all_frames trace.plan) (program_of trace a)) actor in
      record {
        ready = record {
          idle = record {
            own = ap (λ (h : HandState Stamp Part Ground). h.home) unused;
            actor = subst (λ (k : Plan). IsActor k who) (sym plan) known;
            turns = ap (λ (h : HandState Stamp Part Ground). h.turns) unused;
            pins = ap (λ (h : HandState Stamp Part Ground). h.pins) unused;
          };
          actor = actor ∙ ap (λ (k : Plan). actor_of (length k.callers) who) (sym plan);
          reach = λ may. reach ((is_caller trace.plan who (subst (λ (q : Plan × Actor). IsCallerOf q.0 q.1) (λ t. (plan t, actor t)) may)).within);
          ready = subst (λ (k : Plan). AllReady k j.actor j.names j.tasks.items) (sym plan) ready;
          short = omega (arith, long, same, few, most);
          left = omega (arith, its, some, left, each);
          empty = empty;
          room = omega (arith, its, holds);
          ring = ring;
        };
        unused = unused;
        commands = words;
        names = names;
        client = λ within. client who (actor ∙ caller_actor (length trace.plan.callers) who within);
        room = holds;
      }

  -- behind the new jobs of actors in order comes that of the actor with the next number
  pub new_snoc : (trace : Trace) (z : Site) (a k : ℕ) (js : List (Job P C)) (j : Job P C) → k ≡ a + length js + 1 → AreNewJobs trace z a js → IsNewJob trace z k j → AreNewJobs trace z a (js ++ j ∷ [])
  new_snoc trace z a k [] j is new one = (subst (λ (n : ℕ). IsNewJob trace z n j) (let e : k ≡ a + 1 = omega (arith, is) in e) one, tt)
  new_snoc trace z a k (i ∷ is) j e new one = (new.0, new_snoc trace z (a + 1) k is j (omega (arith, e)) new.1 one)

abbrev Hands : Type 0
Hands = HandState Stamp Part Ground

abbrev first_or : Hands → List Hands → Hands
first_or d [] = d
first_or d (x ∷ xs) = x

abbrev others : List Hands → List Hands
others [] = []
others (x ∷ xs) = xs

-- the next pass is the one with the next number
pub next_dealt : (z : Site) (a n : ℕ) (ys rest : List PassState) (x : PassState) → hands_of (ys ++ x ∷ rest) ≡ dealt z a n → (x.hand ≡ fresh z (a + length ys + 1)) × (length ys < n)
next_dealt z a zero [] rest x is = absurd (let e = ap length is in omega (arith, e))
next_dealt z a (suc n) [] rest x is = (ap (first_or x.hand) is ∙ (let e : a + 1 ≡ a + 0 + 1 = omega arith in ap (λ (m : ℕ). fresh z m) e), omega arith)
next_dealt z a zero (y ∷ ys) rest x is = absurd (let e = ap length is in omega (arith, e))
next_dealt z a (suc n) (y ∷ ys) rest x is = let r = next_dealt z (a + 1) n ys rest x (ap others is) in let below = r.1 in (r.0 ∙ (let e : a + 1 + length ys + 1 ≡ a + suc (length ys) + 1 = omega arith in ap (λ (m : ℕ). fresh z m) e), omega (arith, below))

dealt_long : (z : Site) (a n : ℕ) → length (dealt {D = Stamp} z a n) ≡ n
dealt_long z a zero = refl
dealt_long z a (suc n) = let r = dealt_long z (a + 1) n in omega (arith, r)

-- there are as many passes as hands were dealt
pub all_dealt : (z : Site) (a n : ℕ) (ss : List PassState) → hands_of ss ≡ dealt z a n → length ss ≡ n
all_dealt z a n ss is = sym (length-map ss (λ (s : PassState). s.hand)) ∙ (ap length is ∙ dealt_long z a n)

module _ {P C : Type 0} where
  -- the lines of one more job are among those of all jobs
  pub lines_fit : (jobs ys rest zs : List (Job P C)) (x : Job P C) → jobs ≡ ys ++ rest → rest ≡ x ∷ zs → length (lines_of ys) + length x.lines.items ≤ length (lines_of jobs)
  lines_fit jobs ys rest zs x split steps =
      subst (λ (js : List (Job P C)). length (lines_of ys) + length x.lines.items ≤ length (lines_of js)) (sym (split ∙ ap (λ (z : List (Job P C)). ys ++ z) steps)) (go ys) where
        go : (us : List (Job P C)) → length (lines_of us) + length x.lines.items ≤ length (lines_of (us ++ x ∷ zs))
        go [] = let e = length-append x.lines.items (lines_of zs) in omega (arith, e)
        go (u ∷ us) = let rest = go us in let a = length-append u.lines.items (lines_of us) in let b = length-append u.lines.items (lines_of (us ++ x ∷ zs)) in omega (arith, rest, a, b)
