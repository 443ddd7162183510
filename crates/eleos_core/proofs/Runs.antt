-- The calls of a sound legal history are one run of plain memory.
use Rattle.std.proofs.Common.{◌≡◌, ℕ, ◌-◌, ◌<◌, List, [], ◌∷◌, ◌++◌, length, true, false, None, refl, sym, ◌∙◌, subst, ap, arith}
use Rattle.std.proofs.lemmas.List.Sums.{fold-append}
use Rattle.eleos_base.specs.declared.memory.Op.{Op as Calls}
use Rattle.eleos_base.specs.declared.memory.Reply.{Reply}
use Rattle.eleos_base.specs.declared.plan.Plan.{Plan}
use Rattle.eleos_base.specs.Plain.{Call, Plain, PlainRun, MayReply, is_accepted, is_read_failure, is_write_failure, opening, plain_after, after_calls}
use Rattle.eleos_base.specs.Plans.{IsCaller, IsGood, enclave_of}
use Rattle.eleos_core.specs.declared.event.Event.{Event}
use Rattle.eleos_core.specs.declared.event.Event.TheVariants.{Op, Link, Unlink, Fill, Evict, Move, Starved, Spoiled, Survey}
use Rattle.eleos_core.specs.declared.event.Wanted.{Wanted}
use Rattle.eleos_core.specs.declared.event.Wanted.TheVariants.{Link as ALink, Op as ACall}
use Rattle.eleos_core.specs.Laws.{OfEveryRun, RunsPlain}
use Rattle.eleos_core.specs.Legal.{NeedsFrame, CoreStep, CoreRun, AreTrue, Sound, wanted_refusal}
use Rattle.eleos_core.specs.Seals.{Seals, Opens, seals_by}
use Rattle.eleos_core.specs.State.{History, call, call_wanted, calls, entry, places}
use Rattle.eleos_core.proofs.AsPlain.{as_plain, memory-after, memory-same, opening-is}
use Rattle.eleos_core.proofs.Contents.{IsClean, call-clean, call-text, evict-clean, evict-text, fill-clean, fill-text}
use Rattle.eleos_core.proofs.Seals.{seals-open}
use Rattle.eleos_core.proofs.PlainReplies.{may-get, may-fail}
use Rattle.eleos_core.proofs.Refusals.{refused-same}

-- more calls after a run
pub run-append : (k : Plan) (m : Plain) (first more : List Call) → PlainRun k m first → PlainRun k (after_calls k m first) more → PlainRun k m (first ++ more)
run-append k m [] more run run' = run'
run-append k m (c ∷ first) more run run' = (run.0, run-append k (plain_after k c.who c.op c.reply m) first more run.1 run')

pub after-append : (k : Plan) (m : Plain) (first more : List Call) → after_calls k m (first ++ more) ≡ after_calls k (after_calls k m first) more
after-append k m first more = fold-append (λ (n : Plain) (c : Call). plain_after k c.who c.op c.reply n) m first more

-- a caller of a good plan has an enclave of it
pub home-within : (k : Plan) (who : ℕ) → IsGood k → IsCaller k who → enclave_of k who < length k.enclaves
home-within k who good caller = good.at_home (who - 1) 0 (let from_one = caller.from_one in let within = caller.within in omega arith)

module _ (k : Plan) (x : Seals) where
  -- the calls of a history are a run of plain memory, which then is what the machine has
  pub record RunsAs (past : History) : Type 0 where
    pub run : PlainRun k (opening k) (calls past)
    pub same : after_calls k (opening k) (calls past) ≡ as_plain k x past
    pub clean : IsClean k x past

  -- an entry that is no call
  no_call_run : (past : History) → RunsAs past → PlainRun k (opening k) (calls past ++ [])
  no_call_run past h = run-append k (opening k) (calls past) [] h.run tt

  no_call_same : (past : History) → RunsAs past → after_calls k (opening k) (calls past ++ []) ≡ as_plain k x past
  no_call_same past h = after-append k (opening k) (calls past) [] ∙ h.same

  -- an entry that is a call
  call_run : (past : History) (who : ℕ) (op : Calls) (reply : Reply) → RunsAs past → MayReply k (as_plain k x past) who op reply → PlainRun k (opening k) (calls past ++ call who op reply)
  call_run past who op reply h allowed = run-append k (opening k) (calls past) (call who op reply) h.run
      (subst (λ (m : Plain). PlainRun k m (call who op reply)) (sym h.same) (record { allowed = allowed; after = refl }, tt))

  call_same : (past new : History) (who : ℕ) (op : Calls) (reply : Reply) → RunsAs past → plain_after k who op reply (as_plain k x past) ≡ as_plain k x new
      → after_calls k (opening k) (calls past ++ call who op reply) ≡ as_plain k x new
  call_same past new who op reply h after = after-append k (opening k) (calls past) (call who op reply) ∙ (ap (plain_after k who op reply) h.same ∙ after)

  -- an entry that says why what was wanted could not be had
  wanted_run : (past : History) (who : ℕ) (wanted : Wanted) (reply : Reply) → enclave_of k who < length k.enclaves → NeedsFrame wanted → wanted_refusal k past who wanted ≡ None
      → is_read_failure reply ≡ true → is_write_failure reply ≡ true → RunsAs past → PlainRun k (opening k) (calls past ++ call_wanted who wanted reply)
  wanted_run past who (ALink at) reply within needs not_refused r w h = no_call_run past h
  wanted_run past who (ACall op) reply within needs not_refused r w h = call_run past who op reply h (may-fail k x past who op reply within needs not_refused r w)

  wanted_same : (past : History) (who : ℕ) (wanted : Wanted) (reply : Reply) → enclave_of k who < length k.enclaves → is_accepted reply ≡ false → RunsAs past
      → after_calls k (opening k) (calls past ++ call_wanted who wanted reply) ≡ as_plain k x past
  wanted_same past who (ALink at) reply within refused h = no_call_same past h
  wanted_same past who (ACall op) reply within refused h = call_same past past who op reply h (refused-same k x past who op reply within refused)

  module _ (opens : Opens x) (good : IsGood k) where
    -- one entry more
    runs_step : (past : History) (who : ℕ) (event : Event) (blocks : List (List ℕ)) (reply : Reply) → CoreStep k x past (entry who event blocks reply)
        → AreTrue k x past (places k event past) blocks → RunsAs past → RunsAs (entry who event blocks reply ∷ past)
    runs_step past who (Op op) blocks reply step a h =
        let new : History = entry who (Op op) blocks reply ∷ past in
        let within = home-within k who good step.within in
        record {
          run = call_run past who op reply h (may-get k x past who op blocks reply within step.step a);
          same = call_same past new who op reply h (memory-after k x past new who op reply (λ j. refl) (call-text k x opens past who op blocks reply step.step a) within);
          clean = call-clean k x opens past who op blocks reply h.clean;
        }
    runs_step past who (Link at) blocks reply step a h = record { run = no_call_run past h; same = no_call_same past h; clean = h.clean }
    runs_step past who (Unlink p) blocks reply step a h = record { run = no_call_run past h; same = no_call_same past h; clean = h.clean }
    runs_step past who (Move f from to) blocks reply step a h = record { run = no_call_run past h; same = no_call_same past h; clean = h.clean }
    runs_step past who (Survey e goal sweep) blocks reply step a h = record { run = no_call_run past h; same = no_call_same past h; clean = h.clean }
    runs_step past who (Starved wanted sweep) blocks reply step a h =
        let within = home-within k who good step.within.0 in
        let reply-is = step.step.2.reply_is in
        record {
          run = wanted_run past who wanted reply within step.within.1 step.step.0.not_refused (ap is_read_failure reply-is) (ap is_write_failure reply-is) h;
          same = wanted_same past who wanted reply within (ap is_accepted reply-is) h;
          clean = h.clean;
        }
    runs_step past who (Spoiled wanted) blocks reply step a h =
        let within = home-within k who good step.within.0 in
        let reply-is = step.step.3 in
        record {
          run = wanted_run past who wanted reply within step.within.1 step.step.0.not_refused (ap is_read_failure reply-is) (ap is_write_failure reply-is) h;
          same = wanted_same past who wanted reply within (ap is_accepted reply-is) h;
          clean = h.clean;
        }
    runs_step past who (Fill p f) blocks reply step a h = record {
      run = no_call_run past h;
      same = no_call_same past h ∙ memory-same k x past (entry who (Fill p f) blocks reply ∷ past) (λ e. refl) (fill-text k x opens past who p f blocks reply step.step a);
      clean = fill-clean k x opens past who p f blocks reply step.step a h.clean;
    }
    runs_step past who (Evict p f) blocks reply step a h = record {
      run = no_call_run past h;
      same = no_call_same past h ∙ memory-same k x past (entry who (Evict p f) blocks reply ∷ past) (λ e. refl) (evict-text k x opens past who p f blocks reply step.step h.clean);
      clean = evict-clean k x opens past who p f blocks reply h.clean;
    }

    -- a sound legal history is a run
    pub runs-as : (h : History) → CoreRun k x h → Sound k x h → RunsAs h
    runs-as [] run sound = record { run = tt; same = opening-is k x; clean = λ s dirty present. cc }
    runs-as (e ∷ past) run sound = runs_step past e.who e.event e.blocks e.reply run.0 sound.0 (runs-as past run.1 sound.1)

-- the law
pub runs-plain : OfEveryRun RunsPlain
runs-plain k key h run sound = (runs-as k (seals_by key) (seals-open key) run.good h run.legal sound).run
