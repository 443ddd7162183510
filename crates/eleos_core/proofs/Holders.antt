-- After every legal entry a page is in a frame just where the frame holds the page.
use Rattle.std.proofs.Common.{◌≡◌, ◌≢◌, ◌↔◌, ℕ, ◌==◌, ◌&&◌, List, [], ◌∷◌, Bool, true, false, Option, Some, None, if◌then◌else◌, refl, sym, ◌∙◌, ap, arith}
use Rattle.std.proofs.lemmas.Bool.{eqb-true}
use Rattle.std.proofs.lemmas.Bool.Decides.{nat_tests}
use Rattle.eleos_base.specs.declared.memory.Reply.{Reply}
use Rattle.eleos_base.specs.declared.plan.Plan.{Plan}
use Rattle.eleos_base.specs.Plain.{is_accepted}
use Rattle.eleos_core.specs.declared.event.Event.{Event}
use Rattle.eleos_core.specs.declared.event.Event.TheVariants.{Fill, Evict}
use Rattle.eleos_core.specs.Seals.{Seals}
use Rattle.eleos_core.specs.State.{History, entry, frame, holder}
use Rattle.eleos_core.specs.Legal.{CoreStep, CoreRun, IsFreeFrame}
use Rattle.eleos_core.proofs.Tests.{by_test}

differ : (a b : ℕ) → a ≢ b → a == b ≡ false
differ a b ne = grind (arith, nat_tests)

is_same : (a b : ℕ) → a ≡ b → a == b ≡ true
is_same a b e = grind (arith, nat_tests)

is_other : (a b : ℕ) → a == b ≡ false → a ≢ b
is_other a b e = grind (arith, nat_tests)

-- the second table has, at each value of the first, the place of that value
abbrev pub Names : (ℕ → Option ℕ) → (ℕ → Option ℕ) → Type 0
Names there back = (a b : ℕ) → there a ≡ Some b → back b ≡ Some a

-- the frame of each page holds it, and the page that a frame holds is in it
pub record FramesAgree (past : History) : Type 0 where
  pub held : Names (frame past) (holder past)
  pub framed : Names (holder past) (frame past)

-- a table with the value put at the place, where that is accepted, and with none there
abbrev put : Bool → ℕ → ℕ → (ℕ → Option ℕ) → ℕ → Option ℕ
put accepted place value table a = if accepted && a == place then Some value else table a

abbrev drop : ℕ → (ℕ → Option ℕ) → ℕ → Option ℕ
drop place table a = if a == place then None else table a

module _ (there back : ℕ → Option ℕ) where
  -- a value that no place had
  put_names : (accepted : Bool) → Names there back → (p f : ℕ) → ((a : ℕ) → there a ≢ Some f) → Names (put accepted p f there) (put accepted f p back)
  put_names false names p f free a b = names a b
  put_names true names p f free a b = by_test (a == p) (λ v. a == p ≡ v → (if v then Some f else there a) ≡ Some b → put true f p back b ≡ Some a)
      (λ _ is e. let i : f ≡ b = cc in ap (λ v. if v then Some p else back b) (is_same b f (sym i)) ∙ ap Some (sym (eqb-true a p is)))
      (λ _ is e. ap (λ v. if v then Some p else back b) (differ b f (λ i. free a (e ∙ ap Some i))) ∙ names a b e) refl

  -- a value that leaves its place
  drop_names : Names there back → (p f : ℕ) → back f ≡ Some p → Names (drop p there) (drop f back)
  drop_names names p f held a b = by_test (a == p) (λ v. a == p ≡ v → (if v then None else there a) ≡ Some b → drop f back b ≡ Some a)
      (λ _ is e. cc)
      (λ _ is e.
      let moved = λ (i : b ≡ f). (let same : Some a ≡ Some p = sym (names a b e) ∙ ap back i ∙ held in let place : a ≡ p = cc in is_other a p is place) in
      ap (λ v. if v then None else back b) (differ b f moved) ∙ names a b e) refl

-- no frame holds an absent page
unheld : (past : History) (p : ℕ) → FramesAgree past → frame past p ≡ None → (f : ℕ) → holder past f ≢ Some p
unheld past p h absent f held = let framed : Some f ≡ None = sym (h.framed f p held) ∙ absent in cc

module _ (k : Plan) (x : Seals) where
  frames_agree_step : (past : History) (who : ℕ) (event : Event) (blocks : List (List ℕ)) (reply : Reply) → CoreStep k x past (entry who event blocks reply)
      → FramesAgree past → FramesAgree (entry who event blocks reply ∷ past)
  frames_agree_step past who (Fill p f) blocks reply step h = record {
    held = put_names (frame past) (holder past) (is_accepted reply) h.held p f step.step.0.free;
    framed = put_names (holder past) (frame past) (is_accepted reply) h.framed f p (unheld past p h step.step.0.absent);
  }
  frames_agree_step past who (Evict p f) blocks reply step h = record {
    held = drop_names (frame past) (holder past) h.held p f (h.held p f step.step.0.present);
    framed = drop_names (holder past) (frame past) h.framed f p step.step.0.present;
  }
  frames_agree_step past who _ blocks reply step h = record { held = h.held; framed = h.framed }

  -- after every legal history the frame of each page holds it, and the page that a frame holds is in it
  pub frames_agree : (h : History) → CoreRun k x h → FramesAgree h
  frames_agree [] run = record { held = λ p f e. cc; framed = λ f p e. cc }
  frames_agree (e ∷ past) run = frames_agree_step past e.who e.event e.blocks e.reply run.0 (frames_agree past run.1)

  -- a page is in a frame just where the frame holds it
  pub frame_iff_holder : (h : History) → CoreRun k x h → (p f : ℕ) → (frame h p ≡ Some f) ↔ (holder h f ≡ Some p)
  frame_iff_holder h run p f = let both = frames_agree h run in (both.held p f, both.framed f p)

-- a frame that no page is in holds none, and the other way round
pub none_held : (k : Plan) (past : History) → FramesAgree past → (f : ℕ) → IsFreeFrame k past f → holder past f ≡ None
none_held k past agree f free = by_holder (holder past f) refl where
  by_holder : (o : Option ℕ) → holder past f ≡ o → o ≡ None
  by_holder None is = refl
  by_holder (Some p) is = absurd (free p (agree.framed f p is))

-- and where a frame holds none, no page is in it
pub free_frame : (k : Plan) (past : History) → FramesAgree past → (f : ℕ) → holder past f ≡ None → IsFreeFrame k past f
free_frame k past agree f none p is = let held = agree.held p f is in cc
