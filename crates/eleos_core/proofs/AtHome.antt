-- After every legal entry a page lies in a frame that its enclave owns, and a frame of the pool holds no page.
use Rattle.std.proofs.Common.{◌≡◌, ℕ, ◌<◌, ◌==◌, ◌&&◌, List, [], ◌∷◌, true, false, Option, Some, None, if◌then◌else◌, refl, sym, ◌∙◌, ap, subst}
use Rattle.std.proofs.lemmas.Bool.{eqb-true}
use Rattle.eleos_base.specs.declared.memory.Reply.{Reply}
use Rattle.eleos_base.specs.declared.plan.Plan.{Plan}
use Rattle.eleos_base.specs.Plain.{is_accepted}
use Rattle.eleos_core.specs.declared.event.Event.{Event}
use Rattle.eleos_core.specs.declared.event.Event.TheVariants.{Fill, Evict, Move}
use Rattle.eleos_core.specs.Laws.{FramesHold, HoldersAtHome, IsLegalRun, PagesAtHome}
use Rattle.eleos_core.specs.Legal.{CoreRun, CoreStep}
use Rattle.eleos_base.specs.Places.{all_frames, all_pages, home_of, page_counts}
use Rattle.eleos_core.specs.Seals.{Seals, seals_by}
use Rattle.eleos_core.specs.State.{History, entry, frame, frame_by, holder, is_owner, owner}
use Rattle.eleos_core.proofs.Holders.{frame_iff_holder}
use Rattle.eleos_core.proofs.RunNumbers.{run_is}
use Rattle.eleos_core.proofs.Tests.{by_test, second_of}

module _ (k : Plan) (x : Seals) where
  at_home_step : (past : History) (who : ℕ) (event : Event) (blocks : List (List ℕ)) (reply : Reply) → CoreStep k x past (entry who event blocks reply) → PagesAtHome k past → PagesAtHome k (entry who event blocks reply ∷ past)
  at_home_step past who (Fill q g) blocks reply step h p f = by_test (is_accepted reply && p == q) (λ v. is_accepted reply && p == q ≡ v → (if v then Some g else frame past p) ≡ Some f → owner k past f ≡ home_of k p)
      (λ _ is e. let same : g ≡ f = cc in ap (owner k past) (sym same) ∙ (step.step.0.at_home ∙ ap (home_of k) (sym (eqb-true p q (second_of (is_accepted reply) (p == q) is)))))
      (λ _ is e. h p f e) refl
  at_home_step past who (Evict q g) blocks reply step h p f = by_test (p == q) (λ v. (if v then None else frame past p) ≡ Some f → owner k past f ≡ home_of k p)
      (λ _ e. cc)
      (λ _ e. h p f e)
  at_home_step past who (Move g from to) blocks reply step h p f = λ e. by_test (f == g) (λ v. f == g ≡ v → (if v then to else owner k past f) ≡ home_of k p)
      (λ _ is. absurd (step.step.0.free p (e ∙ ap Some (eqb-true f g is))))
      (λ _ is. h p f e) refl
  at_home_step past who _ blocks reply step h p f = h p f

  pub at_home : (h : History) → CoreRun k x h → PagesAtHome k h
  at_home [] run = λ p f e. cc
  at_home (e ∷ past) run = at_home_step past e.who e.event e.blocks e.reply run.0 (at_home past run.1)

  -- page and frame are the machine's
  abbrev AreThere : ℕ → ℕ → Type 0
  AreThere p f = (p < all_pages k) × (f < all_frames k)

  there_step : (past : History) (who : ℕ) (event : Event) (blocks : List (List ℕ)) (reply : Reply) → CoreStep k x past (entry who event blocks reply) → ((p f : ℕ) → frame past p ≡ Some f → AreThere p f)
      → (p f : ℕ) → frame_by event reply p (frame past p) ≡ Some f → AreThere p f
  there_step past who (Fill q g) blocks reply step h p f is = by_test (is_accepted reply && p == q) (λ v. is_accepted reply && p == q ≡ v → (if v then Some g else frame past p) ≡ Some f → AreThere p f)
      (λ _ both e. let same : g ≡ f = cc in (subst (λ r. r < all_pages k) (sym (eqb-true p q (second_of (is_accepted reply) (p == q) both))) step.within.1, subst (λ r. r < all_frames k) same step.within.2))
      (λ _ _ e. h p f e) refl is
  there_step past who (Evict q g) blocks reply step h p f is = by_test (p == q) (λ v. (if v then None else frame past p) ≡ Some f → AreThere p f)
      (λ _ e. cc)
      (λ _ e. h p f e) is
  there_step past who _ blocks reply step h p f is = h p f is

  -- after every legal history a page in a frame and its frame are the machine's
  pub are_there : (h : History) → CoreRun k x h → (p f : ℕ) → frame h p ≡ Some f → AreThere p f
  are_there [] run p f is = cc
  are_there (e ∷ past) run p f is = there_step past e.who e.event e.blocks e.reply run.0 (are_there past run.1) p f is

  -- a frame of the pool holds no page
  pub pool_free : (h : History) → CoreRun k x h → (f : ℕ) → owner k h f ≡ None → holder h f ≡ None
  pool_free h run f pool = at (holder h f) refl where
    at : (o : Option ℕ) → holder h f ≡ o → o ≡ None
    at None is = refl
    at (Some p) is =
        let framed : frame h p ≡ Some f = (frame_iff_holder k x h run p f).1 is in
        let some : is_owner (home_of k p) None ≡ false = run_is (page_counts k) p (are_there h run p f framed).0 in
        let none : is_owner (home_of k p) None ≡ true = ap (λ o. is_owner o None) (sym (at_home h run p f framed) ∙ pool) in cc

-- a page is in a frame just where the frame holds it
pub frames_hold : (k : Plan) (key : List ℕ) (h : History) → IsLegalRun k key h → FramesHold h
frames_hold k key h run = frame_iff_holder k (seals_by key) h run.legal

-- what a frame with a page is
pub holders_at_home : (k : Plan) (key : List ℕ) (h : History) → IsLegalRun k key h → HoldersAtHome k h
holders_at_home k key h run =
    let x : Seals = seals_by key in
    let framed : (p f : ℕ) → holder h f ≡ Some p → frame h p ≡ Some f = λ p f is. (frame_iff_holder k x h run.legal p f).1 is in record {
      frame_exists = λ p f is. (are_there k x h run.legal p f (framed p f is)).1;
      page_exists = λ p f is. (are_there k x h run.legal p f (framed p f is)).0;
      at_home = λ p f is. at_home k x h run.legal p f (framed p f is);
      pool_free = pool_free k x h run.legal;
    }
