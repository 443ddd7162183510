-- Who is no caller links no page.
use Rattle.std.proofs.Common.{◌≡◌, ℕ, ◌+◌, ◌-◌, ◌==◌, ◌&&◌, List, [], ◌∷◌, Bool, true, false, if◌then◌else◌, refl, sym, subst}
use Rattle.std.proofs.lemmas.Bool.{eqb-true}
use Rattle.eleos_base.specs.declared.memory.Reply.{Reply}
use Rattle.eleos_base.specs.declared.plan.Plan.{Plan}
use Rattle.eleos_base.specs.Plain.{is_accepted}
use Rattle.eleos_base.specs.Plans.{IsCaller}
use Rattle.eleos_core.specs.declared.event.Event.{Event}
use Rattle.eleos_core.specs.declared.event.Event.TheVariants.{Link, Unlink}
use Rattle.eleos_core.specs.Legal.{CoreRun, CoreStep}
use Rattle.eleos_base.specs.Places.{page_of, sub_of}
use Rattle.eleos_core.specs.Seals.{Seals}
use Rattle.eleos_core.specs.State.{History, entry, links, links_by}
use Rattle.eleos_core.proofs.Tests.{by_test}

module _ (k : Plan) (x : Seals) (by : ℕ) (stranger : IsCaller k by → ⊥) where
  -- an entry of somebody else
  no_more : (who : ℕ) (caller : IsCaller k who) (a c : Bool) (was more : ℕ) → was ≡ 0 → (if a && by == who && c then more else was) ≡ 0
  no_more who caller a c was more none = by_test (by == who) (λ v. by == who ≡ v → (if a && v && c then more else was) ≡ 0)
      (λ _ is. absurd (stranger (subst (IsCaller k) (sym (eqb-true by who is)) caller)))
      (λ _ is. plain a)
      refl
    where
      plain : (b : Bool) → (if b && false && c then more else was) ≡ 0
      plain true = none
      plain false = none

  links_step : (past : History) (who : ℕ) (event : Event) (blocks : List (List ℕ)) (reply : Reply) (p : ℕ) → CoreStep k x past (entry who event blocks reply) → links k past by p ≡ 0
      → links_by k who event reply by p (links k past by p) ≡ 0
  links_step past who (Link at) blocks reply p step none = no_more who step.within (is_accepted reply) (p == page_of k (sub_of k at)) (links k past by p) (links k past by p + 1) none
  links_step past who (Unlink q) blocks reply p step none = no_more who step.within.0 true (p == q) (links k past by p) (links k past by p - 1) none
  links_step past who _ blocks reply p step none = none

  -- who is no caller has no link on any page after a legal history
  pub no_links : (h : History) → CoreRun k x h → (p : ℕ) → links k h by p ≡ 0
  no_links [] run p = refl
  no_links (e ∷ past) run p = links_step past e.who e.event e.blocks e.reply p run.0 (no_links past run.1 p)
