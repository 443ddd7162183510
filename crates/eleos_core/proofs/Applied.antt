-- An event that was made on the cells was applied after each history that they show.
use Rattle.std.proofs.Common.{◌≡◌, ℕ, List, [], ◌∷◌, map, Bool, true, false, if◌then◌else◌, refl, sym, ◌∙◌, subst, ap}
use Rattle.eleos_base.specs.declared.memory.Reply.{Reply}
use Rattle.eleos_base.specs.declared.plan.Plan.{Plan}
use Rattle.eleos_base.specs.Plans.{IsGood}
use Rattle.eleos_core.specs.declared.event.Event.{Event}
use Rattle.eleos_core.specs.declared.machine.Put.{Put}
use Rattle.eleos_core.specs.Applying.{Applies, Makes, Shows, parts_in, put_of, puts_in, puts_of, stamp_of, used}
use Rattle.eleos_core.specs.Cells.{Cells}
use Rattle.eleos_core.specs.Legal.{CoreRun, CoreStep, passes}
use Rattle.eleos_core.specs.PartLaws.{LinksAllow}
use Rattle.eleos_core.specs.Parts.{Part, Stamp, part_at}
use Rattle.eleos_core.specs.Seals.{Seals}
use Rattle.eleos_core.specs.State.{History, entry, places}
use Rattle.eleos_core.proofs.Gluing.{Next, next}
use Rattle.eleos_core.proofs.SealedPuts.{puts_are}

-- no block is used where none was given
pub used_none : (test : ℕ → List ℕ → Bool) (ps : List ℕ) → used test ps [] ≡ []
used_none test [] = refl
used_none test (s ∷ ss) = refl

-- the one block of one place is used
pub used_one : (test : ℕ → List ℕ → Bool) (s : ℕ) (c : List ℕ) → used test (s ∷ []) (c ∷ []) ≡ c ∷ []
used_one test s c = ap (λ r. c ∷ r) (either (test s c))
  where
    nothing : List (List ℕ)
    nothing = []

    either : (b : Bool) → (if b then used test [] nothing else nothing) ≡ nothing
    either true = refl
    either false = refl

module _ (k : Plan) (x : Seals) (good : IsGood k) where
  -- what applying says, of an entry with these blocks
  record IsApplied (past : History) (who : ℕ) (event : Event) (reply : Reply) (sent : List Put) (new : Cells) (blocks : List (List ℕ)) : Type 0 where
    legal : CoreStep k x past (entry who event blocks reply)
    puts : map put_of sent ≡ puts_of k x (entry who event blocks reply) past
    shown : Shows x (entry who event blocks reply ∷ past) new

  -- what was made on cells that show a history was applied after it: legal, with the blocks used, and sending what it seals
  pub applies : (past : History) (who : ℕ) (event : Event) (given blocks : List (List ℕ)) (reply : Reply) (len : ℕ) (old new : Cells) (sent : List Put)
      → old.plan ≡ k → CoreRun k x past → Shows x past old → Makes x (stamp_of who event blocks reply len) old new → LinksAllow k past who event
      → map put_of sent ≡ puts_in old.plan x (stamp_of who event blocks reply len) (parts_in old) event
      → used (passes k x past) (places k event past) given ≡ blocks
      → Applies k x past who event given reply sent new
  applies past who event given blocks reply len old new sent same run shows makes allow puts given_is =
      let d : Stamp = stamp_of who event blocks reply len in
      let n : Next k x good past d new = next k x good past d old new same run shows makes allow in
      let on_history : puts_in old.plan x d (parts_in old) event ≡ puts_in k x d (part_at k x past) event = (λ i. puts_in (same i) x d (λ c. parts_in old c) event) ∙ ap (λ (b : ℕ → Part). puts_in k x d b event) (λ i c. (shows.parts c ∙ ap (λ (z : Plan). part_at z x past c) same) i) in
      let here : IsApplied past who event reply sent new blocks = record {
        legal = n.legal;
        puts = puts ∙ (on_history ∙ puts_are k x past who event blocks reply len n.legal);
        shown = n.shown;
      } in
      let there : IsApplied past who event reply sent new (used (passes k x past) (places k event past) given) = subst (IsApplied past who event reply sent new) (sym given_is) here in record {
        plan = makes.plan ∙ same;
        legal = there.legal;
        puts = there.puts;
        shown = there.shown;
      }
