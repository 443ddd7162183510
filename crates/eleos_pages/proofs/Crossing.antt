-- What is exchanged with the host for one entry.
use Rattle.std.proofs.Common.{◌≡◌, ℕ, Bool, true, false, ◌&&◌, cond, List, [], ◌∷◌, filter, length, map, refl, sym, ap, ◌∙◌, subst}
use Rattle.std.specs.List.{AllByRecursion}
use Rattle.eleos_base.specs.declared.memory.Op.{Op}
use Rattle.eleos_base.specs.declared.memory.Op.TheVariants as ops
use Rattle.eleos_base.specs.declared.memory.Reply.{Reply}
use Rattle.eleos_base.specs.declared.plan.Plan.{Plan}
use Rattle.eleos_core.specs.declared.event.Entry.{Entry}
use Rattle.eleos_core.specs.declared.event.Event.TheVariants.{Op as ACall}
use Rattle.eleos_core.specs.Applying.{puts_of}
use Rattle.eleos_core.specs.Parts.{Stamp}
use Rattle.eleos_base.specs.Places.{all_subs}
use Rattle.eleos_core.specs.Seals.{Seals}
use Rattle.eleos_core.specs.State.{History, entry, is_sealing, last}
use Rattle.eleos_pages.specs.Entered.{Enters}
use Rattle.eleos_machine.specs.Machines.{Site, plan_at, seals_at}
use Rattle.eleos_machine.specs.Passes.{PassState}
use Rattle.eleos_pages.specs.Crossed.{at_place}
use Rattle.eleos_plot.specs.Terms.{core_terms}
use Rattle.eleos_turn.proofs.Clients.{goes_same}
use Rattle.eleos_pages.specs.Exchanges.{AreGiven, Exchanges, HasExchanged}
use Rattle.eleos_pages.proofs.Exchanging.{exchanged_last, exchanges_these}

-- the call is no write
abbrev pub IsNoWrite : Op → Type 0
IsNoWrite (ops.Write at bytes) = ⊥
IsNoWrite _ = Unit {0}

drop_false : (a b : Bool) → ((a && false) && b) ≡ false
drop_false true b = refl
drop_false false b = refl

nothing_in : (f : ℕ → Bool) (xs : List ℕ) → ((s : ℕ) → f s ≡ false) → filter f xs ≡ []
nothing_in f [] none = refl
nothing_in f (x ∷ xs) none = ap (λ (b : Bool). cond b (x ∷ filter f xs) (filter f xs)) (none x) ∙ nothing_in f xs none

seals_nothing : (k : Plan) (past : History) (who : ℕ) (op : Op) (blocks : List (List ℕ)) (reply : Reply) → IsNoWrite op → (s : ℕ) → is_sealing k (entry who (ACall op) blocks reply) past s ≡ false
seals_nothing k past who (ops.Alloc n) blocks reply quiet s = drop_false _ _
seals_nothing k past who (ops.Free at) blocks reply quiet s = drop_false _ _
seals_nothing k past who (ops.Share at) blocks reply quiet s = drop_false _ _
seals_nothing k past who (ops.Read at n) blocks reply quiet s = drop_false _ _
seals_nothing k past who (ops.Write at bytes) blocks reply quiet s = absurd quiet

module _ (gave took : ℕ → List ℕ → Type 0) where
  -- none was given for any place
  pub none_given : (ss : List ℕ) → AreGiven gave took ss []
  none_given [] = tt
  none_given (s ∷ ss) = tt

  -- a call that is no write seals nothing
  pub none_taken : (k : Plan) (x : Seals) (past : History) (who : ℕ) (op : Op) (blocks : List (List ℕ)) (reply : Reply) → IsNoWrite op
      → AllByRecursion (λ (q : ℕ × List ℕ). took q.0 q.1) (puts_of k x (entry who (ACall op) blocks reply) past)
  none_taken k x past who op blocks reply quiet =
      let e : Entry = entry who (ACall op) blocks reply in
      subst (λ (ss : List ℕ). AllByRecursion (λ (q : ℕ × List ℕ). took q.0 q.1) (map (λ s. (s, last k x (e ∷ past) s)) ss)) (sym (nothing_in (is_sealing k e past) (all_subs k) (seals_nothing k past who op blocks reply quiet))) tt

  -- the host gave these blocks for the place of an absent page's sub-page
  pub given_at : (place : ℕ) (f : ℕ → Bool) (is_there is_kept : Bool) (blocks : List (List ℕ)) → f place ≡ is_kept → AllByRecursion (λ (q : ℕ × List ℕ). gave q.0 q.1) (at_place place blocks)
      → AreGiven gave took (cond is_there [] (filter f (place ∷ []))) blocks
  given_at place f true kept blocks is all = tt
  given_at place f false kept [] is all = none_given (filter f (place ∷ []))
  given_at place f false false (block ∷ blocks) is all = subst (λ (b : Bool). AreGiven gave took (cond b (place ∷ []) []) (block ∷ blocks)) (sym is) tt
  given_at place f false true (block ∷ blocks) is all = subst (λ (b : Bool). AreGiven gave took (cond b (place ∷ []) []) (block ∷ blocks)) (sym is) (all.0, tt)

  module _ (z : Site) where
    -- nothing was done
    pub nothing_exchanges : (s : PassState) → Exchanges gave took z s s
    nothing_exchanges s = exchanges_these gave took z s s [] (goes_same core_terms s.hand) tt

    -- one entry, of which this is known
    pub entry_exchanges : (s s' : PassState) (d : Stamp) (held : List ℕ) (enters : Enters s d held s') → HasExchanged gave took (plan_at z) (seals_at z) enters.past d.entry → Exchanges gave took z s s'
    entry_exchanges s s' d held enters one = exchanges_these gave took z s s' ((length enters.past, d) ∷ []) enters.goes (exchanged_last gave took z s'.hand.seen d enters.past enters.sees one)
