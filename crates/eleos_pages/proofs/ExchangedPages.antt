-- What is exchanged with the host where a page leaves its frame, and where it is put into one.
use Rattle.std.proofs.Common.{◌≡◌, ℕ, List, [], ◌∷◌, sym, subst}
use Rattle.std.specs.List.{AllByRecursion}
use Rattle.eleos_base.specs.declared.memory.Reply.TheVariants.{Done}
use Rattle.eleos_core.specs.declared.event.Event.TheVariants.{Fill}
use Rattle.eleos_core.specs.Applying.{puts_of}
use Rattle.eleos_core.specs.Evicts.{evict_stamp}
use Rattle.eleos_core.proofs.SealedPuts.{puts_are}
use Rattle.eleos_host.specs.declared.port.HostPort.{Ghosts}
use Rattle.eleos_host.specs.declared.port.HostStore as store
use Rattle.eleos_host.specs.Taps.{TapState}
use Rattle.eleos_machine.specs.declared.holding.FreeFrame.{FreeFrame}
use Rattle.eleos_machine.specs.declared.holding.HeldPage.{HeldPage}
use Rattle.eleos_machine.specs.declared.holding.SolePage.{SolePage}
use Rattle.eleos_machine.specs.Passes.{PassState, plan_of, seals_of}
use Rattle.eleos_pages.specs.Crossed.{blocks_below, each_at}
use Rattle.eleos_pages.specs.Evicted.{HasEvicted}
use Rattle.eleos_pages.specs.Exchanges.{AreGiven, Exchanges}
use Rattle.eleos_pages.specs.Filled.{HasFilled, filled_by}
use Rattle.eleos_pages.proofs.Crossing.{entry_exchanges}

-- the host gave each of these blocks for its place
given_each : (gave took : ℕ → List ℕ → Type 0) (places : List ℕ) (blocks : List (List ℕ)) → AllByRecursion (λ (q : ℕ × List ℕ). gave q.0 q.1) (each_at places blocks) → AreGiven gave took places blocks
given_each gave took [] blocks all = tt
given_each gave took (place ∷ places) [] all = tt
given_each gave took (place ∷ places) (block ∷ blocks) all = (all.0, given_each gave took places blocks all.1)

module _ {P : Type 0} (port : Ghosts P) (host : store.Ghosts P) where
  -- an evict takes no block, and the host took those that it seals
  pub evict_exchanges : (s : PassState) (before : TapState P) (sole : SolePage) (free : FreeFrame) (puts : ℕ) (s' : PassState) (tap : TapState P) → HasEvicted port host s before sole free puts s' tap → Exchanges port.gave port.took s.hand.home s s'
  evict_exchanges s before sole free puts s' tap e = entry_exchanges port.gave port.took s.hand.home s s' (evict_stamp s.hand.number sole.page sole.frame) _ e.entered (record { given = tt; taken = e.crossed.took })

  -- the host gave the blocks of a fill, which seals none
  pub fill_exchanges : (s : PassState) (before : TapState P) (page : HeldPage) (frame : FreeFrame) (filled : HeldPage) (s' : PassState) (tap : TapState P) → HasFilled port host s before page frame filled s' tap → Exchanges port.gave port.took s.hand.home s s'
  fill_exchanges s before page frame filled s' tap e =
      let none = puts_are (plan_of s) (seals_of s) e.entered.past s.hand.number (Fill page.page frame.frame) (blocks_below e.count tap) Done 0 e.entered.legal in
      entry_exchanges port.gave port.took s.hand.home s s' (filled_by s page frame e.count tap) _ e.entered (record {
        given = given_each port.gave port.took _ (blocks_below e.count tap) e.crossed.gave;
        taken = subst (AllByRecursion (λ (q : ℕ × List ℕ). port.took q.0 q.1)) none tt;
      })
