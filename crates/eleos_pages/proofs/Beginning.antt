-- From the beginning of a tap to what has crossed, and from a pass before a take to its entry.
use Rattle.std.proofs.Common.{◌≡◌, ℕ, List, [], ◌∷◌, length, option_map, sym, ◌∙◌, ap, subst}
use Rattle.eleos_core.specs.Legal.{CoreStep}
use Rattle.eleos_core.specs.Parts.{Stamp}
use Rattle.eleos_host.specs.declared.port.HostPort.{Ghosts}
use Rattle.eleos_host.specs.declared.port.HostStore as store
use Rattle.eleos_host.specs.Taps.{TapState}
use Rattle.eleos_plot.specs.Terms.{core_terms}
use Rattle.eleos_turn.specs.Hands.{Goes}
use Rattle.eleos_turn.proofs.Clients.{goes_links, goes_trans}
use Rattle.eleos_machine.specs.Machines.{Site, plan_at, seals_at}
use Rattle.eleos_machine.specs.Notes.{after_entry}
use Rattle.eleos_machine.specs.Passes.{PassState, plan_of, seals_of}
use Rattle.eleos_pages.specs.Crossed.{Crosses, HasBegun, HasCrossed, with_crossings, with_puts}
use Rattle.eleos_pages.specs.Entered.{Enters}
use Rattle.eleos_pages.proofs.CrossedMore.{stores-none}

module _ {P : Type 0} (port : Ghosts P) (host : store.Ghosts P) where
  -- what crossed after the tap had begun is all that crossed
  pub since_begin : (before new tap : TapState P) (given taken : List (ℕ × List ℕ)) → HasBegun port host before tap → Crosses port host tap new given taken → HasCrossed port host before new given taken
  since_begin before new tap given taken begun crossed = record {
    gave = crossed.gave;
    took = crossed.took;
    all_given = crossed.all_given ∙ ap (λ told. with_crossings told given) begun.none_given;
    all_taken = crossed.all_taken ∙ ap (λ told. with_crossings told taken) begun.none_taken;
    store = crossed.store ∙ ap (option_map (λ s. with_puts s taken)) begun.same_store;
    one_begin = crossed.no_begin ∙ begun.one_begin;
  }

  -- nothing crossed after it
  pub none_since : (before tap : TapState P) (given taken : List (ℕ × List ℕ)) → given ≡ [] → taken ≡ [] → HasBegun port host before tap → HasCrossed port host before tap given taken
  none_since before tap given taken no_given no_taken begun =
      subst (λ gs. HasCrossed port host before tap gs taken) (sym no_given) (subst (HasCrossed port host before tap []) (sym no_taken) (record {
        gave = tt;
        took = tt;
        all_given = begun.none_given;
        all_taken = begun.none_taken;
        store = begun.same_store ∙ stores-none (host.store before.port);
        one_begin = begun.one_begin;
      }))

-- the entry of a pass after a take is one of the pass before it
abbrev pub entered_after : (s mid s' : PassState) (d d' : Stamp) (held held' : List ℕ) → Goes core_terms s.hand mid.hand [] → mid.hand.pins ≡ s.hand.pins → mid.hand.refused ≡ s.hand.refused → mid ≡ record s { hand = mid.hand } → d ≡ d' → held ≡ held' → Enters mid d held s' → Enters s d' held' s'
entered_after s mid s' d d' held held' goes pins refused rest same same_held e = record {
  past = e.past;
  goes = subst (λ (y : Stamp). Goes core_terms s.hand s'.hand ((length e.past, y) ∷ [])) same (goes_trans core_terms s.hand mid.hand s'.hand [] ((length e.past, d) ∷ []) goes e.goes);
  sees = e.sees ∙ ap (λ (y : Stamp). y.entry ∷ e.past) same;
  legal = subst (λ (y : Stamp). CoreStep (plan_of s) (seals_of s) e.past y.entry) same (subst (λ (z : Site). CoreStep (plan_at z) (seals_at z) e.past d.entry) goes.home e.legal);
  turns = e.turns ∙ same_held;
  pins = e.pins ∙ pins;
  links = λ c. e.links c ∙ goes_links core_terms s.hand mid.hand [] goes tt c;
  refused = e.refused ∙ refused;
  rest = e.rest ∙ (ap (λ (y : PassState). record y { hand = s'.hand; draft = s'.draft; sweep = after_entry d.entry.event y.sweep }) rest
      ∙ ap (λ (y : Stamp). record s { hand = s'.hand; draft = s'.draft; sweep = after_entry y.entry.event s.sweep }) same);
}
