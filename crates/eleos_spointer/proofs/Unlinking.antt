-- The entry of an unlink, and what it leaves of the pass's links.
use Rattle.std.proofs.Common.{◌≡◌, ◌≢◌, ℕ, ◌+◌, ◌-◌, ◌<◌, ◌++◌, List, [], ◌∷◌, inr, Option, refl, sym, ◌∙◌, ap, subst, arith}
use Rattle.eleos_base.specs.declared.plot.Event.{Event}
use Rattle.eleos_base.specs.Histories.{linked, no_link, tied_up}
use Rattle.eleos_base.specs.Places.{all_pages}
use Rattle.eleos_base.specs.Plans.{IsCaller}
use Rattle.eleos_base.specs.Ties.{Tie, adds, neither, takes}
use Rattle.eleos_base.specs.declared.memory.Reply.TheVariants.{Done}
use Rattle.eleos_core.specs.declared.event.Event.TheVariants.{Unlink}
use Rattle.eleos_core.specs.Accesses.{unlink_stamp}
use Rattle.eleos_core.specs.Parts.{Part, Stamp, page_cell}
use Rattle.eleos_plot.specs.declared.plot.Ground.{Ground}
use Rattle.eleos_plot.specs.Terms.{core_terms, tie_of}
use Rattle.eleos_turn.specs.Hands.{Goes, HandState, links_on, without_pin}
use Rattle.eleos_turn.specs.Numbers.{less_one, times}
use Rattle.eleos_turn.proofs.Clients.{goes_pinned, goes_trans}
use Rattle.eleos_turn.proofs.Histories.{both_and, both_or, linked_append}
use Rattle.eleos_turn.proofs.Sound.{links_more, sound_unpin}
use Rattle.eleos_machine.specs.declared.pointers.Pointer.{Pointer}
use Rattle.eleos_machine.specs.Notes.{after_entry}
use Rattle.eleos_machine.specs.Passes.{AreLinked, IsLawful, PassState, plan_of}
use Rattle.eleos_machine.specs.Stamping.{HasStamped, MayStamp, kept}
use Rattle.eleos_spointer.specs.Unlinked.{Unlinks}

-- the cell of a link that is taken off
abbrev cell_taken : Tie → ℕ
cell_taken neither = 0
cell_taken (adds c) = 0
cell_taken (takes c) = c

-- the links of a pass after an entry of its own, by the tie of the entry
pub links_stamped : (s s' : PassState) (n : ℕ) → 0 < s.hand.number → s.draft.entry.who ≡ s.hand.number → HasStamped s n s' → (c : ℕ)
    → (l : ℕ → ℕ → ℕ) × (l s.hand.number c ≡ links_on core_terms s.hand c) × (links_on core_terms s'.hand c ≡ tied_up s.hand.number (tie_of (plan_of s) s.draft.entry.event s.draft.entry.reply) l s.hand.number c)
links_stamped s s' n made own h c =
    let g : Ground = s.hand.home.base.grounds in
    let e : Event Stamp Part = record { entry = s.draft; kept = kept s } in
    let l : ℕ → ℕ → ℕ = linked core_terms g (s.hand.seen ++ h.stamped.more) in (
      l,
      links_more core_terms s.hand h.stamped.more s.hand.turns made h.stamped.others c,
      ap (λ (y : HandState Stamp Part Ground). links_on core_terms y c) h.stamped.now
          ∙ (ap (λ (f : ℕ → ℕ → ℕ). f s.hand.number c) (linked_append core_terms g no_link (s.hand.seen ++ h.stamped.more) (e ∷ []))
          ∙ ap (λ (who : ℕ). tied_up who (tie_of (plan_of s) s.draft.entry.event s.draft.entry.reply) l s.hand.number c) own),
    )

module _ (s : PassState) (page : ℕ) (made : 0 < s.hand.number) (some : 0 < links_on core_terms s.hand (page_cell (plan_of s) page)) where
  abbrev d : Stamp
  d = unlink_stamp s.hand.number page Done

  abbrev c₀ : ℕ
  c₀ = page_cell (plan_of s) page

  abbrev drafted : PassState
  drafted = record s { draft = d }

  -- it may be stamped
  pub may_unlink : (s₁ : PassState) → s₁ ≡ drafted → IsCaller (plan_of s) s.hand.number → 0 < s.hand.left → page < all_pages (plan_of s) → MayStamp s₁
  may_unlink s₁ is caller left low = subst MayStamp (sym is) (record {
    own = refl;
    left = left;
    turns = λ c touched. absurd touched;
    legal = record { within = (caller, low); on_parts = record { reply_is = refl; no_block = refl } };
    sweep = tt;
    bare = λ c bare. absurd bare;
    covered = λ c adding. absurd (cc);
    there = λ c taking. subst (λ x. 0 < links_on core_terms s.hand x) (ap cell_taken taking) some;
  })

  module _ (n : ℕ) (s' : PassState) (h : HasStamped drafted n s') where
    -- one link is gone from the page
    pub link_gone : links_on core_terms s'.hand c₀ + 1 ≡ links_on core_terms s.hand c₀
    link_gone =
        let tied = links_stamped drafted s' n made refl h c₀ in
        let l = tied.0 in let was = tied.1 in let now = tied.2 in
        let less = both_and s.hand.number s.hand.number c₀ c₀ (l s.hand.number c₀ - 1) (l s.hand.number c₀) refl refl in
        omega (arith, was, now, less, some)

    -- and none from another
    pub links_stay : (c : ℕ) → c ≢ c₀ → links_on core_terms s'.hand c ≡ links_on core_terms s.hand c
    links_stay c ne =
        let tied = links_stamped drafted s' n made refl h c in
        let l = tied.0 in let was = tied.1 in let now = tied.2 in
        let same = both_or s.hand.number s.hand.number c c₀ (l s.hand.number c - 1) (l s.hand.number c) (inr ne) in
        omega (arith, was, now, same)

    -- the pins are as before
    pub pins_stay : s'.hand.pins ≡ s.hand.pins
    pins_stay = ap (λ (y : HandState Stamp Part Ground). y.pins) h.stamped.now

    -- so the pin may be taken off, and then the page is let go
    module _ (law : IsLawful s') (pinned : times c₀ s.hand.pins ≡ links_on core_terms s.hand c₀) where
      pub more_pins : links_on core_terms s'.hand c₀ < times c₀ s'.hand.pins
      more_pins = let e = ap (times c₀) pins_stay in let g = link_gone in omega (arith, e, g, pinned)

      abbrev free : PassState
      free = record s' { hand = without_pin s'.hand c₀ }

      rest : free ≡ record s { hand = free.hand; draft = d; sweep = after_entry (Unlink page) s.sweep }
      rest = ap (λ (y : PassState). record y { hand = free.hand }) h.rest

      pub let_go : Unlinks s page free
      let_go = record {
        past = h.past;
        goes = subst (λ (m : ℕ). Goes core_terms s.hand free.hand ((m, d) ∷ [])) h.place
            (goes_trans core_terms s.hand s'.hand free.hand ((n, d) ∷ []) [] h.goes (goes_pinned core_terms c₀ s'.hand free.hand (inr refl)));
        sees = h.sees;
        legal = h.legal;
        turns = ap (λ (y : HandState Stamp Part Ground). y.turns) h.stamped.now;
        pins = ap (less_one c₀) pins_stay;
        link = link_gone;
        links = links_stay;
        refused = ap (λ (y : HandState Stamp Part Ground). y.refused) h.stamped.now;
        rest = rest ∙ ap (λ (ps : List (Option Pointer)). record s { hand = free.hand; draft = d; sweep = after_entry (Unlink page) s.sweep; pointers = ps }) (sym (ap (λ (y : PassState). y.pointers) rest));
        lawful = record { machine = law.machine; hand = sound_unpin core_terms s'.hand c₀ law.hand more_pins; run = law.run };
      }

      pub same_pointers : free.pointers ≡ s.pointers
      same_pointers = ap (λ (y : PassState). y.pointers) rest

-- pins are links on the page of a pointer
pub pinned : (s : PassState) (page : ℕ) → AreLinked s → times (page_cell (plan_of s) page) s.hand.pins ≡ links_on core_terms s.hand (page_cell (plan_of s) page)
pinned s page linked = linked.pins (page_cell (plan_of s) page) ∙ sym (linked.links (page_cell (plan_of s) page))
