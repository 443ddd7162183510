-- The entry of a link, and what it leaves of the pass.
use Rattle.std.proofs.Common.{◌≡◌, inl, inr, ⊎_elim, ℕ, ◌+◌, ◌<◌, [], ◌∷◌, Bool, true, Some, None, is_some, set, if◌then◌else◌, refl, sym, ◌∙◌, ap, subst, arith}
use Rattle.eleos_base.specs.declared.memory.Addr.{Addr}
use Rattle.eleos_base.specs.declared.memory.Reply.TheVariants.{Done}
use Rattle.eleos_base.specs.declared.plan.Plan.{Plan}
use Rattle.eleos_base.specs.Ties.{Has, Tie, adds, neither, takes}
use Rattle.eleos_core.specs.declared.cells.page.Page.{Page as Pages}
use Rattle.eleos_core.specs.Accesses.{link_stamp}
use Rattle.eleos_core.specs.Cells.{part_of_page}
use Rattle.eleos_core.specs.Parts.{Part, Stamp, block_at, foot, frame_in, page_cell, part_after, refusal_in, the_page}
use Rattle.eleos_core.proofs.AccessParts.{accepted_range, legal_by, link-kept}
use Rattle.eleos_plot.specs.declared.cell.Cell.{Cell}
use Rattle.eleos_plot.specs.declared.cell.Cell.TheVariants.{Page}
use Rattle.eleos_plot.specs.declared.plot.Ground.{Ground}
use Rattle.eleos_plot.specs.Cells.{part_of_cell}
use Rattle.eleos_plot.specs.Fits.{IsPageCell}
use Rattle.eleos_plot.specs.Terms.{core_terms}
use Rattle.eleos_turn.specs.Hands.{Goes, HandState, links_on, with_pin}
use Rattle.eleos_turn.specs.Numbers.{less_one, times}
use Rattle.eleos_turn.proofs.Clients.{goes_given, goes_pinned, goes_trans}
use Rattle.eleos_turn.proofs.Histories.{both_and, both_or}
use Rattle.eleos_turn.proofs.Numbers.{times_here}
use Rattle.eleos_pages.proofs.Ending.{lawful_gave}
use Rattle.eleos_pages.proofs.HeldCells.{page_becomes, page_part_seen}
use Rattle.eleos_machine.specs.declared.holding.HeldPage.{HeldPage}
use Rattle.eleos_machine.specs.declared.pointers.Pointer.{Pointer}
use Rattle.eleos_machine.specs.declared.pointers.SpId.{SpId}
use Rattle.eleos_machine.specs.Machines.{Site}
use Rattle.eleos_machine.specs.Passes.{IsLawful, PassState, gave, part_seen, plan_of, seals_of}
use Rattle.eleos_machine.specs.Pointers.{cell_under, place_of}
use Rattle.eleos_machine.specs.Stamping.{HasStamped, MayStamp}
use Rattle.eleos_spointer.specs.Tied.{MayTie, Ties, with_link}
use Rattle.eleos_spointer.proofs.Starving.{less_first}
use Rattle.eleos_spointer.proofs.Unlinking.{links_stamped}

-- the cell of a link that is added
abbrev cell_added : Tie → ℕ
cell_added neither = 0
cell_added (adds c) = c
cell_added (takes c) = 0

module _ (z : Site) (s : PassState) (id : SpId) (pointer : Pointer) (page : HeldPage) (may : MayTie z s id pointer page) where
  abbrev k : Plan
  k = plan_of s

  abbrev at : Addr
  at = place_of pointer

  abbrev c₀ : ℕ
  c₀ = cell_under k pointer

  abbrev d : Stamp
  d = link_stamp s.hand.number at Done

  abbrev pinned : PassState
  pinned = record s { hand = with_pin s.hand c₀ }

  abbrev pub drafted : PassState
  drafted = record pinned { draft = d }

  made : 0 < s.hand.number
  made = let one = may.caller.from_one in omega (arith, one)

  -- the cell of the page is that of the pointer's page
  cell_is : page_cell k page.page ≡ c₀
  cell_is = ap (page_cell k) may.page_is

  pub turn : Has c₀ s.hand.turns
  turn = subst (λ c. Has c s.hand.turns) cell_is may.has.turn

  accepted : refusal_in k s.hand.number at 1 (block_at k (part_seen s c₀) at) ≡ None
  accepted = subst (λ (c : ℕ). refusal_in k s.hand.number at 1 (block_at k (part_seen s c) at) ≡ None) cell_is may.accepted

  foot_is : foot k d ≡ c₀ ∷ []
  foot_is = ap (λ (b : Bool). if b then c₀ ∷ [] else []) (accepted_range k s.hand.number at 1 (part_seen s c₀) accepted)

  -- it may be stamped, behind a pin
  pub may_link : (s₁ : PassState) → s₁ ≡ drafted → MayStamp s₁
  may_link s₁ is = subst MayStamp (sym is) (record {
    own = refl;
    left = may.left;
    turns = λ c touched. only c (subst (Has c) foot_is touched);
    legal = record {
      within = may.caller;
      on_parts = legal_by (refusal_in k s.hand.number at 1 (block_at k (part_seen s c₀) at)) _ _ accepted
          (subst (λ (c : ℕ). is_some (frame_in (part_seen s c)) ≡ true) cell_is may.present, record { reply_is = refl; no_block = refl });
    };
    sweep = tt;
    bare = λ c bare. absurd bare;
    covered = λ c adding. let here : c₀ ≡ c = ap cell_added adding in
        subst (λ x. links_on core_terms s.hand x < times x (c₀ ∷ s.hand.pins)) here
        (let one = times_here c₀ s.hand.pins in let few = may.covered c₀ in omega (arith, one, few));
    there = λ c taking. absurd (cc);
  }) where
    only : (c : ℕ) → Has c (c₀ ∷ []) → Has c s.hand.turns
    only c one = ⊎_elim (λ (e : c ≡ c₀). subst (λ x. Has x s.hand.turns) (sym e) turn) (λ (none : ⊥). absurd none) one

  module _ (n : ℕ) (s' : PassState) (h : HasStamped drafted n s') (law : IsLawful s') where
    -- the page has the part that it had
    pub page_right : part_of_cell page.cell ≡ part_seen s' c₀
    page_right = by_cell page.cell refl where
      by_page : (held : Pages) → page.cell ≡ Page held → part_of_cell page.cell ≡ part_seen s' c₀
      by_page held is =
          let q : part_of_page held ≡ part_seen s (page_cell k page.page) = page_part_seen s page.page page.cell held may.has is in
          let after : part_seen s' (page_cell k page.page) ≡ part_after k (seals_of s) d (the_page page.page) (part_seen s (page_cell k page.page))
          = page_becomes drafted s' n h page.page may.has.number (subst (Has (page_cell k page.page)) (sym foot_is) (inl cell_is)) in
          may.has.value ∙ (sym q ∙ (link-kept k (seals_of s) s.hand.number at held Done page.page
          ∙ (ap (part_after k (seals_of s) d (the_page page.page)) q ∙ (sym after ∙ ap (part_seen s') cell_is))))

      by_cell : (y : Cell) → page.cell ≡ y → part_of_cell page.cell ≡ part_seen s' c₀
      by_cell (Page held) is = by_page held is
      by_cell y is = absurd (subst (IsPageCell k) is may.has.fits)

    pub turn_still : Has c₀ s'.hand.turns
    turn_still = subst (Has c₀) (sym (ap (λ (y : HandState Stamp Part Ground). y.turns) h.stamped.now)) turn

    abbrev given : PassState
    given = gave s' c₀

    goes_given_on : Goes core_terms pinned.hand given.hand ((n, d) ∷ [])
    goes_given_on = goes_trans core_terms pinned.hand s'.hand given.hand ((n, d) ∷ []) [] h.goes (goes_given core_terms c₀ s'.hand given.hand refl)

    -- then the page is linked
    pub tied : (s'' : PassState) → s'' ≡ record given { pointers = set given.pointers id.key (Some (with_link pointer)) } → Ties s id pointer s''
    tied s'' is = subst (Ties s id pointer) (sym is) (record {
      tied = (n, d);
      is = refl;
      stands = record { past = h.past; place = h.place; later = []; behind = h.sees; legal = h.legal };
      goes = goes_trans core_terms s.hand pinned.hand given.hand [] ((n, d) ∷ []) (goes_pinned core_terms c₀ s.hand pinned.hand (inl refl)) goes_given_on;
      turns = ap (λ (y : HandState Stamp Part Ground). less_one c₀ y.turns) h.stamped.now ∙ (ap (less_one c₀) may.turns ∙ less_first c₀ []);
      pins = ap (λ (y : HandState Stamp Part Ground). y.pins) h.stamped.now;
      link = let t = links_stamped drafted s' n made refl h c₀ in let l = t.0 in let was = t.1 in let now = t.2 in
          let more = both_and s.hand.number s.hand.number c₀ c₀ (l s.hand.number c₀ + 1) (l s.hand.number c₀) refl refl in omega (arith, was, now, more);
      links = λ c ne. let t = links_stamped drafted s' n made refl h c in let l = t.0 in let was = t.1 in let now = t.2 in
          let same = both_or s.hand.number s.hand.number c c₀ (l s.hand.number c + 1) (l s.hand.number c) (inr ne) in omega (arith, was, now, same);
      pointers = ap (λ (y : PassState). set y.pointers id.key (Some (with_link pointer))) h.rest;
      quiet = record {
        looks = ap (λ (y : HandState Stamp Part Ground). y.looks) h.stamped.now;
        misses = ap (λ (y : HandState Stamp Part Ground). y.misses) h.stamped.now;
        tried = ap (λ (y : HandState Stamp Part Ground). y.tried) h.stamped.now;
      };
      lawful = let l = lawful_gave s' c₀ law turn_still in record { machine = l.machine; hand = l.hand; run = l.run };
    })
