-- A link that is judged on the page in hand.
use Rattle.std.proofs.Common.{◌≡◌, inl, ⊎_elim, ℕ, [], ◌∷◌, ◌==◌, ◌||◌, List, Bool, true, false, Option, Some, None, refl, sym, ◌∙◌, ap, subst, if◌then◌else◌}
use Rattle.eleos_base.specs.declared.memory.Addr.{Addr}
use Rattle.eleos_base.specs.declared.memory.Live.{Live}
use Rattle.eleos_base.specs.declared.memory.Reply.{Reply}
use Rattle.eleos_base.specs.declared.memory.Reply.TheVariants.{NotYours as IsOwned}
use Rattle.eleos_base.specs.declared.plan.Plan.{Plan}
use Rattle.eleos_base.specs.declared.refusals.AccessRefused.{AccessRefused}
use Rattle.eleos_base.specs.declared.refusals.AccessRefused.TheVariants as accesses
use Rattle.eleos_base.specs.Answers.{access_refusal_reply}
use Rattle.eleos_base.specs.Plain.{use_refusal}
use Rattle.eleos_base.specs.Ties.{Has}
use Rattle.eleos_core.specs.declared.cells.page.Page.{Page as Pages}
use Rattle.eleos_core.specs.Accesses.{link_stamp, page_at}
use Rattle.eleos_core.specs.Cells.{part_of_page}
use Rattle.eleos_core.specs.Parts.{Stamp, block_at, foot, page_cell, part_after, refusal_in, the_page}
use Rattle.eleos_core.proofs.AccessParts.{link-kept, refused_by}
use Rattle.eleos_core.specs.declared.event.Event.TheVariants.{Link}
use Rattle.eleos_plot.specs.declared.cell.Cell.{Cell}
use Rattle.eleos_plot.specs.declared.cell.Cell.TheVariants.{Page}
use Rattle.eleos_plot.specs.Fits.{IsPageCell}
use Rattle.eleos_plot.specs.Terms.{tie_of}
use Rattle.eleos_base.specs.Ties.{neither}
use Rattle.eleos_turn.specs.Numbers.{less_one}
use Rattle.eleos_machine.specs.declared.holding.HeldPage.{HeldPage}
use Rattle.eleos_machine.specs.Holding.{HasPage}
use Rattle.eleos_machine.specs.Machines.{Site, plan_at}
use Rattle.eleos_machine.specs.Passes.{IsLawful, PassState, gave, part_seen, plan_of, seals_of}
use Rattle.eleos_machine.specs.Stamping.{HasStamped, MayStamp}
use Rattle.eleos_pages.specs.Entered.{Enters}
use Rattle.eleos_pages.proofs.Ending.{entered, entered_gave, lawful_gave, turn_stays}
use Rattle.eleos_pages.proofs.HeldCells.{has_page, page_becomes, page_part_seen}
use Rattle.eleos_pages.proofs.OnPages.{same_hand}
use Rattle.eleos_spointer.specs.declared.refusing.LinkRefused.{LinkRefused}
use Rattle.eleos_spointer.specs.declared.refusing.LinkRefused.TheVariants.{NoFrame, NotYours, Tampered, Unallocated}
use Rattle.eleos_spointer.specs.Brought.{cell_of_held}
use Rattle.eleos_spointer.specs.Judged.{MayJudge, Refuses}
use Rattle.eleos_spointer.specs.Refused.{IsOfUse, IsPlain, refusal_reply}
use Rattle.eleos_spointer.proofs.Starving.{less_first}

-- where the use of a sub-page is refused, it is by its block
pub of_use : (who : ℕ) (block : Option Live) (r : AccessRefused) → Some (access_refusal_reply r) ≡ use_refusal who block → IsOfUse r
of_use who block accesses.Unallocated is = tt
of_use who block (accesses.NotYours owner) is = tt
of_use who None accesses.BadRange is = cc
of_use who None (accesses.Worn sub) is = cc
of_use who None (accesses.Tampered sub) is = cc
of_use who (Some block) accesses.BadRange is = by_test (block.is_shared || block.owner == who) is where
  by_test : (b : Bool) → Some (access_refusal_reply accesses.BadRange) ≡ (if b then None else Some (IsOwned block.owner)) → ⊥
  by_test true is = cc
  by_test false is = cc
of_use who (Some block) (accesses.Worn sub) is = by_test (block.is_shared || block.owner == who) is where
  by_test : (b : Bool) → Some (access_refusal_reply (accesses.Worn sub)) ≡ (if b then None else Some (IsOwned block.owner)) → ⊥
  by_test true is = cc
  by_test false is = cc
of_use who (Some block) (accesses.Tampered sub) is = by_test (block.is_shared || block.owner == who) is where
  by_test : (b : Bool) → Some (access_refusal_reply (accesses.Tampered sub)) ≡ (if b then None else Some (IsOwned block.owner)) → ⊥
  by_test true is = cc
  by_test false is = cc

-- a refused link ties nothing
no_tie : (k : Plan) (at : Addr) (r : LinkRefused) → IsPlain r → tie_of k (Link at) (refusal_reply r) ≡ neither
no_tie k at Unallocated plain = refl
no_tie k at (NotYours owner) plain = refl
no_tie k at NoFrame plain = absurd plain
no_tie k at (Tampered sub) plain = absurd plain

module _ (z : Site) (s : PassState) (at : Addr) (page : HeldPage) (may : MayJudge z s at page) (refused : LinkRefused) (plain : IsPlain refused)
    (refusal : refusal_in (plan_of s) s.hand.number at 1 (block_at (plan_of s) (part_seen s (cell_of_held s page)) at) ≡ Some (refusal_reply refused)) where
  abbrev k : Plan
  k = plan_of s

  abbrev cell : ℕ
  cell = cell_of_held s page

  abbrev d : Stamp
  d = link_stamp s.hand.number at (refusal_reply refused)

  abbrev pub drafted : PassState
  drafted = record s { draft = d }

  foot_is : foot k d ≡ cell ∷ []
  foot_is = ap (λ (b : Bool). if b then page_cell k (page_at k at) ∷ [] else []) may.range ∙ ap (λ (p : ℕ). page_cell k p ∷ []) (sym may.page_is)

  -- the refusal may be stamped
  pub may_stamp : (s₁ : PassState) → s₁ ≡ drafted → MayStamp s₁
  may_stamp s₁ is = subst MayStamp (sym is) (record {
    own = refl;
    left = may.left;
    turns = λ c touched. only c (subst (Has c) foot_is touched);
    legal = record {
      within = may.caller;
      on_parts = refused_by (refusal_in k s.hand.number at 1 (block_at k (part_seen s (page_cell k (page_at k at))) at)) (refusal_reply refused) _ _
          (subst (λ (p : ℕ). refusal_in k s.hand.number at 1 (block_at k (part_seen s (page_cell k p)) at) ≡ Some (refusal_reply refused)) may.page_is refusal) (record { reply_is = refl; no_block = refl });
    };
    sweep = tt;
    bare = λ c bare. absurd bare;
    covered = λ c adding. let none = sym (no_tie k at refused plain) ∙ adding in cc;
    there = λ c taking. let none = sym (no_tie k at refused plain) ∙ taking in cc;
  }) where
    only : (c : ℕ) → Has c (cell ∷ []) → Has c s.hand.turns
    only c one = ⊎_elim (λ (e : c ≡ cell). subst (λ x. Has x s.hand.turns) (sym e) may.has.turn) (λ (none : ⊥). absurd none) one

  module _ (n : ℕ) (s' : PassState) (h : HasStamped drafted n s') (law : IsLawful s') where
    same : part_seen s' cell ≡ part_seen s cell
    same = by_cell page.cell refl where
      by_page : (held : Pages) → page.cell ≡ Page held → part_seen s' cell ≡ part_seen s cell
      by_page held is =
          let q : part_of_page held ≡ part_seen s cell = page_part_seen s page.page page.cell held may.has is in
          page_becomes drafted s' n h page.page may.has.number (subst (Has cell) (sym foot_is) (inl refl))
          ∙ (ap (part_after k (seals_of s) d (the_page page.page)) (sym q) ∙ (sym (link-kept k (seals_of s) s.hand.number at held (refusal_reply refused) page.page) ∙ q))

      by_cell : (y : Cell) → page.cell ≡ y → part_seen s' cell ≡ part_seen s cell
      by_cell (Page held) is = by_page held is
      by_cell y is = absurd (subst (IsPageCell k) is may.has.fits)

    -- the page is in hand still
    pub page_held : HasPage s' page.page page.cell
    page_held = has_page s' law page.cell k page.page (ap plan_at h.goes.home) may.has.number (turn_stays drafted s' n cell h may.has.turn) (may.has.value ∙ sym same)

    abbrev enters : Enters s d s.hand.turns s'
    enters = same_hand s d d s.hand.turns s' (entered drafted s' n (no_tie k at refused plain) h)

    -- it was refused
    pub refuses : (s'' : PassState) → s'' ≡ gave s' (cell_of_held s' page) → Refuses s at refused s''
    refuses s'' is = subst (Refuses s at refused) (sym (is ∙ ap (λ (y : Site). gave s' (page_cell (plan_at y) page.page)) h.goes.home)) (record {
      plain = plain;
      entered = subst (λ (held : List ℕ). Enters s d held (gave s' cell)) (ap (less_one cell) may.turns ∙ less_first cell []) (entered_gave s s' d s.hand.turns cell enters);
      lawful = lawful_gave s' cell law (turn_stays drafted s' n cell h may.has.turn);
    })

-- why a link is refused, by what the pass has seen of the page in hand
pub refusal_is : (z : Site) (s : PassState) (at : Addr) (page : HeldPage) → MayJudge z s at page → (k : Plan) (who : ℕ) (held : Pages) (r : Option Reply) → k ≡ plan_of s → who ≡ s.hand.number → page.cell ≡ Page held
    → r ≡ refusal_in k who at 1 (block_at k (part_of_page held) at) → refusal_in (plan_of s) s.hand.number at 1 (block_at (plan_of s) (part_seen s (cell_of_held s page)) at) ≡ r
refusal_is z s at page may k who held r k_is who_is is r_is =
    sym (r_is ∙ (λ i. refusal_in (k_is i) (who_is i) at 1 (block_at (k_is i) (page_part_seen s page.page page.cell held may.has is i) at)))
