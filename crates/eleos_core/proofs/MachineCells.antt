-- Entries on the machine's cells that leave them all, that change one page, or that change the links alone.
use Rattle.std.proofs.Common.{true, false, Bool, if◌then◌else◌, ◌≡◌, ℕ, ◌<◌, inl, inr, List, [], ◌∷◌, length, slice_index_or, slice_set, refl, sym, ◌∙◌, ap, subst, arith, zero, suc}
use Rattle.eleos_base.specs.declared.memory.Addr.{Addr}
use Rattle.eleos_base.specs.declared.plan.Plan.{Plan}
use Rattle.eleos_base.specs.Plans.{IsCaller}
use Rattle.eleos_base.specs.Ties.{Has}
use Rattle.eleos_core.specs.Applying.{Makes, parts_in}
use Rattle.eleos_core.specs.Cells.{Cells, links_in}
use Rattle.eleos_core.specs.Parts.{access_foot, MayStep, Part, Stamp, after_at, foot, frame_in, page_after, page_cell, part_after, subs_in}
use Rattle.eleos_base.specs.Places.{all_pages, page_of, sub_of}
use Rattle.eleos_core.specs.Seals.{Seals}
use Rattle.eleos_core.specs.State.{links_by}
use Rattle.eleos_core.proofs.Sets.{AreWhole, at_other, at_same, cell_of-page, set_page}
use Rattle.eleos_core.proofs.Spots.{in_range}

-- each item of a list is the one at its place
pub item_there : {A : Type 0} (xs : List A) (i : ℕ) → i < length xs → (x : A) × (x ≡ slice_index_or xs i x)
item_there [] i inside = absurd (omega arith)
item_there (x ∷ xs) zero inside = (x, refl)
item_there (x ∷ xs) (suc i) inside = item_there xs i (omega arith)

-- what becomes of the cell of a page
pub after_at-page : (k : Plan) (x : Seals) (d : Stamp) (before : ℕ → Part) (p : ℕ) → p < all_pages k
    → after_at k x d before (page_cell k p) ≡ page_after k x d p (frame_in (before (page_cell k p))) (subs_in (before (page_cell k p)))
after_at-page k x d before p inside = ap (λ cell. part_after k x d cell (before (page_cell k p))) (cell_of-page k p inside)

-- an entry that changes no part
pub makes-kept : (x : Seals) (d : Stamp) (old new : Cells) → new.plan ≡ old.plan → ((c : ℕ) → parts_in new c ≡ parts_in old c) → MayStep old.plan x d (parts_in old)
    → ((c : ℕ) → Has c (foot old.plan d) → parts_in old c ≡ after_at old.plan x d (parts_in old) c)
    → ((who p : ℕ) → IsCaller old.plan who → p < all_pages old.plan → links_in new who p ≡ links_by old.plan d.entry.who d.entry.event d.entry.reply who p (links_in old who p))
    → Makes x d old new
makes-kept x d old new plan kept may touched links = record {
  plan = plan;
  may = may;
  touched = λ c h. kept c ∙ touched c h;
  others = λ c h. kept c;
  links = links;
}

-- an entry that touches one page alone, and changes no link
pub makes-page : (x : Seals) (d : Stamp) (m : Cells) (p : ℕ) (q : Part) → AreWhole m → p < all_pages m.plan → foot m.plan d ≡ page_cell m.plan p ∷ [] → MayStep m.plan x d (parts_in m)
    → q ≡ page_after m.plan x d p (frame_in (parts_in m (page_cell m.plan p))) (subs_in (parts_in m (page_cell m.plan p)))
    → ((who p' : ℕ) → links_by m.plan d.entry.who d.entry.event d.entry.reply who p' (links_in m who p') ≡ links_in m who p')
    → Makes x d m (record m { pages = slice_set m.pages p q })
makes-page x d m p q whole inside foot_is may made links =
    let cell : ℕ = page_cell m.plan p in record {
      plan = refl;
      may = may;
      touched = λ c h. touched c (subst (Has c) foot_is h);
      others = λ c h. set_page m p q c whole inside ∙ at_other c cell q (parts_in m c) (λ same. h (subst (Has c) (sym foot_is) (inl same)));
      links = λ who p' caller small. sym (links who p');
    }
  where
    touched : (c : ℕ) → Has c (page_cell m.plan p ∷ []) → parts_in (record m { pages = slice_set m.pages p q }) c ≡ after_at m.plan x d (parts_in m) c
    touched c (inl same) = set_page m p q c whole inside ∙ (at_same c (page_cell m.plan p) q (parts_in m c) same
        ∙ (made ∙ (sym (after_at-page m.plan x d (parts_in m) p inside) ∙ ap (after_at m.plan x d (parts_in m)) (sym same))))
    touched c (inr none) = absurd none

-- the access touches the page of its address where it is in range, and nothing else
pub foot_is : (k : Plan) (who : ℕ) (at : Addr) (n : ℕ) → in_range k who at n ≡ true → access_foot k who at n ≡ page_cell k (page_of k (sub_of k at)) ∷ []
foot_is k who at n range = ap (λ v. if v then page_cell k (page_of k (sub_of k at)) ∷ [] else []) range

-- what holds of the page of an address in range, for each cell that the access touches
pub touched : (k : Plan) (x : Seals) (d : Stamp) (before : ℕ → Part) (who : ℕ) (at : Addr) (n : ℕ) → foot k d ≡ access_foot k who at n
    → (in_range k who at n ≡ true → page_of k (sub_of k at) < all_pages k)
    → (in_range k who at n ≡ true → before (page_cell k (page_of k (sub_of k at)))
    ≡ page_after k x d (page_of k (sub_of k at)) (frame_in (before (page_cell k (page_of k (sub_of k at))))) (subs_in (before (page_cell k (page_of k (sub_of k at))))))
    → (c : ℕ) → Has c (foot k d) → before c ≡ after_at k x d before c
touched k x d before who at n same inside kept c h = by_range (in_range k who at n) refl (subst (Has c) same h) where
  by_cell : in_range k who at n ≡ true → Has c (page_cell k (page_of k (sub_of k at)) ∷ []) → before c ≡ after_at k x d before c
  by_cell range (inl here) = subst (λ z. before z ≡ after_at k x d before z) (sym here) (kept range ∙ sym (after_at-page k x d before (page_of k (sub_of k at)) (inside range)))
  by_cell range (inr none) = absurd none

  by_range : (b : Bool) → in_range k who at n ≡ b → Has c (if b then page_cell k (page_of k (sub_of k at)) ∷ [] else []) → before c ≡ after_at k x d before c
  by_range true range has = by_cell range has
  by_range false range has = absurd has
