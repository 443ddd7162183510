-- The blocks of a page that are used by its part are those that are used by the history.
use Rattle.std.proofs.Common.{◌≡◌, ℕ, ◌*◌, List, [], ◌∷◌, filter, Bool, if◌then◌else◌, refl, ◌∙◌, subst, ap}
use Rattle.std.specs.List.{AllByRecursion}
use Rattle.eleos_base.specs.declared.plan.Plan.{Plan}
use Rattle.eleos_core.specs.Applying.{used}
use Rattle.eleos_core.specs.Legal.{passes}
use Rattle.eleos_core.specs.Parts.{passes_in, sealed_from}
use Rattle.eleos_base.specs.Places.{per_page, subs_of}
use Rattle.eleos_core.specs.Seals.{Seals}
use Rattle.eleos_core.specs.State.{History, is_sealed, page_places}
use Rattle.eleos_core.proofs.CellNumbers.{parts_of, sealed_are}
use Rattle.eleos_core.proofs.Numbers.{page_within}
use Rattle.eleos_core.proofs.OnParts.{each_filter, passes_same}

abbrev no_blocks : List (List ℕ)
no_blocks = []

-- tests that agree at the places use the same blocks
used_same : (f g : ℕ → List ℕ → Bool) (ps : List ℕ) (cs : List (List ℕ)) → AllByRecursion (λ s. (c : List ℕ) → f s c ≡ g s c) ps → used f ps cs ≡ used g ps cs
used_same f g [] cs h = refl
used_same f g (s ∷ ss) [] h = refl
used_same f g (s ∷ ss) (c ∷ cs) h = ap (λ v. c ∷ (if v then used f ss cs else no_blocks)) (h.0 c) ∙ ap (λ r. c ∷ (if g s c then r else no_blocks)) (used_same f g ss cs h.1)

module _ (k : Plan) (x : Seals) (past : History) where
  -- the blocks used for a whole page are the same by its part and after the history
  pub page_used : (p : ℕ) (given : List (List ℕ)) → used (passes_in k x (parts_of k x past p)) (sealed_from (p * per_page k) (parts_of k x past p)) given ≡ used (passes k x past) (page_places k past p) given
  page_used p given = ap (λ ps. used (passes_in k x (parts_of k x past p)) ps given) (sealed_are k x past (p * per_page k) (per_page k))
      ∙ used_same (passes_in k x (parts_of k x past p)) (passes k x past) (filter (is_sealed k past) (subs_of k p)) given
      (each_filter (λ s. (c : List ℕ) → passes_in k x (parts_of k x past p) s c ≡ passes k x past s c) (is_sealed k past) (p * per_page k) (per_page k)
      (λ s low high sealed c. subst (λ (q : ℕ). passes_in k x (parts_of k x past q) s c ≡ passes k x past s c) (page_within k p s low high) (passes_same k x past s sealed c)))
