-- The text that an access finds in a sub-page of an absent page, by how its block was judged.
use Rattle.std.proofs.Common.{◌≡◌, ℕ, List, [], ◌∷◌, length, true, false, Some, is_some, unwrap_or, if◌then◌else◌, replicate, slice_index_or, refl, sym, ◌∙◌, ap, subst, arith, nat_eq}
use Rattle.std.specs.Cmp.Lexicographic.{pointwise}
use Rattle.std.proofs.lemmas.Bool.{eq-eqb}
use Rattle.std.proofs.lemmas.List.{length-replicate}
use Rattle.std.proofs.lemmas.Slice.Eq.{bytes_eq-Decides}
use Rattle.eleos_base.specs.Plain.{zeros}
use Rattle.eleos_core.specs.declared.cells.sub_page.SubPage.{SubPage}
use Rattle.eleos_core.specs.Accesses.{AreBlocks, IsOpened, block_places}
use Rattle.eleos_core.specs.Cells.{part_with}
use Rattle.eleos_core.specs.Legal.{failed_last, judged, passed}
use Rattle.eleos_core.specs.Seals.{Seals}
use Rattle.eleos_core.specs.State.{block_for}
use Rattle.eleos_core.proofs.AccessParts.{no_blocks}

pub zeros-replicate : (n : ℕ) → replicate n 0 ≡ zeros n
unfolding zeros
zeros-replicate n = refl

-- a blank sub-page
pub opened-blank : (x : Seals) (s : ℕ) (u : SubPage) (blocks : List (List ℕ)) (text : List ℕ) → is_some u.tag ≡ false → AreBlocks (block_places s (part_with u [])) blocks → text ≡ replicate 1024 0
    → IsOpened x s (part_with u []) blocks text
opened-blank x s u blocks text blank are zero =
    let none : blocks ≡ [] = no_blocks blocks (subst (λ v. AreBlocks (if v then s ∷ [] else []) blocks) blank are) in record {
      judged_is = (λ i. judged (λ q block. pointwise nat_eq (x.tag q u.version block) (unwrap_or u.tag [])) (if blank i then s ∷ [] else []) (none i));
      text_is = zero ∙ (zeros-replicate 1024 ∙ sym (ap (λ v. if v then x.unseal s u.version (block_for (s ∷ []) blocks s) else zeros 1024) blank));
      size = ap length zero ∙ length-replicate {A = ℕ} 1024 0;
    }

one_block : (blocks : List (List ℕ)) (s : ℕ) (block : List ℕ) → AreBlocks (s ∷ []) blocks → block ≡ slice_index_or blocks 0 block → (blocks ≡ block ∷ []) × (length block ≡ 1024)
one_block [] s block are is = absurd (let count = are.count in omega arith)
one_block (c ∷ []) s block are is = (ap (λ z. z ∷ []) (sym is), ap length is ∙ are.each.0)
one_block (c ∷ c' ∷ cs) s block are is = absurd (let count = are.count in omega arith)

-- a sealed one whose block has the tag
pub opened-passed : (x : Seals) (s : ℕ) (u : SubPage) (blocks : List (List ℕ)) (block text : List ℕ) → is_some u.tag ≡ true → AreBlocks (block_places s (part_with u [])) blocks
    → block ≡ slice_index_or blocks 0 block → Some (x.tag s u.version block) ≡ u.tag → text ≡ x.unseal s u.version block → length text ≡ length block
    → IsOpened x s (part_with u []) blocks text
opened-passed x s u blocks block text sealed are is tagged unsealed size =
    let one = one_block blocks s block (subst (λ v. AreBlocks (if v then s ∷ [] else []) blocks) sealed are) is in
    let passes : pointwise nat_eq (x.tag s u.version block) (unwrap_or u.tag []) ≡ true
    = (bytes_eq-Decides (x.tag s u.version block) (unwrap_or u.tag [])).1 (ap (λ t. unwrap_or t []) tagged) in record {
      judged_is = (λ i. judged (λ q c. pointwise nat_eq (x.tag q u.version c) (unwrap_or u.tag [])) (if sealed i then s ∷ [] else []) (one.0 i))
          ∙ ap (λ v. if v then passed else failed_last s []) passes;
      text_is = unsealed ∙ sym ((λ i. if sealed i then x.unseal s u.version (block_for (s ∷ []) (one.0 i) s) else zeros 1024)
          ∙ ap (λ v. x.unseal s u.version (if v then block else [])) (eq-eqb s s refl));
      size = size ∙ one.1;
    }
