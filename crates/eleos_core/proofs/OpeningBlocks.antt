-- The header blocks of an enclave, taken one after another.
use Rattle.std.proofs.Common.{◌≡◌, ℕ, ◌*◌, ◌<◌, ◌≤◌, ◌==◌, List, [], ◌∷◌, length, filter, fold, slice_index_or, Bool, Option, Some, None, if◌then◌else◌, refl, sym, ◌∙◌, ap, arith}
use Rattle.std.proofs.lemmas.List.{length-replicate}
use Rattle.eleos_base.specs.declared.memory.Live.{Live}
use Rattle.eleos_base.specs.declared.plan.BlockPlan.{BlockPlan}
use Rattle.eleos_base.specs.declared.plan.EnclavePlan.{EnclavePlan}
use Rattle.eleos_base.specs.declared.plan.Plan.{Plan}
use Rattle.eleos_base.specs.Plain.{EnclaveMemory, blank, lowest_run, opened_at, opening_of, subs_for, with_block, with_header_block, zeros}
use Rattle.eleos_base.specs.Plans.{subs_in}
use Rattle.eleos_core.specs.Cells.{sub_size, subs_per_page}
use Rattle.eleos_core.specs.Opening.{with_header}
use Rattle.eleos_core.specs.Order.{AreInOrder}
use Rattle.eleos_core.specs.State.{live}
use Rattle.eleos_core.proofs.InOrder.{in_order-with_block, lowest_run-is_free}
use Rattle.eleos_core.proofs.OpeningNumbers.{subs_made}
use Rattle.eleos_core.proofs.Ranges.{get_or-map_from}
use Rattle.eleos_core.proofs.Tests.{by_test}

-- an enclave's live blocks with a header block, where that is one of the enclave
abbrev pub with_own : ℕ → ℕ → List Live → BlockPlan → List Live
with_own subs enclave blocks block = if block.enclave == enclave then with_header subs block blocks else blocks

-- a block in the lowest free run goes in at its place in the order
pub placed_in_order : (subs len start owner : ℕ) (is_shared : Bool) (blocks : List Live) → 1 ≤ len → AreInOrder 0 subs blocks → lowest_run blocks subs len ≡ Some start
    → AreInOrder 0 subs (with_block (record { start = start; len = len; owner = owner; is_shared = is_shared }) blocks)
placed_in_order subs len start owner is_shared blocks some order found =
    in_order-with_block (record { start = start; len = len; owner = owner; is_shared = is_shared }) blocks 0 subs order (omega arith) some (lowest_run-is_free blocks subs len start found)

module _ (subs enclave : ℕ) where
  -- with a header block, whatever the bytes of the sub-pages are
  header_with : (texts : List (List ℕ)) (block : BlockPlan) (blocks : List Live) → length texts ≡ subs
      → with_header_block sub_size (record { blocks = blocks; texts = texts }) block ≡ record { blocks = with_header subs block blocks; texts = texts }
  header_with texts block blocks room = ap (λ n. opened_at sub_size block (record { blocks = blocks; texts = texts }) (lowest_run blocks n (subs_for sub_size block.bytes))) room ∙ at (lowest_run blocks subs (subs_for sub_size block.bytes))
    where
      at : (o : Option ℕ) → opened_at sub_size block (record { blocks = blocks; texts = texts }) o ≡ record { blocks = (opened_at sub_size block (record { blocks = blocks; texts = [] }) o).blocks; texts = texts }
      at None = refl
      at (Some start) = refl

  -- all of them
  all_with : (texts : List (List ℕ)) (bs : List BlockPlan) (blocks : List Live) → length texts ≡ subs
      → fold (with_header_block sub_size) (record { blocks = blocks; texts = texts }) (filter (λ (block : BlockPlan). block.enclave == enclave) bs) ≡ record { blocks = fold (with_own subs enclave) blocks bs; texts = texts }
  all_with texts [] blocks room = refl
  all_with texts (b ∷ bs) blocks room = by_test (b.enclave == enclave)
      (λ v. fold (with_header_block sub_size) (record { blocks = blocks; texts = texts }) (if v then b ∷ filter (λ (block : BlockPlan). block.enclave == enclave) bs else filter (λ (block : BlockPlan). block.enclave == enclave) bs)
      ≡ record { blocks = fold (with_own subs enclave) (if v then with_header subs b blocks else blocks) bs; texts = texts })
      (λ _. ap (λ (m : EnclaveMemory). fold (with_header_block sub_size) m (filter (λ (block : BlockPlan). block.enclave == enclave) bs)) (header_with texts b blocks room) ∙ all_with texts bs (with_header subs b blocks) room)
      (λ _. all_with texts bs blocks room)

-- the live blocks of an enclave before the first event
pub live_is : (k : Plan) (e : ℕ) (d : EnclavePlan) (made : List EnclavePlan) → made ≡ k.enclaves → e < length k.enclaves
    → fold (with_own ((slice_index_or made e d).pages * subs_per_page) e) [] k.blocks ≡ live k [] e
live_is k e d made same exists =
    let pages : ℕ = (slice_index_or k.enclaves e d).pages in
    let subs : ℕ = subs_in k e pages in
    let here : live k [] e ≡ (opening_of k e (slice_index_or k.enclaves e d)).blocks
    = ap (λ (m : EnclaveMemory). m.blocks) (get_or-map_from (opening_of k) 0 e e k.enclaves d (record { blocks = []; texts = [] }) exists (omega arith)) in
    let headers = ap (λ (m : EnclaveMemory). m.blocks) (all_with subs e (blank sub_size subs).texts k.blocks [] (length-replicate subs (zeros sub_size))) in
    sym (here ∙ (headers ∙ (ap (λ (n : ℕ). fold (with_own n e) [] k.blocks) (subs_made k e pages) ∙ ap (λ ms. fold (with_own ((slice_index_or ms e d).pages * subs_per_page) e) [] k.blocks) (sym same))))
