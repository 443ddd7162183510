use Rattle.std.proofs.Common.{◌≡◌, length, map, [], get_or, slice_index_or, sym, ◌∙◌, ap, arith}
use Rattle.std.specs.List.{range_with_len}
use Rattle.std.proofs.lemmas.List.FromFn.{get_or-map-range_with_len, length-map-range_with_len}
use Rattle.eleos_core.specs.Opening.{opening_page}
use Rattle.eleos_core.specs.State.{live}
use Rattle.eleos_core.proofs.OpeningPages.{enclave_more}
use Rattle.eleos_core.proofs.OpeningNumbers.{all_runs_pages, pages_at}
use Rattle.eleos_core.proofs.opening.pages.make_pages.Goals as goal

pub bounds-as_slice-enclave : goal.bounds-as_slice-enclave
bounds-as_slice-enclave c =
    let many : length c.args.cells.now ≡ length c.args.plan.now.enclaves = ap length c.requires.live ∙ length-map-range_with_len (live c.args.plan.now []) 0 (length c.args.plan.now.enclaves) in
    omega (arith, ap length c.as_slice.ensures)

pub loop-enclave-preserved : goal.loop-enclave-preserved
loop-enclave-preserved c =
    let k = c.args.plan.now in
    let e = c.loop-enclave.enclave in
    let count = (slice_index_or c.as_slice.result.now c.loop-enclave.enclave (record { pages = 0; frames = 0 })).pages in
    let many : length c.args.cells.now ≡ length c.args.plan.now.enclaves = ap length c.requires.live ∙ length-map-range_with_len (live c.args.plan.now []) 0 (length c.args.plan.now.enclaves) in
    let run = pages_at k c.as_slice.result.now c.as_slice.ensures e (record { pages = 0; frames = 0 }) (omega (arith, ap length c.as_slice.ensures)) in
    let here : c.index-cells-enclave.result ≡ live c.args.plan.now [] c.loop-enclave.enclave
    = c.index-cells-enclave.is ∙ (ap (λ cells. get_or cells e c.index-cells-enclave.result) c.requires.live ∙ get_or-map-range_with_len (live k []) 0 (length k.enclaves) e e c.index-cells-enclave.result (omega arith) (omega arith)) in
    record {
      parts = enclave_more k e c.loop-enclave.pages.items c.add_pages.new.pages.items c.index-cells-enclave.result count here run.is c.in_ok-add_pages.ensures.parts c.loop-enclave.invariant.parts
          ∙ ap (λ n. map (opening_page k) (range_with_len 0 n)) (sym run.next);
      each = c.in_ok-add_pages.ensures.each c.loop-enclave.invariant.each;
    }

pub returns-clause-parts : goal.returns-clause-parts
returns-clause-parts c =
    let k = c.args.plan.now in
    let many : length c.args.cells.now ≡ length c.args.plan.now.enclaves = ap length c.requires.live ∙ length-map-range_with_len (live c.args.plan.now []) 0 (length c.args.plan.now.enclaves) in
    c.loop-enclave.invariant.parts ∙ ap (λ n. map (opening_page k) (range_with_len 0 n)) (all_runs_pages k c.loop-enclave.enclave (omega arith))
