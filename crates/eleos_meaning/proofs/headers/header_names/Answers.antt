use Rattle.eleos_meaning.specs.NameTable.{names_in}
use Rattle.std.proofs.Common.{◌≡◌, ◌<◌, ◌≤◌, ◌-◌, [], List, ◌∙◌, ap, arith, get_or, length}
use Rattle.std.proofs.lemmas.List.{get_or_default}
use Rattle.eleos_base.specs.declared.plan.BlockPlan.{BlockPlan}
use Rattle.eleos_base.specs.declared.plan.EnclavePlan.{EnclavePlan}
use Rattle.eleos_base.specs.Plain.{subs_for}
use Rattle.eleos_base.specs.Plans.{IsGoodBlock}
use Rattle.eleos_core.proofs.ByPlace.{all_at}
use Rattle.eleos_meaning.proofs.HeaderBlocks.{Stands-away, Stands-full, Stands-more, all_of, no_enclave}
use Rattle.eleos_meaning.proofs.headers.header_names.Goals as goal
use Rattle.eleos_meaning.proofs.headers.header_names.Goals.{then-block-home+then-len-subs+in_ok-add, else-block-home, else-block-home-via-then-block-home+else-len-subs, else-block-home-via-else-block-home}

pub loop-i-preserved : goal.loop-i-preserved
loop-i-preserved c =
    let none : BlockPlan = record { enclave = 0; bytes = 0; owner = 0 } in
    let block : BlockPlan = get_or c.as_slice-block-items.result.now c.loop-i.i none in
    let at : block ≡ get_or c.args.trace.now.plan.blocks c.loop-i.i none = ap (λ bs. get_or bs c.loop-i.i none) c.as_slice-block-items.ensures in
    let more : c.loop-i.i < length c.args.trace.now.plan.blocks = rw c.as_slice-block-items.ensures at c.loop-i-test.true in
    let good = all_at (IsGoodBlock c.args.trace.now.plan) c.args.trace.now.plan.blocks c.loop-i.i none c.requires.good.blocks more in
    let some : 1 ≤ block.bytes = rw at good.some_bytes in
    let named : c.loop-i.i < length c.args.trace.now.names = omega (arith, more, c.requires.names) in
    let subs : (get_or c.as_slice.result.now c.args.home no_enclave).pages ≡ (get_or c.args.trace.now.plan.enclaves c.args.home no_enclave).pages = ap (λ (made : List EnclavePlan). (get_or made c.args.home no_enclave).pages) c.as_slice.ensures in
    elim c.if-block-home.branch [
      | then-block-home+then-len-subs+in_ok-add w ↦
          let name : w.as_slice-then-len-subs.result.now ≡ get_or c.args.trace.now.names c.loop-i.i [] = w.as_slice-then-len-subs.ensures ∙ (w.index-texts-i.is ∙ (ap (λ texts. get_or texts c.loop-i.i w.index-texts-i.result) c.as_slice-texts.ensures ∙ get_or_default c.args.trace.now.names c.loop-i.i w.index-texts-i.result [] named)) in
          let fits : subs_for 1024 block.bytes ≤ all_of c.args.trace.now.plan c.args.home - c.loop-i.start = omega (arith, c.div_ceil-len.ensures, subs, w.if-len-subs.true) in
          rw (w.start-is, w.names-is, w.in_ok-add.ensures, c.div_ceil-len.ensures, name)
          (Stands-more c.args.trace.now.plan c.args.home c.requires.home c.args.trace.now.names c.loop-i.i c.loop-i.start (names_in c.loop-i.names) block none at more c.requires.names some c.loop-i.invariant w.if-block-home.true fits)
      | else-block-home w ↦ elim w.else-block-home.branch [
        | else-block-home-via-then-block-home+else-len-subs w' ↦
            let narrow : all_of c.args.trace.now.plan c.args.home - c.loop-i.start < subs_for 1024 block.bytes = omega (arith, c.div_ceil-len.ensures, subs, w'.if-len-subs.false) in
            rw (w.start-is, w.names-is)
            (Stands-full c.args.trace.now.plan c.args.home c.requires.home c.args.trace.now.names c.loop-i.i c.loop-i.start (names_in c.loop-i.names) block none at more c.requires.names some c.loop-i.invariant w'.if-block-home.true narrow)
        | else-block-home-via-else-block-home w' ↦
            rw (w.start-is, w.names-is)
            (Stands-away c.args.trace.now.plan c.args.home c.requires.home c.args.trace.now.names c.loop-i.i c.loop-i.start (names_in c.loop-i.names) block none at more c.requires.names some c.loop-i.invariant w'.if-block-home.false)
      ]
    ]
