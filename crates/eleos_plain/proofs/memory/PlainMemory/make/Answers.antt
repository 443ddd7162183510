use Rattle.std.proofs.Common.{◌≡◌, length, refl, sym, subst, ap, ◌∙◌, arith}
use Rattle.eleos_base.specs.declared.plan.Plan.{Plan}
use Rattle.eleos_base.specs.Plain.{memory_of, opening}
use Rattle.eleos_base.specs.Plans.{IsGood}
use Rattle.eleos_core.proofs.OpeningLists.{pushed_run}
use Rattle.eleos_plain.proofs.Opening.{length-opening, opening-by_enclave}
use Rattle.eleos_plain.proofs.memory.PlainMemory.make.Goals as goal

pub loop-enclave-preserved : goal.loop-enclave-preserved
loop-enclave-preserved c = pushed_run (memory_of (opening c.args.plan.now)) 0 c.loop-enclave.enclave c.loop-enclave.enclave c.loop-enclave.enclaves.items c.push.new.self.items c.in_ok-open_enclave.field-0 (omega arith)
    c.in_ok-push.ensures.items c.in_ok-open_enclave.ensures c.loop-enclave.invariant

pub invariant_of-result : goal.invariant_of-result
invariant_of-result c =
    let all : c.loop-enclave.enclave ≡ length c.args.plan.now.enclaves = omega arith in
    let same : c.in_ok-copy.field-0 ≡ c.args.plan.now = c.in_ok-copy.ensures in
    record {
      good = subst IsGood (sym same) c.requires.good;
      each = ap length (c.loop-enclave.invariant ∙ opening-by_enclave c.args.plan.now c.loop-enclave.enclave all) ∙ (length-opening c.args.plan.now ∙ ap (λ (plan : Plan). length plan.enclaves) (sym same));
    }

pub returns : goal.returns
returns c =
    let all : c.loop-enclave.enclave ≡ length c.args.plan.now.enclaves = omega arith in
    record { plan = c.in_ok-copy.ensures; opening = c.loop-enclave.invariant ∙ opening-by_enclave c.args.plan.now c.loop-enclave.enclave all }
