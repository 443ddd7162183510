-- What contracts see of a plain memory.
use Rattle.std.specs.Prelude.{◌≡◌, List, length}
use Rattle.eleos_base.specs.declared.plan.Plan.{Plan}
use Rattle.eleos_base.specs.Plain.{EnclaveMemory, Plain}
use Rattle.eleos_base.specs.Plans.{IsGood}

-- the plan that it was made of, and the memory as it stands
pub record Memory : Type 0 where
  pub plan : Plan
  pub plain : Plain

-- a good plan's memory, enclave by enclave
pub record IsMemory (plan : Plan) (plain : List EnclaveMemory) : Type 0 where
  pub good : IsGood plan
  pub each : length plain ≡ length plan.enclaves
