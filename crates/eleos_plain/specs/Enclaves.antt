-- What one enclave's memory answers.
use Rattle.std.specs.Prelude.{◌≡◌, ℕ, ◌≤◌, List, length}
use Rattle.eleos_base.specs.declared.memory.Live.{Live}
use Rattle.eleos_base.specs.declared.memory.Op.{Op}
use Rattle.eleos_base.specs.declared.memory.Reply.{Reply}
use Rattle.eleos_base.specs.Plain.{EnclaveMemory, answer, memory_after}
use Rattle.eleos_core.specs.Order.{AreInOrder}

-- the blocks lie in order among the sub-pages, of which there are no more than an enclave may have
pub record IsEnclave (blocks : List Live) (texts : List (List ℕ)) : Type 0 where
  pub in_order : AreInOrder 0 (length texts) blocks
  pub small : length texts ≤ 4096

-- the call gets plain memory's answer, and the memory is changed as that answer says
pub record Gives (enclave who : ℕ) (op : Op) (old : EnclaveMemory) (reply : Reply) (new : EnclaveMemory) : Type 0 where
  pub reply_is : reply ≡ answer 1024 enclave old who op
  pub after : new ≡ memory_after 1024 enclave who op reply old
