-- What is put where an input is refused.
use Rattle.std.proofs.Common.{◌≡◌, ◌⊎◌, inl, inr, ℕ, List, Option, Some, None, IfSome, Result, Err, sym, subst}
use Rattle.std.specs.Io.KnownBytes.{Keeps}
use Rattle.eleos_base.specs.declared.status.Status.{Status}
use Rattle.eleos_base.specs.declared.status.Status.TheVariants.{Refused, Memory}
use Rattle.eleos_texts.specs.declared.why.Bad.{Bad}
use Rattle.eleos_top.specs.Outcome.{PutsBy, PutsFront, IsRefusal, refused_text}

module _ {A : Type 0} (read : List ℕ → Result A Bad) (IsTextOf : A → List ℕ → Type 0) (bad : Bad) (old new : Option (List ℕ)) (before now : ℕ) where
  -- the line or a front of it, or nothing for want of memory
  pub PutsBy-refused : (status : Status) (left : Option (List ℕ)) → IfSome left (λ input. read input ≡ Err bad)
      → (status ≡ Refused → PutsFront (refused_text bad) old new before now) → (status ≡ Memory → Keeps old new) → (status ≡ Refused) ⊎ (status ≡ Memory)
      → PutsBy read IsTextOf status left old new before now
  PutsBy-refused status left is line keeps (inl same) = subst (λ s. PutsBy read IsTextOf s left old new before now) (sym same) (record { bad = bad; read_is = is; line = line same })
  PutsBy-refused status left is line keeps (inr same) = subst (λ s. PutsBy read IsTextOf s left old new before now) (sym same) (keeps same)
