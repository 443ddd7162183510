use Rattle.std.proofs.Common.{◌≡◌, ℕ, ◌-◌, None, if◌then◌else◌}
use Rattle.std.specs.BTreeMap.{get}
use Rattle.std.specs.Ordering.{nat_cmp}
use Rattle.eleos_base.specs.Plain.{is_in_run}
use Rattle.eleos_plain.proofs.texts.forget.Given as goal

-- the keys so far are out
abbrev pub invariant-loop-sub : goal.invariant-loop-sub
invariant-loop-sub l = (s : ℕ) → get nat_cmp l.written s ≡ (if is_in_run l.start (l.sub-counter - l.start) s then None else get nat_cmp l.initial.written s)
