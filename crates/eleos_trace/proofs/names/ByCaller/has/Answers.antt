use Rattle.std.proofs.Common.{◌≡◌, ℕ, ◌≤◌, Bool, false, nat_lt, ap, sym, ◌∙◌, arith, ◌-◌}
use Rattle.std.proofs.lemmas.Bool.Decides.{nat_tests}
use Rattle.std.proofs.lemmas.List.{get_or_past}
use Rattle.std.specs.FinSet as set
use Rattle.std.specs.Ordering.{nat_cmp}
use Rattle.std.specs.Cmp.Lexicographic.{slice_cmp}
use Rattle.eleos_trace.proofs.names.ByCaller.has.Goals as goal

le_of : (a b : ℕ) → ◌≡◌ {A = Bool} false (nat_lt a b) → b ≤ a
le_of a b test = grind (arith, nat_tests)

pub returns-in-None : goal.returns-in-None
returns-in-None c =
    let past = rw (c.place_of.ensures, c.deref.ensures.value, c.self.view_is) at (le_of _ _ c.in-None.ensures.lookup.0) in
    sym (ap (λ names. set.contains names c.args.name.now) (get_or_past c.args.self.now (c.args.caller - 1) set.empty past) ∙ set.contains-empty (slice_cmp nat_cmp) c.args.name.now)
