use Rattle.std.proofs.Common.{◌⊎◌, ⊎_elim, inl, inr, IsTrue, length, ◌<◌, sym, subst, arith}
use Rattle.eleos_base.specs.Places.{all_frames}
use Rattle.eleos_machine.specs.Machines.{plan_at}
use Rattle.eleos_machine.specs.Notes.{names}
use Rattle.eleos_machine.specs.Passes.{PassState}
use Rattle.eleos_machine.proofs.FewCells.{few_frames}
use Rattle.eleos_machine.proofs.machine.Machine.sweep_free.Goals as goal

pub add_free-requires : goal.add_free-requires
add_free-requires g c =
    let frames = few_frames (plan_at c.args.self.now) c.plan.ensures.made.made.good in
    subst (λ (s : PassState). IsTrue (names c.args.frame.now.frame s.sweep.words) ⊎ (length s.sweep.words < 512)) (sym c.pass.view_is)
    (⊎_elim (λ (is : IsTrue (names c.args.frame.now.frame c.args.pass.now.sweep.words)). inl is)
    (λ (few : length c.args.pass.now.sweep.words < all_frames (plan_at c.args.self.now)). inr (omega (arith, few, frames))) c.requires.room)
