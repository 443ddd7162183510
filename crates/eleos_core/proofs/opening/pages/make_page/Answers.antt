use Rattle.std.proofs.Common.{◌+◌, refl, ◌∙◌, ap}
use Rattle.eleos_core.specs.Opening.{sub_among}
use Rattle.eleos_core.proofs.OpeningLists.{pushed_run}
use Rattle.eleos_core.proofs.opening.pages.make_page.Goals as goal

pub loop-i-preserved : goal.loop-i-preserved
loop-i-preserved c = pushed_run (sub_among c.args.cell.now) c.args.first c.loop-i.i (c.args.first + c.loop-i.i) c.loop-i.subs.items c.push.new.self.items c.make_sub.result refl
    c.in_ok-push.ensures.items (c.make_sub.ensures ∙ ap (λ bs. sub_among bs (c.args.first + c.loop-i.i)) (c.deref.ensures.value ∙ c.cell.view_is)) c.loop-i.invariant
