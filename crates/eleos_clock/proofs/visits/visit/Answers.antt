use Rattle.std.proofs.Common.{ℕ, ◌<◌, length, refl, sym, ◌∙◌, ap, subst}
use Rattle.eleos_core.specs.Parts.{frame_cell}
use Rattle.eleos_base.specs.Places.{all_frames}
use Rattle.eleos_machine.specs.Machines.{Site, plan_at}
use Rattle.eleos_machine.specs.Notes.{is_noted_free}
use Rattle.eleos_machine.specs.Passes.{TookTurn}
use Rattle.eleos_machine.specs.Sweeping.{MaySweep, noted}
use Rattle.eleos_clock.proofs.Visiting.{looks, may_try, seen_free, seen_page}
use Rattle.eleos_clock.proofs.visits.visit.Goals as goal

pub sweep_try-requires-clause-may : goal.sweep_try-requires-clause-may
sweep_try-requires-clause-may g c =
    let s = c.args.pass.now in let home = c.requires.may.look.own in
    let lt = subst (λ (y : Site). c.args.frame < all_frames (plan_at y)) (sym home) c.requires.frame in
    let unnoted = sym (c.is_noted_free.ensures ∙ ap (is_noted_free c.args.frame) c.sweep.ensures) ∙ c.if-is_noted_free.false in
    let room = subst (λ (y : Site). length s.sweep.words < all_frames (plan_at y)) (sym home) (c.requires.room unnoted) in
    let e = c.frame_cell-cell.ensures ∙ ap (λ (y : Site). frame_cell (plan_at y) c.args.frame) (sym home) in
    subst (MaySweep s c.args.frame) (sym e) (may_try c.args.m.now s c.args.clock.now c.args.frame c.requires.may c.left.ensures.lawful lt unnoted room)

pub visit_page-requires-clause-look : goal.visit_page-requires-clause-look
visit_page-requires-clause-look g c =
    let s = c.args.pass.now in let home = c.requires.may.look.own in
    let lt = subst (λ (y : Site). c.args.frame < all_frames (plan_at y)) (sym home) c.requires.frame in
    let unnoted = sym (c.is_noted_free.ensures ∙ ap (is_noted_free c.args.frame) c.sweep.ensures) ∙ c.if-is_noted_free.false in
    let e = c.frame_cell-cell.ensures ∙ ap (λ (y : Site). frame_cell (plan_at y) c.args.frame) (sym home) in
    let took = subst (λ (n : ℕ). TookTurn n c.in-Ok.taken.word (noted s c.args.frame n c.in-Ok.taken.word) c.in-Ok.taken.value c.sweep_try.new.pass) e c.in-Ok.ensures.took in
    looks c.args.m.now s c.args.clock.now c.args.frame c.requires.may c.left.ensures.lawful lt unnoted c.in-Ok.taken.word c.in-Ok.taken.value c.sweep_try.new.pass c.in-Ok.ensures.word took c.sweep_try.ensures.lawful

pub visit_free-requires-clause-look : goal.visit_free-requires-clause-look
visit_free-requires-clause-look g c =
    let s = c.args.pass.now in let home = c.requires.may.look.own in
    let lt = subst (λ (y : Site). c.args.frame < all_frames (plan_at y)) (sym home) c.requires.frame in
    let unnoted = sym (c.is_noted_free.ensures ∙ ap (is_noted_free c.args.frame) c.sweep.ensures) ∙ c.if-is_noted_free.false in
    let e = c.frame_cell-cell.ensures ∙ ap (λ (y : Site). frame_cell (plan_at y) c.args.frame) (sym home) in
    let took = subst (λ (n : ℕ). TookTurn n c.in-Ok.taken.word (noted s c.args.frame n c.in-Ok.taken.word) c.in-Ok.taken.value c.sweep_try.new.pass) e c.in-Ok.ensures.took in
    looks c.args.m.now s c.args.clock.now c.args.frame c.requires.may c.left.ensures.lawful lt unnoted c.in-Ok.taken.word c.in-Ok.taken.value c.sweep_try.new.pass c.in-Ok.ensures.word took c.sweep_try.ensures.lawful

pub returns-in-Lent : goal.returns-in-Lent
returns-in-Lent g c =
    let s = c.args.pass.now in let home = c.requires.may.look.own in
    let lt = subst (λ (y : Site). c.args.frame < all_frames (plan_at y)) (sym home) c.requires.frame in
    let unnoted = sym (c.is_noted_free.ensures ∙ ap (is_noted_free c.args.frame) c.sweep.ensures) ∙ c.if-is_noted_free.false in
    let e = c.frame_cell-cell.ensures ∙ ap (λ (y : Site). frame_cell (plan_at y) c.args.frame) (sym home) in
    let took = subst (λ (n : ℕ). TookTurn n c.in-Ok.taken.word (noted s c.args.frame n c.in-Ok.taken.word) c.in-Ok.taken.value c.sweep_try.new.pass) e c.in-Ok.ensures.took in
    seen_page c.args.m.now s c.args.clock.now c.args.frame c.requires.may c.left.ensures.lawful lt unnoted c.in-Ok.taken.word c.in-Ok.taken.value c.sweep_try.new.pass c.in-Ok.ensures.word took c.sweep_try.ensures.lawful c.args.free c.args.all c.visit_page.result c.visit_page.new.pass c.visit_page.ensures

pub returns-in-Free : goal.returns-in-Free
returns-in-Free g c =
    let s = c.args.pass.now in let home = c.requires.may.look.own in
    let lt = subst (λ (y : Site). c.args.frame < all_frames (plan_at y)) (sym home) c.requires.frame in
    let unnoted = sym (c.is_noted_free.ensures ∙ ap (is_noted_free c.args.frame) c.sweep.ensures) ∙ c.if-is_noted_free.false in
    let e = c.frame_cell-cell.ensures ∙ ap (λ (y : Site). frame_cell (plan_at y) c.args.frame) (sym home) in
    let took = subst (λ (n : ℕ). TookTurn n c.in-Ok.taken.word (noted s c.args.frame n c.in-Ok.taken.word) c.in-Ok.taken.value c.sweep_try.new.pass) e c.in-Ok.ensures.took in
    seen_free c.args.m.now s c.args.clock.now c.args.frame c.requires.may c.left.ensures.lawful lt unnoted c.in-Ok.taken.word c.in-Ok.taken.value c.sweep_try.new.pass c.in-Ok.ensures.word took c.sweep_try.ensures.lawful _ c.args.free c.args.all c.visit_free.result c.visit_free.new.pass refl c.visit_free.ensures
