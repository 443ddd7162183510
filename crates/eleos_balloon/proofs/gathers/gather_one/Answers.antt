use Rattle.std.proofs.Common.{◌≡◌, ◌<◌, ℕ, length, get_or, None, Some, sym, ◌∙◌, ap, subst}
use Rattle.eleos_base.specs.Places.{all_frames}
use Rattle.eleos_core.specs.Parts.{frame_cell}
use Rattle.eleos_turn.specs.Hands.{refused_at}
use Rattle.eleos_machine.specs.Machines.{Site, plan_at}
use Rattle.eleos_machine.specs.Passes.{TookTurn, plan_of}
use Rattle.eleos_machine.specs.Sweeping.{MaySweep, noted}
use Rattle.eleos_balloon.specs.Gathers.{GatheredOne}
use Rattle.eleos_balloon.specs.Moves.{HasMoved, MayMove}
use Rattle.eleos_balloon.proofs.Gathering.{found_busy, inside, may_move, may_try, went_over}
use Rattle.eleos_balloon.proofs.gathers.gather_one.Goals as goal

pub frame_cell-cell-requires : goal.frame_cell-cell-requires
frame_cell-cell-requires g c =
    let s = c.args.pass.now in
    let fe : c.at-frame.result ≡ get_or c.args.pool.now.clock (length s.sweep.words) 0 = c.at-frame.ensures ∙ ap (λ n. get_or c.args.pool.now.clock n 0) (ap length c.sweep.ensures) in
    subst (λ (y : Site × ℕ). y.1 < all_frames (plan_at y.0)) (λ i. (c.requires.own i, sym fe i)) (inside c.args.enclave c.args.clock.now c.args.pool.now s c.requires.holds c.left.ensures.lawful c.requires.more)

pub sweep_try-requires-clause-may : goal.sweep_try-requires-clause-may
sweep_try-requires-clause-may g c =
    let s = c.args.pass.now in
    let fe : c.at-frame.result ≡ get_or c.args.pool.now.clock (length s.sweep.words) 0 = c.at-frame.ensures ∙ ap (λ n. get_or c.args.pool.now.clock n 0) (ap length c.sweep.ensures) in
    let ce : c.frame_cell-cell.result ≡ frame_cell (plan_of s) (get_or c.args.pool.now.clock (length s.sweep.words) 0) = c.frame_cell-cell.ensures ∙ (λ i. frame_cell (plan_at (sym c.requires.own i)) (fe i)) in
    subst (λ (y : ℕ × ℕ). MaySweep s y.0 y.1) (λ i. (sym fe i, sym ce i)) (may_try c.args.enclave c.args.clock.now c.args.pool.now s c.requires.holds c.left.ensures.lawful c.requires.more)

pub returns-in_default : goal.returns-in_default
returns-in_default g c =
    let s = c.args.pass.now in let w = c.in_default.field-0.word in
    let fe : c.at-frame.result ≡ get_or c.args.pool.now.clock (length s.sweep.words) 0 = c.at-frame.ensures ∙ ap (λ n. get_or c.args.pool.now.clock n 0) (ap length c.sweep.ensures) in
    let ce : c.frame_cell-cell.result ≡ frame_cell (plan_of s) (get_or c.args.pool.now.clock (length s.sweep.words) 0) = c.frame_cell-cell.ensures ∙ (λ i. frame_cell (plan_at (sym c.requires.own i)) (fe i)) in
    found_busy c.args.enclave c.args.clock.now c.args.pool.now s c.requires.holds c.left.ensures.lawful c.requires.more w c.sweep_try.new.pass c.in_default.ensures.word
    (subst (λ (y : ℕ × ℕ). c.sweep_try.new.pass ≡ record (noted s y.0 y.1 w) { hand = refused_at s.hand y.1 w }) (λ i. (fe i, ce i)) c.in_default.ensures.refused)

pub move_frame-requires-clause-may : goal.move_frame-requires-clause-may
move_frame-requires-clause-may g c =
    let s = c.args.pass.now in let w = c.in-Ok.taken.word in
    let fe : c.at-frame.result ≡ get_or c.args.pool.now.clock (length s.sweep.words) 0 = c.at-frame.ensures ∙ ap (λ n. get_or c.args.pool.now.clock n 0) (ap length c.sweep.ensures) in
    let ce : c.frame_cell-cell.result ≡ frame_cell (plan_of s) (get_or c.args.pool.now.clock (length s.sweep.words) 0) = c.frame_cell-cell.ensures ∙ (λ i. frame_cell (plan_at (sym c.requires.own i)) (fe i)) in
    let took = subst (λ (y : ℕ × ℕ). TookTurn y.1 w (noted s y.0 y.1 w) c.in-Ok.taken.value c.sweep_try.new.pass) (λ i. (fe i, ce i)) c.in-Ok.ensures.took in
    subst (λ n. MayMove c.sweep_try.new.pass (record { frame = n; cell = c.in-Ok.taken.value }) None c.args.pool.now (Some c.args.enclave) c.args.clock.now) (sym fe)
    (may_move c.args.enclave c.args.clock.now c.args.pool.now s c.requires.holds c.left.ensures.lawful c.requires.more w c.in-Ok.taken.value c.sweep_try.new.pass c.in-Ok.ensures.word took c.sweep_try.ensures.lawful c.requires.left)

pub returns : goal.returns
returns g c =
    let s = c.args.pass.now in let w = c.in-Ok.taken.word in
    let fe : c.at-frame.result ≡ get_or c.args.pool.now.clock (length s.sweep.words) 0 = c.at-frame.ensures ∙ ap (λ n. get_or c.args.pool.now.clock n 0) (ap length c.sweep.ensures) in
    let ce : c.frame_cell-cell.result ≡ frame_cell (plan_of s) (get_or c.args.pool.now.clock (length s.sweep.words) 0) = c.frame_cell-cell.ensures ∙ (λ i. frame_cell (plan_at (sym c.requires.own i)) (fe i)) in
    let took = subst (λ (y : ℕ × ℕ). TookTurn y.1 w (noted s y.0 y.1 w) c.in-Ok.taken.value c.sweep_try.new.pass) (λ i. (fe i, ce i)) c.in-Ok.ensures.took in
    subst (λ n. GatheredOne s c.args.enclave c.args.clock.now c.args.pool.now (record { evicted = None; frame = n; stamp = c.last_stamp.result }) c.move_frame.new.pass c.move_frame.new.to_clock c.move_frame.new.from_clock) (sym fe)
    (went_over c.args.enclave c.args.clock.now c.args.pool.now s c.requires.holds c.left.ensures.lawful c.requires.more w c.in-Ok.taken.value c.sweep_try.new.pass c.in-Ok.ensures.word took c.sweep_try.ensures.lawful
    c.move_frame.new.pass c.move_frame.new.from_clock c.move_frame.new.to_clock (subst (λ n. HasMoved c.sweep_try.new.pass n None c.args.pool.now (Some c.args.enclave) c.args.clock.now c.move_frame.new.pass c.move_frame.new.from_clock c.move_frame.new.to_clock) fe c.move_frame.ensures)
    c.last_stamp.result c.last_stamp.ensures)
