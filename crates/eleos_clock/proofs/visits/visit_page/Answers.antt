use Rattle.std.proofs.Common.{◌≡◌, ◌≢◌, ◌≤◌, ⊎_elim, ℕ, ◌%◌, ◌<◌, ◌||◌, Bool, true, false, nat_lt, length, refl, sym, ◌∙◌, ap, subst, arith}
use Rattle.std.proofs.lemmas.Bool.{cases_lt, eq-eqb, or_right}
use Rattle.std.proofs.lemmas.Bool.Decides.{nat_tests}
use Rattle.eleos_base.specs.declared.plan.Plan.{Plan}
use Rattle.eleos_core.specs.Parts.{frame_cell, page_cell}
use Rattle.eleos_base.specs.Places.{all_frames, all_pages}
use Rattle.eleos_base.specs.Words.{is_busy, is_taken, pins_in}
use Rattle.eleos_machine.specs.Machines.{Site, plan_at}
use Rattle.eleos_plot.specs.Cells.{part_of_cell}
use Rattle.eleos_machine.specs.Passes.{PassState, gave, part_seen}
use Rattle.eleos_machine.specs.Sweeping.{MaySweep}
use Rattle.eleos_clock.proofs.Pages.{found_sole, found_words, frame_right, may_sweep, may_try, passed_busy, passed_marked, passed_pinned, passed_taken}
use Rattle.eleos_clock.proofs.visits.visit_page.Goals as goal

taken_busy : (word : ℕ) → word % 2 ≡ 1 → is_taken word ≡ true
taken_busy word busy = ap (λ b. b || nat_lt 0 (pins_in word)) (eq-eqb (word % 2) 1 busy)

taken_pinned : (word : ℕ) → 0 < pins_in word → is_taken word ≡ true
taken_pinned word some = or_right (is_busy word) (nat_lt 0 (pins_in word)) (grind (arith, nat_tests))

some_pins : (n bits word : ℕ) → n ≡ pins_in bits → bits ≡ word → n ≢ 0 → 0 < pins_in word
some_pins n bits word is same some = above (pins_in word) (λ none. some (is ∙ ap pins_in same ∙ none)) where
  above : (m : ℕ) → m ≢ 0 → 0 < m
  above m ne = ⊎_elim (λ (l : 0 < m). l) (λ (l : m ≤ 0). absurd (ne (omega (arith, l)))) (cases_lt 0 m)

same_taken : (b : Bool) (bits word : ℕ) → b ≡ is_taken bits → bits ≡ word → (v : Bool) → b ≡ v → is_taken word ≡ v
same_taken b bits word is same v at = ap is_taken (sym same) ∙ (sym is ∙ at)

pub sweep_look-requires-clause-may : goal.sweep_look-requires-clause-may
sweep_look-requires-clause-may g c =
    let s = c.args.pass.now in let home = c.requires.look.own in
    let lt = subst (λ (y : Site). c.args.page < all_pages (plan_at y)) (sym home) c.requires.page in
    let room = subst (λ (y : Site). length s.sweep.words < all_frames (plan_at y)) (sym home) c.requires.room in
    let e = c.page_cell-cell.ensures ∙ ap (λ (k : Plan). page_cell k c.args.page) (c.plan.ensures.plan ∙ sym (ap plan_at home)) in
    subst (MaySweep s c.args.frame) (sym e) (may_sweep c.args.m.now s c.args.frame c.args.page c.args.held c.requires.look c.left.ensures.lawful c.requires.has c.requires.holds lt s.sweep.words s.hand room)

pub returns-then-is_taken : goal.returns-then-is_taken
returns-then-is_taken g c =
    let s = c.args.pass.now in let home = c.requires.look.own in
    let lt = subst (λ (y : Site). c.args.page < all_pages (plan_at y)) (sym home) c.requires.page in
    let e = c.page_cell-cell.ensures ∙ ap (λ (k : Plan). page_cell k c.args.page) (c.plan.ensures.plan ∙ sym (ap plan_at home)) in
    let e' = c.frame_cell-frame_cell.ensures ∙ ap (λ (y : Site). frame_cell (plan_at y) c.args.frame) (sym home) in
    passed_taken c.args.m.now s c.args.frame c.args.page c.args.held c.requires.look c.left.ensures.lawful c.requires.has c.requires.holds lt c.args.all
    c.page_cell-cell.result c.frame_cell-frame_cell.result c.sweep_look.result c.sweep_look.new.pass e e' c.requires.unnoted c.sweep_look.ensures.noted (same_taken c.is_taken.result c.new-word.result.bits c.sweep_look.result c.is_taken.ensures c.new-word.ensures true c.if-is_taken.true) _ c.give.ensures

pub returns-then-is_referenced : goal.returns-then-is_referenced
returns-then-is_referenced g c =
    let s = c.args.pass.now in let home = c.requires.look.own in
    let lt = subst (λ (y : Site). c.args.page < all_pages (plan_at y)) (sym home) c.requires.page in
    let e = c.page_cell-cell.ensures ∙ ap (λ (k : Plan). page_cell k c.args.page) (c.plan.ensures.plan ∙ sym (ap plan_at home)) in
    let e' = c.frame_cell-frame_cell.ensures ∙ ap (λ (y : Site). frame_cell (plan_at y) c.args.frame) (sym home) in
    passed_marked c.args.m.now s c.args.frame c.args.page c.args.held c.requires.look c.left.ensures.lawful c.requires.has c.requires.holds lt c.args.all
    c.page_cell-cell.result c.frame_cell-frame_cell.result c.sweep_look.result c.sweep_look.new.pass e e' c.requires.unnoted c.sweep_look.ensures.noted (same_taken c.is_taken.result c.new-word.result.bits c.sweep_look.result c.is_taken.ensures c.new-word.ensures false c.if-is_taken.false) c.if-not-all.true _ (c.give-then-is_referenced.ensures ∙ ap (λ (y : PassState). gave y c.frame_cell-frame_cell.result) c.unref.ensures)

pub sweep_try-requires-clause-may : goal.sweep_try-requires-clause-may
sweep_try-requires-clause-may g c =
    let s = c.args.pass.now in let home = c.requires.look.own in
    let lt = subst (λ (y : Site). c.args.page < all_pages (plan_at y)) (sym home) c.requires.page in
    let e = c.page_cell-cell.ensures ∙ ap (λ (k : Plan). page_cell k c.args.page) (c.plan.ensures.plan ∙ sym (ap plan_at home)) in
    let e' = c.frame_cell-frame_cell.ensures ∙ ap (λ (y : Site). frame_cell (plan_at y) c.args.frame) (sym home) in
    let room = subst (λ (y : Site). length s.sweep.words < all_frames (plan_at y)) (sym home) c.requires.room in
    may_try c.args.m.now s c.args.frame c.args.page c.args.held c.requires.look c.left.ensures.lawful c.requires.has c.requires.holds lt c.args.all
    c.page_cell-cell.result c.frame_cell-frame_cell.result c.sweep_look.result c.sweep_look.new.pass e e' c.requires.unnoted c.sweep_look.ensures.noted (same_taken c.is_taken.result c.new-word.result.bits c.sweep_look.result c.is_taken.ensures c.new-word.ensures false c.if-is_taken.false) room

pub returns-in_default : goal.returns-in_default
returns-in_default g c =
    let s = c.args.pass.now in let home = c.requires.look.own in
    let lt = subst (λ (y : Site). c.args.page < all_pages (plan_at y)) (sym home) c.requires.page in
    let e = c.page_cell-cell.ensures ∙ ap (λ (k : Plan). page_cell k c.args.page) (c.plan.ensures.plan ∙ sym (ap plan_at home)) in
    let e' = c.frame_cell-frame_cell.ensures ∙ ap (λ (y : Site). frame_cell (plan_at y) c.args.frame) (sym home) in
    passed_busy c.args.m.now s c.args.frame c.args.page c.args.held c.requires.look c.left.ensures.lawful c.requires.has c.requires.holds lt c.args.all
    c.page_cell-cell.result c.frame_cell-frame_cell.result c.sweep_look.result c.sweep_look.new.pass e e' c.requires.unnoted c.sweep_look.ensures.noted (same_taken c.is_taken.result c.new-word.result.bits c.sweep_look.result c.is_taken.ensures c.new-word.ensures false c.if-is_taken.false) c.in_default.field-0.word c.sweep_try.new.pass (taken_busy c.in_default.field-0.word c.in_default.ensures.word) c.in_default.ensures.refused _ c.give-in_default.ensures

pub give-requires-then-pins-ne0-2-clause-right : goal.give-requires-then-pins-ne0-2-clause-right
give-requires-then-pins-ne0-2-clause-right g c =
    let s = c.args.pass.now in let home = c.requires.look.own in
    let lt = subst (λ (y : Site). c.args.page < all_pages (plan_at y)) (sym home) c.requires.page in
    let e = c.page_cell-cell.ensures ∙ ap (λ (k : Plan). page_cell k c.args.page) (c.plan.ensures.plan ∙ sym (ap plan_at home)) in
    let e' = c.frame_cell-frame_cell.ensures ∙ ap (λ (y : Site). frame_cell (plan_at y) c.args.frame) (sym home) in
    subst (λ (y : PassState). part_of_cell c.args.held ≡ part_seen y c.frame_cell-frame_cell.result) (sym c.give-then-pins-ne0.ensures)
    (frame_right c.args.m.now s c.args.frame c.args.page c.args.held c.requires.look c.left.ensures.lawful c.requires.has c.requires.holds lt c.args.all
    c.page_cell-cell.result c.frame_cell-frame_cell.result c.sweep_look.result c.sweep_look.new.pass e e' c.requires.unnoted c.sweep_look.ensures.noted (same_taken c.is_taken.result c.new-word.result.bits c.sweep_look.result c.is_taken.ensures c.new-word.ensures false c.if-is_taken.false) _ c.in-Ok.taken.value c.sweep_try.new.pass c.in-Ok.ensures.took c.sweep_try.ensures.lawful)

pub returns-then-pins-ne0 : goal.returns-then-pins-ne0
returns-then-pins-ne0 g c =
    let s = c.args.pass.now in let home = c.requires.look.own in
    let lt = subst (λ (y : Site). c.args.page < all_pages (plan_at y)) (sym home) c.requires.page in
    let e = c.page_cell-cell.ensures ∙ ap (λ (k : Plan). page_cell k c.args.page) (c.plan.ensures.plan ∙ sym (ap plan_at home)) in
    let e' = c.frame_cell-frame_cell.ensures ∙ ap (λ (y : Site). frame_cell (plan_at y) c.args.frame) (sym home) in
    passed_pinned c.args.m.now s c.args.frame c.args.page c.args.held c.requires.look c.left.ensures.lawful c.requires.has c.requires.holds lt c.args.all
    c.page_cell-cell.result c.frame_cell-frame_cell.result c.sweep_look.result c.sweep_look.new.pass e e' c.requires.unnoted c.sweep_look.ensures.noted (same_taken c.is_taken.result c.new-word.result.bits c.sweep_look.result c.is_taken.ensures c.new-word.ensures false c.if-is_taken.false) _ c.in-Ok.taken.value c.sweep_try.new.pass c.in-Ok.ensures.took c.sweep_try.ensures.lawful (taken_pinned c.in-Ok.taken.word (let some = c.if-pins-ne0.true in let is = c.pins.ensures in let same = c.new.ensures in some_pins c.pins.result c.new.result.bits c.in-Ok.taken.word is same some))
    _ (c.give-then-pins-ne0-2.ensures ∙ ap (λ (y : PassState). gave y c.frame_cell-frame_cell.result) c.give-then-pins-ne0.ensures)

pub returns : goal.returns
returns g c =
    let s = c.args.pass.now in let home = c.requires.look.own in
    let lt = subst (λ (y : Site). c.args.page < all_pages (plan_at y)) (sym home) c.requires.page in
    let e = c.page_cell-cell.ensures ∙ ap (λ (k : Plan). page_cell k c.args.page) (c.plan.ensures.plan ∙ sym (ap plan_at home)) in
    let e' = c.frame_cell-frame_cell.ensures ∙ ap (λ (y : Site). frame_cell (plan_at y) c.args.frame) (sym home) in
    let found = found_sole c.args.m.now s c.args.frame c.args.page c.args.held c.requires.look c.left.ensures.lawful c.requires.has c.requires.holds lt c.args.all
    c.page_cell-cell.result c.frame_cell-frame_cell.result c.sweep_look.result c.sweep_look.new.pass e e' c.requires.unnoted c.sweep_look.ensures.noted (same_taken c.is_taken.result c.new-word.result.bits c.sweep_look.result c.is_taken.ensures c.new-word.ensures false c.if-is_taken.false) _ c.in-Ok.taken.value c.sweep_try.new.pass c.in-Ok.ensures.took c.sweep_try.ensures.lawful (ap pins_in (sym c.new.ensures) ∙ sym c.pins.ensures ∙ c.if-pins-ne0.false) c.in-Ok.ensures.pins in
    let words = found_words c.args.m.now s c.args.frame c.args.page c.args.held c.requires.look c.left.ensures.lawful c.requires.has c.requires.holds lt c.args.all
    c.page_cell-cell.result c.frame_cell-frame_cell.result c.sweep_look.result c.sweep_look.new.pass e e' c.requires.unnoted c.sweep_look.ensures.noted (same_taken c.is_taken.result c.new-word.result.bits c.sweep_look.result c.is_taken.ensures c.new-word.ensures false c.if-is_taken.false) _ c.in-Ok.taken.value c.sweep_try.new.pass c.in-Ok.ensures.took c.sweep_try.ensures.lawful c.in-Ok.ensures.word (ap pins_in (sym c.new.ensures) ∙ sym c.pins.ensures ∙ c.if-pins-ne0.false) in
    (refl, found.0, found.1, found.2, words)
