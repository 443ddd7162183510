use Rattle.std.proofs.Common.{arith, ◌≡◌, ◌+◌, ◌*◌, ◌≤◌, ℕ, List, length, sym, ap, ◌∙◌, subst}
use Rattle.eleos_base.specs.declared.plot.Base.{Base}
use Rattle.eleos_base.specs.Ties.{Has}
use Rattle.eleos_base.specs.Histories.{made}
use Rattle.eleos_turn.specs.Hands.{Home, HandState}
use Rattle.eleos_turn.specs.Closings.{AllOwn, IsWhole, left_of}
use Rattle.eleos_turn.proofs.Calls.{opening_length}
use Rattle.eleos_turn.proofs.Counts.{all_own}
use Rattle.eleos_turn.proofs.turnstile.Turnstile.close.Goals as goal

pub emptied-cells-requires-clause-all : goal.emptied-cells-requires-clause-all
emptied-cells-requires-clause-all g c n low high = let whole = subst (λ (l : List (HandState g.row.P-Draft.Denot g.row.P-Part.Denot g.row.P-Ground.Denot)). IsWhole g.P.Plot.terms c.self.inside.hands l) c.as_slice.ensures.value (c.is_whole.ensures.0 c.if-not-is_whole.false) in
    let hands = ap (λ z. z.shared.key.hands) c.into_shared.ensures.table ∙ (ap (λ h. h.base.hands) c.into_parts-cells.ensures.home ∙ (sym (ap (λ h. h.base.hands) c.self.view_is) ∙ sym c.self.invariant.2)) in
    subst (Has n) (sym (ap (λ m. m.0.numbers) c.noted_hand-hand.ensures.same.1)) (c.settle-seat.ensures.numbers n (whole.each n low (omega (arith, high, hands))))

pub returns-clause-own : goal.returns-clause-own
returns-clause-own g c = let whole = subst (λ (l : List (HandState g.row.P-Draft.Denot g.row.P-Part.Denot g.row.P-Ground.Denot)). IsWhole g.P.Plot.terms c.self.inside.hands l) c.as_slice.ensures.value (c.is_whole.ensures.0 c.if-not-is_whole.false) in let home = c.into_parts-cells.ensures.home in let z : Home g.row.P-Part.Denot g.row.P-Ground.Denot = c.args.self in
    let seat = c.settle-seat.result.me.0 in let hands : c.self.inside.hands ≡ z.base.hands = c.self.invariant.2 ∙ ap (λ h. h.base.hands) c.self.view_is in
    let base : seat.base ≡ z.base = c.settle-seat.ensures.base ∙ ap (λ h. h.base) home in
    let all = subst (λ (n : ℕ). IsWhole g.P.Plot.terms n c.args.hands.items) hands whole in
    subst (λ (h : _). AllOwn g.P.Plot.terms h c.args.hands.items) (sym c.noted_hand-hand.ensures.seen)
    (all_own g.P.Plot.terms z seat.seen z.base.hands c.args.hands.items all.count all.each c.requires.own all.done c.settle-seat.ensures.sound c.settle-seat.ensures.begins
    (subst (λ (b : Base g.row.P-Part.Denot g.row.P-Ground.Denot). length seat.seen + left_of c.args.hands.items ≤ b.hands * b.each) base c.settle-seat.ensures.room))

pub returns-clause-cells : goal.returns-clause-cells
returns-clause-cells g c k inside = let home = c.into_parts-cells.ensures.home in let long = ap (λ h. length h.base.opening) home in let count = opening_length g.P.Plot.terms c.into_parts-cells.result.0.table.shared.key in
    let same = ap (λ z. length z.shared.key.cells.value.items) c.into_shared.ensures.table in let x = c.emptied-cells.ensures.cells k (omega (arith, inside, long, count, same)) in
    let base = c.settle-seat.ensures.base ∙ sym (ap (λ h. h.base) c.noted_hand-hand.ensures.home) in
    (x.0, x.1, x.2 ∙ (ap (λ m. made g.P.Plot.terms m.0.base m.0.seen k) c.noted_hand-hand.ensures.same.1 ∙ (λ i. made g.P.Plot.terms (base i) (sym c.noted_hand-hand.ensures.seen i) k)))
