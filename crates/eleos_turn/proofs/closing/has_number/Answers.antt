use Rattle.std.proofs.Common.{arith, refl, sym, ap, ◌∙◌}
use Rattle.eleos_turn.proofs.Gathered.{number_at, number_none}
use Rattle.eleos_turn.proofs.closing.has_number.Goals as goal

pub returns-then-hand-number : goal.returns-then-hand-number
returns-then-hand-number g c = (
  λ _. number_at c.args.number c.args.hands.now c.loop-hand.hand-index c.hand-item.result c.loop-hand-test.true
      (sym c.if-hand-number.true ∙ (ap (λ s. s.number) c.hand.view_is ∙ ap (λ s. s.number) c.hand-item.is)),
  λ _. refl,
)

pub returns : goal.returns
returns g c = (λ no. absurd (cc no), λ h. absurd (number_none c.args.number c.args.hands.now (λ i x l e. c.loop-hand.invariant i x (let o = c.loop-hand-test.false in omega (arith, l, o)) e) h))
