use Rattle.std.proofs.Common.{arith, ⊎_elim, inl, inr, ◌≡◌, ◌<◌, ℕ, ◌∷◌, ◌++◌, sym, ap, ◌∙◌, subst, append_assoc}
use Rattle.eleos_base.specs.Ties.{Has}
use Rattle.eleos_turn.specs.Rule.{base_of}
use Rattle.eleos_turn.specs.Closings.{HasNumber}
use Rattle.eleos_turn.proofs.Calls.{nil_of}
use Rattle.eleos_turn.proofs.Seats.{has_left, has_right}
use Rattle.eleos_turn.proofs.Sound.{numbers_made}
use Rattle.eleos_turn.proofs.Gathered.{of_split, done_split, has_split, begin_more, none_in, left_split}
use Rattle.eleos_turn.proofs.closing.gather.Goals as goal

pub absorb-requires-clause-own : goal.absorb-requires-clause-own
absorb-requires-clause-own g c = let inv = c.loop-hand.invariant in let x = c.in-Some.hand in let is = c.in-Some.ensures.items in let rest = c.pop.new.self.items in let of = of_split (record { table = c.args.cells.now.table.shared.table_id; base = base_of g.P.Plot.terms c.args.cells.now.table.shared.key }) _ rest x is inv.4 in let done = done_split g.P.Plot.terms _ rest x is inv.9 in
    (inv.0 ∙ c.requires.own, c.into_seat.ensures.table ∙ ap (λ h. h.table) of.1)

pub absorb-requires-clause-idle : goal.absorb-requires-clause-idle
absorb-requires-clause-idle g c = let inv = c.loop-hand.invariant in let x = c.in-Some.hand in let is = c.in-Some.ensures.items in let rest = c.pop.new.self.items in let of = of_split (record { table = c.args.cells.now.table.shared.table_id; base = base_of g.P.Plot.terms c.args.cells.now.table.shared.key }) _ rest x is inv.4 in let done = done_split g.P.Plot.terms _ rest x is inv.9 in let view = c.into_seat.ensures.view in
    (ap (λ m. m.1) view, ap (λ m. m.0.held) view ∙ done.1.turns, let alive = c.requires.idle.2 in subst (λ (n : ℕ). 0 < n) (ap (λ b. b.hands) (sym inv.3)) alive)

pub loop-hand-preserved : goal.loop-hand-preserved
loop-hand-preserved g c = let inv = c.loop-hand.invariant in let x = c.in-Some.hand in let is = c.in-Some.ensures.items in let rest = c.pop.new.self.items in let of = of_split (record { table = c.args.cells.now.table.shared.table_id; base = base_of g.P.Plot.terms c.args.cells.now.table.shared.key }) _ rest x is inv.4 in let done = done_split g.P.Plot.terms _ rest x is inv.9 in let heard = c.absorb.ensures.heard.1 in let b = c.absorb.ensures.begins in let mine = c.into_seat.ensures.view in (
  c.absorb.ensures.same.0 ∙ inv.0,
  c.absorb.ensures.same.2 ∙ inv.1,
  ap (λ v. v.held) heard ∙ inv.2,
  ap (λ v. v.base) heard ∙ inv.3,
  of.0,
  λ n h. ⊎_elim
      (λ (q : Has n c.loop-hand.seat.me.0.numbers). inl (subst (Has n) (sym (ap (λ v. v.numbers) heard)) (has_left g.P.Plot.terms (base_of g.P.Plot.terms c.args.cells.now.table.shared.key) n _ _ q)))
      (λ (q : HasNumber n c.loop-hand.hands.items). ⊎_elim
      (λ (z : HasNumber n rest). inr z)
      (λ (z : n ≡ x.number). inl (subst (Has n) (sym (ap (λ v. v.numbers) heard)) (has_right g.P.Plot.terms (base_of g.P.Plot.terms c.args.cells.now.table.shared.key) n _ _
      (subst (Has n) (sym (ap (λ m. m.0.numbers) mine)) (subst (λ (k : ℕ). Has k (Rattle.eleos_turn.specs.Numbers.numbers_of x.number)) (sym z) (numbers_made x.number done.1.made))))))
      (has_split n _ rest x is q))
      (inv.5 n h),
  (inv.6.0 ++ b.0.0, b.0.1 ∙ (ap (λ z. z ++ b.0.0) inv.6.1 ∙ append_assoc c.args.seat.now.me.0.seen inv.6.0 b.0.0)),
  (
    x ∷ inv.7.0,
    inv.7.1 ∙ (ap (λ z. z ++ inv.7.0) is ∙ append_assoc rest _ inv.7.0),
    ((b.1.0, b.1.1 ∙ ap (λ m. m.0.seen ++ b.1.0) mine), begin_more c.loop-hand.seat.me.0.seen c.absorb.new.seat.me.0.seen b.0.0 inv.7.0 b.0.1 inv.7.2),
    (c.into_seat.ensures.sound, inv.7.3),
  ),
  (let was = inv.8 in let now = ap (λ v. v.left) heard in let its = ap (λ m. m.0.left) mine in let parts = left_split _ rest x is in omega (arith, was, now, its, parts)),
  done.0,
)

pub returns-clause-numbers : goal.returns-clause-numbers
returns-clause-numbers g c n h = let inv = c.loop-hand.invariant in let none_left = c.in_default.ensures.cases in let len = c.loop-hand.hands.ok in let empty = nil_of c.loop-hand.hands.items (omega (arith, none_left.0, len.0)) in ⊎_elim
    (λ (q : Has n c.loop-hand.seat.me.0.numbers). q)
    (λ (q : HasNumber n c.loop-hand.hands.items). absurd (none_in n _ empty q))
    (inv.5 n h)

pub returns-clause-left : goal.returns-clause-left
returns-clause-left g c = let inv = c.loop-hand.invariant in let none_left = c.in_default.ensures.cases in let len = c.loop-hand.hands.ok in let empty = nil_of c.loop-hand.hands.items (omega (arith, none_left.0, len.0)) in
    let gone = ap (λ l. Rattle.eleos_turn.specs.Closings.left_of l) empty in let was = inv.8 in omega (arith, gone, was)
