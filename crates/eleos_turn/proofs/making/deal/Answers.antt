use Rattle.std.proofs.Common.{arith, ◌≡◌, ◌+◌, ◌-◌, suc, [], ◌∷◌, ◌++◌, add-one, sym, ap, ◌∙◌, subst}
use Rattle.atomic_table.specs.Table.{Splits}
use Rattle.eleos_turn.specs.declared.view.View.{View}
use Rattle.eleos_turn.specs.Rule.{Kept, base_of}
use Rattle.eleos_turn.specs.Views.{dealing, dealt_from, dealt_to}
use Rattle.eleos_turn.specs.declared.answers.Refused.{Refused}
use Rattle.eleos_turn.specs.Hands.{Home, IsHand, dealt, state_of}
use Rattle.eleos_turn.proofs.Seats.{deals}
use Rattle.eleos_turn.proofs.Calls.{next_left, next_hand, opening_length}
use Rattle.eleos_turn.proofs.Fits.{fits_fresh, fresh_is, dealt_more}
use Rattle.eleos_turn.proofs.making.deal.Goals as goal

pub split_seat-one-requires : goal.split_seat-one-requires
split_seat-one-requires g c = let sized = c.args.cells.now.sized in let e : c.args.hands - c.loop-i.i ≡ suc (c.args.hands - (c.loop-i.i + 1)) = omega arith in (
  c.loop-i.invariant.1 ∙ c.requires.own,
  omega arith,
  subst (λ (v : View g.row.P-Draft.Denot g.row.P-Part.Denot g.row.P-Ground.Denot). Splits (Kept g.P.Plot.terms (base_of g.P.Plot.terms c.args.cells.now.table.shared.key)) c.loop-i.seat.id v (dealt_from v) (dealt_to v)) (sym (ap (λ m. m.0) c.loop-i.invariant.0 ∙ ap (dealing (base_of g.P.Plot.terms c.args.cells.now.table.shared.key) c.loop-i.i) e))
      (deals g.P.Plot.terms (base_of g.P.Plot.terms c.args.cells.now.table.shared.key) c.loop-i.seat.id c.loop-i.i (c.args.hands - (c.loop-i.i + 1))),
)

pub invariant_of-hand : goal.invariant_of-hand
invariant_of-hand g c = let sized = c.args.cells.now.sized in let e : c.args.hands - c.loop-i.i ≡ suc (c.args.hands - (c.loop-i.i + 1)) = omega arith in
    let hand = next_hand {D = g.row.P-Draft.Denot} (base_of g.P.Plot.terms c.args.cells.now.table.shared.key) c.loop-i.i (c.args.hands - c.loop-i.i) (c.args.hands - (c.loop-i.i + 1)) e in
    let z : Home g.row.P-Part.Denot g.row.P-Ground.Denot = record { table = c.args.cells.now.table.shared.table_id; base = (base_of g.P.Plot.terms c.args.cells.now.table.shared.key) } in
    let count = opening_length g.P.Plot.terms c.args.cells.now.table.shared.key in let hands_is = c.requires.fresh.1 in let each_is = c.requires.fresh.2 in
    subst (λ (r : Refused). IsHand g.P.Plot.terms (state_of c.split_seat-one.result.table_id (c.loop-i.i + 1) r c.split_seat-one.result.me.0) c.split_seat-one.result.me c.args.stamps 0 0) (sym c.none.ensures)
    (fits_fresh g.P.Plot.terms c.split_seat-one.result.table_id z (c.loop-i.i + 1) c.split_seat-one.result.me c.args.stamps (c.split_seat-one.ensures.3 ∙ (c.loop-i.invariant.1 ∙ c.requires.own))
    (c.split_seat-one.ensures.4 ∙ (ap (λ m. (dealt_to m.0, [])) c.loop-i.invariant.0 ∙ ap (λ (v : View g.row.P-Draft.Denot g.row.P-Part.Denot g.row.P-Ground.Denot). (v, [])) hand)) (omega arith) (omega (arith, hands_is)) (omega (arith, count, sized)) (omega (arith, each_is)) (sym each_is))

pub loop-i-preserved : goal.loop-i-preserved
loop-i-preserved g c = let e : c.args.hands - c.loop-i.i ≡ suc (c.args.hands - (c.loop-i.i + 1)) = omega arith in
    let next = next_left (base_of g.P.Plot.terms c.args.cells.now.table.shared.key) c.loop-i.i (c.args.hands - c.loop-i.i) (c.args.hands - (c.loop-i.i + 1)) e in
    let hand = next_hand {D = g.row.P-Draft.Denot} (base_of g.P.Plot.terms c.args.cells.now.table.shared.key) c.loop-i.i (c.args.hands - c.loop-i.i) (c.args.hands - (c.loop-i.i + 1)) e in
    let z : Home g.row.P-Part.Denot g.row.P-Ground.Denot = record { table = c.args.cells.now.table.shared.table_id; base = (base_of g.P.Plot.terms c.args.cells.now.table.shared.key) } in
    let is = fresh_is z c.split_seat-one.result.table_id (c.loop-i.i + 1) c.split_seat-one.result.me (c.split_seat-one.ensures.3 ∙ (c.loop-i.invariant.1 ∙ c.requires.own))
    (c.split_seat-one.ensures.4 ∙ (ap (λ m. (dealt_to m.0, [])) c.loop-i.invariant.0 ∙ ap (λ (v : View g.row.P-Draft.Denot g.row.P-Part.Denot g.row.P-Ground.Denot). (v, [])) hand)) in (
      c.split_seat-one.ensures.2 ∙ (ap (λ m. (dealt_from m.0, m.1)) c.loop-i.invariant.0 ∙ (λ k. (next k, []))),
      c.split_seat-one.ensures.0 ∙ c.loop-i.invariant.1,
      c.in-Ok-push.ensures.items ∙ (ap (λ (r : Refused). c.loop-i.dealt.items ++ state_of c.split_seat-one.result.table_id (c.loop-i.i + 1) r c.split_seat-one.result.me.0 ∷ []) c.none.ensures ∙ ((λ j. c.loop-i.invariant.2 j ++ is j ∷ []) ∙ (dealt_more z 0 c.loop-i.i c.loop-i.i (omega arith) ∙ ap (dealt z 0) (sym (add-one c.loop-i.i))))),
    )
