use Rattle.std.proofs.Common.{arith, ⊎_elim, inl, inr, ◌≡◌, ◌<◌, ◌*◌, ◌++◌, ℕ, length, sym, ap, ◌∙◌, subst, append_assoc}
use Rattle.eleos_base.specs.Ties.{Has}
use Rattle.eleos_base.specs.Histories.{Signed}
use Rattle.eleos_turn.specs.declared.view.View.{View}
use Rattle.eleos_turn.specs.Rule.{base_of}
use Rattle.eleos_turn.specs.Numbers.{numbers_of}
use Rattle.eleos_turn.specs.Closings.{HasNumber}
use Rattle.eleos_turn.proofs.Sound.{numbers_made}
use Rattle.eleos_turn.proofs.Gathered.{of_split, done_split, has_split, begin_more, begin_join, left_split, sound_join}
use Rattle.eleos_turn.proofs.closing.settle.Goals as goal

pub gather-requires-clause-own : goal.gather-requires-clause-own
gather-requires-clause-own g c = let x = c.in-Some.first in let is = c.in-Some.ensures.items in let rest = c.pop.new.self.items in let view = c.into_seat-seat.ensures.view in let of = of_split (record { table = c.args.cells.now.table.shared.table_id; base = base_of g.P.Plot.terms c.args.cells.now.table.shared.key }) _ rest x is c.requires.hands in
    c.into_seat-seat.ensures.table ∙ ap (λ h. h.table) of.1

pub gather-requires-clause-idle : goal.gather-requires-clause-idle
gather-requires-clause-idle g c = let x = c.in-Some.first in let is = c.in-Some.ensures.items in let rest = c.pop.new.self.items in let view = c.into_seat-seat.ensures.view in let done = done_split g.P.Plot.terms _ rest x is c.requires.done in let alive = c.into_seat-seat.ensures.sound.alive in
    (ap (λ m. m.1) view, ap (λ m. m.0.held) view ∙ done.1.turns, subst (λ (n : ℕ). 0 < n) (sym (ap (λ m. m.0.base.hands) view)) alive)

pub gather-requires-clause-hands : goal.gather-requires-clause-hands
gather-requires-clause-hands g c = let x = c.in-Some.first in let is = c.in-Some.ensures.items in let rest = c.pop.new.self.items in let view = c.into_seat-seat.ensures.view in let of = of_split (record { table = c.args.cells.now.table.shared.table_id; base = base_of g.P.Plot.terms c.args.cells.now.table.shared.key }) _ rest x is c.requires.hands in of.0

pub gather-requires-clause-done : goal.gather-requires-clause-done
gather-requires-clause-done g c = let x = c.in-Some.first in let is = c.in-Some.ensures.items in let rest = c.pop.new.self.items in let view = c.into_seat-seat.ensures.view in let done = done_split g.P.Plot.terms _ rest x is c.requires.done in done.0

pub catch_up-requires-clause-own : goal.catch_up-requires-clause-own
catch_up-requires-clause-own g c = let x = c.in-Some.first in let is = c.in-Some.ensures.items in let rest = c.pop.new.self.items in let view = c.into_seat-seat.ensures.view in let of = of_split (record { table = c.args.cells.now.table.shared.table_id; base = base_of g.P.Plot.terms c.args.cells.now.table.shared.key }) _ rest x is c.requires.hands in
    c.gather.ensures.same.0 ∙ (c.into_seat-seat.ensures.table ∙ ap (λ h. h.table) of.1)

pub catch_up-requires-clause-alive : goal.catch_up-requires-clause-alive
catch_up-requires-clause-alive g c = let x = c.in-Some.first in let is = c.in-Some.ensures.items in let rest = c.pop.new.self.items in let view = c.into_seat-seat.ensures.view in let alive = c.into_seat-seat.ensures.sound.alive in
    subst (λ (n : ℕ). 0 < n) (sym (ap (λ b. b.hands) c.gather.ensures.same.3 ∙ ap (λ m. m.0.base.hands) view)) alive

pub returns-clause-table : goal.returns-clause-table
returns-clause-table g c = let x = c.in-Some.first in let is = c.in-Some.ensures.items in let rest = c.pop.new.self.items in let view = c.into_seat-seat.ensures.view in let of = of_split (record { table = c.args.cells.now.table.shared.table_id; base = base_of g.P.Plot.terms c.args.cells.now.table.shared.key }) _ rest x is c.requires.hands in
    c.catch_up.ensures.same ∙ (c.gather.ensures.same.0 ∙ (c.into_seat-seat.ensures.table ∙ ap (λ h. h.table) of.1))

pub returns-clause-base : goal.returns-clause-base
returns-clause-base g c = let x = c.in-Some.first in let is = c.in-Some.ensures.items in let rest = c.pop.new.self.items in let view = c.into_seat-seat.ensures.view in let of = of_split (record { table = c.args.cells.now.table.shared.table_id; base = base_of g.P.Plot.terms c.args.cells.now.table.shared.key }) _ rest x is c.requires.hands in
    ap (λ m. m.0.base) c.catch_up.ensures.heard.1 ∙ (c.gather.ensures.same.3 ∙ (ap (λ m. m.0.base) view ∙ ap (λ h. h.base) of.1))

pub returns-clause-numbers : goal.returns-clause-numbers
returns-clause-numbers g c n h = let x = c.in-Some.first in let is = c.in-Some.ensures.items in let rest = c.pop.new.self.items in let view = c.into_seat-seat.ensures.view in let done = done_split g.P.Plot.terms _ rest x is c.requires.done in
    subst (Has n) (sym (ap (λ m. m.0.numbers) c.catch_up.ensures.heard.1)) (c.gather.ensures.numbers n (⊎_elim
    (λ (q : HasNumber n rest). inr q)
    (λ (z : n ≡ x.number). inl (subst (Has n) (sym (ap (λ m. m.0.numbers) view)) (subst (λ (k : ℕ). Has k (numbers_of x.number)) (sym z) (numbers_made x.number done.1.made))))
    (has_split n _ rest x is h)))

pub returns-clause-begins : goal.returns-clause-begins
returns-clause-begins g c = let x = c.in-Some.first in let is = c.in-Some.ensures.items in let rest = c.pop.new.self.items in let view = c.into_seat-seat.ensures.view in let b = c.gather.ensures.begins in let more = c.catch_up.ensures.heard.0 in let now = ap (λ m. m.0.seen) c.catch_up.ensures.heard.1 in
    begin_join c.catch_up.new.seat.me.0.seen _ rest x is (begin_more c.gather.new.seat.me.0.seen c.catch_up.new.seat.me.0.seen more rest now b.1)
    (b.0.0 ++ more, now ∙ (ap (λ z. z ++ more) (b.0.1 ∙ ap (λ m. m.0.seen ++ b.0.0) view) ∙ append_assoc x.seen b.0.0 more))

pub returns-clause-signed : goal.returns-clause-signed
returns-clause-signed g c = let heard = c.catch_up.ensures.heard in subst (λ (w : View g.row.P-Draft.Denot g.row.P-Part.Denot g.row.P-Ground.Denot). Signed g.P.Plot.terms w.base.hands w.seen) (sym (ap (λ m. m.0) heard.1)) heard.2.2

pub returns-clause-room : goal.returns-clause-room
returns-clause-room g c = let x = c.in-Some.first in let is = c.in-Some.ensures.items in let rest = c.pop.new.self.items in let view = c.into_seat-seat.ensures.view in let heard = c.catch_up.ensures.heard in let room = heard.4 in let gathered = c.gather.ensures.left in let its = ap (λ m. m.0.left) view in
    let parts = left_split _ rest x is in let seen = ap (λ m. length m.0.seen) heard.1 in let most = ap (λ m. m.0.base.hands * m.0.base.each) heard.1 in
    omega (arith, room, gathered, its, parts, seen, most)

pub returns-clause-sound : goal.returns-clause-sound
returns-clause-sound g c = sound_join g.P.Plot.terms _ c.pop.new.self.items c.in-Some.first c.in-Some.ensures.items c.gather.ensures.sound c.into_seat-seat.ensures.sound
