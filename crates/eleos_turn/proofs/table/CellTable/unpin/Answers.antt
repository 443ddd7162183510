use Rattle.std.proofs.Common.{arith, refl}
use Rattle.eleos_turn.specs.Rule.{base_of}
use Rattle.eleos_turn.proofs.Steps.{pin_gone}
use Rattle.eleos_turn.proofs.Calls.{opening_length}
use Rattle.eleos_turn.proofs.table.CellTable.unpin.Goals as goal

pub fetch_sub-requires : goal.fetch_sub-requires
fetch_sub-requires g c = let sized = c.args.self.now.sized in let within = c.requires.cell in let count = opening_length g.P.Plot.terms c.args.self.now.table.shared.key in
    (c.requires.own, omega arith, pin_gone g.P.Plot.terms (base_of g.P.Plot.terms c.args.self.now.table.shared.key) _ _ _ c.args.cell (omega arith) c.requires.pin.0 c.requires.alive c.requires.pin.1)

pub returns-clause-unpinned : goal.returns-clause-unpinned
returns-clause-unpinned g c = c.fetch_sub.ensures.2 c.args.cell refl
