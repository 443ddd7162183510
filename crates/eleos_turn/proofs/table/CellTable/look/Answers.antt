use Rattle.std.proofs.Common.{arith, refl}
use Rattle.eleos_turn.specs.Rule.{base_of}
use Rattle.eleos_turn.proofs.Calls.{opening_length}
use Rattle.eleos_turn.proofs.Steps.{looked}
use Rattle.eleos_turn.proofs.table.CellTable.look.Goals as goal

pub load-requires : goal.load-requires
load-requires g c = let sized = c.args.self.now.sized in let within = c.requires.cell in let count = opening_length g.P.Plot.terms c.args.self.now.table.shared.key in
    (c.requires.own, omega arith, looked g.P.Plot.terms (base_of g.P.Plot.terms c.args.self.now.table.shared.key) _ _ _ c.args.cell (omega arith) (omega arith))

pub returns-clause-noted : goal.returns-clause-noted
returns-clause-noted g c = (c.load.ensures.2 c.args.cell refl).0

pub returns-clause-shows : goal.returns-clause-shows
returns-clause-shows g c = (c.load.ensures.2 c.args.cell refl).1
