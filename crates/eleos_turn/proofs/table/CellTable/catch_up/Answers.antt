use Rattle.std.proofs.Common.{arith}
use Rattle.eleos_turn.specs.Rule.{base_of}
use Rattle.eleos_turn.proofs.Steps.{heard}
use Rattle.eleos_turn.proofs.table.CellTable.catch_up.Goals as goal

pub load-requires : goal.load-requires
load-requires g c = let sized = c.args.self.now.sized in (c.requires.own, omega arith, heard g.P.Plot.terms (base_of g.P.Plot.terms c.args.self.now.table.shared.key) _ _ _ _ c.requires.alive)
