use Rattle.std.proofs.Common.{arith}
use Rattle.eleos_turn.specs.Rule.{base_of}
use Rattle.eleos_turn.proofs.Steps.{stamps_event}
use Rattle.eleos_turn.proofs.table.CellTable.stamp_as.Goals as goal

pub fetch_add-requires : goal.fetch_add-requires
fetch_add-requires g c = let sized = c.args.self.now.sized in
    (c.requires.own, omega arith, stamps_event g.P.Plot.terms (base_of g.P.Plot.terms c.args.self.now.table.shared.key) g.met.P.Plot.local _ _ _ g.N.Asked.asked c.requires.can.0 c.requires.can.1 (omega arith) c.requires.can.2 c.requires.can.3)
