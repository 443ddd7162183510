use Rattle.std.proofs.Common.{arith, refl}
use Rattle.eleos_turn.specs.Rule.{base_of}
use Rattle.eleos_turn.proofs.Steps.{ref_gone}
use Rattle.eleos_turn.proofs.Calls.{opening_length}
use Rattle.eleos_turn.proofs.table.CellTable.unref.Goals as goal

pub fetch_and-requires : goal.fetch_and-requires
fetch_and-requires g c = let sized = c.args.self.now.sized in let within = c.requires.cell in let count = opening_length g.P.Plot.terms c.args.self.now.table.shared.key in
    (c.requires.own, omega arith, ref_gone g.P.Plot.terms (base_of g.P.Plot.terms c.args.self.now.table.shared.key) _ _ _ c.args.cell _ (omega arith) refl refl)
