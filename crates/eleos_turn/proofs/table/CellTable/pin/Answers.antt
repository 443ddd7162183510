use Rattle.std.proofs.Common.{arith, refl}
use Rattle.eleos_turn.specs.Rule.{base_of}
use Rattle.eleos_turn.proofs.Steps.{pin_made}
use Rattle.eleos_turn.proofs.Calls.{opening_length}
use Rattle.eleos_turn.proofs.table.CellTable.pin.Goals as goal

pub fetch_add-requires : goal.fetch_add-requires
fetch_add-requires g c = let sized = c.args.self.now.sized in let within = c.requires.cell in let count = opening_length g.P.Plot.terms c.args.self.now.table.shared.key in
    (c.requires.own, omega arith, pin_made g.P.Plot.terms (base_of g.P.Plot.terms c.args.self.now.table.shared.key) _ _ _ c.args.cell (omega arith) (omega arith) c.requires.held c.requires.few)

pub returns-clause-pinned : goal.returns-clause-pinned
returns-clause-pinned g c = c.fetch_add.ensures.2 c.args.cell refl
