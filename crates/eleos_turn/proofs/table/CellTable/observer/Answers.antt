use Rattle.std.proofs.Common.{arith}
use Rattle.eleos_turn.specs.Rule.{base_of}
use Rattle.eleos_turn.proofs.Seats.{observers}
use Rattle.eleos_turn.proofs.table.CellTable.observer.Goals as goal

pub split_seat-requires : goal.split_seat-requires
split_seat-requires g c = let sized = c.args.self.now.sized in (c.requires.own, omega arith, observers g.P.Plot.terms (base_of g.P.Plot.terms c.args.self.now.table.shared.key) _ _)
