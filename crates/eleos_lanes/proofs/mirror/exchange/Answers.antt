use Rattle.eleos_lanes.proofs.Exchange.{first_lane, second_lane}
use Rattle.eleos_lanes.proofs.mirror.exchange.Goals as goal

pub returns-clause-first : goal.returns-clause-first
returns-clause-first c i j below low = first_lane c.args.a c.args.b c.args.by c.args.mask i j c.fits-a.0 c.fits-b.0 below low

pub returns-clause-second : goal.returns-clause-second
returns-clause-second c i j below low = second_lane c.args.a c.args.b c.args.by c.args.mask i j c.fits-a.0 c.fits-b.0 below
