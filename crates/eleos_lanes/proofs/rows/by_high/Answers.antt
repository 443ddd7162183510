use Rattle.eleos_lanes.proofs.Lookups.{high_entries, high_places}
use Rattle.eleos_lanes.proofs.rows.by_high.Goals as goal

pub swizzle : goal.swizzle
swizzle c = high_places c.args.x c.fits-x.0 c.fits-x.1

pub returns : goal.returns
returns c = high_entries c.args.entries.now c.args.x c.fits-x.0 c.fits-x.1
