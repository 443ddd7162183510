use Rattle.eleos_lanes.proofs.Lookups.{low_entries, low_places}
use Rattle.eleos_lanes.proofs.rows.by_low.Goals as goal

pub swizzle : goal.swizzle
swizzle c = low_places c.args.x c.fits-x.0

pub returns : goal.returns
returns c = low_entries c.args.entries.now c.args.x c.fits-x.0
