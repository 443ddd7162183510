use Rattle.std.proofs.Common.{[]}
use Rattle.core_tests.proofs.searches.write_to.Goals as goal

-- an event that was applied leaves the plan as it was
pub returns : goal.returns
returns c = (c.in-Ok.ensures.applied [] c.requires.good tt (c.requires.shown _)).plan
