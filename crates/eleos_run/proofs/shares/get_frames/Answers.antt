use Rattle.std.proofs.Common.{◌∙◌, true, arith}
use Rattle.eleos_run.specs.Surveys.{no_block}
use Rattle.eleos_run.proofs.ShareLines.{share_begun, share_told}
use Rattle.eleos_run.proofs.shares.get_frames.Goals as goal

pub gather_frames-requires-clause-own : goal.gather_frames-requires-clause-own
gather_frames-requires-clause-own g c = c.begin_gather-pool.ensures.made.goes.home ∙ c.requires.own

pub gather_frames-requires-clause-left : goal.gather_frames-requires-clause-left
gather_frames-requires-clause-left g c = let a = c.begin_gather-pool.ensures.made.goes.left in let b = c.requires.left in omega (arith, a, b)

pub end_gather-requires-clause-own : goal.end_gather-requires-clause-own
end_gather-requires-clause-own g c = c.gather_frames.ensures.tells.makes.goes.home ∙ (c.begin_gather-pool.ensures.made.goes.home ∙ c.requires.own)

pub returns : goal.returns
returns g c = share_begun no_block no_block c.args.machine.now c.args.enclave c.args.to c.end_gather.result c.args.actor c.args.lines.now c.gather_frames.new.lines c.args.pass.now c.begin_gather-pool.new.pass c.end_gather.new.pass c.begin_gather-pool.ensures.made
    (share_told no_block no_block c.args.machine.now c.args.enclave c.args.to c.end_gather.result c.args.actor c.args.lines.now c.gather_frames.new.lines c.begin_gather-pool.new.pass c.gather_frames.new.pass c.end_gather.new.pass true c.gather_frames.ensures.tells c.end_gather.ensures)
