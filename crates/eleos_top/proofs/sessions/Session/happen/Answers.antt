use Rattle.std.proofs.Common.{ap, Err}
use Rattle.eleos_core.specs.Seals.{seals_by}
use Rattle.eleos_top.proofs.Entered.{entered_if, refused_if}
use Rattle.eleos_top.proofs.sessions.Session.happen.Goals as goal

pub returns-in-Ok-clause-happened : goal.returns-in-Ok-clause-happened
returns-in-Ok-clause-happened g c =
    entered_if (seals_by c.args.self.now.sealer) c.args.self.now c.enter.new.self c.args.line.now c.args.who c.args.event.now c.need-needed.result c.in_ok-blocks.blocks.items c.need-needed.ensures.covers
    c.apply.new.self c.in-Ok.effect.reply c.in-Ok.effect.puts (g.P.HostStore.store c.args.host.now) (g.P.HostStore.store c.blocks_at.new.host) (g.P.HostStore.store c.enter.new.host) c.enter.result
    (rw c.as_slice.ensures at c.in_ok-blocks.ensures.told) c.in_ok-blocks.ensures.store (rw c.deref.ensures.value at c.in-Ok.ensures.applied) c.enter.ensures.machine c.enter.ensures.answer c.enter.ensures.names c.enter.ensures.stamps c.enter.ensures.store

pub returns-in-Err-Illegal-clause-happened : goal.returns-in-Err-Illegal-clause-happened
returns-in-Err-Illegal-clause-happened g c = rw c.in-Err-Illegal.field-0-is
    (refused_if (seals_by c.args.self.now.sealer) c.args.self.now _ c.args.line.now c.args.who c.args.event.now c.need-needed.result c.in_ok-blocks.blocks.items c.need-needed.ensures.covers
    c.in-Err-Illegal.part (g.P.HostStore.store c.args.host.now) (g.P.HostStore.store c.blocks_at.new.host)
    (rw c.as_slice.ensures at c.in_ok-blocks.ensures.told) c.in_ok-blocks.ensures.store (rw c.deref.ensures.value at (c.in-Err-Illegal.ensures.illegal c.in-Err-Illegal.part (ap Err c.in-Err-Illegal.field-0-is)))
    (λ i. record c.args.self.now { machine = c.in-Err-Illegal.ensures.err i }))
