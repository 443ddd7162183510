use Rattle.std.proofs.Common.{refl, ◌∙◌, ap, sym}
use Rattle.eleos_base.specs.declared.memory.Op.TheVariants.{Alloc, Free, Share, Write}
use Rattle.eleos_core.specs.declared.event.Event.TheVariants.{Op}
use Rattle.eleos_core.specs.Seals.{Seals, seals_by}
use Rattle.eleos_core.proofs.ApplyingCalls.{allot_applies, read_applies, write_applies}
use Rattle.eleos_core.proofs.Effects.{came, wanting}
use Rattle.eleos_core.proofs.machine.Core.apply_call.Goals as goal

pub returns-in_ok-reply-in-Alloc : goal.returns-in_ok-reply-in-Alloc
returns-in_ok-reply-in-Alloc g c =
    let x : Seals = seals_by (g.S.Sealer.key c.args.sealer.now) in
    came x c.args.self.now c.args.who (Op c.args.op.now) c.args.blocks.now c.alloc.new.self c.only_reply.result
    (allot_applies x c.args.self.now c.alloc.new.self c.args.who c.args.blocks.now c.only_reply.result.reply c.only_reply.result.puts
    c.args.op.now (Alloc c.in-Alloc.bytes) c.in_ok-reply-in-Alloc.reply c.in-Alloc.is refl refl c.only_reply.ensures.reply c.only_reply.ensures.puts c.in_ok-reply-in-Alloc.ensures.makes c.requires.blocks)
    c.only_reply.ensures.blocks

pub returns-in_err-reply-in-Alloc : goal.returns-in_err-reply-in-Alloc
returns-in_err-reply-in-Alloc g c =
    wanting (seals_by (g.S.Sealer.key c.args.sealer.now)) c.args.self.now c.args.who (Op c.args.op.now) c.args.blocks.now c.from_residual.result c.alloc.new.self c.from_residual.ensures.1 c.in_err-reply-in-Alloc.ensures.err tt

pub returns-in-Free : goal.returns-in-Free
returns-in-Free g c =
    let x : Seals = seals_by (g.S.Sealer.key c.args.sealer.now) in
    came x c.args.self.now c.args.who (Op c.args.op.now) c.args.blocks.now c.free.new.self c.only_reply-in-Free.result
    (allot_applies x c.args.self.now c.free.new.self c.args.who c.args.blocks.now c.only_reply-in-Free.result.reply c.only_reply-in-Free.result.puts
    c.args.op.now (Free c.in-Free.at) c.free.result c.in-Free.is refl refl c.only_reply-in-Free.ensures.reply c.only_reply-in-Free.ensures.puts c.free.ensures.makes c.requires.blocks)
    c.only_reply-in-Free.ensures.blocks

pub returns-in-Share : goal.returns-in-Share
returns-in-Share g c =
    let x : Seals = seals_by (g.S.Sealer.key c.args.sealer.now) in
    came x c.args.self.now c.args.who (Op c.args.op.now) c.args.blocks.now c.share.new.self c.only_reply-in-Share.result
    (allot_applies x c.args.self.now c.share.new.self c.args.who c.args.blocks.now c.only_reply-in-Share.result.reply c.only_reply-in-Share.result.puts
    c.args.op.now (Share c.in-Share.at) c.share.result c.in-Share.is refl refl c.only_reply-in-Share.ensures.reply c.only_reply-in-Share.ensures.puts c.share.ensures.makes c.requires.blocks)
    c.only_reply-in-Share.ensures.blocks

pub returns-in_ok-reply-in-Read : goal.returns-in_ok-reply-in-Read
returns-in_ok-reply-in-Read g c =
    let x : Seals = seals_by (g.S.Sealer.key c.args.sealer.now) in
    came x c.args.self.now c.args.who (Op c.args.op.now) c.args.blocks.now c.args.self.now c.only_reply-in-Read.result
    (read_applies x c.args.self.now c.args.self.now c.args.who c.args.blocks.now c.only_reply-in-Read.result.reply c.only_reply-in-Read.result.puts
    c.args.op.now c.in-Read.at c.in-Read.len c.in_ok-reply-in-Read.reply c.in-Read.is c.only_reply-in-Read.ensures.reply c.only_reply-in-Read.ensures.puts c.in_ok-reply-in-Read.ensures c.requires.blocks)
    c.only_reply-in-Read.ensures.blocks

pub returns-in_err-reply-in-Read : goal.returns-in_err-reply-in-Read
returns-in_err-reply-in-Read g c =
    wanting (seals_by (g.S.Sealer.key c.args.sealer.now)) c.args.self.now c.args.who (Op c.args.op.now) c.args.blocks.now c.from_residual-in_err-reply-in-Read.result c.args.self.now c.from_residual-in_err-reply-in-Read.ensures.1 refl tt

pub returns-in_ok-effect-in-Write : goal.returns-in_ok-effect-in-Write
returns-in_ok-effect-in-Write g c =
    let x : Seals = seals_by (g.S.Sealer.key c.args.sealer.now) in
    came x c.args.self.now c.args.who (Op c.args.op.now) c.args.blocks.now c.write.new.self c.in_ok-effect-in-Write.effect
    (write_applies x c.args.self.now c.write.new.self c.args.who c.args.blocks.now c.in_ok-effect-in-Write.effect.reply c.in_ok-effect-in-Write.effect.puts
    c.args.op.now c.in-Write.at c.as_slice.result.now (c.in-Write.is ∙ ap (Write c.in-Write.at) (sym c.as_slice.ensures)) c.in_ok-effect-in-Write.ensures.makes c.in_ok-effect-in-Write.ensures.puts c.requires.blocks)
    c.in_ok-effect-in-Write.ensures.blocks

pub returns-in_err-effect-in-Write : goal.returns-in_err-effect-in-Write
returns-in_err-effect-in-Write g c =
    wanting (seals_by (g.S.Sealer.key c.args.sealer.now)) c.args.self.now c.args.who (Op c.args.op.now) c.args.blocks.now c.from_residual-in_err-effect-in-Write.result c.write.new.self c.from_residual-in_err-effect-in-Write.ensures.1 c.in_err-effect-in-Write.ensures.err tt
