use Rattle.std.proofs.Common.{◌≡◌, ◌≤◌, ◌+◌, ◌-◌, refl, arith}
use Rattle.std.specs.BTreeMap.{get}
use Rattle.std.specs.Ordering.{nat_cmp}
use Rattle.eleos_plain.proofs.MapTexts.{forget-more, forget-none}
use Rattle.eleos_plain.proofs.texts.forget.Goals as goal

pub loop-sub-init : goal.loop-sub-init
loop-sub-init c = λ s. forget-none c.args.start s (get nat_cmp c.args.written.now s)

pub loop-sub-preserved : goal.loop-sub-preserved
loop-sub-preserved c =
    let low : c.args.start ≤ c.loop-sub.sub-counter = omega arith in
    λ s. forget-more c.args.start c.loop-sub.sub-counter (c.loop-sub.sub-counter + 1) s (get nat_cmp c.args.written.now s) (get nat_cmp c.loop-sub.written s)
    (get nat_cmp c.remove.new.self s) low refl (c.loop-sub.invariant s) (c.remove.ensures.updates.0 s)

pub returns : goal.returns
returns c =
    let whole : c.loop-sub.sub-counter - c.args.start ≡ c.args.len = omega arith in
    λ s. rw whole at (c.loop-sub.invariant s)
