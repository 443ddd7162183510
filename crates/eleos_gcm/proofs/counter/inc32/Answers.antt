use Rattle.std.proofs.Common.{arith, ◌≡◌, drop, [], ◌∙◌}
use Rattle.std.proofs.lemmas.List.{append-nil, drop-drop, drop_all}
use Rattle.eleos_base.specs.Gcm.{inc32}
use Rattle.eleos_gcm.proofs.Counters.{last_four}
use Rattle.eleos_gcm.proofs.counter.inc32.Goals as goal

pub returns : goal.returns
unfolding inc32
returns c =
    let block = c.args.block.now in
    let none : drop 4 (drop 12 block) ≡ [] = drop-drop 4 12 block ∙ drop_all 16 block (omega arith) in
    rw (none, append-nil c.copy_from_slice.new.self, c.copy_from_slice.ensures.after, c.to_be_bytes.ensures, c.from_be_bytes-count.ensures, last_four block (omega arith))
