use Rattle.std.proofs.Common.{◌≡◌, ◌∙◌, ◌&&◌, true, false, ap, sym}
use Rattle.std.specs.List.{list_all}
use Rattle.eleos_base.specs.declared.memory.Looked.{Looked}
use Rattle.eleos_core.proofs.FrameLists.{is_alike, same_decides}
use Rattle.eleos_core.proofs.sweeps.lists.are_same.Goals as goal

pub returns-then-not-are_seen_alike : goal.returns-then-not-are_seen_alike
returns-then-not-are_seen_alike c =
    let no : list_all (λ (seen : Looked). is_alike c.args.sweep.now c.args.list.now seen.frame) c.args.sweep.now ≡ false = (cc) in
    same_decides c.args.sweep.now c.args.list.now false (sym (ap (λ b. b && list_all (is_alike c.args.sweep.now c.args.list.now) c.args.list.now) no))

pub returns : goal.returns
returns c =
    let yes : list_all (λ (seen : Looked). is_alike c.args.sweep.now c.args.list.now seen.frame) c.args.sweep.now ≡ true = (cc) in
    same_decides c.args.sweep.now c.args.list.now c.are_listed_alike.result
    (c.are_listed_alike.ensures ∙ sym (ap (λ b. b && list_all (is_alike c.args.sweep.now c.args.list.now) c.args.list.now) yes))
