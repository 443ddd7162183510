use Rattle.std.proofs.Common.{◌≡◌, [], subst, ap, ◌∙◌}
use Rattle.eleos_base.specs.declared.memory.Reply.{Reply}
use Rattle.eleos_core.specs.declared.event.Event.TheVariants.{Survey}
use Rattle.eleos_core.specs.declared.event.Goal.TheVariants.{To}
use Rattle.eleos_core.specs.Applying.{stamp_of}
use Rattle.eleos_machine.specs.Passes.{PassState}
use Rattle.eleos_machine.specs.Stamping.{HasStamped}
use Rattle.eleos_machine.specs.Sweeping.{swept}
use Rattle.eleos_balloon.proofs.Surveying.{draft_is, drafted, surveyed}
use Rattle.eleos_balloon.specs.Ends.{share_stamp}
use Rattle.eleos_balloon.proofs.ends.survey.Goals as goal

pub returns : goal.returns
returns g c =
    let s = c.args.pass.now in
    let words : swept s.sweep.words (stamp_of s.hand.number (Survey c.args.enclave (To c.args.to) []) [] (Rattle.eleos_plot.specs.Refs.reply_of c.reply_to.result) 0) ≡ share_stamp s.hand.number c.args.enclave c.args.to c.args.end s.sweep.words
    = ap (λ (r : Reply). swept s.sweep.words (stamp_of s.hand.number (Survey c.args.enclave (To c.args.to) []) [] r 0)) c.reply_to.ensures.reply ∙ draft_is s.hand.number c.args.enclave c.args.to s.sweep.words c.args.end in
    let is : c.draft_sweep.new.self ≡ drafted s c.args.enclave c.args.to c.args.end
    = c.draft_sweep.ensures ∙ ((λ i. record (c.set.ensures i) { draft = swept (c.set.ensures i).sweep.words (c.set.ensures i).draft }) ∙ (λ i. record s { draft = words i })) in
    surveyed s c.args.enclave c.args.clock.now c.args.to c.args.end c.requires.may c.stamp.result c.stamp.new.pass (subst (λ (y : PassState). HasStamped y c.stamp.result c.stamp.new.pass) is c.stamp.ensures.stamped)
