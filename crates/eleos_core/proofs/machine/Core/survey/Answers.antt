use Rattle.std.proofs.Common.{◌≡◌, ◌<◌, ◌∙◌, IfSome, length, slice_index_or, subst, sym}
use Rattle.eleos_core.specs.Applying.{Makes}
use Rattle.eleos_core.specs.Cells.{Cells}
use Rattle.eleos_core.specs.Legal.{IsActor}
use Rattle.eleos_core.specs.Quiet.{IsSurveyed, survey_stamp}
use Rattle.eleos_core.proofs.QuietEvents.{survey_is, survey_makes}
use Rattle.eleos_core.proofs.machine.Core.survey.Goals as goal

pub returns-clause-reply : goal.returns-clause-reply
returns-clause-reply c =
    let s = c.self.inside in
    let inside : c.args.enclave < length s.plan.enclaves = subst (λ (m : Cells). c.args.enclave < length m.plan.enclaves) (sym c.self.view_is) c.requires in
    let own : c.deref.result.now ≡ slice_index_or s.clocks.items c.args.enclave c.deref.result.now
    = subst (λ z. z ≡ slice_index_or s.clocks.items c.args.enclave z) (sym (c.deref.ensures.value ∙ c.behind-self.view_is)) c.index.ensures in
    let pool : c.deref-2.result.now ≡ slice_index_or s.clocks.items (length s.plan.enclaves) c.deref-2.result.now
    = subst (λ z. z ≡ slice_index_or s.clocks.items (length s.plan.enclaves) z) (sym (c.deref-2.ensures.value ∙ c.behind-self-2.view_is))
    (subst (λ i. c.index-2.result.now ≡ slice_index_or s.clocks.items i c.index-2.result.now) c.len-2.ensures c.index-2.ensures) in
    subst (λ (m : Cells). IsSurveyed m c.args.enclave c.args.goal c.args.sweep.now c.survey_reply.result) c.self.view_is
    (survey_is s.plan s.live.items s.clocks.items s.pages.items s.frames.items s.links.items c.self.invariant c.args.enclave c.args.goal c.args.sweep.now c.deref.result.now c.deref-2.result.now c.survey_reply.result inside own pool c.survey_reply.ensures)

pub returns-clause-makes : goal.returns-clause-makes
returns-clause-makes c = λ x who actor.
    let s = c.self.inside in
    let inside : c.args.enclave < length s.plan.enclaves = subst (λ (m : Cells). c.args.enclave < length m.plan.enclaves) (sym c.self.view_is) c.requires in
    let mine : IsActor s.plan who = subst (λ (m : Cells). IsActor m.plan who) (sym c.self.view_is) actor in
    let own : c.deref.result.now ≡ slice_index_or s.clocks.items c.args.enclave c.deref.result.now
    = subst (λ z. z ≡ slice_index_or s.clocks.items c.args.enclave z) (sym (c.deref.ensures.value ∙ c.behind-self.view_is)) c.index.ensures in
    let pool : c.deref-2.result.now ≡ slice_index_or s.clocks.items (length s.plan.enclaves) c.deref-2.result.now
    = subst (λ z. z ≡ slice_index_or s.clocks.items (length s.plan.enclaves) z) (sym (c.deref-2.ensures.value ∙ c.behind-self-2.view_is))
    (subst (λ i. c.index-2.result.now ≡ slice_index_or s.clocks.items i c.index-2.result.now) c.len-2.ensures c.index-2.ensures) in
    subst (λ (m : Cells). IfSome c.survey_reply.result (λ reply. Makes x (survey_stamp who c.args.enclave c.args.goal c.args.sweep.now reply) m m)) c.self.view_is
    (survey_makes s.plan s.live.items s.clocks.items s.pages.items s.frames.items s.links.items c.self.invariant c.args.enclave c.args.goal c.args.sweep.now c.deref.result.now c.deref-2.result.now c.survey_reply.result inside own pool c.survey_reply.ensures x who mine)
