use Rattle.std.proofs.Common.{◌≡◌, ◌-◌, ◌∙◌, refl, slice_index, slice_index_or, subst, sym}
use Rattle.std.proofs.lemmas.Bool.{true≢false}
use Rattle.eleos_base.specs.Plans.{IsCaller, enclave_of}
use Rattle.eleos_core.specs.Cells.{Cells}
use Rattle.eleos_core.specs.Quiet.{IsStarving, IsWaiting}
use Rattle.eleos_core.proofs.WaitingPages.{starving_decides}
use Rattle.eleos_core.proofs.machine.Core.starved_offence.Goals as goal

pub returns-then-is_all_taken-clause-legal : goal.returns-then-is_all_taken-clause-legal
returns-then-is_all_taken-clause-legal c =
    let s = c.self.inside in
    let caller : IsCaller s.plan c.args.who = subst (λ (m : Cells). IsCaller m.plan c.args.who) (sym c.self.view_is) c.requires in
    let own : c.deref.result.now ≡ slice_index_or s.clocks.items (enclave_of s.plan c.args.who) c.deref.result.now
    = subst (λ z. z ≡ slice_index_or s.clocks.items (enclave_of s.plan c.args.who) z) (sym (c.deref.ensures.value ∙ c.behind-self.view_is))
    (subst (λ list. c.index.result.now ≡ slice_index_or s.clocks.items (slice_index list (c.args.who - 1)) c.index.result.now) c.as_slice.ensures c.index.ensures) in (
      (λ _. subst (λ (m : Cells). IsStarving m c.args.who c.args.wanted.now c.args.sweep.now) c.self.view_is
          ((starving_decides s.plan s.live.items s.clocks.items s.pages.items s.frames.items s.links.items c.self.invariant c.args.who c.args.wanted.now c.args.sweep.now c.deref.result.now c.is_all_taken.result caller own
          (subst (λ (m : Cells). IsWaiting m c.args.who c.args.wanted.now) (sym c.self.view_is) (c.waiting_offence.ensures.legal.0 c.in_default.is)) c.is_all_taken.ensures).0 (cc))),
      (λ _. refl),
    )

pub returns-else-is_all_taken-clause-legal : goal.returns-else-is_all_taken-clause-legal
returns-else-is_all_taken-clause-legal c =
    let s = c.self.inside in
    let caller : IsCaller s.plan c.args.who = subst (λ (m : Cells). IsCaller m.plan c.args.who) (sym c.self.view_is) c.requires in
    let own : c.deref.result.now ≡ slice_index_or s.clocks.items (enclave_of s.plan c.args.who) c.deref.result.now
    = subst (λ z. z ≡ slice_index_or s.clocks.items (enclave_of s.plan c.args.who) z) (sym (c.deref.ensures.value ∙ c.behind-self.view_is))
    (subst (λ list. c.index.result.now ≡ slice_index_or s.clocks.items (slice_index list (c.args.who - 1)) c.index.result.now) c.as_slice.ensures c.index.ensures) in (
      (λ wrong. absurd (cc)),
      (λ starving. absurd (true≢false (sym
          ((starving_decides s.plan s.live.items s.clocks.items s.pages.items s.frames.items s.links.items c.self.invariant c.args.who c.args.wanted.now c.args.sweep.now c.deref.result.now c.is_all_taken.result caller own
          (subst (λ (m : Cells). IsWaiting m c.args.who c.args.wanted.now) (sym c.self.view_is) (c.waiting_offence.ensures.legal.0 c.in_default.is)) c.is_all_taken.ensures).1
          (subst (λ (m : Cells). IsStarving m c.args.who c.args.wanted.now c.args.sweep.now) (sym c.self.view_is) starving)) ∙ (cc)))),
    )
