use Rattle.std.proofs.Common.{ℕ, ◌≤◌, Result, Ok, Err, sym, ◌∙◌, ap, subst}
use Rattle.std.proofs.lemmas.Result.{err_from_is_err_and}
use Rattle.eleos_base.specs.declared.memory.Addr.{Addr}
use Rattle.eleos_core.specs.declared.event.Wanted.TheVariants.{Link as ALink}
use Rattle.eleos_machine.specs.declared.holding.HeldPage.{HeldPage}
use Rattle.eleos_machine.specs.declared.pointers.Pointer.{Pointer}
use Rattle.eleos_machine.specs.Passes.{PassState}
use Rattle.eleos_spointer.specs.declared.links.Linked.{Linked}
use Rattle.eleos_spointer.specs.declared.links.Linked.TheVariants.{Now}
use Rattle.eleos_spointer.specs.declared.refusing.LinkRefused.{LinkRefused}
use Rattle.eleos_spointer.specs.Brought.{Accepts, Brings, Fetches, MayFetch}
use Rattle.eleos_spointer.specs.Judged.{MayJudge, Refuses}
use Rattle.eleos_spointer.specs.Linked.{Links}
use Rattle.eleos_spointer.proofs.Linking.{failed, failed_pointers, linked, linked_pointers, may_fetch, may_judge, may_tie, refused, refused_pointers}
use Rattle.eleos_spointer.proofs.Stepping.{placed_of, same_pointer, small_of}
use Rattle.eleos_spointer.proofs.links.link.Goals as goal

pub place_of-at-requires : goal.place_of-at-requires
place_of-at-requires g c = small_of c.args.pass.now c.args.id c.in-Some.pointer c.requires.pointers (sym c.pointer.ensures ∙ c.in-Some.is)

pub take_page-page-requires-clause-placed : goal.take_page-page-requires-clause-placed
take_page-page-requires-clause-placed g c = placed_of c.args.pass.now c.args.id c.in-Some.pointer c.requires.pointers (sym c.pointer.ensures ∙ c.in-Some.is)

pub judge-requires : goal.judge-requires
judge-requires g c = record {
  may = subst (λ (a : Addr). MayJudge c.args.m.now c.take_page-page.new.pass a c.take_page-page.result) (sym c.place_of-at.ensures)
      (may_judge c.args.m.now c.args.pass.now c.args.id c.in-Some.pointer c.requires.can c.requires.left c.requires.pointers (sym c.pointer.ensures ∙ c.in-Some.is) c.if-pointer.false c.take_page-page.result c.take_page-page.new.pass c.take_page-page.ensures);
}

pub returns-in_err-page-clause-links : goal.returns-in_err-page-clause-links
returns-in_err-page-clause-links g c = λ pointer is.
    let p = err_from_is_err_and c.from_residual.result c.from_residual.ensures.1 in
    subst (λ (r : Result Linked LinkRefused). Links g.P.HostPort g.P.HostStore c.args.pass.now c.args.tap.now c.args.id pointer r c.judge.new.pass c.args.tap.now) (sym (p.1 ∙ ap Err p.2))
    (subst (λ (p : Pointer). Links g.P.HostPort g.P.HostStore c.args.pass.now c.args.tap.now c.args.id p (Err c.in_err-page.field-0.0) c.judge.new.pass c.args.tap.now) (same_pointer c.args.pass.now c.args.id c.in-Some.pointer pointer (sym c.pointer.ensures ∙ c.in-Some.is) is)
    (refused c.args.m.now c.args.pass.now c.args.id c.in-Some.pointer c.requires.can c.requires.left c.requires.pointers (sym c.pointer.ensures ∙ c.in-Some.is) c.if-pointer.false c.take_page-page.result c.take_page-page.new.pass c.take_page-page.ensures g.P.HostPort g.P.HostStore c.args.tap.now c.in_err-page.field-0.0 c.judge.new.pass
    (subst (λ (a : Addr). Refuses c.take_page-page.new.pass a c.in_err-page.field-0.0 c.judge.new.pass) c.place_of-at.ensures c.in_err-page.ensures)))

pub returns-in_err-page-clause-pointers : goal.returns-in_err-page-clause-pointers
returns-in_err-page-clause-pointers g c = refused_pointers c.args.m.now c.args.pass.now c.args.id c.in-Some.pointer c.requires.can c.requires.left c.requires.pointers (sym c.pointer.ensures ∙ c.in-Some.is) c.if-pointer.false c.take_page-page.result c.take_page-page.new.pass c.take_page-page.ensures c.in_err-page.field-0.0 c.judge.new.pass
    (subst (λ (a : Addr). Refuses c.take_page-page.new.pass a c.in_err-page.field-0.0 c.judge.new.pass) c.place_of-at.ensures c.in_err-page.ensures)

pub fetch-requires-clause-may : goal.fetch-requires-clause-may
fetch-requires-clause-may g c = subst (λ (y : HeldPage × PassState × Addr). MayFetch c.args.m.now y.1 y.0 c.in-Some.pointer.block.enclave (ALink y.2)) (λ i. (sym c.in_ok-page.ensures.0 i, sym c.in_ok-page.ensures.1 i, sym c.place_of-at.ensures i))
    (may_fetch c.args.m.now c.args.pass.now c.args.id c.in-Some.pointer c.requires.can c.requires.left c.requires.pointers (sym c.pointer.ensures ∙ c.in-Some.is) c.if-pointer.false c.take_page-page.result c.take_page-page.new.pass c.take_page-page.ensures (subst (λ (a : Addr). Accepts c.take_page-page.new.pass c.take_page-page.result (ALink a)) c.place_of-at.ensures c.in_ok-page.ensures.2))

pub returns-in_err-page-2-clause-links : goal.returns-in_err-page-2-clause-links
returns-in_err-page-2-clause-links g c = λ pointer is.
    let p = err_from_is_err_and c.from_residual-in_err-page-2.result c.from_residual-in_err-page-2.ensures.1 in
    subst (λ (r : Result Linked LinkRefused). Links g.P.HostPort g.P.HostStore c.args.pass.now c.args.tap.now c.args.id pointer r c.fetch.new.pass c.fetch.new.tap) (sym (p.1 ∙ ap Err p.2))
    (subst (λ (p : Pointer). Links g.P.HostPort g.P.HostStore c.args.pass.now c.args.tap.now c.args.id p (Err c.in_err-page-2.field-0.0) c.fetch.new.pass c.fetch.new.tap) (same_pointer c.args.pass.now c.args.id c.in-Some.pointer pointer (sym c.pointer.ensures ∙ c.in-Some.is) is)
    (failed c.args.m.now c.args.pass.now c.args.id c.in-Some.pointer c.requires.can c.requires.left c.requires.pointers (sym c.pointer.ensures ∙ c.in-Some.is) c.if-pointer.false c.take_page-page.result c.take_page-page.new.pass c.take_page-page.ensures (subst (λ (a : Addr). Accepts c.take_page-page.new.pass c.take_page-page.result (ALink a)) c.place_of-at.ensures c.in_ok-page.ensures.2) g.P.HostPort g.P.HostStore c.args.tap.now c.in_err-page-2.field-0.0 c.fetch.new.pass c.fetch.new.tap
    (subst (λ (y : HeldPage × PassState × Addr). Brings g.P.HostPort g.P.HostStore y.1 c.args.tap.now y.0 (ALink y.2) (Err c.in_err-page-2.field-0.0) c.fetch.new.pass c.fetch.new.tap) (λ i. (c.in_ok-page.ensures.0 i, c.in_ok-page.ensures.1 i, c.place_of-at.ensures i)) c.in_err-page-2.ensures)))

pub returns-in_err-page-2-clause-pointers : goal.returns-in_err-page-2-clause-pointers
returns-in_err-page-2-clause-pointers g c = failed_pointers c.args.m.now c.args.pass.now c.args.id c.in-Some.pointer c.requires.can c.requires.left c.requires.pointers (sym c.pointer.ensures ∙ c.in-Some.is) c.if-pointer.false c.take_page-page.result c.take_page-page.new.pass c.take_page-page.ensures (subst (λ (a : Addr). Accepts c.take_page-page.new.pass c.take_page-page.result (ALink a)) c.place_of-at.ensures c.in_ok-page.ensures.2) g.P.HostPort g.P.HostStore c.args.tap.now c.in_err-page-2.field-0.0 c.fetch.new.pass c.fetch.new.tap
    (subst (λ (y : HeldPage × PassState × Addr). Brings g.P.HostPort g.P.HostStore y.1 c.args.tap.now y.0 (ALink y.2) (Err c.in_err-page-2.field-0.0) c.fetch.new.pass c.fetch.new.tap) (λ i. (c.in_ok-page.ensures.0 i, c.in_ok-page.ensures.1 i, c.place_of-at.ensures i)) c.in_err-page-2.ensures)

pub tie-requires : goal.tie-requires
tie-requires g c = record {
  may = may_tie c.args.m.now c.args.pass.now c.args.id c.in-Some.pointer c.requires.can c.requires.left c.requires.pointers (sym c.pointer.ensures ∙ c.in-Some.is) c.if-pointer.false c.take_page-page.result c.take_page-page.new.pass c.take_page-page.ensures (subst (λ (a : Addr). Accepts c.take_page-page.new.pass c.take_page-page.result (ALink a)) c.place_of-at.ensures c.in_ok-page.ensures.2) g.P.HostPort g.P.HostStore c.args.tap.now c.in_ok-page-2.page c.fetch.new.pass c.fetch.new.tap
      (subst (λ (y : HeldPage × PassState × Addr). Fetches g.P.HostPort g.P.HostStore y.1 c.args.tap.now y.0 (ALink y.2) (Ok c.in_ok-page-2.page) c.fetch.new.pass c.fetch.new.tap) (λ i. (c.in_ok-page.ensures.0 i, c.in_ok-page.ensures.1 i, c.place_of-at.ensures i)) c.in_ok-page-2.ensures)
      (subst (λ (n : ℕ). n ≤ 256) c.pointer_count.ensures.count c.pointer_count.ensures.few);
}

pub returns-clause-links : goal.returns-clause-links
returns-clause-links g c = λ pointer is.
    subst (λ (p : Pointer). Links g.P.HostPort g.P.HostStore c.args.pass.now c.args.tap.now c.args.id p (Ok Now) c.tie.new.pass c.fetch.new.tap) (same_pointer c.args.pass.now c.args.id c.in-Some.pointer pointer (sym c.pointer.ensures ∙ c.in-Some.is) is)
    (linked c.args.m.now c.args.pass.now c.args.id c.in-Some.pointer c.requires.can c.requires.left c.requires.pointers (sym c.pointer.ensures ∙ c.in-Some.is) c.if-pointer.false c.take_page-page.result c.take_page-page.new.pass c.take_page-page.ensures (subst (λ (a : Addr). Accepts c.take_page-page.new.pass c.take_page-page.result (ALink a)) c.place_of-at.ensures c.in_ok-page.ensures.2) g.P.HostPort g.P.HostStore c.args.tap.now c.in_ok-page-2.page c.fetch.new.pass c.fetch.new.tap
    (subst (λ (y : HeldPage × PassState × Addr). Fetches g.P.HostPort g.P.HostStore y.1 c.args.tap.now y.0 (ALink y.2) (Ok c.in_ok-page-2.page) c.fetch.new.pass c.fetch.new.tap) (λ i. (c.in_ok-page.ensures.0 i, c.in_ok-page.ensures.1 i, c.place_of-at.ensures i)) c.in_ok-page-2.ensures)
    c.tie.new.pass c.tie.ensures)

pub returns-clause-pointers : goal.returns-clause-pointers
returns-clause-pointers g c = linked_pointers c.args.m.now c.args.pass.now c.args.id c.in-Some.pointer c.requires.can c.requires.left c.requires.pointers (sym c.pointer.ensures ∙ c.in-Some.is) c.if-pointer.false c.take_page-page.result c.take_page-page.new.pass c.take_page-page.ensures (subst (λ (a : Addr). Accepts c.take_page-page.new.pass c.take_page-page.result (ALink a)) c.place_of-at.ensures c.in_ok-page.ensures.2) g.P.HostPort g.P.HostStore c.args.tap.now c.in_ok-page-2.page c.fetch.new.pass c.fetch.new.tap
    (subst (λ (y : HeldPage × PassState × Addr). Fetches g.P.HostPort g.P.HostStore y.1 c.args.tap.now y.0 (ALink y.2) (Ok c.in_ok-page-2.page) c.fetch.new.pass c.fetch.new.tap) (λ i. (c.in_ok-page.ensures.0 i, c.in_ok-page.ensures.1 i, c.place_of-at.ensures i)) c.in_ok-page-2.ensures)
    c.tie.new.pass c.tie.ensures
