use Rattle.std.proofs.Common.{ℕ, ◌≤◌, [], Result, Ok, Err, sym, ◌∙◌, ap, subst}
use Rattle.std.proofs.lemmas.Result.{err_from_is_err_and}
use Rattle.eleos_base.specs.declared.memory.Addr.{Addr}
use Rattle.eleos_core.specs.declared.event.Wanted.TheVariants.{Link as ALink}
use Rattle.eleos_machine.specs.declared.holding.HeldPage.{HeldPage}
use Rattle.eleos_machine.specs.declared.pointers.Pointer.{Pointer}
use Rattle.eleos_machine.specs.Passes.{PassState}
use Rattle.eleos_spointer.specs.declared.links.Linked.{Linked}
use Rattle.eleos_spointer.specs.declared.links.Linked.TheVariants.{Now}
use Rattle.eleos_spointer.specs.declared.refusing.TryLinkRefused.{TryLinkRefused}
use Rattle.eleos_spointer.specs.declared.refusing.TryLinkRefused.TheVariants.{Busy, Link}
use Rattle.eleos_spointer.specs.Brought.{Accepts, Fetches, MayFetch, TriesFetch}
use Rattle.eleos_spointer.specs.Judged.{MayJudge, Refuses}
use Rattle.eleos_spointer.specs.Linked.{TriesLink}
use Rattle.eleos_spointer.proofs.Linking.{linked, linked_pointers, may_fetch, may_judge, may_tie, page_busy, pointers_reached, refused, refused_pointers, unfetched, unfetched_pointers}
use Rattle.eleos_spointer.proofs.Stepping.{placed_of, same_pointer, small_of}
use Rattle.eleos_spointer.proofs.links.try_link.Goals as goal

pub place_of-at-requires : goal.place_of-at-requires
place_of-at-requires g c = small_of c.args.pass.now c.args.id c.in-Some.pointer c.requires.pointers (sym c.pointer.ensures ∙ c.in-Some.is)

pub try_take_page-requires-clause-placed : goal.try_take_page-requires-clause-placed
try_take_page-requires-clause-placed g c = placed_of c.args.pass.now c.args.id c.in-Some.pointer c.requires.pointers (sym c.pointer.ensures ∙ c.in-Some.is)

pub returns-in-Err-clause-links : goal.returns-in-Err-clause-links
returns-in-Err-clause-links g c = λ pointer is.
    subst (λ (p : Pointer). TriesLink g.P.HostPort g.P.HostStore c.args.pass.now c.args.tap.now c.args.id p (Err (Busy c.in-Err.busy.word)) c.try_take_page.new.pass c.args.tap.now) (same_pointer c.args.pass.now c.args.id c.in-Some.pointer pointer (sym c.pointer.ensures ∙ c.in-Some.is) is)
    (page_busy c.args.pass.now c.in-Some.pointer c.in-Err.busy.word c.try_take_page.new.pass c.requires.can.no_turn c.in-Err.ensures.busy c.in-Err.ensures.refused c.try_take_page.ensures.lawful g.P.HostPort g.P.HostStore c.args.tap.now)

pub returns-in-Err-clause-pointers : goal.returns-in-Err-clause-pointers
returns-in-Err-clause-pointers g c =
    let b = page_busy c.args.pass.now c.in-Some.pointer c.in-Err.busy.word c.try_take_page.new.pass c.requires.can.no_turn c.in-Err.ensures.busy c.in-Err.ensures.refused c.try_take_page.ensures.lawful g.P.HostPort g.P.HostStore c.args.tap.now in
    pointers_reached c.args.pass.now c.try_take_page.new.pass [] [] b.reaches c.requires.pointers

pub judge-requires : goal.judge-requires
judge-requires g c = record {
  may = subst (λ (a : Addr). MayJudge c.args.m.now c.try_take_page.new.pass a c.in-Ok.page) (sym c.place_of-at.ensures)
      (may_judge c.args.m.now c.args.pass.now c.args.id c.in-Some.pointer c.requires.can c.requires.left c.requires.pointers (sym c.pointer.ensures ∙ c.in-Some.is) c.if-pointer.false c.in-Ok.page c.try_take_page.new.pass c.in-Ok.ensures.took);
}

pub returns-in-Err-judge-clause-links : goal.returns-in-Err-judge-clause-links
returns-in-Err-judge-clause-links g c = λ pointer is.
    subst (λ (p : Pointer). TriesLink g.P.HostPort g.P.HostStore c.args.pass.now c.args.tap.now c.args.id p (Err (Link c.in-Err-judge.refused)) c.judge.new.pass c.args.tap.now) (same_pointer c.args.pass.now c.args.id c.in-Some.pointer pointer (sym c.pointer.ensures ∙ c.in-Some.is) is)
    (refused c.args.m.now c.args.pass.now c.args.id c.in-Some.pointer c.requires.can c.requires.left c.requires.pointers (sym c.pointer.ensures ∙ c.in-Some.is) c.if-pointer.false c.in-Ok.page c.try_take_page.new.pass c.in-Ok.ensures.took g.P.HostPort g.P.HostStore c.args.tap.now c.in-Err-judge.refused c.judge.new.pass
    (subst (λ (a : Addr). Refuses c.try_take_page.new.pass a c.in-Err-judge.refused c.judge.new.pass) c.place_of-at.ensures c.in-Err-judge.ensures))

pub returns-in-Err-judge-clause-pointers : goal.returns-in-Err-judge-clause-pointers
returns-in-Err-judge-clause-pointers g c = refused_pointers c.args.m.now c.args.pass.now c.args.id c.in-Some.pointer c.requires.can c.requires.left c.requires.pointers (sym c.pointer.ensures ∙ c.in-Some.is) c.if-pointer.false c.in-Ok.page c.try_take_page.new.pass c.in-Ok.ensures.took c.in-Err-judge.refused c.judge.new.pass
    (subst (λ (a : Addr). Refuses c.try_take_page.new.pass a c.in-Err-judge.refused c.judge.new.pass) c.place_of-at.ensures c.in-Err-judge.ensures)

pub try_fetch-requires-clause-may : goal.try_fetch-requires-clause-may
try_fetch-requires-clause-may g c = subst (λ (y : HeldPage × PassState × Addr). MayFetch c.args.m.now y.1 y.0 c.in-Some.pointer.block.enclave (ALink y.2)) (λ i. (sym c.in-Ok-judge.ensures.0 i, sym c.in-Ok-judge.ensures.1 i, sym c.place_of-at.ensures i))
    (may_fetch c.args.m.now c.args.pass.now c.args.id c.in-Some.pointer c.requires.can c.requires.left c.requires.pointers (sym c.pointer.ensures ∙ c.in-Some.is) c.if-pointer.false c.in-Ok.page c.try_take_page.new.pass c.in-Ok.ensures.took (subst (λ (a : Addr). Accepts c.try_take_page.new.pass c.in-Ok.page (ALink a)) c.place_of-at.ensures c.in-Ok-judge.ensures.2))

pub returns-in_err-page-clause-links : goal.returns-in_err-page-clause-links
returns-in_err-page-clause-links g c = λ pointer is.
    let p = err_from_is_err_and c.from_residual.result c.from_residual.ensures.1 in
    subst (λ (r : Result Linked TryLinkRefused). TriesLink g.P.HostPort g.P.HostStore c.args.pass.now c.args.tap.now c.args.id pointer r c.try_fetch.new.pass c.try_fetch.new.tap) (sym (p.1 ∙ ap Err p.2))
    (subst (λ (p : Pointer). TriesLink g.P.HostPort g.P.HostStore c.args.pass.now c.args.tap.now c.args.id p (Err c.in_err-page.field-0.0) c.try_fetch.new.pass c.try_fetch.new.tap) (same_pointer c.args.pass.now c.args.id c.in-Some.pointer pointer (sym c.pointer.ensures ∙ c.in-Some.is) is)
    (unfetched c.args.m.now c.args.pass.now c.args.id c.in-Some.pointer c.requires.can c.requires.left c.requires.pointers (sym c.pointer.ensures ∙ c.in-Some.is) c.if-pointer.false c.in-Ok.page c.try_take_page.new.pass c.in-Ok.ensures.took (subst (λ (a : Addr). Accepts c.try_take_page.new.pass c.in-Ok.page (ALink a)) c.place_of-at.ensures c.in-Ok-judge.ensures.2) g.P.HostPort g.P.HostStore c.args.tap.now c.in_err-page.field-0.0 c.try_fetch.new.pass c.try_fetch.new.tap
    (subst (λ (y : HeldPage × PassState × Addr). TriesFetch g.P.HostPort g.P.HostStore y.1 c.args.tap.now y.0 c.in-Some.pointer.block.enclave (ALink y.2) (Err c.in_err-page.field-0.0) c.try_fetch.new.pass c.try_fetch.new.tap) (λ i. (c.in-Ok-judge.ensures.0 i, c.in-Ok-judge.ensures.1 i, c.place_of-at.ensures i)) c.in_err-page.ensures)))

pub returns-in_err-page-clause-pointers : goal.returns-in_err-page-clause-pointers
returns-in_err-page-clause-pointers g c = unfetched_pointers c.args.m.now c.args.pass.now c.args.id c.in-Some.pointer c.requires.can c.requires.left c.requires.pointers (sym c.pointer.ensures ∙ c.in-Some.is) c.if-pointer.false c.in-Ok.page c.try_take_page.new.pass c.in-Ok.ensures.took (subst (λ (a : Addr). Accepts c.try_take_page.new.pass c.in-Ok.page (ALink a)) c.place_of-at.ensures c.in-Ok-judge.ensures.2) g.P.HostPort g.P.HostStore c.args.tap.now c.in_err-page.field-0.0 c.try_fetch.new.pass c.try_fetch.new.tap
    (subst (λ (y : HeldPage × PassState × Addr). TriesFetch g.P.HostPort g.P.HostStore y.1 c.args.tap.now y.0 c.in-Some.pointer.block.enclave (ALink y.2) (Err c.in_err-page.field-0.0) c.try_fetch.new.pass c.try_fetch.new.tap) (λ i. (c.in-Ok-judge.ensures.0 i, c.in-Ok-judge.ensures.1 i, c.place_of-at.ensures i)) c.in_err-page.ensures)

pub tie-requires : goal.tie-requires
tie-requires g c = record {
  may = may_tie c.args.m.now c.args.pass.now c.args.id c.in-Some.pointer c.requires.can c.requires.left c.requires.pointers (sym c.pointer.ensures ∙ c.in-Some.is) c.if-pointer.false c.in-Ok.page c.try_take_page.new.pass c.in-Ok.ensures.took (subst (λ (a : Addr). Accepts c.try_take_page.new.pass c.in-Ok.page (ALink a)) c.place_of-at.ensures c.in-Ok-judge.ensures.2) g.P.HostPort g.P.HostStore c.args.tap.now c.in_ok-page.page c.try_fetch.new.pass c.try_fetch.new.tap
      (subst (λ (y : HeldPage × PassState × Addr). Fetches g.P.HostPort g.P.HostStore y.1 c.args.tap.now y.0 (ALink y.2) (Ok c.in_ok-page.page) c.try_fetch.new.pass c.try_fetch.new.tap) (λ i. (c.in-Ok-judge.ensures.0 i, c.in-Ok-judge.ensures.1 i, c.place_of-at.ensures i)) c.in_ok-page.ensures)
      (subst (λ (n : ℕ). n ≤ 256) c.pointer_count.ensures.count c.pointer_count.ensures.few);
}

pub returns-clause-links : goal.returns-clause-links
returns-clause-links g c = λ pointer is.
    subst (λ (p : Pointer). TriesLink g.P.HostPort g.P.HostStore c.args.pass.now c.args.tap.now c.args.id p (Ok Now) c.tie.new.pass c.try_fetch.new.tap) (same_pointer c.args.pass.now c.args.id c.in-Some.pointer pointer (sym c.pointer.ensures ∙ c.in-Some.is) is)
    (linked c.args.m.now c.args.pass.now c.args.id c.in-Some.pointer c.requires.can c.requires.left c.requires.pointers (sym c.pointer.ensures ∙ c.in-Some.is) c.if-pointer.false c.in-Ok.page c.try_take_page.new.pass c.in-Ok.ensures.took (subst (λ (a : Addr). Accepts c.try_take_page.new.pass c.in-Ok.page (ALink a)) c.place_of-at.ensures c.in-Ok-judge.ensures.2) g.P.HostPort g.P.HostStore c.args.tap.now c.in_ok-page.page c.try_fetch.new.pass c.try_fetch.new.tap
    (subst (λ (y : HeldPage × PassState × Addr). Fetches g.P.HostPort g.P.HostStore y.1 c.args.tap.now y.0 (ALink y.2) (Ok c.in_ok-page.page) c.try_fetch.new.pass c.try_fetch.new.tap) (λ i. (c.in-Ok-judge.ensures.0 i, c.in-Ok-judge.ensures.1 i, c.place_of-at.ensures i)) c.in_ok-page.ensures)
    c.tie.new.pass c.tie.ensures)

pub returns-clause-pointers : goal.returns-clause-pointers
returns-clause-pointers g c = linked_pointers c.args.m.now c.args.pass.now c.args.id c.in-Some.pointer c.requires.can c.requires.left c.requires.pointers (sym c.pointer.ensures ∙ c.in-Some.is) c.if-pointer.false c.in-Ok.page c.try_take_page.new.pass c.in-Ok.ensures.took (subst (λ (a : Addr). Accepts c.try_take_page.new.pass c.in-Ok.page (ALink a)) c.place_of-at.ensures c.in-Ok-judge.ensures.2) g.P.HostPort g.P.HostStore c.args.tap.now c.in_ok-page.page c.try_fetch.new.pass c.try_fetch.new.tap
    (subst (λ (y : HeldPage × PassState × Addr). Fetches g.P.HostPort g.P.HostStore y.1 c.args.tap.now y.0 (ALink y.2) (Ok c.in_ok-page.page) c.try_fetch.new.pass c.try_fetch.new.tap) (λ i. (c.in-Ok-judge.ensures.0 i, c.in-Ok-judge.ensures.1 i, c.place_of-at.ensures i)) c.in_ok-page.ensures)
    c.tie.new.pass c.tie.ensures
