use Rattle.std.proofs.Common.{◌<◌, [], length, refl, sym, ◌∙◌, ap, subst}
use Rattle.eleos_base.specs.declared.memory.Addr.{Addr}
use Rattle.eleos_base.specs.declared.memory.Op.TheVariants.{Read}
use Rattle.eleos_base.specs.Answers.{read_reply}
use Rattle.eleos_core.specs.Accesses.{page_at}
use Rattle.eleos_core.specs.Parts.{page_cell}
use Rattle.eleos_plot.specs.Terms.{core_terms}
use Rattle.eleos_turn.specs.Hands.{links_on}
use Rattle.eleos_machine.specs.Passes.{plan_of}
use Rattle.eleos_machine.specs.Pointers.{place_of}
use Rattle.eleos_spointer.specs.Accessed.{HasAccessed}
use Rattle.eleos_spointer.proofs.Accessing.{accessed_call, link_after, pointers_after, pointers_entered}
use Rattle.eleos_spointer.proofs.Stepping.{link_of, placed_of, same_pointer, small_of}
use Rattle.eleos_spointer.proofs.reads.read.Goals as goal

pub place_of-at-requires : goal.place_of-at-requires
place_of-at-requires g c = small_of c.args.pass.now c.args.id c.in-Some.pointer c.requires.pointers (sym c.pointer.ensures ∙ c.in-Some.is)

pub begin_access-requires-clause-placed : goal.begin_access-requires-clause-placed
begin_access-requires-clause-placed g c = placed_of c.args.pass.now c.args.id c.in-Some.pointer c.requires.pointers (sym c.pointer.ensures ∙ c.in-Some.is)

pub begin_access-requires-clause-link : goal.begin_access-requires-clause-link
begin_access-requires-clause-link g c = link_of c.args.pass.now c.args.id c.in-Some.pointer c.requires.pointers (sym c.pointer.ensures ∙ c.in-Some.is) c.requires.linked

pub returns-in_default-begin_access-clause-pointers : goal.returns-in_default-begin_access-clause-pointers
returns-in_default-begin_access-clause-pointers g c = pointers_entered c.args.pass.now c.begin_access.new.pass _ [] c.in_default-begin_access.ensures.refused.entered c.begin_access.ensures.lawful c.requires.pointers

pub read_held-requires-clause-link : goal.read_held-requires-clause-link
read_held-requires-clause-link g c =
    link_after c.args.m.now c.args.pass.now c.begin_access.new.pass c.take-taken.new.pass c.in-Some.pointer c.args.pass.now.hand.number (length c.args.buf.now) c.in-Some-begin_access.cell c.take-taken.result.word c.take-taken.result.value c.requires.can.own
    c.in-Some-begin_access.ensures.kept c.take-taken.ensures.took c.in-Some-begin_access.ensures.found (link_of c.args.pass.now c.args.id c.in-Some.pointer c.requires.pointers (sym c.pointer.ensures ∙ c.in-Some.is) c.requires.linked)

pub returns-clause-accessed : goal.returns-clause-accessed
returns-clause-accessed g c = λ pointer is.
    subst (λ (a : Addr). HasAccessed c.args.pass.now a (Read a (length c.args.buf.now)) (read_reply c.read_held.result c.read_held.new.buf) c.read_held.new.pass) (c.place_of-at.ensures ∙ ap place_of (same_pointer c.args.pass.now c.args.id c.in-Some.pointer pointer (sym c.pointer.ensures ∙ c.in-Some.is) is))
    (accessed_call c.args.pass.now c.begin_access.new.pass c.take-taken.new.pass c.read_held.new.pass c.place_of-at.result (length c.args.buf.now) (Read c.place_of-at.result (length c.args.buf.now)) (read_reply c.read_held.result c.read_held.new.buf) c.in-Some-begin_access.cell c.take-taken.result.word c.take-taken.result.value c.in-Some-begin_access.ensures.kept c.requires.can.no_turn c.take-taken.ensures.took c.read_held.ensures.entered c.read_held.ensures.lawful (refl, refl)
    (subst (λ (a : Addr). 0 < links_on core_terms c.args.pass.now.hand (page_cell (plan_of c.args.pass.now) (page_at (plan_of c.args.pass.now) a))) (sym c.place_of-at.ensures) (link_of c.args.pass.now c.args.id c.in-Some.pointer c.requires.pointers (sym c.pointer.ensures ∙ c.in-Some.is) c.requires.linked)))

pub returns-clause-pointers : goal.returns-clause-pointers
returns-clause-pointers g c = pointers_after c.args.pass.now c.begin_access.new.pass c.take-taken.new.pass c.read_held.new.pass c.place_of-at.result (length c.args.buf.now) (Read c.place_of-at.result (length c.args.buf.now)) (read_reply c.read_held.result c.read_held.new.buf) c.in-Some-begin_access.cell c.take-taken.result.word c.take-taken.result.value c.in-Some-begin_access.ensures.kept c.requires.can.no_turn c.take-taken.ensures.took c.read_held.ensures.entered c.read_held.ensures.lawful c.requires.pointers
