use Rattle.std.proofs.Common.{◌≡◌, ◌<◌, ◌∙◌, [], length, None, ap, arith, refl, subst, sym}
use Rattle.eleos_base.specs.declared.memory.Reply.TheVariants.{Text}
use Rattle.eleos_core.specs.Accesses.{refusal_for}
use Rattle.eleos_core.specs.Cells.{IsPresent, part_of_page, piece}
use Rattle.eleos_base.specs.Places.{all_frames}
use Rattle.eleos_core.proofs.PageParts.{length-piece}
use Rattle.eleos_core.proofs.Spots.{IsInRange, range_is}
use Rattle.eleos_core.proofs.Reading.{read_present, read_refused, refusal-found}
use Rattle.eleos_core.proofs.accesses.reads.read_present.Goals as goal

pub returns-in-Some-clause-reads : goal.returns-in-Some-clause-reads
returns-in-Some-clause-reads c = λ x.
    let inside : c.spot_of-spot.result.index < length c.args.page.now.subs.items = (let whole = c.requires.page.whole in let in_page = c.spot_of-spot.ensures.in_page in omega arith) in
    read_refused c.args.plan.now x c.args.who c.args.at (length c.args.buf.now) c.args.page.now [] _
    (refusal-found c.args.plan.now c.args.who c.args.at (length c.args.buf.now) c.args.page.now c.spot_of-spot.result c.index.result.now c.spot_of-spot.ensures inside c.index.ensures c.requires.range
    ∙ sym c.in-Some.ensures) refl

pub copy_from-requires : goal.copy_from-requires
copy_from-requires c =
    let range : IsInRange c.args.plan.now c.args.who c.args.at (length c.args.buf.now) = range_is c.args.plan.now c.args.who c.args.at (length c.args.buf.now) c.requires.range in
    let size : length c.deref.result.now ≡ 4096 = ap length c.deref.ensures.value ∙ (subst (IsPresent (all_frames c.args.plan.now)) c.in-Some-present.is c.requires.page.present).1 in
    let in_page = c.spot_of-spot.ensures.in_page in
    let from = c.spot_of-spot.ensures.from in
    let one = range.in_one in
    let long : length c.piece_of.result.now ≡ 1024 = ap length c.piece_of.ensures ∙ length-piece c.deref.result.now c.spot_of-spot.result.index (omega arith) in
    omega arith

pub returns-clause-reads : goal.returns-clause-reads
returns-clause-reads c = λ x.
    let inside : c.spot_of-spot.result.index < length c.args.page.now.subs.items = (let whole = c.requires.page.whole in let in_page = c.spot_of-spot.ensures.in_page in omega arith) in
    let accepted : refusal_for c.args.plan.now c.args.who c.args.at (length c.args.buf.now) (part_of_page c.args.page.now) ≡ None
    = refusal-found c.args.plan.now c.args.who c.args.at (length c.args.buf.now) c.args.page.now c.spot_of-spot.result c.index.result.now c.spot_of-spot.ensures inside c.index.ensures c.requires.range
    ∙ sym c.in_default.ensures in
    read_present c.args.plan.now x c.args.who c.args.at (length c.args.buf.now) c.args.page.now c.spot_of-spot.result accepted c.spot_of-spot.ensures inside
    [] c.in-Some-present.present c.piece_of.result.now _ c.in-Some-present.is refl
    (c.piece_of.ensures ∙ ap (piece c.spot_of-spot.result.index) c.deref.ensures.value) (ap Text c.copy_from.ensures)
