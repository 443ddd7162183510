use Rattle.std.proofs.Common.{◌≡◌, ◌<◌, ◌∙◌, [], length, ap, arith, refl, sym, subst, option_map, Ok, Err}
use Rattle.eleos_base.specs.Answers.{access_refusal_reply, read_reply}
use Rattle.eleos_base.specs.Places.{sub_of}
use Rattle.eleos_core.specs.Accesses.{ReadsOn}
use Rattle.eleos_core.specs.Cells.{part_of_page}
use Rattle.eleos_core.specs.Seals.{seals_by}
use Rattle.eleos_core.proofs.Reading.{read_refused, refusal-found}
use Rattle.eleos_host.specs.Taps.{block_of, failed_block}
use Rattle.eleos_pages.specs.Crossed.{Crosses, at_place, came, spoiled_by}
use Rattle.eleos_pages.proofs.CrossedBlocks.{came-idle, crosses-as, crosses-failed, lies_as_it_came, names_came, none-spoiled, takes_came}
use Rattle.eleos_pages.proofs.reading.read_page.Goals as goal

pub returns-then-is_some-clause-failed : goal.returns-then-is_some-clause-failed
returns-then-is_some-clause-failed g c =
    let reply = read_reply c.read_present.result c.read_present.new.buf in
    ap (option_map (block_of c.args.tap.now)) c.requires.ready.no_failure ∙ sym (ap (spoiled_by reply) (came-idle c.args.tap.now c.requires.ready.idle) ∙ none-spoiled reply)

pub returns-in-Some-clause-reads : goal.returns-in-Some-clause-reads
returns-in-Some-clause-reads g c =
    let inside : c.spot_of-spot.result.index < length c.args.page.now.subs.items = (let whole = c.requires.page.whole in let in_page = c.spot_of-spot.ensures.in_page in omega arith) in
    read_refused c.args.plan.now (seals_by (g.S.Sealer.key c.args.sealer.now)) c.args.who c.args.at (length c.args.buf.now) c.args.page.now _ _
    (refusal-found c.args.plan.now c.args.who c.args.at (length c.args.buf.now) c.args.page.now c.spot_of-spot.result c.index-sub.result.now c.spot_of-spot.ensures inside c.index-sub.ensures c.requires.range
    ∙ sym c.in-Some.ensures) (came-idle c.args.tap.now c.requires.ready.idle)

pub read_absent-requires-clause-accepted : goal.read_absent-requires-clause-accepted
read_absent-requires-clause-accepted g c =
    let inside : c.spot_of-spot.result.index < length c.args.page.now.subs.items = (let whole = c.requires.page.whole in let in_page = c.spot_of-spot.ensures.in_page in omega arith) in
    refusal-found c.args.plan.now c.args.who c.args.at (length c.args.buf.now) c.args.page.now c.spot_of-spot.result c.index-sub.result.now c.spot_of-spot.ensures inside c.index-sub.ensures c.requires.range
    ∙ sym c.in_default.ensures

pub fail-requires-clause-came : goal.fail-requires-clause-came
fail-requires-clause-came g c =
    lies_as_it_came c.args.plan.now c.args.at c.args.page.now c.spot_of-spot.result c.index-sub.result.now c.spot_of-spot.ensures c.requires.page.whole (sym c.is_some.ensures ∙ c.if-is_some.false) c.index-sub.ensures c.fetch_for-has_block.new.tap c.fetch_for-has_block.ensures.block (rw c.in-Err.is at c.read_absent.ensures.spoiled)

pub returns-in-Ok-clause-reads : goal.returns-in-Ok-clause-reads
returns-in-Ok-clause-reads g c =
    let here = takes_came c.args.plan.now c.args.at c.args.page.now c.spot_of-spot.result c.index-sub.result.now c.spot_of-spot.ensures c.requires.page.whole (sym c.is_some.ensures ∙ c.if-is_some.false) c.index-sub.ensures c.fetch_for-has_block.new.tap c.fetch_for-has_block.ensures.block _ c.block.ensures.bytes in
    subst (λ bs. ReadsOn c.args.plan.now (seals_by (g.S.Sealer.key c.args.sealer.now)) c.args.who c.args.at (length c.args.buf.now) bs (part_of_page c.args.page.now) (read_reply (Ok tt) c.read_absent.new.buf)) here
    (rw c.in-Ok.is at c.read_absent.ensures.reads)

pub returns-in-Err-clause-reads : goal.returns-in-Err-clause-reads
returns-in-Err-clause-reads g c =
    let here = takes_came c.args.plan.now c.args.at c.args.page.now c.spot_of-spot.result c.index-sub.result.now c.spot_of-spot.ensures c.requires.page.whole (sym c.is_some.ensures ∙ c.if-is_some.false) c.index-sub.ensures c.fetch_for-has_block.new.tap c.fetch_for-has_block.ensures.block _ c.block.ensures.bytes in
    subst (λ bs. ReadsOn c.args.plan.now (seals_by (g.S.Sealer.key c.args.sealer.now)) c.args.who c.args.at (length c.args.buf.now) bs (part_of_page c.args.page.now) (read_reply (Err c.in-Err.refused) c.read_absent.new.buf)) (here ∙ ap came (sym c.fail.ensures))
    (rw c.in-Err.is at c.read_absent.ensures.reads)

pub returns-in-Ok-clause-crossed : goal.returns-in-Ok-clause-crossed
returns-in-Ok-clause-crossed g c =
    crosses-as g.P.HostPort g.P.HostStore c.args.tap.now c.fetch_for-has_block.new.tap _ _ _ _ _ c.fetch_for-has_block.ensures.crossed c.spot_of-spot.ensures.place refl

pub returns-in-Err-clause-crossed : goal.returns-in-Err-clause-crossed
returns-in-Err-clause-crossed g c =
    subst (λ t. Crosses g.P.HostPort g.P.HostStore c.args.tap.now t (at_place (sub_of c.args.plan.now c.args.at) (came t)) []) (sym c.fail.ensures)
    (crosses-failed g.P.HostPort g.P.HostStore c.args.tap.now c.fetch_for-has_block.new.tap 0 _ []
    (crosses-as g.P.HostPort g.P.HostStore c.args.tap.now c.fetch_for-has_block.new.tap _ _ _ _ _ c.fetch_for-has_block.ensures.crossed c.spot_of-spot.ensures.place refl))

pub returns-in-Err-clause-failed : goal.returns-in-Err-clause-failed
returns-in-Err-clause-failed g c =
    subst (λ t. failed_block t ≡ spoiled_by (access_refusal_reply c.in-Err.refused) (came t)) (sym c.fail.ensures)
    (names_came c.args.plan.now c.args.at c.args.page.now c.spot_of-spot.result c.index-sub.result.now c.spot_of-spot.ensures c.requires.page.whole (sym c.is_some.ensures ∙ c.if-is_some.false) c.index-sub.ensures c.fetch_for-has_block.new.tap c.fetch_for-has_block.ensures.block _ (access_refusal_reply c.in-Err.refused) (rw c.in-Err.is at c.read_absent.ensures.spoiled) (ap access_refusal_reply (rw c.in-Err.is at c.read_absent.ensures.tampered)))
