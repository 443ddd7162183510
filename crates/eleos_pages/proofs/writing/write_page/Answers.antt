use Rattle.std.proofs.Common.{◌≡◌, ◌<◌, ◌∙◌, ◌∷◌, [], length, ap, arith, sym, subst, option_map, Ok, Err}
use Rattle.std.proofs.lemmas.List.{append-nil}
use Rattle.eleos_base.specs.Answers.{access_refusal_reply, write_reply}
use Rattle.eleos_base.specs.Places.{sub_of}
use Rattle.eleos_core.specs.Accesses.{WritesOn, sealed_by}
use Rattle.eleos_core.specs.Cells.{part_of_page}
use Rattle.eleos_core.specs.Seals.{seals_by}
use Rattle.eleos_core.proofs.Writing.{write_goes, write_stopped}
use Rattle.eleos_host.specs.Taps.{block_of, failed_block}
use Rattle.eleos_pages.specs.Crossed.{Crosses, at_place, came, spoiled_by}
use Rattle.eleos_pages.proofs.CrossedBlocks.{came-handed, came-idle, crosses-as, crosses-failed, crosses-none, lies_as_it_came, names_came, none-spoiled, takes_came}
use Rattle.eleos_pages.proofs.CrossedMore.{crosses-same, crosses-then}
use Rattle.eleos_pages.proofs.writing.write_page.Goals as goal

pub returns-in-Some-clause-writes : goal.returns-in-Some-clause-writes
returns-in-Some-clause-writes g c =
    let inside : c.spot_of-spot.result.index < length c.args.page.now.subs.items = (let whole = c.requires.page.whole in let in_page = c.spot_of-spot.ensures.in_page in omega arith) in
    (write_stopped c.args.plan.now (seals_by (g.S.Sealer.key c.args.sealer.now)) c.args.who c.args.at c.args.bytes.now c.args.page.now c.spot_of-spot.result c.index-sub.result.now c.spot_of-spot.ensures inside c.index-sub.ensures c.requires.range
    _ _ (sym c.in-Some.ensures) (came-idle c.args.tap.now c.requires.ready.idle)).on

pub returns-in-Some-clause-crossed : goal.returns-in-Some-clause-crossed
returns-in-Some-clause-crossed g c =
    let inside : c.spot_of-spot.result.index < length c.args.page.now.subs.items = (let whole = c.requires.page.whole in let in_page = c.spot_of-spot.ensures.in_page in omega arith) in
    crosses-none g.P.HostPort g.P.HostStore c.args.tap.now _ _ _ (came-idle c.args.tap.now c.requires.ready.idle)
    (write_stopped c.args.plan.now (seals_by (g.S.Sealer.key c.args.sealer.now)) c.args.who c.args.at c.args.bytes.now c.args.page.now c.spot_of-spot.result c.index-sub.result.now c.spot_of-spot.ensures inside c.index-sub.ensures c.requires.range
    _ _ (sym c.in-Some.ensures) (came-idle c.args.tap.now c.requires.ready.idle)).puts_are

pub write_absent-requires-clause-accepted : goal.write_absent-requires-clause-accepted
write_absent-requires-clause-accepted g c =
    let inside : c.spot_of-spot.result.index < length c.args.page.now.subs.items = (let whole = c.requires.page.whole in let in_page = c.spot_of-spot.ensures.in_page in omega arith) in
    (write_goes c.args.plan.now (seals_by (g.S.Sealer.key c.args.sealer.now)) c.args.who c.args.at c.args.bytes.now c.args.page.now c.spot_of-spot.result c.index-sub.result.now c.spot_of-spot.ensures inside c.index-sub.ensures c.requires.range
    (sym c.in_default.ensures)).0

pub write_absent-requires-clause-fresh : goal.write_absent-requires-clause-fresh
write_absent-requires-clause-fresh g c =
    let inside : c.spot_of-spot.result.index < length c.args.page.now.subs.items = (let whole = c.requires.page.whole in let in_page = c.spot_of-spot.ensures.in_page in omega arith) in
    (write_goes c.args.plan.now (seals_by (g.S.Sealer.key c.args.sealer.now)) c.args.who c.args.at c.args.bytes.now c.args.page.now c.spot_of-spot.result c.index-sub.result.now c.spot_of-spot.ensures inside c.index-sub.ensures c.requires.range
    (sym c.in_default.ensures)).1

pub returns-then-is_some-clause-writes : goal.returns-then-is_some-clause-writes
returns-then-is_some-clause-writes g c =
    subst (λ blocks. WritesOn c.args.plan.now (seals_by (g.S.Sealer.key c.args.sealer.now)) c.args.who c.args.at c.args.bytes.now blocks (part_of_page c.args.page.now) (write_reply c.write_present.result) (part_of_page c.write_present.new.page))
    (sym (came-idle c.args.tap.now c.requires.ready.idle)) (c.write_present.ensures.writes (seals_by (g.S.Sealer.key c.args.sealer.now)))

pub returns-then-is_some-clause-crossed : goal.returns-then-is_some-clause-crossed
returns-then-is_some-clause-crossed g c =
    crosses-none g.P.HostPort g.P.HostStore c.args.tap.now _ _ _ (came-idle c.args.tap.now c.requires.ready.idle)
    (ap (λ blocks. sealed_by c.args.plan.now (seals_by (g.S.Sealer.key c.args.sealer.now)) c.args.who c.args.at c.args.bytes.now blocks (part_of_page c.args.page.now) (write_reply c.write_present.result))
    (came-idle c.args.tap.now c.requires.ready.idle) ∙ c.write_present.ensures.sealed (seals_by (g.S.Sealer.key c.args.sealer.now)))

pub returns-then-is_some-clause-failed : goal.returns-then-is_some-clause-failed
returns-then-is_some-clause-failed g c =
    let reply = write_reply c.write_present.result in
    ap (option_map (block_of c.args.tap.now)) c.requires.ready.no_failure ∙ sym (ap (spoiled_by reply) (came-idle c.args.tap.now c.requires.ready.idle) ∙ none-spoiled reply)

pub fail-requires-clause-came : goal.fail-requires-clause-came
fail-requires-clause-came g c =
    lies_as_it_came c.args.plan.now c.args.at c.args.page.now c.spot_of-spot.result c.index-sub.result.now c.spot_of-spot.ensures c.requires.page.whole (sym c.is_some.ensures ∙ c.if-is_some.false) c.index-sub.ensures c.fetch_for-has_block.new.tap c.fetch_for-has_block.ensures.block (rw c.in-Err.is at c.write_absent.ensures.spoiled)

pub returns-in-Ok-clause-writes : goal.returns-in-Ok-clause-writes
returns-in-Ok-clause-writes g c =
    let here = takes_came c.args.plan.now c.args.at c.args.page.now c.spot_of-spot.result c.index-sub.result.now c.spot_of-spot.ensures c.requires.page.whole (sym c.is_some.ensures ∙ c.if-is_some.false) c.index-sub.ensures c.fetch_for-has_block.new.tap c.fetch_for-has_block.ensures.block _ c.block-block.ensures.bytes in
    let later = ap came c.hand_over.ensures.tap ∙ came-handed c.fetch_for-has_block.new.tap c.write_absent.new.text c.hand_over.new.tap.port in
    subst (λ bs. WritesOn c.args.plan.now (seals_by (g.S.Sealer.key c.args.sealer.now)) c.args.who c.args.at c.args.bytes.now bs (part_of_page c.args.page.now) (write_reply (Ok tt)) (part_of_page c.write_absent.new.page)) (here ∙ sym later)
    (rw c.in-Ok.is at c.write_absent.ensures.writes)

pub returns-in-Ok-clause-crossed : goal.returns-in-Ok-clause-crossed
returns-in-Ok-clause-crossed g c =
    let here = takes_came c.args.plan.now c.args.at c.args.page.now c.spot_of-spot.result c.index-sub.result.now c.spot_of-spot.ensures c.requires.page.whole (sym c.is_some.ensures ∙ c.if-is_some.false) c.index-sub.ensures c.fetch_for-has_block.new.tap c.fetch_for-has_block.ensures.block _ c.block-block.ensures.bytes in
    let later = ap came c.hand_over.ensures.tap ∙ came-handed c.fetch_for-has_block.new.tap c.write_absent.new.text c.hand_over.new.tap.port in
    crosses-same g.P.HostPort g.P.HostStore c.args.tap.now c.hand_over.new.tap _ _ _ _
    (append-nil _ ∙ (λ i. at_place (c.spot_of-spot.ensures.place i) (sym later i)))
    (ap (λ s. (s, c.write_absent.new.text) ∷ []) c.spot_of-spot.ensures.place
    ∙ sym (ap (λ bs. sealed_by c.args.plan.now (seals_by (g.S.Sealer.key c.args.sealer.now)) c.args.who c.args.at c.args.bytes.now bs (part_of_page c.args.page.now) (write_reply (Ok tt))) (sym (here ∙ sym later)) ∙ (rw c.in-Ok.is at c.write_absent.ensures.sealed)))
    (crosses-then g.P.HostPort g.P.HostStore c.args.tap.now c.fetch_for-has_block.new.tap c.hand_over.new.tap _ [] [] _ c.fetch_for-has_block.ensures.crossed c.hand_over.ensures.crossed)

pub returns-in-Err-clause-writes : goal.returns-in-Err-clause-writes
returns-in-Err-clause-writes g c =
    let here = takes_came c.args.plan.now c.args.at c.args.page.now c.spot_of-spot.result c.index-sub.result.now c.spot_of-spot.ensures c.requires.page.whole (sym c.is_some.ensures ∙ c.if-is_some.false) c.index-sub.ensures c.fetch_for-has_block.new.tap c.fetch_for-has_block.ensures.block _ c.block-block.ensures.bytes in
    subst (λ bs. WritesOn c.args.plan.now (seals_by (g.S.Sealer.key c.args.sealer.now)) c.args.who c.args.at c.args.bytes.now bs (part_of_page c.args.page.now) (write_reply (Err c.in-Err.refused)) (part_of_page c.write_absent.new.page)) (here ∙ ap came (sym c.fail.ensures))
    (rw c.in-Err.is at c.write_absent.ensures.writes)

pub returns-in-Err-clause-crossed : goal.returns-in-Err-clause-crossed
returns-in-Err-clause-crossed g c =
    let here = takes_came c.args.plan.now c.args.at c.args.page.now c.spot_of-spot.result c.index-sub.result.now c.spot_of-spot.ensures c.requires.page.whole (sym c.is_some.ensures ∙ c.if-is_some.false) c.index-sub.ensures c.fetch_for-has_block.new.tap c.fetch_for-has_block.ensures.block _ c.block-block.ensures.bytes in
    let reply = write_reply (Err c.in-Err.refused) in
    let none = ap (λ bs. sealed_by c.args.plan.now (seals_by (g.S.Sealer.key c.args.sealer.now)) c.args.who c.args.at c.args.bytes.now bs (part_of_page c.args.page.now) reply) (sym here) ∙ (rw c.in-Err.is at c.write_absent.ensures.sealed) in
    subst (λ t. Crosses g.P.HostPort g.P.HostStore c.args.tap.now t (at_place (sub_of c.args.plan.now c.args.at) (came t)) (sealed_by c.args.plan.now (seals_by (g.S.Sealer.key c.args.sealer.now)) c.args.who c.args.at c.args.bytes.now (came t) (part_of_page c.args.page.now) reply)) (sym c.fail.ensures)
    (crosses-failed g.P.HostPort g.P.HostStore c.args.tap.now c.fetch_for-has_block.new.tap 0 _ _
    (crosses-as g.P.HostPort g.P.HostStore c.args.tap.now c.fetch_for-has_block.new.tap _ _ _ [] _ c.fetch_for-has_block.ensures.crossed c.spot_of-spot.ensures.place none))

pub returns-in-Err-clause-failed : goal.returns-in-Err-clause-failed
returns-in-Err-clause-failed g c =
    subst (λ t. failed_block t ≡ spoiled_by (access_refusal_reply c.in-Err.refused) (came t)) (sym c.fail.ensures)
    (names_came c.args.plan.now c.args.at c.args.page.now c.spot_of-spot.result c.index-sub.result.now c.spot_of-spot.ensures c.requires.page.whole (sym c.is_some.ensures ∙ c.if-is_some.false) c.index-sub.ensures c.fetch_for-has_block.new.tap c.fetch_for-has_block.ensures.block _ (access_refusal_reply c.in-Err.refused) (rw c.in-Err.is at c.write_absent.ensures.spoiled) (ap access_refusal_reply (rw c.in-Err.is at c.write_absent.ensures.tampered)))
