use Rattle.std.proofs.Common.{◌≡◌, ◌+◌, ◌*◌, ◌<◌, ◌∙◌, ℕ, List, [], length, sym, refl, ap, subst, arith, Some}
use Rattle.std.specs.Vec.{with_items}
use Rattle.eleos_core.specs.declared.cells.page.Present.{Present}
use Rattle.eleos_core.specs.Accesses.{with_bytes}
use Rattle.eleos_core.specs.Cells.{IsPresent, piece}
use Rattle.eleos_base.specs.Places.{all_frames}
use Rattle.eleos_core.proofs.Refills.{refill_is}
use Rattle.eleos_core.proofs.MachineAccesses.{any_seals}
use Rattle.eleos_core.proofs.PageAccesses.{IsPage-written}
use Rattle.eleos_core.proofs.Writing.{worn-found, write_goes, write_present, write_stopped}
use Rattle.eleos_core.proofs.accesses.writes.write_present.Goals as goal

pub returns-in-Some-clause-writes : goal.returns-in-Some-clause-writes
returns-in-Some-clause-writes c = λ x.
    let inside : c.spot_of-spot.result.index < length c.args.page.now.subs.items = (let whole = c.requires.page.whole in let in_page = c.spot_of-spot.ensures.in_page in omega arith) in
    (write_stopped c.args.plan.now x c.args.who c.args.at c.args.bytes.now c.args.page.now c.spot_of-spot.result c.index.result.now c.spot_of-spot.ensures inside c.index.ensures c.requires.range
    [] _ (sym c.in-Some.ensures) refl).on

pub returns-in-Some-clause-sealed : goal.returns-in-Some-clause-sealed
returns-in-Some-clause-sealed c = λ x.
    let inside : c.spot_of-spot.result.index < length c.args.page.now.subs.items = (let whole = c.requires.page.whole in let in_page = c.spot_of-spot.ensures.in_page in omega arith) in
    (write_stopped c.args.plan.now x c.args.who c.args.at c.args.bytes.now c.args.page.now c.spot_of-spot.result c.index.result.now c.spot_of-spot.ensures inside c.index.ensures c.requires.range
    [] _ (sym c.in-Some.ensures) refl).puts_are

pub returns-in-Some-present-clause-writes : goal.returns-in-Some-present-clause-writes
returns-in-Some-present-clause-writes c = λ x.
    let i : ℕ = c.spot_of-spot.result.index in
    let present : Present = c.in-Some-present.present in
    let bytes : List ℕ = c.put_at.new.bytes in
    let inside : i < length c.args.page.now.subs.items = (let whole = c.requires.page.whole in let in_page = c.spot_of-spot.ensures.in_page in omega arith) in
    let size : length present.bytes.items ≡ 4096 = (subst (IsPresent (all_frames c.args.plan.now)) c.in-Some-present.is c.requires.page.present).1 in
    let long : length bytes ≡ length present.bytes.items = c.put_at.auto.bytes ∙ ap length c.deref_mut.ensures.value in
    let kept : (with_items present.bytes bytes).items ≡ bytes = refill_is present.bytes bytes bytes refl long in
    let goes = write_goes c.args.plan.now x c.args.who c.args.at c.args.bytes.now c.args.page.now c.spot_of-spot.result c.index.result.now c.spot_of-spot.ensures inside c.index.ensures c.requires.range (sym c.in_default.ensures) in
    (write_present c.args.plan.now x c.args.who c.args.at c.args.bytes.now c.args.page.now c.spot_of-spot.result goes.0 c.spot_of-spot.ensures inside
    _ c.index_mut.result.now present bytes (Some (record { frame = present.frame; bytes = with_items present.bytes bytes })) _ c.index_mut.ensures.value goes.1 c.in-Some-present.is
    refl size c.spot_of-spot.ensures.in_page
    (subst (λ old. bytes ≡ with_bytes old (1024 * i + c.spot_of-spot.result.from) c.args.bytes.now) c.deref_mut.ensures.value c.put_at.ensures) refl (λ j. ap (piece j) kept) refl).on

pub returns-in-Some-present-clause-sealed : goal.returns-in-Some-present-clause-sealed
returns-in-Some-present-clause-sealed c = λ x.
    let i : ℕ = c.spot_of-spot.result.index in
    let present : Present = c.in-Some-present.present in
    let bytes : List ℕ = c.put_at.new.bytes in
    let inside : i < length c.args.page.now.subs.items = (let whole = c.requires.page.whole in let in_page = c.spot_of-spot.ensures.in_page in omega arith) in
    let size : length present.bytes.items ≡ 4096 = (subst (IsPresent (all_frames c.args.plan.now)) c.in-Some-present.is c.requires.page.present).1 in
    let long : length bytes ≡ length present.bytes.items = c.put_at.auto.bytes ∙ ap length c.deref_mut.ensures.value in
    let kept : (with_items present.bytes bytes).items ≡ bytes = refill_is present.bytes bytes bytes refl long in
    let goes = write_goes c.args.plan.now x c.args.who c.args.at c.args.bytes.now c.args.page.now c.spot_of-spot.result c.index.result.now c.spot_of-spot.ensures inside c.index.ensures c.requires.range (sym c.in_default.ensures) in
    (write_present c.args.plan.now x c.args.who c.args.at c.args.bytes.now c.args.page.now c.spot_of-spot.result goes.0 c.spot_of-spot.ensures inside
    _ c.index_mut.result.now present bytes (Some (record { frame = present.frame; bytes = with_items present.bytes bytes })) _ c.index_mut.ensures.value goes.1 c.in-Some-present.is
    refl size c.spot_of-spot.ensures.in_page
    (subst (λ old. bytes ≡ with_bytes old (1024 * i + c.spot_of-spot.result.from) c.args.bytes.now) c.deref_mut.ensures.value c.put_at.ensures) refl (λ j. ap (piece j) kept) refl).puts_are

pub returns-in-Some-present-clause-page : goal.returns-in-Some-present-clause-page
returns-in-Some-present-clause-page c =
    let i : ℕ = c.spot_of-spot.result.index in
    let present : Present = c.in-Some-present.present in
    let bytes : List ℕ = c.put_at.new.bytes in
    let inside : i < length c.args.page.now.subs.items = (let whole = c.requires.page.whole in let in_page = c.spot_of-spot.ensures.in_page in omega arith) in
    let long : length bytes ≡ length present.bytes.items = c.put_at.auto.bytes ∙ ap length c.deref_mut.ensures.value in
    let kept : (with_items present.bytes bytes).items ≡ bytes = refill_is present.bytes bytes bytes refl long in
    let goes = write_goes c.args.plan.now any_seals c.args.who c.args.at c.args.bytes.now c.args.page.now c.spot_of-spot.result c.index.result.now c.spot_of-spot.ensures inside c.index.ensures c.requires.range (sym c.in_default.ensures) in
    IsPage-written c.args.plan.now.wear (all_frames c.args.plan.now) c.args.page.now _ present (record { frame = present.frame; bytes = with_items present.bytes bytes }) i c.index_mut.result.now
    c.requires.page c.in-Some-present.is c.index_mut.ensures.value inside
    (sym (worn-found c.args.plan.now c.args.at c.args.page.now c.spot_of-spot.result c.index_mut.result.now c.spot_of-spot.ensures inside c.index_mut.ensures.value) ∙ goes.1)
    refl refl refl (ap length kept ∙ long)
